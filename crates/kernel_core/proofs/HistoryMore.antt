-- A core that is told one event more.
use Rattle.std.proofs.Common.{◌≡◌, ℕ, List, [], ◌++◌, length, slice_get, Option, Some, None, refl, sym, ap, subst, ◌∙◌, append-nil}
use Rattle.hart_model.specs.declared.probe.Probe.{Probe}
use Rattle.hart_model.specs.HartState.{HartState}
use Rattle.core_model.specs.declared.event.Event.{Event}
use Rattle.core_model.specs.declared.event.Event.TheVariants.{Go, Tick}
use Rattle.core_model.specs.Board.{BoardState}
use Rattle.core_model.specs.Core.{CoreState, CoreAndAction, event_result, after_event, after_go, after_tick, without_action}
use Rattle.core_invariant.specs.Invariant.{IsCoreKept}
use Rattle.core_invariant.proofs.Events.{core-more}
use Rattle.core_invariant.proofs.Composition.{kept-sound, events-kept}
use Rattle.core_invariant.proofs.CoreOutputs.{outputs-sound}
use Rattle.core_invariant.proofs.OneHome.{exact-homes}
use Rattle.order_laws.proofs.LegalOrders.{one}
use Rattle.probe_log.specs.Counts.{StandFor}
use Rattle.kernel_core.specs.Kernels.{IsWholeKernel}
use Rattle.kernel_core.specs.Running.{IsAfterEvent, core_of_run, event_on, entries_of}
use Rattle.kernel_core.specs.History.{History, CoreValue, IsCoreOf, IsSoundCore, given, core_of}

-- An event does the same whatever the log is, and its entries go to the end of the log.
pub record IsSameBut (log : List Probe) (a b : CoreAndAction) : Type 0 where
  pub board : a.core.board ≡ b.core.board
  pub harts : a.core.harts ≡ b.core.harts
  pub log_is : a.core.log ≡ log ++ b.core.log
  pub action_is : a.action ≡ b.action

module _ (code : List ℕ) (c : CoreState) where
  abbrev bare : CoreState
  bare = record c { log = [] }

  nothing-more : IsSameBut c.log (without_action c) (without_action bare)
  nothing-more = record { board = refl; harts = refl; log_is = sym (append-nil c.log); action_is = refl }

  go-same : (hart : ℕ) (h : Option HartState) → IsSameBut c.log (after_go code c hart h) (after_go code bare hart h)
  go-same hart None = nothing-more
  go-same hart (Some h) = record { board = refl; harts = refl; log_is = refl; action_is = refl }

  tick-same : (hart : ℕ) (h : Option HartState) → IsSameBut c.log (without_action (after_tick c hart h)) (without_action (after_tick bare hart h))
  tick-same hart None = nothing-more
  tick-same hart (Some h) = record { board = refl; harts = refl; log_is = sym (append-nil c.log); action_is = refl }

  pub event-same : (event : Event) → IsSameBut c.log (event_result code c event) (event_result code bare event)
  event-same (Go hart) = go-same hart (slice_get c.harts hart)
  event-same (Tick hart) = tick-same hart (slice_get c.harts hart)

-- A core that was told events, after one event more.
module _ {K : Type 0} (t : History) (event : Event) (c after : CoreValue K) (is : IsCoreOf t c) where
  -- the core that was told, as the run's
  as-run : record (core_of t) { log = [] } ≡ core_of_run c.run
  as-run = sym (ap (λ (b : BoardState). record { board = b; harts = c.run.harts; log = [] }) is.board ∙ ap (λ (hs : List HartState). record { board = (core_of t).board; harts = hs; log = [] }) is.harts)

  pub next-core : core_of (given t event) ≡ after_event t.kernel.code.words (core_of t) event
  next-core = core-more t.kernel.code.words _ t.events event

  event-is : event_result t.kernel.code.words (record (core_of t) { log = [] }) event ≡ event_on c.run event
  event-is =
      ap (λ (x : CoreState). event_result t.kernel.code.words x event) as-run
      ∙ ap (λ k. event_result k.code.words (core_of_run c.run) event) (sym is.kernel)

  -- its entries are at the end of the log, and it makes the action
  pub entries-told : (core_of t).log ++ entries_of c.run event ≡ (core_of (given t event)).log
  entries-told =
      ap (λ (x : CoreAndAction). (core_of t).log ++ x.core.log) (sym event-is)
      ∙ sym (event-same t.kernel.code.words (core_of t) event).log_is
      ∙ sym (ap (λ (x : CoreState). x.log) next-core)

  pub action-told : (event_on c.run event).action ≡ (event_result t.kernel.code.words (core_of t) event).action
  action-told = ap (λ (x : CoreAndAction). x.action) (sym event-is) ∙ sym (event-same t.kernel.code.words (core_of t) event).action_is

  pub told-more : IsAfterEvent c.run after.run event → after.tasks ≡ c.tasks
      → ((log : List Probe) → StandFor c.log.tally log → StandFor after.log.tally (log ++ entries_of c.run event)) → IsCoreOf (given t event) after
  told-more run tasks logs =
      let same = event-same t.kernel.code.words (core_of t) event in
      let B : CoreState → BoardState = λ x. x.board in
      let H : CoreState → List HartState = λ x. x.harts in
      let L : List Probe → Type 0 = λ log. StandFor after.log.tally log in
      record {
        within = is.within;
        is_kernel = is.is_kernel;
        start = is.start;
        rests = is.rests;
        bands = is.bands;
        kernel = run.kernel ∙ is.kernel;
        tasks = tasks ∙ is.tasks;
        board = run.board ∙ sym (ap (λ (x : CoreAndAction). x.core.board) event-is) ∙ sym same.board ∙ sym (ap B next-core);
        harts = run.harts ∙ sym (ap (λ (x : CoreAndAction). x.core.harts) event-is) ∙ sym same.harts ∙ sym (ap H next-core);
        counts = subst L entries-told (logs (core_of t).log is.counts);
      }

-- It is kept, whatever it was told.
pub kept-so : (t : History) → IsWholeKernel t.kernel → IsCoreKept t.kernel t.loaded t.start → IsCoreKept t.kernel t.loaded (core_of t)
kept-so t is_kernel start = events-kept t.kernel t.loaded (one t.kernel is_kernel.kernel t.loaded) t.start start t.events

-- So it is sound.
pub sound-so : (t : History) → IsWholeKernel t.kernel → IsCoreKept t.kernel t.loaded t.start → IsSoundCore t
sound-so t is_kernel start =
    let each = one t.kernel is_kernel.kernel t.loaded in
    let kept = kept-so t is_kernel start in
    record {
      sound = kept-sound t.kernel t.loaded each (core_of t) kept;
      homes = exact-homes (length t.loaded.tasks) (core_of t).board kept.homes;
      outputs = outputs-sound t.kernel t.loaded (core_of t) kept;
      unwedged = λ i h is. each.never_wedged i h (kept.harts i h is);
    }
