-- Coarse runs of loaded bundles: kept from boot on along every legal order, each entry of which makes an action.
use Rattle.std.proofs.Common.{◌≡◌, ℕ, zero, suc, ◌+◌, ◌-◌, ◌*◌, ◌≤◌, inl, List, [], ◌∷◌, ◌++◌, length, take, replicate, slice_get, get_or, Some, refl, sym, ap, ◌∙◌, subst, arith, append-nil, append_assoc, length-append}
use Rattle.std.specs.List.{sum_by}
use Rattle.std.proofs.lemmas.List.{length-replicate}
use Rattle.std.proofs.lemmas.Option.{slice_get_within, get_or_from_slice_get}
use Rattle.std.proofs.lemmas.List.Sums.{sum_by-cons, sum_by-take-drop}
use Rattle.isa_model.specs.declared.task.Task.{Task}
use Rattle.hart_model.specs.Context.{fresh_body, fresh_words, admit_of}
use Rattle.hart_model.specs.HartState.{HartState, boot_hart}
use Rattle.hart_model.specs.HartStep.{hart_step}
use Rattle.core_model.specs.declared.plan.Plan.{Plan}
use Rattle.core_model.specs.declared.loaded.Loaded.{Loaded}
use Rattle.core_model.specs.Board.{contexts_from}
use Rattle.core_model.specs.Core.{CoreState, CoreAndAction, bodies_from, harts_from, boot_core}
use Rattle.core_model.specs.KernelWords.{KernelCodeState}
use Rattle.core_model.specs.Loaded.{IsLoaded, IsWithinLimits, IsPlanWithinLimits, action_bound_of}
use Rattle.core_model.specs.Orders.{CoarseState, boot_pace, boot_coarse, plan_at, max_steps, after_entry, IsLegalEntry, IsLegalFrom}
use Rattle.core_model.proofs.Lists.{some-is}
use Rattle.symbolic_run.proofs.StepsTaken.{steps-taken}
use Rattle.symbolic_run.proofs.Paths.{paths-lead}
use Rattle.core_invariant.specs.KernelStates.{KernelParts, IsKernel, middle_at, take_index}
use Rattle.core_invariant.specs.Invariant.{IsCoreKept}
use Rattle.core_invariant.specs.OneHart.{EachHart}
use Rattle.core_invariant.proofs.AtStart.{boot-empty}
use Rattle.core_invariant.proofs.Boot.{boot-kept}
use Rattle.core_invariant.proofs.EachHart.{each-hart}
use Rattle.core_invariant.proofs.FewEntries.{step_few, hart_step_few}
use Rattle.order_laws.specs.CoarseRuns.{coarse_from, HartShare, IsShareOf}
use Rattle.order_laws.specs.OwnSteps.{own_steps, acted}
use Rattle.order_laws.specs.CoarseInvariant.{IsFree, IsCoarseKept}
use Rattle.order_laws.specs.EachTurn.{turn_steps, EachTurn}
use Rattle.order_laws.specs.Potential.{waiting_potential, ready_potential, hart_potential, harts_potential, potential_of}
use Rattle.order_laws.specs.Laws.{CoarseRunsAreKept, Acts, EachEntryActs, EntriesAreFew, BoardsTellOrders, EntriesLowerThePotential, LegalOrdersAreBounded, ComesToAction, HartsComeToActions}
use Rattle.order_laws.proofs.Named.{step-named}
use Rattle.order_laws.proofs.OneEvent.{entry_of, step-changes}
use Rattle.order_laws.proofs.ReadySums.{sum-bands}
use Rattle.order_laws.proofs.AsEvents.{coarse-states}
use Rattle.order_laws.proofs.Shares.{numbered}
use Rattle.order_laws.proofs.FewSteps.{own-few, steps-few}
use Rattle.order_laws.proofs.EachTurn.{each-turn}
use Rattle.order_laws.proofs.Entries.{GoesOn, share-goes-on, entry-goes-on, ItsAction, its-turn, own-by-plan, entry-steps, entry-is, at_action, action-kept, at-hart, acts}
use Rattle.order_laws.proofs.Bound.{entry-lowers, legal-bound, order-keeps}

-- AT BOOT: a task at its start counts as much ready as waiting, so the potential is the bound
waiting-sum : (first : ℕ) (tasks : List Task)
    → sum_by waiting_potential (bodies_from first tasks) ≡ 2 * (sum_by (λ (task : Task). task.fuel) tasks + length tasks)
waiting-sum first [] = refl
waiting-sum first (task ∷ tasks) =
    let more = waiting-sum (first + 1) tasks in
    let bodies = sum_by-cons waiting_potential (fresh_body first task) (bodies_from (first + 1) tasks) in
    let fuels = sum_by-cons (λ (x : Task). x.fuel) task tasks in
    omega (arith, more, bodies, fuels)

ready-sum : (first slot : ℕ) (tasks : List Task) (count : ℕ)
    → sum_by ready_potential (contexts_from slot (take count (bodies_from first tasks)))
    ≡ sum_by waiting_potential (take count (bodies_from first tasks))
ready-sum first slot [] count = empty count
  where
    empty : (n : ℕ) → sum_by ready_potential (contexts_from slot (take n [])) ≡ sum_by waiting_potential (take n [])
    empty zero = refl
    empty (suc n) = refl
ready-sum first slot (task ∷ tasks) zero = refl
ready-sum first slot (task ∷ tasks) (suc count) =
    let more = ready-sum (first + 1) (slot + 1) tasks count in
    let ready = sum_by-cons ready_potential (admit_of (fresh_body first task) slot fresh_words)
    (contexts_from (slot + 1) (take count (bodies_from (first + 1) tasks))) in
    let waiting = sum_by-cons waiting_potential (fresh_body first task) (take count (bodies_from (first + 1) tasks)) in
    omega (arith, more, ready, waiting)

harts-sum : (plans : List Plan) (first take : ℕ) → harts_potential plans (replicate (length plans) boot_pace) (harts_from first (length plans) take)
    ≡ 2 * sum_by (λ (plan : Plan). length plan.quanta) plans + length plans
harts-sum [] first take = refl
harts-sum (plan ∷ plans) first take =
    let more = harts-sum plans (first + 1) take in
    let quanta = sum_by-cons (λ (p : Plan). length p.quanta) plan plans in
    let here : hart_potential plan boot_pace (boot_hart first take) ≡ 2 * (length plan.quanta - 0) + 1 + 0 = refl in
    omega (arith, more, quanta, here)

pub boot-potential : (loaded : Loaded) (kernel : KernelCodeState) → IsWithinLimits loaded
    → potential_of loaded.plans (boot_coarse loaded kernel) ≡ action_bound_of loaded
boot-potential loaded kernel limits =
    let each = limits.plan_each in
    let harts : harts_potential loaded.plans (replicate loaded.harts boot_pace) (harts_from 0 loaded.harts kernel.take)
    ≡ harts_potential loaded.plans (replicate (length loaded.plans) boot_pace) (harts_from 0 (length loaded.plans) kernel.take) =
    ap (λ n. harts_potential loaded.plans (replicate n boot_pace) (harts_from 0 n kernel.take)) (sym each) in
    let plans = harts-sum loaded.plans 0 kernel.take in
    let waiting = waiting-sum 0 loaded.tasks in
    let ready = ready-sum 0 0 loaded.tasks loaded.slots in
    let bands = sum-bands ready_potential loaded.bands (contexts_from 0 (take loaded.slots (bodies_from 0 loaded.tasks))) in
    let split = sum_by-take-drop waiting_potential (bodies_from 0 loaded.tasks) loaded.slots in
    omega (arith, each, harts, plans, waiting, ready, bands, split)

-- EVERY KERNEL: what each of its harts does, by itself and from one action to the next
module _ (k : KernelParts) (kernel : IsKernel k) (loaded : Loaded) where
  pub one : EachHart loaded.tasks k
  one = each-hart k kernel (paths-lead steps-taken) loaded.tasks

  module _ (limits : IsWithinLimits loaded) where
    pub turns : (number : ℕ) (plan : Plan) → slice_get loaded.plans number ≡ Some plan → EachTurn loaded.tasks k plan number
    turns number plan is =
        let low = slice_get_within loaded.plans number plan is in
        let within = limits.plans number plan low in
        each-turn loaded.tasks k kernel number plan (subst IsPlanWithinLimits (get_or_from_slice_get loaded.plans number plan plan is) within)

  -- A HART THAT GOES ON, AND COMES TO ITS ACTION, makes few entries until then,
  module _ (co : CoarseState) (kept : IsCoreKept k loaded co.core) (hart : ℕ) (g : GoesOn loaded co hart) (a : ItsAction k loaded co hart g) where
    few-probes : length a.at.probes + 8 ≤ 30000
    few-probes = let few = own-few k.code.words g.plan g.pace hart turn_steps g.state a.at a.own in omega (arith, few)

    -- and leaves this core.
    abbrev r : CoreAndAction
    r = acted k.code.words co.core hart a.at

    same-core : (after_entry k.code.words loaded.plans co hart).core ≡ r.core
    same-core = ap (λ (x : CoarseState). x.core) (entry-is k loaded one co kept hart g a)

    pub log-grows : length (after_entry k.code.words loaded.plans co hart).core.log ≤ length co.core.log + 30000
    log-grows =
        let action = step_few (at_action k loaded one co kept hart g a) hart a.at.hart (hart_step k.code.words a.at.hart)
        (hart_step_few k.code.words a.at.hart) in
        let own = length-append co.core.log a.at.probes in
        let few = few-probes in
        let same = ap (λ (c : CoreState). length c.log) same-core in
        omega (arith, same, action, own, few)

    pub does-act : Acts k.code.words loaded.plans co hart
    does-act =
        let at = at_action k loaded one co kept hart g a in
        let does = acts k loaded one co kept hart g a in
        let number = numbered k loaded one at (action-kept k loaded one co kept hart g a) hart a.at.hart
        (at-hart k loaded one co kept hart g a) in
        let changes = step-changes hart at a.at.hart (hart_step k.code.words a.at.hart) number (step-named hart k.code.words a.at.hart number) in
        let steps = entry-steps k loaded one co kept hart g a in
        record {
          action = does.0;
          acts = ap (λ s. s.action) steps ∙ does.1;
          steps = steps-few k.code.words (plan_at loaded.plans hart) (get_or co.paces hart boot_pace) hart max_steps co.core;
          order = ap (λ (c : CoreState). c.board.order) same-core
              ∙ changes.order
              ∙ ap (λ action. co.core.board.order ++ entry_of hart action) does.1;
        }

    pub comes-so : (s : HartShare) → IsShareOf co hart s → ComesToAction k.code.words loaded.plans co hart s
    comes-so s is = record {
      at = a.at;
      own = subst (λ p. own_steps k.code.words (plan_at loaded.plans hart) p hart max_steps s.hart ≡ Some a.at) (some-is (sym g.is_pace ∙ is.pace))
          (subst (λ h. own_steps k.code.words (plan_at loaded.plans hart) g.pace hart max_steps h ≡ Some a.at) (some-is (sym g.is_hart ∙ is.hart))
          (own-by-plan k loaded one co kept hart g a));
      entry = entry-steps k loaded one co kept hart g a;
      few = few-probes;
    }

  entry-acts : (limits : IsWithinLimits loaded) (co : CoarseState) → IsCoarseKept k loaded co → (hart : ℕ) → IsLegalEntry co hart
      → Acts k.code.words loaded.plans co hart
  entry-acts limits co kept hart legal =
      let g = entry-goes-on k loaded limits.plan_each co kept.core kept.paces hart legal in
      does-act co kept.core hart g (its-turn k loaded (turns limits) co kept hart g).action

  -- FROM BOOT: a hart is at the take
  boot-hart-at : (first count i : ℕ) (h : HartState) → slice_get (harts_from first count k.code.take) i ≡ Some h
      → boot_hart (first + i) k.code.take ≡ h
  boot-hart-at first zero i h is = absurd (cc is)
  boot-hart-at first (suc count) zero h is = let same : first + 0 ≡ first = omega arith in ap (λ n. boot_hart n k.code.take) same ∙ cc is
  boot-hart-at first (suc count) (suc i) h is =
      let same : first + suc i ≡ first + 1 + i = omega arith in ap (λ n. boot_hart n k.code.take) same ∙ boot-hart-at (first + 1) count i h is

  boots-free : (number : ℕ) (h : HartState) → slice_get (boot_core loaded k.code).harts number ≡ Some h → IsFree loaded.tasks k number h
  boots-free number h is =
      let same : 0 + number ≡ number = omega arith in
      let boot : boot_hart number k.code.take ≡ h = ap (λ n. boot_hart n k.code.take) (sym same) ∙ boot-hart-at 0 loaded.harts number h is in
      let at : k.code.take ≡ middle_at k + 4 * take_index = kernel.linked.take in
      let P : HartState → Type 0 = λ g. IsFree loaded.tasks k number g in
      let Q : ℕ → Type 0 = λ take. IsFree loaded.tasks k number (boot_hart number take) in
      subst P boot (subst Q (sym at) (inl (boot-empty loaded.tasks number (middle_at k + 4 * take_index))))

  module _ (fits : IsLoaded loaded) where
    pub boots : IsCoarseKept k loaded (boot_coarse loaded k.code)
    boots = record {
      core = boot-kept k loaded fits one;
      paces = length-replicate loaded.harts boot_pace;
      harts = λ number pace h pace_is hart_is goes_on. inl (boots-free number h hart_is);
    }

    -- the order of the board along an order
    order-from : (order : List ℕ) (co : CoarseState) → IsCoarseKept k loaded co → IsLegalFrom k.code.words loaded.plans co order
        → (coarse_from k.code.words loaded.plans co order).core.board.order ≡ co.core.board.order ++ order
    unfolding IsLegalFrom coarse_from
    order-from [] co kept legal = sym (append-nil co.core.board.order)
    order-from (hart ∷ order) co kept legal =
        let does = entry-acts fits.limits co kept hart legal.0 in
        let next = entry-lowers k loaded one fits.limits.plan_each (turns fits.limits) co kept hart legal.0 in
        order-from order (after_entry k.code.words loaded.plans co hart) next.kept legal.1
        ∙ ap (λ before. before ++ order) does.order
        ∙ append_assoc co.core.board.order (hart ∷ []) order

-- THE LAWS
pub coarse-kept : CoarseRunsAreKept
coarse-kept = record {
  boots = λ k kernel loaded fits. boots k kernel loaded fits;
  orders = λ k kernel loaded limits co kept order legal.
      order-keeps k loaded (one k kernel loaded) limits.plan_each (turns k kernel loaded limits) order co kept legal;
}

pub entries-act : EachEntryActs
entries-act k kernel loaded limits co kept hart legal = entry-acts k kernel loaded limits co kept hart legal

pub entries-few : EntriesAreFew
entries-few k kernel loaded limits co kept hart legal =
    let g = entry-goes-on k loaded limits.plan_each co kept.core kept.paces hart legal in
    log-grows k kernel loaded co kept.core hart g (its-turn k loaded (turns k kernel loaded limits) co kept hart g).action

pub boards-tell : BoardsTellOrders
boards-tell k kernel loaded fits order legal =
    ap (λ (c : CoreState). c.board.order) (sym (coarse-states loaded k.code order))
    ∙ order-from k kernel loaded fits order (boot_coarse loaded k.code) (boots k kernel loaded fits) legal

pub entries-lower : EntriesLowerThePotential
entries-lower = record {
  boots = boot-potential;
  entries = λ k kernel loaded limits co kept hart legal.
      (let lower = entry-lowers k loaded (one k kernel loaded) limits.plan_each (turns k kernel loaded limits) co kept hart legal in
      let pays = lower.pays in
      omega (arith, pays));
  orders = λ k kernel loaded limits co kept order legal.
      legal-bound k loaded (one k kernel loaded) limits.plan_each (turns k kernel loaded limits) order co kept legal;
}

pub legal-orders : LegalOrdersAreBounded
legal-orders k kernel loaded fits order legal =
    let low = entries-lower.orders k kernel loaded fits.limits (boot_coarse loaded k.code) (boots k kernel loaded fits) order legal in
    let at_boot = boot-potential loaded k.code fits.limits in
    omega (arith, low, at_boot)

pub harts-come : HartsComeToActions
harts-come k kernel loaded limits co kept number s is goes_on =
    let g = share-goes-on k loaded limits.plan_each co kept.core kept.paces number s is goes_on in
    comes-so k kernel loaded co kept.core number g (its-turn k loaded (turns k kernel loaded limits) co kept number g).action s is
