-- What holds of a hart that wants a queue action, in a core that is kept: the board may do it.
use Rattle.std.proofs.Common.{◌≡◌, ℕ, ◌≢◌, Bool, true, false, List, [], ◌∷◌, filter, slice_get, if◌then◌else◌, Some, None, IsSome, refl, sym, ap, ◌∙◌, subst}
use Rattle.std.specs.Prelude.{All, Contains}
use Rattle.std.proofs.lemmas.Bool.{eqb-false}
use Rattle.std.proofs.lemmas.List.Elements.{All-nil, All-cons, All-head, All-weaker, All-filter, All-contains_itself}
use Rattle.hart_model.specs.declared.calls.QueueCall.TheVariants.{Take, GiveReady, GiveDone}
use Rattle.hart_model.specs.Context.{ContextState, StandsForTask, IsScrubbed, task_of}
use Rattle.hart_model.specs.HartState.{HartState}
use Rattle.hart_model.specs.Writes.{CellWrite}
use Rattle.hart_model.specs.StepResult.{Wants}
use Rattle.hart_model.specs.HartStep.{hart_step}
use Rattle.core_model.specs.declared.loaded.Loaded.{Loaded}
use Rattle.core_model.specs.Board.{OutEntry, out_entry}
use Rattle.core_model.specs.Core.{CoreState}
use Rattle.core_model.specs.Soundness.{entries_held}
use Rattle.core_invariant.specs.KernelStates.{KernelParts}
use Rattle.core_invariant.specs.OneHart.{EachHart}
use Rattle.core_invariant.specs.Invariant.{IsCoreKept}
use Rattle.core_model.proofs.Counts.{on_hart}

-- none passes where a filter leaves nothing
none_passes : {X : Type 0} (p : X → Bool) (xs : List X) → filter p xs ≡ [] → All (λ x. p x ≡ false) xs
none_passes p [] e = All-nil _
none_passes {X} p (x ∷ xs) e = by_test (p x) refl e (none_passes p xs)
  where
    by_test : (test : Bool) → p x ≡ test → (if test then x ∷ filter p xs else filter p xs) ≡ [] → (filter p xs ≡ [] → All (λ y. p y ≡ false) xs)
        → All (λ y. p y ≡ false) (x ∷ xs)
    by_test true is empty rest = absurd (cc empty)
    by_test false is empty rest = All-cons (λ y. p y ≡ false) x xs is (rest empty)

-- what a filter leaves is in the list
filter_is_in : {X : Type 0} (p : X → Bool) (xs rest : List X) (x : X) → filter p xs ≡ x ∷ rest → Contains xs x
filter_is_in p xs rest x e =
    All-head (Contains xs) x rest (subst (All (Contains xs)) e (All-filter p (Contains xs) xs (All-contains_itself xs)))

-- A hart that wants to give a ready context.
pub record MayGiveReady (c : CoreState) (hart : ℕ) (h : HartState) : Type 0 where
  pub context : ContextState
  pub held : h.held ≡ Some context
  pub is_out : Contains c.board.out (out_entry hart context)
  pub no_end : context.end ≡ None
  pub stands : StandsForTask context (task_of context.body)

-- A hart that wants to give an ended context.
pub record MayGiveDone (c : CoreState) (hart : ℕ) (h : HartState) : Type 0 where
  pub context : ContextState
  pub held : h.held ≡ Some context
  pub is_out : Contains c.board.out (out_entry hart context)
  pub has_end : IsSome context.end
  pub scrubbed : IsScrubbed context

module _ (k : KernelParts) (loaded : Loaded) (one : EachHart loaded.tasks k) (c : CoreState) (kept : IsCoreKept k loaded c) where
  module _ (hart : ℕ) (h : HartState) (is : slice_get c.harts hart ≡ Some h) where
    -- A hart that holds nothing has nothing out.
    pub nothing-out : h.held ≡ None → All (λ (o : OutEntry). o.hart ≢ hart) c.board.out
    nothing-out holds =
        All-weaker (λ (o : OutEntry). on_hart hart o ≡ false) (λ (o : OutEntry). o.hart ≢ hart) (λ o away. eqb-false o.hart hart away) c.board.out
        (none_passes (on_hart hart) c.board.out (kept.out hart h is ∙ ap (entries_held hart) holds))

    -- What a hart holds is out on it.
    pub held-is-out : (context : ContextState) → h.held ≡ Some context → Contains c.board.out (out_entry hart context)
    held-is-out context holds = filter_is_in (on_hart hart) c.board.out [] (out_entry hart context) (kept.out hart h is ∙ ap (entries_held hart) holds)

    -- A hart that wants to take holds nothing, and nothing is out on it.
    pub may-take : (early_writes : List CellWrite) (rd next : ℕ) → hart_step k.code.words h ≡ Wants Take early_writes rd next
        → (h.held ≡ None) × All (λ (o : OutEntry). o.hart ≢ hart) c.board.out
    may-take early_writes rd next wants = let none = one.holds_none hart h early_writes rd next (kept.harts hart h is) wants in (none, nothing-out none)

    pub may-give-ready : (early_writes : List CellWrite) (rd next : ℕ) → hart_step k.code.words h ≡ Wants GiveReady early_writes rd next → MayGiveReady c hart h
    may-give-ready early_writes rd next wants =
        let gives = one.gives_ready hart h early_writes rd next (kept.harts hart h is) wants in
        record {
          context = gives.context;
          held = gives.held;
          is_out = held-is-out gives.context gives.held;
          no_end = gives.given.ready.no_end;
          stands = gives.given.ready.stands;
        }

    pub may-give-done : (early_writes : List CellWrite) (rd next : ℕ) → hart_step k.code.words h ≡ Wants GiveDone early_writes rd next → MayGiveDone c hart h
    may-give-done early_writes rd next wants =
        let gives = one.gives_done hart h early_writes rd next (kept.harts hart h is) wants in
        record {
          context = gives.context;
          held = gives.held;
          is_out = held-is-out gives.context gives.held;
          has_end = subst IsSome (sym gives.given.has_end) refl;
          scrubbed = gives.given.scrubbed;
        }
