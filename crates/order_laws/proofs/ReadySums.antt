-- The ready contexts of both bands: what is taken is one of them; and a number for each, added up, with one more, without the one that is
-- taken, and by bands.
use Rattle.std.proofs.Common.{◌≡◌, ℕ, ◌+◌, Bool, true, false, not, List, [], ◌∷◌, ◌++◌, filter, All, Some, refl, ap, ◌∙◌, subst, arith}
use Rattle.std.specs.List.{sum_by}
use Rattle.std.proofs.lemmas.List.Elements.{All-head}
use Rattle.std.proofs.lemmas.List.Filters.{sum_by-filter_both}
use Rattle.std.proofs.lemmas.List.Sums.{sum_by-append, sum_by-cons, sum_by_push}
use Rattle.isa_model.specs.declared.task.Task.{Task}
use Rattle.hart_model.specs.Context.{ContextState}
use Rattle.core_model.specs.Board.{ReadyLists, Front, all_ready, goes_first, by_bands, front_of, with_ready}
use Rattle.core_model.specs.Routines.{IsReadyContext}
use Rattle.core_model.proofs.ReadyLists.{front-is, in_list}

-- what is taken of ready contexts is ready
pub front-ready : (tasks : List Task) (ready : ReadyLists) → All (IsReadyContext tasks) (all_ready ready) → (f : Front)
    → front_of ready.first ready.second ≡ Some f → IsReadyContext tasks f.context
front-ready tasks ready all f is =
    All-head (IsReadyContext tasks) f.context (all_ready f.left)
    (subst (All (IsReadyContext tasks)) (front-is ready.first ready.second f is) all)

module _ (number_of : ContextState → ℕ) where
  abbrev pub ready_sum : ReadyLists → ℕ
  ready_sum ready = sum_by number_of (all_ready ready)

  sum-in : (b : Bool) (ready : ReadyLists) (c : ContextState) → ready_sum (in_list b ready c) ≡ ready_sum ready + number_of c
  sum-in true ready c =
      let all = sum_by-append number_of ready.first ready.second in
      let more = sum_by-append number_of (ready.first ++ c ∷ []) ready.second in
      let one = sum_by_push number_of ready.first c in
      omega (arith, all, more, one)
  sum-in false ready c =
      let all = sum_by-append number_of ready.first ready.second in
      let more = sum_by-append number_of ready.first (ready.second ++ c ∷ []) in
      let one = sum_by_push number_of ready.second c in
      omega (arith, all, more, one)

  pub sum-ready : (bands : List ℕ) (ready : ReadyLists) (c : ContextState) → ready_sum (with_ready bands ready c) ≡ ready_sum ready + number_of c
  sum-ready bands ready c = sum-in (goes_first bands c) ready c

  pub sum-front : (ready : ReadyLists) (f : Front) → front_of ready.first ready.second ≡ Some f
      → ready_sum ready ≡ number_of f.context + ready_sum f.left
  sum-front ready f is =
      ap (sum_by number_of) (front-is ready.first ready.second f is) ∙ sum_by-cons number_of f.context (all_ready f.left)

  pub sum-bands : (bands : List ℕ) (contexts : List ContextState) → ready_sum (by_bands bands contexts) ≡ sum_by number_of contexts
  sum-bands bands contexts =
      sum_by-append number_of (filter (goes_first bands) contexts) (filter (λ c. not (goes_first bands c)) contexts)
      ∙ sum_by-filter_both (goes_first bands) (λ c. not (goes_first bands c)) (λ c. refl) number_of contexts
