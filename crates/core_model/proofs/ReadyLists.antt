-- The two lists of ready contexts: what is taken, what is put in, and contexts by their bands.
use Rattle.std.proofs.Common.{◌≡◌, ℕ, ◌+◌, Bool, true, false, not, Some, if◌then◌else◌, List, [], ◌∷◌, ◌++◌, filter, All, length, length-append, refl, ap, subst, ◌∙◌, append_assoc, append-nil, arith}
use Rattle.std.specs.List.{count_by}
use Rattle.std.proofs.lemmas.List.Filters.{length-filter_both}
use Rattle.std.proofs.lemmas.List.Elements.{All-cons, All-head, All-tail, All-push, All-append, All-filter, filter-append}
use Rattle.hart_model.specs.Context.{ContextState}
use Rattle.core_model.specs.Board.{ReadyLists, Front, all_ready, goes_first, by_bands, front_of, with_ready}
use Rattle.core_model.proofs.Lists.{bit, some-is, count-append, count-push, count-split}

-- what is taken stood in front of all that is ready
pub front-is : (first second : List ContextState) (f : Front) → front_of first second ≡ Some f → first ++ second ≡ f.context ∷ all_ready f.left
front-is [] [] f e = absurd (cc e)
front-is [] (c ∷ cs) f e = ap (λ (g : Front). g.context ∷ all_ready g.left) (some-is e)
front-is (c ∷ cs) second f e = ap (λ (g : Front). g.context ∷ all_ready g.left) (some-is e)

-- a context at the back of the first list or of the second
abbrev pub in_list : Bool → ReadyLists → ContextState → ReadyLists
in_list b ready c = if b then record ready { first = ready.first ++ c ∷ [] } else record ready { second = ready.second ++ c ∷ [] }

-- counts
module _ (p : ContextState → Bool) where
  count_in : (b : Bool) (ready : ReadyLists) (c : ContextState) → count_by p (all_ready (in_list b ready c)) ≡ count_by p (all_ready ready) + bit (p c)
  count_in true ready c =
      let all = count-append p ready.first ready.second in
      let more = count-append p (ready.first ++ c ∷ []) ready.second in
      let one = count-push p ready.first c in
      omega arith
  count_in false ready c =
      let all = count-append p ready.first ready.second in
      let more = count-append p ready.first (ready.second ++ c ∷ []) in
      let one = count-push p ready.second c in
      omega arith

  pub count-ready : (bands : List ℕ) (ready : ReadyLists) (c : ContextState)
      → count_by p (all_ready (with_ready bands ready c)) ≡ count_by p (all_ready ready) + bit (p c)
  count-ready bands ready c = count_in (goes_first bands c) ready c

  pub count-bands : (bands : List ℕ) (contexts : List ContextState) → count_by p (all_ready (by_bands bands contexts)) ≡ count_by p contexts
  count-bands bands contexts =
      let both = count-append p (filter (goes_first bands) contexts) (filter (λ c. not (goes_first bands c)) contexts) in
      let split = count-split p (goes_first bands) contexts in
      omega arith

-- facts of all
module _ (P : ContextState → Type 0) where
  all_between : (first second : List ContextState) (c : ContextState) → All P (first ++ second) → P c → All P ((first ++ c ∷ []) ++ second)
  all_between [] second c all one = All-cons P c second one all
  all_between (x ∷ first) second c all one =
      All-cons P x ((first ++ c ∷ []) ++ second) (All-head P x (first ++ second) all) (all_between first second c (All-tail P x (first ++ second) all) one)

  all_in : (b : Bool) (ready : ReadyLists) (c : ContextState) → All P (all_ready ready) → P c → All P (all_ready (in_list b ready c))
  all_in true ready c all one = all_between ready.first ready.second c all one
  all_in false ready c all one =
      subst (All P) (append_assoc ready.first ready.second (c ∷ [])) (All-push P (ready.first ++ ready.second) c all one)

  pub all-ready : (bands : List ℕ) (ready : ReadyLists) (c : ContextState) → All P (all_ready ready) → P c → All P (all_ready (with_ready bands ready c))
  all-ready bands ready c all one = all_in (goes_first bands c) ready c all one

  pub all-bands : (bands : List ℕ) (contexts : List ContextState) → All P contexts → All P (all_ready (by_bands bands contexts))
  all-bands bands contexts all =
      All-append P (filter (goes_first bands) contexts) (filter (λ c. not (goes_first bands c)) contexts)
      (All-filter (goes_first bands) P contexts all) (All-filter (λ c. not (goes_first bands c)) P contexts all)

-- one context more, by its band
push_one : (bands : List ℕ) (contexts : List ContextState) (c : ContextState) (b : Bool) → goes_first bands c ≡ b
    → by_bands bands (contexts ++ c ∷ []) ≡ in_list b (by_bands bands contexts) c
push_one bands contexts c true is =
    let first = filter-append (goes_first bands) contexts (c ∷ []) in
    let second = filter-append (λ x. not (goes_first bands x)) contexts (c ∷ []) in
    rw (first, second, is) (ap (λ (xs : List ContextState). record { first = filter (goes_first bands) contexts ++ c ∷ []; second = xs })
    (append-nil (filter (λ x. not (goes_first bands x)) contexts)))
push_one bands contexts c false is =
    let first = filter-append (goes_first bands) contexts (c ∷ []) in
    let second = filter-append (λ x. not (goes_first bands x)) contexts (c ∷ []) in
    rw (first, second, is) (ap (λ (xs : List ContextState). record { first = xs; second = filter (λ x. not (goes_first bands x)) contexts ++ c ∷ [] })
    (append-nil (filter (goes_first bands) contexts)))

pub by_bands-push : (bands : List ℕ) (contexts : List ContextState) (c : ContextState)
    → by_bands bands (contexts ++ c ∷ []) ≡ with_ready bands (by_bands bands contexts) c
by_bands-push bands contexts c = push_one bands contexts c (goes_first bands c) refl

-- how many there are
pub length-all_ready : (bands : List ℕ) (contexts : List ContextState) → length (all_ready (by_bands bands contexts)) ≡ length contexts
length-all_ready bands contexts =
    length-append (filter (goes_first bands) contexts) (filter (λ c. not (goes_first bands c)) contexts)
    ∙ length-filter_both (goes_first bands) (λ c. not (goes_first bands c)) (λ c. refl) contexts

length_in : (b : Bool) (ready : ReadyLists) (c : ContextState) → length (all_ready (in_list b ready c)) ≡ length (all_ready ready) + 1
length_in true ready c =
    let all = length-append ready.first ready.second in
    let more = length-append (ready.first ++ c ∷ []) ready.second in
    let one = length-append ready.first (c ∷ []) in
    omega arith
length_in false ready c =
    let all = length-append ready.first ready.second in
    let more = length-append ready.first (ready.second ++ c ∷ []) in
    let one = length-append ready.second (c ∷ []) in
    omega arith

pub length-ready : (bands : List ℕ) (ready : ReadyLists) (c : ContextState) → length (all_ready (with_ready bands ready c)) ≡ length (all_ready ready) + 1
length-ready bands ready c = length_in (goes_first bands c) ready c
