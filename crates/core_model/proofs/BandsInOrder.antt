-- Ready contexts stand in the lists of their bands, and band 0 goes first.
use Rattle.std.proofs.Common.{◌≡◌, ℕ, Bool, true, false, not, List, [], ◌∷◌, ◌++◌, take, filter, All, Option, Some, None, refl, sym, ap, subst, ◌∙◌}
use Rattle.std.proofs.lemmas.List.Elements.{All-nil, All-cons, All-head, All-tail, All-push, filter_passes}
use Rattle.hart_model.specs.declared.tag.Cell.{Cell}
use Rattle.hart_model.specs.Context.{BodyState, ContextState, admit_of, done_of}
use Rattle.core_model.specs.Board.{BoardState, ReadyLists, Front, all_ready, goes_first, by_bands, contexts_from, with_action, out_without, take_from, with_ready, with_next_admitted, front_of}
use Rattle.core_model.specs.Bands.{AreInTheirBands, BandsGoInOrder}
use Rattle.core_model.proofs.Lists.{some-is}
use Rattle.core_model.proofs.ReadyLists.{in_list}

-- the contexts of two lists, by their bands
record AreListsOf (bands : List ℕ) (ready : ReadyLists) : Type 0 where
  first : All (λ (c : ContextState). goes_first bands c ≡ true) ready.first
  second : All (λ (c : ContextState). goes_first bands c ≡ false) ready.second

not-true : (b : Bool) → not b ≡ true → b ≡ false
not-true true e = sym e
not-true false e = refl

passes-not : (bands : List ℕ) (cs : List ContextState) → All (λ (c : ContextState). not (goes_first bands c) ≡ true) cs
    → All (λ (c : ContextState). goes_first bands c ≡ false) cs
passes-not bands [] all = All-nil (λ (c : ContextState). goes_first bands c ≡ false)
passes-not bands (c ∷ cs) all =
    let P : ContextState → Type 0 = λ (c : ContextState). not (goes_first bands c) ≡ true in
    All-cons (λ (c : ContextState). goes_first bands c ≡ false) c cs
    (not-true (goes_first bands c) (All-head P c cs all)) (passes-not bands cs (All-tail P c cs all))

by-bands : (bands : List ℕ) (cs : List ContextState) → AreListsOf bands (by_bands bands cs)
by-bands bands cs = record {
  first = filter_passes (goes_first bands) cs;
  second = passes-not bands (filter (λ (c : ContextState). not (goes_first bands c)) cs) (filter_passes (λ (c : ContextState). not (goes_first bands c)) cs);
}

-- one context more at the back of its band
pushed : (bands : List ℕ) (ready : ReadyLists) (c : ContextState) (b : Bool) → goes_first bands c ≡ b → AreListsOf bands ready
    → AreListsOf bands (in_list b ready c)
pushed bands ready c true is of = record { first = All-push (λ (c : ContextState). goes_first bands c ≡ true) ready.first c of.first is; second = of.second }
pushed bands ready c false is of = record { first = of.first; second = All-push (λ (c : ContextState). goes_first bands c ≡ false) ready.second c of.second is }

with-ready : (bands : List ℕ) (ready : ReadyLists) (c : ContextState) → AreListsOf bands ready → AreListsOf bands (with_ready bands ready c)
with-ready bands ready c of = pushed bands ready c (goes_first bands c) refl of

-- what is left where the front is gone
front-left : (bands : List ℕ) (first second : List ContextState) (f : Front) → front_of first second ≡ Some f
    → AreListsOf bands (record { first = first; second = second }) → AreListsOf bands f.left
front-left bands [] [] f e of = absurd (cc e)
front-left bands [] (c ∷ cs) f e of =
    subst (λ (g : Front). AreListsOf bands g.left) (some-is e)
    (record { first = of.first; second = All-tail (λ (c : ContextState). goes_first bands c ≡ false) c cs of.second })
front-left bands (c ∷ cs) second f e of =
    subst (λ (g : Front). AreListsOf bands g.left) (some-is e)
    (record { first = All-tail (λ (c : ContextState). goes_first bands c ≡ true) c cs of.first; second = of.second })

lists-of : (b : BoardState) → AreInTheirBands b → AreListsOf b.bands b.ready
lists-of b is = record { first = is.first; second = is.second }

after-take : (b : BoardState) (hart : ℕ) (front : Option Front) → front_of b.ready.first b.ready.second ≡ front → AreInTheirBands b
    → AreInTheirBands (take_from b hart front).board
after-take b hart None e is = record { first = is.first; second = is.second }
after-take b hart (Some f) e is =
    let left = front-left b.bands b.ready.first b.ready.second f e (lists-of b is) in
    record { first = left.first; second = left.second }

after-end : (b : BoardState) (slot : ℕ) (words : List Cell) (waiting : List BodyState) → AreInTheirBands b
    → AreInTheirBands (with_next_admitted b slot words waiting)
after-end b slot words [] is = is
after-end b slot words (next ∷ rest) is =
    let more = with-ready b.bands b.ready (admit_of next slot words) (lists-of b is) in
    record { first = more.first; second = more.second }

-- where a context of band 1 is at the front, no list has one of band 0
of-second : (bands : List ℕ) (first second : List ContextState) (c : ContextState) → AreListsOf bands (record { first = first; second = second })
    → (f : Front) → front_of first second ≡ Some f → goes_first bands f.context ≡ false → All (λ (other : ContextState). goes_first bands other ≡ false) (first ++ second)
of-second bands [] second c of f e is = of.second
of-second bands (x ∷ first) second c of f e is =
    let same : x ≡ f.context = ap (λ (g : Front). g.context) (some-is e) in
    let goes : goes_first bands x ≡ true = All-head (λ (c : ContextState). goes_first bands c ≡ true) x first of.first in
    let both : true ≡ false = sym goes ∙ ap (goes_first bands) same ∙ is in
    absurd (cc both)

all-second : (b : BoardState) (hart : ℕ) (c : ContextState) (front : Option Front) → front_of b.ready.first b.ready.second ≡ front → AreInTheirBands b
    → (take_from b hart front).got ≡ Some c → goes_first b.bands c ≡ false → All (λ (other : ContextState). goes_first b.bands other ≡ false) (all_ready b.ready)
all-second b hart c None e is got second = absurd (cc got)
all-second b hart c (Some f) e is got second =
    let same : f.context ≡ c = some-is got in
    of-second b.bands b.ready.first b.ready.second c (lists-of b is) f e (ap (goes_first b.bands) same ∙ second)

pub bands-go-in-order : BandsGoInOrder
bands-go-in-order = record {
  boot = λ slots bodies bands. let of = by-bands bands (contexts_from 0 (take slots bodies)) in record { first = of.first; second = of.second };
  takes = λ b hart is. after-take b hart (front_of b.ready.first b.ready.second) refl is;
  gives_ready = λ b hart c is. let of = with-ready b.bands b.ready c (lists-of b is) in record { first = of.first; second = of.second };
  gives_done = λ b hart c end is.
      after-end (record (with_action b hart) { out = out_without hart b.out; ended = b.ended ++ done_of c end ∷ [] }) c.slot c.words b.waiting
      (record { first = is.first; second = is.second });
  in_order = λ b hart c is got second. all-second b hart c (front_of b.ready.first b.ready.second) refl is got second;
}
