-- What is found in one list after another.
use Rattle.std.proofs.Common.{◌≡◌, Bool, List, [], ◌∷◌, ◌++◌, find, All, Option, Some, None, sym, ap, ◌∙◌}
use Rattle.std.specs.Option.{option_or}
use Rattle.std.proofs.lemmas.List.Elements.{All-nil, All-cons, All-head, All-tail}
use Rattle.std.proofs.lemmas.List.Folds.{find-append}

pub found-first : {X : Type 0} (p : X → Bool) (xs ys : List X) (x : X) → Some x ≡ find p xs → Some x ≡ find p (xs ++ ys)
found-first p xs ys x e = sym (find-append p xs ys ∙ ap (λ o. option_or o (find p ys)) (sym e))

pub found-second : {X : Type 0} (p : X → Bool) (xs ys : List X) (o : Option X) → None ≡ find p xs → o ≡ find p ys → o ≡ find p (xs ++ ys)
found-second p xs ys o none e = e ∙ sym (find-append p xs ys ∙ ap (λ o. option_or o (find p ys)) (sym none))

pub all-front : {X : Type 0} (P : X → Type 0) (xs ys : List X) → All P (xs ++ ys) → All P xs
all-front P [] ys all = All-nil P
all-front P (x ∷ xs) ys all = All-cons P x xs (All-head P x (xs ++ ys) all) (all-front P xs ys (All-tail P x (xs ++ ys) all))

pub all-back : {X : Type 0} (P : X → Type 0) (xs ys : List X) → All P (xs ++ ys) → All P ys
all-back P [] ys all = all
all-back P (x ∷ xs) ys all = all-back P xs ys (All-tail P x (xs ++ ys) all)
