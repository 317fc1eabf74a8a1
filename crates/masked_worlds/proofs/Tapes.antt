-- Each tape stands in the list of tapes once, and nothing else stands there.
use Rattle.std.proofs.Common.{◌≡◌, ℕ, zero, suc, ◌+◌, ◌*◌, ◌^◌, ◌<◌, ◌==◌, eqb-true, eq-eqb, Bool, true, false, ◌&&◌, List, [], ◌∷◌, map, length, All, refl, ap, sym, ◌∙◌, arith, true≢false, lt-ltb}
use Rattle.std.specs.Prelude.{nat_lt, if◌then◌else◌}
use Rattle.std.specs.List.{count_by}
use Rattle.std.proofs.lemmas.Bool.{and_from, and_parts}
use Rattle.std.proofs.lemmas.List.Elements.{All-nil, All-cons, All-head, All-tail, All-append, All-map, All-weaker}
use Rattle.core_model.proofs.Lists.{bit, count-cons, count-append}
use Rattle.probing_laws.proofs.Counts.{IsEquality, count-map}
use Rattle.masked_worlds.specs.declared.role.Role.{Role}
use Rattle.masked_worlds.specs.Tapes.{below, is_free, choices, each, tapes, is_choice, is_tape, same_words, often, TapesComeOnce}

words-self : (xs : List ℕ) → same_words xs xs ≡ true
words-self [] = refl
words-self (x ∷ xs) = and_from (x == x) (same_words xs xs) (eq-eqb x x refl) (words-self xs)

words-only : (xs ys : List ℕ) → same_words xs ys ≡ true → xs ≡ ys
words-only [] [] is = refl
words-only [] (y ∷ ys) is = absurd (true≢false (sym is))
words-only (x ∷ xs) [] is = absurd (true≢false (sym is))
words-only (x ∷ xs) (y ∷ ys) is =
    let parts = and_parts (x == y) (same_words xs ys) is in
    let first : x ≡ y = eqb-true x y parts.0 in
    let rest : xs ≡ ys = words-only xs ys parts.1 in
    λ i. first i ∷ rest i

pub words-equal : IsEquality same_words
words-equal = record { self = words-self; only = words-only }

-- Two tests with one meaning are one.
pub one-test : (a b : Bool) → (a ≡ true → b ≡ true) → (b ≡ true → a ≡ true) → a ≡ b
one-test true true to from = refl
one-test true false to from = sym (to refl)
one-test false true to from = from refl
one-test false false to from = refl

-- a number stands among those below a bound once, if it is below it
once_below : (bound z : ℕ) → count_by (λ y. y == z) (below bound) ≡ bit (nat_lt z bound)
unfolding below
once_below zero z = none z
  where
    none : (z : ℕ) → 0 ≡ bit (nat_lt z 0)
    none z = grind arith
once_below (suc n) z = count-cons (λ (y : ℕ). y == z) n (below n) ∙ ap (λ (m : ℕ). bit (n == z) + m) (once_below n z) ∙ last n z
  where
    last : (n z : ℕ) → bit (n == z) + bit (nat_lt z n) ≡ bit (nat_lt z (suc n))
    last n z = grind arith

-- how often a tape stands among those that begin with one word
front_once : (v y : ℕ) (zs : List ℕ) (rests : List (List ℕ)) (b : Bool) → (v == y) ≡ b
    → count_by (λ rest. same_words (v ∷ rest) (y ∷ zs)) rests ≡ bit b * count_by (λ rest. same_words rest zs) rests
front_once v y zs [] b is = grind arith
front_once v y zs (rest ∷ rests) b is =
    let here = count-cons (λ (r : List ℕ). same_words (v ∷ r) (y ∷ zs)) rest rests in
    let there = count-cons (λ (r : List ℕ). same_words r zs) rest rests in
    let others = front_once v y zs rests b is in
    both b is here there others
  where
    both : (b : Bool) → (v == y) ≡ b
        → count_by (λ r. same_words (v ∷ r) (y ∷ zs)) (rest ∷ rests) ≡ bit (same_words (v ∷ rest) (y ∷ zs)) + count_by (λ r. same_words (v ∷ r) (y ∷ zs)) rests
        → count_by (λ r. same_words r zs) (rest ∷ rests) ≡ bit (same_words rest zs) + count_by (λ r. same_words r zs) rests
        → count_by (λ r. same_words (v ∷ r) (y ∷ zs)) rests ≡ bit b * count_by (λ r. same_words r zs) rests
        → count_by (λ r. same_words (v ∷ r) (y ∷ zs)) (rest ∷ rests) ≡ bit b * count_by (λ r. same_words r zs) (rest ∷ rests)
    both true is here there others =
        let same : bit (same_words (v ∷ rest) (y ∷ zs)) ≡ bit (same_words rest zs) = ap (λ (c : Bool). bit (c && same_words rest zs)) is in
        omega (arith, here, there, others, same)
    both false is here there others =
        let same : bit (same_words (v ∷ rest) (y ∷ zs)) ≡ 0 = ap (λ (c : Bool). bit (c && same_words rest zs)) is in
        omega (arith, here, others, same)

each_often : (y : ℕ) (zs : List ℕ) (vs : List ℕ) (rests : List (List ℕ))
    → often (y ∷ zs) (each vs rests) ≡ count_by (λ v. v == y) vs * often zs rests
each_often y zs [] rests = no_product (often zs rests)
  where
    no_product : (c : ℕ) → 0 ≡ 0 * c
    no_product c = omega arith
each_often y zs (v ∷ vs) rests =
    let test : List ℕ → Bool = λ t. same_words t (y ∷ zs) in
    let cut = count-append test (map (λ (rest : List ℕ). v ∷ rest) rests) (each vs rests) in
    let front = count-map test (λ (rest : List ℕ). v ∷ rest) rests ∙ front_once v y zs rests (v == y) refl in
    let others = each_often y zs vs rests in
    let counted = count-cons (λ (w : ℕ). w == y) v vs in
    cut ∙ ap (λ (n : ℕ). n + count_by test (each vs rests)) front ∙ ap (λ (n : ℕ). bit (v == y) * often zs rests + n) others
    ∙ added (bit (v == y)) (count_by (λ (w : ℕ). w == y) vs) (often zs rests)
    ∙ ap (λ (n : ℕ). n * often zs rests) (sym counted)
  where
    added : (a b c : ℕ) → a * c + b * c ≡ (a + b) * c
    added a b c = grind arith

pub none-passes : {X : Type 0} (xs : List X) → count_by (λ (x : X). false) xs ≡ 0
none-passes [] = refl
none-passes {X} (x ∷ xs) =
    let one = count-cons (λ (y : X). false) x xs in
    let others = none-passes xs in
    let nothing : bit false ≡ 0 = refl in
    omega (arith, one, others, nothing)

-- no tape is empty
each_none : (vs : List ℕ) (rests : List (List ℕ)) → often [] (each vs rests) ≡ 0
each_none [] rests = refl
each_none (v ∷ vs) rests =
    let cut = count-append (λ t. same_words t []) (map (λ (rest : List ℕ). v ∷ rest) rests) (each vs rests) in
    let front = count-map (λ t. same_words t []) (λ (rest : List ℕ). v ∷ rest) rests ∙ none-passes rests in
    let others = each_none vs rests in
    omega (arith, cut, front, others)

choice_once : (role : Role) (word y : ℕ) → count_by (λ v. v == y) (choices role word) ≡ bit (is_choice role word y)
choice_once role word y = go (is_free role)
  where
    turned : (a b : ℕ) → (a == b) ≡ (b == a)
    turned a b = one-test (a == b) (b == a) (λ e. eq-eqb b a (sym (eqb-true a b e))) (λ e. eq-eqb a b (sym (eqb-true b a e)))

    plus_zero : (n : ℕ) → n + 0 ≡ n
    plus_zero n = omega arith

    go : (free : Bool) → count_by (λ v. v == y) (if free then below (2 ^ 32) else word ∷ []) ≡ bit (if free then nat_lt y (2 ^ 32) else y == word)
    go true = once_below (2 ^ 32) y
    go false = count-cons (λ (v : ℕ). v == y) word [] ∙ ap (λ (b : Bool). bit b + 0) (turned word y) ∙ plus_zero (bit (y == word))

both_bits : (a b : Bool) → bit a * bit b ≡ bit (a && b)
both_bits true true = refl
both_bits true false = refl
both_bits false b = no_product (bit b)
  where
    no_product : (c : ℕ) → 0 * c ≡ 0
    no_product c = omega arith

pub tape-often : (roles : List Role) (words z : List ℕ) → often z (tapes roles words) ≡ bit (is_tape roles words z)
tape-often [] words [] = refl
tape-often [] words (v ∷ vs) = refl
tape-often (r ∷ rs) [] [] = refl
tape-often (r ∷ rs) [] (v ∷ vs) = refl
tape-often (r ∷ rs) (w ∷ ws) [] = each_none (choices r w) (tapes rs ws)
tape-often (r ∷ rs) (w ∷ ws) (v ∷ vs) =
    each_often v vs (choices r w) (tapes rs ws)
    ∙ ap (λ (n : ℕ). n * often vs (tapes rs ws)) (choice_once r w v)
    ∙ ap (λ (n : ℕ). bit (is_choice r w v) * n) (tape-often rs ws vs)
    ∙ both_bits (is_choice r w v) (is_tape rs ws vs)

pub tapes-once : (roles : List Role) (words : List ℕ) → TapesComeOnce roles words
tapes-once roles words = record {
  once = λ t is. tape-often roles words t ∙ ap bit is;
  no_others = λ t not. tape-often roles words t ∙ ap bit not;
}

-- All that stand in the list are tapes.
all_below : (bound n : ℕ) → n < suc bound → All (λ v. nat_lt v bound ≡ true) (below n)
unfolding below
all_below bound zero low = All-nil (λ (v : ℕ). nat_lt v bound ≡ true)
all_below bound (suc n) low =
    All-cons (λ (v : ℕ). nat_lt v bound ≡ true) n (below n) (lt-ltb n bound (omega (arith, low))) (all_below bound n (omega (arith, low)))

all_choices : (role : Role) (word : ℕ) → All (λ v. is_choice role word v ≡ true) (choices role word)
all_choices role word = go (is_free role)
  where
    go : (free : Bool) → All (λ v. (if free then nat_lt v (2 ^ 32) else v == word) ≡ true) (if free then below (2 ^ 32) else word ∷ [])
    go true = all_below (2 ^ 32) (2 ^ 32) (omega arith)
    go false = All-cons (λ (v : ℕ). (v == word) ≡ true) word [] (eq-eqb word word refl) (All-nil (λ (v : ℕ). (v == word) ≡ true))

all_each : (role : Role) (word : ℕ) (roles : List Role) (words : List ℕ) (vs : List ℕ) (rests : List (List ℕ))
    → All (λ v. is_choice role word v ≡ true) vs → All (λ t. is_tape roles words t ≡ true) rests
    → All (λ t. is_tape (role ∷ roles) (word ∷ words) t ≡ true) (each vs rests)
all_each role word roles words [] rests first others = All-nil (λ (t : List ℕ). is_tape (role ∷ roles) (word ∷ words) t ≡ true)
all_each role word roles words (v ∷ vs) rests first others =
    let here = All-head (λ (u : ℕ). is_choice role word u ≡ true) v vs first in
    let IsOne : List ℕ → Type 0 = λ t. is_tape (role ∷ roles) (word ∷ words) t ≡ true in
    All-append IsOne (map (λ (rest : List ℕ). v ∷ rest) rests) (each vs rests)
    (All-map IsOne (λ (rest : List ℕ). v ∷ rest) rests
    (All-weaker (λ (t : List ℕ). is_tape roles words t ≡ true) (λ (t : List ℕ). IsOne (v ∷ t))
    (λ t is. and_from (is_choice role word v) (is_tape roles words t) here is) rests others))
    (all_each role word roles words vs rests (All-tail (λ (u : ℕ). is_choice role word u ≡ true) v vs first) others)

all_of_none : (roles : List Role) (words : List ℕ) → is_tape roles words [] ≡ true → All (λ t. is_tape roles words t ≡ true) ([] ∷ [])
all_of_none roles words is =
    All-cons (λ (t : List ℕ). is_tape roles words t ≡ true) [] [] is (All-nil (λ (t : List ℕ). is_tape roles words t ≡ true))

pub all-tapes : (roles : List Role) (words : List ℕ) → All (λ t. is_tape roles words t ≡ true) (tapes roles words)
all-tapes [] words = all_of_none [] words refl
all-tapes (r ∷ rs) [] = all_of_none (r ∷ rs) [] refl
all-tapes (r ∷ rs) (w ∷ ws) = all_each r w rs ws (choices r w) (tapes rs ws) (all_choices r w) (all-tapes rs ws)

-- a tape has as many words as the task's own, if each of these has a role
pub tape-length : (roles : List Role) (words t : List ℕ) → length roles ≡ length words → is_tape roles words t ≡ true → length t ≡ length words
tape-length [] [] [] same is = refl
tape-length [] [] (v ∷ vs) same is = absurd (true≢false (sym is))
tape-length [] (w ∷ ws) t same is = absurd (omega (arith, same))
tape-length (r ∷ rs) [] t same is = absurd (omega (arith, same))
tape-length (r ∷ rs) (w ∷ ws) [] same is = absurd (true≢false (sym is))
tape-length (r ∷ rs) (w ∷ ws) (v ∷ vs) same is =
    let parts = and_parts (is_choice r w v) (is_tape rs ws vs) is in
    let rest = tape-length rs ws vs (omega (arith, same)) parts.1 in
    omega (arith, rest)
