-- Words added at places are changes of tapes.
use Rattle.std.proofs.Common.{◌≡◌, ℕ, zero, suc, ◌^◌, ◌<◌, ◌≤◌, ◌==◌, eqb-true, eq-eqb, Bool, true, false, List, length, set, slice_get, Some, refl, ap, sym, ◌∙◌, arith, true≢false}
use Rattle.std.specs.Prelude.{bit_xor, if◌then◌else◌}
use Rattle.std.proofs.lemmas.Nat.{xor_lt}
use Rattle.std.proofs.lemmas.Option.{slice_get_within}
use Rattle.masked_worlds.specs.declared.role.Role.{Role}
use Rattle.masked_worlds.specs.declared.role.Role.TheVariants.{Mask, Share}
use Rattle.masked_worlds.specs.declared.pivot.Pivot.{Pivot}
use Rattle.masked_worlds.specs.declared.pivot.Pivot.TheVariants.{AtMask, AtShares}
use Rattle.masked_worlds.specs.Tapes.{is_free, is_tape}
use Rattle.masked_worlds.specs.Secrets.{secret_at, secret_count, secrets_of}
use Rattle.masked_worlds.specs.Changes.{IsChange, word_at, shift, IsApart, IsPivot, shift_by, IsApartFrom}
use Rattle.masked_worlds.proofs.Tapes.{tape-length}
use Rattle.masked_worlds.proofs.Words.{xor-twice, tape-set, word-low, set-twice, secret-set, secrets-same}

module _ (roles : List Role) (words : List ℕ) where
  -- a word of the tape that is free
  pub shift-change : (place : ℕ) (role : Role) → slice_get roles place ≡ Some role → is_free role ≡ true
      → (d : List ℕ → ℕ) → ((t : List ℕ) → is_tape roles words t ≡ true → d t < 2 ^ 32) → IsApart place d
      → IsChange roles words (shift place d) (shift place d)
  shift-change place role at free d low apart = record { keeps = keeps; keeps_back = keeps; undone = undone; redone = undone }
    where
      keeps : (t : List ℕ) → is_tape roles words t ≡ true → is_tape roles words (shift place d t) ≡ true
      keeps t is =
          tape-set roles words t place role (bit_xor (word_at t place) (d t)) at free
          (xor_lt 32 (word_at t place) (d t) (word-low roles words t place role at free is) (low t is)) is

      undone : (t : List ℕ) → is_tape roles words t ≡ true → shift place d (shift place d t) ≡ t
      undone t is =
          ap (λ (x : ℕ). set (shift place d t) place (bit_xor (word_at (shift place d t) place) x)) (apart t (bit_xor (word_at t place) (d t)))
          ∙ set-twice t place (d t)

  -- one change after another
  pub change-chain : (f f_back g g_back : List ℕ → List ℕ) → IsChange roles words f f_back → IsChange roles words g g_back
      → IsChange roles words (λ t. g (f t)) (λ t. f_back (g_back t))
  change-chain f f_back g g_back one two = record {
    keeps = λ t is. two.keeps (f t) (one.keeps t is);
    keeps_back = λ t is. one.keeps_back (g_back t) (two.keeps_back t is);
    undone = λ t is. ap f_back (two.undone (f t) (one.keeps t is)) ∙ one.undone t is;
    redone = λ t is. ap g (one.redone (g_back t) (two.keeps_back t is)) ∙ two.redone t is;
  }

  -- the change back of a word added at a pivot
  abbrev pub shift_back : Pivot → (List ℕ → ℕ) → List ℕ → List ℕ
  shift_back (AtMask place) d t = shift place d t
  shift_back (AtShares place partner) d t = shift place d (shift partner d t)

  pub pivot-change : (pivot : Pivot) → IsPivot roles pivot → (d : List ℕ → ℕ) → ((t : List ℕ) → is_tape roles words t ≡ true → d t < 2 ^ 32)
      → IsApartFrom pivot d → IsChange roles words (shift_by pivot d) (shift_back pivot d)
  pivot-change (AtMask place) is d low apart = shift-change place Mask is refl d low apart
  pivot-change (AtShares place partner) is d low apart =
      change-chain (shift place d) (shift place d) (shift partner d) (shift partner d)
      (shift-change place (Share is.0) is.1 refl d low apart.0) (shift-change partner (Share is.0) is.2 refl d low apart.1)

  module _ (same : length roles ≡ length words) where
    -- a place with a role is one of a tape
    pub within : (place : ℕ) (role : Role) → slice_get roles place ≡ Some role → (t : List ℕ) → is_tape roles words t ≡ true → place < length t
    within place role at t is =
        let low = slice_get_within roles place role at in
        let all = tape-length roles words t same is in
        omega (arith, low, all, same)

    -- a word added at a pivot keeps the secrets
    pub pivot-keeps : (pivot : Pivot) → IsPivot roles pivot → (d : List ℕ → ℕ) → ((t : List ℕ) → is_tape roles words t ≡ true → d t < 2 ^ 32)
        → IsApartFrom pivot d → (t : List ℕ) → is_tape roles words t ≡ true → (k : ℕ) → secret_at roles k (shift_by pivot d t) ≡ secret_at roles k t
    pivot-keeps (AtMask place) is d low apart t one k = secret-set roles t place Mask k (d t) is (within place Mask is t one)
    pivot-keeps (AtShares place partner) is d low apart t one k =
        let u = shift place d t in
        let good : is_tape roles words u ≡ true = (shift-change place (Share is.0) is.1 refl d low apart.0).keeps t one in
        let second = secret-set roles u partner (Share is.0) k (d u) is.2 (within partner (Share is.0) is.2 u good) in
        let first = secret-set roles t place (Share is.0) k (d t) is.1 (within place (Share is.0) is.1 t one) in
        second ∙ ap (λ (x : ℕ). if is.0 == k then bit_xor (secret_at roles k u) x else secret_at roles k u) (apart.0 t (bit_xor (word_at t place) (d t)))
        ∙ ap (λ (x : ℕ). if is.0 == k then bit_xor x (d t) else x) first ∙ both (is.0 == k) (secret_at roles k t) (d t)
      where
        both : (b : Bool) (s x : ℕ) → (if b then bit_xor (if b then bit_xor s x else s) x else (if b then bit_xor s x else s)) ≡ s
        both true s x = xor-twice s x
        both false s x = refl

    pub pivot-keeps-all : (pivot : Pivot) → IsPivot roles pivot → (d : List ℕ → ℕ)
        → ((t : List ℕ) → is_tape roles words t ≡ true → d t < 2 ^ 32) → IsApartFrom pivot d
        → (t : List ℕ) → is_tape roles words t ≡ true → secrets_of roles (shift_by pivot d t) ≡ secrets_of roles t
    pivot-keeps-all pivot is d low apart t one =
        secrets-same (secret_count roles) roles (shift_by pivot d t) t (λ k less. pivot-keeps pivot is d low apart t one k)

-- A word for each secret, added to one of its shares.
abbrev pub turn : (ℕ → ℕ) → (ℕ → ℕ) → ℕ → List ℕ → List ℕ
turn places words_for zero t = t
turn places words_for (suc n) t = shift (places n) (λ u. words_for n) (turn places words_for n t)

abbrev pub turn_back : (ℕ → ℕ) → (ℕ → ℕ) → ℕ → List ℕ → List ℕ
turn_back places words_for zero t = t
turn_back places words_for (suc n) t = turn_back places words_for n (shift (places n) (λ u. words_for n) t)

module _ (roles : List Role) (words : List ℕ) (same : length roles ≡ length words) (places c : ℕ → ℕ) (low : (k : ℕ) → c k < 2 ^ 32) where
  abbrev pub HaveShares : ℕ → Type 0
  HaveShares n = (k : ℕ) → k < n → slice_get roles (places k) ≡ Some (Share k)

  pub turn-change : (n : ℕ) → HaveShares n → IsChange roles words (turn places c n) (turn_back places c n)
  turn-change zero have = record { keeps = λ t is. is; keeps_back = λ t is. is; undone = λ t is. refl; redone = λ t is. refl }
  turn-change (suc n) have =
      let step : List ℕ → List ℕ = shift (places n) (λ u. c n) in
      change-chain roles words (turn places c n) (turn_back places c n) step step
      (turn-change n (λ k less. have k (omega (arith, less))))
      (shift-change roles words (places n) (Share n) (have n (omega arith)) refl (λ u. c n) (λ t is. low n) (λ t x. refl))

  module _ (t : List ℕ) (one : is_tape roles words t ≡ true) where
    added : (n : ℕ) → HaveShares (suc n) → (k : ℕ)
        → secret_at roles k (turn places c (suc n) t)
        ≡ (if n == k then bit_xor (secret_at roles k (turn places c n t)) (c n) else secret_at roles k (turn places c n t))
    added n have k =
        let u = turn places c n t in
        let good : is_tape roles words u ≡ true = (turn-change n (λ j less. have j (omega (arith, less)))).keeps t one in
        let at : slice_get roles (places n) ≡ Some (Share n) = have n (omega arith) in
        secret-set roles u (places n) (Share n) k (c n) at (within roles words same (places n) (Share n) at u good)

    chosen : (b : Bool) (n k x y : ℕ) → (n == k) ≡ b → (if n == k then x else y) ≡ (if b then x else y)
    chosen b n k x y is = ap (λ (e : Bool). if e then x else y) is

    -- the later secrets stay
    stays : (n : ℕ) → HaveShares n → (k : ℕ) → n ≤ k → secret_at roles k (turn places c n t) ≡ secret_at roles k t
    stays zero have k past = refl
    stays (suc n) have k past = go (n == k) refl (λ past_it. stays n (λ j less. have j (omega (arith, less))) k past_it)
      where
        go : (b : Bool) → (n == k) ≡ b → (n ≤ k → secret_at roles k (turn places c n t) ≡ secret_at roles k t)
            → secret_at roles k (turn places c (suc n) t) ≡ secret_at roles k t
        go true is rest = let at : n ≡ k = eqb-true n k is in absurd (omega (arith, at, past))
        go false is rest =
            added n have k ∙ chosen false n k (bit_xor (secret_at roles k (turn places c n t)) (c n)) (secret_at roles k (turn places c n t)) is
            ∙ rest (omega (arith, past))

    -- to each other one its word is added
    pub turned : (n : ℕ) → HaveShares n → (k : ℕ) → k < n → secret_at roles k (turn places c n t) ≡ bit_xor (secret_at roles k t) (c k)
    turned zero have k less = absurd (omega (arith, less))
    turned (suc n) have k less = go (n == k) refl (λ under. turned n (λ j low_it. have j (omega (arith, low_it))) k under)
      where
        before : HaveShares n
        before j under = have j (omega (arith, under))

        go : (b : Bool) → (n == k) ≡ b → (k < n → secret_at roles k (turn places c n t) ≡ bit_xor (secret_at roles k t) (c k))
            → secret_at roles k (turn places c (suc n) t) ≡ bit_xor (secret_at roles k t) (c k)
        go true is rest =
            let at : n ≡ k = eqb-true n k is in
            added n have k ∙ chosen true n k (bit_xor (secret_at roles k (turn places c n t)) (c n)) (secret_at roles k (turn places c n t)) is
            ∙ ap (λ (x : ℕ). bit_xor x (c n)) (stays n before k (omega (arith, at))) ∙ ap (λ (j : ℕ). bit_xor (secret_at roles k t) (c j)) at
        go false is rest =
            let apart : n ≡ k → ⊥ = λ e. true≢false (sym (eq-eqb n k e) ∙ is) in
            added n have k ∙ chosen false n k (bit_xor (secret_at roles k (turn places c n t)) (c n)) (secret_at roles k (turn places c n t)) is
            ∙ rest (omega (arith, less, apart))

-- what doesn't hang on any of the places stays
pub turn-apart : {X : Type 0} (places c : ℕ → ℕ) (seen : List ℕ → X) (n : ℕ) → ((k : ℕ) → k < n → IsApart (places k) seen)
    → (t : List ℕ) → seen (turn places c n t) ≡ seen t
turn-apart places c seen zero apart t = refl
turn-apart places c seen (suc n) apart t =
    apart n (omega arith) (turn places c n t) (bit_xor (word_at (turn places c n t) (places n)) (c n))
    ∙ turn-apart places c seen n (λ k less. apart k (omega (arith, less))) t
