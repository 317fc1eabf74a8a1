-- Words turned at a pivot, each into another one: a change of tapes that keeps the secrets.
use Rattle.std.proofs.Common.{◌≡◌, ℕ, ◌^◌, ◌<◌, ◌==◌, Bool, true, false, List, length, set, slice_get, Some, refl, ap, sym, ◌∙◌}
use Rattle.std.specs.Prelude.{bit_xor, if◌then◌else◌}
use Rattle.std.specs.Int.Bits.{xor_assoc, xor_comm, xor_self, xor_zero_l}
use Rattle.std.proofs.lemmas.Nat.{xor_lt}
use Rattle.std.proofs.lemmas.List.{get_or-set_same, get_or-set_other, set-set, set-get_or}
use Rattle.masked_worlds.specs.declared.role.Role.{Role}
use Rattle.masked_worlds.specs.declared.role.Role.TheVariants.{Mask, Share}
use Rattle.masked_worlds.specs.declared.pivot.Pivot.{Pivot}
use Rattle.masked_worlds.specs.declared.pivot.Pivot.TheVariants.{AtMask, AtShares}
use Rattle.masked_worlds.specs.Tapes.{is_free, is_tape}
use Rattle.masked_worlds.specs.Secrets.{is_share_of, secret_at, secret_count, secrets_of}
use Rattle.masked_worlds.specs.Changes.{IsChange, word_at, shift, IsApart, IsPivot, place_of}
use Rattle.masked_worlds.specs.Forms.{AreTurns}
use Rattle.masked_worlds.proofs.Words.{xor-twice, tape-set, word-low, secret-set, secrets-same}
use Rattle.masked_worlds.proofs.Shifts.{shift-change, change-chain, within}

-- the word at a place turned, and the partner with it
abbrev pub turn_at : ℕ → (List ℕ → ℕ → ℕ) → List ℕ → List ℕ
turn_at place turn t = set t place (turn t (word_at t place))

-- what is to be added to the partner, by the word after the turn
abbrev pub differs : ℕ → (List ℕ → ℕ → ℕ) → List ℕ → ℕ
differs place back t = bit_xor (word_at t place) (back t (word_at t place))

abbrev pub turn_by : Pivot → (List ℕ → ℕ → ℕ) → (List ℕ → ℕ → ℕ) → List ℕ → List ℕ
turn_by (AtMask place) turn back t = turn_at place turn t
turn_by (AtShares place partner) turn back t = shift partner (differs place back) (turn_at place turn t)

abbrev pub turn_again : Pivot → (List ℕ → ℕ → ℕ) → (List ℕ → ℕ → ℕ) → List ℕ → List ℕ
turn_again (AtMask place) turn back t = turn_at place back t
turn_again (AtShares place partner) turn back t = turn_at place back (shift partner (differs place back) t)

-- x + (x + y) is y
cancel : (x y : ℕ) → bit_xor x (bit_xor x y) ≡ y
cancel x y = sym (xor_assoc x x y) ∙ ap (λ (z : ℕ). bit_xor z y) (xor_self x) ∙ xor_zero_l y

module _ (roles : List Role) (words : List ℕ) (same : length roles ≡ length words) where
  module _ (place : ℕ) (role : Role) (at : slice_get roles place ≡ Some role) (free : is_free role ≡ true) where
    keeps : (f : List ℕ → ℕ → ℕ) → ((t : List ℕ) (x : ℕ) → is_tape roles words t ≡ true → x < 2 ^ 32 → f t x < 2 ^ 32)
        → (t : List ℕ) → is_tape roles words t ≡ true → is_tape roles words (turn_at place f t) ≡ true
    keeps f low t is =
        tape-set roles words t place role (f t (word_at t place)) at free (low t (word_at t place) is (word-low roles words t place role at free is)) is

    there_and_back : (f g : List ℕ → ℕ → ℕ) → ((t : List ℕ) (x : ℕ) → is_tape roles words t ≡ true → x < 2 ^ 32 → g t (f t x) ≡ x)
        → ((x : ℕ) → IsApart place (λ t. g t x)) → (t : List ℕ) → is_tape roles words t ≡ true → turn_at place g (turn_at place f t) ≡ t
    there_and_back f g undone apart t is =
        let v = word_at t place in
        let y = f t v in
        let u = set t place y in
        ap (λ (z : ℕ). set u place (g u z)) (get_or-set_same t place y 0 (within roles words same place role at t is))
        ∙ ap (λ (z : ℕ). set u place z) (apart y t y)
        ∙ set-set t place y (g t y)
        ∙ ap (λ (z : ℕ). set t place z) (undone t v is (word-low roles words t place role at free is))
        ∙ set-get_or t place 0

    turn-change : (turn back : List ℕ → ℕ → ℕ)
        → ((t : List ℕ) (x : ℕ) → is_tape roles words t ≡ true → x < 2 ^ 32 → turn t x < 2 ^ 32)
        → ((t : List ℕ) (x : ℕ) → is_tape roles words t ≡ true → x < 2 ^ 32 → back t x < 2 ^ 32)
        → ((t : List ℕ) (x : ℕ) → is_tape roles words t ≡ true → x < 2 ^ 32 → back t (turn t x) ≡ x)
        → ((t : List ℕ) (x : ℕ) → is_tape roles words t ≡ true → x < 2 ^ 32 → turn t (back t x) ≡ x)
        → ((x : ℕ) → IsApart place (λ t. turn t x)) → ((x : ℕ) → IsApart place (λ t. back t x))
        → IsChange roles words (turn_at place turn) (turn_at place back)
    turn-change turn back low low_back undone redone apart apart_back = record {
      keeps = keeps turn low;
      keeps_back = keeps back low_back;
      undone = there_and_back turn back undone apart_back;
      redone = there_and_back back turn redone apart;
    }

    -- a word put in place of another adds their difference to the secrets that it is a share of
    secret-turned : (t : List ℕ) → is_tape roles words t ≡ true → (k y : ℕ)
        → secret_at roles k (set t place y)
        ≡ (if is_share_of k role then bit_xor (secret_at roles k t) (bit_xor (word_at t place) y) else secret_at roles k t)
    secret-turned t is k y =
        ap (λ (z : ℕ). secret_at roles k (set t place z)) (sym (cancel (word_at t place) y))
        ∙ secret-set roles t place role k (bit_xor (word_at t place) y) at (within roles words same place role at t is)

  module _ (turn back : List ℕ → ℕ → ℕ) where
    pub turned-change : (pivot : Pivot) → IsPivot roles pivot → AreTurns roles words pivot turn back
        → IsChange roles words (turn_by pivot turn back) (turn_again pivot turn back)
    turned-change (AtMask place) is turns =
        turn-change place Mask is refl turn back turns.low turns.low_back turns.undone turns.redone turns.apart turns.apart_back
    turned-change (AtShares place partner) is turns =
        change-chain roles words (turn_at place turn) (turn_at place back) (shift partner (differs place back)) (shift partner (differs place back))
        (turn-change place (Share is.0) is.1 refl turn back turns.low turns.low_back turns.undone turns.redone
        (λ x. (turns.apart x).0) (λ x. (turns.apart_back x).0))
        (shift-change roles words partner (Share is.0) is.2 refl (differs place back) low apart)
      where
        low : (t : List ℕ) → is_tape roles words t ≡ true → differs place back t < 2 ^ 32
        low t good =
            let v = word-low roles words t place (Share is.0) is.1 refl good in
            xor_lt 32 (word_at t place) (back t (word_at t place)) v (turns.low_back t (word_at t place) good v)

        apart : IsApart partner (differs place back)
        apart t x =
            let first : word_at (set t partner x) place ≡ word_at t place = get_or-set_other t partner place x 0 (λ e. is.3 (sym e)) in
            ap (λ (z : ℕ). bit_xor z (back (set t partner x) z)) first
            ∙ ap (λ (z : ℕ). bit_xor (word_at t place) z) ((turns.apart_back (word_at t place)).1 t x)

    -- the word at the place after a turn
    pub word-turned : (pivot : Pivot) → IsPivot roles pivot → (t : List ℕ) → is_tape roles words t ≡ true
        → word_at (turn_by pivot turn back t) (place_of pivot) ≡ turn t (word_at t (place_of pivot))
    word-turned (AtMask place) is t good = get_or-set_same t place (turn t (word_at t place)) 0 (within roles words same place Mask is t good)
    word-turned (AtShares place partner) is t good =
        let u = turn_at place turn t in
        get_or-set_other u partner place (bit_xor (word_at u partner) (differs place back u)) 0 (λ e. is.3 (sym e))
        ∙ get_or-set_same t place (turn t (word_at t place)) 0 (within roles words same place (Share is.0) is.1 t good)

    turned_secret : (pivot : Pivot) → IsPivot roles pivot → AreTurns roles words pivot turn back → (t : List ℕ) → is_tape roles words t ≡ true
        → (k : ℕ) → secret_at roles k (turn_by pivot turn back t) ≡ secret_at roles k t
    turned_secret (AtMask place) is turns t good k = secret-turned place Mask is refl t good k (turn t (word_at t place))
    turned_secret (AtShares place partner) is turns t good k =
        let v = word_at t place in
        let y = turn t v in
        let u = turn_at place turn t in
        let fine = keeps place (Share is.0) is.1 refl turn turns.low t good in
        let there : word_at u place ≡ y = get_or-set_same t place y 0 (within roles words same place (Share is.0) is.1 t good) in
        let old : back u y ≡ v =
        (turns.apart_back y).0 t y ∙ turns.undone t v good (word-low roles words t place (Share is.0) is.1 refl good) in
        let added : differs place back u ≡ bit_xor v y =
        ap (λ (z : ℕ). bit_xor z (back u z)) there ∙ ap (λ (z : ℕ). bit_xor y z) old ∙ xor_comm y v in
        secret-set roles u partner (Share is.0) k (differs place back u) is.2 (within roles words same partner (Share is.0) is.2 u fine)
        ∙ ap (λ (x : ℕ). if is.0 == k then bit_xor (secret_at roles k u) x else secret_at roles k u) added
        ∙ ap (λ (x : ℕ). if is.0 == k then bit_xor x (bit_xor v y) else x) (secret-turned place (Share is.0) is.1 refl t good k y)
        ∙ both (is.0 == k) (secret_at roles k t) (bit_xor v y)
      where
        both : (b : Bool) (s x : ℕ) → (if b then bit_xor (if b then bit_xor s x else s) x else (if b then bit_xor s x else s)) ≡ s
        both true s x = xor-twice s x
        both false s x = refl

    pub turned-keeps : (pivot : Pivot) → IsPivot roles pivot → AreTurns roles words pivot turn back → (t : List ℕ) → is_tape roles words t ≡ true
        → secrets_of roles (turn_by pivot turn back t) ≡ secrets_of roles t
    turned-keeps pivot is turns t good =
        secrets-same (secret_count roles) roles (turn_by pivot turn back t) t (λ k less. turned_secret pivot is turns t good k)
