-- Which secrets come: all tuples of words, each in equally many worlds; and the secret of a lone share.
use Rattle.std.proofs.Common.{◌≡◌, ◌≢◌, ℕ, zero, suc, ◌*◌, ◌/◌, ◌^◌, ◌<◌, ◌≤◌, ◌==◌, eqb-true, eq-eqb, Bool, true, false, ◌&&◌, List, [], ◌∷◌, length, get_or, slice_get, Some, refl, ap, sym, ◌∙◌, subst, arith, true≢false, lt-ltb}
use Rattle.std.specs.Prelude.{bit_xor, nat_lt, if◌then◌else◌}
use Rattle.std.specs.List.{count_by}
use Rattle.std.specs.Int.Bits.{xor_assoc, xor_self, xor_zero_l, xor_zero_r}
use Rattle.std.proofs.Math.Nat.{mod-lt, mod-eq_of_lt}
use Rattle.std.proofs.Math.Pow.{pow-lt}
use Rattle.std.proofs.lemmas.Nat.{xor_lt, pow_pos}
use Rattle.std.proofs.lemmas.Bool.{and_from, and_parts}
use Rattle.std.proofs.lemmas.Option.{slice_get_within, get_or_from_slice_get}
use Rattle.core_model.specs.declared.world.World.{World}
use Rattle.core_model.specs.Security.{count_in, IsSecret}
use Rattle.core_model.proofs.Lists.{bit, count-cons, some-is}
use Rattle.probing_laws.proofs.Counts.{count-map}
use Rattle.masked_worlds.specs.declared.role.Role.{Role}
use Rattle.masked_worlds.specs.declared.role.Role.TheVariants.{Public, Mask, Share}
use Rattle.masked_worlds.specs.Tapes.{is_free, is_choice, tapes, is_tape, same_words}
use Rattle.masked_worlds.specs.Secrets.{is_share_of, secret_at, secret_count, secrets_of, world_of, all_worlds, AreNumbered, TellsNothing, SecretsComeAlike, SecretsAreTold, LoneShareIsSecret}
use Rattle.masked_worlds.specs.Changes.{IsChange}
use Rattle.masked_worlds.proofs.Tapes.{words-equal, one-test, none-passes, tape-often}
use Rattle.masked_worlds.proofs.Permute.{tapes-agree}
use Rattle.masked_worlds.proofs.Words.{secret-low}
use Rattle.masked_worlds.proofs.Numbers.{digit, digit-zero, digit-one, same-secrets, secrets-low, secrets-digits}
use Rattle.masked_worlds.proofs.Shifts.{turn, turn_back, turn-change, turned}
use Rattle.masked_worlds.proofs.Silent.{count-tapes, tape-of, apart-hidden}

-- the first share of a secret
abbrev pub share_place : List Role → ℕ → ℕ
share_place [] k = 0
share_place (r ∷ rs) k = if is_share_of k r then 0 else suc (share_place rs k)

is_share : (k : ℕ) (r : Role) → is_share_of k r ≡ true → r ≡ Share k
is_share k Public is = absurd (true≢false (sym is))
is_share k Mask is = absurd (true≢false (sym is))
is_share k (Share j) is = ap Share (eqb-true j k is)

pub share-there : (roles : List Role) (k place : ℕ) → slice_get roles place ≡ Some (Share k) → slice_get roles (share_place roles k) ≡ Some (Share k)
share-there [] k place at = absurd (cc at)
share-there (r ∷ rs) k zero at =
    let is : is_share_of k r ≡ true = ap (is_share_of k) (some-is at) ∙ eq-eqb k k refl in
    ap (λ (b : Bool). slice_get (r ∷ rs) (if b then 0 else suc (share_place rs k))) is ∙ at
share-there (r ∷ rs) k (suc place) at = go (is_share_of k r) refl (share-there rs k place at)
  where
    go : (b : Bool) → is_share_of k r ≡ b → slice_get rs (share_place rs k) ≡ Some (Share k) → slice_get (r ∷ rs) (share_place (r ∷ rs) k) ≡ Some (Share k)
    go true is rest =
        ap (λ (b : Bool). slice_get (r ∷ rs) (if b then 0 else suc (share_place rs k))) is ∙ ap (λ (q : Role). Some q) (is_share k r is)
    go false is rest =
        ap (λ (b : Bool). slice_get (r ∷ rs) (if b then 0 else suc (share_place rs k))) is ∙ rest

-- the tape of zeros, but for the public words
abbrev zeros : List Role → List ℕ → List ℕ
zeros (r ∷ rs) (w ∷ ws) = (if is_free r then 0 else w) ∷ zeros rs ws
zeros [] ws = []
zeros (r ∷ rs) [] = []

zeros_is : (roles : List Role) (words : List ℕ) → is_tape roles words (zeros roles words) ≡ true
zeros_is [] words = refl
zeros_is (r ∷ rs) [] = refl
zeros_is (r ∷ rs) (w ∷ ws) = and_from (is_choice r w (if is_free r then 0 else w)) (is_tape rs ws (zeros rs ws)) (go (is_free r)) (zeros_is rs ws)
  where
    go : (b : Bool) → (if b then nat_lt (if b then 0 else w) (2 ^ 32) else (if b then 0 else w) == w) ≡ true
    go true = lt-ltb 0 (2 ^ 32) (omega arith)
    go false = eq-eqb w w refl

-- an item that is counted is there
some_counted : {X : Type 0} (p : X → Bool) (xs : List X) → 0 < count_by p xs → (i : ℕ) × (x : X) × (slice_get xs i ≡ Some x) × (p x ≡ true)
some_counted p [] some = absurd (omega (arith, some))
some_counted {X} p (x ∷ xs) some = go (p x) refl (some_counted p xs)
  where
    go : (b : Bool) → p x ≡ b → (0 < count_by p xs → (i : ℕ) × (y : X) × (slice_get xs i ≡ Some y) × (p y ≡ true))
        → (i : ℕ) × (y : X) × (slice_get (x ∷ xs) i ≡ Some y) × (p y ≡ true)
    go true is rest = (0, x, refl, is)
    go false is rest =
        let one = count-cons p x xs in
        let none : bit (p x) ≡ 0 = ap bit is in
        let found = rest (omega (arith, one, none, some)) in
        (suc found.0, found.1, found.2, found.3)

-- a weaker test is passed as often
weaker : {X : Type 0} (p q : X → Bool) → ((x : X) → p x ≡ true → q x ≡ true) → (xs : List X) → count_by p xs ≤ count_by q xs
weaker p q so [] = omega arith
weaker p q so (x ∷ xs) =
    let one = count-cons p x xs in
    let two = count-cons q x xs in
    let rest = weaker p q so xs in
    let here = bits (p x) (q x) (so x) in
    omega (arith, one, two, rest, here)
  where
    bits : (a b : Bool) → (a ≡ true → b ≡ true) → bit a ≤ bit b
    bits true b so = let one : bit b ≡ bit true = ap bit (so refl) in omega (arith, one)
    bits false b so = let none : bit false ≡ 0 = refl in omega (arith, none)

module _ (roles : List Role) (words : List ℕ) where
  -- the secrets of a tape come
  pub tape-comes : (t : List ℕ) → is_tape roles words t ≡ true → (s : ℕ) → secrets_of roles t ≡ s → IsSecret (all_worlds roles words) s
  tape-comes t good s is =
      let test : World → Bool = λ world. world.secret == s in
      let once = tape-often roles words t ∙ ap bit good in
      let one : bit true ≡ 1 = refl in
      let among = weaker (λ (u : List ℕ). same_words u t) (λ (u : List ℕ). secrets_of roles u == s)
      (λ u same. eq-eqb (secrets_of roles u) s (ap (secrets_of roles) (words-equal.only u t same) ∙ is)) (tapes roles words) in
      let all = count-map test (world_of roles) (tapes roles words) in
      let found = some_counted test (all_worlds roles words) (omega (arith, once, one, among, all)) in (
        found.0,
        found.1,
        slice_get_within (all_worlds roles words) found.0 found.1 found.2,
        get_or_from_slice_get (all_worlds roles words) found.0 found.1 found.1 found.2,
        eqb-true found.1.secret s found.3,
      )

  pub secret-of-tape-low : (s : ℕ) → IsSecret (all_worlds roles words) s → s < 2 ^ (32 * secret_count roles)
  secret-of-tape-low s comes =
      let t = tape-of roles words s comes in
      subst (λ (n : ℕ). n < 2 ^ (32 * secret_count roles)) t.2 (secrets-low (secret_count roles) roles words t.0 t.1)

  module _ (same : length roles ≡ length words) (numbered : AreNumbered roles) where
    have : (k : ℕ) → k < secret_count roles → slice_get roles (share_place roles k) ≡ Some (Share k)
    have k less = share-there roles k (numbered k less).0 (numbered k less).1

    -- a tape with these digits as its secrets
    abbrev HasSecrets : ℕ → List ℕ → Type 0
    HasSecrets s t = (is_tape roles words t ≡ true) × ((k : ℕ) → k < secret_count roles → secret_at roles k t ≡ digit k s)

    made : (s : ℕ) → (t : List ℕ) × HasSecrets s t
    made s = (turn (share_place roles) c (secret_count roles) start, (changes.keeps start (zeros_is roles words), digits))
      where
        start : List ℕ
        start = zeros roles words

        c : ℕ → ℕ
        c k = bit_xor (secret_at roles k (zeros roles words)) (digit k s)

        low : (k : ℕ) → bit_xor (secret_at roles k (zeros roles words)) (digit k s) < 2 ^ 32
        low k =
            xor_lt 32 (secret_at roles k (zeros roles words)) (digit k s) (secret-low roles words (zeros roles words) k (zeros_is roles words))
            (mod-lt (s / 2 ^ (32 * k)) {m = 2 ^ 32} (omega arith))

        changes : IsChange roles words (turn (share_place roles) c (secret_count roles)) (turn_back (share_place roles) c (secret_count roles))
        changes = turn-change roles words same (share_place roles) c low (secret_count roles) have

        cancel : (x y : ℕ) → bit_xor x (bit_xor x y) ≡ y
        cancel x y = sym (xor_assoc x x y) ∙ ap (λ (z : ℕ). bit_xor z y) (xor_self x) ∙ xor_zero_l y

        digits : (k : ℕ) → k < secret_count roles → secret_at roles k (turn (share_place roles) c (secret_count roles) start) ≡ digit k s
        digits k under =
            turned roles words same (share_place roles) c low start (zeros_is roles words) (secret_count roles) have k under
            ∙ cancel (secret_at roles k (zeros roles words)) (digit k s)

    number_is : (s : ℕ) (t : List ℕ) → HasSecrets s t → s < 2 ^ (32 * secret_count roles) → secrets_of roles t ≡ s
    number_is s t has less = secrets-digits (secret_count roles) roles t s has.1 ∙ mod-eq_of_lt less

    each-comes : (s : ℕ) → s < 2 ^ (32 * secret_count roles) → IsSecret (all_worlds roles words) s
    each-comes s less = let t = made s in tape-comes t.0 t.1.0 s (number_is s t.0 t.1 less)

    -- Secret number k is 0 in a world of the tuple 0, and in none of the tuple where it is 1.
    module _ (k : ℕ) (under : k < secret_count roles) where
      some_of_zeros : 0 < count_in (all_worlds roles words) 0 (λ world. secret_at roles k world.tape == 0)
      some_of_zeros =
          let t = made 0 in
          let none : secrets_of roles t.0 ≡ 0 = number_is 0 t.0 t.1 (pow_pos (32 * secret_count roles)) in
          let zero_digit : digit k 0 ≡ 0 = digit-zero k in
          let here : secret_at roles k t.0 ≡ 0 = t.1.1 k under ∙ zero_digit in
          let once = tape-often roles words t.0 ∙ ap bit t.1.0 in
          let one : bit true ≡ 1 = refl in
          let among = weaker (λ (u : List ℕ). same_words u t.0) (λ (u : List ℕ). (secrets_of roles u == 0) && (secret_at roles k u == 0))
          (λ u same_as. and_from (secrets_of roles u == 0) (secret_at roles k u == 0)
          (eq-eqb (secrets_of roles u) 0 (ap (secrets_of roles) (words-equal.only u t.0 same_as) ∙ none))
          (eq-eqb (secret_at roles k u) 0 (ap (secret_at roles k) (words-equal.only u t.0 same_as) ∙ here))) (tapes roles words) in
          let all = count-tapes roles words 0 (λ world. secret_at roles k world.tape == 0) in
          omega (arith, once, one, among, all)

      none_of_one : count_in (all_worlds roles words) (2 ^ (32 * k)) (λ world. secret_at roles k world.tape == 0) ≡ 0
      none_of_one =
          count-tapes roles words (2 ^ (32 * k)) (λ world. secret_at roles k world.tape == 0)
          ∙ tapes-agree roles words (λ t. (secrets_of roles t == 2 ^ (32 * k)) && (secret_at roles k t == 0)) (λ t. false) never
          ∙ none-passes (tapes roles words)
        where
          is_one : secrets_of roles (made (2 ^ (32 * k))).0 ≡ 2 ^ (32 * k)
          is_one = number_is (2 ^ (32 * k)) (made (2 ^ (32 * k))).0 (made (2 ^ (32 * k))).1 (pow-lt {i = 32 * k} {j = 32 * secret_count roles} (omega (arith, under)))

          never : (t : List ℕ) → is_tape roles words t ≡ true → ((secrets_of roles t == 2 ^ (32 * k)) && (secret_at roles k t == 0)) ≡ false
          never t good =
              one-test ((secrets_of roles t == 2 ^ (32 * k)) && (secret_at roles k t == 0)) false
              (λ both.
              let parts = and_parts (secrets_of roles t == 2 ^ (32 * k)) (secret_at roles k t == 0) both in
              let one = made (2 ^ (32 * k)) in
              let number : secrets_of roles t ≡ secrets_of roles one.0 = eqb-true (secrets_of roles t) (2 ^ (32 * k)) parts.0 ∙ sym is_one in
              let there : secret_at roles k t ≡ digit k (2 ^ (32 * k)) =
              same-secrets roles words t one.0 good one.1.0 (secret_count roles) number k under ∙ one.1.1 k under in
              let here : secret_at roles k t ≡ 0 = eqb-true (secret_at roles k t) 0 parts.1 in
              let digit_is : digit k (2 ^ (32 * k)) ≡ 1 = digit-one k in
              absurd (omega (arith, there, here, digit_is)))
              (λ no. absurd (true≢false (sym no)))

      told : TellsNothing roles words (secret_at roles k) → ⊥
      told hidden =
          let even = hidden (λ x. x == 0) 0 (2 ^ (32 * k)) (each-comes 0 (pow_pos (32 * secret_count roles)))
          (each-comes (2 ^ (32 * k)) (pow-lt {i = 32 * k} {j = 32 * secret_count roles} (omega (arith, under)))) in
          let some = some_of_zeros in
          let none = none_of_one in
          omega (arith, even, some, none)

    pub secrets-come : SecretsComeAlike roles words
    secrets-come = record {
      all = λ s. (secret-of-tape-low s, each-comes s);
      even = apart-hidden roles words same {X = ℕ} (share_place roles) have (λ t. 0) (λ k less t x. refl) (λ x. true);
    }

-- where no word is a share of a secret, it is 0
no_share : (roles : List Role) (k : ℕ) → ((other : ℕ) → slice_get roles other ≢ Some (Share k)) → (t : List ℕ) → secret_at roles k t ≡ 0
no_share [] k none t = refl
no_share (r ∷ rs) k none [] = refl
no_share (r ∷ rs) k none (v ∷ vs) = go (is_share_of k r) refl (no_share rs k (λ other. none (suc other)) vs)
  where
    go : (b : Bool) → is_share_of k r ≡ b → secret_at rs k vs ≡ 0 → (if is_share_of k r then bit_xor v (secret_at rs k vs) else secret_at rs k vs) ≡ 0
    go true is rest = absurd (none 0 (ap (λ (q : Role). Some q) (is_share k r is)))
    go false is rest = ap (λ (b : Bool). if b then bit_xor v (secret_at rs k vs) else secret_at rs k vs) is ∙ rest

pub secrets-are-told : SecretsAreTold
secrets-are-told roles words same numbered k under hidden = told roles words same numbered k under hidden

pub lone-share : LoneShareIsSecret
lone-share [] k place at lone t same = absurd (cc at)
lone-share (r ∷ rs) k place at lone [] same = absurd (omega (arith, same))
lone-share (r ∷ rs) k zero at lone (v ∷ vs) same =
    let is : is_share_of k r ≡ true = ap (is_share_of k) (some-is at) ∙ eq-eqb k k refl in
    ap (λ (b : Bool). if b then bit_xor v (secret_at rs k vs) else secret_at rs k vs) is
    ∙ ap (bit_xor v) (no_share rs k (λ other e. lone (suc other) (λ p. absurd (omega (arith, p))) e) vs) ∙ xor_zero_r v
lone-share (r ∷ rs) k (suc place) at lone (v ∷ vs) same =
    go (is_share_of k r) refl
    (lone-share rs k place at (λ other apart e. lone (suc other) (λ p. apart (omega (arith, p))) e) vs (omega (arith, same)))
  where
    go : (b : Bool) → is_share_of k r ≡ b → secret_at rs k vs ≡ get_or vs place 0 → (if is_share_of k r then bit_xor v (secret_at rs k vs) else secret_at rs k vs) ≡ get_or vs place 0
    go true is rest = absurd (lone 0 (λ p. absurd (omega (arith, p))) (ap (λ (q : Role). Some q) (is_share k r is)))
    go false is rest = ap (λ (b : Bool). if b then bit_xor v (secret_at rs k vs) else secret_at rs k vs) is ∙ rest
