-- What is seen of tapes tells nothing of their secrets.
use Rattle.std.proofs.Common.{◌≡◌, ℕ, ◌+◌, ◌^◌, ◌<◌, ◌==◌, eqb-true, eq-eqb, Bool, true, false, cond, ◌&&◌, List, [], ◌∷◌, map, filter, length, get_or, slice_get, Some, All, refl, ap, sym, ◌∙◌, subst, arith}
use Rattle.std.specs.Prelude.{bit_xor}
use Rattle.std.specs.List.{count_by}
use Rattle.std.specs.Int.Bits.{xor_assoc, xor_comm, xor_self, xor_zero_l}
use Rattle.std.proofs.lemmas.Nat.{xor_lt}
use Rattle.std.proofs.lemmas.List.{get_or-set_same, get_or-set_other}
use Rattle.std.proofs.lemmas.List.Elements.{All-map}
use Rattle.core_model.specs.declared.world.World.{World}
use Rattle.core_model.specs.Security.{count_in, IsSecret}
use Rattle.core_model.proofs.Lists.{bit, count-cons}
use Rattle.masked_worlds.specs.declared.role.Role.{Role}
use Rattle.masked_worlds.specs.declared.role.Role.TheVariants.{Share}
use Rattle.masked_worlds.specs.declared.pivot.Pivot.{Pivot}
use Rattle.masked_worlds.specs.declared.pivot.Pivot.TheVariants.{AtMask, AtShares}
use Rattle.masked_worlds.specs.Tapes.{tapes, is_tape}
use Rattle.masked_worlds.specs.Secrets.{secret_at, secret_count, secrets_of, world_of, all_worlds, TellsNothing}
use Rattle.masked_worlds.specs.Changes.{IsChange, word_at, shift, IsApart, IsPivot, place_of, shift_by, IsApartFrom}
use Rattle.masked_worlds.specs.Rule.{DeterminedTellsNothing, CarriedTellsNothing, ShiftedTellsNothing, CutTellsNothing, ApartTellsNothing}
use Rattle.masked_worlds.proofs.Tapes.{one-test, all-tapes}
use Rattle.masked_worlds.proofs.Permute.{tapes-agree, permuted}
use Rattle.masked_worlds.proofs.Words.{xor-twice, secret-low, secrets-same}
use Rattle.masked_worlds.proofs.Numbers.{same-secrets}
use Rattle.masked_worlds.proofs.Shifts.{within, shift_back, pivot-change, pivot-keeps-all, turn, turn_back, turn-change, turned, turn-apart}

-- what hangs neither on a pivot nor on its partner stays
pub apart-shifted : {X : Type 0} (pivot : Pivot) (f : List ℕ → X) → IsApartFrom pivot f → (d : List ℕ → ℕ) (t : List ℕ) → f (shift_by pivot d t) ≡ f t
apart-shifted (AtMask place) f apart d t = apart t (bit_xor (word_at t place) (d t))
apart-shifted (AtShares place partner) f apart d t =
    let u = shift place d t in
    apart.1 u (bit_xor (word_at u partner) (d u)) ∙ apart.0 t (bit_xor (word_at t place) (d t))

module _ (roles : List Role) (words : List ℕ) where
  -- a test of worlds of a secret, as one of tapes
  abbrev of_secret : ℕ → (World → Bool) → List ℕ → Bool
  of_secret a p t = (secrets_of roles t == a) && p (world_of roles t)

  kept_one : (a : ℕ) (p : World → Bool) (world : World) (rest : List World) (b : Bool)
      → count_by p (cond b (world ∷ rest) rest) ≡ bit (b && p world) + count_by p rest
  kept_one a p world rest true = count-cons p world rest
  kept_one a p world rest false = let nothing : bit false ≡ 0 = refl in omega (arith, nothing)

  in_worlds : (a : ℕ) (p : World → Bool) (ts : List (List ℕ)) → count_in (map (world_of roles) ts) a p ≡ count_by (of_secret a p) ts
  in_worlds a p [] = refl
  in_worlds a p (t ∷ ts) =
      kept_one a p (world_of roles t) (filter (λ (world : World). world.secret == a) (map (world_of roles) ts)) (secrets_of roles t == a)
      ∙ ap (λ (n : ℕ). bit (of_secret a p t) + n) (in_worlds a p ts)
      ∙ sym (count-cons (of_secret a p) t ts)

  -- worlds of a secret are counted as tapes of it
  pub count-tapes : (a : ℕ) (p : World → Bool) → count_in (all_worlds roles words) a p ≡ count_by (of_secret a p) (tapes roles words)
  count-tapes a p = in_worlds a p (tapes roles words)

  -- each world is that of a tape
  abbrev IsOfTape : World → Type 0
  IsOfTape world = (is_tape roles words world.tape ≡ true) × (world.secret ≡ secrets_of roles world.tape)

  pub all-of-tapes : All IsOfTape (all_worlds roles words)
  all-of-tapes =
      All-map IsOfTape (world_of roles) (tapes roles words)
      (λ k d low. (all-tapes roles words k d low, refl))

  -- what is so of the world of each tape is so of all worlds
  pub for-each-world : (P : World → Type 0) → ((t : List ℕ) → is_tape roles words t ≡ true → P (world_of roles t)) → All P (all_worlds roles words)
  for-each-world P so =
      All-map P (world_of roles) (tapes roles words)
      (λ k d low. so (get_or (tapes roles words) k d) (all-tapes roles words k d low))

  -- a secret that comes has a tape
  pub tape-of : (s : ℕ) → IsSecret (all_worlds roles words) s → (t : List ℕ) × (is_tape roles words t ≡ true) × (secrets_of roles t ≡ s)
  tape-of s (k, world, low, at, is) =
      let one : IsOfTape world = subst IsOfTape at (all-of-tapes k world low) in
      (world.tape, one.0, sym one.1 ∙ is)

  pub determined : {X Y : Type 0} (seen : List ℕ → X) (other : List ℕ → Y) (from : Y → X)
      → ((t : List ℕ) → is_tape roles words t ≡ true → seen t ≡ from (other t)) → TellsNothing roles words other → TellsNothing roles words seen
  determined {X} {Y} seen other from is hidden is_so a b one two =
      both a ∙ hidden (λ y. is_so (from y)) a b one two ∙ sym (both b)
    where
      both : (s : ℕ) → count_in (all_worlds roles words) s (λ world. is_so (seen world.tape))
          ≡ count_in (all_worlds roles words) s (λ world. is_so (from (other world.tape)))
      both s =
          count-tapes s (λ world. is_so (seen world.tape))
          ∙ tapes-agree roles words (λ t. (secrets_of roles t == s) && is_so (seen t)) (λ t. (secrets_of roles t == s) && is_so (from (other t)))
          (λ t good. ap (λ (x : X). (secrets_of roles t == s) && is_so x) (is t good))
          ∙ sym (count-tapes s (λ world. is_so (from (other world.tape))))

  pub carried : {X : Type 0} (change back : List ℕ → List ℕ) → IsChange roles words change back
      → ((t : List ℕ) → is_tape roles words t ≡ true → secrets_of roles (change t) ≡ secrets_of roles t)
      → (seen other : List ℕ → X) → ((t : List ℕ) → is_tape roles words t ≡ true → seen t ≡ other (change t))
      → TellsNothing roles words other → TellsNothing roles words seen
  carried {X} change back changes kept seen other is hidden is_so a b one two =
      both a ∙ hidden is_so a b one two ∙ sym (both b)
    where
      both : (s : ℕ) → count_in (all_worlds roles words) s (λ world. is_so (seen world.tape))
          ≡ count_in (all_worlds roles words) s (λ world. is_so (other world.tape))
      both s =
          count-tapes s (λ world. is_so (seen world.tape))
          ∙ tapes-agree roles words (λ t. (secrets_of roles t == s) && is_so (seen t))
          (λ t. (secrets_of roles (change t) == s) && is_so (other (change t)))
          (λ t good. ap (λ (n : ℕ). (n == s) && is_so (seen t)) (sym (kept t good))
          ∙ ap (λ (x : X). (secrets_of roles (change t) == s) && is_so x) (is t good))
          ∙ sym (permuted roles words change back changes (λ t. (secrets_of roles t == s) && is_so (other t)))
          ∙ sym (count-tapes s (λ world. is_so (other world.tape)))

  module _ (same : length roles ≡ length words) where
    pub shifted : {X : Type 0} (pivot : Pivot) → IsPivot roles pivot
        → (d : List ℕ → ℕ) → ((t : List ℕ) → is_tape roles words t ≡ true → d t < 2 ^ 32) → IsApartFrom pivot d
        → (seen other : List ℕ → X) → ((t : List ℕ) → is_tape roles words t ≡ true → seen t ≡ other (shift_by pivot d t))
        → TellsNothing roles words other → TellsNothing roles words seen
    shifted {X} pivot is d low apart seen other same_seen hidden =
        carried (shift_by pivot d) (shift_back roles words pivot d) (pivot-change roles words pivot is d low apart)
        (pivot-keeps-all roles words same pivot is d low apart) seen other same_seen hidden

    -- the word at a pivot after a word was added there
    pub word-shifted : (pivot : Pivot) → IsPivot roles pivot → (d : List ℕ → ℕ) (t : List ℕ) → is_tape roles words t ≡ true
        → word_at (shift_by pivot d t) (place_of pivot) ≡ bit_xor (word_at t (place_of pivot)) (d t)
    word-shifted (AtMask place) is d t good = get_or-set_same t place (bit_xor (word_at t place) (d t)) 0 (within roles words same place _ is t good)
    word-shifted (AtShares place partner) is d t good =
        let u = shift place d t in
        get_or-set_other u partner place (bit_xor (word_at u partner) (d u)) 0 (λ e. is.3 (sym e))
        ∙ get_or-set_same t place (bit_xor (word_at t place) (d t)) 0 (within roles words same place (Share is.0) is.1 t good)

    pub cut : (pivot : Pivot) → IsPivot roles pivot
        → (e : List ℕ → ℕ) → ((t : List ℕ) → is_tape roles words t ≡ true → e t < 2 ^ 32) → IsApartFrom pivot e
        → (others : List ℕ → List ℕ) → IsApartFrom pivot others
        → TellsNothing roles words (λ t. word_at t (place_of pivot) ∷ others t)
        → TellsNothing roles words (λ t. bit_xor (word_at t (place_of pivot)) (e t) ∷ others t)
    cut pivot is e low apart others aside hidden =
        shifted pivot is e low apart (λ t. bit_xor (word_at t (place_of pivot)) (e t) ∷ others t) (λ t. word_at t (place_of pivot) ∷ others t)
        (λ t good.
        let first = word-shifted pivot is e t good in
        let rest = apart-shifted pivot others aside e t in
        λ i. sym first i ∷ sym rest i) hidden

    -- What hangs, of each secret, on all shares but one.
    module _ {X : Type 0} (left_out : ℕ → ℕ) (have : (k : ℕ) → k < secret_count roles → slice_get roles (left_out k) ≡ Some (Share k))
        (seen : List ℕ → X) (apart : (k : ℕ) → k < secret_count roles → IsApart (left_out k) seen) where
      abbrev N : ℕ
      N = secret_count roles

      -- from the worlds of one tuple of secrets to those of another
      module _ (ta tb : List ℕ) (one : is_tape roles words ta ≡ true) (two : is_tape roles words tb ≡ true) where
        abbrev c : ℕ → ℕ
        c k = bit_xor (secret_at roles k ta) (secret_at roles k tb)

        low : (k : ℕ) → bit_xor (secret_at roles k ta) (secret_at roles k tb) < 2 ^ 32
        low k = xor_lt 32 (secret_at roles k ta) (secret_at roles k tb) (secret-low roles words ta k one) (secret-low roles words tb k two)

        changes : IsChange roles words (turn left_out c (secret_count roles)) (turn_back left_out c (secret_count roles))
        changes = turn-change roles words same left_out c low (secret_count roles) have

        -- x + (x + y) is y
        cancel : (x y : ℕ) → bit_xor x (bit_xor x y) ≡ y
        cancel x y = sym (xor_assoc x x y) ∙ ap (λ (z : ℕ). bit_xor z y) (xor_self x) ∙ xor_zero_l y

        back_to : (s x y : ℕ) → bit_xor s (bit_xor x y) ≡ x → s ≡ y
        back_to s x y is = sym (xor-twice s (bit_xor x y)) ∙ ap (λ (z : ℕ). bit_xor z (bit_xor x y)) is ∙ cancel x y

        forth_to : (x y : ℕ) → bit_xor y (bit_xor x y) ≡ x
        forth_to x y = xor_comm y (bit_xor x y) ∙ xor-twice x y

        turns_to : (t : List ℕ) → is_tape roles words t ≡ true → secrets_of roles (turn left_out c (secret_count roles) t) ≡ secrets_of roles ta
            → secrets_of roles t ≡ secrets_of roles tb
        turns_to t good is =
            secrets-same (secret_count roles) roles t tb (λ k less.
            back_to (secret_at roles k t) (secret_at roles k ta) (secret_at roles k tb)
            (sym (turned roles words same left_out c low t good (secret_count roles) have k less)
            ∙ same-secrets roles words (turn left_out c (secret_count roles) t) ta (changes.keeps t good) one (secret_count roles) is k less))

        turns_from : (t : List ℕ) → is_tape roles words t ≡ true → secrets_of roles t ≡ secrets_of roles tb
            → secrets_of roles (turn left_out c (secret_count roles) t) ≡ secrets_of roles ta
        turns_from t good is =
            secrets-same (secret_count roles) roles (turn left_out c (secret_count roles) t) ta (λ k less.
            turned roles words same left_out c low t good (secret_count roles) have k less
            ∙ ap (λ (z : ℕ). bit_xor z (c k)) (same-secrets roles words t tb good two (secret_count roles) is k less)
            ∙ forth_to (secret_at roles k ta) (secret_at roles k tb))

        turns : (a b : ℕ) → secrets_of roles ta ≡ a → secrets_of roles tb ≡ b → (t : List ℕ) → is_tape roles words t ≡ true
            → (secrets_of roles (turn left_out c (secret_count roles) t) == a) ≡ (secrets_of roles t == b)
        turns a b is_a is_b t good =
            let u = turn left_out c (secret_count roles) t in
            one-test (secrets_of roles u == a) (secrets_of roles t == b)
            (λ e. eq-eqb (secrets_of roles t) b (turns_to t good (eqb-true (secrets_of roles u) a e ∙ sym is_a) ∙ is_b))
            (λ e. eq-eqb (secrets_of roles u) a (turns_from t good (eqb-true (secrets_of roles t) b e ∙ sym is_b) ∙ is_a))

        counts : (a b : ℕ) → secrets_of roles ta ≡ a → secrets_of roles tb ≡ b → (is_so : X → Bool)
            → count_in (all_worlds roles words) a (λ world. is_so (seen world.tape)) ≡ count_in (all_worlds roles words) b (λ world. is_so (seen world.tape))
        counts a b is_a is_b is_so =
            count-tapes a (λ world. is_so (seen world.tape))
            ∙ permuted roles words (turn left_out c (secret_count roles)) (turn_back left_out c (secret_count roles)) changes
            (λ t. (secrets_of roles t == a) && is_so (seen t))
            ∙ tapes-agree roles words
            (λ t. (secrets_of roles (turn left_out c (secret_count roles) t) == a) && is_so (seen (turn left_out c (secret_count roles) t)))
            (λ t. (secrets_of roles t == b) && is_so (seen t))
            (λ t good.
            ap (λ (e : Bool). e && is_so (seen (turn left_out c (secret_count roles) t))) (turns a b is_a is_b t good)
            ∙ ap (λ (x : X). (secrets_of roles t == b) && is_so x) (turn-apart left_out c seen (secret_count roles) apart t))
            ∙ sym (count-tapes b (λ world. is_so (seen world.tape)))

      pub apart-hidden : TellsNothing roles words seen
      apart-hidden is_so a b one two =
          let ta = tape-of a one in
          let tb = tape-of b two in
          counts ta.0 tb.0 ta.1 tb.1 a b ta.2 tb.2 is_so

pub determined-tells-nothing : DeterminedTellsNothing
determined-tells-nothing roles words seen other from is hidden = determined roles words seen other from is hidden

pub carried-tells-nothing : CarriedTellsNothing
carried-tells-nothing roles words change back changes kept seen other is hidden = carried roles words change back changes kept seen other is hidden

pub shifted-tells-nothing : ShiftedTellsNothing
shifted-tells-nothing roles words same pivot is d low apart seen other same_seen hidden =
    shifted roles words same pivot is d low apart seen other same_seen hidden

pub cut-tells-nothing : CutTellsNothing
cut-tells-nothing roles words same pivot is e low apart others aside hidden = cut roles words same pivot is e low apart others aside hidden

pub apart-tells-nothing : ApartTellsNothing
apart-tells-nothing roles words same left_out have seen apart = apart-hidden roles words same left_out have seen apart
