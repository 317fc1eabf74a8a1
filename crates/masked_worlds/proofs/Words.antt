-- Tapes one of whose words is set, and their secrets.
use Rattle.std.proofs.Common.{◌≡◌, ℕ, zero, suc, ◌+◌, ◌*◌, ◌^◌, ◌<◌, ◌==◌, Bool, true, false, List, [], ◌∷◌, length, set, slice_get, Some, refl, ap, sym, ◌∙◌, arith, true≢false, lt-ltb, ltb-true}
use Rattle.std.specs.Prelude.{bit_xor, nat_lt, if◌then◌else◌}
use Rattle.std.specs.Int.Bits.{xor_assoc, xor_comm, xor_self, xor_zero_r}
use Rattle.std.proofs.lemmas.Nat.{xor_lt}
use Rattle.std.proofs.lemmas.Bool.{and_from, and_parts}
use Rattle.core_model.proofs.Lists.{some-is}
use Rattle.masked_worlds.specs.declared.role.Role.{Role}
use Rattle.masked_worlds.specs.declared.role.Role.TheVariants.{Public, Mask, Share}
use Rattle.masked_worlds.specs.Tapes.{is_free, is_choice, is_tape}
use Rattle.masked_worlds.specs.Secrets.{is_share_of, secret_at, secrets_below}
use Rattle.masked_worlds.specs.Changes.{word_at}

pub xor-twice : (v d : ℕ) → bit_xor (bit_xor v d) d ≡ v
xor-twice v d = xor_assoc v d d ∙ ap (bit_xor v) (xor_self d) ∙ xor_zero_r v

-- the last of three words comes to the front
xor_turned : (v d s : ℕ) → bit_xor (bit_xor v d) s ≡ bit_xor (bit_xor v s) d
xor_turned v d s = xor_assoc v d s ∙ ap (bit_xor v) (xor_comm d s) ∙ sym (xor_assoc v s d)

free_choice : (role : Role) (word v : ℕ) → is_free role ≡ true → is_choice role word v ≡ nat_lt v (2 ^ 32)
free_choice role word v free = ap (λ (b : Bool). if b then nat_lt v (2 ^ 32) else v == word) free

-- a tape with a word set where a word is free is a tape
pub tape-set : (roles : List Role) (words t : List ℕ) (place : ℕ) (role : Role) (x : ℕ) → slice_get roles place ≡ Some role → is_free role ≡ true
    → x < 2 ^ 32 → is_tape roles words t ≡ true → is_tape roles words (set t place x) ≡ true
tape-set [] words t place role x at free low is = absurd (cc at)
tape-set (r ∷ rs) [] [] place role x at free low is = refl
tape-set (r ∷ rs) [] (v ∷ vs) place role x at free low is = absurd (true≢false (sym is))
tape-set (r ∷ rs) (w ∷ ws) [] place role x at free low is = absurd (true≢false (sym is))
tape-set (r ∷ rs) (w ∷ ws) (v ∷ vs) zero role x at free low is =
    let parts = and_parts (is_choice r w v) (is_tape rs ws vs) is in
    let same : is_free r ≡ true = ap is_free (some-is at) ∙ free in
    and_from (is_choice r w x) (is_tape rs ws vs) (free_choice r w x same ∙ lt-ltb x (2 ^ 32) low) parts.1
tape-set (r ∷ rs) (w ∷ ws) (v ∷ vs) (suc place) role x at free low is =
    let parts = and_parts (is_choice r w v) (is_tape rs ws vs) is in
    and_from (is_choice r w v) (is_tape rs ws (set vs place x)) parts.0 (tape-set rs ws vs place role x at free low parts.1)

-- a free word of a tape has 32 bits
pub word-low : (roles : List Role) (words t : List ℕ) (place : ℕ) (role : Role) → slice_get roles place ≡ Some role → is_free role ≡ true
    → is_tape roles words t ≡ true → word_at t place < 2 ^ 32
word-low [] words t place role at free is = absurd (cc at)
word-low (r ∷ rs) [] [] place role at free is = omega arith
word-low (r ∷ rs) [] (v ∷ vs) place role at free is = absurd (true≢false (sym is))
word-low (r ∷ rs) (w ∷ ws) [] place role at free is = absurd (true≢false (sym is))
word-low (r ∷ rs) (w ∷ ws) (v ∷ vs) zero role at free is =
    let parts = and_parts (is_choice r w v) (is_tape rs ws vs) is in
    let same : is_free r ≡ true = ap is_free (some-is at) ∙ free in
    ltb-true v (2 ^ 32) (sym (free_choice r w v same) ∙ parts.0)
word-low (r ∷ rs) (w ∷ ws) (v ∷ vs) (suc place) role at free is =
    let parts = and_parts (is_choice r w v) (is_tape rs ws vs) is in word-low rs ws vs place role at free parts.1

-- a word added twice
pub set-twice : (t : List ℕ) (place d : ℕ)
    → set (set t place (bit_xor (word_at t place) d)) place (bit_xor (word_at (set t place (bit_xor (word_at t place) d)) place) d) ≡ t
set-twice [] place d = refl
set-twice (v ∷ vs) zero d = ap (λ (x : ℕ). x ∷ vs) (xor-twice v d)
set-twice (v ∷ vs) (suc place) d = ap (λ (xs : List ℕ). v ∷ xs) (set-twice vs place d)

-- a word added at a place is added to the secrets that it is a share of
pub secret-set : (roles : List Role) (t : List ℕ) (place : ℕ) (role : Role) (k d : ℕ) → slice_get roles place ≡ Some role → place < length t
    → secret_at roles k (set t place (bit_xor (word_at t place) d))
    ≡ (if is_share_of k role then bit_xor (secret_at roles k t) d else secret_at roles k t)
secret-set [] t place role k d at within = absurd (cc at)
secret-set (r ∷ rs) [] place role k d at within = absurd (omega (arith, within))
secret-set (r ∷ rs) (v ∷ vs) zero role k d at within =
    let s = secret_at rs k vs in
    first (is_share_of k r) v s
    ∙ ap (λ (b : Bool). if b then bit_xor (if is_share_of k r then bit_xor v s else s) d else (if is_share_of k r then bit_xor v s else s))
    (ap (is_share_of k) (some-is at))
  where
    first : (b : Bool) (v s : ℕ) → (if b then bit_xor (bit_xor v d) s else s)
        ≡ (if b then bit_xor (if b then bit_xor v s else s) d else (if b then bit_xor v s else s))
    first true v s = xor_turned v d s
    first false v s = refl
secret-set (r ∷ rs) (v ∷ vs) (suc place) role k d at within =
    ap (λ (x : ℕ). if is_share_of k r then bit_xor v x else x) (secret-set rs vs place role k d at (omega (arith, within)))
    ∙ rest (is_share_of k r) (is_share_of k role) (secret_at rs k vs)
  where
    rest : (b c : Bool) (s : ℕ) → (if b then bit_xor v (if c then bit_xor s d else s) else (if c then bit_xor s d else s))
        ≡ (if c then bit_xor (if b then bit_xor v s else s) d else (if b then bit_xor v s else s))
    rest true true s = sym (xor_assoc v s d)
    rest true false s = refl
    rest false true s = refl
    rest false false s = refl

-- a secret of a tape has 32 bits
pub secret-low : (roles : List Role) (words t : List ℕ) (k : ℕ) → is_tape roles words t ≡ true → secret_at roles k t < 2 ^ 32
secret-low [] words t k is = omega arith
secret-low (r ∷ rs) words [] k is = omega arith
secret-low (r ∷ rs) [] (v ∷ vs) k is = absurd (true≢false (sym is))
secret-low (r ∷ rs) (w ∷ ws) (v ∷ vs) k is =
    let parts = and_parts (is_choice r w v) (is_tape rs ws vs) is in
    go r parts.0 (secret-low rs ws vs k parts.1)
  where
    go : (role : Role) → is_choice role w v ≡ true → secret_at rs k vs < 2 ^ 32
        → (if is_share_of k role then bit_xor v (secret_at rs k vs) else secret_at rs k vs) < 2 ^ 32
    go Public one low = low
    go Mask one low = low
    go (Share j) one low = share (j == k)
      where
        share : (b : Bool) → (if b then bit_xor v (secret_at rs k vs) else secret_at rs k vs) < 2 ^ 32
        share true = xor_lt 32 v (secret_at rs k vs) (ltb-true v (2 ^ 32) one) low
        share false = low

-- tapes with the same secrets below a number, as one number and one by one
pub secrets-same : (n : ℕ) (roles : List Role) (t u : List ℕ) → ((k : ℕ) → k < n → secret_at roles k t ≡ secret_at roles k u)
    → secrets_below n roles t ≡ secrets_below n roles u
secrets-same zero roles t u same = refl
secrets-same (suc n) roles t u same =
    let rest : secrets_below n roles t ≡ secrets_below n roles u = secrets-same n roles t u (λ k low. same k (omega (arith, low))) in
    let here : secret_at roles n t ≡ secret_at roles n u = same n (omega arith) in
    λ i. rest i + 2 ^ (32 * n) * here i
