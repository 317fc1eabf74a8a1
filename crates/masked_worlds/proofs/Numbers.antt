-- Secrets as one number: its digits of 32 bits.
use Rattle.std.proofs.Common.{◌≡◌, ℕ, zero, suc, ◌+◌, ◌*◌, ◌/◌, ◌%◌, ◌^◌, ◌<◌, ◌≤◌, ◌⊎◌, inl, inr, true, List, ap, sym, ◌∙◌, subst, arith}
use Rattle.std.proofs.Math.Nat.{mul_comm, zero-div, div_self}
use Rattle.std.proofs.lemmas.Nat.{mul-add-lt, div-mul-add, mod-mul-add, mod-pow-add, pow-add, pow_pos}
use Rattle.std.proofs.lemmas.Bool.{cases_lt}
use Rattle.masked_worlds.specs.declared.role.Role.{Role}
use Rattle.masked_worlds.specs.Tapes.{is_tape}
use Rattle.masked_worlds.specs.Secrets.{secret_at, secrets_below}
use Rattle.masked_worlds.proofs.Words.{secret-low}

-- digit number k
abbrev pub digit : ℕ → ℕ → ℕ
digit k s = s / 2 ^ (32 * k) % 2 ^ 32

pub digit-zero : (k : ℕ) → digit k 0 ≡ 0
digit-zero k = ap (λ (n : ℕ). n % 2 ^ 32) (zero-div (2 ^ (32 * k)))

pub digit-one : (k : ℕ) → digit k (2 ^ (32 * k)) ≡ 1
digit-one k = ap (λ (n : ℕ). n % 2 ^ 32) (div_self (pow_pos (32 * k)))

one_more : (n : ℕ) → 32 * suc n ≡ 32 + 32 * n
one_more n = omega arith

-- the digit in front
in_front : (x w y : ℕ) → x + w * y ≡ y * w + x
in_front x w y = ap (λ (p : ℕ). x + p) (mul_comm w y) ∙ turned x (y * w)
  where
    turned : (a b : ℕ) → a + b ≡ b + a
    turned a b = omega arith

pub secrets-low : (n : ℕ) (roles : List Role) (words t : List ℕ) → is_tape roles words t ≡ true → secrets_below n roles t < 2 ^ (32 * n)
secrets-low zero roles words t is = omega arith
secrets-low (suc n) roles words t is =
    let rest = secrets-low n roles words t is in
    let here = secret-low roles words t n is in
    let low = mul-add-lt (secret_at roles n t) (2 ^ (32 * n)) (secrets_below n roles t) (2 ^ 32) here rest in
    subst (λ (m : ℕ). secrets_below n roles t + 2 ^ (32 * n) * secret_at roles n t < m)
    (sym (ap (λ (m : ℕ). 2 ^ m) (one_more n ∙ turned n) ∙ pow-add 2 (32 * n) 32))
    (subst (λ (m : ℕ). m < 2 ^ (32 * n) * 2 ^ 32) (sym (in_front (secrets_below n roles t) (2 ^ (32 * n)) (secret_at roles n t))) low)
  where
    turned : (n : ℕ) → 32 + 32 * n ≡ 32 * n + 32
    turned n = omega arith

-- Tapes with the same number have the same secrets.
module _ (roles : List Role) (words t u : List ℕ) (one : is_tape roles words t ≡ true) (two : is_tape roles words u ≡ true) where
  pub same-secrets : (n : ℕ) → secrets_below n roles t ≡ secrets_below n roles u → (k : ℕ) → k < n → secret_at roles k t ≡ secret_at roles k u
  same-secrets zero same k low = absurd (omega (arith, low))
  same-secrets (suc n) same k low =
      let w = 2 ^ (32 * n) in
      let x = secrets_below n roles t in
      let y = secrets_below n roles u in
      let p = secret_at roles n t in
      let q = secret_at roles n u in
      let less : x < w = secrets-low n roles words t one in
      let under : y < w = secrets-low n roles words u two in
      let fronts : p * w + x ≡ q * w + y = sym (in_front x w p) ∙ same ∙ in_front y w q in
      let digits : p ≡ q = sym (div-mul-add p w x less) ∙ ap (λ (m : ℕ). m / w) fronts ∙ div-mul-add q w y under in
      let rests : x ≡ y = sym (mod-mul-add p w x less) ∙ ap (λ (m : ℕ). m % w) fronts ∙ mod-mul-add q w y under in
      go digits (λ less. same-secrets n rests k less) (cases_lt k n)
    where
      go : secret_at roles n t ≡ secret_at roles n u → (k < n → secret_at roles k t ≡ secret_at roles k u) → (k < n) ⊎ (n ≤ k)
          → secret_at roles k t ≡ secret_at roles k u
      go digits before (inl less) = before less
      go digits before (inr past) =
          let at : k ≡ n = omega (arith, low, past) in
          subst (λ (j : ℕ). secret_at roles j t ≡ secret_at roles j u) (sym at) digits

-- the number whose digits are the secrets
pub secrets-digits : (n : ℕ) (roles : List Role) (t : List ℕ) (s : ℕ) → ((k : ℕ) → k < n → secret_at roles k t ≡ digit k s)
    → secrets_below n roles t ≡ s % 2 ^ (32 * n)
secrets-digits zero roles t s are = none s
  where
    none : (s : ℕ) → 0 ≡ s % 1
    none s = omega arith
secrets-digits (suc n) roles t s are =
    let rest : secrets_below n roles t ≡ s % 2 ^ (32 * n) = secrets-digits n roles t s (λ k low. are k (omega (arith, low))) in
    let here : secret_at roles n t ≡ digit n s = are n (omega arith) in
    let sum : secrets_below n roles t + 2 ^ (32 * n) * secret_at roles n t ≡ s % 2 ^ (32 * n) + 2 ^ (32 * n) * digit n s =
    λ i. rest i + 2 ^ (32 * n) * here i in
    sum ∙ in_front (s % 2 ^ (32 * n)) (2 ^ (32 * n)) (digit n s) ∙ sym (ap (λ (m : ℕ). s % 2 ^ m) (one_more n) ∙ mod-pow-add s 32 (32 * n))
