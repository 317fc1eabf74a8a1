-- What an answer says of its token, at each answer.
use Rattle.std.proofs.Common.{◌≡◌, ◌↔◌, Result, Ok, Err, refl, ap, subst}
use Rattle.bundle_text.specs.declared.bundle.BundleKind.{BundleKind}
use Rattle.bundle_text.specs.declared.bundle.BundleKind.TheVariants.{BadNumber, OutOfRange}

-- The answer is the value that is spelled, where it is in range; BadNumber where none is spelled; and OutOfRange where one is spelled
-- that is out of range.
pub record Decides {R : Type 0} (Spelled In Out : R → Type 0) (answer : Result R BundleKind) : Type 0 where
  pub value : (r : R) → (answer ≡ Ok r) ↔ (Spelled r × In r)
  pub bad_number : (answer ≡ Err BadNumber) ↔ ((r : R) → Spelled r → ⊥)
  pub out_of_range : (answer ≡ Err OutOfRange) ↔ ((r : R) × Spelled r × Out r)

pub decides_ok : {R : Type 0} (Spelled In Out : R → Type 0) → ((a b : R) → Spelled a → Spelled b → a ≡ b) → ((r : R) → In r → Out r → ⊥)
    → (r : R) → Spelled r → In r → Decides Spelled In Out (Ok r)
decides_ok {R} Spelled In Out one apart r s i = record {
  value = λ q. (λ e. let same : r ≡ q = cc in (subst Spelled same s, subst In same i), λ p. ap Ok (one r q s p.0));
  bad_number = (λ e. cc, λ none. absurd (none r s));
  out_of_range = (λ e. cc, λ p. absurd (apart p.0 (subst In (one r p.0 s p.1) i) p.2));
}

pub decides_bad : {R : Type 0} (Spelled In Out : R → Type 0) → ((r : R) → Spelled r → ⊥) → Decides Spelled In Out (Err BadNumber)
decides_bad {R} Spelled In Out none = record {
  value = λ q. (λ e. cc, λ p. absurd (none q p.0));
  bad_number = (λ e. none, λ p. refl);
  out_of_range = (λ e. cc, λ p. absurd (none p.0 p.1));
}

pub decides_out : {R : Type 0} (Spelled In Out : R → Type 0) → ((a b : R) → Spelled a → Spelled b → a ≡ b) → ((r : R) → In r → Out r → ⊥)
    → (r : R) → Spelled r → Out r → Decides Spelled In Out (Err OutOfRange)
decides_out {R} Spelled In Out one apart r s o = record {
  value = λ q. (λ e. cc, λ p. absurd (apart q p.1 (subst Out (one r q s p.0) o)));
  bad_number = (λ e. cc, λ none. absurd (none r s));
  out_of_range = (λ e. (r, s, o), λ p. refl);
}
