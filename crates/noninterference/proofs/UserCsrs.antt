-- What two CSR files that are alike have in common.
use Rattle.std.proofs.Common.{◌≡◌, refl, ap, sym, ◌∙◌}
use Rattle.hart_model.specs.declared.tag.Cell.{Cell}
use Rattle.hart_model.specs.declared.tag.Mode.TheVariants.{User, Machine}
use Rattle.hart_model.specs.Csrs.{CsrFile}
use Rattle.core_model.specs.AlikeHarts.{AreCsrsAlike}

-- what doesn't look at mscratch is the same
pub csrs-agree : {A : Type 0} (f : CsrFile → A) (a b : CsrFile) → AreCsrsAlike a b
    → ((c : CsrFile) (m : Cell) → f (record c { mscratch = m }) ≡ f c) → f a ≡ f b
csrs-agree f a b alike blind = sym (blind a b.mscratch) ∙ ap f alike.others

-- so none is in user mode while the other is in machine mode
pub user-alone : (a b : CsrFile) → AreCsrsAlike a b → a.mode ≡ User → b.mode ≡ Machine → ⊥
user-alone a b alike e f =
    let clash : User ≡ Machine = sym e ∙ csrs-agree (λ (c : CsrFile). c.mode) a b alike (λ c m. refl) ∙ f in absurd (cc clash)

pub machine-alone : (a b : CsrFile) → AreCsrsAlike a b → a.mode ≡ Machine → b.mode ≡ User → ⊥
machine-alone a b alike e f =
    let clash : Machine ≡ User = sym e ∙ csrs-agree (λ (c : CsrFile). c.mode) a b alike (λ c m. refl) ∙ f in absurd (cc clash)
