-- Each latch has the term.
use Rattle.std.proofs.Common.{◌≡◌, ℕ, zero, suc, List, [], ◌∷◌, get_or, refl}
use Rattle.isa_model.specs.declared.latch.Latch.{Latch}
use Rattle.isa_model.specs.declared.latch.Latch.TheVariants as latches
use Rattle.masked_run.specs.Places.{term_at}
use Rattle.masked_run.proofs.latches.Latches.new.Goals as goal

abbrev copies : ℕ → ℕ → List ℕ
copies zero t = []
copies (suc n) t = t ∷ copies n t

copies-same : (n t i : ℕ) → get_or (copies n t) i t ≡ t
copies-same zero t i = refl
copies-same (suc n) t zero = refl
copies-same (suc n) t (suc i) = copies-same n t i

uniform : (t : ℕ) (l : Latch) → term_at (record { regs = copies 32 t; port_a = t; port_b = t; res = t; load = t; store = t; mul = t; none = t }) l ≡ t
uniform t (latches.Reg r) = copies-same 32 t r
uniform t latches.PortA = refl
uniform t latches.PortB = refl
uniform t latches.Res = refl
uniform t latches.Load = refl
uniform t latches.Store = refl
uniform t latches.Scr = refl
uniform t latches.Mul = refl
uniform t (latches.Mem at) = refl

pub returns : goal.returns
returns c = record { terms = uniform c.args.term }
