-- It goes on at a multiple of 4, as its definition does.
use Rattle.std.proofs.Common.{ap, sym, subst}
use Rattle.isa_model.specs.Effect.{Next, Effect}
use Rattle.isa_model.specs.Effect.{GoesAligned}
use Rattle.rv_effect.specs.View.{operands_of}
use Rattle.isa_model.proofs.RunLaws.{next_aligned}
use Rattle.rv_effect.proofs.csr_forms.effect_of.Goals as goal

pub returns-clause-aligned : goal.returns-clause-aligned
returns-clause-aligned c =
    let same = ap (λ (e : Effect). e.next) c.effect_anywhere.ensures.effect in
    subst (λ (n : Next). GoesAligned n) (sym same) (next_aligned c.args.instr.now c.args.pc (operands_of c.args.o.now) c.requires.aligned)
