-- What contracts see of a whole effect in code.
use Rattle.isa_model.specs.Effect.{Effect}
use Rattle.rv_effect.specs.declared.effect.Effect.{Effect as CodeEffect}
use Rattle.rv_effect.specs.View.{writes_of, optional_csr_write_of, next_of}

abbrev pub effect_value : CodeEffect → Effect
effect_value e = record { writes = writes_of e.writes; csr = optional_csr_write_of e.csr; next = next_of e.next }
