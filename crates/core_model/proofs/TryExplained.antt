-- Entries of a worked example and what explains them.
use Rattle.std.proofs.Common.{refl, [], ◌∷◌}
use Rattle.isa_model.specs.declared.latch.Latch.TheVariants.{Reg, Res}
use Rattle.isa_model.specs.Alone.{alone_at, after_instr}
use Rattle.hart_model.specs.declared.probe.Probe.{Probe}
use Rattle.hart_model.specs.declared.probe.Why.TheVariants.{Public, Value, Step, Unexplained}
use Rattle.hart_model.specs.declared.probe.Side.TheVariants.{Now}
use Rattle.core_model.specs.Explained.{IsExplained}
use Rattle.core_model.proofs.TryCore.{task}

-- the first instruction writes 42 to x10
abbrev first_value : Probe
first_value = record { hart = 0; pc = 0x100000; latch = Reg 10; was = 0; now = 0x2a; why = Value 0 1 (Reg 10) Now }

value_holds : IsExplained (task ∷ []) first_value
unfolding alone_at after_instr
value_holds = record { task = task; is_task = refl; is_value = refl }

-- and the second one changes Res from 42 to 1
abbrev second_change : Probe
second_change = record { hart = 0; pc = 0x100004; latch = Res; was = 0x2a; now = 1; why = Step 0 1 Res }

change_holds : IsExplained (task ∷ []) second_change
unfolding alone_at after_instr
change_holds = (refl, record { task = task; is_task = refl; is_change = refl })

public_holds : IsExplained [] (record second_change { why = Public })
public_holds = tt

-- not at all where there is no why
unexplained : ¬ IsExplained (task ∷ []) (record first_value { why = Unexplained })
unexplained = elim [ ]
