-- The lines so far, and those of the registers that are left, are the lines of all.
use Rattle.std.proofs.Common.{◌≡◌, ◌-◌, ◌++◌, not, ◌==◌}
use Rattle.std.specs.List.{flat_map, filter}
use Rattle.core_model.specs.KernelText.{numbers_from, registers_but_x5, save_register, x5}
use Rattle.switch_emit.proofs.kernel_text.append_saves.Given as goal

abbrev pub invariant-loop-register : goal.invariant-loop-register
invariant-loop-register l =
    l.text ++ flat_map save_register (filter (λ i. not (i == x5)) (numbers_from l.register (32 - l.register))) ≡ l.initial.text ++ flat_map save_register registers_but_x5
