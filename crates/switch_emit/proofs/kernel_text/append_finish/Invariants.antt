-- The lines so far, and those of the registers that are left, are the lines of all.
use Rattle.std.proofs.Common.{◌≡◌, ◌-◌, ◌++◌, ◌∷◌, []}
use Rattle.std.specs.List.{flat_map}
use Rattle.core_model.specs.KernelText.{numbers_from, registers, sw, saved, x0, x5}
use Rattle.switch_emit.proofs.kernel_text.append_finish.Given as goal

abbrev pub invariant-loop-register : goal.invariant-loop-register
invariant-loop-register l =
    l.text ++ flat_map (λ i. sw x0 (saved i) x5 ∷ []) (numbers_from l.register (32 - l.register))
    ≡ l.initial.text ++ flat_map (λ i. sw x0 (saved i) x5 ∷ []) registers
