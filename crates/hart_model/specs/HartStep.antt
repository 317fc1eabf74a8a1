-- A step of a hart by its mode, and what an answered queue action leaves (this project's own).
use Rattle.std.specs.Prelude.{ℕ, List, [], ◌∷◌, ◌++◌, Option, Some, None, ◌==◌, if◌then◌else◌}
use Rattle.hart_model.specs.declared.place.Place.TheVariants.{Reg, Load}
use Rattle.hart_model.specs.declared.tag.Mode.{Mode}
use Rattle.hart_model.specs.declared.tag.Mode.TheVariants.{User, Machine}
use Rattle.hart_model.specs.declared.tag.Cell.{Cell}
use Rattle.hart_model.specs.Csrs.{public}
use Rattle.hart_model.specs.Context.{ContextState, slot_address}
use Rattle.hart_model.specs.HartState.{HartState}
use Rattle.hart_model.specs.Writes.{CellWrite, HartAndProbes, after_writes}
use Rattle.hart_model.specs.StepResult.{StepResult}
use Rattle.hart_model.specs.UserStep.{user_step}
use Rattle.hart_model.specs.MachineStep.{machine_step}

abbrev pub step_by_mode : List ℕ → HartState → Mode → StepResult
step_by_mode code h User = user_step h
step_by_mode code h Machine = machine_step code h

-- one step of a hart, with the words of the kernel's code
abbrev pub hart_step : List ℕ → HartState → StepResult
hart_step code h = step_by_mode code h h.csrs.mode

-- what the load of a take gives: the address of the slot, or 0 where the queue had nothing
abbrev pub take_cell : Option ContextState → Cell
take_cell None = public 0
take_cell (Some c) = public (slot_address c.slot)

-- the loaded word goes to the latch Load and to rd, if that isn't x0
abbrev pub loaded_writes : ℕ → Cell → List CellWrite
loaded_writes rd cell = record { at = Load; cell = cell } ∷ (if rd == 0 then [] else record { at = Reg rd; cell = cell } ∷ [])

-- The hart after the answer to a take: the writes of PortA and Res that the load has begun with, then those of the loaded word; what
-- was got is held, and the hart goes on.
abbrev pub answer_take : List CellWrite → ℕ → ℕ → Option ContextState → HartState → HartAndProbes
answer_take early_writes rd next got h =
    let a = after_writes (early_writes ++ loaded_writes rd (take_cell got)) h in
    record { hart = record a.hart { pc = next; held = got }; probes = a.probes }

-- The hart after it gave what it held: the writes of PortA, PortB, Res and Store, and nothing is held.
abbrev pub answer_give : List CellWrite → ℕ → HartState → HartAndProbes
answer_give early_writes next h =
    let a = after_writes early_writes h in
    record { hart = record a.hart { pc = next; held = None }; probes = a.probes }
