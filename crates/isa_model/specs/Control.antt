-- The control of a task: for each instruction that it executes alone, its place and its deed. An end by used fuel is no deed: it
-- stands where the list has as many items as the fuel and the last one isn't an end.
use Rattle.std.specs.Prelude.{◌≡◌, ℕ, zero, suc, List, [], ◌∷◌, ◌++◌, Option, is_none, option_map, if◌then◌else◌}
use Rattle.isa_model.specs.declared.control.Control.{Control}
use Rattle.isa_model.specs.declared.ends.End.{End}
use Rattle.isa_model.specs.declared.ends.End.TheVariants.{Exited, Faulted, BadCall, TapeEnd, OutFull, OutOfSteps}
use Rattle.isa_model.specs.declared.ends.EndKind.{EndKind}
use Rattle.isa_model.specs.declared.ends.EndKind.TheVariants as kinds
use Rattle.isa_model.specs.declared.task.Task.{Task}
use Rattle.isa_model.specs.Alone.{alone_at, after_instr, last_of}

-- of instruction n
abbrev pub control_at : Task → ℕ → Control
control_at T n = record { pc = (alone_at T n).pc; deed = (after_instr T (alone_at T n)).deed }

-- of those of the first n instructions that are executed
unfoldable pub control_to : Task → ℕ → List Control
control_to T zero = []
control_to T (suc n) = if is_none (alone_at T n).end then control_to T n ++ control_at T n ∷ [] else control_to T n

abbrev pub control_of : Task → List Control
control_of T = control_to T T.fuel

-- the kind of an end
abbrev pub kind_of : End → EndKind
kind_of (Exited code) = kinds.Exited
kind_of (Faulted cause pc) = kinds.Faulted cause
kind_of (BadCall number) = kinds.BadCall number
kind_of TapeEnd = kinds.TapeEnd
kind_of OutFull = kinds.OutFull
kind_of OutOfSteps = kinds.OutOfSteps

-- the kind of end of the whole run
abbrev pub end_kind_of : Task → Option EndKind
end_kind_of T = option_map kind_of (last_of T).end

-- Tasks of equal fuel and equal control end alike.
abbrev pub ControlTellsEndKind : Type 0
ControlTellsEndKind = (T U : Task) → T.fuel ≡ U.fuel → control_of T ≡ control_of U → end_kind_of T ≡ end_kind_of U
