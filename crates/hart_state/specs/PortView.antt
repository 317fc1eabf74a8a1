-- What contracts see of the answers of ports, and when their side effects are possible (this project's own).
use Rattle.std.specs.Prelude.{◌<◌, length, Option, Some}
use Rattle.hart_model.specs.Context.{ContextState}
use Rattle.hart_model.specs.Ports.{SideEffect, Nothing, Outputs, AdvancesTape, Ends, ClearsTimer, PortAnswer, Passes, AsksQueue, Refuses}
use Rattle.hart_state.specs.declared.ports.Side.{Side}
use Rattle.hart_state.specs.declared.ports.Side.TheVariants as sides
use Rattle.hart_state.specs.declared.ports.Answer.{Answer}
use Rattle.hart_state.specs.declared.ports.Answer.TheVariants as answers

abbrev pub side_of : Side → SideEffect
side_of sides.Nothing = Nothing
side_of (sides.Outputs word) = Outputs word
side_of sides.AdvancesTape = AdvancesTape
side_of (sides.Ends end) = Ends end
side_of sides.ClearsTimer = ClearsTimer

abbrev pub answer_of : Answer → PortAnswer
answer_of (answers.Passes cell side) = Passes cell (side_of side)
answer_of (answers.AsksQueue call) = AsksQueue call
answer_of answers.Refuses = Refuses

-- there is room in the output for a word, and a word is left on the tape
abbrev pub IsPossible : Option ContextState → Side → Type 0
IsPossible (Some c) (sides.Outputs word) = length c.body.output < c.body.out_max
IsPossible (Some c) sides.AdvancesTape = c.body.tape_at < length c.body.tape
IsPossible held side = Unit {0}

abbrev pub IsPossibleAnswer : Option ContextState → Answer → Type 0
IsPossibleAnswer held (answers.Passes cell side) = IsPossible held side
IsPossibleAnswer held answer = Unit {0}
