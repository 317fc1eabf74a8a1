-- What contracts see of what an instruction in machine mode finds (this project's own).
use Rattle.std.specs.Prelude.{Option}
use Rattle.hart_model.specs.Cells.{Bases}
use Rattle.hart_model.specs.Context.{ContextState}
use Rattle.hart_model.specs.MachineStep as machine
use Rattle.hart_state.specs.declared.reach.Target.{Target}
use Rattle.hart_state.specs.declared.reach.Target.TheVariants as targets
use Rattle.hart_state.specs.declared.reach.Reach.{Reach}
use Rattle.hart_state.specs.declared.reach.Reach.TheVariants as reaches
use Rattle.hart_state.specs.PlaceBounds.{IsPlaceThere}
use Rattle.hart_state.specs.PortView.{side_of, IsPossible}

abbrev pub target_value : Target → machine.Target
target_value (targets.AtPlace place) = machine.AtPlace place
target_value (targets.AtPort port) = machine.AtPort port
target_value targets.Nowhere = machine.Nowhere

abbrev pub IsTargetThere : Bases → Target → Type 0
IsTargetThere b (targets.AtPlace place) = IsPlaceThere b place
IsTargetThere b target = Unit {0}

abbrev pub reach_value : Reach → machine.Reach
reach_value (reaches.Finds word old_csr side) = machine.Finds word old_csr (side_of side)
reach_value (reaches.NeedsQueue call word) = machine.NeedsQueue call word
reach_value reaches.Refused = machine.Refused

-- the side effect that is found is possible
abbrev pub IsPossibleReach : Option ContextState → Reach → Type 0
IsPossibleReach held (reaches.Finds word old_csr side) = IsPossible held side
IsPossibleReach held reach = Unit {0}
