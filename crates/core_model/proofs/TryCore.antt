-- A core of eight harts and one task by events, computed. The numbers are those of worked examples.
use Rattle.std.proofs.Common.{◌≡◌, refl, [], ◌∷◌, length, drop, replicate, Some, None}
use Rattle.isa_model.specs.declared.task.Task.{Task}
use Rattle.isa_model.specs.declared.latch.Latch.TheVariants.{Reg, PortA, PortB, Res, Load}
use Rattle.hart_model.specs.declared.probe.Why.TheVariants.{Public, Value, Step}
use Rattle.hart_model.specs.declared.probe.Side.TheVariants.{Now}
use Rattle.hart_model.specs.declared.calls.QueueCall.TheVariants.{GiveDone}
use Rattle.hart_model.specs.Csrs.{csr_cell, with_csr}
use Rattle.hart_model.specs.Pmp.{is_allowed_by}
use Rattle.hart_model.specs.HartState.{HartState, boot_hart}
use Rattle.hart_model.specs.StepResult.{Wants, Wedged}
use Rattle.hart_model.specs.UserStep.{user_step}
use Rattle.hart_model.specs.MachineStep.{machine_step}
use Rattle.core_model.specs.declared.home.Home.TheVariants.{Hart}
use Rattle.core_model.specs.declared.event.Event.TheVariants.{Go, Tick}
use Rattle.core_model.specs.declared.action.Action.TheVariants.{Took, Empty}
use Rattle.core_model.specs.declared.plan.Plan.{Plan}
use Rattle.core_model.specs.declared.loaded.Loaded.{Loaded}
use Rattle.core_model.specs.Homes.{home_of}
use Rattle.core_model.specs.KernelWords.{kernel_code}
use Rattle.core_model.specs.Core.{CoreState, without_action, after_step, boot_core, core_from, core_after, action_of}

-- addi x10,x0,42; addi x17,x0,1; ecall; addi x17,x0,0; ecall
abbrev pub task : Task
task = record {
  code_at = 0x100000;
  data_at = 0x108000;
  code = 0x02a00513 ∷ 0x00100893 ∷ 0x00000073 ∷ 0x00000893 ∷ 0x00000073 ∷ [];
  data_len = 0;
  fuel = 5;
  out_max = 4;
  tape = [];
}

abbrev plan : Plan
plan = record { quanta = []; tail = 4096 }

abbrev loaded : Loaded
loaded = record { harts = 8; slots = 1; plans = replicate 8 plan; tasks = task ∷ []; bands = 0 ∷ []; worlds = []; events = []; order = [] }

-- the take and the next instruction
abbrev two_steps : CoreState
two_steps = core_after loaded kernel_code (Go 0 ∷ Go 0 ∷ [])

log_of_two_steps : two_steps.log
    ≡ record { hart = 0; pc = 0x1324; latch = PortA; was = 0; now = 0; why = Public }
    ∷ record { hart = 0; pc = 0x1324; latch = Res; was = 0; now = 0x700; why = Public }
    ∷ record { hart = 0; pc = 0x1324; latch = Load; was = 0; now = 0x200; why = Public }
    ∷ record { hart = 0; pc = 0x1324; latch = Reg 5; was = 0; now = 0x200; why = Public }
    ∷ record { hart = 0; pc = 0x1328; latch = PortA; was = 0; now = 0x200; why = Public }
    ∷ record { hart = 0; pc = 0x1328; latch = PortB; was = 0; now = 0; why = Public }
    ∷ []
unfolding core_from user_step machine_step is_allowed_by csr_cell with_csr
log_of_two_steps = refl

board_of_two_steps : (two_steps.board.order ≡ 0 ∷ []) × (home_of two_steps.board 0 ≡ Some (Hart 0 0))
unfolding core_from user_step machine_step is_allowed_by csr_cell with_csr
board_of_two_steps = (refl, refl)

-- the first take gets the task, and one of another hart nothing then
first_action : action_of kernel_code.words (boot_core loaded kernel_code) (Go 0) ≡ Some (Took 0)
unfolding core_from user_step machine_step is_allowed_by csr_cell with_csr
first_action = refl

actions_after_it : (action_of kernel_code.words two_steps (Go 3) ≡ Some Empty) × (action_of kernel_code.words two_steps (Tick 3) ≡ None) × (action_of kernel_code.words two_steps (Go 0) ≡ None)
unfolding core_from user_step machine_step is_allowed_by csr_cell with_csr
actions_after_it = (refl, refl, refl)

-- 76 steps of take and restore, and 2 of the task
abbrev into_task : CoreState
into_task = core_after loaded kernel_code (replicate 78 (Go 0))

entries_of_task : drop 250 into_task.log
    ≡ record { hart = 0; pc = 0x100000; latch = PortA; was = 0; now = 0; why = Value 0 1 PortA Now }
    ∷ record { hart = 0; pc = 0x100000; latch = Res; was = 0x100; now = 0x2a; why = Value 0 1 Res Now }
    ∷ record { hart = 0; pc = 0x100000; latch = Reg 10; was = 0; now = 0x2a; why = Value 0 1 (Reg 10) Now }
    ∷ record { hart = 0; pc = 0x100004; latch = PortA; was = 0; now = 0; why = Step 0 1 PortA }
    ∷ record { hart = 0; pc = 0x100004; latch = Res; was = 0x2a; now = 1; why = Step 0 1 Res }
    ∷ record { hart = 0; pc = 0x100004; latch = Reg 17; was = 0; now = 1; why = Value 0 2 (Reg 17) Now }
    ∷ []
unfolding core_from user_step machine_step is_allowed_by csr_cell with_csr
entries_of_task = refl

how_many_entries : length into_task.log ≡ 256
unfolding core_from user_step machine_step is_allowed_by csr_cell with_csr
how_many_entries = refl

-- a hart that is wedged, or that gives and holds nothing, leaves the core as it was
abbrev booted : CoreState
booted = boot_core loaded kernel_code

abbrev hart_3 : HartState
hart_3 = boot_hart 3 kernel_code.take

nothing_done : (after_step booted 3 hart_3 Wedged ≡ without_action booted) × (after_step booted 3 hart_3 (Wants GiveDone [] 0 0x1328) ≡ without_action booted)
nothing_done = (refl, refl)
