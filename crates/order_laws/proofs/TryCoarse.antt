-- Coarse runs of one hart at their edges, computed. The numbers are those of worked examples: 76 steps lead from the take into user mode, the
-- take's own among them, and 113 instructions of the kernel from the timer's interrupt to the give.
use Rattle.std.proofs.Common.{◌≡◌, ◌+◌, not, List, [], ◌∷◌, length, filter, replicate, refl, lit<, true≢false, arith}
use Rattle.isa_model.specs.declared.task.Task.{Task}
use Rattle.isa_model.specs.declared.ends.End.TheVariants.{OutOfSteps}
use Rattle.hart_model.specs.Csrs.{csr_cell, with_csr}
use Rattle.hart_model.specs.Pmp.{is_allowed_by}
use Rattle.hart_model.specs.UserStep.{user_step}
use Rattle.hart_model.specs.MachineStep.{machine_step}
use Rattle.core_model.specs.declared.event.Event.{Event}
use Rattle.core_model.specs.declared.event.Event.TheVariants.{Tick}
use Rattle.core_model.specs.declared.plan.Plan.{Plan}
use Rattle.core_model.specs.declared.loaded.Loaded.{Loaded}
use Rattle.core_model.specs.KernelWords.{kernel_code}
use Rattle.core_model.specs.Core.{core_from}
use Rattle.core_model.specs.Orders.{coarse_after, fine_from, fine_of, result_of, steps_to_action, IsLegalFrom, IsLegal}
use Rattle.order_laws.specs.CoarseRuns.{is_go}

-- addi x10,x0,42; addi x17,x0,1; ecall; addi x17,x0,0; ecall
abbrev task : Task
task = record {
  code_at = 0x100000;
  data_at = 0x108000;
  code = 0x02a00513 ∷ 0x00100893 ∷ 0x00000073 ∷ 0x00000893 ∷ 0x00000073 ∷ [];
  data_len = 0;
  fuel = 5;
  out_max = 4;
  tape = [];
}

abbrev alone_on_a_hart : Task → Plan → Loaded
alone_on_a_hart t plan = record { harts = 1; slots = 1; plans = plan ∷ []; tasks = t ∷ []; bands = 0 ∷ []; worlds = []; events = []; order = [] }

abbrev ticks : List Event → List Event
ticks events = filter (λ event. not (is_go event)) events

-- Where the quantum ends with the fuel, no tick is due: the task is taken, given back with its end, and nothing is found.
abbrev used : Loaded
used = alone_on_a_hart (record task { fuel = 2 }) (record { quanta = []; tail = 2 })

used_order : (coarse_after used kernel_code (replicate 3 0)).board.order ≡ replicate 3 0
unfolding core_from fine_from result_of steps_to_action user_step machine_step is_allowed_by csr_cell with_csr
used_order = refl

used_end : (coarse_after used kernel_code (replicate 3 0)).board.ended ≡ record { task_no = 0; count = 2; output = []; end = OutOfSteps } ∷ []
unfolding core_from fine_from result_of steps_to_action user_step machine_step is_allowed_by csr_cell with_csr
used_end = refl

used_ticks : ticks (fine_of used kernel_code (replicate 3 0)) ≡ []
unfolding core_from fine_from result_of steps_to_action user_step machine_step is_allowed_by csr_cell with_csr
used_ticks = refl

-- No entry follows an empty take of its hart, and none names a hart that there isn't.
abbrev calm : Loaded
calm = alone_on_a_hart task (record { quanta = []; tail = 4096 })

calm_legal : IsLegal calm kernel_code (replicate 5 0)
unfolding IsLegalFrom result_of steps_to_action user_step machine_step is_allowed_by csr_cell with_csr
calm_legal = (
  record { exists = lit< tt; goes_on = refl },
  (
    record { exists = lit< tt; goes_on = refl },
    (
      record { exists = lit< tt; goes_on = refl },
      (record { exists = lit< tt; goes_on = refl }, (record { exists = lit< tt; goes_on = refl }, tt)),
    ),
  ),
)

stopped_illegal : IsLegal calm kernel_code (replicate 6 0) → ⊥
unfolding IsLegalFrom result_of steps_to_action user_step machine_step is_allowed_by csr_cell with_csr
stopped_illegal legal = true≢false legal.1.1.1.1.1.0.goes_on

missing_illegal : IsLegal calm kernel_code (1 ∷ []) → ⊥
unfolding IsLegalFrom
missing_illegal legal = absurd (omega (arith, legal.0.exists))

-- A task that goes on for a whole quantum of 4,096 instructions: its give is more than 4,000 steps after its take. (jal x0,0)
abbrev long : Loaded
long = alone_on_a_hart (record task { code = 0x0000006f ∷ []; fuel = 100000 }) (record { quanta = []; tail = 4096 })

long_steps : length (fine_of long kernel_code (replicate 2 0)) ≡ 76 + 4096 + 1 + 1 + 113
unfolding core_from fine_from result_of steps_to_action user_step machine_step is_allowed_by csr_cell with_csr
long_steps = refl

long_ticks : ticks (fine_of long kernel_code (replicate 2 0)) ≡ Tick 0 ∷ []
unfolding core_from fine_from result_of steps_to_action user_step machine_step is_allowed_by csr_cell with_csr
long_ticks = refl
