-- One task by orders of one hart, computed. The numbers are those of worked examples.
use Rattle.std.proofs.Common.{◌≡◌, refl, [], ◌∷◌, length, replicate}
use Rattle.isa_model.specs.declared.ends.End.TheVariants.{Exited}
use Rattle.hart_model.specs.Csrs.{csr_cell, with_csr}
use Rattle.hart_model.specs.Pmp.{is_allowed_by}
use Rattle.hart_model.specs.UserStep.{user_step}
use Rattle.hart_model.specs.MachineStep.{machine_step}
use Rattle.core_model.specs.declared.plan.Plan.{Plan}
use Rattle.core_model.specs.declared.loaded.Loaded.{Loaded}
use Rattle.core_model.specs.KernelWords.{kernel_code}
use Rattle.core_model.specs.Core.{CoreState, core_from}
use Rattle.core_model.specs.Orders.{coarse_after, fine_from, result_of, steps_to_action}
use Rattle.core_model.proofs.TryCore.{task}

abbrev loaded : Plan → Loaded
loaded plan = record { harts = 1; slots = 1; plans = plan ∷ []; tasks = task ∷ []; bands = 0 ∷ []; worlds = []; events = []; order = [] }

-- without quanta: two takes with a give each, and the empty take
abbrev pub calm : Loaded
calm = loaded (record { quanta = []; tail = 4096 })

abbrev calm_run : CoreState
calm_run = coarse_after calm kernel_code (replicate 5 0)

calm_end : calm_run.board.ended ≡ record { task_no = 0; count = 5; output = 42 ∷ []; end = Exited 42 } ∷ []
unfolding core_from fine_from result_of steps_to_action user_step machine_step is_allowed_by csr_cell with_csr
calm_end = refl

calm_order : calm_run.board.order ≡ replicate 5 0
unfolding core_from fine_from result_of steps_to_action user_step machine_step is_allowed_by csr_cell with_csr
calm_order = refl

calm_entries : length calm_run.log ≡ 1679
unfolding core_from fine_from result_of steps_to_action user_step machine_step is_allowed_by csr_cell with_csr
calm_entries = refl

-- a tick before the first, second and third instruction, and after each one from then on
abbrev hasty : Loaded
hasty = loaded (record { quanta = 0 ∷ 0 ∷ 0 ∷ []; tail = 1 })

abbrev hasty_run : CoreState
hasty_run = coarse_after hasty kernel_code (replicate 17 0)

hasty_end : hasty_run.board.ended ≡ record { task_no = 0; count = 5; output = 42 ∷ []; end = Exited 42 } ∷ []
unfolding core_from fine_from result_of steps_to_action user_step machine_step is_allowed_by csr_cell with_csr
hasty_end = refl

hasty_order : hasty_run.board.order ≡ replicate 17 0
unfolding core_from fine_from result_of steps_to_action user_step machine_step is_allowed_by csr_cell with_csr
hasty_order = refl
