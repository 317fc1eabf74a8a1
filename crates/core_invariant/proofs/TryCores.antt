-- A loaded bundle of two tasks, for two harts and one slot, to which the laws apply: a hart comes into user mode, and a task ends.
use Rattle.std.proofs.Common.{◌≡◌, ◌≤◌, refl, ℕ, zero, suc, ◌<◌, inl, List, [], ◌∷◌, All, replicate, get_or, slice_get, slice_index_or, Some, subst, arith, lit≤}
use Rattle.std.proofs.lemmas.List.Elements.{All-nil, All-cons, All-head}
use Rattle.isa_model.specs.declared.task.Task.{Task}
use Rattle.isa_model.specs.declared.ends.End.TheVariants.{Exited}
use Rattle.isa_model.specs.TaskPlaces.{code_place, data_place, IsValidTask}
use Rattle.hart_model.specs.declared.tag.Mode.TheVariants.{User}
use Rattle.hart_model.specs.Csrs.{csr_cell, with_csr}
use Rattle.hart_model.specs.Pmp.{is_allowed_by}
use Rattle.hart_model.specs.Context.{ContextState, DoneState}
use Rattle.hart_model.specs.HartState.{HartState, boot_hart}
use Rattle.hart_model.specs.UserStep.{user_step}
use Rattle.hart_model.specs.MachineStep.{machine_step}
use Rattle.core_model.specs.declared.event.Event.{Event}
use Rattle.core_model.specs.declared.event.Event.TheVariants.{Go}
use Rattle.core_model.specs.declared.home.Home.TheVariants.{Ended}
use Rattle.core_model.specs.declared.plan.Plan.{Plan}
use Rattle.core_model.specs.declared.loaded.Loaded.{Loaded}
use Rattle.core_model.specs.Core.{CoreState, core_after, core_from}
use Rattle.core_model.specs.Homes.{home_of}
use Rattle.core_model.specs.Soundness.{IsUserCase, IsEndedCase}
use Rattle.core_model.specs.Loaded.{IsPlanWithinLimits, IsTaskAt, IsLoaded}
use Rattle.core_invariant.specs.KernelStates.{emitted_parts}
use Rattle.core_invariant.specs.Outputs.{IsOutputOf}
use Rattle.core_invariant.specs.Homes.{IsHomeOf}
use Rattle.core_invariant.proofs.Proved.{kernel-harts, emitted-is-kernel}
use Rattle.core_invariant.proofs.FromHarts.{stays-sound, outputs-stay, one-home-each}

-- at a place: addi x10,x0,42; addi x17,x0,1; ecall; addi x17,x0,0; ecall
abbrev pub task_at : ℕ → Task
task_at t = record {
  code_at = code_place t;
  data_at = data_place t;
  code = 0x02a00513 ∷ 0x00100893 ∷ 0x00000073 ∷ 0x00000893 ∷ 0x00000073 ∷ [];
  data_len = 0;
  fuel = 5;
  out_max = 4;
  tape = [];
}

abbrev pub plan : Plan
plan = record { quanta = []; tail = 4096 }

abbrev pub two_tasks : Loaded
two_tasks = record { harts = 2; slots = 1; plans = plan ∷ plan ∷ []; tasks = task_at 0 ∷ task_at 1 ∷ []; bands = 0 ∷ 0 ∷ []; worlds = []; events = []; order = [] }

-- a core may be made of it
plan_fits : IsPlanWithinLimits plan
plan_fits = record { tail_low = lit≤ tt; tail_high = lit≤ tt; quanta = All-nil _; quanta_high = lit≤ tt }

pub valid_at : (t : ℕ) → t < 2 → IsValidTask (task_at t)
valid_at t low = record {
  code_aligned = omega arith;
  data_aligned = omega arith;
  code_above = omega arith;
  data_above = omega arith;
  code_end = omega arith;
  data_end = omega arith;
  apart = inl (omega arith);
  code_limit = lit≤ tt;
  data_limit = lit≤ tt;
  fuel_least = lit≤ tt;
  fuel_limit = lit≤ tt;
  out_limit = lit≤ tt;
  tape_limit = lit≤ tt;
}

at_places : (t : ℕ) (task : Task) → t < 2 → IsTaskAt t (slice_index_or two_tasks.tasks t task)
at_places zero task low = record { code_at = refl; data_at = refl; valid = valid_at 0 low }
at_places (suc zero) task low = record { code_at = refl; data_at = refl; valid = valid_at 1 low }
at_places (suc (suc t)) task low = absurd (omega arith)

pub two_tasks_load : IsLoaded two_tasks
two_tasks_load = record {
  limits = record {
    harts_low = lit≤ tt;
    harts_high = lit≤ tt;
    slots_low = lit≤ tt;
    slots_high = lit≤ tt;
    plan_each = refl;
    plans = All-cons IsPlanWithinLimits plan (plan ∷ []) plan_fits (All-cons IsPlanWithinLimits plan [] plan_fits (All-nil _));
    tasks_low = lit≤ tt;
    tasks_high = lit≤ tt;
    tasks = at_places;
    band_each = refl;
    bands = All-cons (λ (band : ℕ). band ≤ 1) 0 (0 ∷ []) (lit≤ tt) (All-cons (λ (band : ℕ). band ≤ 1) 0 [] (lit≤ tt) (All-nil _));
    worlds_high = lit≤ tt;
    worlds = All-nil _;
    worlds_as_long = tt;
    events = All-nil _;
    events_high = lit≤ tt;
    order = All-nil _;
    order_high = lit≤ tt;
  };
  bound = lit≤ tt;
}

-- hart 0 takes task 0, restores it, and executes one of its instructions
abbrev pub one_instr : List Event
one_instr = replicate 77 (Go 0)

abbrev in_task : CoreState
in_task = core_after two_tasks emitted_parts.code one_instr

abbrev pub hart_in_task : HartState
hart_in_task = get_or in_task.harts 0 (boot_hart 0 0)

pub is_in_task : (slice_get in_task.harts 0 ≡ Some hart_in_task) × (hart_in_task.csrs.mode ≡ User)
unfolding core_from user_step machine_step is_allowed_by csr_cell with_csr
is_in_task = (refl, refl)

-- So it is where the undisturbed run of a task is.
pub is_in_user_case : (c : ContextState) × IsUserCase two_tasks.tasks hart_in_task c
is_in_user_case =
    ((stays-sound kernel-harts emitted_parts emitted-is-kernel two_tasks two_tasks_load one_instr).harts
    0 hart_in_task is_in_task.0).user is_in_task.1

-- Further on task 0 has ended.
abbrev first_ends : List Event
first_ends = replicate 600 (Go 0)

abbrev after_first : CoreState
after_first = core_after two_tasks emitted_parts.code first_ends

abbrev first_done : DoneState
first_done = record { task_no = 0; count = 5; output = 42 ∷ []; end = Exited 42 }

is_after_first : (after_first.board.ended ≡ first_done ∷ []) × (home_of after_first.board 0 ≡ Some Ended)
unfolding core_from user_step machine_step is_allowed_by csr_cell with_csr
is_after_first = (refl, refl)

-- So its count, its output and its end are those of its whole undisturbed run; its output is a beginning of that run's; and it is at
-- home among the ended ones.
is_whole : IsEndedCase two_tasks.tasks first_done
is_whole =
    let sound = stays-sound kernel-harts emitted_parts emitted-is-kernel two_tasks two_tasks_load first_ends in
    All-head (IsEndedCase two_tasks.tasks) first_done [] (subst (All (IsEndedCase two_tasks.tasks)) is_after_first.0 sound.board.ended)

is_output : IsOutputOf two_tasks.tasks 0 (42 ∷ [])
is_output =
    let sound = outputs-stay kernel-harts emitted_parts emitted-is-kernel two_tasks two_tasks_load first_ends in
    let P : DoneState → Type 0 = λ d. IsOutputOf two_tasks.tasks d.task_no d.output in
    All-head P first_done [] (subst (All P) is_after_first.0 sound.ended)

is_home : IsHomeOf after_first.board 0 Ended
is_home =
    let homes = one-home-each kernel-harts emitted_parts emitted-is-kernel two_tasks two_tasks_load first_ends in
    homes.told 0 Ended is_after_first.1
