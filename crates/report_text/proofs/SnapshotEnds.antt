-- What a report asks of a snapshot holds of each snapshot of a core.
use Rattle.std.proofs.Common.{◌≡◌, ℕ, zero, suc, ◌+◌, Option, Some, None, ◌==◌, refl}
use Rattle.std.specs.Prelude.{find, slice_get}
use Rattle.std.specs.List.{AllByRecursion}
use Rattle.hart_model.specs.Context.{ContextState, DoneState}
use Rattle.core_model.specs.declared.home.Home.{Home}
use Rattle.core_model.specs.declared.home.Home.TheVariants.{Waiting, Slot, Hart, Ended}
use Rattle.core_model.specs.Board.{all_ready}
use Rattle.core_model.specs.Homes.{home_of}
use Rattle.core_model.specs.Core.{CoreState}
use Rattle.kernel_core.specs.Snapshots.{waiting_state, state_of_context, held_by, state_of_done, state_at, states_from, snapshot_of}
use Rattle.report_text.specs.Report.{EndsAtHome}

waiting_ends : EndsAtHome waiting_state
waiting_ends = (λ some. absurd cc, λ same. absurd cc)

-- a task that is ready or out has no end
context_ends : (home : Home) (o : Option ContextState) → (home ≡ Ended → ⊥) → EndsAtHome (state_of_context home o)
context_ends home None other = waiting_ends
context_ends home (Some c) other = (λ some. absurd cc, λ same. absurd (other same))

-- one that has ended has its end
done_ends : (o : Option DoneState) → EndsAtHome (state_of_done o)
done_ends None = waiting_ends
done_ends (Some d) = (λ some. refl, λ same. refl)

state_ends : (c : CoreState) (task : ℕ) (o : Option Home) → EndsAtHome (state_at c task o)
state_ends c task None = waiting_ends
state_ends c task (Some Waiting) = waiting_ends
state_ends c task (Some (Slot slot)) =
    context_ends (Slot slot) (find (λ context. context.body.task_no == task) (all_ready c.board.ready)) (λ same. cc)
state_ends c task (Some (Hart hart slot)) = context_ends (Hart hart slot) (held_by (slice_get c.harts hart)) (λ same. cc)
state_ends c task (Some Ended) = done_ends (find (λ done. done.task_no == task) c.board.ended)

states_end : (c : CoreState) (task more : ℕ) → AllByRecursion EndsAtHome (states_from c task more)
states_end c task zero = tt
states_end c task (suc more) = (state_ends c task (home_of c.board task), states_end c (task + 1) more)

-- each task of a snapshot has an end exactly where it has ended
pub snapshot_ends : (tasks : ℕ) (c : CoreState) → AllByRecursion EndsAtHome (snapshot_of tasks c).tasks
snapshot_ends tasks c = states_end c 0 tasks
