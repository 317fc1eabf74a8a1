-- A potential of coarse runs (this project's own): a number that each entry of a legal order lowers, so that no more entries follow than it
-- says. Every action costs one.
use Rattle.std.specs.Prelude.{ℕ, ◌+◌, ◌-◌, ◌*◌, List, ◌∷◌, length, nat_le, Option, Some, None, if◌then◌else◌}
use Rattle.std.specs.List.{sum_by}
use Rattle.hart_model.specs.Context.{BodyState, ContextState}
use Rattle.hart_model.specs.HartState.{HartState}
use Rattle.core_model.specs.declared.plan.Plan.{Plan}
use Rattle.core_model.specs.Board.{BoardState, all_ready}
use Rattle.core_model.specs.Orders.{HartPace, CoarseState}

-- what a waiting task may still cost: a take and a give for each instruction of its fuel, and for the used fuel
abbrev pub waiting_potential : BodyState → ℕ
waiting_potential b = 2 * (b.fuel + 1)

-- what a ready context may: the same for what is left of its fuel
abbrev pub ready_potential : ContextState → ℕ
ready_potential c = 2 * (c.body.fuel - c.body.count + 1)

-- a listed quantum that the last take drew, by which the context may go back before its first instruction
abbrev pub quantum_potential : Plan → HartPace → ℕ
quantum_potential plan pace = if nat_le pace.takes (length plan.quanta) then 2 else 0

-- what a hart may cost by what it holds: its empty take; or what the context might when it was taken, with the quantum that was drawn
abbrev pub held_potential : Plan → HartPace → Option ContextState → ℕ
held_potential plan pace None = if pace.has_stopped then 0 else 1
held_potential plan pace (Some c) = 2 * (c.body.fuel - pace.taken_at + 1) + quantum_potential plan pace

-- a timer that is pending before the take, by which the context may go back before its first instruction too
abbrev pub timer_potential : HartState → ℕ
timer_potential h = if h.csrs.is_timer_pending then 2 else 0

-- a hart: two for each listed quantum that is left, what it holds, and its timer
abbrev pub hart_potential : Plan → HartPace → HartState → ℕ
hart_potential plan pace h = 2 * (length plan.quanta - pace.takes) + held_potential plan pace h.held + timer_potential h

abbrev pub harts_potential : List Plan → List HartPace → List HartState → ℕ
harts_potential (plan ∷ plans) (pace ∷ paces) (h ∷ harts) = hart_potential plan pace h + harts_potential plans paces harts
harts_potential plans paces harts = 0

-- the board: all that waits, and all that is ready in both bands
abbrev pub board_potential : BoardState → ℕ
board_potential b = sum_by waiting_potential b.waiting + sum_by ready_potential (all_ready b.ready)

-- the potential of a coarse run under these plans
abbrev pub potential_of : List Plan → CoarseState → ℕ
potential_of plans co = harts_potential plans co.paces co.core.harts + board_potential co.core.board
