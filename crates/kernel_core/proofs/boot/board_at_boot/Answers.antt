-- The bodies of a loaded bundle are what a board is booted with.
use Rattle.std.proofs.Common.{List, sym, ap, subst, ◌∙◌}
use Rattle.hart_model.specs.Context.{BodyState}
use Rattle.core_model.specs.Core.{bodies_from}
use Rattle.core_invariant.specs.KernelStates.{emitted_parts}
use Rattle.core_invariant.proofs.Proved.{emitted-is-kernel}
use Rattle.ready_queue.specs.Bodies.{AreFreshFrom}
use Rattle.kernel_core.proofs.Booted.{tasks-valid, bodies-least, bodies-most, bodies-fresh, bands-each}
use Rattle.kernel_core.proofs.boot.board_at_boot.Goals as goal

pub bodies-requires-clause-valid : goal.bodies-requires-clause-valid
bodies-requires-clause-valid c =
    tasks-valid c.args.loaded.now c.requires.loaded emitted_parts emitted-is-kernel c.as_slice.result.now c.as_slice.ensures.items

pub boot-requires-clause-tasks_least : goal.boot-requires-clause-tasks_least
boot-requires-clause-tasks_least c =
    bodies-least c.args.loaded.now c.requires.loaded c.in_ok-bodies.bodies.items (c.in_ok-bodies.ensures.bodies ∙ ap (bodies_from 0) c.as_slice.ensures.items)

pub boot-requires-clause-tasks_limit : goal.boot-requires-clause-tasks_limit
boot-requires-clause-tasks_limit c =
    bodies-most c.args.loaded.now c.requires.loaded c.in_ok-bodies.bodies.items (c.in_ok-bodies.ensures.bodies ∙ ap (bodies_from 0) c.as_slice.ensures.items)

pub boot-requires-clause-fresh : goal.boot-requires-clause-fresh
boot-requires-clause-fresh c =
    subst (λ (bs : List BodyState). AreFreshFrom 0 bs) (sym c.in_ok-bodies.ensures.bodies) (bodies-fresh 0 c.as_slice.result.now)

pub boot-requires-clause-band_each : goal.boot-requires-clause-band_each
boot-requires-clause-band_each c =
    bands-each c.args.loaded.now c.requires.loaded c.in_ok-bodies.bodies.items c.in_ok-bands.bands.items
    (c.in_ok-bodies.ensures.bodies ∙ ap (bodies_from 0) c.as_slice.ensures.items) (c.in_ok-bands.ensures.items ∙ c.as_slice-2.ensures.items)
