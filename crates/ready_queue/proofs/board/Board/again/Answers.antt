-- There is room for all contexts that are ready, since each has a slot of its own, and for all tasks to end.
use Rattle.std.proofs.Common.{◌≡◌, ◌<◌, length, ap, ◌∙◌, arith}
use Rattle.std.proofs.lemmas.List.Elements.{All-nil}
use Rattle.core_model.specs.Board.{OutEntry, all_ready}
use Rattle.core_model.proofs.ReadyLists.{length-all_ready}
use Rattle.ready_queue.specs.ReadyView.{ReadyView}
use Rattle.ready_queue.proofs.BoardLists.{slots-hold, in-their-bands}
use Rattle.ready_queue.proofs.board.Board.again.Goals as goal

pub again-requires : goal.again-requires
again-requires c = let parts = c.requires.parts in record { room = slots-hold c.args.slots c.args.ready.items parts.slot_there parts.slot_once }

pub invariant_of-result : goal.invariant_of-result
invariant_of-result c =
    let parts = c.requires.parts in
    let is = c.in_ok-again.ensures.ready in
    let held : length (all_ready c.in_ok-again.field-0.lists) ≡ length c.args.ready.items =
    ap (λ (r : ReadyView). length (all_ready r.lists)) is ∙ length-all_ready c.args.bands.items c.args.ready.items in
    let room : c.in_ok-again.field-0.room ≡ c.args.slots = ap (λ (r : ReadyView). r.room) is in
    let fits = slots-hold c.args.slots c.args.ready.items parts.slot_there parts.slot_once in
    let waits = ap length c.from_vec.ensures.items in
    let out : length c.in_ok-with_capacity.field-0.items ≡ 0 = ap length c.in_ok-with_capacity.ensures.items in
    record {
      ready_room = omega arith;
      out_room = omega (arith, c.in_ok-with_capacity.ensures.exact);
      ended_room = omega (arith, c.in_ok-reserve.ensures.ok);
      order_room = omega (arith, c.args.order.ok);
      fresh = rw c.from_vec.ensures.items parts.fresh;
      harts = rw c.in_ok-with_capacity.ensures.items (All-nil (λ (o : OutEntry). o.hart < 8));
    }

pub returns-clause-bands : goal.returns-clause-bands
returns-clause-bands c =
    let is = c.in_ok-again.ensures.ready in
    in-their-bands c.args.bands.items c.args.ready.items _ (ap (λ (r : ReadyView). r.bands) is) (ap (λ (r : ReadyView). r.lists) is)
