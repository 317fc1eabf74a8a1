-- What was out on the hart isn't any more, so there is room for what takes its place.
use Rattle.std.proofs.Common.{◌≡◌, ◌+◌, ◌-◌, ◌<◌, ◌≤◌, ◌==◌, not, false, length, vec_len, vec_capacity, refl, ap, sym, subst, ◌∙◌, arith}
use Rattle.std.specs.Prelude.{All, Contains}
use Rattle.std.proofs.lemmas.Bool.{eq-eqb}
use Rattle.std.proofs.lemmas.List.{length_push}
use Rattle.std.proofs.lemmas.List.Elements.{All-filter, All-drop}
use Rattle.core_model.specs.Board.{OutEntry, BoardWithSpare, all_ready, out_entry}
use Rattle.core_model.proofs.ReadyLists.{length-ready}
use Rattle.context_slot.specs.Fresh.{IsFresh}
use Rattle.ready_queue.specs.Admitted.{next_context}
use Rattle.ready_queue.specs.ReadyView.{ReadyView}
use Rattle.ready_queue.proofs.Counts.{length-filter-lt, length-next, length-moved, length-with_next}
use Rattle.ready_queue.proofs.board.Board.give.Goals as goal
use Rattle.ready_queue.proofs.board.Board.give.Goals.{After-take_back}

-- fewer are out than before
shorter : (c : After-take_back) → length c.take_back.new.out.items < length c.self.inside.out.items
shorter c =
    let i = c.self.inside in
    let entry = out_entry c.args.hart c.args.ctx in
    let here : Contains i.out.items entry = subst (λ (b : BoardWithSpare). Contains b.lists.out entry) (sym c.self.view_is) c.requires.out in
    let fails : not (c.args.hart == c.args.hart) ≡ false = ap not (eq-eqb c.args.hart c.args.hart refl) in
    rw c.take_back.ensures.out (length-filter-lt (λ (o : OutEntry). not (o.hart == c.args.hart)) i.out.items entry here fails)

-- and they are on harts below 8
harts_left : (c : After-take_back) → All (λ (o : OutEntry). o.hart < 8) c.take_back.new.out.items
harts_left c =
    rw c.take_back.ensures.out (All-filter (λ (o : OutEntry). not (o.hart == c.args.hart)) (λ (o : OutEntry). o.hart < 8) c.self.inside.out.items c.self.invariant.harts)

-- the order is one longer, and has its memory
order_left : (c : After-take_back) → length c.push_reserved.new.self.items + length c.take_back.new.out.items ≤ vec_capacity c.push_reserved.new.self
order_left c =
    let longer = ap length c.push_reserved.ensures.items ∙ length_push c.self.inside.order.items c.args.hart in
    omega (arith, shorter c, c.self.invariant.order_room, c.push_reserved.ensures.capacity)

spare_left : (c : After-take_back) → length c.take_back.new.out.items ≤ vec_capacity c.push_reserved.new.self - vec_len c.push_reserved.new.self
spare_left c = omega (arith, order_left c, c.push_reserved.new.self.ok.0)

pub invariant_of-self : goal.invariant_of-self
invariant_of-self c =
    let i = c.self.inside in
    let h = c.self.invariant in
    let back = (goal.at.invariant_of-self c).After-take_back in
    let more = ap (λ (r : ReadyView). length (all_ready r.lists)) c.push.ensures.ready ∙ length-ready i.ready.bands i.ready.lists c.args.ctx in
    let room = ap (λ (r : ReadyView). r.room) c.push.ensures.ready in
    record {
      ready_room = omega (arith, shorter back, h.ready_room);
      out_room = omega (arith, shorter back, h.out_room, c.take_back.ensures.room);
      ended_room = omega (arith, shorter back, h.ended_room);
      order_room = order_left back;
      fresh = h.fresh;
      harts = harts_left back;
    }

pub returns-in-Ready-clause-spare : goal.returns-in-Ready-clause-spare
returns-in-Ready-clause-spare c = spare_left (goal.at.returns-in-Ready-clause-spare c).After-take_back

pub invariant_of-self-in-Done : goal.invariant_of-self-in-Done
invariant_of-self-in-Done c =
    let i = c.self.inside in
    let h = c.self.invariant in
    let back = (goal.at.invariant_of-self-in-Done c).After-take_back in
    let ctx = c.args.ctx in
    let next = next_context i.waiting.items ctx.slot ctx.words in
    let waiting = ap length c.end_task.ensures.waiting in
    let moved = length-moved i.waiting.items ctx.slot ctx.words in
    let ready = ap (λ (r : ReadyView). length (all_ready r.lists)) c.end_task.ensures.ready ∙ length-with_next i.ready.bands i.ready.lists i.waiting.items ctx.slot ctx.words in
    let room = ap (λ (r : ReadyView). r.room) c.end_task.ensures.ready in
    let one = length-next i.waiting.items ctx.slot ctx.words in
    record {
      ready_room = omega (arith, shorter back, h.ready_room);
      out_room = omega (arith, shorter back, h.out_room, c.take_back.ensures.room);
      ended_room = omega (arith, shorter back, h.ended_room, c.end_task.ensures.ended_room, c.end_task.ensures.ended_len, i.ended.ok.0, c.end_task.new.ended.ok.0);
      order_room = order_left back;
      fresh = rw c.end_task.ensures.waiting (All-drop IsFresh 1 i.waiting.items h.fresh);
      harts = harts_left back;
    }

pub returns-in-Done-clause-spare : goal.returns-in-Done-clause-spare
returns-in-Done-clause-spare c = spare_left (goal.at.returns-in-Done-clause-spare c).After-take_back
