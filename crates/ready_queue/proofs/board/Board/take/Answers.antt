-- One context fewer is ready, and one more is out.
use Rattle.std.proofs.Common.{◌≡◌, Some, ◌+◌, ◌-◌, ◌<◌, ◌≤◌, length, vec_len, vec_capacity, ap, sym, subst, ◌∙◌, arith}
use Rattle.std.proofs.lemmas.List.{length_push}
use Rattle.std.proofs.lemmas.List.Elements.{All-push}
use Rattle.core_model.specs.Board.{OutEntry, BoardWithSpare, all_ready}
use Rattle.ready_queue.specs.ReadyView.{ReadyView, next_of}
use Rattle.ready_queue.proofs.Taking.{fewer, room-stays}
use Rattle.ready_queue.proofs.board.Board.take.Goals as goal

pub invariant_of-self : goal.invariant_of-self
invariant_of-self c =
    let i = c.self.inside in
    let h = c.self.invariant in
    let got : (next_of i.ready).0 ≡ Some c.in-Some.context = sym c.in-Some.ensures.context in
    let one = fewer i.ready c.in-Some.context got in
    let left : length (all_ready c.pop.new.self.lists) ≡ length (all_ready (next_of i.ready).1.lists) =
    ap (λ (r : ReadyView). length (all_ready r.lists)) c.pop.ensures.left in
    let room : c.pop.new.self.room ≡ i.ready.room = ap (λ (r : ReadyView). r.room) c.pop.ensures.left ∙ room-stays i.ready in
    let more = ap length c.push_reserved-in-Some.ensures.items ∙ length_push i.out.items c.new-entry.result in
    let longer = ap length c.push_reserved.ensures.items ∙ length_push i.order.items c.args.hart in
    let spare : length i.out.items + 2 ≤ vec_capacity i.order - vec_len i.order =
    subst (λ (b : BoardWithSpare). length b.lists.out + 2 ≤ b.spare) (sym c.self.view_is) c.requires.spare in
    let count : vec_len i.order ≡ length i.order.items = i.order.ok.0 in
    let out_capacity = c.push_reserved-in-Some.ensures.capacity in
    let order_capacity = c.push_reserved.ensures.capacity in
    record {
      ready_room = omega (arith, h.ready_room);
      out_room = omega (arith, h.out_room);
      ended_room = omega (arith, h.ended_room);
      order_room = omega (arith, h.order_room);
      fresh = h.fresh;
      harts = rw c.push_reserved-in-Some.ensures.items
          (All-push (λ (o : OutEntry). o.hart < 8) i.out.items c.new-entry.result h.harts (rw c.new-entry.ensures.entry c.requires.hart));
    }
