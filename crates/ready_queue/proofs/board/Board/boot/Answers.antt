-- A slot more has its task, as long as there are tasks.
use Rattle.std.proofs.Common.{◌≡◌, ◌<◌, ◌≤◌, ◌++◌, length, take, ap, ◌∙◌, arith, length-take}
use Rattle.std.proofs.lemmas.List.{drop-drop, length-drop}
use Rattle.std.proofs.lemmas.List.Elements.{All-drop, All-nil}
use Rattle.core_model.specs.Board.{ReadyLists, OutEntry, all_ready, by_bands, contexts_from}
use Rattle.core_model.proofs.ReadyLists.{length-all_ready}
use Rattle.context_slot.specs.Fresh.{IsFresh}
use Rattle.ready_queue.specs.ReadyView.{ReadyView}
use Rattle.ready_queue.specs.contracts.ready.Ready as Ready
use Rattle.ready_queue.proofs.Booting.{all-fresh, length-contexts, bands-more}
use Rattle.ready_queue.proofs.board.Board.boot.Goals as goal

pub admit_next-requires-clause-room : goal.admit_next-requires-clause-room
admit_next-requires-clause-room c =
    let bodies = c.args.bodies.items in
    let slot = c.loop-slot.slot in
    let contexts = contexts_from 0 (take slot bodies) in
    let held : length (all_ready (by_bands c.args.bands.items contexts)) ≡ length (take slot bodies) =
    length-all_ready c.args.bands.items contexts ∙ length-contexts 0 (take slot bodies) in
    let taken : length (take slot bodies) ≤ slot = omega (arith, length-take slot bodies) in
    rw c.loop-slot.invariant.ready (omega (arith, held, taken))

pub admit_next-requires-clause-fresh : goal.admit_next-requires-clause-fresh
admit_next-requires-clause-fresh c =
    let bodies = c.args.bodies.items in
    rw c.loop-slot.invariant.waiting (All-drop IsFresh c.loop-slot.slot bodies (all-fresh 0 bodies c.requires.fresh))

pub loop-slot-preserved : goal.loop-slot-preserved
loop-slot-preserved c =
    let bodies = c.args.bodies.items in
    let slot = c.loop-slot.slot in
    let h = c.loop-slot.invariant in
    record {
      waiting = rw (c.admit_next.ensures.waiting, h.waiting) (drop-drop 1 slot bodies);
      ready = rw (c.admit_next.ensures.ready, h.ready, h.waiting, c.in_ok-slot_words.ensures.words)
          (ap (λ (lists : ReadyLists). record { lists = lists; bands = c.args.bands.items; room = c.args.slots }) (bands-more c.args.bands.items slot bodies));
    }

pub invariant_of-result : goal.invariant_of-result
invariant_of-result c = c.ready-2.invariant

pub invariant_of-result-2 : goal.invariant_of-result-2
invariant_of-result-2 c =
    let bodies = c.args.bodies.items in
    let slot = c.loop-slot.slot in
    let h = c.loop-slot.invariant in
    let contexts = contexts_from 0 (take slot bodies) in
    let view : ReadyView = record { lists = by_bands c.args.bands.items contexts; bands = c.args.bands.items; room = c.args.slots } in
    let is : Ready.the_view c.ready-2.inside ≡ view = c.ready-2.view_is ∙ h.ready in
    let held : length (c.ready-2.inside.first.items ++ c.ready-2.inside.second.items) ≡ length (take slot bodies) =
    ap (λ (r : ReadyView). length (all_ready r.lists)) is ∙ length-all_ready c.args.bands.items contexts ∙ length-contexts 0 (take slot bodies) in
    let room : c.ready-2.inside.first.capacity ≡ c.args.slots = ap (λ (r : ReadyView). r.room) is in
    let waiting = ap length h.waiting ∙ length-drop slot bodies in
    let taken = length-take slot bodies in
    let out : length c.in_ok-with_capacity.field-0.items ≡ 0 = ap length c.in_ok-with_capacity.ensures.items in
    let ended : length c.in_ok-with_capacity-2.field-0.items ≡ 0 = ap length c.in_ok-with_capacity-2.ensures.items in
    let order : length c.new-2.result.items ≡ 0 = ap length c.new-2.ensures.items in
    record {
      ready_room = omega arith;
      out_room = omega (arith, c.in_ok-with_capacity.ensures.exact);
      ended_room = omega (arith, c.in_ok-with_capacity-2.ensures.exact);
      order_room = omega arith;
      fresh = rw h.waiting (All-drop IsFresh slot bodies (all-fresh 0 bodies c.requires.fresh));
      harts = rw c.in_ok-with_capacity.ensures.items (All-nil (λ (o : OutEntry). o.hart < 8));
    }
