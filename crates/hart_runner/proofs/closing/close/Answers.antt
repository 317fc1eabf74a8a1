-- What one worker more left; and what all left, over the order that the lock ends with.
use Rattle.std.proofs.Common.{slice_get, rules, arith, ◌≡◌, suc, ◌+◌, List, ◌∷◌, length, vec_len, sym, ap, ◌∙◌, subst}
use Rattle.std.specs.Vec.Iter.{into_iter_items}
use Rattle.hart_model.specs.HartState.{HartState}
use Rattle.probe_log.specs.Counts.{Counts}
use Rattle.turn_lock.specs.Passes.{IsPassOf, ArePassesInOrder, pass_number, pass_seen, lock_frame}
use Rattle.hart_runner.specs.declared.receipt.Receipt.{Receipt}
use Rattle.hart_runner.specs.Places.{IsEnded, IsServedPlace}
use Rattle.hart_runner.specs.Remains.{AreRemainsOf}
use Rattle.hart_runner.proofs.Lookups.{match-some, match-at}
use Rattle.hart_runner.proofs.Pushed.{each-push, each-push-4}
use Rattle.hart_runner.proofs.Left.{remains-there}
use Rattle.hart_runner.proofs.closing.close.Goals as goal

pub ended_of-hart-requires : goal.ended_of-hart-requires
ended_of-hart-requires c =
    let steps = c.in-Some.ensures.steps.0 in
    let served = c.loop-place.invariant.served 0 c.in-Some.place (ap (λ xs. slice_get xs 0) steps) in
    record { ended = match-some c.in-Some.place.ended _ served }

pub loop-place-preserved : goal.loop-place-preserved
loop-place-preserved c =
    let inv = c.loop-place.invariant in
    let lock = c.args.lock in
    let place = c.in-Some.place in
    let steps : into_iter_items c.loop-place.place-iterator ≡ place ∷ into_iter_items c.next.new.self = c.in-Some.ensures.steps.0 in
    let short = ap length steps in
    let gone = c.in-Some.ensures.steps.1 in
    let done = vec_len c.loop-place.harts in
    let left = inv.left in
    let whole = inv.whole in
    let nt = inv.tallies in
    let np = inv.passes in
    let nr = inv.receipts in
    let rh = inv.hart_room in
    let rt = inv.tally_room in
    let rp = inv.pass_room in
    let rr = inv.receipt_room in
    let okh = c.loop-place.harts.ok in
    let okt = c.loop-place.tallies.ok in
    let okp = c.loop-place.passes.ok in
    let okr = c.loop-place.receipts.ok in
    let ph = c.push_reserved.ensures in
    let pt = c.push_reserved-in-loop-place.ensures in
    let pp = c.push_reserved-in-loop-place-2.ensures in
    let pr = c.push_reserved-in-loop-place-3.ensures in
    let ended = c.ended_of-hart.result in
    let start : done + 0 ≡ length c.loop-place.harts.items = omega arith in
    let served = inv.served 0 place (ap (λ xs. slice_get xs 0) steps) in
    let one : IsEnded lock (length c.loop-place.harts.items) ended =
    subst (λ n. IsEnded lock n ended) start (match-at place.ended (IsEnded lock (done + 0)) ended c.ended_of-hart.ensures.ended served) in
    let same : length c.loop-place.passes.items ≡ length c.loop-place.harts.items = omega arith in
    let order = each-push (λ i p. IsPassOf lock p × (pass_number p ≡ i)) c.loop-place.passes.items ended.pass inv.in_order
    (one.pass, one.pass_number_is ∙ sym same) in
    let each = each-push-4 (λ i h t p r. IsEnded lock i (record { hart = h; tally = t; pass = p; receipt = r }))
    c.loop-place.harts.items c.loop-place.tallies.items c.loop-place.passes.items c.loop-place.receipts.items
    ended.hart ended.tally ended.pass ended.receipt (omega arith) (omega arith) (omega arith) inv.each one in
    record {
      left = omega arith;
      whole = omega arith;
      tallies = search rules;
      passes = search rules;
      receipts = search rules;
      hart_room = search rules;
      tally_room = search rules;
      pass_room = search rules;
      receipt_room = search rules;
      served = λ i p e. (
          let here : done + suc i ≡ vec_len c.push_reserved.new.self + i = omega arith in
          subst (λ n. IsServedPlace lock n p) here (inv.served (suc i) p (ap (λ xs. slice_get xs (suc i)) steps ∙ e)));
      in_order = subst (ArePassesInOrder lock) (sym pp.items) order;
      each = λ i h t p r eh et ep er. each i h t p r (ap (λ xs. slice_get xs i) (sym ph.items) ∙ eh) (ap (λ xs. slice_get xs i) (sym pt.items) ∙ et)
          (ap (λ xs. slice_get xs i) (sym pp.items) ∙ ep) (ap (λ xs. slice_get xs i) (sym pr.items) ∙ er);
    }

pub returns : goal.returns
returns c =
    let inv = c.loop-place.invariant in
    let loaded = (lock_frame c.args.lock).value in
    let board = c.close-board.result.0 in
    let hs = c.loop-place.harts.items in
    let ts = c.loop-place.tallies.items in
    let rs = c.loop-place.receipts.items in
    let none : length (into_iter_items c.loop-place.place-iterator) ≡ 0 = sym inv.whole ∙ c.in-None.ensures.steps.0 in
    let left = inv.left in
    let nt = inv.tallies in
    let np = inv.passes in
    let nr = inv.receipts in
    let okh = c.loop-place.harts.ok in
    let okt = c.loop-place.tallies.ok in
    let okp = c.loop-place.passes.ok in
    let okr = c.loop-place.receipts.ok in
    let count = c.requires.count in
    let seats = c.requires.seats in
    let end = c.close-board.ensures in
    let remains = remains-there pass_seen loaded c.requires.loaded (record { board = board; harts = hs; tallies = ts; receipts = rs }) c.loop-place.passes.items
    (λ i h t p r eh et ep er. (let e = inv.each i h t p r eh et ep er in record { worker = e.worker; receipt = e.receipt }))
    (omega arith) (omega arith) (omega arith) (omega arith) end.0 end.1 end.2 in
    let H : List HartState → Type 0 = λ x. AreRemainsOf loaded (record { board = board; harts = x; tallies = c.new-2.result; receipts = c.new-3.result }) in
    let T : List Counts → Type 0 = λ x. AreRemainsOf loaded (record { board = board; harts = hs; tallies = x; receipts = c.new-3.result }) in
    let R : List Receipt → Type 0 = λ x. AreRemainsOf loaded (record { board = board; harts = hs; tallies = ts; receipts = x }) in
    record {
      remains = subst H (sym c.new.ensures.items) (subst T (sym c.new-2.ensures.items) (subst R (sym c.new-3.ensures.items) remains));
    }
