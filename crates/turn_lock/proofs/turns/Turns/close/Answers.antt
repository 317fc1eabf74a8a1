use Rattle.std.proofs.Common.{slice_get, rules, ◌≡◌, suc, [], ◌∷◌, ◌++◌, map, length, sym, ap, ◌∙◌, subst, arith, append-nil}
use Rattle.std.proofs.lemmas.List.{length-map}
use Rattle.std.specs.Vec.Iter.{into_iter_items}
use Rattle.turn_lock.specs.Order.{KnowsOwnEntries, IsWholeOrder}
use Rattle.turn_lock.specs.Rule.{KnowsJoined}
use Rattle.turn_lock.specs.Passes.{pass_seen}
use Rattle.turn_lock.proofs.Places.{to_slice_get, at_seam, first_and_rest, nil_of_length}
use Rattle.turn_lock.proofs.SeatChanges.{join_keeps_rule}
use Rattle.turn_lock.proofs.WholeOrder.{knows_all, knows_joined_all}
use Rattle.turn_lock.proofs.turns.Turns.close.Goals as goal

-- the pass that is joined is the next after those that were, of which seat 0 keeps an order each
pub join_seat-requires : goal.join_seat-requires
join_seat-requires g c =
    let inv = c.loop-pass.invariant in
    let joined = c.loop-pass.yielded in
    let pass = c.in-Some.pass in
    let later = into_iter_items c.next.new.self in
    let first = c.remove-first.result in
    let view = inv.6 in
    let ok = c.args.passes.ok in
    let count = c.requires.count in
    let some_seat = c.args.self.some_seat in
    let others : joined ++ pass ∷ later ≡ c.remove-first.new.self.items = ap (λ xs. joined ++ xs) (sym c.in-Some.ensures.steps.0) ∙ (inv.2 ∙ c.into_iter-pass-iterator.ensures.into_iter_gives.0) in
    let all : c.args.passes.items ≡ first ∷ (joined ++ pass ∷ later) = first_and_rest c.args.passes.items first (joined ++ pass ∷ later) (omega arith) c.remove-first.ensures.value (others ∙ c.remove-first.ensures.items) in
    let zeroth = c.requires.passes 0 first (ap (λ xs. slice_get xs 0) all) in
    let his = c.requires.passes (suc (length joined)) pass (ap (λ xs. slice_get xs (suc (length joined))) all ∙ to_slice_get (joined ++ pass ∷ later) (length joined) pass (at_seam joined later pass)) in
    let orders = ap (λ v. length v.joined_orders) view ∙ ap (λ xs. length (xs ++ map pass_seen joined)) first.has_joined_none in
    let as_many = length-map joined pass_seen in
    let number = his.1 in (
      inv.4 ∙ zeroth.0.0,
      his.0.0,
      pass.holds_nothing,
      search rules,
      join_keeps_rule g.V.Turned.stands _ _ _ _ _ (ap (λ v. v.number) view ∙ zeroth.1) (ap (λ v. v.stage) view ∙ first.idle) (ap (λ v. v.frame) view ∙ zeroth.0.1) pass.idle his.0.1 (omega arith),
    )

pub value_of_table-requires-clause-table : goal.value_of_table-requires-clause-table
value_of_table-requires-clause-table g c κs within =
    let inv = c.loop-pass.invariant in
    let joined = c.loop-pass.yielded in
    let first = c.remove-first.result in
    let ok = c.args.passes.ok in
    let count = c.requires.count in
    let some_seat = c.args.self.some_seat in
    let left : into_iter_items c.loop-pass.pass-iterator ≡ [] = nil_of_length _ (sym inv.3 ∙ c.in-None.ensures.steps.0) in
    let others : joined ≡ c.remove-first.new.self.items = sym (append-nil joined) ∙ (ap (λ xs. joined ++ xs) (sym left) ∙ (inv.2 ∙ c.into_iter-pass-iterator.ensures.into_iter_gives.0)) in
    let all : c.args.passes.items ≡ first ∷ joined = first_and_rest c.args.passes.items first joined (omega arith) c.remove-first.ensures.value (others ∙ c.remove-first.ensures.items) in
    inv.4 ∙ (c.requires.passes 0 first (ap (λ xs. slice_get xs 0) all)).0.0

pub value_of_table-requires-clause-first : goal.value_of_table-requires-clause-first
value_of_table-requires-clause-first g c κs within =
    let inv = c.loop-pass.invariant in
    let joined = c.loop-pass.yielded in
    let first = c.remove-first.result in
    let view = inv.6 in
    let ok = c.args.passes.ok in
    let count = c.requires.count in
    let some_seat = c.args.self.some_seat in
    let left : into_iter_items c.loop-pass.pass-iterator ≡ [] = nil_of_length _ (sym inv.3 ∙ c.in-None.ensures.steps.0) in
    let others : joined ≡ c.remove-first.new.self.items = sym (append-nil joined) ∙ (ap (λ xs. joined ++ xs) (sym left) ∙ (inv.2 ∙ c.into_iter-pass-iterator.ensures.into_iter_gives.0)) in
    let all : c.args.passes.items ≡ first ∷ joined = first_and_rest c.args.passes.items first joined (omega arith) c.remove-first.ensures.value (others ∙ c.remove-first.ensures.items) in
    let zeroth = c.requires.passes 0 first (ap (λ xs. slice_get xs 0) all) in
    let orders = ap (λ v. length v.joined_orders) view ∙ ap (λ xs. length (xs ++ map pass_seen joined)) first.has_joined_none in
    let as_many = length-map joined pass_seen in
    let long = ap length all in record {
      first = ap (λ v. v.number) view ∙ zeroth.1;
      idle = ap (λ v. v.stage) view ∙ first.idle;
      frame = ap (λ v. v.frame) view ∙ zeroth.0.1;
      all_joined = omega arith;
    }

-- what seat 0 kept is what all passes had seen
pub returns : goal.returns
returns g c =
    let inv = c.loop-pass.invariant in
    let joined = c.loop-pass.yielded in
    let first = c.remove-first.result in
    let view = inv.6 in
    let ok = c.args.passes.ok in
    let count = c.requires.count in
    let some_seat = c.args.self.some_seat in
    let left : into_iter_items c.loop-pass.pass-iterator ≡ [] = nil_of_length _ (sym inv.3 ∙ c.in-None.ensures.steps.0) in
    let others : joined ≡ c.remove-first.new.self.items = sym (append-nil joined) ∙ (ap (λ xs. joined ++ xs) (sym left) ∙ (inv.2 ∙ c.into_iter-pass-iterator.ensures.into_iter_gives.0)) in
    let all : c.args.passes.items ≡ first ∷ joined = first_and_rest c.args.passes.items first joined (omega arith) c.remove-first.ensures.value (others ∙ c.remove-first.ensures.items) in
    let seens = pass_seen first ∷ map pass_seen joined in
    let orders : c.loop-pass.first.me.0.joined_orders ≡ map pass_seen joined = ap (λ v. v.joined_orders) view ∙ ap (λ xs. xs ++ map pass_seen joined) first.has_joined_none in
    let whole = c.value_of_table.ensures in
    let as_many = length-map joined pass_seen in
    let long = ap length all in
    let each = knows_joined_all (pass_seen first) (map pass_seen joined) whole.order (subst (λ v. KnowsOwnEntries 0 v.seen whole.order) view whole.known) (subst (KnowsJoined whole.order) orders whole.joined_known) in
    let known = knows_all whole.order seens (omega arith) each (λ n past. whole.no_other_entries n (omega arith)) in
    (whole.order, whole.value, subst (λ xs. IsWholeOrder whole.order (map pass_seen xs)) (sym all) known)
