-- One context more goes to the back of its band.
use Rattle.std.proofs.Common.{◌≡◌, [], ◌∷◌, List, length, length-append, refl, sym, ap, ◌∙◌, append_assoc, append-nil, arith}
use Rattle.std.specs.Vec.Iter.{into_iter_items}
use Rattle.core_model.specs.Board.{ReadyLists, by_bands}
use Rattle.core_model.proofs.ReadyLists.{by_bands-push, length-all_ready}
use Rattle.ready_queue.proofs.ready.Ready.again.Goals as goal

nothing_left : {X : Type 0} (l : List X) → length l ≡ 0 → l ≡ []
nothing_left [] h = refl
nothing_left (x ∷ xs) h = absurd (omega arith)

pub push-requires : goal.push-requires
push-requires c =
    let at = c.loop-context in
    let bands = c.args.bands.items in
    let later = into_iter_items c.next.new.self in
    let steps : into_iter_items at.context-iterator ≡ c.in-Some.context ∷ later = c.in-Some.ensures.steps.0 in
    let all = ap length (rw steps at at.invariant.items ∙ c.into_iter-context-iterator.ensures.into_iter_gives.0) in
    let parts = length-append at.yielded (c.in-Some.context ∷ later) in
    let held = length-all_ready bands at.yielded in
    record { room = rw at.invariant.ready (omega (arith, all, parts, held)) }

pub loop-context-preserved : goal.loop-context-preserved
loop-context-preserved c =
    let at = c.loop-context in
    let x = c.in-Some.context in
    let bands = c.args.bands.items in
    let steps : into_iter_items at.context-iterator ≡ x ∷ into_iter_items c.next.new.self = c.in-Some.ensures.steps.0 in
    record {
      items = append_assoc at.yielded (x ∷ []) _ ∙ rw (← steps) at.invariant.items;
      left =
          let gone = c.in-Some.ensures.steps.1 in
          let short = ap length steps in
          let was = at.invariant.left in
          omega arith;
      ready = rw (c.push.ensures.ready, at.invariant.ready)
          (ap (λ (lists : ReadyLists). record { lists = lists; bands = bands; room = c.args.room }) (sym (by_bands-push bands at.yielded x)));
    }

pub returns : goal.returns
returns c =
    let at = c.loop-context in
    let bands = c.args.bands.items in
    let none = c.in-None.ensures.steps in
    let empty : into_iter_items at.context-iterator ≡ [] = nothing_left _ (sym at.invariant.left ∙ none.0) in
    let all = sym (append-nil at.yielded) ∙ rw empty at at.invariant.items ∙ c.into_iter-context-iterator.ensures.into_iter_gives.0 in
    record { ready = at.invariant.ready ∙ ap (λ contexts. record { lists = by_bands bands contexts; bands = bands; room = c.args.room }) all }
