-- The list of the worlds is sorted.
use Rattle.std.proofs.Common.{◌≡◌, ◌∷◌, [], ◌++◌, length, get_or, ap, sym, ◌∙◌, subst, arith, IsPermutation, List, ℕ}
use Rattle.core_model.specs.declared.world.World.{World}
use Rattle.probe_inspect.specs.Groups.{numbered}
use Rattle.probe_inspect.proofs.Numbered.{numbered-none, numbered-more, firsts-sorted}
use Rattle.probe_inspect.proofs.groups.by_secret.Goals as goal

pub loop-i-init : goal.loop-i-init
loop-i-init c = c.in_ok-order.ensures.items ∙ sym (numbered-none c.args.worlds.now)

pub loop-i-preserved : goal.loop-i-preserved
loop-i-preserved c =
    let i = c.loop-i.i in
    let more = numbered-more c.args.worlds.now i c.index-worlds-i.result c.loop-i-test.true c.index-worlds-i.is in
    c.in_ok-push.ensures.items
    ∙ ap (λ (xs : List (ℕ × ℕ)). xs ++ ((get_or c.args.worlds.now i c.index-worlds-i.result).secret, i) ∷ []) c.loop-i.invariant
    ∙ ap (λ (w : World). numbered c.args.worlds.now i ++ (w.secret, i) ∷ []) (sym c.index-worlds-i.is) ∙ sym more

pub returns-clause-moved : goal.returns-clause-moved
returns-clause-moved c =
    let past = c.loop-i-test.false in
    let upto = c.loop-i.auto.i-end in
    let at : c.loop-i.i ≡ length c.args.worlds.now = omega arith in
    let all : c.loop-i.order.items ≡ numbered c.args.worlds.now (length c.args.worlds.now) =
    c.loop-i.invariant ∙ ap (λ n. numbered c.args.worlds.now n) at in
    subst (λ (xs : List (ℕ × ℕ)). IsPermutation xs c.sort_unstable.new.self.items) all c.sort_unstable.ensures.permutation

pub returns-clause-sorted : goal.returns-clause-sorted
returns-clause-sorted c = firsts-sorted c.sort_unstable.new.self.items c.sort_unstable.ensures.sorted
