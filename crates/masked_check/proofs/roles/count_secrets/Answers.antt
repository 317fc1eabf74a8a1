use Rattle.std.proofs.Common.{◌≡◌, ℕ, ◌<◌, slice_get, Some, arith, below_more}
use Rattle.std.proofs.lemmas.Option.{get_or_from_slice_get, slice_get_within}
use Rattle.masked_worlds.specs.declared.role.Role.TheVariants.{Share}
use Rattle.masked_check.proofs.roles.count_secrets.Goals as goal

pub loop-role-init : goal.loop-role-init
loop-role-init c = λ place low k at. absurd (omega arith)

pub loop-role-preserved : goal.loop-role-preserved
loop-role-preserved c =
    below_more (λ (place : ℕ). (k : ℕ) → slice_get c.args.roles.now place ≡ Some (Share k) → k < c.count_with-count.result) c.loop-role.role-index
    (λ place low k at. let before = c.loop-role.invariant place low k at in let kept = c.count_with-count.ensures.kept in omega arith)
    (λ k at. c.count_with-count.ensures.below k (get_or_from_slice_get c.args.roles.now c.loop-role.role-index (Share k) _ at))

pub returns : goal.returns
returns c = record {
  below = λ k place at. let within = slice_get_within c.args.roles.now place (Share k) at in c.loop-role.invariant place (omega arith) k at;
}
