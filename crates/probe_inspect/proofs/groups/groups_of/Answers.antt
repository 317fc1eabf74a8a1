-- The groups of all places.
use Rattle.std.proofs.Common.{List, ℕ, length, sym, subst, IsPermutation}
use Rattle.std.proofs.lemmas.Result.{IfOk-weaker}
use Rattle.probe_inspect.specs.Groups.{numbered, AreGroupsTo, AreGroups}
use Rattle.probe_inspect.proofs.Grouping.{are-groups}
use Rattle.probe_inspect.proofs.groups.groups_of.Goals as goal

pub returns : goal.returns
returns c =
    let worlds = c.args.worlds.now in
    let order = c.as_slice.result.now in
    let moved : IsPermutation (numbered worlds (length worlds)) order =
    subst (λ (xs : List (ℕ × ℕ)). IsPermutation (numbered worlds (length worlds)) xs) (sym c.as_slice.ensures.value) c.in_ok-order.ensures.moved in
    record {
      groups = IfOk-weaker c.groups_in.result (λ groups. AreGroupsTo order (length order) groups.items) (λ groups. AreGroups worlds groups.items)
          (λ groups to. are-groups worlds order moved groups.items to) c.groups_in.ensures.groups;
    }
