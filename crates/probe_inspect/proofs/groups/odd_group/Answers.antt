-- The first group with another number of members, and where there is none.
use Rattle.std.proofs.Common.{◌≡◌, ◌+◌, ◌<◌, ◌≤◌, ◌⊎◌, inl, inr, ℕ, List, length, slice_get, Some, refl, ap, sym, ◌∙◌, arith}
use Rattle.std.proofs.lemmas.Bool.{cases_lt}
use Rattle.std.proofs.lemmas.Option.{slice_get_read, slice_get-get_or, same_Some}
use Rattle.probe_inspect.specs.declared.groups.Group.{Group}
use Rattle.probe_inspect.proofs.groups.odd_group.Goals as goal

pub returns-then-len-size-clause-some : goal.returns-then-len-size-clause-some
returns-then-len-size-clause-some c =
    let groups = c.args.groups.now in
    let inv = c.loop-group.invariant in
    record {
      place = c.loop-group.group-index;
      group = c.group-item.result;
      there = slice_get_read groups (length groups) c.loop-group.group-index c.group-item.result refl c.loop-group-test.true c.group-item.is;
      is_secret = refl;
      odd = λ g first same.
          let size = inv.size g first in
          let len = c.len.ensures.length in
          absurd (c.if-len-size.true (len ∙ same ∙ sym size));
      before = λ i h low is g first. inv.same i h low is ∙ inv.size g first;
    }

pub loop-group-preserved : goal.loop-group-preserved
loop-group-preserved c =
    let groups = c.args.groups.now in
    let i = c.loop-group.group-index in
    let inv = c.loop-group.invariant in
    let here = slice_get_read groups (length groups) i c.group-item.result refl c.loop-group-test.true c.group-item.is in
    let len = c.len.ensures.length in
    let same : length c.group-item.result.members ≡ c.len-size.result = sym len ∙ c.if-len-size.false in
    record {
      size = inv.size;
      same = λ k h low is. go groups i k h c.group-item.result c.len-size.result here same (inv.same k h) is (cases_lt k i) low;
    }
  where
    go : (groups : List Group) (i k : ℕ) (h item : Group) (size : ℕ) → slice_get groups i ≡ Some item → length item.members ≡ size
        → (k < i → slice_get groups k ≡ Some h → length h.members ≡ size) → slice_get groups k ≡ Some h
        → (k < i) ⊎ (i ≤ k) → k < i + 1 → length h.members ≡ size
    go groups i k h item size here same before is (inl less) low = before less is
    go groups i k h item size here same before is (inr past) low =
        let at : i ≡ k = omega (arith, past, low) in
        let one : item ≡ h = same_Some item h (sym here ∙ ap (λ n. slice_get groups n) at ∙ is) in
        ap (λ (g : Group). length g.members) (sym one) ∙ same

pub returns-clause-none : goal.returns-clause-none
returns-clause-none c =
    let groups = c.args.groups.now in
    let inv = c.loop-group.invariant in
    λ k d low g first.
    inv.same k _ (omega (arith, low, c.loop-group-test.false)) (slice_get-get_or groups k d low) ∙ inv.size g first
