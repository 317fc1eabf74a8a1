-- There is a group, and the first that is odd tells two secrets.
use Rattle.std.proofs.Common.{◌<◌, List, length, refl, sym, subst}
use Rattle.std.proofs.lemmas.Option.{slice_get_read}
use Rattle.probe_inspect.specs.declared.groups.Group.{Group}
use Rattle.probe_inspect.specs.Groups.{IsFirstOdd}
use Rattle.probe_inspect.proofs.EvenGroups.{some-group, uneven-groups}
use Rattle.probe_inspect.proofs.certifying.even_groups.Goals as goal

pub odd_group-requires : goal.odd_group-requires
odd_group-requires c = record {
  some = subst (λ (gs : List Group). 0 < length gs) (sym c.as_slice.ensures.value)
      (some-group c.args.worlds.now c.in_ok-groups.groups.items c.in_ok-groups.ensures.groups c.requires.admitted.some);
}

pub returns-in-Some-clause-refused : goal.returns-in-Some-clause-refused
returns-in-Some-clause-refused c =
    let worlds = c.args.worlds.now in
    let groups = c.in_ok-groups.groups.items in
    let are = c.in_ok-groups.ensures.groups in
    let g = c.index.result.now in
    let first = slice_get_read groups (length groups) 0 g refl (some-group worlds groups are c.requires.admitted.some) c.index.ensures in (
      c.requires.admitted,
      uneven-groups worlds groups are g c.in-Some.secret_b first
          (subst (λ (gs : List Group). IsFirstOdd gs c.in-Some.secret_b) c.as_slice.ensures.value c.in-Some.ensures.some),
    )
