-- An entry more.
use Rattle.std.proofs.Common.{◌≤◌, ◌++◌, ◌∷◌, [], List, None, sym, ap, ◌∙◌, subst, arith}
use Rattle.hart_model.specs.declared.probe.Probe.{Probe}
use Rattle.probe_log.specs.Kept.{Kept}
use Rattle.probe_log.specs.Unpacking.{entries_in}
use Rattle.probe_log.proofs.PackedLogs.{pushed}
use Rattle.probe_log.proofs.packed.PackedKeeper.put.Goals as goal

pub invariant_of-self : goal.invariant_of-self
invariant_of-self c =
    let p = c.self.inside in
    let seen = ap (λ (k : Kept). k.entries) c.self.view_is in
    let more = pushed p.words.items c.push_entry.new.words.items c.as_slice.result.now p.starts.items c.push_start.new.starts.items p.len p.last
    c.before-before.result (entries_in 0 None p.len p.words.items) c.args.self.now.entries c.args.probe c.self.invariant.0 seen
    c.push_entry.ensures.entry c.before-before.ensures.before c.push_entry.ensures.words c.as_slice.ensures.value c.push_start.ensures.starts in
    let room : 1 ≤ p.room = subst (λ (k : Kept). 1 ≤ k.room) (sym c.self.view_is) c.requires.room in
    let kept = c.self.invariant in
    (more.is_packed, omega (arith, kept.1, c.push_entry.ensures.len, c.push_entry.ensures.capacity), omega (arith, kept.2, c.push_start.ensures.capacity), omega (arith, kept.3))

pub returns-clause-entry : goal.returns-clause-entry
returns-clause-entry c = λ log stood.
    let p = c.self.inside in
    let seen = ap (λ (k : Kept). k.entries) c.self.view_is in
    let more = pushed p.words.items c.push_entry.new.words.items c.as_slice.result.now p.starts.items c.push_start.new.starts.items p.len p.last
    c.before-before.result (entries_in 0 None p.len p.words.items) c.args.self.now.entries c.args.probe c.self.invariant.0 seen
    c.push_entry.ensures.entry c.before-before.ensures.before c.push_entry.ensures.words c.as_slice.ensures.value c.push_start.ensures.starts in
    more.entries ∙ ap (λ (l : List Probe). l ++ c.args.probe ∷ []) (seen ∙ stood)
