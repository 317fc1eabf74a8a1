-- At the first entry.
use Rattle.std.proofs.Common.{◌≡◌, ℕ, List, None, sym, ap, ◌∙◌, subst}
use Rattle.hart_model.specs.declared.probe.Probe.{Probe}
use Rattle.probe_log.specs.Kept.{Kept}
use Rattle.probe_log.specs.Unpacking.{entries_in}
use Rattle.probe_log.specs.Reading.{Reading, IsAt}
use Rattle.probe_log.proofs.AtEntries.{at-start}
use Rattle.probe_log.proofs.packed.Packed.from_start.Goals as goal

pub returns : goal.returns
returns c =
    let p = c.self.inside in
    let log : List Probe = entries_in 0 None p.len p.words.items in
    let same : log ≡ c.args.self.now.entries = ap (λ (k : Kept). k.entries) c.self.view_is in
    let at = at-start p.words.items p.starts.items p.len p.last log c.self.invariant.0 in
    let reader : c.new.result ≡ record { place = 0; before = None; words = p.words.items } =
    c.new.ensures.reader ∙ ap (λ (w : List ℕ). record { place = 0; before = None; words = w }) c.as_slice.ensures.value in
    record { start = subst (λ (l : List Probe). IsAt c.new.result l 0) same (subst (λ (r : Reading). IsAt r log 0) (sym reader) at) }
