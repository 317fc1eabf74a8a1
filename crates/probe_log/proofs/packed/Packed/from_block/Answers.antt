-- Where a block starts.
use Rattle.std.proofs.Common.{◌≡◌, ◌≤◌, ◌<◌, ◌*◌, ℕ, List, length, drop, None, sym, ap, ◌∙◌, subst}
use Rattle.hart_model.specs.declared.probe.Probe.{Probe}
use Rattle.probe_log.specs.Kept.{Kept}
use Rattle.probe_log.specs.Unpacking.{entries_in}
use Rattle.probe_log.specs.Reading.{Reading, IsAt}
use Rattle.probe_log.proofs.AtEntries.{at-block, block-start}
use Rattle.probe_log.proofs.packed.Packed.from_block.Goals as goal

pub new-requires : goal.new-requires
new-requires c =
    let p = c.self.inside in
    let log : List Probe = entries_in 0 None p.len p.words.items in
    let same : log ≡ c.args.self.now.entries = ap (λ (k : Kept). k.entries) c.self.view_is in
    let below : 64 * c.args.block < length log = subst (λ (l : List Probe). 64 * c.args.block < length l) (sym same) c.requires.block in
    let start = block-start p.words.items p.starts.items p.len p.last log c.args.block c.index-start.result.now c.self.invariant.0 below c.index-start.ensures in
    record { start = subst (λ (w : List ℕ). c.index-start.result.now ≤ length w) (sym c.as_slice.ensures.value) start.0 }

pub returns : goal.returns
returns c =
    let p = c.self.inside in
    let log : List Probe = entries_in 0 None p.len p.words.items in
    let n : ℕ = 64 * c.args.block in
    let same : log ≡ c.args.self.now.entries = ap (λ (k : Kept). k.entries) c.self.view_is in
    let below : n < length log = subst (λ (l : List Probe). 64 * c.args.block < length l) (sym same) c.requires.block in
    let at = at-block p.words.items p.starts.items p.len p.last log c.args.block c.index-start.result.now c.self.invariant.0 below c.index-start.ensures in
    let reader : c.new.result ≡ record { place = 0; before = None; words = drop c.index-start.result.now p.words.items } =
    c.new.ensures.reader ∙ ap (λ (w : List ℕ). record { place = 0; before = None; words = drop c.index-start.result.now w }) c.as_slice.ensures.value in
    record { start = subst (λ (l : List Probe). IsAt c.new.result l n) same (subst (λ (r : Reading). IsAt r log n) (sym reader) at) }
