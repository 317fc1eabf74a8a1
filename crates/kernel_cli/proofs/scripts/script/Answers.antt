-- Counts of 64 bits have room for every list of events.
use Rattle.std.proofs.Common.{◌≡◌, ◌-◌, ◌∙◌, true, false, is_none, sym, ap, arith}
use Rattle.probe_log.specs.Counts.{counts_left}
use Rattle.kernel_cli.specs.Scripts.{is_script_above}
use Rattle.kernel_cli.proofs.ScriptFits.{script_fits}
use Rattle.kernel_cli.proofs.scripts.script.Goals as goal

pub unreachable-requires : goal.unreachable-requires
unreachable-requires c =
    let room : counts_left c.new.result ≡ 18446744073709551615 = ap counts_left c.new.ensures.counts in
    let fits = script_fits (counts_left c.new.result - 6) c.args.loaded.now c.counts_are_lengths.ensures.law c.requires.loaded (omega arith) in
    let none : is_none c.in_ok-core.field-0 ≡ is_script_above (counts_left c.new.result - 6) c.args.loaded.now = c.in_ok-core.ensures.none in
    let is : is_none c.in_ok-core.field-0 ≡ true = ap (λ o. is_none o) c.in-None.is in
    let bad : true ≡ false = sym is ∙ none ∙ fits in
    absurd cc
