-- Counts of 64 bits have room for every order.
use Rattle.std.proofs.Common.{◌≡◌, ◌-◌, ◌∙◌, sym, ap, subst, arith}
use Rattle.std.proofs.lemmas.Result.{err_from_is_err_and}
use Rattle.order_laws.specs.Judging.{OrderEnd}
use Rattle.probe_log.specs.Counts.{counts_left}
use Rattle.kernel_cli.specs.Replays.{replay_events}
use Rattle.kernel_cli.specs.Playing.{IsEndBy}
use Rattle.kernel_cli.proofs.CountedFits.{replay_fits}
use Rattle.kernel_cli.proofs.replays.replay.Goals as goal

pub returns-in_err-core : goal.returns-in_err-core
returns-in_err-core c =
    let room : counts_left c.new.result ≡ 18446744073709551615 = ap counts_left c.new.ensures.counts in
    let p = err_from_is_err_and c.from_residual.result c.from_residual.ensures.1 in
    let same = replay_fits (counts_left c.new.result - 6) c.args.loaded.now c.counts_are_lengths.ensures.law c.emitted_is_kernel.ensures.kernel c.requires.loaded (omega (arith, room)) in
    rw (p.1, p.2) (record { text = subst (λ (end : OrderEnd). IsEndBy c.in_err-core.field-0.0 end) same c.in_err-core.ensures.replayed })

pub returns : goal.returns
returns c =
    let room : counts_left c.new.result ≡ 18446744073709551615 = ap counts_left c.new.ensures.counts in
    let same = replay_fits (counts_left c.new.result - 6) c.args.loaded.now c.counts_are_lengths.ensures.law c.emitted_is_kernel.ensures.kernel c.requires.loaded (omega (arith, room)) in
    record { text = (sym same ∙ c.in_ok-core.ensures.replayed.1, c.in_ok-core_report.ensures.text (replay_events c.args.loaded.now) c.in_ok-core.ensures.replayed.0) }
