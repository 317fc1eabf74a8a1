-- An entry more, which the reader gives. There is one below the number of entries.
use Rattle.std.proofs.Common.{◌≡◌, ◌<◌, ◌≤◌, ℕ, List, Some, None, sym, ap, ◌∙◌, ⊎_elim, arith, length, get_or}
use Rattle.std.proofs.lemmas.Option.{slice_get_cases}
use Rattle.std.specs.Prelude.{slice_get}
use Rattle.hart_model.specs.declared.probe.Probe.{Probe}
use Rattle.report_text.specs.Listing.{entry_line}
use Rattle.report_text.proofs.Appending.{entry_more}
use Rattle.report_text.proofs.log_listing.listing.Goals as goal
use Rattle.report_text.proofs.log_listing.listing.Goals.{in-Some+in_ok-add_line, in_default}

some_below : (log : List Probe) (n : ℕ) → n < length log → None ≡ slice_get log n → ⊥
some_below log n below none = ⊎_elim
    (λ (h : (x : Probe) × (n < length log) × (slice_get log n ≡ Some x) × (get_or log n x ≡ x)). let is = h.2 in absurd (cc))
    (λ (h : (length log ≤ n) × (slice_get log n ≡ None)). absurd (omega (arith, h.0)))
    (slice_get_cases log n).1

pub loop-preserved : goal.loop-preserved
loop-preserved c =
    let log = c.args.log.now.entries in
    let n = c.loop.counter in
    let step = c.next.ensures.entry log n c.loop.invariant.at in
    elim c.match-next.branch [
      | in-Some+in_ok-add_line w ↦ record {
        text = entry_more entry_line log n w.in-Some.probe c.loop.text.items c.match-next.text.items
            (sym step.0 ∙ w.in-Some.is) c.loop.invariant.text (ap (λ v. v.items) w.text-is ∙ w.in_ok-add_line.ensures.ok);
        at = step.1;
      }
      | in_default w ↦
          let below : n < length log = omega (arith, c.loop-test.true, c.len-end.ensures.length) in
          absurd (some_below log n below (w.in_default.ensures.entry log n c.loop.invariant.at).0)
    ]
