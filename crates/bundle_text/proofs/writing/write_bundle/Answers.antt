-- What is written is the text of the bundle, which reads back.
use Rattle.std.proofs.Common.{◌≡◌, rules, sym, subst, append_assoc}
use Rattle.bundle_text.specs.Text.{text_of, ReadsBack}
use Rattle.bundle_text.proofs.RoundTrip.Whole.{written_reads_back}
use Rattle.bundle_text.proofs.writing.write_bundle.Goals as goal

pub returns-clause-reads_back : goal.returns-clause-reads_back
returns-clause-reads_back c =
    let bundle = c.args.bundle.now in
    let written : c.add_order.new.out.items ≡ text_of bundle = search (rules, append_assoc) in
    subst (λ text. ReadsBack text bundle) (sym written) (written_reads_back bundle c.requires.writable)
