-- What the decision means.
use Rattle.std.proofs.Common.{◌≡◌, ◌≢◌, ◌<◌, ◌-◌, ◌^◌, ℕ, length, List, Result, Ok, Err, IfOk, IfErr, refl}
use Rattle.bundle_text.specs.Answer.{IsRefusal, Answers}
use Rattle.bundle_text.specs.Pieces.{lines}
use Rattle.bundle_text.specs.Lines.{bundle_of}
use Rattle.bundle_text.specs.Form.{Breaks}
use Rattle.bundle_text.specs.Grammar.{Reads}
use Rattle.bundle_text.specs.Range.{IsInRange}
use Rattle.bundle_text.specs.declared.bundle.Bundle.{Bundle}
use Rattle.bundle_text.specs.declared.bundle.BundleFault.{BundleFault}
use Rattle.bundle_text.specs.declared.bundle.BundleKind.{BundleKind}
use Rattle.bundle_text.specs.declared.bundle.BundleKind.TheVariants.{NotText, UnknownWord, Misplaced, Operands, BadNumber, OutOfRange, Repeated, Missing, Memory}
use Rattle.bundle_text.proofs.LineLaws.{lines_are_of_form}
use Rattle.bundle_text.proofs.DraftRanges.{bundle_range}
use Rattle.bundle_text.proofs.Grammar.Sections.{sections_are}
use Rattle.bundle_text.proofs.reading.read_bundle.Goals as goal

range_of : (bytes : List ℕ) (r : Result Bundle BundleFault) → length bytes < 2 ^ 32 - 1 → Answers r (bundle_of bytes) → IfOk r IsInRange
range_of bytes (Ok b) short h = bundle_range bytes b short h
range_of bytes (Err fault) short h = tt

pub returns-clause-range : goal.returns-clause-range
returns-clause-range c = range_of c.args.bytes.now c.read_lines.result c.requires.length c.read_lines.ensures.decision

reads_of : (bytes : List ℕ) (r : Result Bundle BundleFault) → Answers r (bundle_of bytes) → IfOk r (λ bundle. Reads bytes bundle)
reads_of bytes (Ok b) h = record { text = lines bytes; text_is = lines_are_of_form bytes; bundle_is = sections_are (lines bytes) b h }
reads_of bytes (Err fault) h = tt

pub returns-clause-read : goal.returns-clause-read
returns-clause-read c = reads_of c.args.bytes.now c.read_lines.result c.read_lines.ensures.decision

-- a refusal that isn't for want of memory is the first fault
decided : (kind : BundleKind) (fault : BundleFault) (r : Result Bundle BundleFault) → kind ≢ Memory → IsRefusal kind fault r → r ≡ Err fault
decided Memory fault r other h = absurd (other refl)
decided NotText fault r other h = h
decided UnknownWord fault r other h = h
decided Misplaced fault r other h = h
decided Operands fault r other h = h
decided BadNumber fault r other h = h
decided OutOfRange fault r other h = h
decided Repeated fault r other h = h
decided Missing fault r other h = h

breaks_of : (bytes : List ℕ) (r : Result Bundle BundleFault) → Answers r (bundle_of bytes) → IfErr r (λ fault. fault.kind ≢ Memory → Breaks bytes fault)
breaks_of bytes (Ok b) h = tt
breaks_of bytes (Err fault) h =
    λ other. record { text = lines bytes; text_is = lines_are_of_form bytes; first = decided fault.kind fault (bundle_of bytes) other h }

pub returns-clause-fault : goal.returns-clause-fault
returns-clause-fault c = breaks_of c.args.bytes.now c.read_lines.result c.read_lines.ensures.decision

no_line : (kind : BundleKind) (fault : BundleFault) (r : Result Bundle BundleFault) → kind ≡ Memory → IsRefusal kind fault r → fault.line ≡ 0
no_line kind fault r e h = let at_memory = rw e at h in at_memory

memory_of : (bytes : List ℕ) (r : Result Bundle BundleFault) → Answers r (bundle_of bytes) → IfErr r (λ fault. fault.kind ≡ Memory → fault.line ≡ 0)
memory_of bytes (Ok b) h = tt
memory_of bytes (Err fault) h = λ e. no_line fault.kind fault (bundle_of bytes) e h

pub returns-clause-memory : goal.returns-clause-memory
returns-clause-memory c = memory_of c.args.bytes.now c.read_lines.result c.read_lines.ensures.decision
