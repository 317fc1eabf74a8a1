-- By the lines that are cut from the text.
use Rattle.std.proofs.Common.{◌+◌, List, ℕ, length, ap, ◌∙◌, arith}
use Rattle.bundle_text.specs.Pieces.{lines}
use Rattle.bundle_text.specs.Lines.{with_lines, no_lines}
use Rattle.bundle_text.specs.Form.{Breaks}
use Rattle.bundle_text.specs.declared.bundle.BundleFault.{BundleFault}
use Rattle.bundle_text.proofs.LineLaws.{lines_are_unique}
use Rattle.bundle_text.proofs.Faults.{IsFaultOf, fault_of_lines, not_memory}
use Rattle.bundle_text.proofs.laws.faults_name_lines.Goals as goal

fault_is : (bytes : List ℕ) (fault : BundleFault) → Breaks bytes fault → IsFaultOf 1 (1 + length (lines bytes)) fault
fault_is bytes fault h =
    fault_of_lines (lines bytes) no_lines fault (ap (λ ls. with_lines 1 no_lines ls) (lines_are_unique h.text bytes h.text_is) ∙ h.first)

pub returns : goal.returns
returns c = record {
  line_low = λ bytes fault h. (fault_is bytes fault h).line_low;
  line_high = λ bytes fault h. let high = (fault_is bytes fault h).line_high in omega arith;
  kind = λ bytes fault h. not_memory fault.kind (fault_is bytes fault h).of_form;
}
