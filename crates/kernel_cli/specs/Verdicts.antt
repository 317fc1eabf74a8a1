-- What `certify` and `certify 2` find of a bundle, and their answers.
use Rattle.std.specs.Prelude.{◌≡◌, ◌≢◌, slice_get, Some, Result, Ok, Err}
use Rattle.isa_model.specs.declared.task.Task.{Task}
use Rattle.core_model.specs.declared.loaded.Loaded.{Loaded}
use Rattle.probing_laws.specs.Certified.{IsCertified}
use Rattle.probing_laws.specs.declared.verdict.Verdict.{Verdict}
use Rattle.probing_laws.specs.declared.verdict.Verdict.TheVariants.{Secure}
use Rattle.probing_laws.specs.declared.verdict.CertFault.{CertFault}
use Rattle.probing_laws.specs.declared.verdict.CertFault.TheVariants.{ControlDiffers, Memory}
use Rattle.probing_laws.specs.CertifiedTwo.{IsCertifiedTwo}
use Rattle.probing_laws.specs.declared.verdict_two.VerdictTwo.{VerdictTwo}
use Rattle.probing_laws.specs.declared.verdict_two.VerdictTwo.TheVariants as two
use Rattle.probing_laws.specs.declared.verdict_two.TwoFault.{TwoFault}
use Rattle.probing_laws.specs.declared.verdict_two.TwoFault.TheVariants as two_faults
use Rattle.report_text.specs.VerdictText.{verdict_text_of, cert_fault_text_of}
use Rattle.report_text.specs.VerdictTwoText.{verdict_two_text_of, two_fault_text_of}
use Rattle.kernel_cli.specs.Answer.{Answer, done, judged, refused}

-- what is judged of the first task of a bundle in the bundle's worlds; want of memory is no judgement
pub record IsJudged (loaded : Loaded) (judgement : Result Verdict CertFault) : Type 0 where
  pub judged : judgement ≢ Err Memory
  pub certified : (T : Task) → slice_get loaded.tasks 0 ≡ Some T → IsCertified T loaded.worlds judgement

abbrev pub verdict_answer : Result Verdict CertFault → Answer
verdict_answer (Ok (Secure places)) = done (verdict_text_of (Secure places))
verdict_answer (Ok verdict) = judged (verdict_text_of verdict)
verdict_answer (Err (ControlDiffers v w step)) = judged (cert_fault_text_of (ControlDiffers v w step))
verdict_answer (Err fault) = refused (cert_fault_text_of fault)

-- So it is by two probes at once.
pub record IsJudgedByTwo (loaded : Loaded) (judgement : Result VerdictTwo TwoFault) : Type 0 where
  pub judged : judgement ≢ Err two_faults.Memory
  pub certified : (T : Task) → slice_get loaded.tasks 0 ≡ Some T → IsCertifiedTwo T loaded.worlds judgement

-- where one probe gives no verdict, the answer by one
abbrev pub verdict_two_answer : Result VerdictTwo TwoFault → Answer
verdict_two_answer (Ok (two.Secure places)) = done (verdict_two_text_of (two.Secure places))
verdict_two_answer (Ok verdict) = judged (verdict_two_text_of verdict)
verdict_two_answer (Err (two_faults.Cert fault)) = verdict_answer (Err fault)
verdict_two_answer (Err fault) = refused (two_fault_text_of fault)
