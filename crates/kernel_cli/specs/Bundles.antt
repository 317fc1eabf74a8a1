-- What the input of a work over a bundle is read as, what is found of it, and its answer.
use Rattle.std.specs.Prelude.{◌≡◌, ℕ, ◌≤◌, true, false, List, length, Result, Ok, Err}
use Rattle.core_model.specs.declared.loaded.Loaded.{Loaded}
use Rattle.bundle_text.specs.Lines.{bundle_of}
use Rattle.bundle_text.specs.declared.bundle.Bundle.{Bundle}
use Rattle.bundle_text.specs.declared.bundle.BundleFault.{BundleFault}
use Rattle.rv_loader.specs.declared.fault.LoadFault.{LoadFault}
use Rattle.rv_loader.specs.Loading.{loading_of}
use Rattle.report_text.specs.AloneReport.{alone_report_of}
use Rattle.report_text.specs.AsmListing.{asm_text_of}
use Rattle.kernel_cli.specs.AloneTasks.{ends_of}
use Rattle.kernel_cli.specs.Answer.{Answer, done, refused, answer_of_text}
use Rattle.kernel_cli.specs.Findings.{Finding, Nothing, judgement_in, judgement_by_two_in}
use Rattle.kernel_cli.specs.Refusals.{bundle_refusal, load_refusal}
use Rattle.kernel_cli.specs.Replays.{replay_answer}
use Rattle.kernel_cli.specs.Scripts.{script_report, probes_text, explanations_text}
use Rattle.kernel_cli.specs.Verdicts.{IsJudged, IsJudgedByTwo, verdict_answer, verdict_two_answer}
use Rattle.kernel_cli.specs.Works.{text_limit}
use Rattle.kernel_cli.specs.declared.work.BundleWork.{BundleWork}
use Rattle.kernel_cli.specs.declared.work.BundleWork.TheVariants.{Alone, Asm, Script, Replay, Explain, Certify, CertifyTwo}

-- The bytes are read as a bundle, which loads for so many harts as this.
pub record LoadAs (harts : ℕ) (bytes : List ℕ) (loaded : Loaded) : Type 0 where
  pub within : length bytes ≤ text_limit
  pub bundle : Bundle
  pub reads : bundle_of bytes ≡ Ok bundle
  pub loads : loading_of bundle harts ≡ Ok loaded

-- the answer over what a bundle loads as, or the line that refuses it
abbrev pub loading_answer : (Loaded → Answer) → Result Loaded LoadFault → Answer
loading_answer answer (Ok loaded) = answer loaded
loading_answer answer (Err fault) = refused (load_refusal fault)

-- the answer over what bytes are read as, for so many harts
abbrev pub bundle_answer : (Loaded → Answer) → ℕ → Result Bundle BundleFault → Answer
bundle_answer answer harts (Ok bundle) = loading_answer answer (loading_of bundle harts)
bundle_answer answer harts (Err fault) = refused (bundle_refusal fault)

-- the answer to a work over a loaded bundle
abbrev pub loaded_answer : BundleWork → Finding → Loaded → Answer
loaded_answer Alone found loaded = done (alone_report_of (ends_of loaded.tasks))
loaded_answer Asm found loaded = done (asm_text_of loaded.tasks)
loaded_answer (Script false) found loaded = done (script_report loaded)
loaded_answer (Script true) found loaded = answer_of_text (probes_text loaded)
loaded_answer (Replay harts probes) found loaded = replay_answer probes loaded
loaded_answer Explain found loaded = answer_of_text (explanations_text loaded)
loaded_answer Certify found loaded = verdict_answer (judgement_in found)
loaded_answer CertifyTwo found loaded = verdict_two_answer (judgement_by_two_in found)

-- what it finds of the bundle
abbrev pub IsFoundIn : BundleWork → Loaded → Finding → Type 0
IsFoundIn Certify loaded found = IsJudged loaded (judgement_in found)
IsFoundIn CertifyTwo loaded found = IsJudgedByTwo loaded (judgement_by_two_in found)
IsFoundIn work loaded found = found ≡ Nothing
