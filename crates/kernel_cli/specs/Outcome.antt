-- An answer of the code, as the answer that it is; and what the input was read as.
use Rattle.std.specs.Prelude.{◌≡◌, ℕ, List, Some, Result, Ok, Err}
use Rattle.core_model.specs.declared.loaded.Loaded.{Loaded}
use Rattle.core_model.specs.Loaded.{IsLoaded}
use Rattle.bundle_text.specs.declared.bundle.Bundle.{Bundle}
use Rattle.bundle_text.specs.Lines.{bundle_of}
use Rattle.rv_loader.specs.Loading.{loading_of}
use Rattle.kernel_cli.specs.Answer.{Answer}
use Rattle.kernel_cli.specs.AnswerOf.{answer_of, IsFound}
use Rattle.kernel_cli.specs.Bundles.{bundle_answer, loaded_answer, IsFoundIn}
use Rattle.kernel_cli.specs.Findings.{Finding}
use Rattle.kernel_cli.specs.Runs.{run_answer, IsFoundByThreads}
use Rattle.kernel_cli.specs.declared.answer.Response.{Response}
use Rattle.kernel_cli.specs.declared.answer.Outcome.{Outcome}
use Rattle.kernel_cli.specs.declared.answer.Outcome.TheVariants as outcomes
use Rattle.kernel_cli.specs.declared.status.Status.{Status}
use Rattle.kernel_cli.specs.declared.status.Status.TheVariants.{Fine, Verdict, BadInput, LogFull}
use Rattle.kernel_cli.specs.declared.work.Work.{Work}
use Rattle.kernel_cli.specs.declared.work.BundleWork.{BundleWork}
use Rattle.kernel_cli.specs.declared.work.ThreadWork.{ThreadWork}

abbrev pub status_of : Outcome → Status
status_of outcomes.Fine = Fine
status_of outcomes.Verdict = Verdict
status_of outcomes.BadInput = BadInput
status_of outcomes.LogFull = LogFull

pub record IsAnswer (response : Response) (answer : Answer) : Type 0 where
  pub status : status_of response.outcome ≡ answer.status
  pub text : response.text.items ≡ answer.text

-- the answer to a work over these bytes, and over what it finds of them
abbrev pub IsAnswerOver : Work → List ℕ → Response → Type 0
IsAnswerOver work bytes response = (found : Finding) × IsFound (Some work) bytes found × IsAnswer response (answer_of (Some work) found bytes)

-- the answer to a work over a loaded bundle, and over what it finds of it; and to one on threads
abbrev pub IsAnswerIn : BundleWork → Loaded → Response → Type 0
IsAnswerIn work loaded response = (found : Finding) × IsFoundIn work loaded found × IsAnswer response (loaded_answer work found loaded)

abbrev pub IsAnswerByThreads : ThreadWork → Loaded → Response → Type 0
IsAnswerByThreads work loaded response = (found : Finding) × IsFoundByThreads work loaded found × IsAnswer response (run_answer work found loaded)

-- The bytes are a bundle, which loads for so many harts as this, and a core may be made of it.
pub record IsLoadedFrom (harts : ℕ) (bytes : List ℕ) (loaded : Loaded) : Type 0 where
  pub bundle : Bundle
  pub reads : bundle_of bytes ≡ Ok bundle
  pub loads : loading_of bundle harts ≡ Ok loaded
  pub is_loaded : IsLoaded loaded
  pub harts_are : loaded.harts ≡ harts

-- They are refused: this is the answer over them to all that asks for so many harts.
pub record IsRefusedFor (harts : ℕ) (bytes : List ℕ) (response : Response) : Type 0 where
  pub outcome : response.outcome ≡ outcomes.BadInput
  pub answer : (answer : Loaded → Answer) → IsAnswer response (bundle_answer answer harts (bundle_of bytes))

-- what bytes are read as for so many harts
abbrev pub IsRead : ℕ → List ℕ → Result Loaded Response → Type 0
IsRead harts bytes (Ok loaded) = IsLoadedFrom harts bytes loaded
IsRead harts bytes (Err response) = IsRefusedFor harts bytes response
