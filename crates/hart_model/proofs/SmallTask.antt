-- A small task and harts that hold it, on which the definitions are tried.
use Rattle.std.proofs.Common.{ℕ, List, [], ◌∷◌, Some}
use Rattle.isa_model.specs.declared.latch.Latch.{Latch}
use Rattle.isa_model.specs.declared.task.Task.{Task}
use Rattle.hart_model.specs.declared.probe.Probe.{Probe}
use Rattle.hart_model.specs.declared.tag.Mode.TheVariants.{User}
use Rattle.hart_model.specs.Csrs.{CsrFile, boot_csrs}
use Rattle.hart_model.specs.Pmp.{task_pmp}
use Rattle.hart_model.specs.Context.{BodyState, ContextState, fresh_body, fresh_words, admit_of}
use Rattle.hart_model.specs.HartState.{HartState, boot_hart}

-- a task of these words with one data word, a tape of one word, fuel 5 and an output of at most 1 word
abbrev pub small_task : List ℕ → Task
small_task code = record {
  code_at = 0x100000;
  data_at = 0x108000;
  code = code;
  data_len = 1;
  fuel = 5;
  out_max = 1;
  tape = 7 ∷ [];
}

-- it is task 3
abbrev pub small_body : List ℕ → BodyState
small_body code = fresh_body 3 (small_task code)

-- admitted into slot 2
abbrev pub small_context : List ℕ → ContextState
small_context code = admit_of (small_body code) 2 fresh_words

-- hart 1 in user mode at the first code word
abbrev pub user_csrs : List ℕ → CsrFile
user_csrs code = record (boot_csrs 1) { mode = User; pmp = task_pmp (small_task code) }

abbrev pub user_hart : List ℕ → HartState
user_hart code = record (boot_hart 1 0x100000) { csrs = user_csrs code; held = Some (small_context code) }

-- hart 1 in machine mode at the first kernel word, with the context, and with nothing
abbrev pub machine_hart : HartState
machine_hart = record (boot_hart 1 0x1000) { held = Some (small_context []) }

abbrev pub empty_hart : HartState
empty_hart = boot_hart 1 0x1000

-- the latches of entries, in order
abbrev pub latches_of : List Probe → List Latch
latches_of [] = []
latches_of (p ∷ ps) = p.latch ∷ latches_of ps
