-- When a machine of terms stands for the states of a task on all its tapes.
use Rattle.std.specs.Prelude.{◌≡◌, ℕ, ◌^◌, ◌<◌, Bool, true, false, List, length, get_or, Some, option_map}
use Rattle.isa_model.specs.declared.instr.Instr.{Instr}
use Rattle.isa_model.specs.declared.task.Task.{Task}
use Rattle.isa_model.specs.Alone.{AloneState, alone_at, after_decode}
use Rattle.isa_model.specs.Control.{kind_of}
use Rattle.tape_terms.specs.declared.term.Term.{Term}
use Rattle.tape_terms.specs.Values.{Keeps}
use Rattle.masked_run.specs.declared.machine.Machine.{Machine}
use Rattle.masked_run.specs.Places.{term_at, AreIn, Denote}

abbrev pub with_tape : Task → List ℕ → Task
with_tape T tape = record T { tape = tape }

-- a tape of words as long as the task's own, with its words at the places that are fixed
pub record IsTapeOf (T : Task) (fixed : List Bool) (tape : List ℕ) : Type 0 where
  pub as_long : length tape ≡ length T.tape
  pub words : (place : ℕ) → get_or tape place 0 < 2 ^ 32
  pub same : (place : ℕ) → get_or fixed place false ≡ true → get_or tape place 0 ≡ get_or T.tape place 0

-- a machine whose control is that of a state, and whose terms denote its values
pub record StandsFor (terms : List Term) (tape : List ℕ) (s : AloneState) (m : Machine) : Type 0 where
  pub values : Denote terms tape (term_at m.latches) s.value
  pub pc : m.pc ≡ s.pc
  pub output : m.output ≡ length s.output
  pub tape_at : m.tape_at ≡ s.tape_at
  pub end : m.end ≡ option_map kind_of s.end

-- on all tapes, after n instructions
pub record Stands (T : Task) (fixed : List Bool) (n : ℕ) (terms : List Term) (m : Machine) : Type 0 where
  pub places : AreIn terms (term_at m.latches)
  pub on_tapes : (tape : List ℕ) → IsTapeOf T fixed tape → StandsFor terms tape (alone_at (with_tape T tape) n) m

-- what a step does to terms and machine, where it makes this of a state
pub record Steps (T : Task) (fixed : List Bool) (makes : Task → AloneState → AloneState) (old : List Term) (m : Machine) (new : List Term) (after : Machine) : Type 0 where
  pub keeps : Keeps old new
  pub places : AreIn new (term_at after.latches)
  pub on_tapes : (tape : List ℕ) → IsTapeOf T fixed tape → (s : AloneState) → StandsFor old tape s m → StandsFor new tape (makes (with_tape T tape) s) after

-- a step that does this instruction
abbrev pub Does : Instr → List Term → Machine → List Term → Machine → Type 0
Does instr old m new after = (T : Task) (fixed : List Bool) → Steps T fixed (λ U s. (after_decode U (Some instr) s).state) old m new after
