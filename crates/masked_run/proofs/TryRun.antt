-- The invariant's equations on a task of three instructions: in, and the sum of the word with itself.
use Rattle.std.proofs.Common.{◌≡◌, ℕ, List, [], ◌∷◌, refl}
use Rattle.isa_model.specs.declared.latch.Latch.TheVariants.{Reg}
use Rattle.isa_model.specs.declared.instr.Alu.TheVariants.{Add}
use Rattle.isa_model.specs.declared.task.Task.{Task}
use Rattle.isa_model.specs.Alone.{alone_at, after_instr}
use Rattle.tape_terms.specs.declared.term.Term.{Term}
use Rattle.tape_terms.specs.declared.term.Term.TheVariants.{Constant, Word, Of}
use Rattle.tape_terms.specs.Values.{value_of, each_from}
use Rattle.masked_run.specs.Standing.{with_tape}

abbrev doubling : Task
doubling = record { code_at = 4096; data_at = 8192; code = 0x00200893 ∷ 0x00000073 ∷ 0x00a50533 ∷ []; data_len = 0; fuel = 3; out_max = 0; tape = 7 ∷ [] }

abbrev terms : List Term
terms = Constant 0 ∷ Constant 2 ∷ Word 0 ∷ Of Add 2 2 ∷ []

try-sum : (alone_at (with_tape doubling (4294967295 ∷ [])) 3).value (Reg 10) ≡ value_of terms (4294967295 ∷ []) 3
unfolding alone_at after_instr each_from
try-sum = refl

try-word : (alone_at (with_tape doubling (9 ∷ [])) 2).value (Reg 10) ≡ value_of terms (9 ∷ []) 2
unfolding alone_at after_instr each_from
try-word = refl

try-place : (w : ℕ) → (alone_at (with_tape doubling (w ∷ [])) 2).tape_at ≡ 1
unfolding alone_at after_instr
try-place w = refl
