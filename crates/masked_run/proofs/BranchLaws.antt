-- Branches whose outcome is known.
use Rattle.std.proofs.Common.{◌≡◌, ℕ, ◌+◌, ◌<◌, ◌%◌, Bool, true, false, List, length, ℤ, Some, refl, ap, sym, ◌∙◌, subst}
use Rattle.isa_model.specs.declared.latch.Latch.{Latch}
use Rattle.isa_model.specs.declared.latch.Latch.TheVariants.{Reg, PortA, PortB}
use Rattle.isa_model.specs.declared.instr.Cmp.{Cmp}
use Rattle.isa_model.specs.declared.instr.Instr.TheVariants.{Branch}
use Rattle.isa_model.specs.declared.task.Task.{Task}
use Rattle.isa_model.specs.Bits.{low_word, two_complement}
use Rattle.isa_model.specs.Arithmetic.{is_taken}
use Rattle.isa_model.specs.Alone.{AloneState, with_value, after_decode}
use Rattle.tape_terms.specs.declared.term.Term.{Term}
use Rattle.tape_terms.specs.Values.{value_of}
use Rattle.masked_run.specs.declared.latches.Latches.{Latches}
use Rattle.masked_run.specs.declared.machine.Machine.{Machine}
use Rattle.masked_run.specs.Places.{term_at, AreIn, Denote}
use Rattle.masked_run.specs.Standing.{StandsFor, Does}
use Rattle.masked_run.proofs.TermLaws.{put, put-in, denote-same, in-same, keeps-none}
use Rattle.masked_run.proofs.FormLaws.{stands-on}

abbrev ported : (Latch → ℕ) → ℕ → ℕ → Latch → ℕ
ported f a b = with_value PortB b (with_value PortA a f)

took : (U : Task) (op : Cmp) (rs1 rs2 : ℕ) (off : ℤ) (s : AloneState) → is_taken op (s.value (Reg rs1)) (s.value (Reg rs2)) ≡ true → low_word (s.pc + two_complement 32 off) % 4 ≡ 0
    → (after_decode U (Some (Branch op rs1 rs2 off)) s).state ≡ record s { value = ported s.value (s.value (Reg rs1)) (s.value (Reg rs2)); pc = low_word (s.pc + two_complement 32 off) }
took U op rs1 rs2 off s taken aligned = rw (taken, aligned) refl

passed : (U : Task) (op : Cmp) (rs1 rs2 : ℕ) (off : ℤ) (s : AloneState) → is_taken op (s.value (Reg rs1)) (s.value (Reg rs2)) ≡ false
    → (after_decode U (Some (Branch op rs1 rs2 off)) s).state ≡ record s { value = ported s.value (s.value (Reg rs1)) (s.value (Reg rs2)); pc = low_word (s.pc + 4) }
passed U op rs1 rs2 off s not_taken = rw not_taken refl

module _ (terms : List Term) (m : Machine) (after : Latches) (op : Cmp) (rs1 rs2 : ℕ) (off : ℤ) (first second : ℕ) (low : AreIn terms (term_at m.latches))
    (first_is : first ≡ term_at m.latches (Reg rs1)) (second_is : second ≡ term_at m.latches (Reg rs2))
    (written : (l : Latch) → term_at after l ≡ ported (term_at m.latches) first second l) where
  in-place : AreIn terms (term_at after)
  in-place = in-same terms _ (term_at after) written
      (put-in terms PortB second (with_value PortA first (term_at m.latches)) (put-in terms PortA first (term_at m.latches) low (subst (λ (i : ℕ). i < length terms) (sym first_is) (low (Reg rs1))))
      (subst (λ (i : ℕ). i < length terms) (sym second_is) (low (Reg rs2))))

  denoted : (tape : List ℕ) (v : Latch → ℕ) → Denote terms tape (term_at m.latches) v → Denote terms tape (term_at after) (ported v (v (Reg rs1)) (v (Reg rs2)))
  denoted tape v is = denote-same terms tape _ (term_at after) _ written
      (put terms tape PortB second (v (Reg rs2)) (with_value PortA first (term_at m.latches)) (with_value PortA (v (Reg rs1)) v)
      (put terms tape PortA first (v (Reg rs1)) (term_at m.latches) v is (ap (value_of terms tape) first_is ∙ is (Reg rs1))) (ap (value_of terms tape) second_is ∙ is (Reg rs2)))

  outcome : (tape : List ℕ) (v : Latch → ℕ) (b : Bool) → Denote terms tape (term_at m.latches) v → is_taken op (value_of terms tape ((term_at m.latches) (Reg rs1))) (value_of terms tape ((term_at m.latches) (Reg rs2))) ≡ b
      → is_taken op (v (Reg rs1)) (v (Reg rs2)) ≡ b
  outcome tape v b is known = (λ i. is_taken op (sym (is (Reg rs1)) i) (sym (is (Reg rs2)) i)) ∙ known

  pub branch-taken : (pc : ℕ) → pc ≡ low_word (m.pc + two_complement 32 off) → low_word (m.pc + two_complement 32 off) % 4 ≡ 0
      → ((tape : List ℕ) → is_taken op (value_of terms tape (term_at m.latches (Reg rs1))) (value_of terms tape (term_at m.latches (Reg rs2))) ≡ true)
      → Does (Branch op rs1 rs2 off) terms m terms (record m { latches = after; pc = pc })
  branch-taken pc pc_is aligned known T fixed = record {
    keeps = keeps-none terms;
    places = in-place;
    on_tapes = λ tape is s h.
        let to_state : low_word (m.pc + two_complement 32 off) ≡ low_word (s.pc + two_complement 32 off) = ap (λ (p : ℕ). low_word (p + two_complement 32 off)) h.pc in
        subst (λ (z : AloneState). StandsFor terms tape z (record m { latches = after; pc = pc }))
        (sym (took (record T { tape = tape }) op rs1 rs2 off s (outcome tape s.value true h.values (known tape)) (ap (λ (p : ℕ). p % 4) (sym to_state) ∙ aligned)))
        (stands-on terms terms tape s m after _ pc _ h (denoted tape s.value h.values) (pc_is ∙ to_state));
  }

  pub branch-passed : (pc : ℕ) → pc ≡ low_word (m.pc + 4)
      → ((tape : List ℕ) → is_taken op (value_of terms tape (term_at m.latches (Reg rs1))) (value_of terms tape (term_at m.latches (Reg rs2))) ≡ false)
      → Does (Branch op rs1 rs2 off) terms m terms (record m { latches = after; pc = pc })
  branch-passed pc pc_is known T fixed = record {
    keeps = keeps-none terms;
    places = in-place;
    on_tapes = λ tape is s h.
        subst (λ (z : AloneState). StandsFor terms tape z (record m { latches = after; pc = pc }))
        (sym (passed (record T { tape = tape }) op rs1 rs2 off s (outcome tape s.value false h.values (known tape))))
        (stands-on terms terms tape s m after _ pc _ h (denoted tape s.value h.values) (pc_is ∙ ap (λ (p : ℕ). low_word (p + 4)) h.pc));
  }
