-- The first port, then the result and the register.
use Rattle.std.proofs.Common.{◌≡◌, ℕ, ◌+◌, ◌*◌, ◌/◌, ◌%◌, ◌<◌, ℤ, Some, length, refl, ap, sym, ◌∙◌, subst, rules}
use Rattle.isa_model.specs.declared.latch.Latch.{Latch}
use Rattle.isa_model.specs.declared.latch.Latch.TheVariants.{Reg, PortA}
use Rattle.isa_model.specs.declared.instr.Instr.TheVariants.{Jalr}
use Rattle.isa_model.specs.declared.task.Task.{Task}
use Rattle.isa_model.specs.Bits.{low_word}
use Rattle.isa_model.specs.Effect.{Constant, address, result}
use Rattle.isa_model.specs.Alone.{AloneState, with_value, values_after, after_decode}
use Rattle.tape_terms.specs.Values.{value_of, Keeps}
use Rattle.masked_run.specs.Places.{term_at, AreIn}
use Rattle.masked_run.specs.Standing.{StandsFor, with_tape}
use Rattle.masked_run.proofs.TermLaws.{put, put-in, put-result, put-result-in, grown, grown-in, denote-same, in-same}
use Rattle.masked_run.proofs.FormLaws.{stands-on}
use Rattle.masked_run.proofs.jumps.jump_to.Goals as goal

jumped : (U : Task) (rd rs1 : ℕ) (imm : ℤ) (s : AloneState) (base : ℕ) → s.value (Reg rs1) ≡ base → address base imm / 2 * 2 % 4 ≡ 0
    → (after_decode U (Some (Jalr rd rs1 imm)) s).state
    ≡ record s { value = values_after (result rd (low_word (s.pc + 4)) Constant) (with_value PortA (s.value (Reg rs1)) s.value); pc = address base imm / 2 * 2 }
jumped U rd rs1 imm s base is aligned = rw (is, aligned) refl

pub returns : goal.returns
returns c =
    let old = c.args.pool.now in
    let new = c.constant.new.self in
    let m = c.args.machine.now in
    let at = term_at m.latches in
    let rs1 = c.args.rs1 in
    let first = c.reg-first.result in
    let term = c.in_ok-term.term in
    let after = c.write_result.new.self in
    let keeps : Keeps old new = c.in_ok-term.ensures.others in
    let low : AreIn old at = c.requires.places in
    let first_is : first ≡ at (Reg rs1) = c.reg-first.ensures.term in
    let first_low : first < length new = subst (λ (i : ℕ). i < length new) (sym first_is) (grown-in old new at keeps low (Reg rs1)) in
    let place : term < length new = c.in_ok-term.ensures.place in
    let goes : c.address_of.result / 2 * 2 ≡ address c.args.base c.args.imm / 2 * 2 = search rules in
    let written : (l : Latch) → term_at after l ≡ values_after (result c.args.rd term Constant) (with_value PortA first at) l =
    λ l. c.write_result.ensures.terms l ∙ ap (λ (f : Latch → ℕ). values_after (result c.args.rd term Constant) f l) (λ i k. c.write_port_a.ensures.terms k i) in
    record {
      done = λ T fixed. record {
        keeps = keeps;
        places = in-same new _ (term_at after) written
            (put-result-in new c.args.rd term Constant (with_value PortA first at) (put-in new PortA first at (grown-in old new at keeps low) first_low) place);
        on_tapes = λ tape is s h.
            let v = s.value in
            let base_is : v (Reg rs1) ≡ c.args.base = sym (h.values (Reg rs1)) ∙ c.requires.known tape in
            let a_new : value_of new tape first ≡ v (Reg rs1) = ap (value_of new tape) first_is ∙ grown old new tape at v keeps low h.values (Reg rs1) in
            let made : value_of new tape term ≡ low_word (s.pc + 4) = c.in_ok-term.ensures.value tape ∙ ap (λ (pc : ℕ). low_word (pc + 4)) h.pc in
            let denoted = put-result new tape c.args.rd term (low_word (s.pc + 4)) Constant Constant (with_value PortA first at) (with_value PortA (v (Reg rs1)) v)
            (put new tape PortA first (v (Reg rs1)) at v (grown old new tape at v keeps low h.values) a_new) made in
            subst (λ (z : AloneState). StandsFor new tape z (record m { latches = after; pc = c.address_of.result / 2 * 2 }))
            (sym (jumped (with_tape T tape) c.args.rd rs1 c.args.imm s c.args.base base_is c.requires.aligned))
            (stands-on old new tape s m after _ _ _ h (denote-same new tape _ (term_at after) _ written denoted) goes);
      };
    }
