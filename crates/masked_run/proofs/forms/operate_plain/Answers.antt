-- The ports, then the result and the register.
use Rattle.std.proofs.Common.{◌≡◌, ℕ, ◌+◌, ◌<◌, false, [], ◌∷◌, length, ap, sym, ◌∙◌, subst}
use Rattle.isa_model.specs.declared.latch.Latch.{Latch}
use Rattle.isa_model.specs.declared.latch.Latch.TheVariants.{Reg, PortA, PortB}
use Rattle.isa_model.specs.Bits.{low_word}
use Rattle.isa_model.specs.Arithmetic.{alu_of}
use Rattle.isa_model.specs.Effect.{Constant, Mixed, Rs1, Rs2, result, is_of_multiplier}
use Rattle.isa_model.specs.Alone.{with_value, values_after}
use Rattle.tape_terms.specs.Values.{value_of, Keeps}
use Rattle.masked_run.specs.Places.{term_at, AreIn}
use Rattle.masked_run.proofs.TermLaws.{put, put-in, put-result, put-result-in, grown, grown-in, denote-same, in-same}
use Rattle.masked_run.proofs.FormLaws.{stands-on}
use Rattle.masked_run.proofs.forms.operate_plain.Goals as goal

pub returns : goal.returns
returns c =
    let old = c.args.pool.now in
    let new = c.operate_on.new.pool in
    let m = c.args.machine.now in
    let at = term_at m.latches in
    let first = c.reg-first.result in
    let second = c.reg-second.result in
    let term = c.in_ok-term.term in
    let of_op : is_of_multiplier c.args.op ≡ false = c.requires.plain in
    let keeps : Keeps old new = c.in_ok-term.ensures.others in
    let low : AreIn old at = c.requires.places in
    let first_is : first ≡ at (Reg c.args.rs1) = c.reg-first.ensures.term in
    let second_is : second ≡ at (Reg c.args.rs2) = c.reg-second.ensures.term in
    let first_low : first < length new = subst (λ (i : ℕ). i < length new) (sym first_is) (grown-in old new at keeps low (Reg c.args.rs1)) in
    let second_low : second < length new = subst (λ (i : ℕ). i < length new) (sym second_is) (grown-in old new at keeps low (Reg c.args.rs2)) in
    let place : term < length new = c.in_ok-term.ensures.place in
    let ports_written : (k : Latch) → term_at c.write_port_b.new.self k ≡ with_value PortB second (with_value PortA first at) k =
    λ k. c.write_port_b.ensures.terms k ∙ ap (λ (f : Latch → ℕ). with_value PortB second f k) (λ i j. c.write_port_a.ensures.terms j i) in
    let written : (l : Latch) → term_at c.write_result.new.self l ≡ values_after (result c.args.rd term Constant) (with_value PortB second (with_value PortA first at)) l =
    λ l. c.write_result.ensures.terms l ∙ ap (λ (f : Latch → ℕ). values_after (result c.args.rd term Constant) f l) (λ i k. ports_written k i) in
    record {
      done = λ T fixed. record {
        keeps = keeps;
        places = in-same new _ (term_at c.write_result.new.self) written (put-result-in new c.args.rd term Constant (with_value PortB second (with_value PortA first at)) (put-in new PortB second (with_value PortA first at) (put-in new PortA first at (grown-in old new at keeps low) first_low) second_low) place);
        on_tapes = λ tape is s h.
            let v = s.value in
            let a_old : value_of old tape first ≡ v (Reg c.args.rs1) = ap (value_of old tape) first_is ∙ h.values (Reg c.args.rs1) in
            let b_old : value_of old tape second ≡ v (Reg c.args.rs2) = ap (value_of old tape) second_is ∙ h.values (Reg c.args.rs2) in
            let a_new : value_of new tape first ≡ v (Reg c.args.rs1) = ap (value_of new tape) first_is ∙ grown old new tape at v keeps low h.values (Reg c.args.rs1) in
            let b_new : value_of new tape second ≡ v (Reg c.args.rs2) = ap (value_of new tape) second_is ∙ grown old new tape at v keeps low h.values (Reg c.args.rs2) in
            let made : value_of new tape term ≡ alu_of c.args.op (v (Reg c.args.rs1)) (v (Reg c.args.rs2)) = c.in_ok-term.ensures.value tape ∙ (λ i. alu_of c.args.op (a_old i) (b_old i)) in
            let after = put-result new tape c.args.rd term _ Constant (Mixed (Rs1 ∷ Rs2 ∷ [])) (with_value PortB second (with_value PortA first at)) (with_value PortB (v (Reg c.args.rs2)) (with_value PortA (v (Reg c.args.rs1)) v)) (put new tape PortB second (v (Reg c.args.rs2)) (with_value PortA first at) (with_value PortA (v (Reg c.args.rs1)) v) (put new tape PortA first (v (Reg c.args.rs1)) at v (grown old new tape at v keeps low h.values) a_new) b_new) made in
            rw of_op (stands-on old new tape s m c.write_result.new.self _ _ _ h (denote-same new tape _ (term_at c.write_result.new.self) _ written after) (ap (λ (pc : ℕ). low_word (pc + 4)) h.pc));
      };
    }
