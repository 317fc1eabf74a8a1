-- Two tasks that do the same deed at one pc, and go on at one pc, do it by effects that are alike.
use Rattle.std.proofs.Common.{◌≡◌, ◌≢◌, ℕ, ◌<◌, ◌⊎◌, inl, inr, Bool, true, false, List, Option, Some, None, if◌then◌else◌, refl, ap, sym, ◌∙◌, subst}
use Rattle.isa_model.specs.declared.instr.Instr.{Instr}
use Rattle.isa_model.specs.declared.instr.Instr.TheVariants.{Lui, Auipc, Jal, Jalr, Branch, Load, Store, AluImm, AluReg, Fence, Ecall, Ebreak, Mret, Csr, CsrImm}
use Rattle.isa_model.specs.declared.control.Control.{Control}
use Rattle.isa_model.specs.declared.control.Deed.{Deed}
use Rattle.isa_model.specs.declared.control.Deed.TheVariants.{Ended}
use Rattle.isa_model.specs.declared.ends.EndKind.{EndKind}
use Rattle.isa_model.specs.declared.task.Task.{Task}
use Rattle.isa_model.specs.InstrTable.{instr_of}
use Rattle.isa_model.specs.Effect.{Effect, Operands, Next, Goes, Raises, Calls, Returns, effect_of}
use Rattle.isa_model.specs.Alone.{AloneState, Executed, alone_at, code_word_at, is_privileged, operands_of, deed_of, values_after, after_instr, after_fetch, after_decode, after_effect, after_writes, after_fault}
use Rattle.hart_model.specs.UserStep.{exception}
use Rattle.hart_model.specs.UserLaws.{alone_effect_of_instr, alone_effect_of_word, alone_effect}
use Rattle.core_model.specs.LowEquivalence.{AreTasksAlike}
use Rattle.noninterference.proofs.UserTraps.{AreEffectsAlike, latches_of}
use Rattle.noninterference.proofs.ControlItems.{same-item, same-next-pc}
use Rattle.noninterference.proofs.ControlRows.{IsPlain, seen_deed, latches_by, row-is-plain, row-latches}

-- Two executed instructions: the same deed, and where both go on one pc.
pub record AreExecutedAlike (x y : Executed) : Type 0 where
  pub deed : x.deed ≡ y.deed
  pub pc : x.state.end ≡ None → y.state.end ≡ None → x.state.pc ≡ y.state.pc

alike_effects : (e f : Effect) → e ≡ f → AreEffectsAlike e f
alike_effects e f same = record { latches = ap (λ (x : Effect). latches_of x.writes) same; next = ap (λ (x : Effect). x.next) same }

-- the deed of an instruction that goes on is no end
goes_no_end : (i : Instr) (first : ℕ) (kind : EndKind) → deed_of i first ≢ Ended kind
goes_no_end (Lui rd imm20) first kind = λ e. absurd cc
goes_no_end (Auipc rd imm20) first kind = λ e. absurd cc
goes_no_end (Jal rd off) first kind = λ e. absurd cc
goes_no_end (Jalr rd rs1 imm) first kind = λ e. absurd cc
goes_no_end (Branch op rs1 rs2 off) first kind = λ e. absurd cc
goes_no_end (Load kind' rd rs1 imm) first kind = λ e. absurd cc
goes_no_end (Store kind' rs2 rs1 imm) first kind = λ e. absurd cc
goes_no_end (AluImm op rd rs1 imm) first kind = λ e. absurd cc
goes_no_end (AluReg op rd rs1 rs2) first kind = λ e. absurd cc
goes_no_end (Fence word) first kind = λ e. absurd cc
goes_no_end Ecall first kind = λ e. absurd cc
goes_no_end Ebreak first kind = λ e. absurd cc
goes_no_end Mret first kind = λ e. absurd cc
goes_no_end (Csr op rd rs1 csr) first kind = λ e. absurd cc
goes_no_end (CsrImm op rd uimm csr) first kind = λ e. absurd cc

-- what an instruction that goes on or faults shows
shown_deed : (T : Task) (deed : Deed) (next : Next) (s : AloneState) → IsPlain next → (after_writes T deed next s).deed ≡ seen_deed deed next
shown_deed T deed (Goes pc) s plain = refl
shown_deed T deed (Raises cause) s plain = refl
shown_deed T deed Calls s plain = absurd plain
shown_deed T deed Returns s plain = absurd plain

-- so the same follows
same_next : (T U : Task) (deed other : Deed) (x y : Next) (s t : AloneState) → s.end ≡ None → t.end ≡ None → IsPlain x → IsPlain y
    → ((kind : EndKind) → deed ≢ Ended kind) → ((kind : EndKind) → other ≢ Ended kind)
    → AreExecutedAlike (after_writes T deed x s) (after_writes U other y t) → x ≡ y
same_next T U deed other (Goes pc) (Goes at) s t runs runs' px py none none' alike = ap (λ n. Goes n) (alike.pc runs runs')
same_next T U deed other (Raises cause) (Raises why) s t runs runs' px py none none' alike = let same = alike.deed in cc
same_next T U deed other (Goes pc) (Raises why) s t runs runs' px py none none' alike = absurd (none _ alike.deed)
same_next T U deed other (Raises cause) (Goes at) s t runs runs' px py none none' alike = absurd (none' _ (sym alike.deed))
same_next T U deed other Calls y s t runs runs' px py none none' alike = absurd px
same_next T U deed other Returns y s t runs runs' px py none none' alike = absurd px
same_next T U deed other (Goes pc) Calls s t runs runs' px py none none' alike = absurd py
same_next T U deed other (Goes pc) Returns s t runs runs' px py none none' alike = absurd py
same_next T U deed other (Raises cause) Calls s t runs runs' px py none none' alike = absurd py
same_next T U deed other (Raises cause) Returns s t runs runs' px py none none' alike = absurd py

-- Two states of runs alone that go on, at one pc.
module _ (T U : Task) (s t : AloneState) (runs : s.end ≡ None) (runs' : t.end ≡ None) where
  plain_alike : (i : Instr) (o p : Operands) → is_privileged i ≡ false → IsPlain (effect_of i s.pc o).next → IsPlain (effect_of i t.pc p).next
      → AreExecutedAlike (after_effect T (deed_of i o.rs1) (effect_of i s.pc o) s) (after_effect U (deed_of i p.rs1) (effect_of i t.pc p) t)
      → AreEffectsAlike (effect_of i s.pc o) (effect_of i t.pc p)
  plain_alike i o p f px py alike =
      let e : Effect = effect_of i s.pc o in
      let g : Effect = effect_of i t.pc p in
      let s' : AloneState = record s { value = values_after e.writes s.value } in
      let t' : AloneState = record t { value = values_after g.writes t.value } in
      let next : e.next ≡ g.next =
      same_next T U (deed_of i o.rs1) (deed_of i p.rs1) e.next g.next s' t' runs runs' px py (goes_no_end i o.rs1) (goes_no_end i p.rs1) alike in
      let deed : seen_deed (deed_of i o.rs1) e.next ≡ seen_deed (deed_of i p.rs1) g.next =
      sym (shown_deed T (deed_of i o.rs1) e.next s' px) ∙ alike.deed ∙ shown_deed U (deed_of i p.rs1) g.next t' py in
      record {
        latches = row-latches i s.pc o f ∙ ap (λ (n : Next). latches_by i n (seen_deed (deed_of i o.rs1) e.next)) next
            ∙ ap (λ (d : Deed). latches_by i g.next d) deed ∙ sym (row-latches i t.pc p f);
        next = next;
      }

  row_alike : (i : Instr) (o p : Operands) → is_privileged i ≡ false
      → AreExecutedAlike (after_effect T (deed_of i o.rs1) (effect_of i s.pc o) s) (after_effect U (deed_of i p.rs1) (effect_of i t.pc p) t)
      → AreEffectsAlike (effect_of i s.pc o) (effect_of i t.pc p)
  row_alike i o p f alike = go (row-is-plain i s.pc o f) (row-is-plain i t.pc p f)
    where
      call_alike : i ≡ Ecall → AreEffectsAlike (effect_of i s.pc o) (effect_of i t.pc p)
      call_alike is =
          alike_effects (effect_of i s.pc o) (effect_of i t.pc p)
          (ap (λ (j : Instr). effect_of j s.pc o) is ∙ sym (ap (λ (j : Instr). effect_of j t.pc p) is))

      go : IsPlain (effect_of i s.pc o).next ⊎ (i ≡ Ecall) → IsPlain (effect_of i t.pc p).next ⊎ (i ≡ Ecall)
          → AreEffectsAlike (effect_of i s.pc o) (effect_of i t.pc p)
      go (inl px) (inl py) = plain_alike i o p f px py alike
      go (inr is) other = call_alike is
      go (inl px) (inr is) = call_alike is

  by_privilege : (i : Instr) (o p : Operands) (b : Bool) → is_privileged i ≡ b
      → AreExecutedAlike (if b then after_fault 2 s else after_effect T (deed_of i o.rs1) (effect_of i s.pc o) s)
      (if b then after_fault 2 t else after_effect U (deed_of i p.rs1) (effect_of i t.pc p) t)
      → AreEffectsAlike (if b then exception 2 else effect_of i s.pc o) (if b then exception 2 else effect_of i t.pc p)
  by_privilege i o p true test same = alike_effects (exception 2) (exception 2) refl
  by_privilege i o p false test same = row_alike i o p test same

  decoded_alike : (found : Option Instr) → AreExecutedAlike (after_decode T found s) (after_decode U found t)
      → AreEffectsAlike (alone_effect_of_instr T s found) (alone_effect_of_instr U t found)
  decoded_alike None alike = alike_effects (exception 2) (exception 2) refl
  decoded_alike (Some i) alike = by_privilege i (operands_of T s.value i) (operands_of U t.value i) (is_privileged i) refl alike

  fetched_alike : (word : Option ℕ) → AreExecutedAlike (after_fetch T word s) (after_fetch U word t)
      → AreEffectsAlike (alone_effect_of_word T s word) (alone_effect_of_word U t word)
  fetched_alike None alike = alike_effects (exception 1) (exception 1) refl
  fetched_alike (Some word) alike = decoded_alike (instr_of word) alike

  -- One word, executed alike on both sides.
  pub executed-alike : code_word_at T s.pc ≡ code_word_at U t.pc → AreExecutedAlike (after_instr T s) (after_instr U t)
      → AreEffectsAlike (alone_effect T s) (alone_effect U t)
  unfolding after_instr
  executed-alike same alike =
      let P : Option ℕ → Type 0 = λ word. AreExecutedAlike (after_fetch T (code_word_at T s.pc) s) (after_fetch U word t)
      → AreEffectsAlike (alone_effect_of_word T s (code_word_at T s.pc)) (alone_effect_of_word U t word) in
      subst P same (fetched_alike (code_word_at T s.pc)) alike

-- the code word of one address
same_word : (T U : Task) (at to : ℕ) → T.code_at ≡ U.code_at → T.code ≡ U.code → at ≡ to → code_word_at T at ≡ code_word_at U to
same_word T U at to place code pc =
    ap (λ n. code_word_at (record T { code_at = n }) at) place
    ∙ ap (λ (ws : List ℕ). code_word_at (record T { code_at = U.code_at; code = ws }) at) code
    ∙ ap (λ n. code_word_at U n) pc

-- Two tasks that are alike do each instruction by effects that are alike.
pub control-effects : (T U : Task) → AreTasksAlike T U → (n : ℕ) → n < T.fuel
    → (alone_at T n).end ≡ None → (alone_at U n).end ≡ None → AreEffectsAlike (alone_effect T (alone_at T n)) (alone_effect U (alone_at U n))
control-effects T U alike n left runs other =
    let item = same-item T U alike.fuel alike.course.control n left runs other in
    let pc : (alone_at T n).pc ≡ (alone_at U n).pc = ap (λ (c : Control). c.pc) item in
    executed-alike T U (alone_at T n) (alone_at U n) runs other (same_word T U (alone_at T n).pc (alone_at U n).pc alike.code_at alike.code pc) (record {
      deed = ap (λ (c : Control). c.deed) item;
      pc = λ on on'. same-next-pc T U alike.fuel alike.course.control alike.course.last_pc n left runs other on on';
    })
