-- What an instruction in user mode may write, by what follows it: one that goes on writes registers, ports, Res, Load, Store, Mul and
-- data words; one that faults writes ports and Res alone; and a call writes nothing.
use Rattle.std.proofs.Common.{◌≡◌, ℕ, ◌+◌, ◌*◌, ◌/◌, ◌%◌, ◌^◌, ◌<◌, ◌==◌, if◌then◌else◌, false, List, [], ◌∷◌, ◌++◌, Option, Some, None, refl, arith, ◌≢◌}
use Rattle.std.proofs.lemmas.Bool.{cond_both, eqb-true, eqb-false}
use Rattle.isa_model.specs.declared.task.Task.{Task}
use Rattle.isa_model.specs.declared.latch.Latch.{Latch}
use Rattle.isa_model.specs.declared.latch.Latch.TheVariants as latches
use Rattle.isa_model.specs.declared.instr.Instr.{Instr}
use Rattle.isa_model.specs.declared.instr.Instr.TheVariants.{Lui, Auipc, Jal, Jalr, Branch, Load, Store, AluImm, AluReg, Fence, Ecall, Ebreak, Mret, Csr, CsrImm}
use Rattle.isa_model.specs.declared.instr.LoadKind.{LoadKind}
use Rattle.isa_model.specs.declared.instr.StoreKind.{StoreKind}
use Rattle.isa_model.specs.Bits.{low_word, word_address, two_complement}
use Rattle.isa_model.specs.Arithmetic.{alu_of, is_taken, load_size, store_size, load_result}
use Rattle.isa_model.specs.Effect.{Effect, Write, Flow, Constant, Moved, Mixed, Rs1, Rs2, Next, Goes, Raises, Calls, Returns, effect_of, address, load_word, store_word, loaded_flow, to, to_reg, result, is_of_multiplier, ports, jump, does}
use Rattle.isa_model.specs.TaskPlaces.{IsValidTask}
use Rattle.isa_model.specs.InstrTable.{instr_of}
use Rattle.isa_model.specs.Alone.{AloneState, code_word_at, is_data_address, data_word_at, operands_of, is_privileged}
use Rattle.isa_model.proofs.RunLaws.{four_more}
use Rattle.hart_model.specs.UserStep.{exception}
use Rattle.hart_model.specs.UserLaws.{IsTaskLatch, alone_effect_of_instr, alone_effect_of_word, alone_effect}
use Rattle.hart_model.proofs.DecodedRegisters.{HasRegisters, decoded_registers}
use Rattle.hart_model.proofs.UserEffects.{data_word_is_task_latch}

-- the latches that an instruction of a task may write, and those that one may write that faults
abbrev pub IsRunWrite : Task → Latch → Type 0
IsRunWrite T (latches.Reg r) = (r ≢ 0) × (r < 32)
IsRunWrite T (latches.Mem at) = IsTaskLatch T (latches.Mem at)
IsRunWrite T latches.Scr = ⊥
IsRunWrite T latch = Unit {0}

abbrev pub IsPortWrite : Latch → Type 0
IsPortWrite latches.PortA = Unit {0}
IsPortWrite latches.PortB = Unit {0}
IsPortWrite latches.Res = Unit {0}
IsPortWrite latch = ⊥

abbrev pub AllTo : (Latch → Type 0) → List Write → Type 0
AllTo P [] = Unit {0}
AllTo P (w ∷ ws) = P w.to × AllTo P ws

abbrev pub HasShapeBy : Task → List Write → Next → Type 0
HasShapeBy T writes (Goes pc) = (pc % 4 ≡ 0) × AllTo (IsRunWrite T) writes
HasShapeBy T writes (Raises cause) = (cause < 8) × AllTo IsPortWrite writes
HasShapeBy T writes Calls = writes ≡ []
HasShapeBy T writes Returns = ⊥

abbrev pub HasShape : Task → Effect → Type 0
HasShape T e = HasShapeBy T e.writes e.next

module _ (T : Task) where
  reg_shape : (rd value : ℕ) (flow : Flow) → rd < 32 → AllTo (IsRunWrite T) (to_reg rd value flow)
  reg_shape rd value flow low =
      cond_both (rd == 0) [] (to (latches.Reg rd) value flow) (λ (ws : List Write). AllTo (IsRunWrite T) ws) (λ t. tt) (λ f. ((eqb-false rd 0 f, low), tt))

  jump_shape : (before after : List Write) (target : ℕ) → AllTo (IsRunWrite T) (before ++ after) → AllTo IsPortWrite before → HasShape T (jump before after target)
  jump_shape before after target run ports =
      cond_both (target % 4 == 0) (does (before ++ after) (Goes target)) (does before (Raises 0)) (λ (e : Effect). HasShape T e) (λ t. (eqb-true (target % 4) 0 t, run)) (λ f. (omega arith, ports))

  load_shape : (kind : LoadKind) (rd pc at : ℕ) (a b : ℕ) (word : Option ℕ) → rd < 32 → pc % 4 ≡ 0
      → HasShape T (load_word kind rd pc at (to latches.PortA a (Moved Rs1) ++ to latches.Res b (Mixed (Rs1 ∷ []))) word)
  load_shape kind rd pc at a b None low even = (omega arith, (tt, (tt, tt)))
  load_shape kind rd pc at a b (Some word) low even = (four_more pc even, (tt, (tt, (tt, reg_shape rd (load_result kind word at) (loaded_flow kind) low))))

  -- the word is the one of the data that the address lies in
  store_shape : (kind : StoreKind) (value pc at : ℕ) (a b c : ℕ) (values : Latch → ℕ) → IsValidTask T → pc % 4 ≡ 0
      → HasShape T (store_word kind value pc at (to latches.PortA a (Moved Rs1) ++ to latches.PortB b (Moved Rs2) ++ to latches.Res c (Mixed (Rs1 ∷ []))) (data_word_at T values at))
  store_shape kind value pc at a b c values valid even =
      let early_writes : List Write = to latches.PortA a (Moved Rs1) ++ to latches.PortB b (Moved Rs2) ++ to latches.Res c (Mixed (Rs1 ∷ [])) in
      cond_both (is_data_address T at) (Some (values (latches.Mem (word_address at)))) None (λ (word : Option ℕ). HasShape T (store_word kind value pc at early_writes word))
      (λ inside. (four_more pc even, (tt, (tt, (tt, (tt, (data_word_is_task_latch T at valid inside, tt)))))))
      (λ outside. (omega arith, (tt, (tt, (tt, tt)))))

  row_shape : (instr : Instr) (pc : ℕ) (values : Latch → ℕ) → IsValidTask T → HasRegisters instr → pc % 4 ≡ 0 → is_privileged instr ≡ false → HasShape T (effect_of instr pc (operands_of T values instr))
  row_shape (Lui rd imm20) pc values valid has even f = (four_more pc even, (tt, reg_shape rd (2 ^ 12 * imm20) Constant has.rd))
  row_shape (Auipc rd imm20) pc values valid has even f = (four_more pc even, (tt, reg_shape rd (low_word (pc + 2 ^ 12 * imm20)) Constant has.rd))
  row_shape (Jal rd off) pc values valid has even f =
      jump_shape [] (result rd (low_word (pc + 4)) Constant) (low_word (pc + two_complement 32 off)) (tt, reg_shape rd (low_word (pc + 4)) Constant has.rd) tt
  row_shape (Jalr rd rs1 imm) pc values valid has even f =
      let first = values (latches.Reg rs1) in
      jump_shape (to latches.PortA first (Moved Rs1)) (result rd (low_word (pc + 4)) Constant) (address first imm / 2 * 2) (tt, (tt, reg_shape rd (low_word (pc + 4)) Constant has.rd)) (tt, tt)
  row_shape (Branch op rs1 rs2 off) pc values valid has even f =
      let first = values (latches.Reg rs1) in
      let second = values (latches.Reg rs2) in
      let both : List Write = to latches.PortA first (Moved Rs1) ++ to latches.PortB second (Moved Rs2) in
      cond_both (is_taken op first second) (jump both [] (low_word (pc + two_complement 32 off))) (does both (Goes (low_word (pc + 4)))) (λ (e : Effect). HasShape T e)
      (λ t. jump_shape both [] (low_word (pc + two_complement 32 off)) (tt, (tt, tt)) (tt, (tt, tt))) (λ n. (four_more pc even, (tt, (tt, tt))))
  row_shape (Load kind rd rs1 imm) pc values valid has even f =
      let first = values (latches.Reg rs1) in
      cond_both (address first imm % load_size kind == 0) _ _ (λ (e : Effect). HasShape T e)
      (λ t. load_shape kind rd pc (address first imm) first (address first imm) (operands_of T values (Load kind rd rs1 imm)).word has.rd even) (λ n. (omega arith, (tt, (tt, tt))))
  row_shape (Store kind rs2 rs1 imm) pc values valid has even f =
      let first = values (latches.Reg rs1) in
      let second = values (latches.Reg rs2) in
      cond_both (address first imm % store_size kind == 0) _ _ (λ (e : Effect). HasShape T e)
      (λ t. store_shape kind second pc (address first imm) first second (address first imm) values valid even) (λ n. (omega arith, (tt, (tt, (tt, tt)))))
  row_shape (AluImm op rd rs1 imm) pc values valid has even f = (four_more pc even, (tt, (tt, reg_shape rd (alu_of op (values (latches.Reg rs1)) (two_complement 32 imm)) (Mixed (Rs1 ∷ [])) has.rd)))
  row_shape (AluReg op rd rs1 rs2) pc values valid has even f =
      let value = alu_of op (values (latches.Reg rs1)) (values (latches.Reg rs2)) in
      let flow = Mixed (Rs1 ∷ Rs2 ∷ []) in
      let shape : AllTo (IsRunWrite T) (to_reg rd value flow) = reg_shape rd value flow has.rd in
      let rest : AllTo (IsRunWrite T) ((if is_of_multiplier op then to latches.Mul value flow else []) ++ result rd value flow) =
      cond_both (is_of_multiplier op) (to latches.Mul value flow) [] (λ (ws : List Write). AllTo (IsRunWrite T) (ws ++ result rd value flow)) (λ t. (tt, (tt, shape))) (λ n. (tt, shape)) in
      (four_more pc even, (tt, (tt, rest)))
  row_shape (Fence word) pc values valid has even f = (four_more pc even, tt)
  row_shape Ecall pc values valid has even f = refl
  row_shape Ebreak pc values valid has even f = (omega arith, tt)
  row_shape Mret pc values valid has even f = absurd cc
  row_shape (Csr op rd rs1 csr) pc values valid has even f = absurd cc
  row_shape (CsrImm op rd uimm csr) pc values valid has even f = absurd cc

  -- so the effect of the run alone's instruction has such a shape
  module _ (s : AloneState) (valid : IsValidTask T) (even : s.pc % 4 ≡ 0) where
    instr_shape : (found : Option Instr) → ((instr : Instr) → found ≡ Some instr → HasRegisters instr) → HasShape T (alone_effect_of_instr T s found)
    instr_shape None has = (omega arith, tt)
    instr_shape (Some instr) has =
        cond_both (is_privileged instr) (exception 2) (effect_of instr s.pc (operands_of T s.value instr)) (λ (e : Effect). HasShape T e)
        (λ t. (omega arith, tt)) (λ f. row_shape instr s.pc s.value valid (has instr refl) even f)

    word_shape : (word : Option ℕ) → HasShape T (alone_effect_of_word T s word)
    word_shape None = (omega arith, tt)
    word_shape (Some word) = instr_shape (instr_of word) (decoded_registers word)

    pub effect_shape : HasShape T (alone_effect T s)
    effect_shape = word_shape (code_word_at T s.pc)
