-- What an instruction of a task writes is the task's: no word beside its data, and not mscratch.
use Rattle.std.proofs.Common.{◌≡◌, ℕ, ◌+◌, ◌*◌, ◌/◌, ◌%◌, ◌^◌, ◌<◌, ◌≤◌, ◌==◌, if◌then◌else◌, true, false, List, [], ◌∷◌, ◌++◌, Option, Some, None, arith}
use Rattle.std.proofs.lemmas.Bool.{cond_both, leb-true, ltb-true, and_parts, and_from, le-leb, lt-ltb}
use Rattle.isa_model.specs.declared.task.Task.{Task}
use Rattle.isa_model.specs.declared.latch.Latch.{Latch}
use Rattle.isa_model.specs.declared.latch.Latch.TheVariants as latches
use Rattle.isa_model.specs.declared.instr.Instr.{Instr}
use Rattle.isa_model.specs.declared.instr.Instr.TheVariants.{Lui, Auipc, Jal, Jalr, Branch, Load, Store, AluImm, AluReg, Fence, Ecall, Ebreak, Mret, Csr, CsrImm}
use Rattle.isa_model.specs.declared.instr.LoadKind.{LoadKind}
use Rattle.isa_model.specs.declared.instr.StoreKind.{StoreKind}
use Rattle.isa_model.specs.Bits.{low_word, word_address, two_complement}
use Rattle.isa_model.specs.Arithmetic.{alu_of, is_taken, load_size, store_size, load_result}
use Rattle.isa_model.specs.Effect.{Effect, Write, Flow, Constant, Moved, Mixed, Rs1, Rs2, Goes, Raises, effect_of, address, load_word, store_word, loaded_flow, to, to_reg, result, is_of_multiplier, jump, does}
use Rattle.isa_model.specs.Alone.{is_data_address, data_word_at, operands_of, is_privileged}
use Rattle.rv_effect.specs.declared.writes.UnitWrite.{UnitWrite}
use Rattle.rv_effect.specs.declared.writes.UnitWrite.TheVariants.{Nothing, Multiplies, Loads, Stores, Scratches}
use Rattle.rv_effect.specs.declared.writes.Writes.{Writes}
use Rattle.rv_effect.specs.View.{port_write, before_res, res_write, after_res, register_write, writes_of}
use Rattle.alone_run.specs.LatchValues.{IsOwnUnit}

abbrev pub IsOwn : Task → Latch → Type 0
IsOwn T (latches.Mem at) = is_data_address T at ≡ true
IsOwn T latches.Scr = ⊥
IsOwn T latch = Unit {0}

abbrev pub AllOwn : Task → List Write → Type 0
AllOwn T [] = Unit {0}
AllOwn T (w ∷ ws) = IsOwn T w.to × AllOwn T ws

-- an address lies in the data where its word does
word_inside : (T : Task) (at : ℕ) → T.data_at % 4 ≡ 0 → is_data_address T at ≡ true → is_data_address T (word_address at) ≡ true
word_inside T at aligned inside =
    let parts = and_parts _ _ inside in
    let low : T.data_at ≤ at = leb-true _ _ parts.0 in
    let high : at < T.data_at + 4 * T.data_len = ltb-true _ _ parts.1 in
    and_from _ _ (le-leb T.data_at (word_address at) (omega arith)) (lt-ltb (word_address at) (T.data_at + 4 * T.data_len) (omega arith))

inside_word : (T : Task) (at : ℕ) → T.data_at % 4 ≡ 0 → is_data_address T (word_address at) ≡ true → is_data_address T at ≡ true
inside_word T at aligned inside =
    let parts = and_parts _ _ inside in
    let low : T.data_at ≤ word_address at = leb-true _ _ parts.0 in
    let high : word_address at < T.data_at + 4 * T.data_len = ltb-true _ _ parts.1 in
    and_from _ _ (le-leb T.data_at at (omega arith)) (lt-ltb at (T.data_at + 4 * T.data_len) (omega arith))

module _ (T : Task) where
  reg_own : (rd value : ℕ) (flow : Flow) → AllOwn T (to_reg rd value flow)
  reg_own rd value flow = cond_both (rd == 0) [] (to (latches.Reg rd) value flow) (λ (ws : List Write). AllOwn T ws) (λ t. tt) (λ f. (tt, tt))

  jump_own : (before after : List Write) (target : ℕ) → AllOwn T (before ++ after) → AllOwn T before → AllOwn T (jump before after target).writes
  jump_own before after target all some =
      cond_both (target % 4 == 0) (does (before ++ after) (Goes target)) (does before (Raises 0)) (λ (e : Effect). AllOwn T e.writes) (λ t. all) (λ f. some)

  load_own : (kind : LoadKind) (rd pc at : ℕ) (a b : ℕ) (word : Option ℕ)
      → AllOwn T (load_word kind rd pc at (to latches.PortA a (Moved Rs1) ++ to latches.Res b (Mixed (Rs1 ∷ []))) word).writes
  load_own kind rd pc at a b None = (tt, (tt, tt))
  load_own kind rd pc at a b (Some word) = (tt, (tt, (tt, reg_own rd (load_result kind word at) (loaded_flow kind))))

  -- the word is the one of the data that the address lies in
  store_own : (kind : StoreKind) (value pc at : ℕ) (a b c : ℕ) (values : Latch → ℕ) → T.data_at % 4 ≡ 0
      → AllOwn T (store_word kind value pc at (to latches.PortA a (Moved Rs1) ++ to latches.PortB b (Moved Rs2) ++ to latches.Res c (Mixed (Rs1 ∷ []))) (data_word_at T values at)).writes
  store_own kind value pc at a b c values aligned =
      let early_writes : List Write = to latches.PortA a (Moved Rs1) ++ to latches.PortB b (Moved Rs2) ++ to latches.Res c (Mixed (Rs1 ∷ [])) in
      cond_both (is_data_address T at) (Some (values (latches.Mem (word_address at)))) None (λ (word : Option ℕ). AllOwn T (store_word kind value pc at early_writes word).writes)
      (λ inside. (tt, (tt, (tt, (tt, (word_inside T at aligned inside, tt)))))) (λ outside. (tt, (tt, (tt, tt))))

  pub row_own : (instr : Instr) (pc : ℕ) (values : Latch → ℕ) → T.data_at % 4 ≡ 0 → is_privileged instr ≡ false → AllOwn T (effect_of instr pc (operands_of T values instr)).writes
  row_own (Lui rd imm20) pc values aligned f = (tt, reg_own rd (2 ^ 12 * imm20) Constant)
  row_own (Auipc rd imm20) pc values aligned f = (tt, reg_own rd (low_word (pc + 2 ^ 12 * imm20)) Constant)
  row_own (Jal rd off) pc values aligned f =
      jump_own [] (result rd (low_word (pc + 4)) Constant) (low_word (pc + two_complement 32 off)) (tt, reg_own rd (low_word (pc + 4)) Constant) tt
  row_own (Jalr rd rs1 imm) pc values aligned f =
      let first = values (latches.Reg rs1) in
      jump_own (to latches.PortA first (Moved Rs1)) (result rd (low_word (pc + 4)) Constant) (address first imm / 2 * 2) (tt, (tt, reg_own rd (low_word (pc + 4)) Constant)) (tt, tt)
  row_own (Branch op rs1 rs2 off) pc values aligned f =
      let first = values (latches.Reg rs1) in
      let second = values (latches.Reg rs2) in
      let both : List Write = to latches.PortA first (Moved Rs1) ++ to latches.PortB second (Moved Rs2) in
      cond_both (is_taken op first second) (jump both [] (low_word (pc + two_complement 32 off))) (does both (Goes (low_word (pc + 4)))) (λ (e : Effect). AllOwn T e.writes)
      (λ t. jump_own both [] (low_word (pc + two_complement 32 off)) (tt, (tt, tt)) (tt, (tt, tt))) (λ n. (tt, (tt, tt)))
  row_own (Load kind rd rs1 imm) pc values aligned f =
      let first = values (latches.Reg rs1) in
      cond_both (address first imm % load_size kind == 0) _ _ (λ (e : Effect). AllOwn T e.writes)
      (λ t. load_own kind rd pc (address first imm) first (address first imm) (operands_of T values (Load kind rd rs1 imm)).word) (λ n. (tt, (tt, tt)))
  row_own (Store kind rs2 rs1 imm) pc values aligned f =
      let first = values (latches.Reg rs1) in
      let second = values (latches.Reg rs2) in
      cond_both (address first imm % store_size kind == 0) _ _ (λ (e : Effect). AllOwn T e.writes)
      (λ t. store_own kind second pc (address first imm) first second (address first imm) values aligned) (λ n. (tt, (tt, (tt, tt))))
  row_own (AluImm op rd rs1 imm) pc values aligned f = (tt, (tt, reg_own rd (alu_of op (values (latches.Reg rs1)) (two_complement 32 imm)) (Mixed (Rs1 ∷ []))))
  row_own (AluReg op rd rs1 rs2) pc values aligned f =
      let value = alu_of op (values (latches.Reg rs1)) (values (latches.Reg rs2)) in
      let flow = Mixed (Rs1 ∷ Rs2 ∷ []) in
      let own : AllOwn T (to_reg rd value flow) = reg_own rd value flow in
      let rest : AllOwn T ((if is_of_multiplier op then to latches.Mul value flow else []) ++ result rd value flow) =
      cond_both (is_of_multiplier op) (to latches.Mul value flow) [] (λ (ws : List Write). AllOwn T (ws ++ result rd value flow)) (λ t. (tt, (tt, own))) (λ n. (tt, own)) in
      (tt, (tt, rest))
  row_own (Fence word) pc values aligned f = tt
  row_own Ecall pc values aligned f = tt
  row_own Ebreak pc values aligned f = tt
  row_own Mret pc values aligned f = absurd cc
  row_own (Csr op rd rs1 csr) pc values aligned f = absurd cc
  row_own (CsrImm op rd uimm csr) pc values aligned f = absurd cc

  -- so the part of a unit is
  later_own : (xs ys : List Write) → AllOwn T (xs ++ ys) → AllOwn T ys
  later_own [] ys all = all
  later_own (x ∷ xs) ys all = later_own xs ys all.1

  by_unit : (unit : UnitWrite) (rest : List Write) → T.data_at % 4 ≡ 0 → AllOwn T (after_res unit ++ rest) → IsOwnUnit T unit
  by_unit Nothing rest aligned all = tt
  by_unit (Multiplies value) rest aligned all = tt
  by_unit (Loads word) rest aligned all = tt
  by_unit (Stores value at word) rest aligned all = inside_word T at aligned all.1.0
  by_unit (Scratches v) rest aligned all = all.0

  pub unit_own : (w : Writes) → T.data_at % 4 ≡ 0 → AllOwn T (writes_of w) → IsOwnUnit T w.unit
  unit_own w aligned all =
      let after = after_res w.unit ++ register_write w.register in
      let from_res = res_write w.res ++ after in
      let from_before = before_res w.unit ++ from_res in
      let from_b = port_write latches.PortB (Moved Rs2) w.port_b ++ from_before in
      by_unit w.unit (register_write w.register) aligned
      (later_own (res_write w.res) after (later_own (before_res w.unit) from_res
      (later_own (port_write latches.PortB (Moved Rs2) w.port_b) from_before (later_own (port_write latches.PortA (Moved Rs1) w.port_a) from_b all))))
