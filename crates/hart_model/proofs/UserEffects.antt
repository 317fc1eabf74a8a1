-- The effect of an instruction in user mode is that of the run alone; and what such an effect may write.
use Rattle.std.proofs.Common.{◌≡◌, ℕ, ◌+◌, ◌*◌, ◌%◌, ◌<◌, ◌≤◌, ◌==◌, inl, inr, Bool, true, false, ◌||◌, ℤ, List, [], ◌∷◌, ◌++◌, Option, Some, None, is_some, if◌then◌else◌, refl, ap, ◌∙◌, arith}
use Rattle.std.proofs.lemmas.Bool.{eqb-true, leb-true, ltb-true, and_parts, and_from, le-leb, lt-ltb}
use Rattle.isa_model.specs.declared.task.Task.{Task}
use Rattle.isa_model.specs.declared.latch.Latch.{Latch}
use Rattle.isa_model.specs.declared.latch.Latch.TheVariants as latches
use Rattle.isa_model.specs.declared.instr.Instr.{Instr}
use Rattle.isa_model.specs.declared.instr.Instr.TheVariants.{Lui, Auipc, Jal, Jalr, Branch, Load, Store, AluImm, AluReg, Fence, Ecall, Ebreak, Mret, Csr, CsrImm}
use Rattle.isa_model.specs.declared.instr.LoadKind.{LoadKind}
use Rattle.isa_model.specs.declared.instr.LoadKind.TheVariants as loads
use Rattle.isa_model.specs.declared.instr.StoreKind.{StoreKind}
use Rattle.isa_model.specs.declared.instr.StoreKind.TheVariants as stores
use Rattle.isa_model.specs.Bits.{word_address}
use Rattle.isa_model.specs.Arithmetic.{load_size, store_size}
use Rattle.isa_model.specs.InstrTable.{instr_of}
use Rattle.isa_model.specs.Effect.{Write, Operands, effect_of, address, load_word, store_word, to, Moved, Mixed, Rs1, Rs2}
use Rattle.isa_model.specs.TaskPlaces.{IsValidTask}
use Rattle.isa_model.specs.Alone.{AloneState, code_word_at, is_data_address, data_word_at, word_or_else, operands_of, is_privileged}
use Rattle.hart_model.specs.declared.access.Access.TheVariants.{Read, Write as WriteAccess, Fetch}
use Rattle.hart_model.specs.declared.tag.Mode.TheVariants.{User}
use Rattle.hart_model.specs.Pmp.{PmpFile, is_allowed, task_pmp, IsAccessSize}
use Rattle.hart_model.specs.Context.{BodyState, task_of}
use Rattle.hart_model.specs.HartState.{HartState}
use Rattle.hart_model.specs.UserStep.{latch_value, is_access_allowed, user_code_word, user_operands, user_effect_of_instr, user_effect_of_word, user_effect}
use Rattle.hart_model.specs.UserLaws.{IsTaskLatch, alone_effect_of_instr, alone_effect_of_word, alone_effect}
use Rattle.hart_model.proofs.PmpLaws.{bounds_allow}
use Rattle.hart_model.proofs.DecodedRegisters.{HasRegisters, decoded_registers}

load_is_access : (kind : LoadKind) → IsAccessSize (load_size kind)
load_is_access loads.B = inl refl
load_is_access loads.Bu = inl refl
load_is_access loads.H = inr (inl refl)
load_is_access loads.Hu = inr (inl refl)
load_is_access loads.W = inr (inr refl)

store_is_access : (kind : StoreKind) → IsAccessSize (store_size kind)
store_is_access stores.B = inl refl
store_is_access stores.H = inr (inl refl)
store_is_access stores.W = inr (inr refl)

-- the word of a data address is a data word
pub data_word_is_task_latch : (T : Task) (at : ℕ) → IsValidTask T → is_data_address T at ≡ true → IsTaskLatch T (latches.Mem (word_address at))
data_word_is_task_latch T at valid inside =
    let parts = and_parts _ _ inside in
    let low : T.data_at ≤ at = leb-true _ _ parts.0 in
    let high : at < T.data_at + 4 * T.data_len = ltb-true _ _ parts.1 in
    let even = valid.data_aligned in
    (and_from _ _ (le-leb T.data_at (word_address at) (omega arith)) (lt-ltb (word_address at) (T.data_at + 4 * T.data_len) (omega arith)), omega arith)

-- what is the same where a test holds is the same under the test
under_test : {A : Type 0} (b : Bool) (x y z : A) → (b ≡ true → x ≡ y) → (if b then x else z) ≡ (if b then y else z)
under_test true x y z h = h refl
under_test false x y z h = refl

-- a load that is allowed where there is a code word or a data word, and a store that is allowed where there is a data word
loaded_word : (code : Option ℕ) (in_data : Bool) (x y : ℕ) → (in_data ≡ true → x ≡ y)
    → (if is_some code || in_data then word_or_else code (if in_data then Some x else None) else None) ≡ word_or_else code (if in_data then Some y else None)
loaded_word (Some word) in_data x y h = refl
loaded_word None true x y h = ap (λ (n : ℕ). Some n) (h refl)
loaded_word None false x y h = refl

stored_word : (in_data : Bool) (x y : ℕ) → (in_data ≡ true → x ≡ y) → (if in_data then (if in_data then Some x else None) else None) ≡ (if in_data then Some y else None)
stored_word true x y h = ap (λ (n : ℕ). Some n) (h refl)
stored_word false x y h = refl

-- the same facts on a hart, as far as effects ask them
pub record HasValues (T : Task) (value other : Latch → ℕ) : Type 0 where
  pub registers : (r : ℕ) → r < 32 → value (latches.Reg r) ≡ other (latches.Reg r)
  pub words : (at : ℕ) → IsTaskLatch T (latches.Mem at) → value (latches.Mem at) ≡ other (latches.Mem at)

-- the operands of an instruction under the task's protection
abbrev protected : Task → (Latch → ℕ) → Instr → Operands
protected T value instr =
    let o = operands_of T value instr in
    record o { word = if is_access_allowed (task_pmp T) instr o.rs1 then o.word else None }

-- what a load and a store have written before their access
abbrev early_writes_load : ℕ → ℤ → List Write
early_writes_load rs1 imm = to latches.PortA rs1 (Moved Rs1) ++ to latches.Res (address rs1 imm) (Mixed (Rs1 ∷ []))

abbrev early_writes_store : ℕ → ℕ → ℤ → List Write
early_writes_store rs1 rs2 imm = to latches.PortA rs1 (Moved Rs1) ++ to latches.PortB rs2 (Moved Rs2) ++ to latches.Res (address rs1 imm) (Mixed (Rs1 ∷ []))

module _ (T : Task) (valid : IsValidTask T) (value other : Latch → ℕ) (same : HasValues T value other) where
  same_data : (at : ℕ) → is_data_address T at ≡ true → value (latches.Mem (word_address at)) ≡ other (latches.Mem (word_address at))
  same_data at inside = same.words (word_address at) (data_word_is_task_latch T at valid inside)

  -- an aligned load and an aligned store find the same word
  same_load : (kind : LoadKind) (at : ℕ) → at % load_size kind ≡ 0
      → (if is_allowed User (task_pmp T) at (load_size kind) Read then word_or_else (code_word_at T at) (data_word_at T value at) else None)
      ≡ word_or_else (code_word_at T at) (data_word_at T other at)
  same_load kind at even =
      let allowed = bounds_allow T valid at (load_size kind) Read (load_is_access kind) even in
      rw allowed (loaded_word (code_word_at T at) (is_data_address T at) _ _ (same_data at))

  same_store : (kind : StoreKind) (at : ℕ) → at % store_size kind ≡ 0
      → (if is_allowed User (task_pmp T) at (store_size kind) WriteAccess then data_word_at T value at else None) ≡ data_word_at T other at
  same_store kind at even =
      let allowed = bounds_allow T valid at (store_size kind) WriteAccess (store_is_access kind) even in
      rw allowed (stored_word (is_data_address T at) _ _ (same_data at))

  -- so each row has the same effect
  pub same_row : (instr : Instr) (pc : ℕ) → HasRegisters instr → effect_of instr pc (protected T value instr) ≡ effect_of instr pc (operands_of T other instr)
  same_row (Lui rd imm20) pc has = refl
  same_row (Auipc rd imm20) pc has = refl
  same_row (Jal rd off) pc has = refl
  same_row (Jalr rd rs1 imm) pc has = let a = same.registers rs1 has.rs1 in rw a refl
  same_row (Branch op rs1 rs2 off) pc has = let a = same.registers rs1 has.rs1 in let b = same.registers rs2 has.rs2 in rw (a, b) refl
  same_row (Load kind rd rs1 imm) pc has =
      let a = same.registers rs1 has.rs1 in
      rw a (under_test (address (other (latches.Reg rs1)) imm % load_size kind == 0) _ _ _
      (λ even. ap (λ (word : Option ℕ). load_word kind rd pc (address (other (latches.Reg rs1)) imm) (early_writes_load (other (latches.Reg rs1)) imm) word) (same_load kind (address (other (latches.Reg rs1)) imm) (eqb-true _ _ even))))
  same_row (Store kind rs2 rs1 imm) pc has =
      let a = same.registers rs1 has.rs1 in
      let b = same.registers rs2 has.rs2 in
      rw (a, b) (under_test (address (other (latches.Reg rs1)) imm % store_size kind == 0) _ _ _
      (λ even. ap (λ (word : Option ℕ). store_word kind (other (latches.Reg rs2)) pc (address (other (latches.Reg rs1)) imm) (early_writes_store (other (latches.Reg rs1)) (other (latches.Reg rs2)) imm) word) (same_store kind (address (other (latches.Reg rs1)) imm) (eqb-true _ _ even))))
  same_row (AluImm op rd rs1 imm) pc has = let a = same.registers rs1 has.rs1 in rw a refl
  same_row (AluReg op rd rs1 rs2) pc has = let a = same.registers rs1 has.rs1 in let b = same.registers rs2 has.rs2 in rw (a, b) refl
  same_row (Fence word) pc has = refl
  same_row Ecall pc has = refl
  same_row Ebreak pc has = refl
  same_row Mret pc has = refl
  same_row (Csr op rd rs1 csr) pc has = let a = same.registers rs1 has.rs1 in rw a refl
  same_row (CsrImm op rd uimm csr) pc has = refl

if_there : (word : Option ℕ) → (if is_some word then word else None) ≡ word
if_there None = refl
if_there (Some word) = refl

under_else : {A : Type 0} (b : Bool) (x y z : A) → y ≡ z → (if b then x else y) ≡ (if b then x else z)
under_else true x y z h = refl
under_else false x y z h = h

-- a hart with the pc of the run alone, its values, and the task's protection
pub record IsProtectedRun (s : AloneState) (h : HartState) (b : BodyState) : Type 0 where
  pub valid : IsValidTask (task_of b)
  pub pmp : h.csrs.pmp ≡ task_pmp (task_of b)
  pub pc : h.pc ≡ s.pc
  pub pc_aligned : s.pc % 4 ≡ 0
  pub values : HasValues (task_of b) (latch_value h) s.value

module _ (s : AloneState) (h : HartState) (b : BodyState) (run : IsProtectedRun s h b) where
  same_code_word : user_code_word h b ≡ code_word_at (task_of b) s.pc
  same_code_word =
      let pmp = run.pmp in
      let pc = run.pc in
      let allowed = bounds_allow (task_of b) run.valid s.pc 4 Fetch (inr (inr refl)) run.pc_aligned in
      rw (pmp, pc, allowed) (if_there (code_word_at (task_of b) s.pc))

  same_operands : (instr : Instr) → HasRegisters instr → effect_of instr h.pc (user_operands h b instr) ≡ effect_of instr s.pc (operands_of (task_of b) s.value instr)
  same_operands instr has =
      let o : Operands = operands_of (task_of b) (latch_value h) instr in
      ap (λ (pmp : PmpFile). effect_of instr h.pc (record o { word = if is_access_allowed pmp instr o.rs1 then o.word else None })) run.pmp
      ∙ ap (λ (pc : ℕ). effect_of instr pc (protected (task_of b) (latch_value h) instr)) run.pc
      ∙ same_row (task_of b) run.valid (latch_value h) s.value run.values instr s.pc has

  same_of_instr : (found : Option Instr) → ((instr : Instr) → found ≡ Some instr → HasRegisters instr) → user_effect_of_instr h b found ≡ alone_effect_of_instr (task_of b) s found
  same_of_instr None has = refl
  same_of_instr (Some instr) has = under_else (is_privileged instr) _ _ _ (same_operands instr (has instr refl))

  same_of_word : (word : Option ℕ) → user_effect_of_word h b word ≡ alone_effect_of_word (task_of b) s word
  same_of_word None = refl
  same_of_word (Some word) = same_of_instr (instr_of word) (decoded_registers word)

  pub same_effect : user_effect h b ≡ alone_effect (task_of b) s
  same_effect = ap (λ (word : Option ℕ). user_effect_of_word h b word) same_code_word ∙ same_of_word (code_word_at (task_of b) s.pc)
