-- What every instruction of the run alone keeps, and what its control tells.
use Rattle.std.proofs.Common.{◌≡◌, ◌≢◌, ℕ, zero, suc, ◌+◌, ◌*◌, ◌/◌, ◌%◌, ◌^◌, Bool, true, false, ◌==◌, if◌then◌else◌, List, [], ◌∷◌, ◌++◌, length, length-append, Option, Some, None, is_none, option_map, slice_get, nat_lt, refl, ap, sym, ◌∙◌, arith, add-one}
use Rattle.isa_model.specs.declared.instr.Instr.{Instr}
use Rattle.isa_model.specs.declared.instr.Instr.TheVariants.{Lui, Auipc, Jal, Jalr, Branch, Load, Store, AluImm, AluReg, Fence, Ecall, Ebreak, Mret, Csr, CsrImm}
use Rattle.isa_model.specs.declared.latch.Latch.{Latch}
use Rattle.isa_model.specs.declared.latch.Latch.TheVariants.{Reg, Res, Mul}
use Rattle.isa_model.specs.declared.ends.End.{End}
use Rattle.isa_model.specs.declared.ends.End.TheVariants.{Exited, BadCall, TapeEnd, OutFull, OutOfSteps}
use Rattle.isa_model.specs.declared.ends.EndKind.{EndKind}
use Rattle.isa_model.specs.declared.ends.EndKind.TheVariants as kinds
use Rattle.isa_model.specs.declared.control.Control.{Control}
use Rattle.isa_model.specs.declared.control.Deed.{Deed}
use Rattle.isa_model.specs.declared.control.Deed.TheVariants.{Ran, Stored, Called, Ended}
use Rattle.isa_model.specs.declared.task.Task.{Task}
use Rattle.isa_model.specs.Bits.{low_word, two_complement}
use Rattle.isa_model.specs.Arithmetic.{alu_of, load_result, is_taken, load_size, store_size}
use Rattle.isa_model.specs.declared.instr.LoadKind.{LoadKind}
use Rattle.isa_model.specs.declared.instr.StoreKind.{StoreKind}
use Rattle.std.proofs.lemmas.Bool.{cond_both, eqb-true}
use Rattle.isa_model.specs.InstrTable.{instr_of}
use Rattle.isa_model.specs.Effect.{Flow, Constant, Mixed, Rs1, Rs2, to, to_reg, result, port_a, is_of_multiplier, loaded_flow, Next, Goes, Raises, Calls, Returns, GoesAligned, Effect, Write, Operands, effect_of, jump, does, ports, load_word, store_word, address}
use Rattle.isa_model.specs.Alone.{AloneState, Executed, alone_at, start_of, after_instr, after_fetch, after_decode, after_effect, after_writes, after_call, after_in, after_out, after_end, after_service, after_fault, with_value, values_after, code_word_at, is_privileged, deed_of, rs1_of, if_fuel_used, unless_ended, operands_of}
use Rattle.isa_model.specs.Control.{control_to, control_of, kind_of, end_kind_of}

-- What the start has, and every instruction and the end by used fuel keep, always holds.
module _ (T : Task) (P : AloneState → Type 0) where
  checked : ((s : AloneState) → P s → P (record s { end = Some OutOfSteps })) → (n : ℕ) (e : Option End) (s : AloneState) → P s → P (if_fuel_used T n e s)
  checked out n (Some e) s h = h
  checked out n None s h = elim (n == T.fuel) as (λ b. P (if b then record s { end = Some OutOfSteps } else s)) [ true ↦ out s h | false ↦ h ]

  one_more : ((s : AloneState) → P s → P (after_instr T s).state) → ((s : AloneState) → P s → P (record s { end = Some OutOfSteps }))
      → (n : ℕ) (e : Option End) (s : AloneState) → P s → P (unless_ended T n e s)
  one_more step out n (Some e) s h = h
  one_more step out n None s h = checked out n (after_instr T s).state.end (after_instr T s).state (step s h)

  pub always : P (start_of T) → ((s : AloneState) → P s → P (after_instr T s).state) → ((s : AloneState) → P s → P (record s { end = Some OutOfSteps }))
      → (n : ℕ) → P (alone_at T n)
  unfolding alone_at
  always start step out zero = start
  always start step out (suc n) = one_more step out (n + 1) (alone_at T n).end (alone_at T n) (always start step out n)

-- The pc.
abbrev IsAligned : AloneState → Type 0
IsAligned s = s.pc % 4 ≡ 0

pub four_more : (pc : ℕ) → pc % 4 ≡ 0 → low_word (pc + 4) % 4 ≡ 0
four_more pc h = omega arith

jump_aligned : (before after : List Write) (target : ℕ) → GoesAligned (jump before after target).next
jump_aligned before after target =
    cond_both (target % 4 == 0) (does (before ++ after) (Goes target)) (does before (Raises 0)) (λ (e : Effect). GoesAligned e.next) (λ t. eqb-true (target % 4) 0 t) (λ f. tt)

load_aligned : (kind : LoadKind) (rd pc at : ℕ) (early_writes : List Write) (word : Option ℕ) → pc % 4 ≡ 0 → GoesAligned (load_word kind rd pc at early_writes word).next
load_aligned kind rd pc at early_writes None h = tt
load_aligned kind rd pc at early_writes (Some word) h = four_more pc h

store_aligned : (kind : StoreKind) (value pc at : ℕ) (early_writes : List Write) (word : Option ℕ) → pc % 4 ≡ 0 → GoesAligned (store_word kind value pc at early_writes word).next
store_aligned kind value pc at early_writes None h = tt
store_aligned kind value pc at early_writes (Some word) h = four_more pc h

pub next_aligned : (instr : Instr) (pc : ℕ) (o : Operands) → pc % 4 ≡ 0 → GoesAligned (effect_of instr pc o).next
next_aligned (Lui rd imm20) pc o h = four_more pc h
next_aligned (Auipc rd imm20) pc o h = four_more pc h
next_aligned (Jal rd off) pc o h = jump_aligned [] (result rd (low_word (pc + 4)) Constant) (low_word (pc + two_complement 32 off))
next_aligned (Jalr rd rs1 imm) pc o h = jump_aligned (port_a o) (result rd (low_word (pc + 4)) Constant) (address o.rs1 imm / 2 * 2)
next_aligned (Branch op rs1 rs2 off) pc o h =
    cond_both (is_taken op o.rs1 o.rs2) (jump (ports o) [] (low_word (pc + two_complement 32 off))) (does (ports o) (Goes (low_word (pc + 4))))
    (λ (e : Effect). GoesAligned e.next) (λ t. jump_aligned (ports o) [] (low_word (pc + two_complement 32 off))) (λ f. four_more pc h)
next_aligned (Load kind rd rs1 imm) pc o h =
    cond_both (address o.rs1 imm % load_size kind == 0) _ _ (λ (e : Effect). GoesAligned e.next) (λ t. load_aligned kind rd pc (address o.rs1 imm) _ o.word h) (λ f. tt)
next_aligned (Store kind rs2 rs1 imm) pc o h =
    cond_both (address o.rs1 imm % store_size kind == 0) _ _ (λ (e : Effect). GoesAligned e.next) (λ t. store_aligned kind o.rs2 pc (address o.rs1 imm) _ o.word h) (λ f. tt)
next_aligned (AluImm op rd rs1 imm) pc o h = four_more pc h
next_aligned (AluReg op rd rs1 rs2) pc o h = four_more pc h
next_aligned (Fence word) pc o h = four_more pc h
next_aligned Ecall pc o h = tt
next_aligned Ebreak pc o h = tt
next_aligned Mret pc o h = tt
next_aligned (Csr op rd rs1 csr) pc o h = four_more pc h
next_aligned (CsrImm op rd uimm csr) pc o h = four_more pc h

-- The same at every place of an instruction: what it leaves has a fact where each way to leave it has the fact.
module _ (Q : Executed → Type 0) where
  either : (b : Bool) (x y : Executed) → Q x → Q y → Q (if b then x else y)
  either true x y h k = h
  either false x y h k = k

  in_cases : (tape : Option ℕ) (s : AloneState) → ((end : End) → end ≢ OutOfSteps → Q (after_end end (kind_of end) s))
      → ((word : ℕ) → Q (after_service 2 (record s { value = with_value (Reg 10) word s.value; tape_at = s.tape_at + 1 }))) → Q (after_in tape s)
  in_cases None s ends ins = ends TapeEnd (λ e. absurd cc)
  in_cases (Some word) s ends ins = ins word

  -- a service; none ends a task as out of steps
  pub call_cases : (T : Task) (a7 a0 : ℕ) (s : AloneState)
      → ((end : End) → end ≢ OutOfSteps → Q (after_end end (kind_of end) s))
      → Q (after_service 1 (record s { output = s.output ++ a0 ∷ [] }))
      → ((word : ℕ) → Q (after_service 2 (record s { value = with_value (Reg 10) word s.value; tape_at = s.tape_at + 1 })))
      → Q (after_service 3 s) → Q (after_call T a7 a0 s)
  call_cases T a7 a0 s ends outs ins yields =
      either (a7 == 0) (after_end (Exited a0) kinds.Exited s) _ (ends (Exited a0) (λ e. absurd cc))
      (either (a7 == 1) (after_out T a0 s) _
      (either (nat_lt (length s.output) T.out_max) (after_service 1 (record s { output = s.output ++ a0 ∷ [] })) (after_end OutFull kinds.OutFull s)
      outs (ends OutFull (λ e. absurd cc)))
      (either (a7 == 2) (after_in (slice_get T.tape s.tape_at) s) _ (in_cases (slice_get T.tape s.tape_at) s ends ins)
      (either (a7 == 3) (after_service 3 s) (after_end (BadCall a7) (kinds.BadCall a7) s) yields (ends (BadCall a7) (λ e. absurd cc)))))

  writes_cases : (T : Task) (deed : Deed) (next : Next) (s : AloneState)
      → ((pc : ℕ) → next ≡ Goes pc → Q (record { state = record s { pc = pc }; deed = deed }))
      → ((cause : ℕ) → Q (after_fault cause s))
      → Q (after_call T (s.value (Reg 17)) (s.value (Reg 10)) s) → Q (after_writes T deed next s)
  writes_cases T deed (Goes pc) s goes faults calls = goes pc refl
  writes_cases T deed (Raises cause) s goes faults calls = faults cause
  writes_cases T deed Calls s goes faults calls = calls
  writes_cases T deed Returns s goes faults calls = faults 2

  decode_cases : (T : Task) (instr : Option Instr) (s : AloneState) → ((cause : ℕ) → Q (after_fault cause s))
      → ((i : Instr) → is_privileged i ≡ false → Q (after_effect T (deed_of i (s.value (Reg (rs1_of i)))) (effect_of i s.pc (operands_of T s.value i)) s))
      → Q (after_decode T instr s)
  decode_cases T None s faults effects = faults 2
  decode_cases T (Some i) s faults effects =
      cond_both (is_privileged i) (after_fault 2 s) (after_effect T (deed_of i (s.value (Reg (rs1_of i)))) (effect_of i s.pc (operands_of T s.value i)) s)
      Q (λ t. faults 2) (λ f. effects i f)

  -- an instruction is an exception, or has an effect
  fetch_cases : (T : Task) (word : Option ℕ) (s : AloneState) → ((cause : ℕ) → Q (after_fault cause s))
      → ((instr : Instr) → is_privileged instr ≡ false → Q (after_effect T (deed_of instr (s.value (Reg (rs1_of instr)))) (effect_of instr s.pc (operands_of T s.value instr)) s))
      → Q (after_fetch T word s)
  fetch_cases T None s faults effects = faults 1
  fetch_cases T (Some word) s faults effects = decode_cases T (instr_of word) s faults effects

  instr_cases : (T : Task) (s : AloneState) → ((cause : ℕ) → Q (after_fault cause s))
      → ((i : Instr) → is_privileged i ≡ false → Q (after_effect T (deed_of i (s.value (Reg (rs1_of i)))) (effect_of i s.pc (operands_of T s.value i)) s))
      → Q (after_instr T s)
  unfolding after_instr
  instr_cases T s faults effects = fetch_cases T (code_word_at T s.pc) s faults effects

-- The pc stays a multiple of 4.
aligned_goes : (next : Next) (pc : ℕ) → GoesAligned next → next ≡ Goes pc → pc % 4 ≡ 0
aligned_goes next pc h e = rw e at h

step_aligned : (T : Task) (s : AloneState) → IsAligned s → IsAligned (after_instr T s).state
step_aligned T s h =
    instr_cases (λ (d : Executed). IsAligned d.state) T s (λ cause. h) (λ i f.
    let e = effect_of i s.pc (operands_of T s.value i) in
    let after : AloneState = record s { value = values_after e.writes s.value } in
    writes_cases (λ (d : Executed). IsAligned d.state) T (deed_of i (s.value (Reg (rs1_of i)))) e.next after
    (λ pc is. aligned_goes e.next pc (next_aligned i s.pc (operands_of T s.value i) h) is) (λ cause. h)
    (call_cases (λ (d : Executed). IsAligned d.state) T (after.value (Reg 17)) (after.value (Reg 10)) after
    (λ end not. h) (four_more s.pc h) (λ word. four_more s.pc h) (four_more s.pc h)))

pub always_aligned : (T : Task) (n : ℕ) → T.code_at % 4 ≡ 0 → IsAligned (alone_at T n)
always_aligned T n h = always T IsAligned h (step_aligned T) (λ s k. k) n

-- x0 is written by no row.
abbrev KeepsZero : List Write → Type 0
KeepsZero writes = (v : Latch → ℕ) → values_after writes v (Reg 0) ≡ v (Reg 0)

reg_keeps : (rd value : ℕ) (flow : Flow) → KeepsZero (to_reg rd value flow)
reg_keeps rd value flow v =
    cond_both (rd == 0) [] (to (Reg rd) value flow) (λ (ws : List Write). values_after ws v (Reg 0) ≡ v (Reg 0)) (λ t. refl) (λ f. rw f refl)

one_of : (b : Bool) (x y : Effect) → KeepsZero x.writes → KeepsZero y.writes → KeepsZero (if b then x else y).writes
one_of true x y h k = h
one_of false x y h k = k

load_keeps : (kind : LoadKind) (rd pc at : ℕ) (o : Operands) (word : Option ℕ)
    → KeepsZero (load_word kind rd pc at (port_a o ++ to Res at (Mixed (Rs1 ∷ []))) word).writes
load_keeps kind rd pc at o None v = refl
load_keeps kind rd pc at o (Some word) v = reg_keeps rd (load_result kind word at) (loaded_flow kind) _

store_keeps : (kind : StoreKind) (value pc at : ℕ) (o : Operands) (word : Option ℕ)
    → KeepsZero (store_word kind value pc at (ports o ++ to Res at (Mixed (Rs1 ∷ []))) word).writes
store_keeps kind value pc at o None v = refl
store_keeps kind value pc at o (Some word) v = refl

row_keeps : (instr : Instr) (pc : ℕ) (o : Operands) → is_privileged instr ≡ false → KeepsZero (effect_of instr pc o).writes
row_keeps (Lui rd imm20) pc o f v = reg_keeps rd (2 ^ 12 * imm20) Constant _
row_keeps (Auipc rd imm20) pc o f v = reg_keeps rd (low_word (pc + 2 ^ 12 * imm20)) Constant _
row_keeps (Jal rd off) pc o f v =
    one_of (low_word (pc + two_complement 32 off) % 4 == 0) (does ([] ++ result rd (low_word (pc + 4)) Constant) _) (does [] (Raises 0))
    (λ v. reg_keeps rd (low_word (pc + 4)) Constant _) (λ v. refl) v
row_keeps (Jalr rd rs1 imm) pc o f v =
    one_of ((address o.rs1 imm / 2 * 2) % 4 == 0) (does (port_a o ++ result rd (low_word (pc + 4)) Constant) _) (does (port_a o) (Raises 0))
    (λ v. reg_keeps rd (low_word (pc + 4)) Constant _) (λ v. refl) v
row_keeps (Branch op rs1 rs2 off) pc o f v =
    one_of (is_taken op o.rs1 o.rs2) (jump (ports o) [] (low_word (pc + two_complement 32 off))) (does (ports o) (Goes (low_word (pc + 4))))
    (one_of (low_word (pc + two_complement 32 off) % 4 == 0) (does (ports o ++ []) _) (does (ports o) (Raises 0)) (λ v. refl) (λ v. refl)) (λ v. refl) v
row_keeps (Load kind rd rs1 imm) pc o f v =
    one_of (address o.rs1 imm % load_size kind == 0) (load_word kind rd pc (address o.rs1 imm) (port_a o ++ to Res (address o.rs1 imm) (Mixed (Rs1 ∷ []))) o.word)
    (does (port_a o ++ to Res (address o.rs1 imm) (Mixed (Rs1 ∷ []))) (Raises 4)) (load_keeps kind rd pc (address o.rs1 imm) o o.word) (λ v. refl) v
row_keeps (Store kind rs2 rs1 imm) pc o f v =
    one_of (address o.rs1 imm % store_size kind == 0) (store_word kind o.rs2 pc (address o.rs1 imm) (ports o ++ to Res (address o.rs1 imm) (Mixed (Rs1 ∷ []))) o.word)
    (does (ports o ++ to Res (address o.rs1 imm) (Mixed (Rs1 ∷ []))) (Raises 6)) (store_keeps kind o.rs2 pc (address o.rs1 imm) o o.word) (λ v. refl) v
row_keeps (AluImm op rd rs1 imm) pc o f v = reg_keeps rd (alu_of op o.rs1 (two_complement 32 imm)) (Mixed (Rs1 ∷ [])) _
row_keeps (AluReg op rd rs1 rs2) pc o f v =
    let value = alu_of op o.rs1 o.rs2 in
    let flow = Mixed (Rs1 ∷ Rs2 ∷ []) in
    cond_both (is_of_multiplier op) (to Mul value flow) []
    (λ (ws : List Write). values_after (ports o ++ ws ++ result rd value flow) v (Reg 0) ≡ v (Reg 0)) (λ t. reg_keeps rd value flow _) (λ n. reg_keeps rd value flow _)
row_keeps (Fence word) pc o f v = refl
row_keeps Ecall pc o f v = refl
row_keeps Ebreak pc o f v = refl
row_keeps Mret pc o f v = absurd cc
row_keeps (Csr op rd rs1 csr) pc o f v = absurd cc
row_keeps (CsrImm op rd uimm csr) pc o f v = absurd cc

abbrev HasZero : AloneState → Type 0
HasZero s = s.value (Reg 0) ≡ 0

step_zero : (T : Task) (s : AloneState) → HasZero s → HasZero (after_instr T s).state
step_zero T s h =
    instr_cases (λ (d : Executed). HasZero d.state) T s (λ cause. h) (λ i f.
    let e = effect_of i s.pc (operands_of T s.value i) in
    let after : AloneState = record s { value = values_after e.writes s.value } in
    let kept : HasZero after = row_keeps i s.pc (operands_of T s.value i) f s.value ∙ h in
    writes_cases (λ (d : Executed). HasZero d.state) T (deed_of i (s.value (Reg (rs1_of i)))) e.next after
    (λ pc is. kept) (λ cause. kept)
    (call_cases (λ (d : Executed). HasZero d.state) T (after.value (Reg 17)) (after.value (Reg 10)) after
    (λ end not. kept) kept (λ word. kept) kept))

pub always_zero : (T : Task) (n : ℕ) → HasZero (alone_at T n)
always_zero T n = always T HasZero refl (step_zero T) (λ s k. k) n

-- The deed of an instruction tells whether it ends the task, and the kind of end.
abbrev Tells : Deed → Option End → Type 0
Tells (Ended kind) end = option_map kind_of end ≡ Some kind
Tells Ran end = end ≡ None
Tells (Stored at) end = end ≡ None
Tells (Called number) end = end ≡ None

deed_tells : (i : Instr) (first : ℕ) (end : Option End) → end ≡ None → Tells (deed_of i first) end
deed_tells (Lui rd imm20) first end h = h
deed_tells (Auipc rd imm20) first end h = h
deed_tells (Jal rd off) first end h = h
deed_tells (Jalr rd rs1 imm) first end h = h
deed_tells (Branch op rs1 rs2 off) first end h = h
deed_tells (Load kind rd rs1 imm) first end h = h
deed_tells (Store kind rs2 rs1 imm) first end h = h
deed_tells (AluImm op rd rs1 imm) first end h = h
deed_tells (AluReg op rd rs1 rs2) first end h = h
deed_tells (Fence word) first end h = h
deed_tells Ecall first end h = h
deed_tells Ebreak first end h = h
deed_tells Mret first end h = h
deed_tells (Csr op rd rs1 csr) first end h = h
deed_tells (CsrImm op rd uimm csr) first end h = h

step_tells : (T : Task) (s : AloneState) → s.end ≡ None → Tells (after_instr T s).deed (after_instr T s).state.end
step_tells T s h =
    let Q : Executed → Type 0 = λ d. Tells d.deed d.state.end in
    instr_cases Q T s (λ cause. refl) (λ i f.
    let e = effect_of i s.pc (operands_of T s.value i) in
    let after : AloneState = record s { value = values_after e.writes s.value } in
    writes_cases Q T (deed_of i (s.value (Reg (rs1_of i)))) e.next after
    (λ pc is. deed_tells i (s.value (Reg (rs1_of i))) s.end h) (λ cause. refl)
    (call_cases Q T (after.value (Reg 17)) (after.value (Reg 10)) after (λ end not. refl) h (λ word. h) h))

-- The kind of end by the fuel and the control alone: that of the last deed, else of used fuel where the list is as long as the fuel.
abbrev last_deed : List Control → Option Deed
last_deed [] = None
last_deed (c ∷ []) = Some c.deed
last_deed (c ∷ d ∷ cs) = last_deed (d ∷ cs)

abbrev kind_by_last : Option Deed → Bool → Option EndKind
kind_by_last None used = None
kind_by_last (Some (Ended kind)) used = Some kind
kind_by_last (Some Ran) used = if used then Some kinds.OutOfSteps else None
kind_by_last (Some (Stored at)) used = if used then Some kinds.OutOfSteps else None
kind_by_last (Some (Called number)) used = if used then Some kinds.OutOfSteps else None

abbrev kind_by : ℕ → List Control → Option EndKind
kind_by fuel cs = kind_by_last (last_deed cs) (length cs == fuel)

last_deed-snoc : (cs : List Control) (c : Control) → last_deed (cs ++ c ∷ []) ≡ Some c.deed
last_deed-snoc [] c = refl
last_deed-snoc (d ∷ []) c = refl
last_deed-snoc (d ∷ e ∷ cs) c = last_deed-snoc (e ∷ cs) c

-- after n instructions: the kind of end is told by the control so far, which while the task runs has n items
record History (T : Task) (n : ℕ) (cs : List Control) (end : Option End) : Type 0 where
  kind : option_map kind_of end ≡ kind_by T.fuel cs
  items : end ≡ None → length cs ≡ n

used : (b : Bool) (s : AloneState) → s.end ≡ None → option_map kind_of (if b then record s { end = Some OutOfSteps } else s).end ≡ (if b then Some kinds.OutOfSteps else None)
used true s h = refl
used false s h = ap (option_map kind_of) h

checked_kind : (T : Task) (n : ℕ) (deed : Deed) (e : Option End) (s : AloneState) → s.end ≡ e → Tells deed e
    → option_map kind_of (if_fuel_used T n e s).end ≡ kind_by_last (Some deed) (n == T.fuel)
checked_kind T n (Ended kind) (Some e) s is h = ap (option_map kind_of) is ∙ h
checked_kind T n (Ended kind) None s is h = absurd cc
checked_kind T n Ran (Some e) s is h = absurd cc
checked_kind T n (Stored at) (Some e) s is h = absurd cc
checked_kind T n (Called number) (Some e) s is h = absurd cc
checked_kind T n Ran None s is h = used (n == T.fuel) s is
checked_kind T n (Stored at) None s is h = used (n == T.fuel) s is
checked_kind T n (Called number) None s is h = used (n == T.fuel) s is

told_more : (T : Task) (n : ℕ) (cs : List Control) (e : Option End) (s : AloneState) → s.end ≡ e → History T n cs e
    → History T (n + 1) (if is_none e then cs ++ (record { pc = s.pc; deed = (after_instr T s).deed }) ∷ [] else cs) (unless_ended T (n + 1) e s).end
told_more T n cs (Some e) s is h = record { kind = ap (option_map kind_of) is ∙ h.kind; items = λ none. absurd cc }
told_more T n cs None s is h =
    let c : Control = record { pc = s.pc; deed = (after_instr T s).deed } in
    let len : length (cs ++ c ∷ []) ≡ n + 1 = length-append cs (c ∷ []) ∙ ap (λ k. k + 1) (h.items refl) in
    record {
      kind = checked_kind T (n + 1) (after_instr T s).deed (after_instr T s).state.end (after_instr T s).state refl (step_tells T s is)
          ∙ ap (λ k. kind_by_last (Some (after_instr T s).deed) (k == T.fuel)) (sym len)
          ∙ ap (λ d. kind_by_last d (length (cs ++ c ∷ []) == T.fuel)) (sym (last_deed-snoc cs c));
      items = λ none. len;
    }

told : (T : Task) (n : ℕ) → History T n (control_to T n) (alone_at T n).end
unfolding alone_at control_to
told T zero = record { kind = refl; items = λ none. refl }
told T (suc n) = let more = told_more T n (control_to T n) (alone_at T n).end (alone_at T n) refl (told T n) in record { kind = more.kind; items = λ none. more.items none ∙ add-one n }

pub control_tells : (T U : Task) → T.fuel ≡ U.fuel → control_of T ≡ control_of U → end_kind_of T ≡ end_kind_of U
control_tells T U fuel control =
    (told T T.fuel).kind ∙ ap (λ f. kind_by f (control_of T)) fuel ∙ ap (kind_by U.fuel) control ∙ sym (told U U.fuel).kind
