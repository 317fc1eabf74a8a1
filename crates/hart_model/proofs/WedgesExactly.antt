-- A hart in machine mode is wedged exactly in the listed cases.
use Rattle.std.proofs.Common.{◌≡◌, ◌≢◌, ◌↔◌, ℕ, zero, suc, ◌+◌, ◌*◌, ◌/◌, ◌%◌, ◌<◌, ◌≤◌, ◌⊎◌, inl, inr, Bool, true, false, ◌&&◌, not, ◌==◌, nat_lt, ℤ, List, [], ◌∷◌, ◌++◌, length, slice_get, Option, Some, None, is_some, is_none, IsSome, IsNone, MatchOption, if◌then◌else◌, refl, ap, arith}
use Rattle.std.specs.Bool.{⊤}
use Rattle.std.proofs.lemmas.Bool.{cond_both, eqb-true, eqb-false, ltb-true, lt-ltb, eq-eqb, cases_lt}
use Rattle.std.proofs.lemmas.Bool.Decides.{eqb_tells}
use Rattle.std.proofs.lemmas.Option.{slice_get_past, slice_get-get_or}
use Rattle.isa_model.specs.declared.instr.Instr.{Instr}
use Rattle.isa_model.specs.declared.instr.Instr.TheVariants.{Lui, Auipc, Jal, Jalr, Branch, Load, Store, AluImm, AluReg, Fence, Ecall, Ebreak, Mret, Csr, CsrImm}
use Rattle.isa_model.specs.declared.instr.LoadKind.{LoadKind}
use Rattle.isa_model.specs.declared.instr.LoadKind.TheVariants as loads
use Rattle.isa_model.specs.declared.instr.StoreKind.{StoreKind}
use Rattle.isa_model.specs.declared.instr.StoreKind.TheVariants as stores
use Rattle.isa_model.specs.declared.instr.CsrOp.{CsrOp}
use Rattle.isa_model.specs.declared.instr.CsrOp.TheVariants.{Rw, Rs, Rc}
use Rattle.isa_model.specs.declared.instr.Cmp.{Cmp}
use Rattle.isa_model.specs.declared.ends.End.{End}
use Rattle.isa_model.specs.declared.latch.Latch.TheVariants.{Mem}
use Rattle.isa_model.specs.declared.latch.Latch.TheVariants as latches
use Rattle.isa_model.specs.Bits.{low_word, word_address, two_complement}
use Rattle.isa_model.specs.Arithmetic.{csr_result, is_taken, load_size, store_size}
use Rattle.isa_model.specs.InstrTable.{instr_of}
use Rattle.isa_model.specs.Effect.{Flow, csr_flow, Moved, to, Mixed, load_word, store_word, Constant, port_a, ports, result, Effect, Write, Rs1, Goes, Raises, address, is_csr_written, jump, does}
use Rattle.hart_model.specs.declared.place.Place.{Place}
use Rattle.hart_model.specs.declared.place.Place.TheVariants.{Reg}
use Rattle.hart_model.specs.declared.port.Port.{Port}
use Rattle.hart_model.specs.declared.port.Port.TheVariants.{Take, Give, Out, Tape, TapeLeft, Exit, Fault, Ack, OutLeft}
use Rattle.hart_model.specs.declared.tag.Mode.{Mode}
use Rattle.hart_model.specs.declared.tag.Mode.TheVariants.{User, Machine}
use Rattle.hart_model.specs.declared.tag.Tag.{Tag}
use Rattle.hart_model.specs.declared.tag.Tag.TheVariants.{Public, Of, Many}
use Rattle.hart_model.specs.declared.tag.Cell.{Cell}
use Rattle.hart_model.specs.Cells.{blank, place_of}
use Rattle.hart_model.specs.Taint.{is_public, mixture_of, machine_tag}
use Rattle.hart_model.specs.Csrs.{CsrFile, csr_cell, with_csr, with_csr_by_tag, with_public_csr, mscratch, mhartid}
use Rattle.hart_model.specs.Context.{ContextState}
use Rattle.hart_model.specs.Ports.{SideEffect, Nothing, ClearsTimer, PortAnswer, Passes, AsksQueue, Refuses, port_at, port_load, port_store, end_of_code, tape_answer, give_answer, fault_answer}
use Rattle.hart_model.specs.HartState.{HartState, hart_cell}
use Rattle.hart_model.specs.StepResult.{StepResult, Steps, Wants, Wedged}
use Rattle.hart_model.specs.MachineStep.{Target, AtPlace, AtPort, Nowhere, place_or_port, machine_bases, target_of, finds_nothing, enters_nothing, OperandCells, operand_cells, operand_values, operand_tag, csr_reach, machine_effect, after_machine_effect, by_csrs, csrs_after_effect, kernel_word_at, Finds, Refused, by_reach, load_by_port, store_by_port, load_reach, store_reach, machine_instr_step, by_instr, by_word, machine_step}
use Rattle.hart_model.specs.Wedges.{CanLoad, CanStore, IsEndCode, LoadFails, StoreFails, IsAstray, CsrFails, Wedges, WedgesAt, WedgedExactly, reg_value, reg_tag}

-- a result, and the cases in which it is a wedge
abbrev IsNoWedge : StepResult → Type 0
IsNoWedge (Steps hart probes did) = Unit {0}
IsNoWedge (Wants call early_writes rd next) = Unit {0}
IsNoWedge Wedged = ⊥

abbrev Settles : StepResult → Type 0 → Type 0
Settles result W = ((result ≡ Wedged) × W) ⊎ (IsNoWedge result × ¬ W)

no_wedge : (result : StepResult) → IsNoWedge result → result ≢ Wedged
no_wedge (Steps hart probes did) h e = cc
no_wedge (Wants call early_writes rd next) h e = cc
no_wedge Wedged h e = h

exactly : (result : StepResult) (W : Type 0) → Settles result W → (result ≡ Wedged) ↔ W
exactly result W (inl h) = (λ e. h.1, λ w. h.0)
exactly result W (inr h) = (λ e. absurd (no_wedge result h.0 e), λ w. absurd (h.1 w))

-- what the ports answer
abbrev AnswersWhere : PortAnswer → Type 0 → Type 0
AnswersWhere Refuses C = ¬ C
AnswersWhere (Passes cell side) C = C
AnswersWhere (AsksQueue call) C = C

tape_answers : (c : ContextState) → AnswersWhere (tape_answer c (slice_get c.body.tape c.body.tape_at)) (c.body.tape_at < length c.body.tape)
tape_answers c = go (cases_lt c.body.tape_at (length c.body.tape))
  where
    go : (c.body.tape_at < length c.body.tape) ⊎ (length c.body.tape ≤ c.body.tape_at)
        → AnswersWhere (tape_answer c (slice_get c.body.tape c.body.tape_at)) (c.body.tape_at < length c.body.tape)
    go (inl left) = let is = slice_get-get_or c.body.tape c.body.tape_at 0 left in rw is left
    go (inr used) = let is = slice_get_past c.body.tape c.body.tape_at used in rw is (λ left. absurd (omega (arith, left, used)))

load_answers : (port : Port) (held : Option ContextState) → AnswersWhere (port_load port held) (CanLoad port held)
load_answers Take None = tt
load_answers Take (Some c) = λ no. no
load_answers Give None = λ no. no
load_answers Give (Some c) = λ no. no
load_answers Out None = λ no. no
load_answers Out (Some c) = λ no. no
load_answers Tape None = λ no. no
load_answers Tape (Some c) = tape_answers c
load_answers TapeLeft None = λ no. no
load_answers TapeLeft (Some c) = tt
load_answers Exit None = λ no. no
load_answers Exit (Some c) = λ no. no
load_answers Fault None = λ no. no
load_answers Fault (Some c) = λ no. no
load_answers Ack None = λ no. no
load_answers Ack (Some c) = λ no. no
load_answers OutLeft None = λ no. no
load_answers OutLeft (Some c) = tt

-- an answer under another form of its condition, and under a test
answers_by : (a : PortAnswer) (C D : Type 0) → (C → D) → (D → C) → AnswersWhere a C → AnswersWhere a D
answers_by Refuses C D there back h = λ d. h (back d)
answers_by (Passes cell side) C D there back h = there h
answers_by (AsksQueue call) C D there back h = there h

public_first : (t : Tag) (a : PortAnswer) (C D : Type 0) → (D → (t ≡ Public) × C) → ((t ≡ Public) → C → D) → AnswersWhere a C → AnswersWhere (if is_public t then a else Refuses) D
public_first Public a C D parts whole h = answers_by a C D (whole refl) (λ d. (parts d).1) h
public_first (Of task step latch) a C D parts whole h = λ d. let e = (parts d).0 in cc
public_first Many a C D parts whole h = λ d. let e = (parts d).0 in cc

give_answers : (value : ℕ) (end : Option End) → AnswersWhere (give_answer value (is_some end)) (((value ≡ 0) × IsNone end) ⊎ ((value ≡ 1) × IsSome end))
give_answers zero None = inl (refl, refl)
give_answers zero (Some end) = λ h. elim h [ inl none ↦ let e = none.1 in cc | inr one ↦ let e : 0 ≡ 1 = one.0 in absurd (omega (arith, e)) ]
give_answers (suc zero) None = λ h. elim h [ inl first ↦ let e : 1 ≡ 0 = first.0 in absurd (omega (arith, e)) | inr some ↦ let e = some.1 in cc ]
give_answers (suc zero) (Some end) = inr (refl, cc)
give_answers (suc (suc n)) end = λ h. elim h [
  | inl first ↦ let e : suc (suc n) ≡ 0 = first.0 in absurd (omega (arith, e))
  | inr one ↦ let e : suc (suc n) ≡ 1 = one.0 in absurd (omega (arith, e))
]

-- the codes of ends
code_answers : (c : ContextState) (cell : Cell) → AnswersWhere (fault_answer cell (end_of_code c cell.value)) (IsEndCode cell.value)
code_answers c cell = go (nat_lt cell.value 8) (cell.value == 0x100) (cell.value == 0x101) (cell.value == 0x102) (cell.value == 0x80000010) refl refl refl refl refl
  where
    go : (b0 b1 b2 b3 b4 : Bool) → nat_lt cell.value 8 ≡ b0 → (cell.value == 0x100) ≡ b1 → (cell.value == 0x101) ≡ b2 → (cell.value == 0x102) ≡ b3 → (cell.value == 0x80000010) ≡ b4
        → AnswersWhere (fault_answer cell (end_of_code c cell.value)) (IsEndCode cell.value)
    go true b1 b2 b3 b4 e0 e1 e2 e3 e4 = rw e0 (inl (ltb-true cell.value 8 e0))
    go false true b2 b3 b4 e0 e1 e2 e3 e4 = rw (e0, e1) (inr (inl (eqb-true cell.value 0x100 e1)))
    go false false true b3 b4 e0 e1 e2 e3 e4 = rw (e0, e1, e2) (inr (inr (inl (eqb-true cell.value 0x101 e2))))
    go false false false true b4 e0 e1 e2 e3 e4 = rw (e0, e1, e2, e3) (inr (inr (inr (inl (eqb-true cell.value 0x102 e3)))))
    go false false false false true e0 e1 e2 e3 e4 = rw (e0, e1, e2, e3, e4) (inr (inr (inr (inr (eqb-true cell.value 0x80000010 e4)))))
    go false false false false false e0 e1 e2 e3 e4 = rw (e0, e1, e2, e3, e4) (λ h. elim h [
      | inl low ↦ let t = lt-ltb cell.value 8 low in cc
      | inr (inl a) ↦ let t = eq-eqb cell.value 0x100 a in cc
      | inr (inr (inl a)) ↦ let t = eq-eqb cell.value 0x101 a in cc
      | inr (inr (inr (inl a))) ↦ let t = eq-eqb cell.value 0x102 a in cc
      | inr (inr (inr (inr a))) ↦ let t = eq-eqb cell.value 0x80000010 a in cc
    ])

-- a test and its condition
where_true : (b : Bool) (a : PortAnswer) (C : Type 0) → (b ≡ true → AnswersWhere a C) → (b ≡ false → ¬ C) → AnswersWhere (if b then a else Refuses) C
where_true true a C holds fails = holds refl
where_true false a C holds fails = fails refl

out_answers : (cell : Cell) (c : ContextState) → AnswersWhere (port_store Out cell (Some c)) (CanStore Out cell (Some c))
out_answers cell c =
    where_true (nat_lt (length c.body.output) c.body.out_max) _ (length c.body.output < c.body.out_max)
    (λ holds. ltb-true _ _ holds) (λ fails left. let t = lt-ltb (length c.body.output) c.body.out_max left in cc)

exit_answers : (cell : Cell) (c : ContextState) (end : Option End) → c.end ≡ end → AnswersWhere (port_store Exit cell (Some c)) (CanStore Exit cell (Some c))
exit_answers cell c None is = rw is refl
exit_answers cell c (Some end) is = rw is (λ h. cc)

fault_answers : (t : Tag) (end : Option End) (a : PortAnswer) (C : Type 0) → AnswersWhere a C
    → AnswersWhere (if is_public t && is_none end then a else Refuses) ((t ≡ Public) × IsNone end × C)
fault_answers Public None a C h = answers_by a C _ (λ c. (refl, refl, c)) (λ d. d.2) h
fault_answers Public (Some end) a C h = λ d. let e = d.1 in cc
fault_answers (Of task step latch) end a C h = λ d. let e = d.0 in cc
fault_answers Many end a C h = λ d. let e = d.0 in cc

store_answers : (port : Port) (cell : Cell) (held : Option ContextState) → AnswersWhere (port_store port cell held) (CanStore port cell held)
store_answers Ack cell held = public_first cell.tag (Passes cell ClearsTimer) (Unit {0}) (cell.tag ≡ Public) (λ public. (public, tt)) (λ public u. public) tt
store_answers Give cell (Some c) =
    public_first cell.tag (give_answer cell.value (is_some c.end)) (((cell.value ≡ 0) × IsNone c.end) ⊎ ((cell.value ≡ 1) × IsSome c.end)) _ (λ h. h) (λ public h. (public, h)) (give_answers cell.value c.end)
store_answers Out cell (Some c) = out_answers cell c
store_answers Exit cell (Some c) = exit_answers cell c c.end refl
store_answers Fault cell (Some c) = fault_answers cell.tag c.end (fault_answer cell (end_of_code c cell.value)) (IsEndCode cell.value) (code_answers c cell)
store_answers Take cell None = λ no. no
store_answers Take cell (Some c) = λ no. no
store_answers Give cell None = λ no. no
store_answers Out cell None = λ no. no
store_answers Tape cell None = λ no. no
store_answers Tape cell (Some c) = λ no. no
store_answers TapeLeft cell None = λ no. no
store_answers TapeLeft cell (Some c) = λ no. no
store_answers Exit cell None = λ no. no
store_answers Fault cell None = λ no. no
store_answers OutLeft cell None = λ no. no
store_answers OutLeft cell (Some c) = λ no. no

-- a port stands at a multiple of 4
pub port_is_aligned : (at : ℕ) (port : Port) → port_at at ≡ Some port → at % 4 ≡ 0
port_is_aligned at port found = grind arith

-- a target that reaches a port is the port's address
pub place_or_port_is : (place : Option Place) (found : Option Port) (port : Port) → place_or_port place found ≡ AtPort port → found ≡ Some port
place_or_port_is (Some place) found port e = cc
place_or_port_is None None port e = cc
place_or_port_is None (Some other) port e = cc

target_is_aligned : (held : Option ContextState) (at : ℕ) (port : Port) → target_of held at ≡ AtPort port → at % 4 ≡ 0
target_is_aligned held at port e = port_is_aligned at port (place_or_port_is (place_of (machine_bases held) (Mem (word_address at))) (port_at at) port e)

-- a jump, and a branch that is taken
jump_settles : (h : HartState) (o : OperandCells) (before after : List Write) (target : ℕ) → Settles (after_machine_effect h o Nothing (jump before after target)) (IsAstray target)
jump_settles h o before after target =
    cond_both (target % 4 == 0) (does (before ++ after) (Goes target)) (does before (Raises 0)) (λ (e : Effect). Settles (after_machine_effect h o Nothing e) (IsAstray target))
    (λ t. inr (tt, λ astray. astray (eqb-true (target % 4) 0 t))) (λ f. inl (refl, eqb-false (target % 4) 0 f))

mixed : (t : Tag) → (mixture_of (Public ∷ t ∷ []) ≡ Public) ↔ (t ≡ Public)
mixed Public = (λ e. refl, λ e. refl)
mixed (Of task step latch) = (λ e. cc, λ e. cc)
mixed Many = (λ e. cc, λ e. cc)

module _ (h : HartState) where
  -- under another form of the cases
  settles_by : (result : StepResult) (V W : Type 0) → (V → W) → (W → V) → Settles result V → Settles result W
  settles_by result V W there back (inl s) = inl (s.0, there s.1)
  settles_by result V W there back (inr s) = inr (s.0, λ w. s.1 (back w))

  jalr_settles : (rd rs1 : ℕ) (imm : ℤ) (t : Tag) → Settles (by_reach h (Jalr rd rs1 imm) (if is_public t then finds_nothing else Refused)) ((t ≢ Public) ⊎ IsAstray (address (reg_value h rs1) imm / 2 * 2))
  jalr_settles rd rs1 imm Public =
      let o : OperandCells = operand_cells h (Jalr rd rs1 imm) None blank in
      settles_by _ (IsAstray (address (reg_value h rs1) imm / 2 * 2)) _ (λ astray. inr astray) (λ either. elim either [ inl not ↦ absurd (not refl) | inr astray ↦ astray ])
      (jump_settles h o (port_a (operand_values o)) (result rd (low_word (h.pc + 4)) Constant) (address (reg_value h rs1) imm / 2 * 2))
  jalr_settles rd rs1 imm (Of task step latch) = inl (refl, inl (λ e. cc))
  jalr_settles rd rs1 imm Many = inl (refl, inl (λ e. cc))

  branch_settles : (op : Cmp) (rs1 rs2 : ℕ) (off : ℤ) → Settles (machine_instr_step h (Branch op rs1 rs2 off)) (Wedges h (Branch op rs1 rs2 off))
  branch_settles op rs1 rs2 off =
      let o : OperandCells = operand_cells h (Branch op rs1 rs2 off) None blank in
      let target = low_word (h.pc + two_complement 32 off) in
      cond_both (is_taken op (reg_value h rs1) (reg_value h rs2)) (jump (ports (operand_values o)) [] target) (does (ports (operand_values o)) (Goes (low_word (h.pc + 4))))
      (λ (e : Effect). Settles (after_machine_effect h o Nothing e) ((is_taken op (reg_value h rs1) (reg_value h rs2) ≡ true) × IsAstray target))
      (λ t. settles_by _ (IsAstray target) _ (λ astray. (t, astray)) (λ w. w.1) (jump_settles h o (ports (operand_values o)) [] target))
      (λ f. inr (tt, λ w. let e = w.0 in cc))

  mret_settles : (mode : Mode) (held : Option ContextState) → Settles (by_reach h Mret (if enters_nothing mode held then Refused else finds_nothing)) ((mode ≡ User) × (held ≡ None))
  mret_settles User None = inl (refl, (refl, refl))
  mret_settles User (Some c) = inr (tt, λ w. let e = w.1 in cc)
  mret_settles Machine held = inr (tt, λ w. let e = w.0 in cc)

  -- a load and a store that find a word: they wedge where they are misaligned
  load_finds : (kind : LoadKind) (rd rs1 : ℕ) (imm : ℤ) (cell : Cell) (side : SideEffect) (X : Type 0) → ¬ X
      → Settles (by_reach h (Load kind rd rs1 imm) (Finds (Some cell) blank side)) ((address (reg_value h rs1) imm % load_size kind ≢ 0) ⊎ X)
  load_finds kind rd rs1 imm cell side X not =
      let o : OperandCells = operand_cells h (Load kind rd rs1 imm) (Some cell) blank in
      let at = address (reg_value h rs1) imm in
      let early_writes : List Write = port_a (operand_values o) ++ to latches.Res at (Mixed (Rs1 ∷ [])) in
      cond_both (at % load_size kind == 0) (load_word kind rd h.pc at early_writes (Some cell.value)) (does early_writes (Raises 4))
      (λ (e : Effect). Settles (after_machine_effect h o side e) ((at % load_size kind ≢ 0) ⊎ X))
      (λ t. inr (tt, λ either. elim either [ inl astray ↦ absurd (astray (eqb-true (at % load_size kind) 0 t)) | inr x ↦ absurd (not x) ]))
      (λ f. inl (refl, inl (eqb-false (at % load_size kind) 0 f)))

  store_finds : (kind : StoreKind) (rs2 rs1 : ℕ) (imm : ℤ) (cell : Cell) (side : SideEffect) (X : Type 0) → ¬ X
      → Settles (by_reach h (Store kind rs2 rs1 imm) (Finds (Some cell) blank side)) ((address (reg_value h rs1) imm % store_size kind ≢ 0) ⊎ X)
  store_finds kind rs2 rs1 imm cell side X not =
      let o : OperandCells = operand_cells h (Store kind rs2 rs1 imm) (Some cell) blank in
      let at = address (reg_value h rs1) imm in
      let early_writes : List Write = ports (operand_values o) ++ to latches.Res at (Mixed (Rs1 ∷ [])) in
      cond_both (at % store_size kind == 0) (store_word kind (reg_value h rs2) h.pc at early_writes (Some cell.value)) (does early_writes (Raises 6))
      (λ (e : Effect). Settles (after_machine_effect h o side e) ((at % store_size kind ≢ 0) ⊎ X))
      (λ t. inr (tt, λ either. elim either [ inl astray ↦ absurd (astray (eqb-true (at % store_size kind) 0 t)) | inr x ↦ absurd (not x) ]))
      (λ f. inl (refl, inl (eqb-false (at % store_size kind) 0 f)))

  -- through a port, by its answer
  load_port_settles : (rd rs1 : ℕ) (imm : ℤ) (answer : PortAnswer) (C : Type 0) → AnswersWhere answer C → address (reg_value h rs1) imm % 4 ≡ 0
      → Settles (by_reach h (Load loads.W rd rs1 imm) (load_by_port answer)) ((address (reg_value h rs1) imm % 4 ≢ 0) ⊎ (¬ C))
  load_port_settles rd rs1 imm (Passes cell side) C can even = load_finds loads.W rd rs1 imm cell side (¬ C) (λ no. no can)
  load_port_settles rd rs1 imm (AsksQueue call) C can even = inr (tt, λ either. elim either [ inl astray ↦ astray even | inr cannot ↦ cannot can ])
  load_port_settles rd rs1 imm Refuses C cannot even = inl (refl, inr cannot)

  store_port_settles : (rs2 rs1 : ℕ) (imm : ℤ) (stored : Cell) (answer : PortAnswer) (C : Type 0) → AnswersWhere answer C → address (reg_value h rs1) imm % 4 ≡ 0
      → Settles (by_reach h (Store stores.W rs2 rs1 imm) (store_by_port stored answer)) ((address (reg_value h rs1) imm % 4 ≢ 0) ⊎ (¬ C))
  store_port_settles rs2 rs1 imm stored (Passes cell side) C can even = store_finds stores.W rs2 rs1 imm cell side (¬ C) (λ no. no can)
  store_port_settles rs2 rs1 imm stored (AsksQueue call) C can even = inr (tt, λ either. elim either [ inl astray ↦ astray even | inr cannot ↦ cannot can ])
  store_port_settles rs2 rs1 imm stored Refuses C cannot even = inl (refl, inr cannot)

  load_settles : (kind : LoadKind) (rd rs1 : ℕ) (imm : ℤ) (target : Target) → target_of h.held (address (reg_value h rs1) imm) ≡ target
      → Settles (by_reach h (Load kind rd rs1 imm) (load_reach h kind target)) ((address (reg_value h rs1) imm % load_size kind ≢ 0) ⊎ LoadFails h kind target)
  load_settles kind rd rs1 imm (AtPlace place) is = load_finds kind rd rs1 imm (hart_cell h place) Nothing ⊥ (λ no. no)
  load_settles loads.W rd rs1 imm (AtPort port) is =
      load_port_settles rd rs1 imm (port_load port h.held) (CanLoad port h.held) (load_answers port h.held) (target_is_aligned h.held (address (reg_value h rs1) imm) port is)
  load_settles loads.B rd rs1 imm (AtPort port) is = inl (refl, inr tt)
  load_settles loads.H rd rs1 imm (AtPort port) is = inl (refl, inr tt)
  load_settles loads.Bu rd rs1 imm (AtPort port) is = inl (refl, inr tt)
  load_settles loads.Hu rd rs1 imm (AtPort port) is = inl (refl, inr tt)
  load_settles loads.W rd rs1 imm Nowhere is = inl (refl, inr tt)
  load_settles loads.B rd rs1 imm Nowhere is = inl (refl, inr tt)
  load_settles loads.H rd rs1 imm Nowhere is = inl (refl, inr tt)
  load_settles loads.Bu rd rs1 imm Nowhere is = inl (refl, inr tt)
  load_settles loads.Hu rd rs1 imm Nowhere is = inl (refl, inr tt)

  store_settles : (kind : StoreKind) (rs2 rs1 : ℕ) (imm : ℤ) (target : Target) → target_of h.held (address (reg_value h rs1) imm) ≡ target
      → Settles (by_reach h (Store kind rs2 rs1 imm) (store_reach h kind (hart_cell h (Reg rs2)) target)) ((address (reg_value h rs1) imm % store_size kind ≢ 0) ⊎ StoreFails h kind (hart_cell h (Reg rs2)) target)
  store_settles kind rs2 rs1 imm (AtPlace place) is = store_finds kind rs2 rs1 imm (hart_cell h place) Nothing ⊥ (λ no. no)
  store_settles stores.W rs2 rs1 imm (AtPort port) is =
      store_port_settles rs2 rs1 imm (hart_cell h (Reg rs2)) (port_store port (hart_cell h (Reg rs2)) h.held) (CanStore port (hart_cell h (Reg rs2)) h.held)
      (store_answers port (hart_cell h (Reg rs2)) h.held) (target_is_aligned h.held (address (reg_value h rs1) imm) port is)
  store_settles stores.B rs2 rs1 imm (AtPort port) is = inl (refl, inr tt)
  store_settles stores.H rs2 rs1 imm (AtPort port) is = inl (refl, inr tt)
  store_settles stores.W rs2 rs1 imm Nowhere is = inl (refl, inr tt)
  store_settles stores.B rs2 rs1 imm Nowhere is = inl (refl, inr tt)
  store_settles stores.H rs2 rs1 imm Nowhere is = inl (refl, inr tt)

  -- what is read of a CSR other than mscratch is public, and what can be read can be written, but for mhartid
  csr_is_public : (n : ℕ) (old : Cell) → csr_cell h.csrs n ≡ Some old → n ≢ mscratch → old.tag ≡ Public
  unfolding csr_cell
  csr_is_public n old is other = grind arith

  csr_is_writable : (n value : ℕ) (old : Cell) → csr_cell h.csrs n ≡ Some old → n ≢ mscratch → n ≢ mhartid → IsSome (with_public_csr h.csrs n value)
  unfolding csr_cell
  csr_is_writable n value old is other writable = grind arith

  -- a CSR file that there is, or isn't
  csrs_settle : (o : OperandCells) (e : Effect) (pc : ℕ) (found : Option CsrFile) (W : Type 0) → ((found ≡ None) × W) ⊎ (IsSome found × ¬ W) → Settles (by_csrs h o Nothing e pc found) W
  csrs_settle o e pc None W (inl s) = inl (refl, s.1)
  csrs_settle o e pc None W (inr s) = let t = s.0 in cc
  csrs_settle o e pc (Some c) W (inl s) = let t = s.0 in cc
  csrs_settle o e pc (Some c) W (inr s) = inr (tt, s.1)

  -- a value with a tag goes into a CSR other than mscratch where the CSR isn't mhartid and the tag is public
  by_tag_settles : (n value : ℕ) (old : Cell) (t : Tag) → csr_cell h.csrs n ≡ Some old → n ≢ mscratch
      → ((with_csr_by_tag h.csrs n value t ≡ None) × ((n ≡ mhartid) ⊎ (t ≢ Public))) ⊎ (IsSome (with_csr_by_tag h.csrs n value t) × ¬ ((n ≡ mhartid) ⊎ (t ≢ Public)))
  by_tag_settles n value old Public is other = go (eqb_tells n mhartid)
    where
      go : (((n == mhartid) ≡ true) × (n ≡ mhartid)) ⊎ (((n == mhartid) ≡ false) × (n ≢ mhartid))
          → ((with_public_csr h.csrs n value ≡ None) × ((n ≡ mhartid) ⊎ (Public ≢ Public))) ⊎ (IsSome (with_public_csr h.csrs n value) × ¬ ((n ≡ mhartid) ⊎ (Public ≢ Public)))
      go (inl here) = inl (ap (λ (m : ℕ). with_public_csr h.csrs m value) here.1, inl here.1)
      go (inr there) = inr (csr_is_writable n value old is other there.1, λ either. elim either [ inl here ↦ there.1 here | inr not ↦ not refl ])
  by_tag_settles n value old (Of task step latch) is other = inl (refl, inr (λ e. cc))
  by_tag_settles n value old Many is other = inl (refl, inr (λ e. cc))

  by_tag : (n : ℕ) (cell : Cell) → (n == mscratch) ≡ false → with_csr h.csrs n cell ≡ with_csr_by_tag h.csrs n cell.value cell.tag
  unfolding with_csr
  by_tag n cell other = rw other refl

  -- the write of a CSR instruction, whose tag is public where that of its operand is
  write_settles : (o : OperandCells) (n value : ℕ) (flow : Flow) (written : Bool) (old : Cell) (t : Tag) → csr_cell h.csrs n ≡ Some old
      → (n ≢ mscratch → (machine_tag (operand_tag o) flow ≡ Public) ↔ (t ≡ Public))
      → ((csrs_after_effect h.csrs o (if written && not (n == mscratch) then Some (record { csr = n; value = value; flow = flow }) else None) ≡ None) × CsrFails h n written t)
      ⊎ (IsSome (csrs_after_effect h.csrs o (if written && not (n == mscratch) then Some (record { csr = n; value = value; flow = flow }) else None)) × ¬ CsrFails h n written t)
  write_settles o n value flow false old t is tags = inr (refl, λ fails. elim fails [ inl none ↦ cc | inr w ↦ let e = w.0 in cc ])
  write_settles o n value flow true old t is tags = go (eqb_tells n mscratch)
    where
      go : (((n == mscratch) ≡ true) × (n ≡ mscratch)) ⊎ (((n == mscratch) ≡ false) × (n ≢ mscratch))
          → ((csrs_after_effect h.csrs o (if not (n == mscratch) then Some (record { csr = n; value = value; flow = flow }) else None) ≡ None) × CsrFails h n true t)
          ⊎ (IsSome (csrs_after_effect h.csrs o (if not (n == mscratch) then Some (record { csr = n; value = value; flow = flow }) else None)) × ¬ CsrFails h n true t)
      go (inl here) = let test = here.0 in rw test (inr (refl, λ fails. elim fails [ inl none ↦ cc | inr w ↦ w.1 here.1 ]))
      go (inr there) =
          let test = there.0 in
          let same = tags there.1 in
          let is_by_tag = by_tag n (record { value = value; tag = machine_tag (operand_tag o) flow }) test in
          rw (test, is_by_tag) (elim (by_tag_settles n value old (machine_tag (operand_tag o) flow) is there.1) [
            | inl s ↦ inl (s.0, inr (refl, there.1, elim s.1 [ inl mine ↦ inl mine | inr differs ↦ inr (λ e. differs (same.1 e)) ]))
            | inr s ↦ inr (s.0, λ fails. elim fails [ inl none ↦ cc | inr w ↦ s.1 (elim w.2 [ inl mine ↦ inl mine | inr differs ↦ inr (λ e. differs (same.0 e)) ]) ])
          ])

  -- the flow of a CSR instruction's operand, by its operation: the old value is public
  csr_tags : (op : CsrOp) (o : OperandCells) → o.old_csr.tag ≡ Public → (machine_tag (operand_tag o) (csr_flow op (Rs1 ∷ []) (Moved Rs1)) ≡ Public) ↔ (o.rs1.tag ≡ Public)
  csr_tags Rw o old = (λ e. e, λ e. e)
  csr_tags Rs o old = rw old (mixed o.rs1.tag)
  csr_tags Rc o old = rw old (mixed o.rs1.tag)

  imm_tags : (op : CsrOp) (o : OperandCells) → o.old_csr.tag ≡ Public → (machine_tag (operand_tag o) (csr_flow op [] Constant) ≡ Public) ↔ (Public ≡ Public)
  imm_tags Rw o old = (λ e. refl, λ e. refl)
  imm_tags Rs o old = rw old (λ e. refl, λ e. refl)
  imm_tags Rc o old = rw old (λ e. refl, λ e. refl)

  csr_settles : (op : CsrOp) (rd rs1 csr : ℕ) (found : Option Cell) → csr_cell h.csrs csr ≡ found
      → Settles (by_reach h (Csr op rd rs1 csr) (csr_reach found)) (CsrFails h csr (is_csr_written op rs1) (reg_tag h rs1))
  csr_settles op rd rs1 csr None is = inl (refl, inl is)
  csr_settles op rd rs1 csr (Some old) is =
      let o : OperandCells = operand_cells h (Csr op rd rs1 csr) None old in
      let e : Effect = machine_effect h (Csr op rd rs1 csr) o in
      csrs_settle o e (low_word (h.pc + 4)) (csrs_after_effect h.csrs o e.csr) (CsrFails h csr (is_csr_written op rs1) (reg_tag h rs1))
      (write_settles o csr (csr_result op old.value (reg_value h rs1)) (csr_flow op (Rs1 ∷ []) (Moved Rs1)) (is_csr_written op rs1) old (reg_tag h rs1) is
      (λ other. csr_tags op o (csr_is_public csr old is other)))

  csr_imm_settles : (op : CsrOp) (rd uimm csr : ℕ) (found : Option Cell) → csr_cell h.csrs csr ≡ found
      → Settles (by_reach h (CsrImm op rd uimm csr) (csr_reach found)) (CsrFails h csr (is_csr_written op uimm) Public)
  csr_imm_settles op rd uimm csr None is = inl (refl, inl is)
  csr_imm_settles op rd uimm csr (Some old) is =
      let o : OperandCells = operand_cells h (CsrImm op rd uimm csr) None old in
      let e : Effect = machine_effect h (CsrImm op rd uimm csr) o in
      csrs_settle o e (low_word (h.pc + 4)) (csrs_after_effect h.csrs o e.csr) (CsrFails h csr (is_csr_written op uimm) Public)
      (write_settles o csr (csr_result op old.value uimm) (csr_flow op [] Constant) (is_csr_written op uimm) old Public is
      (λ other. imm_tags op o (csr_is_public csr old is other)))

  instr_settles : (instr : Instr) → Settles (machine_instr_step h instr) (Wedges h instr)
  instr_settles (Lui rd imm20) = inr (tt, λ w. w)
  instr_settles (Auipc rd imm20) = inr (tt, λ w. w)
  instr_settles (Jal rd off) =
      jump_settles h (operand_cells h (Jal rd off) None blank) [] (result rd (low_word (h.pc + 4)) Constant) (low_word (h.pc + two_complement 32 off))
  instr_settles (Jalr rd rs1 imm) = jalr_settles rd rs1 imm (reg_tag h rs1)
  instr_settles (Branch op rs1 rs2 off) = branch_settles op rs1 rs2 off
  instr_settles (Load kind rd rs1 imm) = load_settles kind rd rs1 imm (target_of h.held (address (reg_value h rs1) imm)) refl
  instr_settles (Store kind rs2 rs1 imm) = store_settles kind rs2 rs1 imm (target_of h.held (address (reg_value h rs1) imm)) refl
  instr_settles (AluImm op rd rs1 imm) = inr (tt, λ w. w)
  instr_settles (AluReg op rd rs1 rs2) = inr (tt, λ w. w)
  instr_settles (Fence word) = inr (tt, λ w. w)
  instr_settles Ecall = inl (refl, tt)
  instr_settles Ebreak = inl (refl, tt)
  instr_settles Mret = mret_settles h.csrs.previous h.held
  instr_settles (Csr op rd rs1 csr) = csr_settles op rd rs1 csr (csr_cell h.csrs csr) refl
  instr_settles (CsrImm op rd uimm csr) = csr_imm_settles op rd uimm csr (csr_cell h.csrs csr) refl

  found_settles : (found : Option Instr) → Settles (by_instr h found) (MatchOption found ⊤ (λ instr. Wedges h instr))
  found_settles None = inl (refl, tt)
  found_settles (Some instr) = instr_settles instr

  word_settles : (word : Option ℕ) → Settles (by_word h word) (MatchOption word ⊤ (λ w. MatchOption (instr_of w) ⊤ (λ instr. Wedges h instr)))
  word_settles None = inl (refl, tt)
  word_settles (Some word) = found_settles (instr_of word)

pub wedged_exactly : WedgedExactly
unfolding machine_step
wedged_exactly code h = exactly (machine_step code h) (WedgesAt code h) (word_settles h (kernel_word_at code h.pc))
