-- The latches that a row writes hang on its instruction, on what follows and on its deed alone.
use Rattle.std.proofs.Common.{◌≡◌, ℕ, ◌+◌, ◌*◌, ◌/◌, ◌%◌, ◌^◌, ◌==◌, ◌⊎◌, inl, inr, Bool, true, false, List, [], ◌∷◌, ◌++◌, Option, Some, None, if◌then◌else◌, refl, ap, ◌∙◌}
use Rattle.std.proofs.lemmas.Bool.{cond_both}
use Rattle.isa_model.specs.declared.instr.Instr.{Instr}
use Rattle.isa_model.specs.declared.instr.Instr.TheVariants.{Lui, Auipc, Jal, Jalr, Branch, Load, Store, AluImm, AluReg, Fence, Ecall, Ebreak, Mret, Csr, CsrImm}
use Rattle.isa_model.specs.declared.instr.LoadKind.{LoadKind}
use Rattle.isa_model.specs.declared.instr.StoreKind.{StoreKind}
use Rattle.isa_model.specs.declared.latch.Latch.{Latch}
use Rattle.isa_model.specs.declared.latch.Latch.TheVariants as latches
use Rattle.isa_model.specs.declared.control.Deed.{Deed}
use Rattle.isa_model.specs.declared.control.Deed.TheVariants.{Ran, Stored, Called, Ended}
use Rattle.isa_model.specs.declared.ends.EndKind.TheVariants as kinds
use Rattle.isa_model.specs.Bits.{low_word, two_complement, word_address}
use Rattle.isa_model.specs.Arithmetic.{alu_of, is_taken, load_size, store_size, load_result}
use Rattle.isa_model.specs.Effect.{Effect, Write, Operands, Flow, Constant, Moved, Mixed, Rs1, Rs2, Next, Goes, Raises, Calls, Returns, effect_of, address, load_word, store_word, loaded_flow, to, to_reg, result, is_of_multiplier, port_a, ports, jump, does}
use Rattle.isa_model.specs.Alone.{is_privileged, deed_of}
use Rattle.noninterference.proofs.UserTraps.{latches_of}

-- it goes on or faults
abbrev pub IsPlain : Next → Type 0
IsPlain (Goes pc) = Unit {0}
IsPlain (Raises cause) = Unit {0}
IsPlain Calls = ⊥
IsPlain Returns = ⊥

-- what is seen of an instruction that goes on or faults
abbrev pub seen_deed : Deed → Next → Deed
seen_deed deed (Goes pc) = deed
seen_deed deed (Raises cause) = Ended (kinds.Faulted cause)
seen_deed deed Calls = Ran
seen_deed deed Returns = Ended (kinds.Faulted 2)

abbrev if_goes : Next → List Latch → List Latch → List Latch
if_goes (Goes pc) there other = there
if_goes (Raises cause) there other = other
if_goes Calls there other = other
if_goes Returns there other = other

abbrev reg_latch : ℕ → List Latch
reg_latch rd = if rd == 0 then [] else latches.Reg rd ∷ []

abbrev multiplier_latch : Bool → List Latch
multiplier_latch is = if is then latches.Mul ∷ [] else []

abbrev stored_latches : Deed → List Latch
stored_latches (Stored at) = latches.PortA ∷ latches.PortB ∷ latches.Res ∷ latches.Store ∷ latches.Mem at ∷ []
stored_latches Ran = latches.PortA ∷ latches.PortB ∷ latches.Res ∷ []
stored_latches (Called number) = latches.PortA ∷ latches.PortB ∷ latches.Res ∷ []
stored_latches (Ended kind) = latches.PortA ∷ latches.PortB ∷ latches.Res ∷ []

-- the latches that a row writes, by what follows and what is seen
abbrev pub latches_by : Instr → Next → Deed → List Latch
latches_by (Lui rd imm20) next deed = latches.Res ∷ reg_latch rd
latches_by (Auipc rd imm20) next deed = latches.Res ∷ reg_latch rd
latches_by (Jal rd off) next deed = if_goes next (latches.Res ∷ reg_latch rd) []
latches_by (Jalr rd rs1 imm) next deed = if_goes next (latches.PortA ∷ latches.Res ∷ reg_latch rd) (latches.PortA ∷ [])
latches_by (Branch op rs1 rs2 off) next deed = latches.PortA ∷ latches.PortB ∷ []
latches_by (Load kind rd rs1 imm) next deed =
    if_goes next (latches.PortA ∷ latches.Res ∷ latches.Load ∷ reg_latch rd) (latches.PortA ∷ latches.Res ∷ [])
latches_by (Store kind rs2 rs1 imm) next deed = stored_latches deed
latches_by (AluImm op rd rs1 imm) next deed = latches.PortA ∷ latches.Res ∷ reg_latch rd
latches_by (AluReg op rd rs1 rs2) next deed = latches.PortA ∷ latches.PortB ∷ (multiplier_latch (is_of_multiplier op) ++ (latches.Res ∷ reg_latch rd))
latches_by (Fence word) next deed = []
latches_by Ecall next deed = []
latches_by Ebreak next deed = []
latches_by Mret next deed = []
latches_by (Csr op rd rs1 csr) next deed = []
latches_by (CsrImm op rd uimm csr) next deed = []

-- A row goes on or faults, or it is the call of the environment.
plain_jump : (before after : List Write) (target : ℕ) → IsPlain (jump before after target).next
plain_jump before after target =
    cond_both (target % 4 == 0) (does (before ++ after) (Goes target)) (does before (Raises 0)) (λ (e : Effect). IsPlain e.next) (λ t. tt) (λ f. tt)

plain_load : (kind : LoadKind) (rd pc at : ℕ) (early_writes : List Write) (word : Option ℕ) → IsPlain (load_word kind rd pc at early_writes word).next
plain_load kind rd pc at early_writes None = tt
plain_load kind rd pc at early_writes (Some word) = tt

plain_store : (kind : StoreKind) (value pc at : ℕ) (early_writes : List Write) (word : Option ℕ) → IsPlain (store_word kind value pc at early_writes word).next
plain_store kind value pc at early_writes None = tt
plain_store kind value pc at early_writes (Some word) = tt

pub row-is-plain : (i : Instr) (pc : ℕ) (o : Operands) → is_privileged i ≡ false → IsPlain (effect_of i pc o).next ⊎ (i ≡ Ecall)
row-is-plain (Lui rd imm20) pc o f = inl tt
row-is-plain (Auipc rd imm20) pc o f = inl tt
row-is-plain (Jal rd off) pc o f = inl (plain_jump [] (result rd (low_word (pc + 4)) Constant) (low_word (pc + two_complement 32 off)))
row-is-plain (Jalr rd rs1 imm) pc o f = inl (plain_jump (port_a o) (result rd (low_word (pc + 4)) Constant) (address o.rs1 imm / 2 * 2))
row-is-plain (Branch op rs1 rs2 off) pc o f =
    inl (cond_both (is_taken op o.rs1 o.rs2) (jump (ports o) [] (low_word (pc + two_complement 32 off))) (does (ports o) (Goes (low_word (pc + 4))))
    (λ (e : Effect). IsPlain e.next) (λ t. plain_jump (ports o) [] (low_word (pc + two_complement 32 off))) (λ n. tt))
row-is-plain (Load kind rd rs1 imm) pc o f =
    inl (cond_both (address o.rs1 imm % load_size kind == 0) _ _ (λ (e : Effect). IsPlain e.next)
    (λ t. plain_load kind rd pc (address o.rs1 imm) _ o.word) (λ n. tt))
row-is-plain (Store kind rs2 rs1 imm) pc o f =
    inl (cond_both (address o.rs1 imm % store_size kind == 0) _ _ (λ (e : Effect). IsPlain e.next)
    (λ t. plain_store kind o.rs2 pc (address o.rs1 imm) _ o.word) (λ n. tt))
row-is-plain (AluImm op rd rs1 imm) pc o f = inl tt
row-is-plain (AluReg op rd rs1 rs2) pc o f = inl tt
row-is-plain (Fence word) pc o f = inl tt
row-is-plain Ecall pc o f = inr refl
row-is-plain Ebreak pc o f = inl tt
row-is-plain Mret pc o f = absurd cc
row-is-plain (Csr op rd rs1 csr) pc o f = absurd cc
row-is-plain (CsrImm op rd uimm csr) pc o f = absurd cc

-- The latches of each row.
reg_to : (rd value : ℕ) (flow : Flow) → latches_of (to_reg rd value flow) ≡ reg_latch rd
reg_to rd value flow = go (rd == 0)
  where
    go : (b : Bool) → latches_of (if b then [] else to (latches.Reg rd) value flow) ≡ (if b then [] else latches.Reg rd ∷ [])
    go true = refl
    go false = refl

multiplier_to : (is : Bool) (value : ℕ) (flow : Flow) (rest : List Write)
    → latches_of ((if is then to latches.Mul value flow else []) ++ rest) ≡ multiplier_latch is ++ latches_of rest
multiplier_to true value flow rest = refl
multiplier_to false value flow rest = refl

jump_to : (before after : List Write) (target : ℕ) (there other : List Latch) → latches_of (before ++ after) ≡ there → latches_of before ≡ other
    → latches_of (jump before after target).writes ≡ if_goes (jump before after target).next there other
jump_to before after target there other goes faults =
    cond_both (target % 4 == 0) (does (before ++ after) (Goes target)) (does before (Raises 0))
    (λ (e : Effect). latches_of e.writes ≡ if_goes e.next there other) (λ t. goes) (λ f. faults)

abbrev early_writes_load : ℕ → ℕ → List Write
early_writes_load first at = to latches.PortA first (Moved Rs1) ++ to latches.Res at (Mixed (Rs1 ∷ []))

abbrev early_writes_store : ℕ → ℕ → ℕ → List Write
early_writes_store first second at = to latches.PortA first (Moved Rs1) ++ to latches.PortB second (Moved Rs2) ++ to latches.Res at (Mixed (Rs1 ∷ []))

load_to : (kind : LoadKind) (rd pc at first : ℕ) (word : Option ℕ)
    → latches_of (load_word kind rd pc at (early_writes_load first at) word).writes
    ≡ if_goes (load_word kind rd pc at (early_writes_load first at) word).next
    (latches.PortA ∷ latches.Res ∷ latches.Load ∷ reg_latch rd) (latches.PortA ∷ latches.Res ∷ [])
load_to kind rd pc at first None = refl
load_to kind rd pc at first (Some word) =
    ap (λ ls. latches.PortA ∷ latches.Res ∷ latches.Load ∷ ls) (reg_to rd (load_result kind word at) (loaded_flow kind))

store_to : (kind : StoreKind) (second pc at first : ℕ) (word : Option ℕ)
    → latches_of (store_word kind second pc at (early_writes_store first second at) word).writes
    ≡ stored_latches (seen_deed (Stored (word_address at)) (store_word kind second pc at (early_writes_store first second at) word).next)
store_to kind second pc at first None = refl
store_to kind second pc at first (Some word) = refl

pub row-latches : (i : Instr) (pc : ℕ) (o : Operands) → is_privileged i ≡ false
    → latches_of (effect_of i pc o).writes ≡ latches_by i (effect_of i pc o).next (seen_deed (deed_of i o.rs1) (effect_of i pc o).next)
row-latches (Lui rd imm20) pc o f = ap (λ ls. latches.Res ∷ ls) (reg_to rd (2 ^ 12 * imm20) Constant)
row-latches (Auipc rd imm20) pc o f = ap (λ ls. latches.Res ∷ ls) (reg_to rd (low_word (pc + 2 ^ 12 * imm20)) Constant)
row-latches (Jal rd off) pc o f =
    jump_to [] (result rd (low_word (pc + 4)) Constant) (low_word (pc + two_complement 32 off)) (latches.Res ∷ reg_latch rd) []
    (ap (λ ls. latches.Res ∷ ls) (reg_to rd (low_word (pc + 4)) Constant)) refl
row-latches (Jalr rd rs1 imm) pc o f =
    jump_to (port_a o) (result rd (low_word (pc + 4)) Constant) (address o.rs1 imm / 2 * 2)
    (latches.PortA ∷ latches.Res ∷ reg_latch rd) (latches.PortA ∷ [])
    (ap (λ ls. latches.PortA ∷ latches.Res ∷ ls) (reg_to rd (low_word (pc + 4)) Constant)) refl
row-latches (Branch op rs1 rs2 off) pc o f =
    cond_both (is_taken op o.rs1 o.rs2) (jump (ports o) [] (low_word (pc + two_complement 32 off))) (does (ports o) (Goes (low_word (pc + 4))))
    (λ (e : Effect). latches_of e.writes ≡ latches.PortA ∷ latches.PortB ∷ [])
    (λ t. cond_both (low_word (pc + two_complement 32 off) % 4 == 0)
    (does (ports o ++ []) (Goes (low_word (pc + two_complement 32 off)))) (does (ports o) (Raises 0))
    (λ (e : Effect). latches_of e.writes ≡ latches.PortA ∷ latches.PortB ∷ []) (λ t. refl) (λ n. refl))
    (λ n. refl)
row-latches (Load kind rd rs1 imm) pc o f =
    let at = address o.rs1 imm in
    cond_both (at % load_size kind == 0) (load_word kind rd pc at (early_writes_load o.rs1 at) o.word) (does (early_writes_load o.rs1 at) (Raises 4))
    (λ (e : Effect). latches_of e.writes ≡ latches_by (Load kind rd rs1 imm) e.next (seen_deed (deed_of (Load kind rd rs1 imm) o.rs1) e.next))
    (λ t. load_to kind rd pc at o.rs1 o.word) (λ n. refl)
row-latches (Store kind rs2 rs1 imm) pc o f =
    let at = address o.rs1 imm in
    cond_both (at % store_size kind == 0) (store_word kind o.rs2 pc at (early_writes_store o.rs1 o.rs2 at) o.word) (does (early_writes_store o.rs1 o.rs2 at) (Raises 6))
    (λ (e : Effect). latches_of e.writes ≡ latches_by (Store kind rs2 rs1 imm) e.next (seen_deed (deed_of (Store kind rs2 rs1 imm) o.rs1) e.next))
    (λ t. store_to kind o.rs2 pc at o.rs1 o.word) (λ n. refl)
row-latches (AluImm op rd rs1 imm) pc o f =
    ap (λ ls. latches.PortA ∷ latches.Res ∷ ls) (reg_to rd (alu_of op o.rs1 (two_complement 32 imm)) (Mixed (Rs1 ∷ [])))
row-latches (AluReg op rd rs1 rs2) pc o f =
    let value = alu_of op o.rs1 o.rs2 in
    let flow = Mixed (Rs1 ∷ Rs2 ∷ []) in
    ap (λ ls. latches.PortA ∷ latches.PortB ∷ ls) (multiplier_to (is_of_multiplier op) value flow (result rd value flow)
    ∙ ap (λ ls. multiplier_latch (is_of_multiplier op) ++ (latches.Res ∷ ls)) (reg_to rd value flow))
row-latches (Fence word) pc o f = refl
row-latches Ecall pc o f = refl
row-latches Ebreak pc o f = refl
row-latches Mret pc o f = absurd cc
row-latches (Csr op rd rs1 csr) pc o f = absurd cc
row-latches (CsrImm op rd uimm csr) pc o f = absurd cc
