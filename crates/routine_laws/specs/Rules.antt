-- The rules of a routine's words (this project's own): what a word leaves, or the first rule that it breaks.
use Rattle.std.specs.Prelude.{ℕ, zero, ◌+◌, Bool, true, false, ◌&&◌, List, [], ◌∷◌, Option, Some, None}
use Rattle.isa_model.specs.declared.instr.Instr.{Instr}
use Rattle.isa_model.specs.declared.instr.Instr.TheVariants as instrs
use Rattle.isa_model.specs.declared.instr.Alu.TheVariants.{Add, Mul}
use Rattle.isa_model.specs.declared.instr.LoadKind.TheVariants as loads
use Rattle.isa_model.specs.declared.instr.StoreKind.TheVariants as stores
use Rattle.isa_model.specs.declared.instr.CsrOp.TheVariants.{Rw, Rs}
use Rattle.isa_model.specs.InstrTable.{instr_of}
use Rattle.isa_model.specs.Effect.{is_mscratch}
use Rattle.hart_model.specs.declared.place.Place.{Place}
use Rattle.hart_model.specs.declared.place.Place.TheVariants as places
use Rattle.hart_model.specs.Cells.{with_cell}
use Rattle.routine_laws.specs.declared.content.Content.{Content}
use Rattle.routine_laws.specs.Contents.{Contents, ContentWrite, is_tagged, is_zero, content_at, register, constant_of, lui_writes, addi_writes, add_writes, mul_writes, load_writes, store_writes, swap_writes, read_writes, reached_by}

-- The rules of a word, in the order in which they are tried: it is an instruction of a form that a routine may have; a load or a store
-- reaches the word that is always 0 or a word of the slot that keeps a register; the word that is always 0 takes 0 alone; and in no write
-- may the old word and the new one both be tagged.
pub data Rule : Type 0 where
  Form Base NotZero Meets : Rule

-- what a word leaves, or the first rule that it breaks
pub data WordOutcome : Type 0 where
  Leaves : (contents : Contents) → WordOutcome
  Breaks : (rule : Rule) → WordOutcome

abbrev pub unless_met : Bool → WordOutcome → WordOutcome
unless_met true outcome = Breaks Meets
unless_met false outcome = outcome

abbrev pub after_writes : List ContentWrite → Contents → WordOutcome
after_writes [] c = Leaves c
after_writes (w ∷ ws) c = unless_met (is_tagged (content_at c w.at) && is_tagged w.content) (after_writes ws (with_cell c w.at w.content))

-- a load and a store, by what they reach
abbrev pub after_load : Contents → ℕ → ℕ → Option Place → WordOutcome
after_load c rd rs1 None = Breaks Base
after_load c rd rs1 (Some place) = after_writes (load_writes c rd rs1 place) c

abbrev pub may_take : Place → Content → Bool
may_take places.Zero content = is_zero content
may_take place content = true

abbrev pub if_taken : Bool → WordOutcome → WordOutcome
if_taken true outcome = outcome
if_taken false outcome = Breaks NotZero

abbrev pub after_store : Contents → ℕ → ℕ → Option Place → WordOutcome
after_store c rs2 rs1 None = Breaks Base
after_store c rs2 rs1 (Some place) = if_taken (may_take place (register c rs2)) (after_writes (store_writes c rs2 rs1 place) c)

abbrev pub if_mscratch : Bool → WordOutcome → WordOutcome
if_mscratch true outcome = outcome
if_mscratch false outcome = Breaks Form

-- One instruction. What is computed is a constant, or 0 of x0 and x0.
abbrev pub after_instr : Contents → Instr → WordOutcome
after_instr c (instrs.Lui rd imm20) = after_writes (lui_writes rd) c
after_instr c (instrs.AluImm Add rd zero imm) = after_writes (addi_writes rd (constant_of imm)) c
after_instr c (instrs.AluReg Add zero zero zero) = after_writes add_writes c
after_instr c (instrs.AluReg Mul zero zero zero) = after_writes mul_writes c
after_instr c (instrs.Load loads.W rd rs1 imm) = after_load c rd rs1 (reached_by c rs1 imm)
after_instr c (instrs.Store stores.W rs2 rs1 imm) = after_store c rs2 rs1 (reached_by c rs1 imm)
after_instr c (instrs.Csr Rw rd rs1 csr) = if_mscratch (is_mscratch csr) (after_writes (swap_writes c rd rs1) c)
after_instr c (instrs.Csr Rs rd zero csr) = if_mscratch (is_mscratch csr) (after_writes (read_writes c rd) c)
after_instr c instr = Breaks Form

abbrev pub after_word : Contents → Option Instr → WordOutcome
after_word c None = Breaks Form
after_word c (Some instr) = after_instr c instr

-- what words leave; or the rule that is broken by the first word that breaks one, with this word's place
pub data Outcome : Type 0 where
  Ends : (contents : Contents) → Outcome
  Fails : (at : ℕ) (rule : Rule) → Outcome

abbrev pub then_outcome : ℕ → WordOutcome → (Contents → Outcome) → Outcome
then_outcome at (Leaves c) more = more c
then_outcome at (Breaks rule) more = Fails at rule

-- the outcome of words, of which the first one has a place
unfoldable pub outcome_of : ℕ → Contents → List ℕ → Outcome
outcome_of at c [] = Ends c
outcome_of at c (word ∷ words) = then_outcome at (after_word c (instr_of word)) (λ d. outcome_of (at + 1) d words)
