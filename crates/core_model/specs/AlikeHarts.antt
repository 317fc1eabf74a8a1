-- Cells, contexts and harts that are alike in all that is public (this project's own).
use Rattle.std.specs.Prelude.{◌≡◌, ⊤, length, Option, Some, None, option_map}
use Rattle.isa_model.specs.Control.{kind_of}
use Rattle.hart_model.specs.declared.tag.Cell.{Cell}
use Rattle.hart_model.specs.declared.tag.Tag.TheVariants.{Public}
use Rattle.hart_model.specs.Csrs.{CsrFile}
use Rattle.hart_model.specs.Context.{BodyState, ContextState}
use Rattle.hart_model.specs.HartState.{HartState}
use Rattle.core_model.specs.LowEquivalence.{ArePairwise}

-- Two cells have one tag, and where it is public one value.
pub record AreCellsAlike (c d : Cell) : Type 0 where
  pub tag : c.tag ≡ d.tag
  pub value : c.tag ≡ Public → c.value ≡ d.value

-- Two bodies are of the same task by its number, places, code and limits, as far, with tapes and outputs of one length, and with data
-- words that are alike.
pub record AreBodiesAlike (b e : BodyState) : Type 0 where
  pub task_no : b.task_no ≡ e.task_no
  pub code_at : b.code_at ≡ e.code_at
  pub data_at : b.data_at ≡ e.data_at
  pub code : b.code ≡ e.code
  pub data_words : ArePairwise AreCellsAlike b.data_words e.data_words
  pub tape : length b.tape ≡ length e.tape
  pub tape_at : b.tape_at ≡ e.tape_at
  pub output : length b.output ≡ length e.output
  pub out_max : b.out_max ≡ e.out_max
  pub fuel : b.fuel ≡ e.fuel
  pub count : b.count ≡ e.count

-- Two contexts: their bodies, slots, words and the kinds of their ends.
pub record AreContextsAlike (c d : ContextState) : Type 0 where
  pub body : AreBodiesAlike c.body d.body
  pub slot : c.slot ≡ d.slot
  pub words : ArePairwise AreCellsAlike c.words d.words
  pub end : option_map kind_of c.end ≡ option_map kind_of d.end

abbrev pub AreHeldAlike : Option ContextState → Option ContextState → Type 0
AreHeldAlike None None = ⊤
AreHeldAlike (Some c) (Some d) = AreContextsAlike c d
AreHeldAlike held other = ⊥

-- Two CSR files are equal but for mscratch, which is alike.
pub record AreCsrsAlike (a b : CsrFile) : Type 0 where
  pub scratch : AreCellsAlike a.mscratch b.mscratch
  pub others : record a { mscratch = b.mscratch } ≡ b

-- Two harts: all their cells, their CSRs, pcs and what they hold.
pub record AreHartsAlike (h g : HartState) : Type 0 where
  pub regs : ArePairwise AreCellsAlike h.regs g.regs
  pub port_a : AreCellsAlike h.port_a g.port_a
  pub port_b : AreCellsAlike h.port_b g.port_b
  pub res : AreCellsAlike h.res g.res
  pub load : AreCellsAlike h.load g.load
  pub store : AreCellsAlike h.store g.store
  pub mul : AreCellsAlike h.mul g.mul
  pub zero_word : AreCellsAlike h.zero_word g.zero_word
  pub csrs : AreCsrsAlike h.csrs g.csrs
  pub pc : h.pc ≡ g.pc
  pub held : AreHeldAlike h.held g.held
