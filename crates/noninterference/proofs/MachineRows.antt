-- Rows of the effect table whose operands are alike: the writes that they lead to are alike, by what flows into them.
use Rattle.std.proofs.Common.{◌≡◌, ℕ, List, [], ◌∷◌, Option, Some, None, refl, ap, ◌∙◌}
use Rattle.isa_model.specs.Effect.{Write, Flow, Constant, Moved, Mixed, Operand, Rs1, Rs2, Word, OldCsr, CsrWrite, Effect}
use Rattle.hart_model.specs.declared.place.Place.{Place}
use Rattle.hart_model.specs.declared.tag.Cell.{Cell}
use Rattle.hart_model.specs.declared.tag.Tag.TheVariants.{Public}
use Rattle.hart_model.specs.Cells.{Bases, place_of}
use Rattle.hart_model.specs.Taint.{machine_tag, mixture_of, tags_of}
use Rattle.hart_model.specs.Writes.{CellWrite, cell_writes, placed}
use Rattle.hart_model.specs.MachineStep.{OperandCells, operand_tag, tag_of_word}
use Rattle.core_model.specs.LowEquivalence.{ArePairwise}
use Rattle.core_model.specs.AlikeHarts.{AreCellsAlike}
use Rattle.noninterference.specs.AlikeSteps.{AreWritesAlike}

-- both cells, or none, and alike
abbrev pub AreOptionsAlike : Option Cell → Option Cell → Type 0
AreOptionsAlike None None = Unit {0}
AreOptionsAlike (Some c) (Some d) = AreCellsAlike c d
AreOptionsAlike word other = ⊥

-- operands that are alike
pub record AreOperandsAlike (o p : OperandCells) : Type 0 where
  pub rs1 : AreCellsAlike o.rs1 p.rs1
  pub rs2 : AreCellsAlike o.rs2 p.rs2
  pub word : AreOptionsAlike o.word p.word
  pub old_csr : AreCellsAlike o.old_csr p.old_csr

-- two writes of a row: of one latch, of one flow, and of one value where that flow is public
pub record AreRowWritesAlike (o : OperandCells) (w v : Write) : Type 0 where
  pub to : w.to ≡ v.to
  pub flow : w.flow ≡ v.flow
  pub value : machine_tag (operand_tag o) w.flow ≡ Public → w.value ≡ v.value

pub record AreCsrWritesAlike (o : OperandCells) (w v : CsrWrite) : Type 0 where
  pub csr : w.csr ≡ v.csr
  pub flow : w.flow ≡ v.flow
  pub value : machine_tag (operand_tag o) w.flow ≡ Public → w.value ≡ v.value

abbrev pub AreCsrOptionsAlike : OperandCells → Option CsrWrite → Option CsrWrite → Type 0
AreCsrOptionsAlike o None None = Unit {0}
AreCsrOptionsAlike o (Some w) (Some v) = AreCsrWritesAlike o w v
AreCsrOptionsAlike o w v = ⊥

-- two effects: their writes, the CSR that they write, and what follows
pub record AreEffectsAlike (o : OperandCells) (e f : Effect) : Type 0 where
  pub writes : ArePairwise (AreRowWritesAlike o) e.writes f.writes
  pub csr : AreCsrOptionsAlike o e.csr f.csr
  pub next : e.next ≡ f.next

-- a tag by its flow is one on both
word-tags : (x y : Option Cell) → AreOptionsAlike x y → tag_of_word x ≡ tag_of_word y
word-tags None None a = refl
word-tags None (Some d) a = absurd a
word-tags (Some c) None a = absurd a
word-tags (Some c) (Some d) a = a.tag

operand-tags : (o p : OperandCells) → AreOperandsAlike o p → (from : Operand) → operand_tag o from ≡ operand_tag p from
operand-tags o p a Rs1 = a.rs1.tag
operand-tags o p a Rs2 = a.rs2.tag
operand-tags o p a Word = word-tags o.word p.word a.word
operand-tags o p a OldCsr = a.old_csr.tag

several-tags : (o p : OperandCells) → AreOperandsAlike o p → (os : List Operand) → tags_of (operand_tag o) os ≡ tags_of (operand_tag p) os
several-tags o p a [] = refl
several-tags o p a (from ∷ os) =
    let one = operand-tags o p a from in
    let more = several-tags o p a os in
    rw (one, more) refl

pub flow-tags : (o p : OperandCells) → AreOperandsAlike o p → (flow : Flow) → machine_tag (operand_tag o) flow ≡ machine_tag (operand_tag p) flow
flow-tags o p a Constant = refl
flow-tags o p a (Moved from) = operand-tags o p a from
flow-tags o p a (Mixed os) = ap mixture_of (several-tags o p a os)

-- the cells that two writes of a row leave
pub row-cell : (o p : OperandCells) → AreOperandsAlike o p → (flow other : Flow) (v w : ℕ) → flow ≡ other
    → (machine_tag (operand_tag o) flow ≡ Public → v ≡ w)
    → AreCellsAlike (record { value = v; tag = machine_tag (operand_tag o) flow }) (record { value = w; tag = machine_tag (operand_tag p) other })
row-cell o p a flow other v w e f = record { tag = flow-tags o p a flow ∙ ap (λ (x : Flow). machine_tag (operand_tag p) x) e; value = f }

placed-alike : (x y : Option Place) (c d : Cell) (ws vs : List CellWrite) → x ≡ y → AreCellsAlike c d → ArePairwise AreWritesAlike ws vs
    → ArePairwise AreWritesAlike (placed x c ws) (placed y d vs)
placed-alike None None c d ws vs e s a = a
placed-alike None (Some q) c d ws vs e s a = absurd (cc e)
placed-alike (Some p) None c d ws vs e s a = absurd (cc e)
placed-alike (Some p) (Some q) c d ws vs e s a = (record { at = cc e; cell = s }, a)

-- rows that are alike lead to writes that are alike
pub cell-writes-alike : (o p : OperandCells) → AreOperandsAlike o p → (b c : Bases) → b ≡ c → (ws vs : List Write) → ArePairwise (AreRowWritesAlike o) ws vs
    → ArePairwise AreWritesAlike (cell_writes b (λ w. machine_tag (operand_tag o) w.flow) ws) (cell_writes c (λ w. machine_tag (operand_tag p) w.flow) vs)
cell-writes-alike o p a b c e [] [] s = tt
cell-writes-alike o p a b c e [] (v ∷ vs) s = absurd s
cell-writes-alike o p a b c e (w ∷ ws) [] s = absurd s
cell-writes-alike o p a b c e (w ∷ ws) (v ∷ vs) s =
    let to = s.0.to in
    placed-alike (place_of b w.to) (place_of c v.to) _ _ _ _ (rw (e, to) refl) (row-cell o p a w.flow v.flow w.value v.value s.0.flow s.0.value)
    (cell-writes-alike o p a b c e ws vs s.1)
