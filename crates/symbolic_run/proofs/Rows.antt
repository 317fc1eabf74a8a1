-- A row of the effect table on a hart agrees with the same row by stand-ins, and then its writes are as the abstract ones say.
use Rattle.std.proofs.Common.{◌≡◌, ℕ, ◌==◌, if◌then◌else◌, Bool, true, false, List, [], ◌∷◌, ◌++◌, Option, Some, None, refl, sym, subst}
use Rattle.isa_model.specs.declared.latch.Latch.TheVariants as latches
use Rattle.isa_model.specs.Effect.{Write, Flow, to_reg}
use Rattle.hart_model.specs.declared.place.Place.{Place}
use Rattle.hart_model.specs.declared.tag.Cell.{Cell}
use Rattle.hart_model.specs.declared.tag.Tag.{Tag}
use Rattle.hart_model.specs.Cells.{Bases, place_of}
use Rattle.hart_model.specs.Writes.{cell_writes, placed}
use Rattle.symbolic_run.specs.AbstractCell.{AbstractCell}
use Rattle.symbolic_run.specs.AbstractEffect.{AbstractOperands, AbstractWrite, stand_in_bases, cell_of_flow, with_write, abstract_writes}
use Rattle.symbolic_run.specs.Concretization.{Valuation, Denotes}
use Rattle.symbolic_run.specs.Writes.{WritesDenote}

-- the parts of an abstract write that there is
record IsWrite (place : Option Place) (cell : Option AbstractCell) (rest : Option (List AbstractWrite)) (all : List AbstractWrite) : Type 0 where
  at : Place
  known : AbstractCell
  more : List AbstractWrite
  is_place : place ≡ Some at
  is_cell : cell ≡ Some known
  is_rest : rest ≡ Some more
  is_all : all ≡ record { at = at; cell = known } ∷ more

write-parts : (place : Option Place) (cell : Option AbstractCell) (rest : Option (List AbstractWrite)) (all : List AbstractWrite) →
    with_write place cell rest ≡ Some all → IsWrite place cell rest all
write-parts (Some place) (Some cell) (Some rest) all e =
    record { at = place; known = cell; more = rest; is_place = refl; is_cell = refl; is_rest = refl; is_all = sym (cc e) }
write-parts None cell rest all e = absurd (cc e)
write-parts (Some place) None rest all e = absurd (cc e)
write-parts (Some place) (Some cell) None all e = absurd (cc e)

module _ (s : Valuation) where
  -- A write of a row and the same of the row by stand-ins go to one place, and what is known of the second is so of the first.
  pub record Agrees (ao : AbstractOperands) (bases : Bases) (tag : Write → Tag) (w v : Write) : Type 0 where
    pub place : place_of bases w.to ≡ place_of stand_in_bases v.to
    pub cell : (x : AbstractCell) → cell_of_flow ao v.flow v.value ≡ Some x → Denotes s x (record { value = w.value; tag = tag w })

  -- rows agree write by write
  abbrev pub AllAgree : AbstractOperands → Bases → (Write → Tag) → List Write → List Write → Type 0
  AllAgree ao bases tag [] [] = Unit {0}
  AllAgree ao bases tag [] (v ∷ vs) = ⊥
  AllAgree ao bases tag (w ∷ ws) [] = ⊥
  AllAgree ao bases tag (w ∷ ws) (v ∷ vs) = Agrees ao bases tag w v × AllAgree ao bases tag ws vs

  -- a write that is made where a test fails, as that of a register which isn't x0
  pub if-agree : (ao : AbstractOperands) (bases : Bases) (tag : Write → Tag) (w v : Write) (b : Bool) → Agrees ao bases tag w v →
      AllAgree ao bases tag (if b then [] else w ∷ []) (if b then [] else v ∷ [])
  if-agree ao bases tag w v true g = tt
  if-agree ao bases tag w v false g = (g, tt)

  pub reg-agree : (ao : AbstractOperands) (bases : Bases) (tag : Write → Tag) (rd x y : ℕ) (flow : Flow) →
      ((z : AbstractCell) → cell_of_flow ao flow y ≡ Some z
      → Denotes s z (record { value = x; tag = tag (record { to = latches.Reg rd; value = x; flow = flow }) })) →
      AllAgree ao bases tag (to_reg rd x flow) (to_reg rd y flow)
  reg-agree ao bases tag rd x y flow g =
      if-agree ao bases tag (record { to = latches.Reg rd; value = x; flow = flow }) (record { to = latches.Reg rd; value = y; flow = flow })
      (rd == 0)
      (record { place = refl; cell = g })

  -- a write that is made where a test holds
  pub then-agree : (ao : AbstractOperands) (bases : Bases) (tag : Write → Tag) (w v : Write) (b : Bool) → Agrees ao bases tag w v →
      AllAgree ao bases tag (if b then w ∷ [] else []) (if b then v ∷ [] else [])
  then-agree ao bases tag w v true g = (g, tt)
  then-agree ao bases tag w v false g = tt

  -- rows one after the other
  pub append-agree : (ao : AbstractOperands) (bases : Bases) (tag : Write → Tag) (ws vs us ts : List Write) → AllAgree ao bases tag ws vs →
      AllAgree ao bases tag us ts →
      AllAgree ao bases tag (ws ++ us) (vs ++ ts)
  append-agree ao bases tag [] [] us ts g k = k
  append-agree ao bases tag [] (v ∷ vs) us ts g k = absurd g
  append-agree ao bases tag (w ∷ ws) [] us ts g k = absurd g
  append-agree ao bases tag (w ∷ ws) (v ∷ vs) us ts g k = (g.0, append-agree ao bases tag ws vs us ts g.1 k)

  -- of rows that agree, the abstract writes speak of the writes
  pub rows-denote : (ao : AbstractOperands) (bases : Bases) (tag : Write → Tag) (ws vs : List Write) (all : List AbstractWrite) → AllAgree ao bases tag ws vs →
      abstract_writes ao vs ≡ Some all → WritesDenote s all (cell_writes bases tag ws)
  rows-denote ao bases tag [] [] all g e =
      let same : [] ≡ all = cc e in
      let P : List AbstractWrite → Type 0 = λ x. WritesDenote s x [] in
      subst P same tt
  rows-denote ao bases tag [] (v ∷ vs) all g e = absurd g
  rows-denote ao bases tag (w ∷ ws) [] all g e = absurd g
  rows-denote ao bases tag (w ∷ ws) (v ∷ vs) all g e =
      let p = write-parts (place_of stand_in_bases v.to) (cell_of_flow ao v.flow v.value) (abstract_writes ao vs) all e in
      let more = rows-denote ao bases tag ws vs p.more g.1 p.is_rest in
      let c : Cell = record { value = w.value; tag = tag w } in
      let there : place_of bases w.to ≡ Some p.at = cc (g.0.place, p.is_place) in
      let P : Option Place → Type 0 = λ o. WritesDenote s (record { at = p.at; cell = p.known } ∷ p.more) (placed o c (cell_writes bases tag ws)) in
      let Q : List AbstractWrite → Type 0 = λ x. WritesDenote s x (placed (place_of bases w.to) c (cell_writes bases tag ws)) in
      subst Q (sym p.is_all) (subst P (sym there) (refl, g.0.cell p.known p.is_cell, more))
