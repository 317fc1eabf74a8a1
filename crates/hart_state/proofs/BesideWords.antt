-- What holds of what is held, whatever cells its words have, still holds after writes.
use Rattle.std.proofs.Common.{ℕ, List, [], ◌∷◌, Option, Some, None}
use Rattle.hart_model.specs.declared.place.Place.{Place}
use Rattle.hart_model.specs.declared.place.Place.TheVariants.{Reg, PortA, PortB, Res, Load, Store, Scr, Mul, Zero, SlotWord, DataWord}
use Rattle.hart_model.specs.declared.tag.Cell.{Cell}
use Rattle.hart_model.specs.Context.{ContextState}
use Rattle.hart_model.specs.HartState.{HartState, held_with_word, held_with_data, hart_with_cell}
use Rattle.isa_model.specs.Effect.{Write}
use Rattle.hart_model.specs.Writes.{CellWrite, after_writes}
use Rattle.hart_state.specs.declared.ports.Side.{Side}
use Rattle.hart_state.specs.declared.ports.Side.TheVariants.{Nothing, Outputs, AdvancesTape, Ends, ClearsTimer}
use Rattle.hart_state.specs.declared.writer.Writer.{Writer}
use Rattle.hart_state.specs.WriterView.{writes_by, after_writes_by}
use Rattle.hart_state.specs.UserDeed.{CanCount}
use Rattle.hart_state.specs.PortView.{IsPossible}

module _ (P : Option ContextState → Type 0)
    (word : (i : ℕ) (cell : Cell) (held : Option ContextState) → P held → P (held_with_word i cell held))
    (datum : (i : ℕ) (cell : Cell) (held : Option ContextState) → P held → P (held_with_data i cell held)) where
  after-one : (h : HartState) (place : Place) (cell : Cell) → P h.held → P (hart_with_cell h place cell).held
  after-one h (Reg r) cell p = p
  after-one h PortA cell p = p
  after-one h PortB cell p = p
  after-one h Res cell p = p
  after-one h Load cell p = p
  after-one h Store cell p = p
  after-one h Scr cell p = p
  after-one h Mul cell p = p
  after-one h Zero cell p = p
  after-one h (SlotWord i) cell p = word i cell h.held p
  after-one h (DataWord i) cell p = datum i cell h.held p

  pub after-all : (ws : List CellWrite) (h : HartState) → P h.held → P (after_writes ws h).hart.held
  after-all [] h p = p
  after-all (w ∷ ws) h p = after-all ws (hart_with_cell h w.at w.cell) (after-one h w.at w.cell p)

-- there still is room in the count
count-word : (i : ℕ) (cell : Cell) (held : Option ContextState) → CanCount held → CanCount (held_with_word i cell held)
count-word i cell None p = p
count-word i cell (Some c) p = p

count-data : (i : ℕ) (cell : Cell) (held : Option ContextState) → CanCount held → CanCount (held_with_data i cell held)
count-data i cell None p = p
count-data i cell (Some c) p = p

pub count-stays : (who : Writer) (ws : List Write) (h : HartState) → CanCount h.held → CanCount (after_writes_by who ws h).hart.held
count-stays who ws h p = after-all CanCount count-word count-data (writes_by who h.held ws) h p

-- a side effect still is possible
possible-word : (side : Side) (i : ℕ) (cell : Cell) (held : Option ContextState) → IsPossible held side → IsPossible (held_with_word i cell held) side
possible-word side i cell None p = p
possible-word Nothing i cell (Some c) p = p
possible-word (Outputs word) i cell (Some c) p = p
possible-word AdvancesTape i cell (Some c) p = p
possible-word (Ends end) i cell (Some c) p = p
possible-word ClearsTimer i cell (Some c) p = p

possible-data : (side : Side) (i : ℕ) (cell : Cell) (held : Option ContextState) → IsPossible held side → IsPossible (held_with_data i cell held) side
possible-data side i cell None p = p
possible-data Nothing i cell (Some c) p = p
possible-data (Outputs word) i cell (Some c) p = p
possible-data AdvancesTape i cell (Some c) p = p
possible-data (Ends end) i cell (Some c) p = p
possible-data ClearsTimer i cell (Some c) p = p

pub possible-stays : (side : Side) (who : Writer) (ws : List Write) (h : HartState) → IsPossible h.held side → IsPossible (after_writes_by who ws h).hart.held side
possible-stays side who ws h p =
    after-all (λ held. IsPossible held side) (possible-word side) (possible-data side) (writes_by who h.held ws) h p
