-- A store to each of the ports of a path does what the path says.
use Rattle.std.proofs.Common.{◌≡◌, ℕ, ◌≤◌, Bool, true, false, ◌&&◌, not, if◌then◌else◌, ℤ, List, [], ◌∷◌, length, get_or, Option, Some, None, is_none, nat_lt, refl, sym, ap, subst, ◌∙◌}
use Rattle.std.proofs.lemmas.Bool.{cond-true, and_from, and_parts, not-true}
use Rattle.isa_model.specs.declared.instr.Instr.TheVariants.{Store}
use Rattle.isa_model.specs.declared.instr.StoreKind.TheVariants as stores
use Rattle.isa_model.specs.declared.ends.End.{End}
use Rattle.isa_model.specs.declared.ends.End.TheVariants.{Exited}
use Rattle.isa_model.specs.Effect.{address}
use Rattle.hart_model.specs.declared.place.Place.TheVariants as places
use Rattle.hart_model.specs.declared.port.Port.{Port}
use Rattle.hart_model.specs.declared.port.Port.TheVariants.{Take, Give, Out, Tape, TapeLeft, Exit, Fault, Ack, OutLeft}
use Rattle.hart_model.specs.declared.tag.Cell.{Cell}
use Rattle.hart_model.specs.declared.tag.Tag.{Tag}
use Rattle.hart_model.specs.declared.tag.Tag.TheVariants.{Public}
use Rattle.hart_model.specs.Cells.{blank}
use Rattle.hart_model.specs.Context.{ContextState, pc_word}
use Rattle.hart_model.specs.Taint.{is_public}
use Rattle.hart_model.specs.Ports.{Outputs, Ends, ClearsTimer, PortAnswer, Passes, Refuses, port_at, port_store, fault_answer}
use Rattle.hart_model.specs.Ports as ports
use Rattle.hart_model.specs.HartState.{HartState, held_words, hart_cell}
use Rattle.hart_model.specs.MachineStep.{held_after_side}
use Rattle.symbolic_run.specs.AbstractCell.{AnyTagged, is_tagged}
use Rattle.symbolic_run.specs.AbstractEffect.{AbstractWrite, reg_cell}
use Rattle.symbolic_run.specs.Concretization.{Valuation, IsSound, Denotes, number_of}
use Rattle.symbolic_run.specs.SymbolicPath.{PathState, PathStep, AreSo, HasRoom, store_writes, end_step, end_of_code, port_store_step, port_from, IsAsPathSays, TakesStep, goes_on}
use Rattle.symbolic_run.proofs.OneWrite.{cell-denoted, denoted-public, all-get}
use Rattle.symbolic_run.proofs.KnownNumbers.{number-is}
use Rattle.symbolic_run.proofs.PortsReached.{from-x0}
use Rattle.symbolic_run.proofs.PortStoresPass.{stored_step, store-passes}
use Rattle.symbolic_run.proofs.EndCodes.{end-known}

-- the parts of a step that ends a task
record IsEnding (p : PathState) (writes : List AbstractWrite) (may_end : Bool) (found : Option End) (step : PathStep) : Type 0 where
  end : End
  may : may_end ≡ true
  is_end : found ≡ Some end
  is_step : record (goes_on p writes) { held = held_after_side (Ends end) p.held; conditions = [] } ≡ step

ending : (p : PathState) (writes : List AbstractWrite) (may_end : Bool) (found : Option End) (step : PathStep) → end_step p writes may_end found ≡ Some step
    → IsEnding p writes may_end found step
ending p writes true (Some end) step e = record { end = end; may = refl; is_end = refl; is_step = cc e }
ending p writes true None step e = absurd (cc e)
ending p writes false found step e = absurd (cc e)

-- the tests of a public cell, and of one that isn't known as tagged
public-is : (t : Tag) → t ≡ Public → is_public t ≡ true
public-is t e = ap is_public e

unless-parts : (b : Bool) (x y : PathStep) → (if b then None else Some x) ≡ Some y → (b ≡ false) × (x ≡ y)
unless-parts true x y e = absurd (cc e)
unless-parts false x y e = (refl, cc e)

module _ (s : Valuation) (number base : ℕ) (p : PathState) (h : HartState) (ok : IsSound s)
    (high : base ≤ 8192) (few : p.index ≤ 1000) (says : IsAsPathSays s number base p h) where
  -- the context that is held, and what is known of its words and of a stored register
  abbrev context : ContextState
  context = record p.held { words = held_words h.held }

  word-is : (i n : ℕ) → number_of s (get_or p.cells.slot i AnyTagged) ≡ Some n → (get_or (held_words h.held) i blank).value ≡ n
  word-is i n e = number-is s (get_or p.cells.slot i AnyTagged) (get_or (held_words h.held) i blank) n e
      (all-get s p.cells.slot (held_words h.held) i says.cells.slot)

  stored : (rs2 : ℕ) → Denotes s (reg_cell p.cells rs2) (hart_cell h (places.Reg rs2))
  stored rs2 = cell-denoted s p.cells h (places.Reg rs2) tt says.cells

  stored-public : (rs2 : ℕ) → is_tagged (reg_cell p.cells rs2) ≡ false → is_public (hart_cell h (places.Reg rs2)).tag ≡ true
  stored-public rs2 e = public-is _ (denoted-public s (reg_cell p.cells rs2) (hart_cell h (places.Reg rs2)) e (stored rs2))

  abbrev Taken : ℕ → ℤ → PathStep → Type 0
  Taken rs2 imm step = TakesStep s number base p step h (Store stores.W rs2 0 imm)

  -- a word of output
  out-taken : (rs2 : ℕ) (imm : ℤ) (value : ℕ) (step : PathStep) → port_at (address 0 imm) ≡ Some Out → number_of s (reg_cell p.cells rs2) ≡ Some value
      → stored_step p rs2 (address 0 imm) (held_after_side (Outputs value) p.held) (HasRoom p.held ∷ []) ≡ step → AreSo step.conditions → Taken rs2 imm step
  out-taken rs2 imm value step found known same so =
      let cell : Cell = hart_cell h (places.Reg rs2) in
      let P : PathStep → Type 0 = λ x. AreSo x.conditions → Taken rs2 imm x in
      let is : cell.value ≡ value = number-is s (reg_cell p.cells rs2) cell value known (stored rs2) in
      let holds = ap (λ held. port_store Out cell held) says.held in
      subst P same (λ room.
      let passes = cond-true (nat_lt (length p.held.body.output) p.held.body.out_max) (Passes cell (Outputs cell.value)) Refuses room.0 in
      let valued = ap (λ (v : ℕ). Passes cell (Outputs v)) is in
      store-passes s number base p h ok high few says rs2 imm Out (Outputs value) (held_after_side (Outputs value) p.held)
      (HasRoom p.held ∷ []) found (holds ∙ passes ∙ valued) refl)
      so

  -- an end by exit
  exit-taken : (rs2 : ℕ) (imm : ℤ) (value : ℕ) (step : PathStep) → port_at (address 0 imm) ≡ Some Exit → number_of s (reg_cell p.cells rs2) ≡ Some value
      → end_step p (store_writes p.cells rs2 0 (address 0 imm)) (is_none p.held.end) (Some (Exited value)) ≡ Some step → Taken rs2 imm step
  exit-taken rs2 imm value step found known e =
      let cell : Cell = hart_cell h (places.Reg rs2) in
      let w = ending p (store_writes p.cells rs2 0 (address 0 imm)) (is_none p.held.end) (Some (Exited value)) step e in
      let P : PathStep → Type 0 = λ x. Taken rs2 imm x in
      let is : cell.value ≡ value = number-is s (reg_cell p.cells rs2) cell value known (stored rs2) in
      let holds = ap (λ held. port_store Exit cell held) says.held in
      let passes = cond-true (is_none p.held.end) (Passes cell (Ends (Exited cell.value))) Refuses w.may in
      let valued = ap (λ (v : ℕ). Passes cell (Ends (Exited v))) is in
      let ends : Exited value ≡ w.end = cc (w.is_end) in
      let ended = ap (λ (end : End). Passes cell (Ends end)) ends in
      subst P w.is_step (store-passes s number base p h ok high few says rs2 imm Exit (Ends w.end) (held_after_side (Ends w.end) p.held)
      [] found (holds ∙ passes ∙ valued ∙ ended) refl)

  -- an end by a code
  fault-taken : (rs2 : ℕ) (imm : ℤ) (value : ℕ) (step : PathStep) → port_at (address 0 imm) ≡ Some Fault → number_of s (reg_cell p.cells rs2) ≡ Some value
      → end_step p (store_writes p.cells rs2 0 (address 0 imm)) (is_none p.held.end && not (is_tagged (reg_cell p.cells rs2)))
      (end_of_code (number_of s (get_or p.cells.slot pc_word AnyTagged)) (number_of s (get_or p.cells.slot 17 AnyTagged)) value)
      ≡ Some step → Taken rs2 imm step
  fault-taken rs2 imm value step found known e =
      let cell : Cell = hart_cell h (places.Reg rs2) in
      let may : Bool = is_none p.held.end && not (is_tagged (reg_cell p.cells rs2)) in
      let code : Option End = end_of_code (number_of s (get_or p.cells.slot pc_word AnyTagged)) (number_of s (get_or p.cells.slot 17 AnyTagged)) value in
      let w = ending p (store_writes p.cells rs2 0 (address 0 imm)) may code step e in
      let P : PathStep → Type 0 = λ x. Taken rs2 imm x in
      let tests = and_parts (is_none p.held.end) (not (is_tagged (reg_cell p.cells rs2))) w.may in
      let public = stored-public rs2 (not-true _ tests.1) in
      let is : cell.value ≡ value = number-is s (reg_cell p.cells rs2) cell value known (stored rs2) in
      let holds = ap (λ held. port_store Fault cell held) says.held in
      let passes = cond-true (is_public cell.tag && is_none p.held.end) (fault_answer cell (ports.end_of_code context cell.value))
      Refuses (and_from _ _ public tests.0) in
      let valued = ap (λ (v : ℕ). fault_answer cell (ports.end_of_code context v)) is in
      let ended = ap (λ (end : Option End). fault_answer cell end)
      (end-known context (number_of s (get_or p.cells.slot pc_word AnyTagged)) (number_of s (get_or p.cells.slot 17 AnyTagged))
      value w.end (word-is pc_word) (word-is 17) w.is_end) in
      subst P w.is_step (store-passes s number base p h ok high few says rs2 imm Fault (Ends w.end) (held_after_side (Ends w.end) p.held)
      [] found (holds ∙ passes ∙ valued ∙ ended) refl)

  -- the acknowledgement of a timer
  ack-taken : (rs2 : ℕ) (imm : ℤ) (step : PathStep) → port_at (address 0 imm) ≡ Some Ack
      → (if is_tagged (reg_cell p.cells rs2) then None else Some (goes_on p (store_writes p.cells rs2 0 (address 0 imm)))) ≡ Some step → Taken rs2 imm step
  ack-taken rs2 imm step found e =
      let cell : Cell = hart_cell h (places.Reg rs2) in
      let w = unless-parts (is_tagged (reg_cell p.cells rs2)) (goes_on p (store_writes p.cells rs2 0 (address 0 imm))) step e in
      let P : PathStep → Type 0 = λ x. Taken rs2 imm x in
      let passes = cond-true (is_public cell.tag) (Passes cell ClearsTimer) Refuses (stored-public rs2 w.0) in
      subst P w.1 (store-passes s number base p h ok high few says rs2 imm Ack ClearsTimer p.held [] found passes refl)

  by-port : (rs2 : ℕ) (imm : ℤ) (port : Port) (known : Option ℕ) (step : PathStep) → port_at (address 0 imm) ≡ Some port
      → number_of s (reg_cell p.cells rs2) ≡ known
      → port_store_step s p (store_writes p.cells rs2 0 (address 0 imm)) (reg_cell p.cells rs2) known (Some port) ≡ Some step → AreSo step.conditions
      → Taken rs2 imm step
  by-port rs2 imm Out (Some value) step found is e so = out-taken rs2 imm value step found is (cc e) so
  by-port rs2 imm Exit (Some value) step found is e so = exit-taken rs2 imm value step found is e
  by-port rs2 imm Fault (Some value) step found is e so = fault-taken rs2 imm value step found is e
  by-port rs2 imm Ack (Some value) step found is e so = ack-taken rs2 imm step found e
  by-port rs2 imm Take (Some value) step found is e so = absurd (cc e)
  by-port rs2 imm Give (Some value) step found is e so = absurd (cc e)
  by-port rs2 imm Tape (Some value) step found is e so = absurd (cc e)
  by-port rs2 imm TapeLeft (Some value) step found is e so = absurd (cc e)
  by-port rs2 imm OutLeft (Some value) step found is e so = absurd (cc e)
  by-port rs2 imm port None step found is e so = absurd (cc e)

  pub port-store-taken : (rs2 rs1 : ℕ) (imm : ℤ) (port : Port) (step : PathStep) → port_from rs1 imm ≡ Some port
      → port_store_step s p (store_writes p.cells rs2 rs1 (address 0 imm)) (reg_cell p.cells rs2) (number_of s (reg_cell p.cells rs2)) (Some port) ≡ Some step
      → AreSo step.conditions → TakesStep s number base p step h (Store stores.W rs2 rs1 imm)
  port-store-taken rs2 rs1 imm port step there =
      let from = from-x0 rs1 imm port there in
      let P : ℕ → Type 0 =
      λ r. port_store_step s p (store_writes p.cells rs2 r (address 0 imm)) (reg_cell p.cells rs2) (number_of s (reg_cell p.cells rs2)) (Some port) ≡ Some step
      → AreSo step.conditions → TakesStep s number base p step h (Store stores.W rs2 r imm) in
      subst P (sym from.0) (by-port rs2 imm port (number_of s (reg_cell p.cells rs2)) step from.1 refl)
