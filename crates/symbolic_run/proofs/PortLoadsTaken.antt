-- A load from a port gives what the path says.
use Rattle.std.proofs.Common.{◌≡◌, ℕ, ◌-◌, ◌%◌, ◌<◌, ◌≤◌, Bool, true, false, ◌==◌, if◌then◌else◌, ℤ, List, [], ◌∷◌, ◌++◌, length, slice_get, Some, refl, sym, ap, subst, ◌∙◌, eq-eqb, arith}
use Rattle.std.proofs.lemmas.Bool.{cond-true}
use Rattle.isa_model.specs.declared.instr.Instr.{Instr}
use Rattle.isa_model.specs.declared.instr.Instr.TheVariants.{Load}
use Rattle.isa_model.specs.declared.instr.LoadKind.TheVariants as loads
use Rattle.isa_model.specs.declared.latch.Latch.TheVariants as latches
use Rattle.isa_model.specs.Effect.{Effect, Write, Moved, Mixed, Rs1, Word, Raises, to, port_a, load_word, does, address}
use Rattle.hart_model.specs.declared.place.Place.TheVariants as places
use Rattle.hart_model.specs.declared.port.Port.{Port}
use Rattle.hart_model.specs.declared.port.Port.TheVariants.{Take, Give, Out, Tape, TapeLeft, Exit, Fault, Ack, OutLeft}
use Rattle.hart_model.specs.declared.tag.Cell.{Cell}
use Rattle.hart_model.specs.declared.tag.Tag.{Tag}
use Rattle.hart_model.specs.declared.tag.Tag.TheVariants.{Of}
use Rattle.hart_model.specs.Cells.{blank}
use Rattle.hart_model.specs.Csrs.{public}
use Rattle.hart_model.specs.Context.{ContextState}
use Rattle.hart_model.specs.Taint.{machine_tag}
use Rattle.hart_model.specs.Ports.{SideEffect, Nothing, AdvancesTape, Passes, port_at, port_load, tape_answer}
use Rattle.hart_model.specs.HartState.{HartState, held_words}
use Rattle.hart_model.specs.Writes.{CellWrite, cell_writes, after_writes}
use Rattle.hart_model.specs.MachineStep.{OperandCells, operand_cells, operand_values, operand_tag, machine_bases, target_of, load_reach, load_by_port, by_reach, held_after_side, after_machine_effect, after_machine_writes}
use Rattle.symbolic_run.specs.AbstractCell.{AbstractCell, AbstractState, PublicNumber, GivenCell}
use Rattle.symbolic_run.specs.AbstractEffect.{AbstractWrite}
use Rattle.symbolic_run.specs.Concretization.{Valuation, IsSound, Denotes}
use Rattle.symbolic_run.specs.Writes.{WritesDenote}
use Rattle.symbolic_run.specs.SymbolicPath.{PathState, PathStep, PathCondition, AreSo, GivesWord, load_writes, port_load_step, port_from, IsAsPathSays, TakesStep, goes_on, port_a_write}
use Rattle.symbolic_run.proofs.Plain.{next-address}
use Rattle.hart_model.proofs.WedgesExactly.{port_is_aligned}
use Rattle.symbolic_run.proofs.PortsReached.{port-target, from-x0}

-- the writes of a load from x0 on, and those that the path has
abbrev load_cells : HartState → Cell → ℕ → ℤ → Bool → List CellWrite
load_cells h cell rd imm is_x0 =
    let o : OperandCells = operand_cells h (Load loads.W rd 0 imm) (Some cell) blank in
    cell_writes (machine_bases h.held) (λ w. machine_tag (operand_tag o) w.flow)
    (to latches.PortA 0 (Moved Rs1) ++ to latches.Res (address 0 imm) (Mixed (Rs1 ∷ []))
    ++ to latches.Load cell.value (Moved Word) ++ (if is_x0 then [] else to (latches.Reg rd) cell.value (Moved Word)))

abbrev load_says : AbstractState → AbstractCell → ℕ → ℕ → Bool → List AbstractWrite
load_says a cell rd at is_x0 =
    port_a_write a 0 ∷ record { at = places.Res; cell = PublicNumber at } ∷ record { at = places.Load; cell = cell }
    ∷ (if is_x0 then [] else record { at = places.Reg rd; cell = cell } ∷ [])

load-denotes : (s : Valuation) (a : AbstractState) (h : HartState) (known : AbstractCell) (cell : Cell) (rd : ℕ) (imm : ℤ) (is_x0 : Bool) → Denotes s known cell
    → WritesDenote s (load_says a known rd (address 0 imm) is_x0) (load_cells h cell rd imm is_x0)
load-denotes s a h known cell rd imm true d = (refl, refl, (refl, refl, (refl, d, tt)))
load-denotes s a h known cell rd imm false d = (refl, refl, (refl, refl, (refl, d, (refl, d, tt))))

module _ (s : Valuation) (number base : ℕ) (p : PathState) (h : HartState) (ok : IsSound s)
    (high : base ≤ 8192) (few : p.index ≤ 1000) (says : IsAsPathSays s number base p h) where
  -- the context that is held
  context : ContextState
  context = record p.held { words = held_words h.held }

  -- a load from a port that lets a cell pass
  load-passes : (rd : ℕ) (imm : ℤ) (port : Port) (known : AbstractCell) (cell : Cell) (side : SideEffect) (held : ContextState) (conditions : List PathCondition)
      → port_at (address 0 imm) ≡ Some port → port_load port h.held ≡ Passes cell side → Denotes s known cell → held_after_side side p.held ≡ held
      → TakesStep s number base p (record (goes_on p (load_writes p.cells rd 0 (address 0 imm) known)) { held = held; conditions = conditions }) h (Load loads.W rd 0 imm)
  unfolding context
  load-passes rd imm port known cell side held conditions found answer d holds =
      let instr : Instr = Load loads.W rd 0 imm in
      let at : ℕ = address 0 imm in
      let o : OperandCells = operand_cells h instr (Some cell) blank in
      let early_writes : List Write = port_a (operand_values o) ++ to latches.Res at (Mixed (Rs1 ∷ [])) in
      let slot = ok.slot in
      let same = says.slot in
      let below : p.held.slot < 8 = omega (arith, slot, same) in
      let there = ap (λ held. target_of held at) says.held ∙ port-target context at port below found in
      let reaches = ap (λ target. by_reach h instr (load_reach h loads.W target)) there in
      let finds = ap (λ given. by_reach h instr (load_by_port given)) answer in
      let even = eq-eqb _ _ (port_is_aligned at port found) in
      let goes = ap (λ (e : Effect). after_machine_effect h o side e)
      (cond-true (at % 4 == 0) (load_word loads.W rd h.pc at early_writes (Some cell.value)) (does early_writes (Raises 4)) even) in
      let lands = ap (λ (pc : ℕ). after_machine_writes side pc (after_writes (load_cells h cell rd imm (rd == 0)) h))
      (next-address base p.index h.pc high few says.pc) in
      record {
        writes = load_cells h cell rd imm (rd == 0);
        denote = load-denotes s p.cells h known cell rd imm (rd == 0) d;
        csrs = h.csrs;
        csrs_are = says.csrs;
        csrs_sound = says.csrs_sound;
        side = side;
        held = holds;
        step_is = reaches ∙ finds ∙ goes ∙ lands;
      }

  -- the word of the tape
  tape-passes : slice_get p.held.body.tape p.held.body.tape_at ≡ Some s.given_cell.value
      → s.given_cell.tag ≡ Of p.held.body.task_no p.held.body.count (latches.Reg 10)
      → port_load Tape h.held ≡ Passes s.given_cell AdvancesTape
  unfolding context
  tape-passes word tag =
      let holds = ap (λ held. port_load Tape held) says.held in
      let gives = ap (λ given. tape_answer context given) word in
      let tagged = ap (λ (t : Tag). Passes (record { value = s.given_cell.value; tag = t }) AdvancesTape) (sym tag) in
      holds ∙ gives ∙ tagged

  -- what a port gives
  by-port : (rd : ℕ) (imm : ℤ) (port : Port) (step : PathStep) → port_at (address 0 imm) ≡ Some port
      → port_load_step p rd 0 (address 0 imm) s.given_cell (Some port) ≡ Some step → AreSo step.conditions → TakesStep s number base p step h (Load loads.W rd 0 imm)
  unfolding context
  by-port rd imm Tape step found e so =
      let done : PathStep = record (goes_on p (load_writes p.cells rd 0 (address 0 imm) GivenCell))
      { held = held_after_side AdvancesTape p.held; conditions = GivesWord p.held s.given_cell ∷ [] } in
      let same : done ≡ step = cc e in
      let P : PathStep → Type 0 = λ x. AreSo x.conditions → TakesStep s number base p x h (Load loads.W rd 0 imm) in
      subst P same (λ is. load-passes rd imm Tape GivenCell s.given_cell AdvancesTape (held_after_side AdvancesTape p.held)
      (GivesWord p.held s.given_cell ∷ []) found (tape-passes is.0.0 is.0.1) refl refl) so
  by-port rd imm TapeLeft step found e so =
      let left : ℕ = length p.held.body.tape - p.held.body.tape_at in
      let done : PathStep = goes_on p (load_writes p.cells rd 0 (address 0 imm) (PublicNumber left)) in
      let same : done ≡ step = cc e in
      let P : PathStep → Type 0 = λ x. TakesStep s number base p x h (Load loads.W rd 0 imm) in
      subst P same (load-passes rd imm TapeLeft (PublicNumber left) (public left) Nothing p.held [] found
      (ap (λ held. port_load TapeLeft held) says.held) refl refl)
  by-port rd imm OutLeft step found e so =
      let left : ℕ = p.held.body.out_max - length p.held.body.output in
      let done : PathStep = goes_on p (load_writes p.cells rd 0 (address 0 imm) (PublicNumber left)) in
      let same : done ≡ step = cc e in
      let P : PathStep → Type 0 = λ x. TakesStep s number base p x h (Load loads.W rd 0 imm) in
      subst P same (load-passes rd imm OutLeft (PublicNumber left) (public left) Nothing p.held [] found
      (ap (λ held. port_load OutLeft held) says.held) refl refl)
  by-port rd imm Take step found e so = absurd (cc e)
  by-port rd imm Give step found e so = absurd (cc e)
  by-port rd imm Out step found e so = absurd (cc e)
  by-port rd imm Exit step found e so = absurd (cc e)
  by-port rd imm Fault step found e so = absurd (cc e)
  by-port rd imm Ack step found e so = absurd (cc e)

  pub port-load-taken : (rd rs1 : ℕ) (imm : ℤ) (port : Port) (step : PathStep) → port_from rs1 imm ≡ Some port
      → port_load_step p rd rs1 (address 0 imm) s.given_cell (Some port) ≡ Some step → AreSo step.conditions
      → TakesStep s number base p step h (Load loads.W rd rs1 imm)
  port-load-taken rd rs1 imm port step there =
      let from = from-x0 rs1 imm port there in
      let P : ℕ → Type 0 = λ r. port_load_step p rd r (address 0 imm) s.given_cell (Some port) ≡ Some step
      → AreSo step.conditions → TakesStep s number base p step h (Load loads.W rd r imm) in
      subst P (sym from.0) (by-port rd imm port step from.1)
