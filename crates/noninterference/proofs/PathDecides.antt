-- What an instruction of a path decides by values, by what the path says of a hart.
use Rattle.std.proofs.Common.{◌≡◌, ℕ, ◌<◌, Bool, true, false, ◌&&◌, not, ℤ, List, [], ◌∷◌, get_or, is_none, Option, Some, None, refl, sym, ap, subst, ◌∙◌}
use Rattle.std.proofs.lemmas.Bool.{and_parts, not-true}
use Rattle.isa_model.specs.declared.instr.Instr.{Instr}
use Rattle.isa_model.specs.declared.instr.Instr.TheVariants.{Load, Store}
use Rattle.isa_model.specs.declared.instr.Cmp.{Cmp}
use Rattle.isa_model.specs.declared.instr.LoadKind.TheVariants as loads
use Rattle.isa_model.specs.declared.instr.StoreKind.TheVariants as stores
use Rattle.isa_model.specs.declared.latch.Latch.TheVariants.{Mem}
use Rattle.isa_model.specs.declared.ends.End.TheVariants.{BadCall}
use Rattle.isa_model.specs.Bits.{word_address}
use Rattle.isa_model.specs.Arithmetic.{is_taken}
use Rattle.isa_model.specs.Effect.{address}
use Rattle.hart_model.specs.declared.place.Place.{Place}
use Rattle.hart_model.specs.declared.place.Place.TheVariants as places
use Rattle.hart_model.specs.declared.port.Port.{Port}
use Rattle.hart_model.specs.declared.port.Port.TheVariants.{Fault}
use Rattle.hart_model.specs.declared.tag.Cell.{Cell}
use Rattle.hart_model.specs.declared.tag.Tag.TheVariants.{Public}
use Rattle.hart_model.specs.Cells.{blank, place_of}
use Rattle.hart_model.specs.Context.{ContextState, pc_word}
use Rattle.hart_model.specs.Ports.{port_at}
use Rattle.hart_model.specs.MachineStep.{machine_bases}
use Rattle.hart_model.specs.HartState.{HartState, held_words, hart_cell}
use Rattle.symbolic_run.specs.AbstractCell.{AbstractCell, Zero, SlotAddress, PublicAny, PublicNumber, TaskReg, OldSlotWord, GivenCell, AnyTagged, is_tagged}
use Rattle.symbolic_run.specs.AbstractEffect.{AbstractWrite, stand_in, reached_from, place_from, word_at_place, by_word, reg_cell, abstract_effect}
use Rattle.symbolic_run.specs.Concretization.{Valuation, IsSound, Denotes, number_of}
use Rattle.symbolic_run.specs.SymbolicPath.{PathState, PathStep, AreSo, IsTaken, goes_on, port_a_write, port_b_write, plain_step, branch_step, load_step, store_step, store_writes, port_store_step, port_from, end_step, end_of_code, end_with, IsAsPathSays}
use Rattle.symbolic_run.proofs.OneWrite.{cell-denoted, denoted-public, all-get}
use Rattle.symbolic_run.proofs.KnownNumbers.{number-is}
use Rattle.symbolic_run.proofs.PortsReached.{from-x0, port-place}
use Rattle.symbolic_run.proofs.Reached.{reached}

-- a register from which a word of a place is reached is public
reached-public : (may_reach : ℕ → Bool) (s : Valuation) (x : AbstractCell) (cell : Cell) (o : Option Place) (place : Place)
    → reached_from may_reach x o ≡ Some place → Denotes s x cell → cell.tag ≡ Public
reached-public may_reach s Zero cell o place e d = denoted-public s Zero cell refl d
reached-public may_reach s SlotAddress cell o place e d = denoted-public s SlotAddress cell refl d
reached-public may_reach s (PublicNumber value) cell o place e d = denoted-public s (PublicNumber value) cell refl d
reached-public may_reach s PublicAny cell o place e d = d
reached-public may_reach s (TaskReg number) cell o place e d = absurd (cc e)
reached-public may_reach s (OldSlotWord index) cell o place e d = absurd (cc e)
reached-public may_reach s GivenCell cell o place e d = absurd (cc e)
reached-public may_reach s AnyTagged cell o place e d = absurd (cc e)

-- a place and none
place-or-none : (o : Option Place) (place : Place) → o ≡ Some place → o ≡ None → ⊥
place-or-none o place some none = cc (some, none)

-- one port and another
same-port : (o : Option Port) (p q : Port) → o ≡ Some p → o ≡ Some q → p ≡ q
same-port o p q e f = cc (e, f)

module _ (p : PathState) where
  -- an instruction that only writes has an effect
  plain-effect : (o : Option (List AbstractWrite)) (step : PathStep) → plain_step p o ≡ Some step → (all : List AbstractWrite) × (o ≡ Some all)
  plain-effect None step e = absurd (cc e)
  plain-effect (Some all) step e = (all, refl)

  -- and where it finds a word, this stands at a place
  word-place : (instr : Instr) (o : Option Place) (all : List AbstractWrite) → by_word p.cells instr (word_at_place o) ≡ Some all → (place : Place) × (o ≡ Some place)
  word-place instr None all e = absurd (cc e)
  word-place instr (Some place) all e = (place, refl)

  -- a step that ends a task by a bad call of a known number
  record IsEnding (may_end : Bool) (a7 : Option ℕ) (step : PathStep) : Type 0 where
    number : ℕ
    known : a7 ≡ Some number
    may : may_end ≡ true
    end : step.held.end ≡ Some (BadCall number)

  ending : (writes : List AbstractWrite) (may_end : Bool) (a7 : Option ℕ) (step : PathStep) → end_step p writes may_end (end_with a7 BadCall) ≡ Some step
      → IsEnding may_end a7 step
  ending writes true (Some number) step e =
      let f : Some (record (goes_on p writes) { held = record p.held { end = Some (BadCall number) }; conditions = [] }) ≡ Some step = e in
      record {
        number = number;
        known = refl;
        may = refl;
        end = ended (record (goes_on p writes) { held = record p.held { end = Some (BadCall number) }; conditions = [] }) refl (cc f);
      }
    where
      ended : (made : PathStep) → made.held.end ≡ Some (BadCall number) → made ≡ step → step.held.end ≡ Some (BadCall number)
      ended made is same = ap (λ (x : PathStep). x.held.end) (sym same) ∙ is
  ending writes true None step e = absurd (cc e)
  ending writes false (Some number) step e = absurd (cc e)
  ending writes false None step e = absurd (cc e)

module _ (may_reach : ℕ → Bool) (s : Valuation) (ok : IsSound s) (number base : ℕ) (p : PathState) (h : HartState) (says : IsAsPathSays s number base p h) where
  register : (r : ℕ) → Denotes s (reg_cell p.cells r) (hart_cell h (places.Reg r))
  register r = cell-denoted s p.cells h (places.Reg r) tt says.cells

  -- a branch is taken as the path says
  pub branch-answered : (op : Cmp) (rs1 rs2 : ℕ) (taken : Bool) (step : PathStep) (a b found : Option ℕ)
      → number_of s (reg_cell p.cells rs1) ≡ a → number_of s (reg_cell p.cells rs2) ≡ b
      → branch_step p op rs1 rs2 taken a b found ≡ Some step → AreSo step.conditions
      → is_taken op (hart_cell h (places.Reg rs1)).value (hart_cell h (places.Reg rs2)).value ≡ taken
  branch-answered op rs1 rs2 taken step (Some a) (Some b) (Some to) first second e so =
      let done : PathStep = record (goes_on p (port_a_write p.cells rs1 ∷ port_b_write p.cells rs2 ∷ [])) { index = to; conditions = IsTaken op a b taken ∷ [] } in
      let same : done ≡ step = cc e in
      let P : PathStep → Type 0 = λ x. AreSo x.conditions in
      let v1 : (hart_cell h (places.Reg rs1)).value ≡ a = number-is s (reg_cell p.cells rs1) (hart_cell h (places.Reg rs1)) a first (register rs1) in
      let v2 : (hart_cell h (places.Reg rs2)).value ≡ b = number-is s (reg_cell p.cells rs2) (hart_cell h (places.Reg rs2)) b second (register rs2) in
      let is_so = subst P (sym same) so in
      ap (λ (x : ℕ). is_taken op x (hart_cell h (places.Reg rs2)).value) v1 ∙ ap (λ (y : ℕ). is_taken op a y) v2 ∙ is_so.0
  branch-answered op rs1 rs2 taken step None b found first second e so = absurd (cc e)
  branch-answered op rs1 rs2 taken step (Some a) None found first second e so = absurd (cc e)
  branch-answered op rs1 rs2 taken step (Some a) (Some b) None first second e so = absurd (cc e)

  -- the place that a word's load or store reaches
  load-place : (rd rs1 : ℕ) (imm : ℤ) (step : PathStep) → plain_step p (abstract_effect may_reach p.cells (Load loads.W rd rs1 imm)) ≡ Some step
      → (place : Place) × (place_from may_reach (reg_cell p.cells rs1) (address (stand_in (reg_cell p.cells rs1)) imm) ≡ Some place)
  load-place rd rs1 imm step e =
      let all = plain-effect p (abstract_effect may_reach p.cells (Load loads.W rd rs1 imm)) step e in
      word-place p (Load loads.W rd rs1 imm) (place_from may_reach (reg_cell p.cells rs1) (address (stand_in (reg_cell p.cells rs1)) imm)) all.0 all.1

  store-place : (rs2 rs1 : ℕ) (imm : ℤ) (step : PathStep) → plain_step p (abstract_effect may_reach p.cells (Store stores.W rs2 rs1 imm)) ≡ Some step
      → (place : Place) × (place_from may_reach (reg_cell p.cells rs1) (address (stand_in (reg_cell p.cells rs1)) imm) ≡ Some place)
  store-place rs2 rs1 imm step e =
      let all = plain-effect p (abstract_effect may_reach p.cells (Store stores.W rs2 rs1 imm)) step e in
      word-place p (Store stores.W rs2 rs1 imm) (place_from may_reach (reg_cell p.cells rs1) (address (stand_in (reg_cell p.cells rs1)) imm)) all.0 all.1

  public-from : (rs1 : ℕ) (imm : ℤ) → ((place : Place) × (place_from may_reach (reg_cell p.cells rs1) (address (stand_in (reg_cell p.cells rs1)) imm) ≡ Some place))
      → (hart_cell h (places.Reg rs1)).tag ≡ Public
  public-from rs1 imm at = reached-public may_reach s (reg_cell p.cells rs1) (hart_cell h (places.Reg rs1)) _ at.0 at.1 (register rs1)

  x0-public : (rs1 : ℕ) → rs1 ≡ 0 → (hart_cell h (places.Reg rs1)).tag ≡ Public
  x0-public rs1 e = let P : ℕ → Type 0 = λ r. (hart_cell h (places.Reg r)).tag ≡ Public in subst P (sym e) refl

  -- The register of an address is public.
  pub load-public : (rd rs1 : ℕ) (imm : ℤ) (found : Option Port) (step : PathStep) → port_from rs1 imm ≡ found
      → load_step may_reach s p rd rs1 imm (address 0 imm) found ≡ Some step → (hart_cell h (places.Reg rs1)).tag ≡ Public
  load-public rd rs1 imm None step from e = public-from rs1 imm (load-place rd rs1 imm step e)
  load-public rd rs1 imm (Some port) step from e = x0-public rs1 (from-x0 rs1 imm port from).0

  pub store-public : (rs2 rs1 : ℕ) (imm : ℤ) (found : Option Port) (step : PathStep) → port_from rs1 imm ≡ found
      → store_step may_reach s p rs2 rs1 imm (address 0 imm) found ≡ Some step → (hart_cell h (places.Reg rs1)).tag ≡ Public
  store-public rs2 rs1 imm None step from e = public-from rs1 imm (store-place rs2 rs1 imm step e)
  store-public rs2 rs1 imm (Some port) step from e = x0-public rs1 (from-x0 rs1 imm port from).0

  -- A word of a place isn't the fault port.
  no-port : (rs1 : ℕ) (imm : ℤ) (place : Place) → place_from may_reach (reg_cell p.cells rs1) (address (stand_in (reg_cell p.cells rs1)) imm) ≡ Some place
      → port_at (address (hart_cell h (places.Reg rs1)).value imm) ≡ Some Fault → ⊥
  no-port rs1 imm place e port =
      let c : ContextState = record p.held { words = held_words h.held } in
      let at : ℕ = address (hart_cell h (places.Reg rs1)).value imm in
      let r = reached s ok may_reach h.held c says.held says.slot (reg_cell p.cells rs1) (hart_cell h (places.Reg rs1)) (register rs1) imm place e in
      let few : p.held.slot < 8 = subst (λ n. n < 8) (sym says.slot) ok.slot in
      let P : Option ContextState → Type 0 = λ o. place_of (machine_bases o) (Mem (word_address at)) ≡ Some place in
      place-or-none (place_of (machine_bases (Some c)) (Mem (word_address at))) place (subst P says.held r.is_place) (port-place c at Fault few port)

  -- A store of the code of a bad call to the fault port: the number of the end is the value of slot word 17, and the code is public.
  pub record IsBadCall (rs2 : ℕ) (step : PathStep) : Type 0 where
    pub called : ℕ
    pub end : step.held.end ≡ Some (BadCall called)
    pub word : (get_or (held_words h.held) 17 blank).value ≡ called
    pub stored : (hart_cell h (places.Reg rs2)).tag ≡ Public

  fault-known : (rs2 : ℕ) (writes : List AbstractWrite) (known : Option ℕ) (step : PathStep) → number_of s (reg_cell p.cells rs2) ≡ known
      → port_store_step s p writes (reg_cell p.cells rs2) known (Some Fault) ≡ Some step → (hart_cell h (places.Reg rs2)).value ≡ 0x102 → IsBadCall rs2 step
  fault-known rs2 writes None step is e code = absurd (cc e)
  fault-known rs2 writes (Some value) step is e code =
      let cell : Cell = hart_cell h (places.Reg rs2) in
      let may : Bool = is_none p.held.end && not (is_tagged (reg_cell p.cells rs2)) in
      let pc : Option ℕ = number_of s (get_or p.cells.slot pc_word AnyTagged) in
      let a7 : Option ℕ = number_of s (get_or p.cells.slot 17 AnyTagged) in
      let v : cell.value ≡ value = number-is s (reg_cell p.cells rs2) cell value is (register rs2) in
      let P : ℕ → Type 0 = λ n. end_step p writes may (end_of_code pc a7 n) ≡ Some step in
      let w = ending p writes may a7 step (subst P (sym v ∙ code) e) in
      let tests = and_parts (is_none p.held.end) (not (is_tagged (reg_cell p.cells rs2))) w.may in
      record {
        called = w.number;
        end = w.end;
        word = number-is s (get_or p.cells.slot 17 AnyTagged) (get_or (held_words h.held) 17 blank) w.number w.known
            (all-get s p.cells.slot (held_words h.held) 17 says.cells.slot);
        stored = denoted-public s (reg_cell p.cells rs2) cell (not-true _ tests.1) (register rs2);
      }

  pub bad-call : (rs2 rs1 : ℕ) (imm : ℤ) (found : Option Port) (step : PathStep) → port_from rs1 imm ≡ found
      → store_step may_reach s p rs2 rs1 imm (address 0 imm) found ≡ Some step
      → port_at (address (hart_cell h (places.Reg rs1)).value imm) ≡ Some Fault → (hart_cell h (places.Reg rs2)).value ≡ 0x102 → IsBadCall rs2 step
  bad-call rs2 rs1 imm None step from e port code = let at = store-place rs2 rs1 imm step e in absurd (no-port rs1 imm at.0 at.1 port)
  bad-call rs2 rs1 imm (Some there) step from e port code =
      let x0 = from-x0 rs1 imm there from in
      let A : ℕ → Type 0 = λ r. port_at (address (hart_cell h (places.Reg r)).value imm) ≡ Some Fault in
      let is_fault : there ≡ Fault = same-port (port_at (address 0 imm)) there Fault x0.1 (subst A x0.0 port) in
      let B : Port → Type 0 = λ q. port_store_step s p (store_writes p.cells rs2 rs1 (address 0 imm)) (reg_cell p.cells rs2)
      (number_of s (reg_cell p.cells rs2)) (Some q) ≡ Some step in
      fault-known rs2 (store_writes p.cells rs2 rs1 (address 0 imm)) (number_of s (reg_cell p.cells rs2)) step refl (subst B is_fault e) code
