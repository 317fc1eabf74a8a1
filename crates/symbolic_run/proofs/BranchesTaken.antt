-- A branch and a jump of a path go where the path says.
use Rattle.std.proofs.Common.{◌≡◌, ℕ, zero, ◌+◌, ◌*◌, ◌%◌, ◌≤◌, Bool, true, false, ◌==◌, if◌then◌else◌, ℤ, List, [], ◌∷◌, ◌++◌, Option, Some, None, refl, ap, subst, ◌∙◌}
use Rattle.isa_model.specs.declared.instr.Instr.TheVariants.{Jal, Branch}
use Rattle.isa_model.specs.declared.instr.Cmp.{Cmp}
use Rattle.isa_model.specs.Bits.{low_word, two_complement}
use Rattle.isa_model.specs.Arithmetic.{is_taken}
use Rattle.isa_model.specs.Effect.{Effect, Write, Constant, Goes, does, jump, ports, result}
use Rattle.hart_model.specs.declared.place.Place.TheVariants as places
use Rattle.hart_model.specs.Cells.{blank}
use Rattle.hart_model.specs.Csrs.{public}
use Rattle.hart_model.specs.Ports.{Nothing}
use Rattle.hart_model.specs.HartState.{HartState, hart_cell}
use Rattle.hart_model.specs.Writes.{CellWrite, after_writes}
use Rattle.hart_model.specs.MachineStep.{OperandCells, operand_cells, operand_values, machine_instr_step, after_machine_writes, after_machine_effect}
use Rattle.symbolic_run.specs.AbstractCell.{PublicAny}
use Rattle.symbolic_run.specs.AbstractEffect.{reg_cell}
use Rattle.symbolic_run.specs.Concretization.{Valuation, Denotes, number_of}
use Rattle.symbolic_run.specs.SymbolicPath.{PathState, PathStep, AreSo, index_after, jump_step, branch_index, branch_step, IsAsPathSays, TakesStep, goes_on, port_a_write, port_b_write, IsTaken}
use Rattle.symbolic_run.proofs.OneWrite.{cell-denoted}
use Rattle.symbolic_run.proofs.KnownNumbers.{some-is, number-is}
use Rattle.symbolic_run.proofs.NextIndex.{target-pc, index-aligned}
use Rattle.symbolic_run.proofs.Plain.{next-address}

-- a jump to a multiple of 4 goes there
jump-goes : (before after : List Write) (target : ℕ) → (target % 4 == 0) ≡ true → jump before after target ≡ does (before ++ after) (Goes target)
jump-goes before after target even = rw even refl

-- what a branch does where the path says whether it is taken
branch-goes : (writes : List Write) (answer : Bool) (target next : ℕ) → (target % 4 == 0) ≡ true → answer ≡ true
    → (if answer then jump writes [] target else does writes (Goes next)) ≡ does (writes ++ []) (Goes target)
branch-goes writes answer target next even taken = rw (taken, even) refl

branch-goes-on : (writes : List Write) (answer : Bool) (target next : ℕ) → answer ≡ false
    → (if answer then jump writes [] target else does writes (Goes next)) ≡ does writes (Goes next)
branch-goes-on writes answer target next taken = rw taken refl

module _ (s : Valuation) (number base : ℕ) (p : PathState) (h : HartState) (aligned : base % 4 ≡ 0) (high : base ≤ 8192)
    (few : p.index ≤ 1000) (says : IsAsPathSays s number base p h) where
  reg : (r : ℕ) → Denotes s (reg_cell p.cells r) (hart_cell h (places.Reg r))
  reg r = cell-denoted s p.cells h (places.Reg r) tt says.cells

  -- a jump, whose return address goes to Res alone
  pub jump-taken : (off : ℤ) (step : PathStep) (found : Option ℕ) → index_after p.index off ≡ found
      → jump_step p found ≡ Some step → TakesStep s number base p step h (Jal zero off)
  jump-taken off step None is e = absurd (cc e)
  jump-taken off step (Some to) is e =
      let done : PathStep = record (goes_on p (record { at = places.Res; cell = PublicAny } ∷ [])) { index = to } in
      let same : done ≡ step = cc e in
      let there = target-pc base p.index h.pc to off high says.pc is in
      let even = index-aligned base to _ aligned there in
      let o : OperandCells = operand_cells h (Jal zero off) None blank in
      let next : ℕ = low_word (h.pc + 4) in
      let writes : List CellWrite = record { at = places.Res; cell = public next } ∷ [] in
      let P : PathStep → Type 0 = λ x. TakesStep s number base p x h (Jal zero off) in
      let goes = ap (λ (f : Effect). after_machine_effect h o Nothing f)
      (jump-goes [] (result 0 next Constant) (low_word (h.pc + two_complement 32 off)) even) in
      let lands = ap (λ (pc : ℕ). after_machine_writes Nothing pc (after_writes writes h)) there in
      subst P same (record {
        writes = writes;
        denote = (refl, refl, tt);
        csrs = h.csrs;
        csrs_are = says.csrs;
        csrs_sound = says.csrs_sound;
        side = Nothing;
        held = refl;
        step_is = goes ∙ lands;
      })

  -- the writes of a branch: its operands
  branch_writes : ℕ → ℕ → List CellWrite
  branch_writes rs1 rs2 =
      record { at = places.PortA; cell = hart_cell h (places.Reg rs1) }
      ∷ record { at = places.PortB; cell = hart_cell h (places.Reg rs2) }
      ∷ []

  -- a branch leads to the index that the path says
  branch-steps : (op : Cmp) (rs1 rs2 to : ℕ) (off : ℤ) (taken : Bool) → branch_index p off taken ≡ Some to
      → is_taken op (hart_cell h (places.Reg rs1)).value (hart_cell h (places.Reg rs2)).value ≡ taken
      → machine_instr_step h (Branch op rs1 rs2 off) ≡ after_machine_writes Nothing (base + 4 * to) (after_writes (branch_writes rs1 rs2) h)
  unfolding branch_writes
  branch-steps op rs1 rs2 to off true is so =
      let there = target-pc base p.index h.pc to off high says.pc is in
      let even = index-aligned base to _ aligned there in
      let o : OperandCells = operand_cells h (Branch op rs1 rs2 off) None blank in
      let goes = ap (λ (f : Effect). after_machine_effect h o Nothing f)
      (branch-goes (ports (operand_values o)) (is_taken op (hart_cell h (places.Reg rs1)).value (hart_cell h (places.Reg rs2)).value)
      (low_word (h.pc + two_complement 32 off)) (low_word (h.pc + 4)) even so) in
      let lands = ap (λ (pc : ℕ). after_machine_writes Nothing pc (after_writes (branch_writes rs1 rs2) h)) there in
      goes ∙ lands
  branch-steps op rs1 rs2 to off false is so =
      let same : p.index + 1 ≡ to = some-is (p.index + 1) to is in
      let there = next-address base p.index h.pc high few says.pc ∙ ap (λ (i : ℕ). base + 4 * i) same in
      let o : OperandCells = operand_cells h (Branch op rs1 rs2 off) None blank in
      let goes = ap (λ (f : Effect). after_machine_effect h o Nothing f)
      (branch-goes-on (ports (operand_values o)) (is_taken op (hart_cell h (places.Reg rs1)).value (hart_cell h (places.Reg rs2)).value)
      (low_word (h.pc + two_complement 32 off)) (low_word (h.pc + 4)) so) in
      let lands = ap (λ (pc : ℕ). after_machine_writes Nothing pc (after_writes (branch_writes rs1 rs2) h)) there in
      goes ∙ lands

  -- a branch goes as the path says, where the comparison is so
  pub branch-taken : (op : Cmp) (rs1 rs2 : ℕ) (off : ℤ) (taken : Bool) (step : PathStep) (a b found : Option ℕ)
      → number_of s (reg_cell p.cells rs1) ≡ a → number_of s (reg_cell p.cells rs2) ≡ b → branch_index p off taken ≡ found
      → branch_step p op rs1 rs2 taken a b found ≡ Some step → AreSo step.conditions → TakesStep s number base p step h (Branch op rs1 rs2 off)
  unfolding branch_writes
  branch-taken op rs1 rs2 off taken step (Some a) (Some b) (Some to) first second is e =
      let done : PathStep = record (goes_on p (port_a_write p.cells rs1 ∷ port_b_write p.cells rs2 ∷ [])) { index = to; conditions = IsTaken op a b taken ∷ [] } in
      let same : done ≡ step = cc e in
      let P : PathStep → Type 0 = λ x. AreSo x.conditions → TakesStep s number base p x h (Branch op rs1 rs2 off) in
      let v1 : (hart_cell h (places.Reg rs1)).value ≡ a = number-is s (reg_cell p.cells rs1) (hart_cell h (places.Reg rs1)) a first (reg rs1) in
      let v2 : (hart_cell h (places.Reg rs2)).value ≡ b = number-is s (reg_cell p.cells rs2) (hart_cell h (places.Reg rs2)) b second (reg rs2) in
      subst P same (λ so. record {
        writes = branch_writes rs1 rs2;
        denote = (refl, reg rs1, (refl, reg rs2, tt));
        csrs = h.csrs;
        csrs_are = says.csrs;
        csrs_sound = says.csrs_sound;
        side = Nothing;
        held = refl;
        step_is = branch-steps op rs1 rs2 to off taken is
            (ap (λ (x : ℕ). is_taken op x (hart_cell h (places.Reg rs2)).value) v1 ∙ ap (λ (y : ℕ). is_taken op a y) v2 ∙ so.0);
      })
  branch-taken op rs1 rs2 off taken step None b found first second is e = absurd (cc e)
  branch-taken op rs1 rs2 off taken step (Some a) None found first second is e = absurd (cc e)
  branch-taken op rs1 rs2 off taken step (Some a) (Some b) None first second is e = absurd (cc e)
