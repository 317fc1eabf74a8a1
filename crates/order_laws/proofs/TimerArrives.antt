-- From the trap of the timer to the give, without ticks: the timer is acknowledged, so it is pending no more.
use Rattle.std.proofs.Common.{◌≡◌, ℕ, ◌+◌, ◌*◌, pos, ◌<◌, Bool, true, false, List, [], ◌∷◌, ◌++◌, length, inr, Option, Some, None, refl, sym, ap, subst, ◌∙◌}
use Rattle.isa_model.specs.declared.task.Task.{Task}
use Rattle.isa_model.specs.declared.instr.Instr.{Instr}
use Rattle.isa_model.specs.declared.instr.Instr.TheVariants.{Store}
use Rattle.isa_model.specs.declared.instr.StoreKind.TheVariants as stores
use Rattle.isa_model.specs.declared.latch.Latch.TheVariants.{Mem}
use Rattle.isa_model.specs.Bits.{low_word}
use Rattle.isa_model.specs.Effect.{Effect}
use Rattle.hart_model.specs.declared.calls.Did.{Did}
use Rattle.hart_model.specs.declared.calls.Did.TheVariants.{Ran}
use Rattle.hart_model.specs.declared.place.Place.{Place}
use Rattle.hart_model.specs.declared.port.Port.TheVariants.{Ack}
use Rattle.hart_model.specs.declared.probe.Probe.{Probe}
use Rattle.hart_model.specs.declared.tag.Cell.{Cell}
use Rattle.hart_model.specs.Cells.{blank, place_of}
use Rattle.hart_model.specs.Csrs.{CsrFile}
use Rattle.hart_model.specs.Ports.{ClearsTimer, port_at}
use Rattle.hart_model.specs.Context.{ContextState}
use Rattle.hart_model.specs.HartState.{HartState, held_words}
use Rattle.hart_model.specs.StepResult.{StepResult, Steps}
use Rattle.hart_model.specs.Writes.{after_writes}
use Rattle.hart_model.specs.MachineStep.{OperandCells, Finds, reach_of, by_reach, store_reach, place_or_port, machine_bases, operand_cells, machine_effect, machine_writes, after_side, machine_instr_step}
use Rattle.hart_model.specs.HartStep.{hart_step}
use Rattle.symbolic_run.specs.AbstractCell.{PublicAny}
use Rattle.symbolic_run.specs.Concretization.{Valuation}
use Rattle.symbolic_run.specs.SymbolicPath.{Path, AreSo, path_from, IsAsPathSays}
use Rattle.symbolic_run.proofs.ComputedPaths.{every_word, straight}
use Rattle.symbolic_run.proofs.Paths.{machine-step-at}
use Rattle.symbolic_run.proofs.PortsReached.{port-place}
use Rattle.symbolic_run.proofs.StepsTaken.{steps-taken}
use Rattle.core_invariant.specs.KernelStates.{middle_instrs, middle_len, KernelParts, IsKernel, middle_at, give_ready_index}
use Rattle.core_invariant.specs.CutPoints.{IsTimerTrap}
use Rattle.core_invariant.proofs.KernelCells.{saved_cells, at_start}
use Rattle.core_invariant.proofs.Trapped.{trapped_setting, AreOwn, trap-setting-sound}
use Rattle.core_invariant.proofs.ReadyPaths.{middle_path, path_or, no_path, timer_answers, timer_asked}
use Rattle.core_invariant.proofs.ReadyTimer.{GivesSome, timer-ends}
use Rattle.core_invariant.proofs.TrapEnds.{one-end}
use Rattle.order_laws.specs.Arrives.{StepsTo, Arrives, IsAfter}
use Rattle.order_laws.proofs.Arrive.{after-then, arrives-map, arrives-then}
use Rattle.order_laws.proofs.PathArrives.{path-arrives, single-step}
use Rattle.order_laws.proofs.TrapArrives.{after-save}

-- a step after which no timer is pending
record Clears (step : StepResult) : Type 0 where
  after : HartState
  probes : List Probe
  did : Did
  step_is : step ≡ Steps after probes did
  calm : after.csrs.is_timer_pending ≡ false

-- the store of x0 to the port of acknowledgements
abbrev ack_instr : Instr
ack_instr = Store stores.W 0 0 (pos 0x71c)

ack-step : (h : HartState) → place_of (machine_bases h.held) (Mem 0x71c) ≡ None → Clears (machine_instr_step h ack_instr)
ack-step h none =
    let reach : reach_of h ack_instr ≡ Finds (Some blank) blank ClearsTimer =
    ap (λ (o : Option Place). store_reach h stores.W blank (place_or_port o (port_at 0x71c))) none in
    let o : OperandCells = operand_cells h ack_instr (Some blank) blank in
    let e : Effect = machine_effect h ack_instr o in
    let w = after_writes (machine_writes h o e) h in
    record {
      after = record (after_side ClearsTimer w.hart) { pc = low_word (h.pc + 4) };
      probes = w.probes;
      did = Ran;
      step_is = ap (by_reach h ack_instr) reach;
      calm = refl;
    }

-- the branches up to the acknowledgement, at index 13 of the middle
abbrev ack_answers : List Bool
ack_answers = straight 5 ++ true ∷ straight 2 ++ true ∷ []

module _ (s : Valuation) (idle : ℕ) (csrs : CsrFile) (held : ContextState) where
  abbrev to_ack : Path
  to_ack = path_or (middle_path s idle csrs held ack_answers) (no_path s csrs held)

  abbrev after_ack : Path
  after_ack = path_or (path_from every_word s (middle_instrs idle) (false ∷ []) (Some to_ack)) (no_path s csrs held)

  abbrev at_give : Path
  at_give = path_or (path_from every_word s (middle_instrs idle) (false ∷ []) (Some after_ack)) (no_path s csrs held)

  abbrev whole : Path
  whole = path_or (middle_path s idle csrs held timer_answers) (no_path s csrs held)

  to_ack-is : middle_path s idle csrs held ack_answers ≡ Some to_ack
  unfolding path_from
  to_ack-is = refl

  to_ack-index : to_ack.end.index ≡ 13
  unfolding path_from
  to_ack-index = refl

  to_ack-conditions : to_ack.conditions ≡ timer_asked csrs.mcause
  unfolding path_from
  to_ack-conditions = refl

  after_ack-is : path_from every_word s (middle_instrs idle) (false ∷ []) (Some to_ack) ≡ Some after_ack
  unfolding path_from
  after_ack-is = refl

  after_ack-conditions : after_ack.conditions ≡ timer_asked csrs.mcause
  unfolding path_from
  after_ack-conditions = refl

  at_give-is : path_from every_word s (middle_instrs idle) (false ∷ []) (Some after_ack) ≡ Some at_give
  unfolding path_from
  at_give-is = refl

  at_give-conditions : at_give.conditions ≡ timer_asked csrs.mcause
  unfolding path_from
  at_give-conditions = refl

  whole-is : middle_path s idle csrs held timer_answers ≡ Some whole
  unfolding path_from
  whole-is = refl

  same-end : at_give.end ≡ whole.end
  unfolding path_from
  same-end = refl

  held-slot : to_ack.end.held.slot ≡ held.slot
  unfolding path_from
  held-slot = refl

-- the cause is the timer's
conditions-so : (cause : ℕ) → cause ≡ 0x80000007 → AreSo (timer_asked cause)
conditions-so cause e = rw e (refl, (refl, (refl, tt)))

module _ (tasks : List Task) (k : KernelParts) (kernel : IsKernel k) (number : ℕ) (h : HartState) (c : ContextState)
    (t : IsTimerTrap tasks number h c) where
  abbrev idle : ℕ
  idle = middle_len + k.restore + 1

  abbrev Gave : HartState → Type 0
  Gave g = GivesSome tasks k number g × (IsAfter h g × (g.csrs.is_timer_pending ≡ false))

  module _ (regs : ℕ → Cell) (own : AreOwn c.body.count c regs) where
    abbrev s : Valuation
    s = trapped_setting tasks c.body.count regs c blank

    abbrev Says : Path → HartState → Type 0
    Says path g = IsAsPathSays s number (middle_at k) path.end g

    so-conditions : (path : Path) → path.conditions ≡ timer_asked h.csrs.mcause → AreSo path.conditions
    so-conditions path is = subst AreSo (sym is) (conditions-so h.csrs.mcause t.trap.mcause)

    -- the acknowledgement
    ack-clears : (g : HartState) → Says (to_ack s idle h.csrs c) g → Clears (hart_step k.code.words g)
    ack-clears g says =
        let at = middle_at k + 4 * 13 in
        let pc : g.pc ≡ at = says.pc ∙ ap (λ i. middle_at k + 4 * i) (to_ack-index s idle h.csrs c) in
        let slot = subst (λ (i : ℕ). i < 8) (sym (held-slot s idle h.csrs c)) t.trap.slot in
        let none = ap (λ (o : Option ContextState). place_of (machine_bases o) (Mem 0x71c)) says.held
        ∙ port-place (record (to_ack s idle h.csrs c).end.held { words = held_words g.held }) 0x71c Ack slot refl in
        let step = ack-step g none in
        record {
          after = step.after;
          probes = step.probes;
          did = step.did;
          step_is = machine-step-at k.code.words g at ack_instr says.mode pc (kernel.linked.middle.each 13 ack_instr refl) ∙ step.step_is;
          calm = step.calm;
        }

    ack-then : (g : HartState) → Says (to_ack s idle h.csrs c) g
        → StepsTo (λ f. Says (after_ack s idle h.csrs c) f × (IsAfter g f × (f.csrs.is_timer_pending ≡ false))) (hart_step k.code.words g)
    ack-then g says =
        let clears = ack-clears g says in
        let to = single-step steps-taken every_word s (trap-setting-sound t.trap blank tt regs own) number (middle_at k) k.code.words
        (middle_instrs idle)
        kernel.linked.middle false (to_ack s idle h.csrs c) (after_ack s idle h.csrs c) g (after_ack-is s idle h.csrs c)
        (so-conditions (after_ack s idle h.csrs c) (after_ack-conditions s idle h.csrs c)) says in
        let same : Steps clears.after clears.probes clears.did ≡ Steps to.after to.probes to.did = sym clears.step_is ∙ to.step_is in
        let one : clears.after ≡ to.after = cc same in
        record {
          after = to.after;
          probes = to.probes;
          did = to.did;
          step_is = to.step_is;
          there = (to.there.0, (to.there.1, subst (λ (f : HartState). f.csrs.is_timer_pending ≡ false) one clears.calm));
        }

    -- from the saved task to the give
    from-saved : (g : HartState) → IsAsPathSays s number (middle_at k) (at_start (saved_cells s PublicAny) h.csrs c) g → IsAfter h g
        → Arrives k.code.words (length ack_answers + (1 + 1)) Gave g
    from-saved g says after =
        let sound = trap-setting-sound t.trap blank tt regs own in
        let whole_there = one-end t.trap blank tt k timer_answers give_ready_index (GivesSome tasks k number) regs own
        (timer-ends k tasks number h c t regs own) in
        let same_path : whole s idle h.csrs c ≡ whole_there.path = cc (sym (whole-is s idle h.csrs c) ∙ whole_there.is_path) in
        let ended : (at_give s idle h.csrs c).end ≡ whole_there.path.end = same-end s idle h.csrs c ∙ ap (λ (p : Path). p.end) same_path in
        arrives-then k.code.words (length ack_answers) (1 + 1) (λ f. Says (to_ack s idle h.csrs c) f × IsAfter g f) Gave g
        (path-arrives steps-taken every_word s sound number (middle_at k) k.code.words (middle_instrs idle) kernel.linked.middle ack_answers
        (record { end = at_start (saved_cells s PublicAny) h.csrs c; conditions = [] }) (to_ack s idle h.csrs c) g (to_ack-is s idle h.csrs c)
        (so-conditions (to_ack s idle h.csrs c) (to_ack-conditions s idle h.csrs c)) says)
        (λ f at. arrives-then k.code.words 1 1 (λ x. Says (after_ack s idle h.csrs c) x × (IsAfter f x × (x.csrs.is_timer_pending ≡ false))) Gave f
        (inr (at.0.mode, ack-then f at.0))
        (λ x next. arrives-map k.code.words 1 (λ y. Says (at_give s idle h.csrs c) y × IsAfter x y) Gave x
        (λ y last. (
          whole_there.there y (subst (λ p. IsAsPathSays s number (middle_at k) p y) ended last.0),
          (
            after-then h f y (after-then h g f after at.1) (after-then f x y next.1.0 last.1),
            last.1.calm next.1.1,
          ),
        ))
        (path-arrives steps-taken every_word s sound number (middle_at k) k.code.words (middle_instrs idle) kernel.linked.middle (false ∷ [])
        (after_ack s idle h.csrs c) (at_give s idle h.csrs c) x (at_give-is s idle h.csrs c)
        (so-conditions (at_give s idle h.csrs c) (at_give-conditions s idle h.csrs c)) next.0)))

  -- From the trap.
  pub timer-arrives : Arrives k.code.words (k.save + (length ack_answers + (1 + 1))) Gave h
  timer-arrives =
      after-save t.trap k kernel blank tt Gave (length ack_answers + (1 + 1)) (λ regs own g says after. from-saved regs own g says after)
