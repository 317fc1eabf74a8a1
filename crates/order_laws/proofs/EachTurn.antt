-- One hart from one queue action to the next, under every kernel: it comes to a take, or to a give by which the potential falls.
use Rattle.std.proofs.Common.{◌≡◌, ℕ, zero, suc, ◌+◌, ◌-◌, ◌*◌, ◌≤◌, ◌<◌, ◌==◌, ◌⊎◌, inl, inr, Bool, true, false, List, [], ◌∷◌, length, slice_get, nat_le, nat_lt, get_or, Option, Some, None, refl, sym, ap, ◌∙◌, subst, arith, if◌then◌else◌}
use Rattle.std.proofs.lemmas.Bool.{eqb-true, eqb-false, leb-false, ltb-true, ltb-false}
use Rattle.isa_model.specs.declared.task.Task.{Task}
use Rattle.isa_model.specs.declared.latch.Latch.TheVariants as latches
use Rattle.isa_model.specs.declared.ends.EndKind.{EndKind}
use Rattle.isa_model.specs.declared.ends.EndKind.TheVariants as kinds
use Rattle.isa_model.specs.Alone.{alone_at}
use Rattle.isa_model.specs.AloneValue.{alone_value}
use Rattle.hart_model.specs.declared.calls.QueueCall.{QueueCall}
use Rattle.hart_model.specs.declared.calls.QueueCall.TheVariants.{Take, GiveReady, GiveDone}
use Rattle.hart_model.specs.declared.calls.Did.TheVariants.{Ran}
use Rattle.hart_model.specs.declared.tag.Cell.{Cell}
use Rattle.hart_model.specs.Cells.{blank}
use Rattle.hart_model.specs.Csrs.{public}
use Rattle.hart_model.specs.Context.{ContextState, slot_address, task_of}
use Rattle.hart_model.specs.HartState.{HartState}
use Rattle.hart_model.specs.StepResult.{StepResult, Wants}
use Rattle.hart_model.specs.Writes.{CellWrite}
use Rattle.hart_model.specs.HartStep.{hart_step, answer_take, answer_give}
use Rattle.core_model.specs.declared.plan.Plan.{Plan}
use Rattle.core_model.specs.Plans.{quantum_of, quantum_after}
use Rattle.core_model.specs.Loaded.{IsPlanWithinLimits}
use Rattle.core_model.specs.Soundness.{IsTruthful}
use Rattle.core_model.specs.Routines.{ticked_if, HoldsSame, IsUserState, IsReadyContext}
use Rattle.core_model.specs.Orders.{HartPace}
use Rattle.core_invariant.specs.KernelStates.{KernelParts, IsKernel, middle_at, give_ready_index, give_done_index, take_index}
use Rattle.core_invariant.specs.CutPoints.{IsAtTrap, IsTimerTrap, IsFuelTrap, IsCallTrap, IsGivingReady, IsGivingDone, IsEmptyHanded}
use Rattle.core_invariant.proofs.TrapEnds.{EndsSo, one-end}
use Rattle.core_invariant.proofs.Trapped.{trapped_setting, AreOwn}
use Rattle.core_invariant.proofs.ReadyTimer.{GivesSome}
use Rattle.core_invariant.proofs.ReadyPaths.{yield_answers, out_answers, in_answers}
use Rattle.core_invariant.proofs.ReadyYield.{yield-ends}
use Rattle.core_invariant.proofs.ReadyOut.{out-ends}
use Rattle.core_invariant.proofs.ReadyIn.{tape_cell, tape-truthful, in-ends}
use Rattle.core_invariant.proofs.DoneEnds.{GivesEnded, EndsDone, pc-of-trap, done-end, csrs-are, held-is-saved}
use Rattle.core_invariant.proofs.DoneLeads.{fuel-ends, fault-ends, exit-ends, out-full-ends, tape-end-ends, bad-call-ends}
use Rattle.core_invariant.proofs.DonePaths.{fuel_answers, fault_answers, exit_answers, out_full_answers, tape_end_answers, bad_call_answers, trap_csrs}
use Rattle.core_invariant.proofs.Gives.{wants-give-ready, wants-give-done, given-ready, given-done, give_writes}
use Rattle.core_invariant.proofs.Takes.{wants-take, after-take, taken-x5, take_early_writes}
use Rattle.core_invariant.proofs.TakenStands.{taken-stands}
use Rattle.core_invariant.proofs.Idle.{jumps-to-take}
use Rattle.symbolic_run.proofs.Paths.{paths-lead}
use Rattle.symbolic_run.proofs.StepsTaken.{steps-taken}
use Rattle.symbolic_run.specs.Laws.{PathsLead}
use Rattle.order_laws.specs.Arrives.{Arrives, IsAfter, Reaches}
use Rattle.order_laws.specs.CoarseInvariant.{IsFree, IsHolding, restore_steps}
use Rattle.order_laws.specs.EachTurn.{turn_steps, pace_with, Takes, Gives, EachTurn}
use Rattle.order_laws.specs.Potential.{ready_potential, quantum_potential, held_potential, timer_potential}
use Rattle.order_laws.proofs.Reach.{comes-now, comes-step, comes-longer, comes-along, not-due}
use Rattle.order_laws.proofs.Calm.{step-calm, IsCalmStep}
use Rattle.order_laws.proofs.TrapArrives.{trap-arrives}
use Rattle.order_laws.proofs.TimerArrives.{timer-arrives}
use Rattle.order_laws.proofs.ReturnArrives.{take-arrives}
use Rattle.order_laws.proofs.UserReach.{IsMine, FromTraps, user-comes, pending-comes, same-fuel}

abbrev two_if : Bool → ℕ
two_if b = if b then 2 else 0

-- how many steps lead from a trap to its give at most, with the give's own
abbrev trap_steps : ℕ
trap_steps = 400

-- What a timer weighs: nothing where none is pending, and two where one is; so no more than before where none becomes pending.
pub timer-none : (h : HartState) → h.csrs.is_timer_pending ≡ false → timer_potential h ≡ 0
timer-none h calm = ap two_if calm

timer-pending : (h : HartState) → h.csrs.is_timer_pending ≡ true → timer_potential h ≡ 2
timer-pending h pending = ap two_if pending

two-most : (b : Bool) → two_if b ≤ 2
two-most true = omega arith
two-most false = omega arith

timer-low : (h g : HartState) → (h.csrs.is_timer_pending ≡ false → g.csrs.is_timer_pending ≡ false) → timer_potential g ≤ timer_potential h
timer-low h g keeps = by-timer h.csrs.is_timer_pending refl
  where
    by-timer : (pending : Bool) → h.csrs.is_timer_pending ≡ pending → timer_potential g ≤ timer_potential h
    by-timer true is = let two = timer-pending h is in let most = two-most g.csrs.is_timer_pending in omega (arith, two, most)
    by-timer false is = let none = timer-none g (keeps is) in omega (arith, none)

module _ (tasks : List Task) (k : KernelParts) (kernel : IsKernel k) (number : ℕ) (plan : Plan) (limits : IsPlanWithinLimits plan) where
  abbrev Free : HartState → Type 0
  Free h = IsFree tasks k number h

  abbrev Holding : HartPace → HartState → Type 0
  Holding pace h = IsHolding tasks k number pace h

  -- TAKES
  taken-holding : (pace : HartPace) (g : HartState) (c : ContextState) (early_writes : List CellWrite) (rd next : ℕ)
      → IsEmptyHanded tasks number (middle_at k + 4 * take_index) g
      → hart_step k.code.words g ≡ Wants Take early_writes rd next → IsReadyContext tasks c
      → Holding (pace_with pace c) (answer_take early_writes rd next (Some c) g).hart
  taken-holding pace g c early_writes rd next e wants ready =
      let known = wants-take k kernel.linked tasks number g e in
      let same_early_writes : take_early_writes ≡ early_writes = cc (known, wants) in
      let same_rd : 5 ≡ rd = cc (known, wants) in
      let same_next : middle_at k + 4 * (take_index + 1) ≡ next = cc (known, wants) in
      let H : List CellWrite → ℕ → ℕ → HartState = λ ws r n. (answer_take ws r n (Some c) g).hart in
      let f = H take_early_writes 5 (middle_at k + 4 * (take_index + 1)) in
      let after = after-take k kernel.linked tasks number g (Some c) e in
      let stands = taken-stands tasks c ready k number f after.0 refl (taken-x5 g (public (slot_address c.slot)) e.hart.registers) in
      let holds : Holding (pace_with pace c) f = record {
        context = c;
        held = refl;
        ready = ready;
        way = take-arrives tasks k kernel number c ready f.csrs after.0.bound_registers f stands;
        taken_at = refl;
        some_take = omega arith;
      } in
      let P : List CellWrite → Type 0 = λ ws. Holding (pace_with pace c) (H ws rd next) in
      let Q : ℕ → Type 0 = λ r. Holding (pace_with pace c) (H take_early_writes r next) in
      let R : ℕ → Type 0 = λ n. Holding (pace_with pace c) (H take_early_writes 5 n) in
      subst P same_early_writes (subst Q same_rd (subst R same_next holds))

  -- a hart that holds nothing comes to a take
  abbrev TakesThere : HartPace → HartState → QueueCall → HartState → Type 0
  TakesThere pace before = Takes tasks k plan number pace before

  at-take : (pace : HartPace) (steps : ℕ) (before h : HartState) → IsEmptyHanded tasks number (middle_at k + 4 * take_index) h
      → timer_potential h ≤ timer_potential before → Reaches k.code.words plan pace number (suc steps) (TakesThere pace before) h
  at-take pace steps before h e timer =
      comes-now k.code.words plan pace number (TakesThere pace before) steps h Take take_early_writes 5 (middle_at k + 4 * (take_index + 1))
      (not-due k.code.words plan pace number (TakesThere pace before) h e.hart.mode) (wants-take k kernel.linked tasks number h e)
      (record {
        call_is = refl;
        held = e.held;
        timer = timer;
        then_holds = λ early_writes rd next c wants ready. taken-holding pace h c early_writes rd next e wants ready;
      })

  finds : (pace : HartPace) (h : HartState) → Free h → Reaches k.code.words plan pace number turn_steps (TakesThere pace h) h
  finds pace h (inl e) = at-take pace 4899 h h e (omega arith)
  finds pace h (inr e) =
      let goes = jumps-to-take k kernel.linked tasks number h e in
      let due = not-due k.code.words plan pace number (TakesThere pace h) h e.hart.mode in
      let F : Bool → StepResult = λ b. hart_step k.code.words (ticked_if b h) in
      let timer = timer-low h goes.after (λ calm. subst IsCalmStep goes.step_is (step-calm k.code.words h e.hart.mode calm)) in
      comes-step k.code.words plan pace number (TakesThere pace h) 4899 h goes.after goes.probes Ran (ap F due ∙ goes.step_is)
      (at-take pace 4898 h goes.after goes.hart timer)

  -- GIVES
  module _ (pace : HartPace) (h : HartState) (mine : Holding pace h) where
    abbrev GivesThere : QueueCall → HartState → Type 0
    GivesThere = Gives tasks k plan number pace h

    abbrev Comes : ℕ → HartState → Type 0
    Comes steps g = Reaches k.code.words plan pace number steps GivesThere g

    abbrev fuel : ℕ
    fuel = mine.context.body.fuel

    abbrev Mine : ContextState → Type 0
    Mine = IsMine tasks k.code.words number plan pace GivesThere fuel mine.context.body.task_no trap_steps

    -- a ready context that is given costs two less at least than what was held
    abbrev Pays : HartState → ContextState → Type 0
    Pays g d = ready_potential d + timer_potential g + 2 ≤ held_potential plan pace h.held + timer_potential h

    -- at the give of a ready context
    ready-comes : (g : HartState) (d : ContextState) → IsGivingReady tasks number (middle_at k + 4 * give_ready_index) g d → Pays g d → Comes 1 g
    ready-comes g d giving pays =
        let known = wants-give-ready k kernel.linked tasks number g d giving in
        comes-now k.code.words plan pace number GivesThere 0 g GiveReady (give_writes (public 0)) 0 (middle_at k + 4 * take_index)
        (not-due k.code.words plan pace number GivesThere g giving.hart.mode) known
        (record {
          context = d;
          held = giving.held;
          pays = inl (refl, pays);
          then_free = λ early_writes rd next wants. (let same_early_writes : give_writes (public 0) ≡ early_writes = cc (sym known ∙ wants) in
              let same_next : middle_at k + 4 * take_index ≡ next = cc (sym known ∙ wants) in
              let F : List CellWrite → ℕ → Type 0 = λ ws n. Free (answer_give ws n g).hart in
              let P : List CellWrite → Type 0 = λ ws. F ws next in
              let Q : ℕ → Type 0 = λ n. F (give_writes (public 0)) n in
              subst P same_early_writes (subst Q same_next (inl (given-ready k kernel.linked tasks number g d giving).0)));
        })

    -- and of an ended one
    done-comes : (g : HartState) (d : ContextState) → IsGivingDone tasks number (middle_at k + 4 * give_done_index) g d
        → timer_potential g ≤ timer_potential h → Comes 1 g
    done-comes g d giving timer =
        let known = wants-give-done k kernel.linked tasks number g d giving in
        comes-now k.code.words plan pace number GivesThere 0 g GiveDone (give_writes (public 1)) 0 (middle_at k + 4 * (give_done_index + 1))
        (not-due k.code.words plan pace number GivesThere g giving.hart.mode) known
        (record {
          context = d;
          held = giving.held;
          pays = inr (refl, (giving.given.end, giving.given.has_end), timer);
          then_free = λ early_writes rd next wants. (let same_early_writes : give_writes (public 1) ≡ early_writes = cc (sym known ∙ wants) in
              let same_next : middle_at k + 4 * (give_done_index + 1) ≡ next = cc (sym known ∙ wants) in
              let F : List CellWrite → ℕ → Type 0 = λ ws n. Free (answer_give ws n g).hart in
              let P : List CellWrite → Type 0 = λ ws. F ws next in
              let Q : ℕ → Type 0 = λ n. F (give_writes (public 1)) n in
              subst P same_early_writes (subst Q same_next (inr (given-done k kernel.linked tasks number g d giving).0)));
        })

    -- as many steps as there are
    in-trap-steps : (n : ℕ) (g : HartState) → n ≤ trap_steps → Comes n g → Comes trap_steps g
    in-trap-steps n g few comes =
        let P : ℕ → Type 0 = λ m. Comes m g in
        let same : (trap_steps - n) + n ≡ trap_steps = omega (arith, few) in
        subst P same (comes-longer k.code.words plan pace number GivesThere (trap_steps - n) n g comes)

    along : (n : ℕ) (g : HartState) (Mid : HartState → Type 0) → k.save + n + 1 ≤ trap_steps → Arrives k.code.words (k.save + n) Mid g
        → ((f : HartState) → Mid f → Comes 1 f) → Comes trap_steps g
    along n g Mid few arrives further =
        in-trap-steps (k.save + n + 1) g few (comes-along k.code.words plan pace number GivesThere (k.save + n) 1 Mid g arrives further)

    -- what is held then: the same task at the same count
    same-held : (g : HartState) (c d : ContextState) → g.held ≡ Some d → HoldsSame (Some c) g.held
        → (d.body.task_no ≡ c.body.task_no) × (d.body.count ≡ c.body.count)
    same-held g c d held same =
        let P : Option ContextState → Type 0 = λ o. HoldsSame (Some c) o in
        let s = subst P held same in (s.task_no, s.count)

    -- A ready context pays that has executed an instruction since its take, or whose quantum was a listed one, or before whose take the timer
    -- was pending.
    held-is : held_potential plan pace h.held ≡ 2 * (fuel - pace.taken_at + 1) + quantum_potential plan pace
    held-is = ap (held_potential plan pace) mine.held

    no-quantum : quantum_after plan pace.takes ≡ 0 → quantum_potential plan pace ≡ 2
    no-quantum none = by-takes pace.takes mine.some_take none
      where
        past : (xs : List ℕ) (i tail : ℕ) → length xs ≤ i → get_or xs i tail ≡ tail
        past [] i tail low = refl
        past (x ∷ xs) zero tail low = absurd (omega (arith, low))
        past (x ∷ xs) (suc i) tail low = past xs i tail (omega (arith, low))

        by-takes : (takes : ℕ) → 1 ≤ takes → quantum_after plan takes ≡ 0 → two_if (nat_le takes (length plan.quanta)) ≡ 2
        by-takes zero some none = absurd (omega (arith, some))
        by-takes (suc m) some none = by-test (nat_le (suc m) (length plan.quanta)) refl
          where
            by-test : (b : Bool) → nat_le (suc m) (length plan.quanta) ≡ b → two_if b ≡ 2
            by-test true test = refl
            by-test false test =
                let low = leb-false (suc m) (length plan.quanta) test in
                let tail : quantum_of plan m ≡ plan.tail = past plan.quanta m plan.tail (omega (arith, low)) in
                let least = limits.tail_low in
                absurd (omega (arith, none, tail, least))

    pays-later : (c d : ContextState) (f : HartState) → Mine c → d.body.count ≡ c.body.count → d.body.fuel ≡ fuel → f.csrs.is_timer_pending ≡ false
        → pace.taken_at < c.body.count → Pays f d
    pays-later c d f own count same calm later =
        let high = own.high in
        let held = held-is in
        let none = timer-none f calm in
        omega (arith, high, held, none, count, same, later)

    pays-listed : (c d : ContextState) (f : HartState) → Mine c → d.body.count ≡ c.body.count → d.body.fuel ≡ fuel → f.csrs.is_timer_pending ≡ false
        → quantum_potential plan pace ≡ 2 → Pays f d
    pays-listed c d f own count same calm listed =
        let high = own.high in
        let low = own.low in
        let held = held-is in
        let none = timer-none f calm in
        omega (arith, high, low, held, none, count, same, listed)

    pays-pending : (c d : ContextState) (f : HartState) → Mine c → d.body.count ≡ c.body.count → d.body.fuel ≡ fuel → f.csrs.is_timer_pending ≡ false
        → h.csrs.is_timer_pending ≡ true → Pays f d
    pays-pending c d f own count same calm pending =
        let high = own.high in
        let low = own.low in
        let held = held-is in
        let none = timer-none f calm in
        let two = timer-pending h pending in
        omega (arith, high, low, held, none, two, count, same)

    pays-by : (c d : ContextState) (f : HartState) → Mine c → d.body.count ≡ c.body.count → d.body.fuel ≡ fuel → f.csrs.is_timer_pending ≡ false
        → (pace.taken_at < c.body.count) ⊎ (c.body.count ≡ pace.taken_at + quantum_after plan pace.takes) → Pays f d
    pays-by c d f own count same calm (inl later) = pays-later c d f own count same calm later
    pays-by c d f own count same calm (inr reached) = by-quantum (quantum_after plan pace.takes) refl
      where
        by-quantum : (q : ℕ) → quantum_after plan pace.takes ≡ q → Pays f d
        by-quantum zero is = pays-listed c d f own count same calm (no-quantum is)
        by-quantum (suc q) is = pays-later c d f own count same calm (omega (arith, reached, is))

    -- the fuel of what is given
    given-fuel : (c d : ContextState) → Mine c → slice_get tasks c.body.task_no ≡ Some (task_of c.body) → d.body.task_no ≡ c.body.task_no
        → slice_get tasks d.body.task_no ≡ Some (task_of d.body) → d.body.fuel ≡ fuel
    given-fuel c d own is_c same is_d = same-fuel tasks d.body.task_no c.body.task_no (task_of d.body) (task_of c.body) same is_d is_c ∙ own.fuel_is

    -- the ways from the traps
    from-timer : (g : HartState) (c : ContextState) → IsTimerTrap tasks number g c → Mine c
        → ((d : ContextState) (f : HartState) → d.body.count ≡ c.body.count → d.body.fuel ≡ fuel → f.csrs.is_timer_pending ≡ false → Pays f d)
        → Comes trap_steps g
    from-timer g c t own pays =
        let few = kernel.linked.save_limit in
        along 11 g _ (omega (arith, few)) (timer-arrives tasks k kernel number g c t)
        (λ f at. (let d = at.0.0 in
        let giving = at.0.1 in
        let same = same-held f c d giving.held (subst (λ (o : Option ContextState). HoldsSame o f.held) t.trap.held at.1.0.holds) in
        let fuel_is = given-fuel c d own t.trap.is_task same.0 giving.given.ready.body.is_task in
        ready-comes f d giving (pays d f same.1 fuel_is at.1.1)))

    abbrev lead-all : PathsLead
    lead-all = paths-lead steps-taken

    from-done : {n cause : ℕ} (g : HartState) (c : ContextState) (trap : IsAtTrap tasks number n cause g c) (answers : List Bool) (kind : EndKind)
        → length answers ≤ 90 → ((regs : ℕ → Cell) → AreOwn n c regs → EndsDone lead-all k kernel trap regs answers kind)
        → (h.csrs.is_timer_pending ≡ false → g.csrs.is_timer_pending ≡ false) → Comes trap_steps g
    from-done {cause = cause} g c trap answers kind short ends keeps =
        let few = kernel.linked.save_limit in
        along (length answers) g _ (omega (arith, few, short))
        (trap-arrives trap k kernel blank tt (trap_csrs g.csrs cause (pc-of-trap lead-all k kernel trap)) (record c { end = None })
        (csrs-are lead-all k kernel trap)
        (held-is-saved lead-all k kernel trap) answers (GivesEnded tasks k number)
        (λ regs own. done-end lead-all k kernel trap answers kind regs own (ends regs own)))
        (λ f at. done-comes f at.0.0 at.0.1 (timer-low h f (λ calm. at.1.calm (keeps calm))))

    from-ready : (n : ℕ) (g : HartState) (c : ContextState) (call : IsCallTrap tasks number n g c) (given_cell : Cell)
        (truthful : IsTruthful tasks given_cell)
        → (answers : List Bool) → length answers ≤ 90 → ((regs : ℕ → Cell) → AreOwn n c regs
        → EndsSo (trapped_setting tasks n regs c given_cell) number k g.csrs c answers give_ready_index (GivesSome tasks k number))
        → g.csrs.is_timer_pending ≡ false → Mine c → pace.taken_at < c.body.count → Comes trap_steps g
    from-ready n g c call given_cell truthful answers short ends calm own later =
        let few = kernel.linked.save_limit in
        along (length answers) g _ (omega (arith, few, short))
        (trap-arrives call.trap k kernel given_cell truthful g.csrs c refl refl answers (GivesSome tasks k number)
        (λ regs own_regs. one-end call.trap given_cell truthful k answers give_ready_index (GivesSome tasks k number) regs own_regs
        (ends regs own_regs)))
        (λ f at. (let d = at.0.0 in
        let giving = at.0.1 in
        let same = same-held f c d giving.held (subst (λ (o : Option ContextState). HoldsSame o f.held) call.trap.held at.1.holds) in
        let fuel_is = given-fuel c d own call.trap.is_task same.0 giving.given.ready.body.is_task in
        ready-comes f d giving (pays-by c d f own same.1 fuel_is (at.1.calm calm) (inl later))))

    module _ (n : ℕ) (g : HartState) (c : ContextState) (call : IsCallTrap tasks number n g c) (calm : g.csrs.is_timer_pending ≡ false) (own : Mine c)
        (later : pace.taken_at < c.body.count) where
      abbrev a7 : ℕ
      a7 = alone_value (task_of c.body) n (latches.Reg 17)

      by-room : (room : Bool) → nat_lt (length (alone_at (task_of c.body) n).output) c.body.out_max ≡ room → a7 ≡ 1 → Comes trap_steps g
      by-room true e is = from-ready n g c call blank tt out_answers (omega arith) (out-ends k tasks number n g c call is e) calm own later
      by-room false e is =
          from-done g c call.trap out_full_answers kinds.OutFull (omega arith) (out-full-ends lead-all k kernel call is e) (λ start. calm)

      by-word : (word : Option ℕ) → slice_get c.body.tape (alone_at (task_of c.body) n).tape_at ≡ word → a7 ≡ 2 → Comes trap_steps g
      by-word (Some word) e is =
          from-ready n g c call (tape_cell c word) (tape-truthful call word is e) in_answers (omega arith)
          (in-ends k tasks number n g c word call is e) calm own later
      by-word None e is =
          from-done g c call.trap tape_end_answers kinds.TapeEnd (omega arith) (tape-end-ends lead-all k kernel call is e) (λ start. calm)

      by-service : (zero one two three : Bool) → (a7 == 0) ≡ zero → (a7 == 1) ≡ one → (a7 == 2) ≡ two → (a7 == 3) ≡ three → Comes trap_steps g
      by-service true one two three e f x i =
          from-done g c call.trap exit_answers kinds.Exited (omega arith) (exit-ends lead-all k kernel call (eqb-true a7 0 e)) (λ start. calm)
      by-service false true two three e f x i = by-room (nat_lt (length (alone_at (task_of c.body) n).output) c.body.out_max) refl (eqb-true a7 1 f)
      by-service false false true three e f x i = by-word (slice_get c.body.tape (alone_at (task_of c.body) n).tape_at) refl (eqb-true a7 2 x)
      by-service false false false true e f x i =
          from-ready n g c call blank tt yield_answers (omega arith) (yield-ends k tasks number n g c call (eqb-true a7 3 i)) calm own later
      by-service false false false false e f x i =
          from-done g c call.trap bad_call_answers (kinds.BadCall a7) (omega arith)
          (bad-call-ends lead-all k kernel call (eqb-false a7 0 e) (eqb-false a7 1 f) (eqb-false a7 2 x) (eqb-false a7 3 i)) (λ start. calm)

      from-call : Comes trap_steps g
      from-call = by-service (a7 == 0) (a7 == 1) (a7 == 2) (a7 == 3) refl refl refl refl

    from-fuel : (g : HartState) (c : ContextState) → IsFuelTrap tasks number g c → (h.csrs.is_timer_pending ≡ false → g.csrs.is_timer_pending ≡ false)
        → Comes trap_steps g
    from-fuel g c t keeps = from-done g c t.trap fuel_answers kinds.OutOfSteps (omega arith) (fuel-ends lead-all k kernel t) keeps

    from-traps : FromTraps tasks k.code.words number plan pace GivesThere fuel mine.context.body.task_no trap_steps
    from-traps = record {
      timer = λ g c t own how. from-timer g c t own (λ d f count same calm. pays-by c d f own count same calm how);
      fuel_used = λ g c t calm. from-fuel g c t (λ start. calm);
      fault = λ n cause g c t calm. from-done g c t.trap fault_answers (kinds.Faulted cause) (omega arith) (fault-ends lead-all k kernel t)
          (λ start. calm);
      call = λ n g c t calm own later. from-call n g c t calm own later;
    }

    -- in user mode, as the take left it
    abbrev quantum : ℕ
    quantum = quantum_after plan pace.takes

    own-context : mine.context.body.count ≤ fuel → Mine mine.context
    own-context within = let at = mine.taken_at in record { task = refl; fuel_is = refl; low = omega (arith, at); high = within }

    from-user : (g : HartState) → IsUserState tasks number g mine.context → (pending : Bool) → g.csrs.is_timer_pending ≡ pending → IsAfter h g
        → Comes (quantum + suc trap_steps) g
    from-user g user false calm after =
        let at = mine.taken_at in
        user-comes tasks k.code.words number plan pace GivesThere fuel mine.context.body.task_no trap_steps from-traps quantum g mine.context user
        calm (own-context user.within) (omega (arith, at))
    from-user g user true pending after =
        let was = was-pending h.csrs.is_timer_pending refl in
        comes-longer k.code.words plan pace number GivesThere quantum (suc trap_steps) g
        (pending-comes tasks k.code.words number plan pace GivesThere fuel mine.context.body.task_no trap_steps g mine.context user pending
        (λ f t. from-fuel f mine.context t (λ calm. absurd (cc (was, calm))))
        (λ f t. from-timer f mine.context t (own-context user.within)
        (λ d x count same calm. pays-pending mine.context d x (own-context user.within) count same calm was)))
      where
        was-pending : (b : Bool) → h.csrs.is_timer_pending ≡ b → h.csrs.is_timer_pending ≡ true
        was-pending true is = is
        was-pending false is = absurd (cc (pending, after.calm is))

    quantum-low : quantum_after plan pace.takes ≤ 4096
    quantum-low = by-takes pace.takes
      where
        listed : (xs : List ℕ) (tail i : ℕ) → ((j : ℕ) (d : ℕ) → j < length xs → get_or xs j d ≤ 4096) → tail ≤ 4096 → get_or xs i tail ≤ 4096
        listed xs tail i each low = by-test (nat_lt i (length xs)) refl
          where
            past : (ys : List ℕ) (j : ℕ) → length ys ≤ j → get_or ys j tail ≡ tail
            past [] j le = refl
            past (y ∷ ys) zero le = absurd (omega (arith, le))
            past (y ∷ ys) (suc j) le = past ys j (omega (arith, le))

            by-test : (b : Bool) → nat_lt i (length xs) ≡ b → get_or xs i tail ≤ 4096
            by-test true test = each i tail (ltb-true i (length xs) test)
            by-test false test = (let same = past xs i (ltb-false i (length xs) test) in omega (arith, same, low))

        by-takes : (takes : ℕ) → quantum_after plan takes ≤ 4096
        by-takes zero = omega arith
        by-takes (suc m) = listed plan.quanta plan.tail m (λ j d low. limits.quanta j d low) limits.tail_high

    comes-back : Comes turn_steps h
    comes-back =
        let few = kernel.linked.restore_limit in
        let low = quantum-low in
        let n = restore_steps k in
        let m = quantum + suc trap_steps in
        let comes = comes-along k.code.words plan pace number GivesThere n m (λ g. IsUserState tasks number g mine.context × IsAfter h g) h mine.way
        (λ g at. from-user g at.0 g.csrs.is_timer_pending refl at.1) in
        let P : ℕ → Type 0 = λ steps. Comes steps h in
        let same : (turn_steps - (n + m)) + (n + m) ≡ turn_steps = omega (arith, few, low) in
        subst P same (comes-longer k.code.words plan pace number GivesThere (turn_steps - (n + m)) (n + m) h comes)

  -- A hart from one action to the next.
  pub each-turn : EachTurn tasks k plan number
  each-turn = record { finds = finds; returns = λ pace h mine. comes-back pace h mine }
