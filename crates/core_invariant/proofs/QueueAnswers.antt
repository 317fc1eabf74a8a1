-- Harts at the ports of the queue and in the idle loop: what they want, and that each answer leaves them on their way.
use Rattle.std.proofs.Common.{◌≡◌, ℕ, ◌+◌, ◌*◌, inl, inr, Bool, List, [], Option, Some, None, refl, ap, subst}
use Rattle.isa_model.specs.declared.task.Task.{Task}
use Rattle.hart_model.specs.declared.calls.Did.{Did}
use Rattle.hart_model.specs.declared.calls.Did.TheVariants.{Ran}
use Rattle.hart_model.specs.declared.calls.QueueCall.TheVariants.{Take, GiveReady, GiveDone}
use Rattle.hart_model.specs.declared.probe.Probe.{Probe}
use Rattle.hart_model.specs.declared.place.Place.TheVariants as places
use Rattle.hart_model.specs.Csrs.{public}
use Rattle.hart_model.specs.Context.{ContextState, slot_address, task_of}
use Rattle.hart_model.specs.HartState.{HartState, hart_cell}
use Rattle.hart_model.specs.Writes.{CellWrite}
use Rattle.hart_model.specs.StepResult.{StepResult, Steps, Wants}
use Rattle.hart_model.specs.HartStep.{hart_step, answer_take, answer_give}
use Rattle.core_model.specs.Board.{OutEntry}
use Rattle.core_model.specs.Soundness.{entries_held}
use Rattle.symbolic_run.specs.Laws.{PathsLead}
use Rattle.core_model.specs.Routines.{ticked_if, IsReadyContext}
use Rattle.symbolic_run.specs.Ways.{GoesOnTo, Leads}
use Rattle.symbolic_run.proofs.Ways.{leads-then}
use Rattle.core_invariant.specs.KernelStates.{KernelParts, IsKernel, middle_at, idle_at, mret_at, give_ready_index, give_done_index, take_index}
use Rattle.core_invariant.specs.CutPoints.{IsEmptyHanded, IsGivingReady, IsGivingDone, IsAtCutPoint, IsOnItsWay}
use Rattle.core_invariant.specs.OneHart.{IsKept, IsGot, GivesReady, GivesDone}
use Rattle.core_invariant.proofs.Waiting.{empty-sound, empty-ticked}
use Rattle.core_invariant.proofs.Gives.{give_writes, wants-give-ready, wants-give-done, given-ready, given-done}
use Rattle.core_invariant.proofs.Idle.{goes-on-empty, jumps-to-take, branches-to-idle, idles}
use Rattle.core_invariant.proofs.Takes.{take_early_writes, wants-take, after-take, taken-x5, x5-ticked}
use Rattle.core_invariant.proofs.TakenStands.{taken_setting, taken-setting-sound, pc_of, taken-stands}
use Rattle.core_invariant.proofs.TakenPath.{IsRestored, task_csrs, to-mret}
use Rattle.core_invariant.proofs.Returns.{returns}

-- what is kept after a step that is known is so of the same step in other words
pub kept-as : {tasks : List Task} {k : KernelParts} {number : ℕ} {out : List OutEntry} (step : StepResult) (f g : HartState) (ps qs : List Probe) (d e : Did)
    → step ≡ Steps f ps d → step ≡ Steps g qs e → IsKept tasks k number out (record { hart = f; probes = ps })
    → IsKept tasks k number out (record { hart = g; probes = qs })
kept-as {tasks = tasks} {k = k} {number = number} {out = out} step f g ps qs d e known is kept =
    let Hart : HartState → Type 0 = λ x. IsKept tasks k number out (record { hart = x; probes = qs }) in
    let Probes : List Probe → Type 0 = λ x. IsKept tasks k number out (record { hart = f; probes = x }) in
    let same_hart : f ≡ g = cc (known, is) in
    let same_probes : ps ≡ qs = cc (known, is) in
    subst Hart same_hart (subst Probes same_probes kept)

module _ (k : KernelParts) (kernel : IsKernel k) (tasks : List Task) (number : ℕ) where
  -- what a hart at the take and in the idle loop is, among the starts
  at-take : (g : HartState) → IsEmptyHanded tasks number (middle_at k + 4 * take_index) g → IsAtCutPoint tasks k number g
  at-take g e = inr (inr (inr (inl e)))

  at-idle : (g : HartState) → IsEmptyHanded tasks number (idle_at k) g → IsAtCutPoint tasks k number g
  at-idle g e = inr (inr (inr (inr e)))

  -- after the give of an ended task
  way-to-take : (h : HartState) → IsEmptyHanded tasks number (middle_at k + 4 * (give_done_index + 1)) h → IsOnItsWay tasks k number h
  way-to-take h e = (1, inr (empty-sound tasks number (middle_at k + 4 * (give_done_index + 1)) h e, goes))
    where
      goes : (ticked : Bool) → GoesOnTo tasks h (IsAtCutPoint tasks k number) (hart_step k.code.words (ticked_if ticked h))
      goes ticked =
          let at = middle_at k + 4 * (give_done_index + 1) in
          let f = empty-ticked tasks number at ticked h e in
          let there = jumps-to-take k kernel.linked tasks number (ticked_if ticked h) f in
          goes-on-empty tasks number at (middle_at k + 4 * take_index) h (hart_step k.code.words (ticked_if ticked h))
          (IsAtCutPoint tasks k number) e there (λ g o. at-take g o)

  -- after an empty take
  way-to-idle : (h : HartState) → IsEmptyHanded tasks number (middle_at k + 4 * (take_index + 1)) h → hart_cell h (places.Reg 5) ≡ public 0
      → IsOnItsWay tasks k number h
  way-to-idle h e x5 = (1, inr (empty-sound tasks number (middle_at k + 4 * (take_index + 1)) h e, goes))
    where
      goes : (ticked : Bool) → GoesOnTo tasks h (IsAtCutPoint tasks k number) (hart_step k.code.words (ticked_if ticked h))
      goes ticked =
          let at = middle_at k + 4 * (take_index + 1) in
          let f = empty-ticked tasks number at ticked h e in
          let there = branches-to-idle k kernel.linked tasks number (ticked_if ticked h) f (x5-ticked ticked h (public 0) x5) in
          goes-on-empty tasks number at (idle_at k) h (hart_step k.code.words (ticked_if ticked h))
          (IsAtCutPoint tasks k number) e there (λ g o. at-idle g o)

  -- a hart that gives a ready context is then at the take
  pub gives-ready-kept : (h : HartState) (c : ContextState) (early_writes : List CellWrite) (rd next : ℕ)
      → IsGivingReady tasks number (middle_at k + 4 * give_ready_index) h c
      → hart_step k.code.words h ≡ Wants GiveReady early_writes rd next → GivesReady tasks k number h early_writes next
  gives-ready-kept h c early_writes rd next g wants =
      let known = wants-give-ready k kernel.linked tasks number h c g in
      let same_early_writes : give_writes (public 0) ≡ early_writes = cc (known, wants) in
      let same_next : middle_at k + 4 * take_index ≡ next = cc (known, wants) in
      let given = given-ready k kernel.linked tasks number h c g in
      let P : List CellWrite → Type 0 = λ ws. GivesReady tasks k number h ws next in
      let Q : ℕ → Type 0 = λ n. GivesReady tasks k number h (give_writes (public 0)) n in
      subst P same_early_writes (subst Q same_next (record {
        context = c;
        held = g.held;
        given = g.given;
        after = record { hart = (0, at-take _ given.0); explained = given.1; holds = refl };
      }))

  -- one that gives an ended context comes to the take
  pub gives-done-kept : (h : HartState) (c : ContextState) (early_writes : List CellWrite) (rd next : ℕ)
      → IsGivingDone tasks number (middle_at k + 4 * give_done_index) h c
      → hart_step k.code.words h ≡ Wants GiveDone early_writes rd next → GivesDone tasks k number h early_writes next
  gives-done-kept h c early_writes rd next g wants =
      let known = wants-give-done k kernel.linked tasks number h c g in
      let same_early_writes : give_writes (public 1) ≡ early_writes = cc (known, wants) in
      let same_next : middle_at k + 4 * (give_done_index + 1) ≡ next = cc (known, wants) in
      let given = given-done k kernel.linked tasks number h c g in
      let P : List CellWrite → Type 0 = λ ws. GivesDone tasks k number h ws next in
      let Q : ℕ → Type 0 = λ n. GivesDone tasks k number h (give_writes (public 1)) n in
      subst P same_early_writes (subst Q same_next (record {
        context = c;
        held = g.held;
        given = g.given;
        after = record {
          hart = way-to-take (answer_give (give_writes (public 1)) (middle_at k + 4 * (give_done_index + 1)) h).hart given.0;
          explained = given.1;
          holds = refl;
        };
      }))

  -- one in the idle loop stays there
  pub idle-step : (h g : HartState) (probes : List Probe) (did : Did) → IsEmptyHanded tasks number (idle_at k) h → hart_step k.code.words h ≡ Steps g probes did
      → IsKept tasks k number [] (record { hart = g; probes = probes })
  idle-step h g probes did e step =
      let there = idles k kernel.linked tasks number h e in
      kept-as (hart_step k.code.words h) there.after g there.probes probes Ran did there.step_is step (record {
        hart = (0, at-idle there.after there.hart);
        explained = there.explained;
        holds = ap (entries_held number) there.hart.held;
      })

  -- the answers to a take, where there was nothing, and where there was a context
  pub takes-none : (h : HartState) → IsEmptyHanded tasks number (middle_at k + 4 * take_index) h
      → IsKept tasks k number [] (answer_take take_early_writes 5 (middle_at k + 4 * (take_index + 1)) None h)
  takes-none h e =
      let after = after-take k kernel.linked tasks number h None e in
      record {
        hart = way-to-idle (answer_take take_early_writes 5 (middle_at k + 4 * (take_index + 1)) None h).hart
            (record { hart = after.0; held = refl }) (taken-x5 h (public 0) e.hart.registers);
        explained = after.1;
        holds = refl;
      }

  pub takes-some : PathsLead → (h : HartState) (c : ContextState) → IsEmptyHanded tasks number (middle_at k + 4 * take_index) h → IsReadyContext tasks c
      → IsKept tasks k number (entries_held number (Some c)) (answer_take take_early_writes 5 (middle_at k + 4 * (take_index + 1)) (Some c) h)
  takes-some paths-lead h c e r =
      let after = after-take k kernel.linked tasks number h (Some c) e in
      let f = (answer_take take_early_writes 5 (middle_at k + 4 * (take_index + 1)) (Some c) h).hart in
      let s = taken_setting tasks c in
      let ok = taken-setting-sound tasks c r in
      let stands = taken-stands tasks c r k number f after.0 refl (taken-x5 h (public (slot_address c.slot)) e.hart.registers) in
      let way : Leads tasks k.code.words number (12 + k.restore + 1) (IsAtCutPoint tasks k number) f =
      leads-then tasks k.code.words number (12 + k.restore) 1
      (IsRestored tasks number (mret_at k) (task_csrs (task_of c.body) (pc_of c) f.csrs) c) (IsAtCutPoint tasks k number) f
      (to-mret k kernel paths-lead tasks number c r f.csrs f stands)
      (λ g at. returns k kernel.linked tasks number c r f.csrs after.0.bound_registers g at) in
      record { hart = (12 + k.restore + 1, way); explained = after.1; holds = refl }

  takes : PathsLead → (h : HartState) (got : Option ContextState) → IsEmptyHanded tasks number (middle_at k + 4 * take_index) h → IsGot tasks got
      → IsKept tasks k number (entries_held number got) (answer_take take_early_writes 5 (middle_at k + 4 * (take_index + 1)) got h)
  takes paths-lead h None e got = takes-none h e
  takes paths-lead h (Some c) e got = takes-some paths-lead h c e got

  -- a hart that takes is on its way with what it got
  pub takes-kept : PathsLead → (h : HartState) (early_writes : List CellWrite) (rd next : ℕ) (got : Option ContextState)
      → IsEmptyHanded tasks number (middle_at k + 4 * take_index) h
      → hart_step k.code.words h ≡ Wants Take early_writes rd next → IsGot tasks got
      → IsKept tasks k number (entries_held number got) (answer_take early_writes rd next got h)
  takes-kept paths-lead h early_writes rd next got e wants ready =
      let known = wants-take k kernel.linked tasks number h e in
      let same_early_writes : take_early_writes ≡ early_writes = cc (known, wants) in
      let same_rd : 5 ≡ rd = cc (known, wants) in
      let same_next : middle_at k + 4 * (take_index + 1) ≡ next = cc (known, wants) in
      let P : List CellWrite → Type 0 = λ ws. IsKept tasks k number (entries_held number got) (answer_take ws rd next got h) in
      let Q : ℕ → Type 0 = λ r. IsKept tasks k number (entries_held number got) (answer_take take_early_writes r next got h) in
      let R : ℕ → Type 0 = λ n. IsKept tasks k number (entries_held number got) (answer_take take_early_writes 5 n got h) in
      subst P same_early_writes (subst Q same_rd (subst R same_next (takes paths-lead h got e ready)))
