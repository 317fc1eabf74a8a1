-- Runs of a kernel's part: what they come to in general, and along a path that is followed.
use Rattle.std.proofs.Common.{◌≡◌, ℕ, suc, ◌+◌, ◌*◌, ◌≤◌, Bool, true, false, ◌||◌, List, [], ◌∷◌, ◌++◌, length, All, Option, Some, None, refl, sym, ap, subst, ◌∙◌, ◌==◌, if◌then◌else◌, arith}
use Rattle.std.specs.List.{list_all}
use Rattle.std.proofs.lemmas.Bool.{eqb-true}
use Rattle.std.proofs.lemmas.List.Elements.{All-nil, All-append}
use Rattle.isa_model.specs.declared.instr.Instr.{Instr}
use Rattle.hart_model.specs.declared.calls.Did.{Did}
use Rattle.hart_model.specs.declared.probe.Probe.{Probe}
use Rattle.hart_model.specs.Context.{ContextState}
use Rattle.hart_model.specs.HartState.{HartState}
use Rattle.hart_model.specs.StepResult.{StepResult, Steps, Wants, Wedged}
use Rattle.hart_model.specs.Writes.{HartAndProbes}
use Rattle.hart_model.specs.HartStep.{hart_step}
use Rattle.core_model.specs.Explained.{IsExplained}
use Rattle.core_model.specs.Routines.{ticked_if, has_tick, HoldsSame, next_word, is_at_port, part_step, with_probes, then_run, run_of_part, ComesTo}
use Rattle.symbolic_run.specs.Concretization.{Valuation, IsSound}
use Rattle.symbolic_run.specs.SymbolicPath.{PathState, Path, path_from, StandAt, IsAsPathSays}
use Rattle.symbolic_run.proofs.Ways.{holds-then, holds-same}
use Rattle.symbolic_run.proofs.PathSays.{path-says-ticked}
use Rattle.symbolic_run.proofs.PathParts.{no-more, next_path, first-parts}
use Rattle.symbolic_run.proofs.PartSteps.{is_of_part, is-of-part, IsPartStepped, part-steps}

-- a run that comes to something comes to whatever follows from it
pub comes-map : (There Other : HartAndProbes → Type 0) (o : Option HartAndProbes) → ((a : HartAndProbes) → There a → Other a) → ComesTo There o → ComesTo Other o
comes-map There Other None other comes = absurd comes
comes-map There Other (Some a) other comes = other a comes

-- and to two things at once
pub comes-both : (There Other : HartAndProbes → Type 0) (o : Option HartAndProbes) → ComesTo There o → ComesTo Other o → ComesTo (λ a. There a × Other a) o
comes-both There Other None comes too = absurd comes
comes-both There Other (Some a) comes too = (comes, too)

-- a hart and entries, after some entries
abbrev pub after_probes : List Probe → HartAndProbes → HartAndProbes
after_probes probes a = record { hart = a.hart; probes = probes ++ a.probes }

-- a run from its first step on
with-comes : (There : HartAndProbes → Type 0) (probes : List Probe) (o : Option HartAndProbes) → ComesTo (λ a. There (after_probes probes a)) o
    → ComesTo There (with_probes probes o)
with-comes There probes None comes = absurd comes
with-comes There probes (Some a) comes = comes

with-came : (There : HartAndProbes → Type 0) (probes : List Probe) (o : Option HartAndProbes) → ComesTo There (with_probes probes o)
    → ComesTo (λ a. There (after_probes probes a)) o
with-came There probes None comes = absurd comes
with-came There probes (Some a) comes = comes

pub then-comes : (There : HartAndProbes → Type 0) (o : Option HartAndProbes) (more : HartState → Option HartAndProbes) (first : HartAndProbes)
    → o ≡ Some first → ComesTo (λ a. There (after_probes first.probes a)) (more first.hart) → ComesTo There (then_run o more)
then-comes There o more first e comes =
    let P : Option HartAndProbes → Type 0 = λ x. ComesTo There (then_run x more) in
    subst P (sym e) (with-comes There first.probes (more first.hart) comes)

-- a run that comes to something has a first step, and comes to it from there
pub then-came : (There : HartAndProbes → Type 0) (o : Option HartAndProbes) (more : HartState → Option HartAndProbes) → ComesTo There (then_run o more)
    → (first : HartAndProbes) × (o ≡ Some first) × ComesTo (λ a. There (after_probes first.probes a)) (more first.hart)
then-came There None more comes = absurd comes
then-came There (Some first) more comes = (first, refl, with-came There first.probes (more first.hart) comes)

-- a step of a part is one of the hart, to the word after the pc
pub record IsStepOfPart (code : List ℕ) (h : HartState) (a : HartAndProbes) : Type 0 where
  pub did : Did
  pub step_is : hart_step code h ≡ Steps a.hart a.probes did
  pub next : a.hart.pc ≡ h.pc + 4
  pub no_port : is_at_port code h ≡ false

next-by : (code : List ℕ) (h : HartState) (a : HartAndProbes) (step : StepResult) → is_at_port code h ≡ false → hart_step code h ≡ step → next_word h.pc step ≡ Some a
    → IsStepOfPart code h a
next-by code h a (Wants call early_writes rd next) port is e = absurd (cc e)
next-by code h a Wedged port is e = absurd (cc e)
next-by code h a (Steps g probes did) port is e = by-test (g.pc == h.pc + 4) refl e
  where
    by-test : (b : Bool) → (g.pc == h.pc + 4) ≡ b → (if b then Some (record { hart = g; probes = probes }) else None) ≡ Some a → IsStepOfPart code h a
    by-test false test e = absurd (cc e)
    by-test true test e =
        let same : record { hart = g; probes = probes } ≡ a = cc e in
        let P : HartAndProbes → Type 0 = λ x. IsStepOfPart code h x in
        subst P same (record { did = did; step_is = is; next = eqb-true g.pc (h.pc + 4) test; no_port = port })

pub step-of-part : (code : List ℕ) (h : HartState) (a : HartAndProbes) → part_step code h ≡ Some a → IsStepOfPart code h a
step-of-part code h a e = by-port (is_at_port code h) refl e
  where
    by-port : (b : Bool) → is_at_port code h ≡ b → (if b then None else next_word h.pc (hart_step code h)) ≡ Some a → IsStepOfPart code h a
    by-port true port e = absurd (cc e)
    by-port false port e = next-by code h a (hart_step code h) port refl e

-- a tick leaves the pc
pc-ticked : (ticked : Bool) (h : HartState) → (ticked_if ticked h).pc ≡ h.pc
pc-ticked true h = refl
pc-ticked false h = refl

-- A run that comes to something ends so many words further on.
pub run-pc : (There : HartAndProbes → Type 0) (code : List ℕ) (ticks : List Bool) (h : HartState) → ComesTo There (run_of_part code ticks h)
    → ComesTo (λ a. a.hart.pc ≡ h.pc + 4 * length ticks) (run_of_part code ticks h)
run-pc There code [] h comes = omega arith
run-pc There code (ticked ∷ ticks) h comes =
    let first = then-came There (part_step code (ticked_if ticked h)) (λ g. run_of_part code ticks g) comes in
    let step = step-of-part code (ticked_if ticked h) first.0 first.1 in
    let same = pc-ticked ticked h in
    let next = step.next in
    then-comes (λ a. a.hart.pc ≡ h.pc + 4 * length (ticked ∷ ticks)) (part_step code (ticked_if ticked h)) (λ g. run_of_part code ticks g) first.0 first.1
    (comes-map (λ a. a.hart.pc ≡ first.0.hart.pc + 4 * length ticks) (λ a. a.hart.pc ≡ h.pc + 4 * suc (length ticks)) (run_of_part code ticks first.0.hart)
    (λ a e. omega (arith, e, same, next))
    (run-pc (λ a. There (after_probes first.0.probes a)) code ticks first.0.hart first.2))

-- a part goes one way
pub same-step : (code : List ℕ) (h : HartState) (a b : HartAndProbes) → part_step code h ≡ Some a → part_step code h ≡ Some b → b ≡ a
same-step code h a b e f = let same : Some b ≡ Some a = cc (e, f) in cc same

-- the same task is held before and after
pub holds-back : (a b : Option ContextState) → HoldsSame a b → HoldsSame b a
holds-back None None same = tt
holds-back None (Some d) same = absurd same
holds-back (Some c) None same = absurd same
holds-back (Some c) (Some d) same = record { task_no = sym same.task_no; slot = sym same.slot; count = sym same.count }

-- ticks before a step
pub held-ticked : (ticked : Bool) (h : HartState) → (ticked_if ticked h).held ≡ h.held
held-ticked true h = refl
held-ticked false h = refl

pending-ticked : (ticked : Bool) (h : HartState) (more : Bool)
    → (ticked_if ticked h).csrs.is_timer_pending || more ≡ h.csrs.is_timer_pending || (ticked || more)
pending-ticked true h more = true-anyway h.csrs.is_timer_pending
  where
    true-anyway : (b : Bool) → true ≡ b || true
    true-anyway true = refl
    true-anyway false = refl
pending-ticked false h more = refl

no-tick : (b : Bool) → b ≡ b || false
no-tick true = refl
no-tick false = refl

-- What a run along a path comes to: a hart that is as a state says, with the same task, explained entries, and the ticks pending.
pub record IsOnPath (s : Valuation) (number base : ℕ) (ticks : List Bool) (h : HartState) (q : PathState) (a : HartAndProbes) : Type 0 where
  pub says : IsAsPathSays s number base q a.hart
  pub explained : All (IsExplained s.tasks) a.probes
  pub holds : HoldsSame h.held a.hart.held
  pub pending : a.hart.csrs.is_timer_pending ≡ h.csrs.is_timer_pending || has_tick ticks

module _ (may_reach : ℕ → Bool) (s : Valuation) (ok : IsSound s) (number base : ℕ) (code : List ℕ) (instrs : List Instr) (stand : StandAt code base instrs)
    (all : list_all is_of_part instrs ≡ true) where
  -- After each number of instructions; after all of them it is as the end of the path says.
  pub part-runs : (answers ticks : List Bool) (start path : Path) (h : HartState) → path_from may_reach s instrs answers (Some start) ≡ Some path
      → IsAsPathSays s number base start.end h → length ticks ≤ length answers
      → ComesTo (λ a. (q : PathState) × IsOnPath s number base ticks h q a × (length ticks ≡ length answers → q ≡ path.end)) (run_of_part code ticks h)
  part-runs [] [] start path h e says le = (
    start.end,
    record { says = says; explained = All-nil (IsExplained s.tasks); holds = holds-same h.held; pending = no-tick h.csrs.is_timer_pending },
    λ same. ap (λ (x : Path). x.end) (no-more may_reach s instrs start path e),
  )
  part-runs (taken ∷ answers) [] start path h e says le = (
    start.end,
    record { says = says; explained = All-nil (IsExplained s.tasks); holds = holds-same h.held; pending = no-tick h.csrs.is_timer_pending },
    λ same. absurd (omega (arith, same)),
  )
  part-runs [] (ticked ∷ ticks) start path h e says le = absurd (omega (arith, le))
  part-runs (taken ∷ answers) (ticked ∷ ticks) start path h e says le =
      let first = first-parts may_reach s instrs start taken answers path e in
      let g = ticked_if ticked h in
      let p = start.end in
      let of = is-of-part instrs p.index first.instr all first.is_instr in
      let one : IsPartStepped s number base code p first.step first.cells g =
      part-steps may_reach s ok number base code instrs stand p taken first.instr first.step first.cells g first.is_instr of first.is_step first.are_cells
      (path-says-ticked s number base p ticked h says) in
      let a : HartAndProbes = record { hart = one.after; probes = one.probes } in
      let more = part-runs answers ticks (next_path first.step first.cells) first.rest one.after first.is_rest one.says (omega (arith, le)) in
      let Mid : HartAndProbes → Type 0 = λ b. (q : PathState) × IsOnPath s number base ticks one.after q b × (length ticks ≡ length answers → q ≡ first.rest.end) in
      let There : HartAndProbes → Type 0 =
      λ b. (q : PathState) × IsOnPath s number base (ticked ∷ ticks) h q b × (length (ticked ∷ ticks) ≡ length (taken ∷ answers) → q ≡ path.end) in
      let Held : Option ContextState → Type 0 = λ o. HoldsSame o one.after.held in
      then-comes There (part_step code g) (λ f. run_of_part code ticks f) a one.part_is
      (comes-map Mid (λ b. There (after_probes one.probes b)) (run_of_part code ticks one.after)
      (λ b on. (
        on.0,
        record {
          says = on.1.says;
          explained = All-append (IsExplained s.tasks) one.probes b.probes one.explained on.1.explained;
          holds = holds-then h.held one.after.held b.hart.held (subst Held (held-ticked ticked h) one.holds) on.1.holds;
          pending = on.1.pending ∙ ap (λ x. x || has_tick ticks) one.pending ∙ pending-ticked ticked h (has_tick ticks);
        },
        λ same. on.2 (omega (arith, same)) ∙ ap (λ (x : Path). x.end) (sym first.is_path),
      )) more)
