-- A save part or a restore part without ticks: its harts stay in machine mode until its end.
use Rattle.std.proofs.Common.{ℕ, zero, suc, inr, Bool, false, List, replicate}
use Rattle.isa_model.specs.declared.task.Task.{Task}
use Rattle.hart_model.specs.Context.{ContextState}
use Rattle.hart_model.specs.HartState.{HartState}
use Rattle.hart_model.specs.Writes.{HartAndProbes}
use Rattle.core_model.specs.Routines.{part_step, run_of_part, ComesTo}
use Rattle.symbolic_run.proofs.PartRuns.{comes-map, after_probes, then-came, step-of-part}
use Rattle.core_invariant.proofs.PartModes.{IsInPart, part-machine, part-next}
use Rattle.order_laws.specs.Arrives.{Arrives}

-- no tick before each of so many words
abbrev pub without_ticks : ℕ → List Bool
without_ticks words = replicate words false

module _ (tasks : List Task) (code : List ℕ) (number : ℕ) (c : ContextState) where
  -- A hart with the words of a part before it arrives where they end.
  pub part-arrives : (There : HartState → Type 0) (words : ℕ) (h : HartState) → IsInPart tasks code number c words h
      → ComesTo (λ a. There a.hart) (run_of_part code (without_ticks words) h) → Arrives code words There h
  part-arrives There zero h at ends = ends
  part-arrives There (suc words) h at ends =
      let Ends : HartAndProbes → Type 0 = λ a. There a.hart in
      let first = then-came Ends (part_step code h) (λ g. run_of_part code (without_ticks words) g) ends in
      let step = step-of-part code h first.0 first.1 in
      inr (
        part-machine tasks code number c words false h first.0 at first.1,
        record {
          after = first.0.hart;
          probes = first.0.probes;
          did = step.did;
          step_is = step.step_is;
          there = part-arrives There words first.0.hart (part-next tasks code number c words false h first.0 at first.1)
              (comes-map (λ a. Ends (after_probes first.0.probes a)) Ends (run_of_part code (without_ticks words) first.0.hart) (λ a is. is) first.2);
        },
      )
