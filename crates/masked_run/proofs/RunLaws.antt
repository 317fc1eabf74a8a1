-- From one instruction to the next.
use Rattle.std.proofs.Common.{◌≡◌, ℕ, suc, ◌<◌, length, ◌+◌, Bool, List, Option, Some, None, refl, ap, sym, ◌∙◌, subst, arith}
use Rattle.std.specs.Prelude.{option_map}
use Rattle.isa_model.specs.declared.task.Task.{Task}
use Rattle.isa_model.specs.declared.ends.End.{End}
use Rattle.isa_model.specs.Alone.{AloneState, alone_at, after_instr, unless_ended, fuel_checked_state}
use Rattle.isa_model.specs.Control.{kind_of}
use Rattle.isa_model.specs.declared.latch.Latch.{Latch}
use Rattle.tape_terms.specs.Values.{value_of}
use Rattle.tape_terms.specs.declared.term.Term.{Term}
use Rattle.masked_run.specs.declared.latches.Latches.{Latches}
use Rattle.masked_run.specs.declared.machine.Machine.{Machine}
use Rattle.masked_run.specs.Places.{term_at, AreIn}
use Rattle.masked_run.specs.Standing.{StandsFor, Stands, Steps, with_tape}

no-end : (e : Option End) → None ≡ option_map kind_of e → e ≡ None
no-end None is = refl
no-end (Some x) is = absurd (cc is)

pub state-runs : (terms : List Term) (tape : List ℕ) (s : AloneState) (m : Machine) → m.end ≡ None → StandsFor terms tape s m → s.end ≡ None
state-runs terms tape s m runs h = no-end s.end (sym runs ∙ h.end)

alone-next : (U : Task) (n : ℕ) → (alone_at U n).end ≡ None → alone_at U (n + 1) ≡ fuel_checked_state U (n + 1) (after_instr U (alone_at U n)).state
unfolding alone_at
alone-next U n is =
    let one : n + 1 ≡ suc n = omega arith in
    ap (alone_at U) one ∙ ap (λ (e : Option End). unless_ended U (n + 1) e (alone_at U n)) is

pub advanced : (T : Task) (fixed : List Bool) (n k : ℕ) (old new : List Term) (m mid after : Machine) → m.end ≡ None → Stands T fixed n old m
    → Steps T fixed (λ U s. (after_instr U s).state) old m new mid
    → ((terms : List Term) (tape : List ℕ) (s : AloneState) → StandsFor terms tape s mid → StandsFor terms tape (fuel_checked_state (with_tape T tape) (k + 1) s) after)
    → k ≡ n → after.latches ≡ mid.latches → Stands T fixed (n + 1) new after
advanced T fixed n k old new m mid after runs stands steps checks counted same = record {
  places = subst (λ (x : Latches). AreIn new (term_at x)) (sym same) steps.places;
  on_tapes = λ tape is.
      let U = with_tape T tape in
      let s = alone_at U n in
      let h = stands.on_tapes tape is in
      subst (λ (z : AloneState). StandsFor new tape z after) (ap (λ (j : ℕ). fuel_checked_state U (j + 1) (after_instr U s).state) counted ∙ sym (alone-next U n (state-runs old tape s m runs h)))
      (checks new tape (after_instr U s).state (steps.on_tapes tape is s h));
}

pub starts : (T : Task) (fixed : List Bool) (terms : List Term) (m : Latches) (t : ℕ) → ((l : Latch) → term_at m l ≡ t) → t < length terms
    → ((tape : List ℕ) → value_of terms tape t ≡ 0) → Stands T fixed 0 terms (record { latches = m; pc = T.code_at; output = 0; tape_at = 0; end = None })
unfolding alone_at
starts T fixed terms m t all low zeros = record {
  places = λ l. subst (λ (i : ℕ). i < length terms) (sym (all l)) low;
  on_tapes = λ tape is. record { values = λ l. ap (value_of terms tape) (all l) ∙ zeros tape; pc = refl; output = refl; tape_at = refl; end = refl };
}
