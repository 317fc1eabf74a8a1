-- A part of a kernel of which each run is sound up to each word leads a hart to where its runs end.
use Rattle.std.proofs.Common.{◌≡◌, ℕ, zero, suc, ◌+◌, ◌-◌, ◌≤◌, inr, Bool, List, [], ◌∷◌, ◌++◌, length, get_or, All, Some, refl, ap, subst, ◌∙◌, arith}
use Rattle.std.proofs.lemmas.List.{get_or_append_left, get_or-append_right, length-append}
use Rattle.isa_model.specs.declared.task.Task.{Task}
use Rattle.hart_model.specs.Context.{ContextState}
use Rattle.hart_model.specs.HartState.{HartState}
use Rattle.hart_model.specs.Writes.{HartAndProbes}
use Rattle.hart_model.specs.HartStep.{hart_step}
use Rattle.core_model.specs.Explained.{IsExplained}
use Rattle.core_model.specs.Routines.{ticked_if, part_step, run_of_part, ComesTo, IsPartSound}
use Rattle.symbolic_run.specs.Ways.{GoesOnTo, Leads}
use Rattle.symbolic_run.proofs.Ways.{holds-then}
use Rattle.symbolic_run.proofs.PartRuns.{comes-map, after_probes, then-came, step-of-part, same-step, holds-back}

-- what holds of all of two lists holds of each
All-left : {X : Type 0} (P : X → Type 0) (xs ys : List X) → All P (xs ++ ys) → All P xs
All-left P xs ys all i d lt =
    let len = length-append xs ys in
    subst P (get_or_append_left xs ys d i lt) (all i d (omega (arith, len, lt)))

All-right : {X : Type 0} (P : X → Type 0) (xs ys : List X) → All P (xs ++ ys) → All P ys
All-right P xs ys all i d lt =
    let len = length-append xs ys in
    let same : length xs + i - length xs ≡ i = omega arith in
    subst P (get_or-append_right xs ys (length xs) (length xs + i) d refl (omega arith) ∙ ap (λ k. get_or ys k d) same)
    (all (length xs + i) d (omega (arith, len, lt)))

module _ (tasks : List Task) (code : List ℕ) (number : ℕ) (c : ContextState) (There : HartState → Type 0) where
  -- without the entries of the first step
  without-first : (a b : HartAndProbes) → IsPartSound tasks number c (after_probes a.probes b) → IsPartSound tasks number c b
  without-first a b ok = record { sound = ok.sound; holds = ok.holds; explained = All-right (IsExplained tasks) a.probes b.probes ok.explained }

  -- what is so of each run from a hart, up to so many words and at them
  abbrev SoundTo : ℕ → HartState → Type 0
  SoundTo words h = (ticks : List Bool) → length ticks ≤ words → ComesTo (IsPartSound tasks number c) (run_of_part code ticks h)

  abbrev EndsAfter : ℕ → HartState → Type 0
  EndsAfter words h = (ticks : List Bool) → length ticks ≡ words → ComesTo (λ a. There a.hart) (run_of_part code ticks h)

  -- one step, and what leads on from there
  goes : (words : ℕ) (h : HartState) → SoundTo (suc words) h → EndsAfter (suc words) h
      → ((g : HartState) → SoundTo words g → EndsAfter words g → Leads tasks code number words There g) → (ticked : Bool)
      → GoesOnTo tasks h (Leads tasks code number words There) (hart_step code (ticked_if ticked h))
  goes words h sound ends further ticked =
      let g = ticked_if ticked h in
      let first = then-came (IsPartSound tasks number c) (part_step code g) (λ x. run_of_part code [] x) (sound (ticked ∷ []) (omega arith)) in
      let a = first.0 in
      let ok : IsPartSound tasks number c (after_probes a.probes (record { hart = a.hart; probes = [] })) = first.2 in
      let one = step-of-part code g a first.1 in
      let SoundFrom : List Bool → HartAndProbes → Type 0 = λ ticks x. ComesTo (IsPartSound tasks number c) (run_of_part code ticks x.hart) in
      let EndsFrom : List Bool → HartAndProbes → Type 0 = λ ticks x. ComesTo (λ b. There b.hart) (run_of_part code ticks x.hart) in
      record {
        after = a.hart;
        probes = a.probes;
        did = one.did;
        step_is = one.step_is;
        explained = All-left (IsExplained tasks) a.probes [] ok.explained;
        holds = holds-then h.held (Some c) a.hart.held (holds-back (Some c) h.held (sound [] (omega arith)).holds) ok.holds;
        there = further a.hart
            (λ ticks le. (let t = then-came (IsPartSound tasks number c) (part_step code g) (λ x. run_of_part code ticks x)
            (sound (ticked ∷ ticks) (omega (arith, le))) in
            subst (SoundFrom ticks) (same-step code g a t.0 first.1 t.1)
            (comes-map (λ b. IsPartSound tasks number c (after_probes t.0.probes b)) (IsPartSound tasks number c) (run_of_part code ticks t.0.hart)
            (λ b is. without-first t.0 b is) t.2)))
            (λ ticks same. (let t = then-came (λ b. There b.hart) (part_step code g) (λ x. run_of_part code ticks x)
            (ends (ticked ∷ ticks) (omega (arith, same))) in
            subst (EndsFrom ticks) (same-step code g a t.0 first.1 t.1) t.2));
      }

  pub part-leads : (words : ℕ) (h : HartState) → SoundTo words h → EndsAfter words h → Leads tasks code number words There h
  part-leads zero h sound ends = ends [] refl
  part-leads (suc words) h sound ends =
      inr ((sound [] (omega arith)).sound, goes words h sound ends (λ g sound_too ends_too. part-leads words g sound_too ends_too))
