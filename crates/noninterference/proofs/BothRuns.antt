-- Two runs of a kernel's part on harts that are alike, with the same ticks: what they come to, and where they lead both harts.
use Rattle.std.proofs.Common.{◌≡◌, ℕ, zero, suc, ◌≤◌, inr, Bool, false, List, [], ◌∷◌, ◌++◌, length, Option, Some, None, refl, sym, subst, arith}
use Rattle.isa_model.specs.declared.task.Task.{Task}
use Rattle.hart_model.specs.declared.calls.Did.{Did}
use Rattle.hart_model.specs.declared.probe.Probe.{Probe}
use Rattle.hart_model.specs.Context.{ContextState}
use Rattle.hart_model.specs.HartState.{HartState}
use Rattle.hart_model.specs.StepResult.{StepResult, Steps}
use Rattle.hart_model.specs.Writes.{HartAndProbes}
use Rattle.hart_model.specs.HartStep.{hart_step}
use Rattle.core_model.specs.LowEquivalence.{AgreePublicly}
use Rattle.core_model.specs.Routines.{ticked_if, part_step, with_probes, then_run, run_of_part, ComesTo, BothCome}
use Rattle.symbolic_run.proofs.PartRuns.{after_probes, step-of-part, same-step}
use Rattle.core_invariant.proofs.PartModes.{IsInPart, part-machine, part-next}
use Rattle.noninterference.specs.AlikeSteps.{GoOnAlike, AreInMachine, LeadBoth}

-- two runs that come to something come to whatever follows from it
pub both-come-map : (There Other : HartAndProbes → HartAndProbes → Type 0) (o r : Option HartAndProbes)
    → ((a b : HartAndProbes) → There a b → Other a b) → BothCome There o r → BothCome Other o r
both-come-map There Other None r other come = absurd come
both-come-map There Other (Some a) None other come = absurd come
both-come-map There Other (Some a) (Some b) other come = other a b come

-- and to what each comes to
pub both-come-each : (There : HartAndProbes → HartAndProbes → Type 0) (Here Away : HartAndProbes → Type 0) (o r : Option HartAndProbes)
    → ComesTo Here o → ComesTo Away r → BothCome There o r → BothCome (λ a b. Here a × Away b × There a b) o r
both-come-each There Here Away None r one two come = absurd come
both-come-each There Here Away (Some a) None one two come = absurd come
both-come-each There Here Away (Some a) (Some b) one two come = (one, two, come)

-- two runs from their first steps on
with-both : (There : HartAndProbes → HartAndProbes → Type 0) (ps qs : List Probe) (o r : Option HartAndProbes)
    → BothCome (λ a b. There (after_probes ps a) (after_probes qs b)) o r → BothCome There (with_probes ps o) (with_probes qs r)
with-both There ps qs None r come = absurd come
with-both There ps qs (Some a) None come = absurd come
with-both There ps qs (Some a) (Some b) come = come

with-both-came : (There : HartAndProbes → HartAndProbes → Type 0) (ps qs : List Probe) (o r : Option HartAndProbes)
    → BothCome There (with_probes ps o) (with_probes qs r) → BothCome (λ a b. There (after_probes ps a) (after_probes qs b)) o r
with-both-came There ps qs None r come = absurd come
with-both-came There ps qs (Some a) None come = absurd come
with-both-came There ps qs (Some a) (Some b) come = come

pub both-then-come : (There : HartAndProbes → HartAndProbes → Type 0) (o r : Option HartAndProbes) (more further : HartState → Option HartAndProbes)
    (a b : HartAndProbes) → o ≡ Some a → r ≡ Some b
    → BothCome (λ x y. There (after_probes a.probes x) (after_probes b.probes y)) (more a.hart) (further b.hart)
    → BothCome There (then_run o more) (then_run r further)
both-then-come There o r more further a b e f come =
    let P : Option HartAndProbes → Type 0 = λ x. BothCome There (then_run x more) (then_run r further) in
    let Q : Option HartAndProbes → Type 0 = λ x. BothCome There (then_run (Some a) more) (then_run x further) in
    subst P (sym e) (subst Q (sym f) (with-both There a.probes b.probes (more a.hart) (further b.hart) come))

-- two runs that come to something have first steps, and come to it from there
pub record HaveFirsts (There : HartAndProbes → HartAndProbes → Type 0) (o r : Option HartAndProbes) (more further : HartState → Option HartAndProbes) : Type 0 where
  pub first : HartAndProbes
  pub second : HartAndProbes
  pub first_is : o ≡ Some first
  pub second_is : r ≡ Some second
  pub come : BothCome (λ x y. There (after_probes first.probes x) (after_probes second.probes y)) (more first.hart) (further second.hart)

pub both-then-came : (There : HartAndProbes → HartAndProbes → Type 0) (o r : Option HartAndProbes) (more further : HartState → Option HartAndProbes)
    → BothCome There (then_run o more) (then_run r further) → HaveFirsts There o r more further
both-then-came There None r more further come = absurd come
both-then-came There (Some a) None more further come = absurd (none-comes There (with_probes a.probes (more a.hart)) come)
  where
    none-comes : (There : HartAndProbes → HartAndProbes → Type 0) (o : Option HartAndProbes) → BothCome There o None → ⊥
    none-comes There None come = come
    none-comes There (Some a) come = come
both-then-came There (Some a) (Some b) more further come =
    record { first = a; second = b; first_is = refl; second_is = refl; come = with-both-came There a.probes b.probes (more a.hart) (further b.hart) come }

-- entries that agree after some that agree
agree-rest : (ps qs vs ws : List Probe) → AgreePublicly ps qs → AgreePublicly (ps ++ vs) (qs ++ ws) → AgreePublicly vs ws
agree-rest [] [] vs ws one all = all
agree-rest [] (q ∷ qs) vs ws one all = absurd one
agree-rest (p ∷ ps) [] vs ws one all = absurd one
agree-rest (p ∷ ps) (q ∷ qs) vs ws one all = agree-rest ps qs vs ws one.1 all.1

-- and the first ones, where no others are
agree-first : (ps qs : List Probe) → AgreePublicly (ps ++ []) (qs ++ []) → AgreePublicly ps qs
agree-first [] [] all = tt
agree-first [] (q ∷ qs) all = absurd all
agree-first (p ∷ ps) [] all = absurd all
agree-first (p ∷ ps) (q ∷ qs) all = (all.0, agree-first ps qs all.1)

-- steps that go on alike, in other words
pub go-on : (There : HartState → HartState → Type 0) (step to : StepResult) (a b : HartAndProbes) (did done : Did) → step ≡ Steps a.hart a.probes did
    → to ≡ Steps b.hart b.probes done → AgreePublicly a.probes b.probes → There a.hart b.hart → GoOnAlike There step to
go-on There step to a b did done e f agree there =
    let P : StepResult → Type 0 = λ x. GoOnAlike There x to in
    let Q : StepResult → Type 0 = λ x. GoOnAlike There (Steps a.hart a.probes did) x in
    subst P (sym e) (subst Q (sym f) (agree, there))

module _ (code : List ℕ) (There : HartState → HartState → Type 0) (tasks others : List Task) (number : ℕ) (c d : ContextState) where
  -- so many words of a part are before the one and the other
  abbrev Here : ℕ → HartState → Type 0
  Here words h = IsInPart tasks code number c words h

  abbrev Away : ℕ → HartState → Type 0
  Away words g = IsInPart others code number d words g

  -- what is so of each two runs from two harts, up to so many words and at them
  abbrev pub AgreeTo : ℕ → HartState → HartState → Type 0
  AgreeTo words h g = (ticks : List Bool) → length ticks ≤ words → BothCome (λ a b. AgreePublicly a.probes b.probes) (run_of_part code ticks h) (run_of_part code ticks g)

  abbrev pub EndAlike : ℕ → HartState → HartState → Type 0
  EndAlike words h g = (ticks : List Bool) → length ticks ≡ words → BothCome (λ a b. There a.hart b.hart) (run_of_part code ticks h) (run_of_part code ticks g)

  -- one step of both, and what leads on from there
  both-go : (words : ℕ) (h g : HartState) → Here (suc words) h → Away (suc words) g → AgreeTo (suc words) h g → EndAlike (suc words) h g
      → ((x y : HartState) → Here words x → Away words y → AgreeTo words x y → EndAlike words x y → LeadBoth code words There x y) → (ticked : Bool)
      → GoOnAlike (LeadBoth code words There) (hart_step code (ticked_if ticked h)) (hart_step code (ticked_if ticked g))
  both-go words h g here away agree ends further ticked =
      let x = ticked_if ticked h in
      let y = ticked_if ticked g in
      let Agree : HartAndProbes → HartAndProbes → Type 0 = λ a b. AgreePublicly a.probes b.probes in
      let End : HartAndProbes → HartAndProbes → Type 0 = λ a b. There a.hart b.hart in
      let firsts = both-then-came Agree (part_step code x) (part_step code y) (λ f. run_of_part code [] f) (λ f. run_of_part code [] f)
      (agree (ticked ∷ []) (omega arith)) in
      let a = firsts.first in
      let b = firsts.second in
      let one = step-of-part code x a firsts.first_is in
      let two = step-of-part code y b firsts.second_is in
      let now : AgreePublicly a.probes b.probes = agree-first a.probes b.probes firsts.come in
      let From : (HartAndProbes → HartAndProbes → Type 0) → List Bool → HartAndProbes → HartAndProbes → Type 0 =
      λ R ticks v w. BothCome R (run_of_part code ticks v.hart) (run_of_part code ticks w.hart) in
      go-on (LeadBoth code words There) (hart_step code x) (hart_step code y) a b one.did two.did one.step_is two.step_is now
      (further a.hart b.hart (part-next tasks code number c words ticked h a here firsts.first_is)
      (part-next others code number d words ticked g b away firsts.second_is)
      (λ ticks le. (let t = both-then-came Agree (part_step code x) (part_step code y) (λ f. run_of_part code ticks f) (λ f. run_of_part code ticks f)
      (agree (ticked ∷ ticks) (omega (arith, le))) in
      let P : HartAndProbes → HartAndProbes → Type 0 = From (λ v w. AgreePublicly (a.probes ++ v.probes) (b.probes ++ w.probes)) ticks in
      let v_is = same-step code x a t.first firsts.first_is t.first_is in
      let w_is = same-step code y b t.second firsts.second_is t.second_is in
      let Q : HartAndProbes → HartAndProbes → Type 0 =
      λ p q. BothCome (λ v w. AgreePublicly (p.probes ++ v.probes) (q.probes ++ w.probes)) (run_of_part code ticks p.hart) (run_of_part code ticks q.hart) in
      let there : Q a b = subst (λ q. Q a q) w_is (subst (λ p. Q p t.second) v_is t.come) in
      both-come-map (λ v w. AgreePublicly (a.probes ++ v.probes) (b.probes ++ w.probes)) Agree (run_of_part code ticks a.hart) (run_of_part code ticks b.hart)
      (λ v w all. agree-rest a.probes b.probes v.probes w.probes now all) there))
      (λ ticks same. (let t = both-then-came End (part_step code x) (part_step code y) (λ f. run_of_part code ticks f) (λ f. run_of_part code ticks f)
      (ends (ticked ∷ ticks) (omega (arith, same))) in
      let v_is = same-step code x a t.first firsts.first_is t.first_is in
      let w_is = same-step code y b t.second firsts.second_is t.second_is in
      let Q : HartAndProbes → HartAndProbes → Type 0 = λ p q. BothCome End (run_of_part code ticks p.hart) (run_of_part code ticks q.hart) in
      subst (λ q. Q a q) w_is (subst (λ p. Q p t.second) v_is t.come))))

  -- both are in machine mode
  both-machine : (words : ℕ) (h g : HartState) → Here (suc words) h → Away (suc words) g → AgreeTo (suc words) h g → AreInMachine h g
  both-machine words h g here away agree =
      let firsts = both-then-came (λ a b. AgreePublicly a.probes b.probes) (part_step code h) (part_step code g) (λ f. run_of_part code [] f)
      (λ f. run_of_part code [] f) (agree (false ∷ []) (omega arith)) in (
        part-machine tasks code number c words false h firsts.first here firsts.first_is,
        part-machine others code number d words false g firsts.second away firsts.second_is,
      )

  -- Both are led to where such runs end.
  pub both-part-leads : (words : ℕ) (h g : HartState) → Here words h → Away words g → AgreeTo words h g → EndAlike words h g → LeadBoth code words There h g
  both-part-leads zero h g here away agree ends = ends [] refl
  both-part-leads (suc words) h g here away agree ends =
      inr (
        both-machine words h g here away agree,
        λ ticked. both-go words h g here away agree ends
            (λ x y one two agree_too ends_too. both-part-leads words x y one two agree_too ends_too) ticked,
      )
