-- A run over straight words is a path of their instructions, each of which only writes and reaches no port. So it says what a hart does
-- that runs the words.
use Rattle.std.proofs.Common.{◌≡◌, ℕ, suc, ◌+◌, ◌≤◌, ◌==◌, Bool, true, false, ℤ, List, [], ◌∷◌, length, map, slice_get, Option, Some, None, is_none, refl, sym, ap, subst, ◌∙◌, arith, eqb-true}
use Rattle.std.specs.List.{list_all}
use Rattle.std.proofs.lemmas.Bool.{and_from}
use Rattle.std.proofs.lemmas.List.{length-replicate}
use Rattle.isa_model.specs.declared.instr.Instr.{Instr}
use Rattle.isa_model.specs.declared.instr.Instr.TheVariants.{Jal, Branch, Load, Store, Csr}
use Rattle.isa_model.specs.declared.instr.LoadKind.TheVariants as loads
use Rattle.isa_model.specs.declared.instr.StoreKind.TheVariants as stores
use Rattle.isa_model.specs.Bits.{word_address}
use Rattle.isa_model.specs.Effect.{address, is_mscratch}
use Rattle.isa_model.specs.InstrTable.{instr_of}
use Rattle.hart_model.specs.declared.place.Place.{Place}
use Rattle.hart_model.specs.declared.port.Port.{Port}
use Rattle.hart_model.specs.Cells.{zero_address, index_in}
use Rattle.hart_model.specs.Context.{ContextState, slot_address, slot_len}
use Rattle.hart_model.specs.HartState.{HartState}
use Rattle.hart_model.specs.Writes.{HartAndProbes}
use Rattle.core_model.specs.Routines.{HoldsSame, IsPartSound, ComesTo, run_of_part}
use Rattle.symbolic_run.specs.AbstractCell.{AbstractState}
use Rattle.symbolic_run.specs.AbstractEffect.{AbstractWrite, stand_in, place_from, word_at_place, unless_reached, reg_cell, by_word, abstract_effect}
use Rattle.symbolic_run.specs.AbstractRun as run
use Rattle.symbolic_run.specs.AbstractRun.{instrs_of}
use Rattle.symbolic_run.specs.Concretization.{Valuation, IsSound}
use Rattle.symbolic_run.specs.SymbolicPath.{PathState, Path, goes_on, plain_step, after_cells, after_path_step, after_path_instr, then_conditions, path_from, port_from, StandAt, IsAsPathSays}
use Rattle.symbolic_run.specs.Laws.{RunsArePaths}
use Rattle.symbolic_run.proofs.Reach.{from-zero}
use Rattle.symbolic_run.proofs.PortsReached.{port-bounds, from-x0}
use Rattle.symbolic_run.proofs.PathSays.{path-sound}
use Rattle.symbolic_run.proofs.ComputedPaths.{straight}
use Rattle.symbolic_run.proofs.PartSteps.{is_of_part, part-plain}
use Rattle.symbolic_run.proofs.PartRuns.{comes-map, IsOnPath, part-runs}

module _ (may_reach : ℕ → Bool) (a : AbstractState) where
  -- an access that is followed reaches no port
  no-port-from : (rs1 : ℕ) (imm : ℤ) (place : Place) → place_from may_reach (reg_cell a rs1) (address (stand_in (reg_cell a rs1)) imm) ≡ Some place
      → is_none (port_from rs1 imm) ≡ true
  no-port-from rs1 imm place e = by-port (port_from rs1 imm) refl
    where
      by-port : (o : Option Port) → port_from rs1 imm ≡ o → is_none o ≡ true
      by-port None is = refl
      by-port (Some port) is =
          let x0 = from-x0 rs1 imm port is in
          let P : ℕ → Type 0 = λ r. place_from may_reach (reg_cell a r) (address (stand_in (reg_cell a r)) imm) ≡ Some place in
          let word = word_address (address 0 imm) in
          let zero_word = from-zero may_reach (word == zero_address) (index_in (slot_address 0) slot_len word) (index_in 0 0 word) place
          (subst P x0.0 e) in
          let low : word ≡ 0x100 = eqb-true word zero_address zero_word.0 in
          let high : 0x700 ≤ address 0 imm = (port-bounds (address 0 imm) port x0.1).1 in
          absurd (omega (arith, low, high))

  access-of-part : (instr : Instr) (rs1 : ℕ) (imm : ℤ) (o : Option Place) (writes : List AbstractWrite)
      → place_from may_reach (reg_cell a rs1) (address (stand_in (reg_cell a rs1)) imm) ≡ o → by_word a instr (word_at_place o) ≡ Some writes
      → is_none (port_from rs1 imm) ≡ true
  access-of-part instr rs1 imm None writes is e = absurd (cc e)
  access-of-part instr rs1 imm (Some place) writes is e = no-port-from rs1 imm place is

  csr-of-part : (instr : Instr) (b : Bool) (writes : List AbstractWrite) → by_word a instr (unless_reached b) ≡ Some writes → b ≡ true
  csr-of-part instr true writes e = refl
  csr-of-part instr false writes e = absurd (cc e)

  -- An instruction that is followed is one of a part.
  effect-of-part : (instr : Instr) (writes : List AbstractWrite) → abstract_effect may_reach a instr ≡ Some writes → is_of_part instr ≡ true
  effect-of-part (Load loads.W rd rs1 imm) writes e =
      access-of-part (Load loads.W rd rs1 imm) rs1 imm (place_from may_reach (reg_cell a rs1) (address (stand_in (reg_cell a rs1)) imm)) writes refl e
  effect-of-part (Store stores.W rs2 rs1 imm) writes e =
      access-of-part (Store stores.W rs2 rs1 imm) rs1 imm (place_from may_reach (reg_cell a rs1) (address (stand_in (reg_cell a rs1)) imm)) writes
      refl e
  effect-of-part (Csr op rd rs1 csr) writes e = csr-of-part (Csr op rd rs1 csr) (is_mscratch csr) writes e
  effect-of-part (Load kind rd rs1 imm) writes e = absurd (cc e)
  effect-of-part (Store kind rs2 rs1 imm) writes e = absurd (cc e)
  effect-of-part (Branch op rs1 rs2 off) writes e = absurd (cc e)
  effect-of-part (Jal rd off) writes e = absurd (cc e)
  effect-of-part instr writes e = refl

-- the first word of a run: its instruction, and the run of the others
record HasFirstWord (may_reach : ℕ → Bool) (word : ℕ) (words : List ℕ) (a b : AbstractState) : Type 0 where
  instr : Instr
  writes : List AbstractWrite
  cells : AbstractState
  is_instr : instr_of word ≡ Some instr
  effect : abstract_effect may_reach a instr ≡ Some writes
  are_cells : run.after_writes writes a ≡ Some cells
  rest : run.run_of may_reach words cells ≡ Some b

module _ (may_reach : ℕ → Bool) where
  -- where a word isn't followed, the run has no end
  from-none : (words : List ℕ) (b : AbstractState) → run.run_from may_reach words None ≡ Some b → ⊥
  from-none [] b e = cc e
  from-none (word ∷ words) b e = cc e

  by-cells : (word : ℕ) (words : List ℕ) (a b : AbstractState) (instr : Instr) (writes : List AbstractWrite) (o : Option AbstractState)
      → instr_of word ≡ Some instr → abstract_effect may_reach a instr ≡ Some writes → run.after_writes writes a ≡ o
      → run.run_from may_reach words o ≡ Some b → HasFirstWord may_reach word words a b
  by-cells word words a b instr writes None is e c r = absurd (from-none words b r)
  by-cells word words a b instr writes (Some x) is e c r =
      record { instr = instr; writes = writes; cells = x; is_instr = is; effect = e; are_cells = c; rest = r }

  by-effect : (word : ℕ) (words : List ℕ) (a b : AbstractState) (instr : Instr) (o : Option (List AbstractWrite)) → instr_of word ≡ Some instr
      → abstract_effect may_reach a instr ≡ o → run.run_from may_reach words (run.after_effect a o) ≡ Some b → HasFirstWord may_reach word words a b
  by-effect word words a b instr None is e r = absurd (from-none words b r)
  by-effect word words a b instr (Some writes) is e r = by-cells word words a b instr writes (run.after_writes writes a) is e refl r

  by-instr : (word : ℕ) (words : List ℕ) (a b : AbstractState) (o : Option Instr) → instr_of word ≡ o
      → run.run_from may_reach words (run.after_instr may_reach a o) ≡ Some b → HasFirstWord may_reach word words a b
  by-instr word words a b None is r = absurd (from-none words b r)
  by-instr word words a b (Some instr) is r = by-effect word words a b instr (abstract_effect may_reach a instr) is refl r

  first-word : (word : ℕ) (words : List ℕ) (a b : AbstractState) → run.run_of may_reach (word ∷ words) a ≡ Some b
      → HasFirstWord may_reach word words a b
  first-word word words a b r = by-instr word words a b (instr_of word) refl r

-- the instructions of words of which the first one has one
first-instr : (word : ℕ) (words : List ℕ) (instr : Instr) → instr_of word ≡ Some instr → instrs_of (word ∷ words) ≡ instr ∷ instrs_of words
first-instr word words instr is = rw is refl

-- words that spell an instruction of a part each
pub record ArePartWords (words : List ℕ) : Type 0 where
  pub of_part : list_all is_of_part (instrs_of words) ≡ true
  pub decode : map instr_of words ≡ map (λ instr. Some instr) (instrs_of words)
  pub count : length (instrs_of words) ≡ length words

-- The words of a run do.
pub run-of-part : (may_reach : ℕ → Bool) (words : List ℕ) (a b : AbstractState) → run.run_of may_reach words a ≡ Some b → ArePartWords words
run-of-part may_reach [] a b r = record { of_part = refl; decode = refl; count = refl }
run-of-part may_reach (word ∷ words) a b r =
    let first = first-word may_reach word words a b r in
    let rest = run-of-part may_reach words first.cells b first.rest in
    let cons = sym (first-instr word words first.instr first.is_instr) in
    let OfPart : List Instr → Type 0 = λ instrs. list_all is_of_part instrs ≡ true in
    let Decode : List Instr → Type 0 = λ instrs. instr_of word ∷ map instr_of words ≡ map (λ instr. Some instr) instrs in
    let Count : List Instr → Type 0 = λ instrs. length instrs ≡ suc (length words) in
    record {
      of_part = subst OfPart cons
          (and_from (is_of_part first.instr) (list_all is_of_part (instrs_of words))
          (effect-of-part may_reach a first.instr first.writes first.effect) rest.of_part);
      decode = subst Decode cons (ap (λ o. o ∷ map instr_of words) first.is_instr ∙ ap (λ os. Some first.instr ∷ os) rest.decode);
      count = subst Count cons (ap suc rest.count);
    }

-- a state that is some instructions further on, and a path that asks nothing
abbrev pub further_on : PathState → AbstractState → ℕ → PathState
further_on p b words = record { cells = b; index = p.index + words; csrs = p.csrs; held = p.held }

abbrev pub only_end : PathState → Path
only_end p = record { end = p; conditions = [] }

module _ (may_reach : ℕ → Bool) (s : Valuation) (all : List Instr) where
  -- the step of an instruction that is followed
  one-step : (p : PathState) (instr : Instr) (writes : List AbstractWrite) (x : AbstractState) → abstract_effect may_reach p.cells instr ≡ Some writes
      → run.after_writes writes p.cells ≡ Some x → slice_get all p.index ≡ Some instr
      → after_path_instr may_reach s p false (slice_get all p.index) ≡ Some (only_end (further_on p x 1))
  one-step p instr writes x e c at =
      ap (λ o. after_path_instr may_reach s p false o) at
      ∙ ap (λ o. after_path_step p o)
      (part-plain may_reach s p false instr (effect-of-part may_reach p.cells instr writes e) ∙ ap (λ o. plain_step p o) e)
      ∙ ap (λ o. after_cells (goes_on p writes) o) c

  -- A run is the path of the same instructions among others.
  straight-path : (words : List ℕ) (p : PathState) (b : AbstractState) → run.run_of may_reach words p.cells ≡ Some b
      → ((i : ℕ) (instr : Instr) → slice_get (instrs_of words) i ≡ Some instr → slice_get all (p.index + i) ≡ Some instr)
      → path_from may_reach s all (straight (length words)) (Some (only_end p)) ≡ Some (only_end (further_on p b (length words)))
  unfolding path_from
  straight-path [] p b r stand =
      let same : p.cells ≡ b = cc r in
      let here : p.index ≡ p.index + 0 = omega arith in
      ap (λ i. Some (only_end (record p { index = i }))) here ∙ ap (λ x. Some (only_end (further_on p x 0))) same
  straight-path (word ∷ words) p b r stand =
      let first = first-word may_reach word words p.cells b r in
      let cons = first-instr word words first.instr first.is_instr in
      let here : p.index + 0 ≡ p.index = omega arith in
      let at : slice_get all p.index ≡ Some first.instr =
      subst (λ i. slice_get all i ≡ Some first.instr) here (stand 0 first.instr (ap (λ instrs. slice_get instrs 0) cons)) in
      let step = one-step p first.instr first.writes first.cells first.effect first.are_cells at in
      let more = straight-path words (further_on p first.cells 1) b first.rest
      (λ i instr is. (
      let place : p.index + suc i ≡ p.index + 1 + i = omega arith in
      subst (λ j. slice_get all j ≡ Some instr) place (stand (suc i) instr (ap (λ instrs. slice_get instrs (suc i)) cons ∙ is)))) in
      let count : p.index + 1 + length words ≡ p.index + suc (length words) = omega arith in
      ap (λ o. then_conditions [] (path_from may_reach s all (straight (length words)) o)) step
      ∙ ap (λ o. then_conditions [] o) more
      ∙ ap (λ i. Some (only_end (record { cells = b; index = i; csrs = p.csrs; held = p.held }))) count

-- A run over straight words is the path of their instructions.
pub runs-are-paths : RunsArePaths
runs-are-paths may_reach s words p b start r =
    let count : p.index + length words ≡ length words = omega (arith, start) in
    let place : (i : ℕ) → i ≡ p.index + i = λ i. omega (arith, start) in
    straight-path may_reach s (instrs_of words) words p b r (λ i instr is. subst (λ j. slice_get (instrs_of words) j ≡ Some instr) (place i) is)
    ∙ ap (λ i. Some (only_end (record p { cells = b; index = i }))) count

-- Words that stand in the code of a hart of which the start of a run speaks.
module _ (may_reach : ℕ → Bool) (s : Valuation) (ok : IsSound s) (number base : ℕ) (code words : List ℕ) (stand : StandAt code base (instrs_of words))
    (p : PathState) (b : AbstractState) (start : p.index ≡ 0) (run_is : run.run_of may_reach words p.cells ≡ Some b)
    (ticks : List Bool) (h : HartState) (says : IsAsPathSays s number base p h) where
  abbrev end : PathState
  end = record p { cells = b; index = length words }

  abbrev IsOn : HartAndProbes → Type 0
  IsOn a = (q : PathState) × IsOnPath s number base ticks h q a × (length ticks ≡ length (straight (length words)) → q ≡ end)

  runs-on : length ticks ≤ length words → ComesTo IsOn (run_of_part code ticks h)
  runs-on few =
      let count = length-replicate (length words) false in
      part-runs may_reach s ok number base code (instrs_of words) stand (run-of-part may_reach words p.cells b run_is).of_part
      (straight (length words)) ticks (only_end p) (only_end end) h (runs-are-paths may_reach s words p b start run_is) says
      (omega (arith, few, count))

  -- After each number of words the hart is sound, holds the same, and has made explained entries;
  pub run-sound : (c : ContextState) → h.held ≡ Some c → length ticks ≤ length words
      → ComesTo (IsPartSound s.tasks number c) (run_of_part code ticks h)
  run-sound c is_held few =
      comes-map IsOn (IsPartSound s.tasks number c) (run_of_part code ticks h)
      (λ a on. record {
        sound = path-sound s ok number base on.0 a.hart on.1.says;
        holds = subst (λ (o : Option ContextState). HoldsSame o a.hart.held) is_held on.1.holds;
        explained = on.1.explained;
      })
      (runs-on few)

  -- and after all of them it is as the end of the run says.
  pub run-ends : length ticks ≡ length words → ComesTo (IsOnPath s number base ticks h end) (run_of_part code ticks h)
  run-ends all =
      let count = length-replicate (length words) false in
      comes-map IsOn (IsOnPath s number base ticks h end) (run_of_part code ticks h)
      (λ a on. subst (λ (q : PathState). IsOnPath s number base ticks h q a) (on.2 (omega (arith, all, count))) on.1)
      (runs-on (omega (arith, all)))
