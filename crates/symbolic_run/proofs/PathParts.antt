-- The first instruction of a path, and the path from there.
use Rattle.std.proofs.Common.{◌≡◌, ℕ, Bool, List, [], ◌∷◌, ◌++◌, slice_get, Option, Some, None, refl, sym, ap, ◌∙◌, subst}
use Rattle.isa_model.specs.declared.instr.Instr.{Instr}
use Rattle.symbolic_run.specs.AbstractCell.{AbstractState}
use Rattle.symbolic_run.specs.AbstractRun as run
use Rattle.symbolic_run.specs.Concretization.{Valuation}
use Rattle.symbolic_run.specs.SymbolicPath.{PathState, PathStep, Path, PathCondition, AreSo, path_step, path_from, after_cells, after_path_step, after_path_instr, then_conditions}

-- of questions in a row each part is so
pub are-so-left : (xs ys : List PathCondition) → AreSo (xs ++ ys) → AreSo xs
are-so-left [] ys so = tt
are-so-left (x ∷ xs) ys so = (so.0, are-so-left xs ys so.1)

pub are-so-right : (xs ys : List PathCondition) → AreSo (xs ++ ys) → AreSo ys
are-so-right [] ys so = so
are-so-right (x ∷ xs) ys so = are-so-right xs ys so.1

-- a path that is followed after some questions
record IsThen (conditions : List PathCondition) (o : Option Path) (path : Path) : Type 0 where
  rest : Path
  is_rest : o ≡ Some rest
  is_path : path ≡ record rest { conditions = conditions ++ rest.conditions }

then-parts : (conditions : List PathCondition) (o : Option Path) (path : Path) → then_conditions conditions o ≡ Some path → IsThen conditions o path
then-parts conditions None path e = absurd (cc e)
then-parts conditions (Some rest) path e = record { rest = rest; is_rest = refl; is_path = sym (cc e) }

-- where an instruction leads
abbrev pub next_path : PathStep → AbstractState → Path
next_path step cells = record { end = record { cells = cells; index = step.index; csrs = step.csrs; held = step.held }; conditions = step.conditions }

module _ (may_reach : ℕ → Bool) (s : Valuation) (instrs : List Instr) where
  -- where nothing is followed, nothing is followed further
  from-none : (answers : List Bool) (path : Path) → path_from may_reach s instrs answers None ≡ Some path → ⊥
  unfolding path_from
  from-none [] path e = cc e
  from-none (taken ∷ answers) path e = cc e

  -- a path that is followed begins somewhere
  from-some : (answers : List Bool) (o : Option Path) (path : Path) → path_from may_reach s instrs answers o ≡ Some path → (first : Path) × (o ≡ Some first)
  from-some answers None path e = absurd (from-none answers path e)
  from-some answers (Some first) path e = (first, refl)

  -- a path of no more answers ends where it is
  pub no-more : (start path : Path) → path_from may_reach s instrs [] (Some start) ≡ Some path → start ≡ path
  unfolding path_from
  no-more start path e = cc e

  -- the parts of one instruction that is followed
  record HasNext (p : PathState) (taken : Bool) (next : Path) : Type 0 where
    instr : Instr
    step : PathStep
    cells : AbstractState
    is_instr : slice_get instrs p.index ≡ Some instr
    is_step : path_step may_reach s p taken instr ≡ Some step
    are_cells : run.after_writes step.writes p.cells ≡ Some cells
    is_next : next_path step cells ≡ next

  cells-parts : (p : PathState) (taken : Bool) (instr : Instr) (step : PathStep) (cells : Option AbstractState) (next : Path) →
      slice_get instrs p.index ≡ Some instr →
      path_step may_reach s p taken instr ≡ Some step → run.after_writes step.writes p.cells ≡ cells → after_cells step cells ≡ Some next → HasNext p taken next
  cells-parts p taken instr step None next i e c n = absurd (cc n)
  cells-parts p taken instr step (Some cells) next i e c n =
      record { instr = instr; step = step; cells = cells; is_instr = i; is_step = e; are_cells = c; is_next = cc n }

  step-parts : (p : PathState) (taken : Bool) (instr : Instr) (step : Option PathStep) (next : Path) → slice_get instrs p.index ≡ Some instr →
      path_step may_reach s p taken instr ≡ step → after_path_step p step ≡ Some next → HasNext p taken next
  step-parts p taken instr None next i e n = absurd (cc n)
  step-parts p taken instr (Some step) next i e n = cells-parts p taken instr step (run.after_writes step.writes p.cells) next i e refl n

  instr-parts : (p : PathState) (taken : Bool) (instr : Option Instr) (next : Path) → slice_get instrs p.index ≡ instr →
      after_path_instr may_reach s p taken instr ≡ Some next → HasNext p taken next
  instr-parts p taken None next i n = absurd (cc n)
  instr-parts p taken (Some instr) next i n = step-parts p taken instr (path_step may_reach s p taken instr) next i refl n

  -- the first instruction with its step, and the rest of the path
  pub record HasFirst (start : Path) (taken : Bool) (answers : List Bool) (path : Path) : Type 0 where
    pub instr : Instr
    pub step : PathStep
    pub cells : AbstractState
    pub rest : Path
    pub is_instr : slice_get instrs start.end.index ≡ Some instr
    pub is_step : path_step may_reach s start.end taken instr ≡ Some step
    pub are_cells : run.after_writes step.writes start.end.cells ≡ Some cells
    pub is_rest : path_from may_reach s instrs answers (Some (next_path step cells)) ≡ Some rest
    pub is_path : path ≡ record rest { conditions = start.conditions ++ rest.conditions }

  -- a path of some answers has them
  pub first-parts : (start : Path) (taken : Bool) (answers : List Bool) (path : Path) →
      path_from may_reach s instrs (taken ∷ answers) (Some start) ≡ Some path →
      HasFirst start taken answers path
  unfolding path_from
  first-parts start taken answers path e =
      let t = then-parts start.conditions (path_from may_reach s instrs answers
      (after_path_instr may_reach s start.end taken (slice_get instrs start.end.index))) path e in
      let f = from-some answers (after_path_instr may_reach s start.end taken (slice_get instrs start.end.index)) t.rest t.is_rest in
      let n = instr-parts start.end taken (slice_get instrs start.end.index) f.0 refl f.1 in
      let there : after_path_instr may_reach s start.end taken (slice_get instrs start.end.index) ≡ Some (next_path n.step n.cells) = f.1
      ∙ ap (λ x. Some x) (sym n.is_next) in
      record {
        instr = n.instr;
        step = n.step;
        cells = n.cells;
        rest = t.rest;
        is_instr = n.is_instr;
        is_step = n.is_step;
        are_cells = n.are_cells;
        is_rest = ap (path_from may_reach s instrs answers) (sym there) ∙ t.is_rest;
        is_path = t.is_path;
      }

  -- the conditions at the start of a path are conditions of the path
  pub conditions-first : (answers : List Bool) (start path : Path) → path_from may_reach s instrs answers (Some start) ≡ Some path → AreSo path.conditions →
      AreSo start.conditions
  conditions-first [] start path e so = subst (λ (q : Path). AreSo q.conditions) (sym (no-more start path e)) so
  conditions-first (taken ∷ answers) start path e so =
      let first = first-parts start taken answers path e in
      are-so-left start.conditions first.rest.conditions (subst (λ (q : Path). AreSo q.conditions) first.is_path so)
