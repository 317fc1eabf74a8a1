-- The potential of the harts where one of them changes, of a context that is taken, and of a timer after an answer of the queue.
use Rattle.std.proofs.Common.{◌≡◌, ℕ, zero, suc, ◌+◌, ◌-◌, ◌*◌, Bool, true, false, List, [], ◌∷◌, ◌++◌, length, set, slice_get, nat_le, Option, Some, refl, ap, arith, if◌then◌else◌}
use Rattle.std.proofs.lemmas.Bool.{leb-false, leb-true}
use Rattle.hart_model.specs.Context.{ContextState}
use Rattle.hart_model.specs.HartState.{HartState}
use Rattle.hart_model.specs.Writes.{CellWrite}
use Rattle.hart_model.specs.HartStep.{answer_take, answer_give, loaded_writes, take_cell}
use Rattle.core_model.specs.declared.plan.Plan.{Plan}
use Rattle.core_model.specs.Orders.{HartPace}
use Rattle.core_model.proofs.Lists.{some-is}
use Rattle.order_laws.specs.Potential.{ready_potential, quantum_potential, timer_potential, hart_potential, harts_potential}
use Rattle.order_laws.specs.EachTurn.{pace_with}
use Rattle.order_laws.proofs.PathArrives.{writes-calm}

-- One hart and its pace change.
pub harts-set : (plans : List Plan) (paces : List HartPace) (harts : List HartState) (i : ℕ) (plan : Plan) (p q : HartPace) (h g : HartState)
    → slice_get plans i ≡ Some plan → slice_get paces i ≡ Some p → slice_get harts i ≡ Some h
    → harts_potential plans (set paces i q) (set harts i g) + hart_potential plan p h ≡ harts_potential plans paces harts + hart_potential plan q g
harts-set [] paces harts i plan p q h g is_plan is_pace is_hart = absurd (cc is_plan)
harts-set (a ∷ plans) [] harts i plan p q h g is_plan is_pace is_hart = absurd (cc is_pace)
harts-set (a ∷ plans) (b ∷ paces) [] i plan p q h g is_plan is_pace is_hart = absurd (cc is_hart)
harts-set (a ∷ plans) (b ∷ paces) (c ∷ harts) zero plan p q h g is_plan is_pace is_hart =
    let old : hart_potential a b c ≡ hart_potential plan p h = ap3 (some-is is_plan) (some-is is_pace) (some-is is_hart) in
    let new : hart_potential a q g ≡ hart_potential plan q g = ap (λ (x : Plan). hart_potential x q g) (some-is is_plan) in
    sums (hart_potential a q g) (hart_potential plan q g) (hart_potential a b c) (hart_potential plan p h) (harts_potential plans paces harts) new old
  where
    ap3 : {a x : Plan} {b y : HartPace} {c z : HartState} → a ≡ x → b ≡ y → c ≡ z → hart_potential a b c ≡ hart_potential x y z
    ap3 e f d = rw (e, f, d) refl

    sums : (new new_too old old_too rest : ℕ) → new ≡ new_too → old ≡ old_too → new + rest + old_too ≡ old + rest + new_too
    sums new new_too old old_too rest e f = omega (arith, e, f)
harts-set (a ∷ plans) (b ∷ paces) (c ∷ harts) (suc i) plan p q h g is_plan is_pace is_hart =
    let more = harts-set plans paces harts i plan p q h g is_plan is_pace is_hart in
    sums (hart_potential a b c) (harts_potential plans (set paces i q) (set harts i g)) (hart_potential plan p h)
    (harts_potential plans paces harts) (hart_potential plan q g) more
  where
    sums : (one new old rest now : ℕ) → new + old ≡ rest + now → one + new + old ≡ one + rest + now
    sums one new old rest now e = omega (arith, e)

-- A take gets a context: what that might cost is the hart's now, and so is a listed quantum that is drawn.
pub taken-pays : (plan : Plan) (pace : HartPace) (c : ContextState)
    → 2 * (length plan.quanta - (pace.takes + 1)) + (2 * (c.body.fuel - c.body.count + 1) + quantum_potential plan (pace_with pace c))
    ≡ 2 * (length plan.quanta - pace.takes) + ready_potential c
taken-pays plan pace c = by-test (nat_le (pace.takes + 1) (length plan.quanta)) refl
  where
    by-test : (b : Bool) → nat_le (pace.takes + 1) (length plan.quanta) ≡ b
        → 2 * (length plan.quanta - (pace.takes + 1)) + (2 * (c.body.fuel - c.body.count + 1) + (if b then 2 else 0))
        ≡ 2 * (length plan.quanta - pace.takes) + 2 * (c.body.fuel - c.body.count + 1)
    by-test true test = let le = leb-true (pace.takes + 1) (length plan.quanta) test in omega (arith, le)
    by-test false test = let lt = leb-false (pace.takes + 1) (length plan.quanta) test in omega (arith, lt)

-- The queue's answers leave the timer.
pub take-timer : (early_writes : List CellWrite) (rd next : ℕ) (got : Option ContextState) (h : HartState)
    → timer_potential (answer_take early_writes rd next got h).hart ≡ timer_potential h
take-timer early_writes rd next got h = let calm = writes-calm (early_writes ++ loaded_writes rd (take_cell got)) h in rw calm refl

pub give-timer : (early_writes : List CellWrite) (next : ℕ) (h : HartState) → timer_potential (answer_give early_writes next h).hart ≡ timer_potential h
give-timer early_writes next h = let calm = writes-calm early_writes h in rw calm refl
