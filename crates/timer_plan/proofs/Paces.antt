-- The pace of a plan, a take on.
use Rattle.std.proofs.Common.{◌≡◌, ℕ, ◌+◌, get_or, drop, sym, ap, ◌∙◌, add-one, add-zero}
use Rattle.std.proofs.lemmas.List.{get_or-drop, drop-drop}
use Rattle.core_model.specs.Plans.{quantum_after}
use Rattle.core_model.specs.declared.plan.Plan.{Plan}
use Rattle.timer_plan.specs.Pace.{pace_of, after_take}

quantum_after-next : (plan : Plan) (takes : ℕ) → quantum_after plan (takes + 1) ≡ get_or (drop takes plan.quanta) 0 plan.tail
quantum_after-next plan takes =
    ap (λ k. quantum_after plan k) (add-one takes)
    ∙ sym (get_or-drop takes plan.quanta 0 plan.tail ∙ ap (λ k. get_or plan.quanta k plan.tail) (add-zero takes))

pub after_take-pace_of : (plan : Plan) (takes ran : ℕ) → after_take (pace_of plan takes ran) ≡ pace_of plan (takes + 1) 0
after_take-pace_of plan takes ran =
    ap (λ l. record { left = l; tail = plan.tail; quantum = get_or (drop takes plan.quanta) 0 plan.tail; ran = 0 }) (drop-drop 1 takes plan.quanta)
    ∙ ap (λ q. record { left = drop (takes + 1) plan.quanta; tail = plan.tail; quantum = q; ran = 0 }) (sym (quantum_after-next plan takes))
