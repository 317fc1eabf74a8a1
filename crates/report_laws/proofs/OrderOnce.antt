-- A report is that of one order.
use Rattle.std.proofs.Common.{◌≡◌, ℕ, List, ◌∷◌, ◌++◌, length, codes, decimal, append_assoc, sym, ap, ◌∙◌, arith}
use Rattle.std.proofs.lemmas.List.{append_cancel_left}
use Rattle.core_model.specs.Events.{order_of}
use Rattle.timer_plan.specs.OrderText.{runs_of, order_text_of}
use Rattle.timer_plan.proofs.Runs.{runs_order}
use Rattle.kernel_core.specs.declared.snapshot.Snapshot.{Snapshot}
use Rattle.report_text.specs.Report.{states_from, probes_line, latches_line, order_line_of}
use Rattle.report_laws.specs.Laws.{IsOrderOfBytes, ReportsTellOrders}
use Rattle.report_laws.proofs.Digits.{decimal_high, rest_same, high_ends_once}
use Rattle.report_laws.proofs.RunsOnce.{runs_up_to, runs_once}

text_once : (order other text text2 : List ℕ) → IsOrderOfBytes order → IsOrderOfBytes other
    → order_text_of order ++ (10 ∷ text) ≡ order_text_of other ++ (10 ∷ text2) → order ≡ other
text_once order other text text2 h k e =
    let same = runs_once (length order) (length other) (runs_of order) (runs_of other) text text2 h.entries k.entries
    (runs_up_to order h.harts) (runs_up_to other k.harts) e in
    sym (runs_order order) ∙ ap order_of same ∙ runs_order other

-- the line of an order, and what stands after it
line_first : (order text : List ℕ) → order_line_of order ++ text ≡ codes "order" ++ (order_text_of order ++ (10 ∷ text))
line_first order text = ap (λ l. codes "order" ++ l) (append_assoc (order_text_of order) (codes "\n") text)

line_once : (order other text text2 : List ℕ) → IsOrderOfBytes order → IsOrderOfBytes other
    → order_line_of order ++ text ≡ order_line_of other ++ text2 → order ≡ other
line_once order other text text2 h k e =
    text_once order other text text2 h k
    (append_cancel_left (codes "order") (order_text_of order ++ (10 ∷ text)) (order_text_of other ++ (10 ∷ text2))
    (sym (line_first order text) ∙ (e ∙ line_first other text2)))

-- two numbers on a line, and what stands after it
lines_once : (m n : ℕ) (text text2 : List ℕ) → decimal m ++ (10 ∷ text) ≡ decimal n ++ (10 ∷ text2) → text ≡ text2
lines_once m n text text2 e =
    rest_same 10 10 text text2
    (high_ends_once (decimal m) (decimal n) (10 ∷ text) (10 ∷ text2) (decimal_high m) (decimal_high n) (omega arith) (omega arith) e).1

-- what a report says after its order
abbrev after_order : Snapshot → List ℕ
after_order s = states_from 0 s.tasks ++ (probes_line s.tally ++ latches_line s.tally.latches)

pub report_once : ReportsTellOrders
report_once s t h k e =
    line_once s.order t.order (after_order s) (after_order t) h k
    (lines_once s.harts t.harts (order_line_of s.order ++ after_order s) (order_line_of t.order ++ after_order t)
    (append_cancel_left (codes "harts ") (decimal s.harts ++ (10 ∷ (order_line_of s.order ++ after_order s)))
    (decimal t.harts ++ (10 ∷ (order_line_of t.order ++ after_order t))) e))
