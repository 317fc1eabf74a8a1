-- By what is read after the letter.
use Rattle.std.proofs.Common.{◌≡◌, ◌-◌, ◌∷◌, refl, ap, ◌∙◌, arith, length, get_or, take, drop}
use Rattle.std.proofs.lemmas.Result.{err_from_is_err_and}
use Rattle.core_model.specs.declared.event.Event.TheVariants.{Go, Tick}
use Rattle.timer_plan.proofs.Spelling.{first_and_rest}
use Rattle.timer_plan.proofs.Decides.{event_ok, event_err, go_letter, tick_letter}
use Rattle.timer_plan.proofs.token.event_run.Goals as goal

pub returns-in_ok-run-in-103 : goal.returns-in_ok-run-in-103
returns-in_ok-run-in-103 c =
    let token = c.args.token.now in
    let rest = take (length token - 1) (drop 1 token) in
    let letter : get_or token 0 0 ≡ 103 = omega arith in
    let run = c.in_ok-run-in-103.run' in
    let p = (c.in_ok-run-in-103.ensures.run run).0 refl in
    let d = event_ok token 103 rest (record { event = Go run.hart; times = run.times }) (first_and_rest token (omega arith) ∙ ap (λ b. b ∷ rest) letter) refl p.0 p.1 in
    record { run = d.run; bad_number = d.bad_number; out_of_range = d.out_of_range }

pub returns-in_err-run-in-103 : goal.returns-in_err-run-in-103
returns-in_err-run-in-103 c =
    let token = c.args.token.now in
    let rest = take (length token - 1) (drop 1 token) in
    let letter : get_or token 0 0 ≡ 103 = omega arith in
    let o = c.in_err-run-in-103.ensures in
    let d = event_err token 103 rest Go go_letter (first_and_rest token (omega arith) ∙ ap (λ b. b ∷ rest) letter) c.in_err-run-in-103.field-0.0
    (record { run = o.run; bad_number = o.bad_number; out_of_range = o.out_of_range }) in
    let p = err_from_is_err_and c.from_residual.result c.from_residual.ensures.1 in
    rw (p.1, p.2) (record { run = d.run; bad_number = d.bad_number; out_of_range = d.out_of_range })

pub returns-in_ok-run-in-116 : goal.returns-in_ok-run-in-116
returns-in_ok-run-in-116 c =
    let token = c.args.token.now in
    let rest = take (length token - 1) (drop 1 token) in
    let letter : get_or token 0 0 ≡ 116 = omega arith in
    let run = c.in_ok-run-in-116.run' in
    let p = (c.in_ok-run-in-116.ensures.run run).0 refl in
    let d = event_ok token 116 rest (record { event = Tick run.hart; times = run.times }) (first_and_rest token (omega arith) ∙ ap (λ b. b ∷ rest) letter) refl p.0 p.1 in
    record { run = d.run; bad_number = d.bad_number; out_of_range = d.out_of_range }

pub returns-in_err-run-in-116 : goal.returns-in_err-run-in-116
returns-in_err-run-in-116 c =
    let token = c.args.token.now in
    let rest = take (length token - 1) (drop 1 token) in
    let letter : get_or token 0 0 ≡ 116 = omega arith in
    let o = c.in_err-run-in-116.ensures in
    let d = event_err token 116 rest Tick tick_letter (first_and_rest token (omega arith) ∙ ap (λ b. b ∷ rest) letter) c.in_err-run-in-116.field-0.0
    (record { run = o.run; bad_number = o.bad_number; out_of_range = o.out_of_range }) in
    let p = err_from_is_err_and c.from_residual-in_err-run-in-116.result c.from_residual-in_err-run-in-116.ensures.1 in
    rw (p.1, p.2) (record { run = d.run; bad_number = d.bad_number; out_of_range = d.out_of_range })
