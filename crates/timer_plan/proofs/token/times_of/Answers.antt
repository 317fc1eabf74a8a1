-- A `*` and what is read after it.
use Rattle.std.proofs.Common.{◌≡◌, ◌-◌, ◌∷◌, ap, ◌∙◌, arith, length, get_or, take, drop}
use Rattle.timer_plan.specs.declared.token.TheConstants.{CAP}
use Rattle.timer_plan.proofs.Spelling.{first_and_rest, starred_found}
use Rattle.timer_plan.proofs.token.times_of.Goals as goal

pub returns-in-42-clause-found : goal.returns-in-42-clause-found
returns-in-42-clause-found c =
    let suffix = c.args.suffix.now in
    let number = take (length suffix - 1) (drop 1 suffix) in
    let star : get_or suffix 0 0 ≡ 42 = omega arith in
    starred_found suffix number CAP c.decimal.result (first_and_rest suffix (omega arith) ∙ ap (λ b. b ∷ number) star) c.decimal.ensures.found
