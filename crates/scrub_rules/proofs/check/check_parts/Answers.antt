-- A word that breaks a rule is the first of all.
use Rattle.std.proofs.Common.{◌≡◌, ℕ, ◌+◌, List, take, drop, sym, ap, ◌∙◌}
use Rattle.std.proofs.lemmas.List.{take_rest}
use Rattle.routine_laws.specs.Contents.{Contents}
use Rattle.routine_laws.specs.Rules.{Ends, Fails, outcome_of}
use Rattle.routine_laws.specs.Accepted.{at_save, at_restore}
use Rattle.scrub_rules.specs.View.{word_rule}
use Rattle.scrub_rules.proofs.First.{save_word_broken, restore_word_broken}
use Rattle.scrub_rules.proofs.check.check_parts.Goals as goal

pub returns-in-Some-clause-fault : goal.returns-in-Some-clause-fault
returns-in-Some-clause-fault c =
    let words = c.args.words.now in
    let at = c.args.at in
    let fault = c.in-Some.fault in
    let fails : outcome_of 0 at_save (take at words) ≡ Fails fault.at (word_rule fault.rule) =
    ap (λ (k : Contents). outcome_of 0 k (take at words)) (sym c.at_save-saved.ensures.contents) ∙ sym c.in-Some.ensures.outcome in
    c.fault_of.ensures.first words (save_word_broken words at fault.at (word_rule fault.rule) c.requires.short fails)

pub returns-in-Some-follow_all-clause-fault : goal.returns-in-Some-follow_all-clause-fault
returns-in-Some-follow_all-clause-fault c =
    let words = c.args.words.now in
    let at = c.args.at in
    let fault = c.in-Some-follow_all.fault in
    let left = c.follow_all.new.self in
    let leaves : outcome_of 0 at_save (take at words) ≡ Ends left =
    ap (λ (k : Contents). outcome_of 0 k (take at words)) (sym c.at_save-saved.ensures.contents) ∙ sym c.in_default.ensures.outcome in
    let fails : outcome_of (at + 1) at_restore (drop (at + 1) words) ≡ Fails fault.at (word_rule fault.rule) =
    ap (λ (k : Contents). outcome_of (at + 1) k (drop (at + 1) words)) (sym c.at_restore-restored.ensures.contents)
    ∙ (ap (λ (ws : List ℕ). outcome_of (at + 1) c.at_restore-restored.result ws) (sym (take_rest words (at + 1)))
    ∙ sym c.in-Some-follow_all.ensures.outcome) in
    c.fault_of-in-Some-follow_all.ensures.first words
    (restore_word_broken words at fault.at (word_rule fault.rule) left c.requires.short leaves fails)
