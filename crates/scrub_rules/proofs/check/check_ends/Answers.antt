-- The rule that is the first at an end is the first of all.
use Rattle.scrub_rules.proofs.First.{save_end_broken, restore_end_broken}
use Rattle.scrub_rules.proofs.check.check_ends.Goals as goal

pub returns-in-Some-clause-fault : goal.returns-in-Some-clause-fault
returns-in-Some-clause-fault c =
    save_end_broken c.args.words.now c.args.at c.args.saved.now c.args.restored.now c.requires.short c.requires.saved c.requires.restored
    c.in-Some.rule c.in-Some.ensures.some

pub returns-in-Some-broken_at_restore_end-clause-fault :
    goal.returns-in-Some-broken_at_restore_end-clause-fault
returns-in-Some-broken_at_restore_end-clause-fault c =
    restore_end_broken c.args.words.now c.args.at c.args.saved.now c.args.restored.now c.requires.short c.requires.saved c.requires.restored
    c.in-Some-broken_at_restore_end.rule c.in_default.ensures.none c.in-Some-broken_at_restore_end.ensures.some
