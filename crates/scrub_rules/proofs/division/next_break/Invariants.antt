use Rattle.std.proofs.Common.{◌≡◌, ℕ, ◌≤◌, ◌<◌, get_or}
use Rattle.scrub_rules.specs.Division.{break_word}
use Rattle.scrub_rules.proofs.division.next_break.Given as goal

abbrev pub invariant-loop-i : goal.invariant-loop-i
invariant-loop-i l = (k : ℕ) → l.from ≤ k → k < l.i → get_or l.words k 0 ≡ break_word → ⊥
