use Rattle.std.proofs.Common.{◌≡◌, ℕ, ◌<◌, false}
use Rattle.hart_model.specs.Pmp.{region_of, is_touched}
use Rattle.mem_protect.proofs.pmp.Pmp.allows_user.Given as goal

-- no entry below matches
abbrev pub invariant-loop-i : goal.invariant-loop-i
invariant-loop-i l = (k : ℕ) → k < l.i → is_touched (region_of l.self k) l.addr l.size ≡ false
