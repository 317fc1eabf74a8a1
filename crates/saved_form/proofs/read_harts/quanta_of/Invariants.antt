-- The sum so far, and its bound.
use Rattle.std.proofs.Common.{◌≡◌, ◌*◌, ◌^◌, ◌≤◌, length, take}
use Rattle.std.specs.List.{sum_by}
use Rattle.saved_form.specs.Saved.{SavedHart}
use Rattle.saved_form.proofs.read_harts.quanta_of.Given as goal

abbrev pub invariant-loop-hart : goal.invariant-loop-hart
invariant-loop-hart l = (l.sum ≡ sum_by (λ (h : SavedHart). length h.quanta) (take l.hart-index l.harts)) × (l.sum ≤ l.hart-index * 2 ^ 64)
