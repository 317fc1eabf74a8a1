-- The literal is a list of copies of 0.
use Rattle.std.proofs.Common.{◌≡◌, ◌≤◌, ◌<◌, ℕ, replicate, slice_index, ⊎_elim}
use Rattle.std.proofs.lemmas.List.{get_or-replicate, get_or_past, length-replicate}
use Rattle.std.proofs.lemmas.Bool.{cases_lt}
use Rattle.alone_run.proofs.running.zeros.Goals as goal

pub zero_at : (n r : ℕ) → slice_index (replicate n 0) r ≡ 0
zero_at n r = ⊎_elim (λ (lt : r < n). get_or-replicate n r 0 0 lt)
    (λ (le : n ≤ r). get_or_past (replicate n 0) r 0 (rw length-replicate le)) (cases_lt r n)

pub returns : goal.returns
returns c = record { zero = λ r. zero_at 32 r }
