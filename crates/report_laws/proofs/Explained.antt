-- A log that is explained has no unexplained entry.
use Rattle.std.proofs.Common.{◌≡◌, ℕ, Bool, cond, List, [], ◌∷◌, count_by, refl, arith}
use Rattle.std.proofs.lemmas.List.Elements.{All-head, All-tail}
use Rattle.std.proofs.lemmas.List.Sums.{sum_by-cons}
use Rattle.isa_model.specs.declared.task.Task.{Task}
use Rattle.hart_model.specs.declared.probe.Probe.{Probe}
use Rattle.hart_model.specs.declared.probe.Why.{Why}
use Rattle.hart_model.specs.declared.probe.Why.TheVariants as whys
use Rattle.core_model.specs.Explained.{IsExplainedBy, IsExplained, IsLogExplained}
use Rattle.core_invariant.proofs.FromHarts.{stays-sound}
use Rattle.core_invariant.proofs.Proved.{kernel-harts}
use Rattle.probe_log.specs.Counts.{is_unexplained}
use Rattle.report_laws.specs.Laws.{NoEntryIsUnexplained}

abbrev one_if : Bool → ℕ
one_if b = cond b 1 0

uncounted : (tasks : List Task) (p : Probe) (why : Why) → IsExplainedBy tasks p why → one_if (is_unexplained why) ≡ 0
uncounted tasks p whys.Public is = refl
uncounted tasks p (whys.Value task step latch side) is = refl
uncounted tasks p (whys.Step task step latch) is = refl
uncounted tasks p whys.Unexplained is = absurd is

none-counted : (tasks : List Task) (log : List Probe) → IsLogExplained tasks log → count_by (λ p. is_unexplained p.why) log ≡ 0
none-counted tasks [] all = refl
none-counted tasks (entry ∷ log) all = omega (
  arith,
  none-counted tasks log (All-tail (IsExplained tasks) entry log all),
  uncounted tasks entry entry.why (All-head (IsExplained tasks) entry log all),
  sum_by-cons (λ p. one_if (is_unexplained p.why)) entry log,
)

pub none-unexplained : NoEntryIsUnexplained
none-unexplained k kernel loaded fits events = none-counted loaded.tasks _ (stays-sound kernel-harts k kernel loaded fits events).log
