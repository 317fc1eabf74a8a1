-- Coarse runs along an order, and each hart's share of one (this project's own).
use Rattle.std.specs.Prelude.{◌≡◌, ℕ, zero, suc, ◌+◌, ◌<◌, List, [], ◌∷◌, All, filter, count_by, Some, slice_get, Bool, true, false, ◌==◌}
use Rattle.hart_model.specs.declared.probe.Probe.{Probe}
use Rattle.hart_model.specs.HartState.{HartState}
use Rattle.core_model.specs.declared.event.Event.{Event}
use Rattle.core_model.specs.declared.event.Event.TheVariants.{Go, Tick}
use Rattle.core_model.specs.declared.plan.Plan.{Plan}
use Rattle.core_model.specs.declared.loaded.Loaded.{Loaded}
use Rattle.core_model.specs.KernelWords.{KernelCodeState}
use Rattle.core_model.specs.Orders.{HartPace, CoarseState, boot_coarse, after_entry}

-- the core and the paces after the entries of an order, the first one first
unfoldable pub coarse_from : List ℕ → List Plan → CoarseState → List ℕ → CoarseState
coarse_from code plans co [] = co
coarse_from code plans co (hart ∷ order) = coarse_from code plans (after_entry code plans co hart) order

-- those of a loaded bundle
abbrev pub coarse_state : Loaded → KernelCodeState → List ℕ → CoarseState
coarse_state loaded kernel order = coarse_from kernel.words loaded.plans (boot_coarse loaded kernel) order

-- the entries of a log that name a hart
abbrev pub entries_by : ℕ → List Probe → List Probe
entries_by number log = filter (λ (entry : Probe). entry.hart == number) log

-- how often a hart stands in an order
abbrev pub times_in : ℕ → List ℕ → ℕ
times_in number order = count_by (λ entry. entry == number) order

-- A hart's share of a coarse run: the hart, its pace, and the entries of the log that it made.
pub record HartShare : Type 0 where
  pub hart : HartState
  pub pace : HartPace
  pub entries : List Probe

-- It is the share of the hart of this number.
pub record IsShareOf (co : CoarseState) (number : ℕ) (s : HartShare) : Type 0 where
  pub hart : slice_get co.core.harts number ≡ Some s.hart
  pub pace : slice_get co.paces number ≡ Some s.pace
  pub entries : entries_by number co.core.log ≡ s.entries

-- a number for each of so many harts, added up
abbrev pub sum_over_harts : ℕ → (ℕ → ℕ) → ℕ
sum_over_harts zero number_of = 0
sum_over_harts (suc harts) number_of = sum_over_harts harts number_of + number_of harts

-- Each entry of a log names one of so many harts, and so whatever is counted of the entries adds up over the harts.
pub record AreSharesWhole (harts : ℕ) (log : List Probe) : Type 0 where
  pub named : All (λ (entry : Probe). entry.hart < harts) log
  pub counts : (test : Probe → Bool) → count_by test log ≡ sum_over_harts harts (λ number. count_by test (entries_by number log))

-- whether an event is a step, and how many steps there are among events
abbrev pub is_go : Event → Bool
is_go (Go hart) = true
is_go (Tick hart) = false

abbrev pub step_count : List Event → ℕ
step_count events = count_by is_go events
