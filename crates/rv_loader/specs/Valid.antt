-- Which bundles load, and what a refusal means, without the order in which refusals are tried (this project's own).
use Rattle.std.specs.Prelude.{◌≡◌, ◌≢◌, ℕ, ◌<◌, ◌≤◌, ◌⊎◌, List, [], length, All, Contains, Ok, Err, slice_index_or}
use Rattle.core_model.specs.declared.loaded.Loaded.{Loaded}
use Rattle.core_model.specs.declared.plan.Plan.{Plan}
use Rattle.core_model.specs.Events.{event_count, entry_count}
use Rattle.isa_model.specs.Limits.{max_harts, max_quantum, max_tasks, max_code_words, max_tape_words, max_quanta, max_worlds, max_events, max_order_entries, max_action_bound}
use Rattle.core_model.specs.Loaded.{action_bound_of, IsLoaded}
use Rattle.bundle_text.specs.declared.bundle.Bundle.{Bundle}
use Rattle.bundle_text.specs.declared.bundle.PlanText.{PlanText}
use Rattle.bundle_text.specs.declared.bundle.TaskText.{TaskText}
use Rattle.bundle_text.specs.Range.{IsInRange}
use Rattle.rv_loader.specs.declared.fault.LoadFault.{LoadFault}
use Rattle.rv_loader.specs.declared.fault.LoadFault.TheVariants.{Asm, Limit, PlanForMissingHart, TooLong, Memory}
use Rattle.rv_loader.specs.Coding.{words_of}
use Rattle.rv_loader.specs.Refusals.{least, most, bound_of}
use Rattle.rv_loader.specs.Loading.{loading_of}

-- The task's code assembles, and neither code nor tape has too many words.
pub record IsTaskWithinLimits (text : TaskText) : Type 0 where
  pub words : List ℕ
  pub assembled : words_of text.code ≡ Ok words
  pub code_high : length words ≤ max_code_words
  pub tape_high : length text.tape ≤ max_tape_words

-- A bundle that is valid with so many harts.
pub record IsValidBundle (bundle : Bundle) (harts : ℕ) : Type 0 where
  pub tasks_low : 1 ≤ length bundle.tasks
  pub tasks_high : length bundle.tasks ≤ max_tasks
  pub tasks : All IsTaskWithinLimits bundle.tasks
  pub quanta_high : All (λ line. length line.plan.quanta ≤ max_quanta) bundle.plans
  pub worlds_high : length bundle.worlds ≤ max_worlds
  pub tapes_high : All (λ world. length world.tape ≤ max_tape_words) bundle.worlds
  pub events_high : event_count bundle.events ≤ max_events
  pub order_high : entry_count bundle.order ≤ max_order_entries
  pub harts_there : All (λ line. line.hart < harts) bundle.plans
  pub bound_high : bound_of bundle harts ≤ max_action_bound

-- Exactly the valid bundles load.
pub record LoadsExactlyValid : Type 0 where
  pub valid_loads : (bundle : Bundle) (harts : ℕ) → IsValidBundle bundle harts → (loaded : Loaded) × (loading_of bundle harts ≡ Ok loaded)
  pub loaded_valid : (bundle : Bundle) (harts : ℕ) (loaded : Loaded) → loading_of bundle harts ≡ Ok loaded → IsValidBundle bundle harts

-- What a refusal says is so: this code has this fault, this number is outside of its range, this plan line's hart isn't there, this is
-- the bound and it is too great.
abbrev pub IsSo : Bundle → ℕ → LoadFault → Type 0
IsSo bundle harts (Asm fault) = (text : TaskText) × Contains bundle.tasks text × (words_of text.code ≡ Err fault)
IsSo bundle harts (Limit what got) = (got < least what) ⊎ (most what < got)
IsSo bundle harts (PlanForMissingHart hart) = (harts ≤ hart) × ((line : PlanText) × Contains bundle.plans line × (line.hart ≡ hart))
IsSo bundle harts (TooLong bound) = (bound ≡ bound_of bundle harts) × (max_action_bound < bound)
IsSo bundle harts Memory = ⊥

abbrev pub RefusalsAreSo : Type 0
RefusalsAreSo = (bundle : Bundle) (harts : ℕ) (fault : LoadFault) → loading_of bundle harts ≡ Err fault → IsSo bundle harts fault

-- What a bundle in range loads as is what a core may be made of, and has the bound that was judged.
pub record IsLoadedSoundly (bundle : Bundle) (harts : ℕ) (loaded : Loaded) : Type 0 where
  pub sound : IsLoaded loaded
  pub bound : action_bound_of loaded ≡ bound_of bundle harts

abbrev pub LoadingIsSound : Type 0
LoadingIsSound = (bundle : Bundle) (harts : ℕ) (loaded : Loaded) → 1 ≤ harts → harts ≤ max_harts → IsInRange bundle → loading_of bundle harts ≡ Ok loaded
    → IsLoadedSoundly bundle harts loaded

-- A hart that a plan line names has the plan of this line, and any other has the tail 4,096 and no quanta.
pub record HasPlansOfLines (bundle : Bundle) (harts : ℕ) (loaded : Loaded) : Type 0 where
  pub named : (line : PlanText) → Contains bundle.plans line → (other : Plan) → slice_index_or loaded.plans line.hart other ≡ line.plan
  pub missing : (hart : ℕ) → hart < harts → All (λ line. line.hart ≢ hart) bundle.plans
      → (other : Plan) → slice_index_or loaded.plans hart other ≡ record { quanta = []; tail = max_quantum }

abbrev pub PlansAreOfLines : Type 0
PlansAreOfLines = (bundle : Bundle) (harts : ℕ) (loaded : Loaded) → IsInRange bundle → loading_of bundle harts ≡ Ok loaded → HasPlansOfLines bundle harts loaded
