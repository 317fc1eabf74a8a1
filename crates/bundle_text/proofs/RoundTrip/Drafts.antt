-- Drafts by their parts, of which one is whether the text says bands, and where lines may stand.
use Rattle.std.proofs.Common.{◌≡◌, ℕ, Bool, true, false, List, Some, refl}
use Rattle.bundle_text.specs.Places.{place_after, may_end, is_in_code}
use Rattle.bundle_text.specs.Lines.{task_with}
use Rattle.bundle_text.specs.declared.draft.Draft.{Draft}
use Rattle.bundle_text.specs.declared.draft.Word.TheVariants as word
use Rattle.bundle_text.specs.declared.draft.Place.{Place}
use Rattle.bundle_text.specs.declared.draft.Place.TheVariants as at
use Rattle.bundle_text.specs.declared.bundle.Bundle.{Bundle}
use Rattle.bundle_text.specs.declared.bundle.TaskText.{TaskText}
use Rattle.bundle_text.specs.declared.bundle.Code.{Code}

abbrev pub draft_at : Bool → Place → Bundle → TaskText → Draft
draft_at banded place bundle task = record { place = place; has_bands = banded; bundle = bundle; task = task }

-- a draft with a task so far: with this tape and this code
abbrev pub so_far : Bool → Place → Bundle → TaskText → List ℕ → Code → Draft
so_far banded place bundle t tape code = draft_at banded place bundle (record t { tape = tape; code = code })

-- a draft in which no task is open
abbrev pub closed_at : Bool → Place → Bundle → Draft
closed_at banded place bundle = draft_at banded place bundle (task_with 0 0 0 0)

-- ---- where the lines after a section may stand

-- a line of the order, or the end of the text
pub record MayOrder (place : Place) : Type 0 where
  pub outside : is_in_code place ≡ false
  pub order : place_after place word.Order ≡ Some at.Order
  pub ends : may_end place ≡ true

-- and events
pub record MayEvents (place : Place) : Type 0 where
  pub events : place_after place word.Events ≡ Some at.Events
  pub later : MayOrder place

-- and worlds
pub record MayWorlds (place : Place) : Type 0 where
  pub worlds : place_after place word.World ≡ Some at.Worlds
  pub later : MayEvents place

-- and tasks
pub record MayTasks (place : Place) : Type 0 where
  pub tasks : place_after place word.Task ≡ Some at.Tape
  pub later : MayWorlds place

pub after_order : MayOrder at.Order
after_order = record { outside = refl; order = refl; ends = refl }

pub after_events : MayEvents at.Events
after_events = record { events = refl; later = record { outside = refl; order = refl; ends = refl } }

pub after_worlds : MayWorlds at.Worlds
after_worlds =
    record { worlds = refl; later = record { events = refl; later = record { outside = refl; order = refl; ends = refl } } }

pub after_tasks : MayTasks at.Tasks
after_tasks = record {
  tasks = refl;
  later = record { worlds = refl; later = record { events = refl; later = record { outside = refl; order = refl; ends = refl } } };
}

pub after_plans : MayTasks at.Plans
after_plans = record {
  tasks = refl;
  later = record { worlds = refl; later = record { events = refl; later = record { outside = refl; order = refl; ends = refl } } };
}
