-- A written bundle reads as it is, but for the numbers of the lines at which code begins.
use Rattle.std.proofs.Common.{◌≡◌, ℕ, Bool, true, List, [], map, codes, Ok, Err, refl, sym, ap, ◌∙◌, append-nil}
use Rattle.std.specs.List.{flat_map}
use Rattle.std.proofs.lemmas.Bool.{cond-true}
use Rattle.bundle_text.specs.Pieces.{lines}
use Rattle.bundle_text.specs.Places.{may_end}
use Rattle.bundle_text.specs.Lines.{no_lines, with_lines, bundle_of}
use Rattle.bundle_text.specs.Range.{IsWritable}
use Rattle.bundle_text.specs.Text.{list_text, plan_text, task_text, world_text, event_run_text, has_bands, head_text, text_of, ReadsBack}
use Rattle.bundle_text.specs.declared.draft.Place.{Place}
use Rattle.bundle_text.specs.declared.draft.Place.TheVariants as at
use Rattle.bundle_text.specs.declared.bundle.Bundle.{Bundle}
use Rattle.bundle_text.specs.declared.bundle.TaskText.{TaskText}
use Rattle.bundle_text.specs.declared.bundle.BundleKind.TheVariants.{Missing}
use Rattle.bundle_text.proofs.RoundTrip.Operands.{bands-told}
use Rattle.bundle_text.proofs.RoundTrip.Steps.{Leads, leads_on}
use Rattle.bundle_text.proofs.RoundTrip.Drafts.{closed_at, after_plans}
use Rattle.bundle_text.proofs.RoundTrip.Plans.{head_leads, with_plans, plans_lead}
use Rattle.bundle_text.proofs.RoundTrip.Tasks.{tasks_lead}
use Rattle.bundle_text.proofs.RoundTrip.Later.{worlds_lead, events_lead, order_leads}

-- a text that leads to a draft of a whole bundle
whole_read : (banded : Bool) (text : List ℕ) (place : Place) (bundle : Bundle) → may_end place ≡ true
    → Leads 1 no_lines text (closed_at banded place bundle)
    → bundle_of text ≡ Ok bundle
whole_read banded text place bundle ends leads =
    ap (λ t. with_lines 1 no_lines (lines t)) (sym (append-nil text)) ∙ leads.leads []
    ∙ cond-true (may_end place) (Ok bundle) (Err (record { line = leads.after; kind = Missing })) ends

-- the same bundle with the tasks that are read
abbrev with_read : Bundle → List TaskText → Bundle
with_read bundle tasks = record bundle { tasks = tasks }

pub written_reads_back : (bundle : Bundle) → IsWritable bundle → ReadsBack (text_of bundle) bundle
written_reads_back b writable =
    let range = writable.range in
    let banded = has_bands b.tasks in
    let head = head_leads banded b.slots range.slots_low range.slots_high in
    let plans = plans_lead banded head.after b.slots b.plans range.plans range.plans_apart in
    let tasks = tasks_lead banded b.tasks plans.after at.Plans (with_plans b.slots b.plans) after_plans range.tasks (bands-told b.tasks) writable.code in
    let worlds = worlds_lead banded b.worlds tasks.leads.after tasks.next_place _ tasks.may.later refl range.worlds range.worlds_as_long in
    let events = events_lead banded b.events worlds.leads.after worlds.next_place _ worlds.may range.events in
    let order = order_leads banded b.order events.leads.after events.next_place _ events.may range.order in
    let again = with_read b tasks.read in
    record {
      again = again;
      read = whole_read banded (text_of b) order.next_place again order.may.ends
          (leads_on 1 no_lines _ _ (head_text banded b.slots) _ head
          (leads_on head.after _ _ _ (flat_map plan_text b.plans) _ plans
          (leads_on plans.after _ _ _ (flat_map (task_text banded) b.tasks) _ tasks.leads
          (leads_on tasks.leads.after _ _ _ (flat_map world_text b.worlds) _ worlds.leads
          (leads_on worlds.leads.after _ _ _ (list_text (codes "events") (map event_run_text b.events)) _ events.leads order.leads)))));
      same = ap (λ ts. with_read b ts) tasks.same;
    }
