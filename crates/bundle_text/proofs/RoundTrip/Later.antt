-- Worlds, events and the order read as they are.
use Rattle.std.proofs.Common.{◌≡◌, ℕ, Bool, true, List, [], ◌∷◌, ◌++◌, length, map, codes, Ok, refl, sym, ap, ◌∙◌, subst, append-nil, append_assoc, eq-eqb}
use Rattle.std.specs.List.{AllByRecursion, flat_map}
use Rattle.core_model.specs.declared.event.EventRun.{EventRun}
use Rattle.core_model.specs.declared.event.OrderRun.{OrderRun}
use Rattle.bundle_text.specs.Operands.{◌>>=◌, is_as_long}
use Rattle.bundle_text.specs.Range.{IsWorldInRange, AreWorldsAsLong, IsEventRunInRange, IsOrderRunInRange}
use Rattle.bundle_text.specs.Text.{list_text, world_text, event_run_text, order_run_text}
use Rattle.bundle_text.specs.declared.draft.Word.TheVariants as word
use Rattle.bundle_text.specs.declared.draft.Place.{Place}
use Rattle.bundle_text.specs.declared.draft.Place.TheVariants as at
use Rattle.bundle_text.specs.declared.bundle.Bundle.{Bundle}
use Rattle.core_model.specs.declared.world.World.{World}
use Rattle.bundle_text.proofs.RoundTrip.Operands.{world_tokens, world_operands-text, plain_world, each-events, plain_events, each-order, plain_order}
use Rattle.bundle_text.proofs.RoundTrip.Steps.{Leads, leads_nothing, leads_on, Names, word_line_leads}
use Rattle.bundle_text.proofs.RoundTrip.Drafts.{closed_at, MayOrder, MayEvents, MayWorlds, after_order, after_events, after_worlds}

names_world : Names (codes "world") word.World
names_world = record { plain = record { some = refl; visible = refl }; no_comment = refl; named = refl }

names_events : Names (codes "events") word.Events
names_events = record { plain = record { some = refl; visible = refl }; no_comment = refl; named = refl }

names_order : Names (codes "order") word.Order
names_order = record { plain = record { some = refl; visible = refl }; no_comment = refl; named = refl }

-- ---- worlds

-- the bundle with worlds more
abbrev pub with_worlds : Bundle → List World → Bundle
with_worlds bundle worlds = record bundle { worlds = bundle.worlds ++ worlds }

pub record WorldsLead (banded : Bool) (number : ℕ) (place : Place) (bundle : Bundle) (worlds : List World) : Type 0 where
  pub next_place : Place
  pub may : MayEvents next_place
  pub leads : Leads number (closed_at banded place bundle) (flat_map world_text worlds) (closed_at banded next_place (with_worlds bundle worlds))

world_leads : (banded : Bool) (number : ℕ) (place : Place) (bundle : Bundle) (w : World) → MayWorlds place → IsWorldInRange w
    → is_as_long bundle.worlds (length w.tape) ≡ true
    → Leads number (closed_at banded place bundle) (world_text w) (closed_at banded at.Worlds (with_worlds bundle (w ∷ [])))
world_leads banded number place bundle w may range long =
    word_line_leads number (closed_at banded place bundle) (closed_at banded at.Worlds (with_worlds bundle (w ∷ []))) (codes "world") (world_tokens w) word.World
    at.Worlds names_world (plain_world w range) may.later.later.outside may.worlds
    (ap (λ r. r >>= λ read. Ok (closed_at banded at.Worlds (with_worlds bundle (read ∷ [])))) (world_operands-text bundle.worlds w range long))

no_worlds_lead : (banded : Bool) (number : ℕ) (place : Place) (bundle : Bundle) → MayEvents place → WorldsLead banded number place bundle []
no_worlds_lead banded number place bundle may = record {
  next_place = place;
  may = may;
  leads = subst (λ (l : List World). Leads number (closed_at banded place bundle) [] (closed_at banded place (record bundle { worlds = l })))
      (sym (append-nil bundle.worlds)) (leads_nothing number (closed_at banded place bundle));
}

-- one world, and then the others
then_worlds : (banded : Bool) (number : ℕ) (place : Place) (bundle : Bundle) (w : World) (ws : List World)
    (first : Leads number (closed_at banded place bundle) (world_text w) (closed_at banded at.Worlds (with_worlds bundle (w ∷ []))))
    → WorldsLead banded first.after at.Worlds (with_worlds bundle (w ∷ [])) ws → WorldsLead banded number place bundle (w ∷ ws)
then_worlds banded number place bundle w ws first others = record {
  next_place = others.next_place;
  may = others.may;
  leads = subst
      (λ (l : List World). Leads number (closed_at banded place bundle) (world_text w ++ flat_map world_text ws) (closed_at banded others.next_place (record bundle { worlds = l })))
      (append_assoc bundle.worlds (w ∷ []) ws)
      (leads_on number (closed_at banded place bundle) (closed_at banded at.Worlds (with_worlds bundle (w ∷ [])))
      (closed_at banded others.next_place (with_worlds (with_worlds bundle (w ∷ [])) ws)) (world_text w) (flat_map world_text ws) first others.leads);
}

long_on : (n : ℕ) (front : List World) (w : World) → is_as_long front n ≡ true → length w.tape ≡ n → is_as_long (front ++ w ∷ []) n ≡ true
long_on n [] w e same = eq-eqb (length w.tape) n same
long_on n (first ∷ more) w e same = e

-- worlds of n words after such worlds
equal_worlds_lead : (banded : Bool) (worlds : List World) (n number : ℕ) (place : Place) (bundle : Bundle) → MayWorlds place → AllByRecursion IsWorldInRange worlds
    → is_as_long bundle.worlds n ≡ true → AllByRecursion (λ w. length w.tape ≡ n) worlds → WorldsLead banded number place bundle worlds
equal_worlds_lead banded [] n number place bundle may range long same = no_worlds_lead banded number place bundle may.later
equal_worlds_lead banded (w ∷ ws) n number place bundle may range long same =
    let first = world_leads banded number place bundle w may range.0 (ap (λ k. is_as_long bundle.worlds k) same.0 ∙ long) in
    then_worlds banded number place bundle w ws first
    (equal_worlds_lead banded ws n first.after at.Worlds (with_worlds bundle (w ∷ [])) after_worlds range.1 (long_on n bundle.worlds w long same.0) same.1)

pub worlds_lead : (banded : Bool) (worlds : List World) (number : ℕ) (place : Place) (bundle : Bundle) → MayWorlds place → bundle.worlds ≡ []
    → AllByRecursion IsWorldInRange worlds → AreWorldsAsLong worlds → WorldsLead banded number place bundle worlds
worlds_lead banded [] number place bundle may none range long = no_worlds_lead banded number place bundle may.later
worlds_lead banded (w ∷ ws) number place bundle may none range long =
    equal_worlds_lead banded (w ∷ ws) (length w.tape) number place bundle may range (ap (λ l. is_as_long l (length w.tape)) none) (refl, long)

-- ---- events

-- the bundle with events more
abbrev pub with_events : Bundle → List EventRun → Bundle
with_events bundle runs = record bundle { events = bundle.events ++ runs }

pub record EventsLead (banded : Bool) (number : ℕ) (place : Place) (bundle : Bundle) (runs : List EventRun) : Type 0 where
  pub next_place : Place
  pub may : MayOrder next_place
  pub leads : Leads number (closed_at banded place bundle) (list_text (codes "events") (map event_run_text runs)) (closed_at banded next_place (with_events bundle runs))

pub events_lead : (banded : Bool) (runs : List EventRun) (number : ℕ) (place : Place) (bundle : Bundle) → MayEvents place → AllByRecursion IsEventRunInRange runs
    → EventsLead banded number place bundle runs
events_lead banded [] number place bundle may range = record {
  next_place = place;
  may = may.later;
  leads = subst (λ (l : List EventRun). Leads number (closed_at banded place bundle) [] (closed_at banded place (record bundle { events = l })))
      (sym (append-nil bundle.events)) (leads_nothing number (closed_at banded place bundle));
}
events_lead banded (run ∷ runs) number place bundle may range = record {
  next_place = at.Events;
  may = after_events.later;
  leads = word_line_leads number (closed_at banded place bundle) (closed_at banded at.Events (with_events bundle (run ∷ runs))) (codes "events")
      (map event_run_text (run ∷ runs)) word.Events at.Events names_events (plain_events (run ∷ runs) range) may.later.outside may.events
      (ap (λ r. r >>= λ more. Ok (closed_at banded at.Events (with_events bundle more))) (each-events (run ∷ runs) range));
}

-- ---- the order

-- the bundle with more of the order
abbrev pub with_order : Bundle → List OrderRun → Bundle
with_order bundle runs = record bundle { order = bundle.order ++ runs }

pub record OrderLeads (banded : Bool) (number : ℕ) (place : Place) (bundle : Bundle) (runs : List OrderRun) : Type 0 where
  pub next_place : Place
  pub may : MayOrder next_place
  pub leads : Leads number (closed_at banded place bundle) (list_text (codes "order") (map order_run_text runs)) (closed_at banded next_place (with_order bundle runs))

pub order_leads : (banded : Bool) (runs : List OrderRun) (number : ℕ) (place : Place) (bundle : Bundle) → MayOrder place → AllByRecursion IsOrderRunInRange runs
    → OrderLeads banded number place bundle runs
order_leads banded [] number place bundle may range = record {
  next_place = place;
  may = may;
  leads = subst (λ (l : List OrderRun). Leads number (closed_at banded place bundle) [] (closed_at banded place (record bundle { order = l })))
      (sym (append-nil bundle.order)) (leads_nothing number (closed_at banded place bundle));
}
order_leads banded (run ∷ runs) number place bundle may range = record {
  next_place = at.Order;
  may = after_order;
  leads = word_line_leads number (closed_at banded place bundle) (closed_at banded at.Order (with_order bundle (run ∷ runs))) (codes "order")
      (map order_run_text (run ∷ runs)) word.Order at.Order names_order (plain_order (run ∷ runs) range) may.outside may.order
      (ap (λ r. r >>= λ more. Ok (closed_at banded at.Order (with_order bundle more))) (each-order (run ∷ runs) range));
}
