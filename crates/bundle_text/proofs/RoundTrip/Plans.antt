-- The first two lines and the plans read as they are.
use Rattle.std.proofs.Common.{◌≡◌, ℕ, Bool, ◌≤◌, true, false, eqb, ◌||◌, List, [], ◌∷◌, ◌++◌, codes, decimal, Ok, Err, refl, sym, ap, ◌∙◌, subst, arith, append-nil, append_assoc}
use Rattle.std.specs.List.{AllByRecursion, flat_map}
use Rattle.std.proofs.lemmas.Bool.{cond-false, or_from, or_parts, ne_eqb, eqb-false}
use Rattle.std.proofs.lemmas.List.Folds.{list_any-append}
use Rattle.bundle_text.specs.Operands.{◌>>=◌, has_plan}
use Rattle.bundle_text.specs.Lines.{with_plan, no_lines}
use Rattle.bundle_text.specs.Range.{IsPlanInRange, ArePlansApart}
use Rattle.bundle_text.specs.Text.{plan_text, version_text, head_text}
use Rattle.bundle_text.specs.declared.draft.Draft.{Draft}
use Rattle.bundle_text.specs.declared.draft.Word.TheVariants as word
use Rattle.bundle_text.specs.declared.draft.Place.TheVariants as at
use Rattle.bundle_text.specs.declared.bundle.Bundle.{Bundle}
use Rattle.bundle_text.specs.declared.bundle.PlanText.{PlanText}
use Rattle.bundle_text.specs.declared.bundle.BundleKind.TheVariants.{Repeated}
use Rattle.bundle_text.proofs.RoundTrip.Tokens.{IsPlain}
use Rattle.bundle_text.proofs.RoundTrip.Numbers.{plain_decimal, number_in-decimal}
use Rattle.bundle_text.proofs.RoundTrip.Operands.{plan_tokens, plan_operands-text, plain_plan}
use Rattle.bundle_text.proofs.RoundTrip.Steps.{Leads, leads_nothing, leads_on, Names, word_line_leads}
use Rattle.bundle_text.proofs.RoundTrip.Drafts.{closed_at}

-- ---- the first two lines

names_bundle : Names (codes "bundle") word.Bundle
names_bundle = record { plain = record { some = refl; visible = refl }; no_comment = refl; named = refl }

names_slots : Names (codes "slots") word.Slots
names_slots = record { plain = record { some = refl; visible = refl }; no_comment = refl; named = refl }

plain_versions : IsPlain (codes "1") × IsPlain (codes "2")
plain_versions = (record { some = refl; visible = refl }, record { some = refl; visible = refl })

-- what is read before any plan
abbrev pub with_slots : ℕ → Bundle
with_slots slots = record { slots = slots; plans = []; tasks = []; worlds = []; events = []; order = [] }

version_leads : (banded : Bool) → Leads 1 no_lines (version_text banded) (closed_at banded at.Header (with_slots 0))
version_leads false =
    word_line_leads 1 no_lines (closed_at false at.Header (with_slots 0)) (codes "bundle") (codes "1" ∷ []) word.Bundle at.Header names_bundle
    (plain_versions.0, tt) refl refl refl
version_leads true =
    word_line_leads 1 no_lines (closed_at true at.Header (with_slots 0)) (codes "bundle") (codes "2" ∷ []) word.Bundle at.Header names_bundle
    (plain_versions.1, tt) refl refl refl

pub head_leads : (banded : Bool) (slots : ℕ) → 1 ≤ slots → slots ≤ 8 → Leads 1 no_lines (head_text banded slots) (closed_at banded at.Plans (with_slots slots))
head_leads banded slots low high =
    let header = closed_at banded at.Header (with_slots 0) in
    let next = closed_at banded at.Plans (with_slots slots) in
    let first = version_leads banded in
    leads_on 1 no_lines header next (version_text banded) _ first
    (word_line_leads first.after header next (codes "slots") (decimal slots ∷ []) word.Slots at.Plans names_slots
    (plain_decimal slots (omega arith), tt) refl refl
    (ap (λ r. r >>= λ n. Ok (closed_at banded at.Plans (with_slots n))) (number_in-decimal 1 8 slots low high (omega arith))))

-- ---- plans

names_plan : Names (codes "plan") word.Plan
names_plan = record { plain = record { some = refl; visible = refl }; no_comment = refl; named = refl }

abbrev pub with_plans : ℕ → List PlanText → Bundle
with_plans slots plans = record { slots = slots; plans = plans; tasks = []; worlds = []; events = []; order = [] }

abbrev read_plans : Bool → ℕ → List PlanText → Draft
read_plans banded slots plans = closed_at banded at.Plans (with_plans slots plans)

-- None of the plans is of a hart that has one in front.
abbrev AreNew : List PlanText → List PlanText → Type 0
AreNew front plans = AllByRecursion (λ p. has_plan p.hart front ≡ false) plans

pub other_way : (a b : ℕ) → eqb a b ≡ false → eqb b a ≡ false
other_way a b e = ne_eqb b a (λ q. eqb-false a b e (sym q))

-- they stay new after a plan of another hart
still_new : (plan : PlanText) (front others : List PlanText) → has_plan plan.hart others ≡ false → AreNew front others → AreNew (front ++ plan ∷ []) others
still_new plan front [] apart new = tt
still_new plan front (p ∷ ps) apart new =
    let parts = or_parts (eqb p.hart plan.hart) (has_plan plan.hart ps) apart in (
      list_any-append (λ q. eqb q.hart p.hart) front (plan ∷ [])
          ∙ or_from (has_plan p.hart front) (eqb plan.hart p.hart || false) new.0
          (or_from (eqb plan.hart p.hart) false (other_way p.hart plan.hart parts.0) refl),
      still_new plan front ps parts.1 new.1,
    )

all_new : (plans : List PlanText) → AreNew [] plans
all_new [] = tt
all_new (p ∷ ps) = (refl, all_new ps)

plan_leads : (banded : Bool) (number slots : ℕ) (front : List PlanText) (plan : PlanText) → IsPlanInRange plan → has_plan plan.hart front ≡ false
    → Leads number (read_plans banded slots front) (plan_text plan) (read_plans banded slots (front ++ plan ∷ []))
plan_leads banded number slots front plan range new =
    word_line_leads number (read_plans banded slots front) (read_plans banded slots (front ++ plan ∷ [])) (codes "plan") (plan_tokens plan) word.Plan at.Plans
    names_plan (plain_plan plan range) refl refl
    (ap (λ r. r >>= λ p. with_plan front p >>= λ plans. Ok (read_plans banded slots plans)) (plan_operands-text plan range)
    ∙ ap (λ r. r >>= λ plans. Ok (read_plans banded slots plans))
    (cond-false (has_plan plan.hart front) (Err Repeated) (Ok (front ++ plan ∷ [])) new))

plans_lead_on : (banded : Bool) (plans : List PlanText) (number slots : ℕ) (front : List PlanText) → AllByRecursion IsPlanInRange plans → ArePlansApart plans
    → AreNew front plans → Leads number (read_plans banded slots front) (flat_map plan_text plans) (read_plans banded slots (front ++ plans))
plans_lead_on banded [] number slots front range apart new =
    subst (λ l. Leads number (read_plans banded slots front) [] (read_plans banded slots l)) (sym (append-nil front)) (leads_nothing number (read_plans banded slots front))
plans_lead_on banded (p ∷ ps) number slots front range apart new =
    let first = plan_leads banded number slots front p range.0 new.0 in
    subst (λ l. Leads number (read_plans banded slots front) (plan_text p ++ flat_map plan_text ps) (read_plans banded slots l)) (append_assoc front (p ∷ []) ps)
    (leads_on number (read_plans banded slots front) (read_plans banded slots (front ++ p ∷ [])) (read_plans banded slots ((front ++ p ∷ []) ++ ps)) (plan_text p)
    (flat_map plan_text ps) first
    (plans_lead_on banded ps first.after slots (front ++ p ∷ []) range.1 apart.1 (still_new p front ps apart.0 new.1)))

pub plans_lead : (banded : Bool) (number slots : ℕ) (plans : List PlanText) → AllByRecursion IsPlanInRange plans → ArePlansApart plans
    → Leads number (closed_at banded at.Plans (with_slots slots)) (flat_map plan_text plans) (closed_at banded at.Plans (with_plans slots plans))
plans_lead banded number slots plans range apart = plans_lead_on banded plans number slots [] range apart (all_new plans)
