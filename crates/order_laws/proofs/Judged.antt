-- How the run by an order ends is what its definition in words says.
use Rattle.std.proofs.Common.{◌≡◌, ℕ, ◌+◌, Bool, true, false, not, ◌&&◌, ◌||◌, cond, nat_lt, List, [], ◌∷◌, ◌++◌, length, get_or, Option, Some, None, refl, sym, ap, ◌∙◌, subst, arith, ltb-true, lt-ltb}
use Rattle.core_model.specs.declared.event.Event.{Event}
use Rattle.core_model.specs.declared.plan.Plan.{Plan}
use Rattle.core_model.specs.Core.{CoreState, after_event, core_from}
use Rattle.core_model.specs.Orders.{CoarseState, boot_pace, boot_coarse, plan_at, max_steps, steps_of_entry, after_entry, fine_from, IsLegalEntry, IsLegalFrom}
use Rattle.order_laws.specs.CoarseRuns.{coarse_from}
use Rattle.order_laws.specs.LongLogs.{is_log_above, is_past}
use Rattle.order_laws.specs.Judging.{OrderEnd, Done, Illegal, Full, is_legal_entry, end_from, OrdersAreJudged}
use Rattle.order_laws.proofs.AsEvents.{steps-core}

-- The tests of events in two parts.
or-later : (now first later : Bool) → (now || (first || later)) ≡ ((now || first) || later)
or-later true first later = refl
or-later false first later = refl

above-append : (most : ℕ) (code : List ℕ) (c : CoreState) (first others : List Event)
    → is_log_above most code c (first ++ others) ≡ (is_log_above most code c first || is_log_above most code (core_from code c first) others)
unfolding is_log_above core_from
above-append most code c [] others = refl
above-append most code c (event ∷ first) others =
    ap (λ test. nat_lt most (length c.log) || test) (above-append most code (after_event code c event) first others)
    ∙ or-later (nat_lt most (length c.log)) (is_log_above most code (after_event code c event) first)
    (is_log_above most code (core_from code (after_event code c event) first) others)

past-append : (most : Option ℕ) (code : List ℕ) (c : CoreState) (first others : List Event)
    → is_past most code c (first ++ others) ≡ (is_past most code c first || is_past most code (core_from code c first) others)
past-append None code c first others = refl
past-append (Some most) code c first others = above-append most code c first others

past-none : (most : Option ℕ) (code : List ℕ) (c : CoreState) → is_past most code c [] ≡ false
unfolding is_log_above
past-none None code c = refl
past-none (Some most) code c = refl

or-false : (first later : Bool) → (first || later) ≡ false → (first ≡ false) × (later ≡ false)
or-false true later e = absurd (cc e)
or-false false later e = (refl, e)

-- An entry is legal where the test says so.
pub test-legal : (co : CoarseState) (hart : ℕ) → is_legal_entry co hart ≡ true → IsLegalEntry co hart
test-legal co hart e = by-tests (nat_lt hart (length co.core.harts)) (get_or co.paces hart boot_pace).has_stopped refl refl e
  where
    by-tests : (exists stopped : Bool) → nat_lt hart (length co.core.harts) ≡ exists → (get_or co.paces hart boot_pace).has_stopped ≡ stopped
        → (exists && not stopped) ≡ true → IsLegalEntry co hart
    by-tests true false is goes e = record { exists = ltb-true hart (length co.core.harts) is; goes_on = goes }
    by-tests true true is goes e = absurd (cc e)
    by-tests false stopped is goes e = absurd (cc e)

pub legal-test : (co : CoarseState) (hart : ℕ) → IsLegalEntry co hart → is_legal_entry co hart ≡ true
legal-test co hart legal =
    let exists : nat_lt hart (length co.core.harts) ≡ true = lt-ltb hart (length co.core.harts) legal.exists in
    ap (λ b. b && not (get_or co.paces hart boot_pace).has_stopped) exists ∙ ap not legal.goes_on

test-illegal : (co : CoarseState) (hart : ℕ) → is_legal_entry co hart ≡ false → IsLegalEntry co hart → ⊥
test-illegal co hart e legal = let both : true ≡ false = sym (legal-test co hart legal) ∙ e in absurd (cc both)

illegal-test : (co : CoarseState) (hart : ℕ) (b : Bool) → is_legal_entry co hart ≡ b → (IsLegalEntry co hart → ⊥) → b ≡ false
illegal-test co hart true e never = absurd (never (test-legal co hart e))
illegal-test co hart false e never = refl

not-false : (b : Bool) → (b ≡ false → ⊥) → b ≡ true
not-false true never = refl
not-false false never = absurd (never refl)

module _ (most : Option ℕ) (code : List ℕ) (plans : List Plan) where
  abbrev pub events_at : CoarseState → ℕ → List Event
  events_at co hart = (steps_of_entry code plans co hart).events

  abbrev HasRoom : CoarseState → List ℕ → Type 0
  HasRoom co order = is_past most code co.core (fine_from code plans co order) ≡ false

  -- The events of an entry come before those of the entries after it.
  past-entry : (co : CoarseState) (hart : ℕ) (order : List ℕ) → is_past most code co.core (fine_from code plans co (hart ∷ order))
      ≡ (is_past most code co.core (events_at co hart)
      || is_past most code (after_entry code plans co hart).core (fine_from code plans (after_entry code plans co hart) order))
  unfolding fine_from
  past-entry co hart order =
      let next = after_entry code plans co hart in
      let more = fine_from code plans next order in
      let same : core_from code co.core (events_at co hart) ≡ next.core =
      sym (steps-core code (plan_at plans hart) (get_or co.paces hart boot_pace) hart max_steps co.core) in
      past-append most code co.core (events_at co hart) more
      ∙ ap (λ (c : CoreState). is_past most code co.core (events_at co hart) || is_past most code c more) same

  room-first : (co : CoarseState) (hart : ℕ) (order : List ℕ) → is_past most code co.core (events_at co hart) ≡ false
      → HasRoom (after_entry code plans co hart) order → HasRoom co (hart ∷ order)
  room-first co hart order first later = past-entry co hart order ∙ ap (λ b. b || is_past most code (after_entry code plans co hart).core (fine_from code plans (after_entry code plans co hart) order)) first ∙ later

  room-parts : (co : CoarseState) (hart : ℕ) (order : List ℕ) → HasRoom co (hart ∷ order)
      → (is_past most code co.core (events_at co hart) ≡ false) × HasRoom (after_entry code plans co hart) order
  room-parts co hart order room = or-false (is_past most code co.core (events_at co hart)) (is_past most code (after_entry code plans co hart).core (fine_from code plans (after_entry code plans co hart) order))
      (sym (past-entry co hart order) ∙ room)

  room-one : (co : CoarseState) (hart : ℕ) → is_past most code co.core (events_at co hart) ≡ false → HasRoom co (hart ∷ [])
  unfolding fine_from
  room-one co hart first = room-first co hart [] first (past-none most code (after_entry code plans co hart).core)

  room-none : (co : CoarseState) → HasRoom co []
  unfolding fine_from
  room-none co = past-none most code co.core

  record ComesFrom (co : CoarseState) (order front : List ℕ) (hart : ℕ) : Type 0 where
    rest : List ℕ
    parts : order ≡ front ++ hart ∷ rest
    legal : IsLegalFrom code plans co front
    room : HasRoom co front

  record IsIllegal (co : CoarseState) (at : ℕ) (order : List ℕ) (place : ℕ) : Type 0 where
    front : List ℕ
    hart : ℕ
    place_is : at + length front ≡ place
    comes : ComesFrom co order front hart
    illegal : IsLegalEntry (coarse_from code plans co front) hart → ⊥

  record IsFull (co : CoarseState) (order : List ℕ) : Type 0 where
    front : List ℕ
    hart : ℕ
    comes : ComesFrom co order front hart
    legal : IsLegalEntry (coarse_from code plans co front) hart
    full : HasRoom co (front ++ hart ∷ []) → ⊥

  abbrev IsEnd : CoarseState → ℕ → List ℕ → OrderEnd → Type 0
  IsEnd co at order Done = IsLegalFrom code plans co order × HasRoom co order
  IsEnd co at order (Illegal place) = IsIllegal co at order place
  IsEnd co at order Full = IsFull co order

  -- one entry more before
  comes-later : (co : CoarseState) (first : ℕ) (order front : List ℕ) (hart : ℕ) → IsLegalEntry co first
      → is_past most code co.core (events_at co first) ≡ false → ComesFrom (after_entry code plans co first) order front hart
      → ComesFrom co (first ∷ order) (first ∷ front) hart
  unfolding IsLegalFrom
  comes-later co first order front hart legal fits comes = record {
    rest = comes.rest;
    parts = ap (λ (xs : List ℕ). first ∷ xs) comes.parts;
    legal = (legal, comes.legal);
    room = room-first co first front fits comes.room;
  }

  end-later : (co : CoarseState) (at first : ℕ) (order : List ℕ) (end : OrderEnd) → IsLegalEntry co first
      → is_past most code co.core (events_at co first) ≡ false → IsEnd (after_entry code plans co first) (at + 1) order end
      → IsEnd co at (first ∷ order) end
  unfolding IsLegalFrom coarse_from
  end-later co at first order Done legal fits is = ((legal, is.0), room-first co first order fits is.1)
  end-later co at first order (Illegal place) legal fits is =
      let placed = is.place_is in
      record {
        front = first ∷ is.front;
        hart = is.hart;
        place_is = omega (arith, placed);
        comes = comes-later co first order is.front is.hart legal fits is.comes;
        illegal = is.illegal;
      }
  end-later co at first order Full legal fits is = record {
    front = first ∷ is.front;
    hart = is.hart;
    comes = comes-later co first order is.front is.hart legal fits is.comes;
    legal = is.legal;
    full = λ room. is.full (room-parts co first (is.front ++ is.hart ∷ []) room).1;
  }

  -- what the tests of an entry say
  end-by : (co : CoarseState) (at hart : ℕ) (order : List ℕ) (legal past : Bool) → is_legal_entry co hart ≡ legal
      → is_past most code co.core (events_at co hart) ≡ past
      → IsEnd (after_entry code plans co hart) (at + 1) order (end_from most code plans (after_entry code plans co hart) (at + 1) order)
      → IsEnd co at (hart ∷ order)
      (cond (not legal) (Illegal at) (cond past Full (end_from most code plans (after_entry code plans co hart) (at + 1) order)))
  unfolding IsLegalFrom coarse_from
  end-by co at hart order false past illegal tested later = record {
    front = [];
    hart = hart;
    place_is = omega arith;
    comes = record { rest = order; parts = refl; legal = tt; room = room-none co };
    illegal = test-illegal co hart illegal;
  }
  end-by co at hart order true true legal tested later = record {
    front = [];
    hart = hart;
    comes = record { rest = order; parts = refl; legal = tt; room = room-none co };
    legal = test-legal co hart legal;
    full = λ room. let both : true ≡ false = sym tested ∙ (room-parts co hart [] room).0 in absurd (cc both);
  }
  end-by co at hart order true false legal tested later =
      end-later co at hart order (end_from most code plans (after_entry code plans co hart) (at + 1) order) (test-legal co hart legal) tested later

  -- What ends the run is so.
  is-end : (co : CoarseState) (at : ℕ) (order : List ℕ) → IsEnd co at order (end_from most code plans co at order)
  unfolding end_from IsLegalFrom coarse_from
  is-end co at [] = (tt, room-none co)
  is-end co at (hart ∷ order) =
      end-by co at hart order (is_legal_entry co hart) (is_past most code co.core (events_at co hart)) refl refl
      (is-end (after_entry code plans co hart) (at + 1) order)

  -- What the tests of an entry come to.
  pub end-none : (co : CoarseState) (at : ℕ) → end_from most code plans co at [] ≡ Done
  unfolding end_from
  end-none co at = refl

  pub end-illegal : (co : CoarseState) (at hart : ℕ) (order : List ℕ) → is_legal_entry co hart ≡ false
      → end_from most code plans co at (hart ∷ order) ≡ Illegal at
  unfolding end_from
  end-illegal co at hart order test = rw test refl

  pub end-full : (co : CoarseState) (at hart : ℕ) (order : List ℕ) → is_legal_entry co hart ≡ true
      → is_past most code co.core (events_at co hart) ≡ true → end_from most code plans co at (hart ∷ order) ≡ Full
  unfolding end_from
  end-full co at hart order test past = rw (test, past) refl

  pub end-passes : (co : CoarseState) (at hart : ℕ) (order : List ℕ) → is_legal_entry co hart ≡ true
      → is_past most code co.core (events_at co hart) ≡ false
      → end_from most code plans co at (hart ∷ order) ≡ end_from most code plans (after_entry code plans co hart) (at + 1) order
  unfolding end_from
  end-passes co at hart order test fits = rw (test, fits) refl

  -- A legal order with a legal entry more is legal.
  pub legal-more : (co : CoarseState) (order : List ℕ) (hart : ℕ) → IsLegalFrom code plans co order
      → IsLegalEntry (coarse_from code plans co order) hart → IsLegalFrom code plans co (order ++ hart ∷ [])
  unfolding IsLegalFrom coarse_from
  legal-more co [] hart legal entry = (entry, tt)
  legal-more co (first ∷ order) hart legal entry = (legal.0, legal-more (after_entry code plans co first) order hart legal.1 entry)

  done-is : (co : CoarseState) (at : ℕ) (order : List ℕ) → IsLegalFrom code plans co order → HasRoom co order
      → end_from most code plans co at order ≡ Done
  unfolding IsLegalFrom
  done-is co at [] legal room = end-none co at
  done-is co at (hart ∷ order) legal room =
      let parts = room-parts co hart order room in
      end-passes co at hart order (legal-test co hart legal.0) parts.0 ∙ done-is (after_entry code plans co hart) (at + 1) order legal.1 parts.1

  -- A front that is legal and has room is passed.
  passed : (co : CoarseState) (at : ℕ) (front order : List ℕ) → IsLegalFrom code plans co front → HasRoom co front
      → end_from most code plans co at (front ++ order) ≡ end_from most code plans (coarse_from code plans co front) (at + length front) order
  unfolding IsLegalFrom coarse_from
  passed co at [] order legal room = let same : at ≡ at + 0 = omega arith in ap (λ n. end_from most code plans co n order) same
  passed co at (hart ∷ front) order legal room =
      let parts = room-parts co hart front room in
      let place : at + 1 + length front ≡ at + length (hart ∷ front) = omega arith in
      end-passes co at hart (front ++ order) (legal-test co hart legal.0) parts.0
      ∙ passed (after_entry code plans co hart) (at + 1) front order legal.1 parts.1
      ∙ ap (λ n. end_from most code plans (coarse_from code plans (after_entry code plans co hart) front) n order) place

  illegal-is : (co : CoarseState) (at : ℕ) (order : List ℕ) (place : ℕ) → IsIllegal co at order place → end_from most code plans co at order ≡ Illegal place
  illegal-is co at order place is =
      let there = coarse_from code plans co is.front in
      let test : is_legal_entry there is.hart ≡ false = illegal-test there is.hart (is_legal_entry there is.hart) refl is.illegal in
      let ends = end-illegal there (at + length is.front) is.hart is.comes.rest test in
      ap (λ (xs : List ℕ). end_from most code plans co at xs) is.comes.parts
      ∙ passed co at is.front (is.hart ∷ is.comes.rest) is.comes.legal is.comes.room ∙ ends ∙ ap Illegal is.place_is

  -- room for a front and for one entry more
  room-more : (co : CoarseState) (front : List ℕ) (hart : ℕ) → HasRoom co front
      → is_past most code (coarse_from code plans co front).core (events_at (coarse_from code plans co front) hart) ≡ false → HasRoom co (front ++ hart ∷ [])
  unfolding coarse_from
  room-more co [] hart room fits = room-one co hart fits
  room-more co (first ∷ front) hart room fits =
      let parts = room-parts co first front room in
      room-first co first (front ++ hart ∷ []) parts.0 (room-more (after_entry code plans co first) front hart parts.1 fits)

  full-is : (co : CoarseState) (at : ℕ) (order : List ℕ) → IsFull co order → end_from most code plans co at order ≡ Full
  full-is co at order is =
      let there = coarse_from code plans co is.front in
      let test = legal-test there is.hart is.legal in
      let past : is_past most code there.core (events_at there is.hart) ≡ true =
      not-false (is_past most code there.core (events_at there is.hart)) (λ fits. is.full (room-more co is.front is.hart is.comes.room fits)) in
      let ends = end-full there (at + length is.front) is.hart is.comes.rest test past in
      ap (λ (xs : List ℕ). end_from most code plans co at xs) is.comes.parts
      ∙ passed co at is.front (is.hart ∷ is.comes.rest) is.comes.legal is.comes.room ∙ ends

pub orders-are-judged : OrdersAreJudged
orders-are-judged most loaded kernel order =
    let plans = loaded.plans in
    let co = boot_coarse loaded kernel in
    let Is : OrderEnd → Type 0 = IsEnd most kernel.words plans co 0 order in
    let is = is-end most kernel.words plans co 0 order in
    record {
      done = (λ e. subst Is e is, λ both. done-is most kernel.words plans co 0 order both.0 both.1);
      illegal = λ at. (
        λ e. let i = subst Is e is in
            let place = i.place_is in
            (i.front, i.hart, omega (arith, place), record { rest = i.comes.rest; parts = i.comes.parts; legal = i.comes.legal; room = i.comes.room }, i.illegal),
        λ i. illegal-is most kernel.words plans co 0 order at (record {
          front = i.0;
          hart = i.1;
          place_is = let place = i.2 in omega (arith, place);
          comes = record { rest = i.3.rest; parts = i.3.parts; legal = i.3.legal; room = i.3.room };
          illegal = i.4;
        }),
      );
      full = (
        λ e. let i = subst Is e is in
            (i.front, i.hart, record { rest = i.comes.rest; parts = i.comes.parts; legal = i.comes.legal; room = i.comes.room }, i.legal, i.full),
        λ i. full-is most kernel.words plans co 0 order (record {
          front = i.0;
          hart = i.1;
          comes = record { rest = i.2.rest; parts = i.2.parts; legal = i.2.legal; room = i.2.room };
          legal = i.3;
          full = i.4;
        }),
      );
    }
