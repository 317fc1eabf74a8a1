-- The harts' plans are those of the plan lines.
use Rattle.std.proofs.Common.{◌≡◌, ◌≢◌, ℕ, zero, suc, ◌+◌, ◌<◌, ◌≤◌, Bool, true, false, cond, nat_eq, ◌||◌, List, [], ◌∷◌, length, map, get_or, refl, ap, sym, ◌∙◌, arith, tests}
use Rattle.std.specs.List.{All, Contains, range_with_len, sum_by, slice_index_or}
use Rattle.std.proofs.lemmas.List.Elements.{All-head, All-tail}
use Rattle.std.proofs.lemmas.List.FromFn.{get_or-map-range_with_len}
use Rattle.std.proofs.lemmas.List.Sums.{sum_by-cons}
use Rattle.core_model.specs.declared.plan.Plan.{Plan}
use Rattle.bundle_text.specs.declared.bundle.PlanText.{PlanText}
use Rattle.bundle_text.specs.Operands.{has_plan}
use Rattle.bundle_text.specs.Range.{ArePlansApart}
use Rattle.rv_loader.specs.Refusals.{quanta_listed}
use Rattle.rv_loader.specs.Loading.{missing_plan, plan_of, plans_of}

equal : (n m : ℕ) → nat_eq n m ≡ true → n ≡ m
equal n m h = grind (arith, tests)

differs : (n m : ℕ) → n ≢ m → nat_eq n m ≡ false
differs n m h = grind (arith, tests)

differ : (n m : ℕ) → nat_eq n m ≡ false → n ≢ m
differ n m h e = grind (arith, tests)

itself : (n : ℕ) → nat_eq n n ≡ true
itself n = grind (arith, tests)

neither : (a b : Bool) → (a || b) ≡ false → (a ≡ false) × (b ≡ false)
neither true b h = absurd (let contra : ⊥ = cc in contra)
neither false b h = (refl, h)

chosen : (b : Bool) (here later : Plan) → b ≡ true → cond b here later ≡ here
chosen b here later h = ap (λ c. cond c here later) h

passed : (b : Bool) (here later : Plan) → b ≡ false → cond b here later ≡ later
passed b here later h = ap (λ c. cond c here later) h

-- the plan of a hart that no line names

pub plan_of-unnamed : (lines : List PlanText) (hart : ℕ) → All (λ line. line.hart ≢ hart) lines → plan_of lines hart ≡ missing_plan
plan_of-unnamed [] hart h = refl
plan_of-unnamed (line ∷ lines) hart h =
    passed (nat_eq line.hart hart) line.plan (plan_of lines hart) (differs line.hart hart (All-head (λ l. l.hart ≢ hart) line lines h))
    ∙ plan_of-unnamed lines hart (All-tail (λ l. l.hart ≢ hart) line lines h)

unnamed : (lines : List PlanText) (hart : ℕ) → has_plan hart lines ≡ false → plan_of lines hart ≡ missing_plan
unnamed [] hart h = refl
unnamed (line ∷ lines) hart h =
    let both = neither (nat_eq line.hart hart) (has_plan hart lines) h in
    passed (nat_eq line.hart hart) line.plan (plan_of lines hart) both.0 ∙ unnamed lines hart both.1

-- the plan of a hart that a line names

is_other : (lines : List PlanText) (hart k : ℕ) (line : PlanText) → has_plan hart lines ≡ false → k < length lines → get_or lines k line ≡ line → nat_eq line.hart hart ≡ false
is_other [] hart k line h lt e = absurd (omega arith)
is_other (first ∷ lines) hart zero line h lt e =
    ap (λ (l : PlanText). nat_eq l.hart hart) (sym e) ∙ (neither (nat_eq first.hart hart) (has_plan hart lines) h).0
is_other (first ∷ lines) hart (suc k) line h lt e = is_other lines hart k line (neither (nat_eq first.hart hart) (has_plan hart lines) h).1 (omega arith) e

plan_of-at : (lines : List PlanText) (k : ℕ) (line : PlanText) → ArePlansApart lines → k < length lines → get_or lines k line ≡ line → plan_of lines line.hart ≡ line.plan
plan_of-at [] k line apart lt e = absurd (omega arith)
plan_of-at (first ∷ lines) zero line apart lt e =
    chosen (nat_eq first.hart line.hart) first.plan (plan_of lines line.hart) (ap (λ (l : PlanText). nat_eq first.hart l.hart) (sym e) ∙ itself first.hart)
    ∙ ap (λ (l : PlanText). l.plan) e
plan_of-at (first ∷ lines) (suc k) line apart lt e =
    let other = is_other lines first.hart k line apart.0 (omega arith) e in
    let unlike : first.hart ≢ line.hart = λ same. differ line.hart first.hart other (sym same) in
    passed (nat_eq first.hart line.hart) first.plan (plan_of lines line.hart) (differs first.hart line.hart unlike)
    ∙ plan_of-at lines k line apart.1 (omega arith) e

pub plan_of-named : (lines : List PlanText) (line : PlanText) → ArePlansApart lines → Contains lines line → plan_of lines line.hart ≡ line.plan
plan_of-named lines line apart within = plan_of-at lines within.0 line apart within.1 within.2

pub plan_at : (lines : List PlanText) (harts hart : ℕ) (other : Plan) → hart < harts → slice_index_or (plans_of lines harts) hart other ≡ plan_of lines hart
plan_at lines harts hart other lt = get_or-map-range_with_len (plan_of lines) 0 harts hart hart other lt (omega arith)

-- the quanta of all plans

-- the sum of a function of harts over n harts from a on
abbrev total : (ℕ → ℕ) → ℕ → ℕ → ℕ
total f a zero = 0
total f a (suc n) = f a + total f (a + 1) n

sum_by-map-range : {X : Type 0} (size : X → ℕ) (item : ℕ → X) (a n : ℕ) → sum_by size (map item (range_with_len a n)) ≡ total (λ k. size (item k)) a n
sum_by-map-range size item a zero = refl
sum_by-map-range size item a (suc n) =
    sum_by-cons size (item a) (map item (range_with_len (a + 1) n)) ∙ ap (λ m. size (item a) + m) (sum_by-map-range size item (a + 1) n)

total_of_sum : (f g u : ℕ → ℕ) → ((k : ℕ) → f k ≡ g k + u k) → (a n : ℕ) → total f a n ≡ total g a n + total u a n
total_of_sum f g u h a zero = refl
total_of_sum f g u h a (suc n) = omega (arith, h a, total_of_sum f g u h (a + 1) n)

-- a number at one hart, and 0 at all others
abbrev only_at : ℕ → ℕ → ℕ → ℕ
only_at hart size k = cond (nat_eq hart k) size 0

only_at_other : (b : Bool) (size : ℕ) → b ≡ false → cond b size 0 ≡ 0
only_at_other b size h = ap (λ c. cond c size 0) h

only_at_it : (b : Bool) (size : ℕ) → b ≡ true → cond b size 0 ≡ size
only_at_it b size h = ap (λ c. cond c size 0) h

total_past : (hart size a n : ℕ) → hart < a → total (only_at hart size) a n ≡ 0
total_past hart size a zero h = refl
total_past hart size a (suc n) h =
    let here = only_at_other (nat_eq hart a) size (differs hart a (λ e. absurd (omega arith))) in
    omega (arith, here, total_past hart size (a + 1) n (omega arith))

total_one_step : (b : Bool) (hart size a n : ℕ) → nat_eq hart a ≡ b → a ≤ hart → hart < a + suc n
    → (a + 1 ≤ hart → hart < a + 1 + n → total (only_at hart size) (a + 1) n ≡ size)
    → total (only_at hart size) a (suc n) ≡ size
total_one_step true hart size a n h low high later =
    let same = equal hart a h in
    let here = only_at_it (nat_eq hart a) size h in
    omega (arith, here, total_past hart size (a + 1) n (omega arith))
total_one_step false hart size a n h low high later =
    let unlike = differ hart a h in
    let here = only_at_other (nat_eq hart a) size h in
    omega (arith, here, later (omega arith) (omega arith))

total_one : (hart size a n : ℕ) → a ≤ hart → hart < a + n → total (only_at hart size) a n ≡ size
total_one hart size a zero low high = absurd (omega arith)
total_one hart size a (suc n) low high = total_one_step (nat_eq hart a) hart size a n refl low high (total_one hart size (a + 1) n)

abbrev size_of : Plan → ℕ
size_of plan = length plan.quanta

split : (b : Bool) (here later : Plan) → (b ≡ true → later ≡ missing_plan) → size_of (cond b here later) ≡ cond b (size_of here) 0 + size_of later
split true here later h = omega (arith, ap size_of (h refl))
split false here later h = omega arith

no_quanta : (a n : ℕ) → total (λ k. size_of (plan_of [] k)) a n ≡ 0
no_quanta a zero = refl
no_quanta a (suc n) = omega (arith, no_quanta (a + 1) n)

total_quanta : (lines : List PlanText) (n : ℕ) → ArePlansApart lines → All (λ line. line.hart < n) lines → total (λ k. size_of (plan_of lines k)) 0 n ≡ quanta_listed lines
total_quanta [] n apart there = no_quanta 0 n
total_quanta (line ∷ lines) n apart there =
    let at_it : (k : ℕ) → nat_eq line.hart k ≡ true → plan_of lines k ≡ missing_plan =
    λ k h. ap (plan_of lines) (sym (equal line.hart k h)) ∙ unnamed lines line.hart apart.0 in
    let parts = total_of_sum (λ k. size_of (plan_of (line ∷ lines) k)) (only_at line.hart (size_of line.plan)) (λ k. size_of (plan_of lines k))
    (λ k. split (nat_eq line.hart k) line.plan (plan_of lines k) (at_it k)) 0 n in
    let here = total_one line.hart (size_of line.plan) 0 n (omega arith) (omega (arith, All-head (λ l. l.hart < n) line lines there)) in
    let later = total_quanta lines n apart.1 (All-tail (λ l. l.hart < n) line lines there) in
    omega (arith, parts, here, later, sum_by-cons (λ l. size_of l.plan) line lines)

-- The harts' plans list as many quanta as the plan lines do.
pub quanta-plans_of : (lines : List PlanText) (harts : ℕ) → ArePlansApart lines → All (λ line. line.hart < harts) lines
    → sum_by (λ plan. length plan.quanta) (plans_of lines harts) ≡ quanta_listed lines
quanta-plans_of lines harts apart there = sum_by-map-range size_of (plan_of lines) 0 harts ∙ total_quanta lines harts apart there
