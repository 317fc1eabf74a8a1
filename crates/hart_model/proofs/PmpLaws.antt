-- Which entry decides, what a power of two covers, and what a task's bounds allow.
use Rattle.std.proofs.Common.{◌≡◌, ℕ, zero, suc, ◌+◌, ◌*◌, ◌-◌, ◌/◌, ◌%◌, ◌^◌, ◌<◌, ◌≤◌, ◌⊎◌, inl, inr, Bool, true, false, ◌&&◌, nat_lt, nat_le, refl, sym, ap, ◌∙◌, arith, length, None, is_some, slice_get, if◌then◌else◌, leb-true, lt-ltb, le-ltb, List}
use Rattle.std.proofs.Math.Nat.{pow-succ'}
use Rattle.std.proofs.lemmas.Nat.{pow_pos, pow-add}
use Rattle.std.proofs.lemmas.Bool.{cases_lt}
use Rattle.std.proofs.lemmas.Bool.Decides.{nat_tests}
use Rattle.std.proofs.lemmas.Option.{slice_get_past, slice_get-get_or}
use Rattle.isa_model.specs.declared.task.Task.{Task}
use Rattle.isa_model.specs.Alone.{code_word_at, is_data_address}
use Rattle.hart_model.specs.declared.access.Access.{Access}
use Rattle.hart_model.specs.declared.access.Access.TheVariants.{Read, Write, Fetch}
use Rattle.hart_model.specs.declared.region.Region.{Region}
use Rattle.hart_model.specs.Pmp.{low_ones, is_allowed_by, is_touched, is_covered, is_permitted, IsAccessSize}
use Rattle.hart_model.specs.Laws.{LowestMatchDecides, UnmatchedFails, NapotIsAligned, BoundsAllowRunAlone, is_allowed_alone}

pub lowest_decides : LowestMatchDecides
unfolding is_allowed_by
lowest_decides p at size zero kind h = rw h.matches refl
lowest_decides p at size (suc zero) kind h =
    let n0 = h.below 0 (omega arith) in rw (n0, h.matches) refl
lowest_decides p at size (suc (suc zero)) kind h =
    let n0 = h.below 0 (omega arith) in let n1 = h.below 1 (omega arith) in rw (n0, n1, h.matches) refl
lowest_decides p at size (suc (suc (suc zero))) kind h =
    let n0 = h.below 0 (omega arith) in let n1 = h.below 1 (omega arith) in let n2 = h.below 2 (omega arith) in
    rw (n0, n1, n2, h.matches) refl
lowest_decides p at size (suc (suc (suc (suc k)))) kind h = absurd (omega (arith, h.exists))

pub unmatched_fails : UnmatchedFails
unfolding is_allowed_by
unmatched_fails p at size kind none =
    let n0 = none 0 (omega arith) in let n1 = none 1 (omega arith) in let n2 = none 2 (omega arith) in let n3 = none 3 (omega arith) in
    rw (n0, n1, n2, n3) refl

-- a word that ends in a 0 and k ones has k low ones
pub low_ones_of : (width m k : ℕ) → k ≤ width → low_ones width (m * 2 ^ (k + 1) + (2 ^ k - 1)) ≡ k
unfolding low_ones
low_ones_of zero m zero h = refl
low_ones_of zero m (suc k) h = absurd (omega arith)
low_ones_of (suc width) m zero h =
    let even : (m * 2 + 0) % 2 ≡ 0 = omega arith in rw even refl
low_ones_of (suc width) m (suc k) h =
    let some : 0 < 2 ^ k = pow_pos k in
    let twice : 2 ^ suc k ≡ 2 * 2 ^ k = pow-succ' 2 k in
    let again : 2 ^ (suc k + 1) ≡ 2 * 2 ^ (k + 1) = ap (λ n. 2 ^ n) (omega arith) ∙ pow-succ' 2 (k + 1) in
    let word : m * 2 ^ (suc k + 1) + (2 ^ suc k - 1) ≡ 2 * (m * 2 ^ (k + 1) + (2 ^ k - 1)) + 1 = rw (again, twice) (omega (arith, some)) in
    let odd : (2 * (m * 2 ^ (k + 1) + (2 ^ k - 1)) + 1) % 2 ≡ 1 = omega arith in
    let half : (2 * (m * 2 ^ (k + 1) + (2 ^ k - 1)) + 1) / 2 ≡ m * 2 ^ (k + 1) + (2 ^ k - 1) = omega arith in
    rw (word, odd, half, low_ones_of width m k (omega arith)) (omega arith)

pub napot_aligned : NapotIsAligned
napot_aligned p i m k h napot word =
    let eight : 2 ^ (k + 3) ≡ 8 * 2 ^ k = pow-add 2 k 3 ∙ omega arith in
    let two : 2 ^ (k + 1) ≡ 2 * 2 ^ k = pow-add 2 k 1 ∙ omega arith in
    let low : 4 * (m * 2 ^ (k + 1) + (2 ^ k - 1) - (2 ^ k - 1)) ≡ m * 2 ^ (k + 3) = rw (two, eight) (omega arith) in
    let high : m * 2 ^ (k + 3) + 2 ^ (k + 3) ≡ (m + 1) * 2 ^ (k + 3) = omega arith in
    rw (napot, word, low_ones_of 32 m k h, low, high) refl

-- a multiple of 4 doesn't lie inside an access
pub whole_below : (size at bound : ℕ) → IsAccessSize size → at % size ≡ 0 → bound % 4 ≡ 0 → at < bound → at + size ≤ bound
whole_below size at bound (inl one) even whole h = omega arith
whole_below size at bound (inr (inl two)) even whole h =
    let e : at % 2 ≡ 0 = rw two at even in omega arith
whole_below size at bound (inr (inr four)) even whole h =
    let e : at % 4 ≡ 0 = rw four at even in omega arith

pub whole_above : (size at bound : ℕ) → IsAccessSize size → at % size ≡ 0 → bound % 4 ≡ 0 → bound < at + size → bound ≤ at
whole_above size at bound (inl one) even whole h = omega arith
whole_above size at bound (inr (inl two)) even whole h =
    let e : at % 2 ≡ 0 = rw two at even in omega arith
whole_above size at bound (inr (inr four)) even whole h =
    let e : at % 4 ≡ 0 = rw four at even in omega arith

pub some_size : (size : ℕ) → IsAccessSize size → 0 < size
some_size size (inl one) = omega arith
some_size size (inr (inl two)) = omega arith
some_size size (inr (inr four)) = omega arith

pub record IsWholeRegion (r : Region) : Type 0 where
  pub low_whole : r.low % 4 ≡ 0
  pub high_whole : r.high % 4 ≡ 0

-- whether an address lies in a region
abbrev pub is_inside : Region → ℕ → Bool
is_inside r at = nat_le r.low at && nat_lt at r.high

-- a region of whole words has an access whole or not at all, by where it begins
pub touched-inside : (r : Region) (at size : ℕ) → IsWholeRegion r → IsAccessSize size → at % size ≡ 0 → is_touched r at size ≡ is_inside r at
touched-inside r at size w s even =
    let pos = some_size size s in
    let above : r.low < at + size → r.low ≤ at = whole_above size at r.low s even w.low_whole in
    grind (arith, nat_tests)

pub covered-inside : (r : Region) (at size : ℕ) → IsWholeRegion r → IsAccessSize size → at % size ≡ 0 → is_inside r at ≡ true → is_covered r at size ≡ true
covered-inside r at size w s even inside =
    let below : at < r.high → at + size ≤ r.high = whole_below size at r.high s even w.high_whole in
    grind (arith, nat_tests)

abbrev nothing : Region
nothing = record { low = 0; high = 0 }

nothing-touched : (at size : ℕ) → is_touched nothing at size ≡ false
nothing-touched at size = grind (arith, nat_tests)

-- an entry of whole words permits an access that begins in it, and passes every other on
entry_answer : (r : Region) (at size : ℕ) (permits later : Bool) → IsWholeRegion r → IsAccessSize size → at % size ≡ 0 →
    (if is_touched r at size then is_covered r at size && permits else later) ≡ (if is_inside r at then permits else later)
entry_answer r at size permits later w s even =
    let meets = touched-inside r at size w s even in
    let all = covered-inside r at size w s even in
    rw meets (go (is_inside r at) all)
  where
    go : (b : Bool) → (b ≡ true → is_covered r at size ≡ true) → (if b then is_covered r at size && permits else later) ≡ (if b then permits else later)
    go true all = rw (all refl) refl
    go false all = refl

-- of two entries that are on, with one that is off below each
two_entries : (first second : Region) (at size : ℕ) (in_first in_second off off' : Bool) → IsWholeRegion first → IsWholeRegion second →
    IsAccessSize size → at % size ≡ 0 →
    (if is_touched nothing at size then off else
    if is_touched first at size then is_covered first at size && in_first else
    if is_touched nothing at size then off' else
    if is_touched second at size then is_covered second at size && in_second else false)
    ≡ (if is_inside first at then in_first else if is_inside second at then in_second else false)
two_entries first second at size in_first in_second off off' w w' s even =
    rw (nothing-touched at size, entry_answer first at size in_first _ w s even, entry_answer second at size in_second false w' s even) refl

is_some-slice_get : (xs : List ℕ) (i : ℕ) → is_some (slice_get xs i) ≡ nat_lt i (length xs)
is_some-slice_get xs i = go (cases_lt i (length xs))
  where
    go : (i < length xs) ⊎ (length xs ≤ i) → is_some (slice_get xs i) ≡ nat_lt i (length xs)
    go (inl within) = rw (slice_get-get_or xs i 0 within, lt-ltb i (length xs) within) refl
    go (inr past) = rw (slice_get_past xs i past, le-ltb i (length xs) past) refl

abbrev code_region : Task → Region
code_region T = record { low = T.code_at; high = T.code_at + 4 * length T.code }

abbrev data_region : Task → Region
data_region T = record { low = T.data_at; high = T.data_at + 4 * T.data_len }

code_inside : (T : Task) (at : ℕ) → is_some (code_word_at T at) ≡ is_inside (code_region T) at
code_inside T at = go (nat_le T.code_at at) refl
  where
    go : (b : Bool) → nat_le T.code_at at ≡ b → is_some (if b then slice_get T.code ((at - T.code_at) / 4) else None) ≡ (b && nat_lt at (T.code_at + 4 * length T.code))
    go false below = refl
    go true above =
        let low = leb-true T.code_at at above in
        is_some-slice_get T.code ((at - T.code_at) / 4) ∙ grind (arith, nat_tests)

apart_once : (first second : Region) (at : ℕ) → (first.high ≤ second.low) ⊎ (second.high ≤ first.low) → is_inside first at ≡ true → is_inside second at ≡ false
apart_once first second at (inl h) inside = grind (arith, nat_tests)
apart_once first second at (inr h) inside = grind (arith, nat_tests)

-- what the two entries permit, where code and data lie apart
by_kind : (T : Task) (at : ℕ) (kind : Access) → (in_code in_data : Bool) → is_some (code_word_at T at) ≡ in_code → is_data_address T at ≡ in_data →
    (in_code ≡ true → in_data ≡ false) →
    (if in_code then is_permitted 0x0d kind else if in_data then is_permitted 0x0b kind else false) ≡ is_allowed_alone T at kind
by_kind T at Fetch true in_data c d apart = sym c
by_kind T at Fetch false true c d apart = sym c
by_kind T at Fetch false false c d apart = sym c
by_kind T at Read true in_data c d apart = rw c refl
by_kind T at Read false true c d apart = rw (c, d) refl
by_kind T at Read false false c d apart = rw (c, d) refl
by_kind T at Write true in_data c d apart = sym (apart refl) ∙ sym d
by_kind T at Write false true c d apart = sym d
by_kind T at Write false false c d apart = sym d

pub bounds_allow : BoundsAllowRunAlone
unfolding is_allowed_by
bounds_allow T valid at size kind s even =
    let code_low : 4 * (T.code_at / 4) ≡ T.code_at = omega (arith, valid.code_aligned) in
    let code_high : 4 * ((T.code_at + 4 * length T.code) / 4) ≡ T.code_at + 4 * length T.code = omega (arith, valid.code_aligned) in
    let data_low : 4 * (T.data_at / 4) ≡ T.data_at = omega (arith, valid.data_aligned) in
    let data_high : 4 * ((T.data_at + 4 * T.data_len) / 4) ≡ T.data_at + 4 * T.data_len = omega (arith, valid.data_aligned) in
    let code_whole : IsWholeRegion (code_region T) = record { low_whole = valid.code_aligned; high_whole = omega (arith, valid.code_aligned) } in
    let data_whole : IsWholeRegion (data_region T) = record { low_whole = valid.data_aligned; high_whole = omega (arith, valid.data_aligned) } in
    rw (code_low, code_high, data_low, data_high)
    (two_entries (code_region T) (data_region T) at size _ _ _ _ code_whole data_whole s even
    ∙ by_kind T at kind (is_inside (code_region T) at) (is_inside (data_region T) at) (code_inside T at) refl (apart_once (code_region T) (data_region T) at valid.apart))
