-- Where a reader is in a log.
use Rattle.std.proofs.Common.{◌≡◌, ℕ, zero, suc, ◌+◌, ◌*◌, ◌%◌, ◌<◌, ◌≤◌, ◌==◌, ◌⊎◌, List, [], ◌∷◌, ◌++◌, length, take, drop, get_or, Option, Some, None, refl, sym, ap, ◌∙◌, subst, inl, inr, ⊎_elim, arith, eq-eqb}
use Rattle.std.proofs.lemmas.List.{take-append-drop, drop_at, length-take-le, drop_all, length-append}
use Rattle.std.specs.Prelude.{slice_get, option_map, unwrap_or, if◌then◌else◌}
use Rattle.std.specs.List.{AllByRecursion}
use Rattle.hart_model.specs.declared.probe.Probe.{Probe}
use Rattle.probe_log.specs.Packing.{entry_words, in_block, words_from, packed_of}
use Rattle.probe_log.specs.Unpacking.{IsEntry, entry_in}
use Rattle.probe_log.specs.Reading.{Reading, IsAt, last_of, IsPackedLog}
use Rattle.probe_log.proofs.ReadsBack.{reads_back}
use Rattle.probe_log.proofs.PackedLogs.{words-append, entries-drop}

-- a log has no entry n, or it has this one, and these after it
record IsPast (log : List Probe) (n : ℕ) : Type 0 where
  past : length log ≤ n
  none : slice_get log n ≡ None

record HasEntry (log : List Probe) (n : ℕ) : Type 0 where
  p : Probe
  others : List Probe
  below : n < length log
  entry : slice_get log n ≡ Some p
  from : drop n log ≡ p ∷ others
  after : drop (n + 1) log ≡ others

entry_or_past : (log : List Probe) (n : ℕ) → IsPast log n ⊎ HasEntry log n
entry_or_past [] n = inl (record { past = omega arith; none = refl })
entry_or_past (x ∷ xs) zero = inr (record { p = x; others = xs; below = omega arith; entry = refl; from = refl; after = refl })
entry_or_past (x ∷ xs) (suc n) = ⊎_elim
    (λ (h : IsPast xs n). inl (record { past = omega arith; none = h.none }))
    (λ (h : HasEntry xs n). inr (record {
      p = h.p;
      others = h.others;
      below = omega arith;
      entry = h.entry;
      from = h.from;
      after = ap (λ m. drop m (x ∷ xs)) (suc_more n) ∙ h.after;
    }))
    (entry_or_past xs n)
  where
    suc_more : (n : ℕ) → suc n + 1 ≡ suc (n + 1)
    suc_more n = omega arith

-- no words are left exactly at the end
no_words : (r : Reading) (log : List Probe) (n : ℕ) → IsAt r log n → r.words ≡ [] → IsPast log n
no_words r log n at none = ⊎_elim
    (λ (h : IsPast log n). h)
    (λ (h : HasEntry log n).
    let words : r.words ≡ entry_words (in_block n r.before) h.p ++ words_from (n + 1) (Some h.p) h.others = at.words ∙ ap (words_from n r.before) h.from in
    absurd (cc))
    (entry_or_past log n)

-- at the end a reader stays
pub past-end : (r : Reading) (log : List Probe) (n : ℕ) → IsAt r log n → r.words ≡ [] → (None ≡ slice_get log n) × IsAt r log (n + 1)
past-end r log n at none =
    let past = no_words r log n at none in
    let nothing : drop (n + 1) log ≡ [] = drop_all (n + 1) log (omega arith) in (
      sym past.none,
      record {
        place = λ below. absurd (omega arith);
        words = none ∙ ap (words_from (n + 1) r.before) (sym nothing);
        entries = subst (AllByRecursion IsEntry) (sym nothing) tt;
      },
    )

-- the place in the block tells as much as the number
in_block-place : (place n : ℕ) (before : Option Probe) → place ≡ n % 64 → in_block place before ≡ in_block n before
in_block-place place n before e = ap (λ m. if m == 0 then None else before) (remainder place n e)
  where
    remainder : (place n : ℕ) → place ≡ n % 64 → place % 64 ≡ n % 64
    remainder place n e = omega arith

-- what a reader with words left reads, and where it is then
pub record Read (r : Reading) (log : List Probe) (n : ℕ) (found : Option Probe) (left : List ℕ) : Type 0 where
  pub p : Probe
  pub found_is : found ≡ Some p
  pub entry : slice_get log n ≡ Some p
  pub at : IsAt (record { place = (r.place + 1) % 64; before = Some p; words = left }) log (n + 1)

pub reads-entry : (r : Reading) (log : List Probe) (n : ℕ) (found : Option Probe) (left : List ℕ) → IsAt r log n → (r.words ≡ [] → ⊥) →
    option_map (λ p. (p, left)) found ≡ entry_in (in_block r.place r.before) r.words → Read r log n found left
reads-entry r log n found left at some read = ⊎_elim
    (λ (past : IsPast log n).
    let nothing : drop n log ≡ [] = drop_all n log past.past in
    absurd (some (at.words ∙ ap (words_from n r.before) nothing)))
    (λ (h : HasEntry log n).
    let entries : AllByRecursion IsEntry (h.p ∷ h.others) = subst (AllByRecursion IsEntry) h.from at.entries in
    let left_over : List ℕ = words_from (n + 1) (Some h.p) h.others in
    let words : r.words ≡ entry_words (in_block n r.before) h.p ++ left_over = at.words ∙ ap (words_from n r.before) h.from in
    let is_read : option_map {U = Probe × List ℕ} (λ (p : Probe). (p, left)) found ≡ Some (h.p, left_over) =
    read
    ∙ ap (λ b. entry_in b r.words) (in_block-place r.place n r.before (at.place h.below))
    ∙ ap (entry_in (in_block n r.before)) words
    ∙ reads_back.entry (in_block n r.before) h.p left_over entries.0 in
    let same = only found left h.p left_over is_read in
    record {
      p = h.p;
      found_is = same.0;
      entry = h.entry;
      at = record {
        place = λ below. next_place r.place n (at.place h.below);
        words = same.1 ∙ ap (words_from (n + 1) (Some h.p)) (sym h.after);
        entries = subst (AllByRecursion IsEntry) (sym h.after) entries.1;
      };
    })
    (entry_or_past log n)
  where
    only : (found : Option Probe) (left : List ℕ) (p : Probe) (words : List ℕ) → option_map {U = Probe × List ℕ} (λ (q : Probe). (q, left)) found ≡ Some (p, words) → (found ≡ Some p) × (left ≡ words)
    only None left p words e = absurd (cc)
    only (Some q) left p words e =
        let pairs : ◌≡◌ {A = Probe × List ℕ} (q, left) (p, words) = ap (λ (o : Option (Probe × List ℕ)). unwrap_or o (q, left)) e in
        (ap Some (ap (λ (x : Probe × List ℕ). x.0) pairs), ap (λ (x : Probe × List ℕ). x.1) pairs)

    next_place : (place n : ℕ) → place ≡ n % 64 → (place + 1) % 64 ≡ (n + 1) % 64
    next_place place n e = omega arith

-- of which words the first block of a part is made
in_block-start : (n : ℕ) (before : Option Probe) → n % 64 ≡ 0 → in_block n before ≡ None
in_block-start n before e = rw (eq-eqb (n % 64) 0 e) refl

block-words : (n : ℕ) (before : Option Probe) (log : List Probe) → n % 64 ≡ 0 → words_from n before log ≡ words_from n None log
block-words n before [] e = refl
block-words n before (p ∷ ps) e = ap (λ b. entry_words b p ++ words_from (n + 1) (Some p) ps) (in_block-start n before e ∙ sym (in_block-start n None e))

-- a block starts at these words, and those from there on are those of the entries from there on
get_is : (xs : List ℕ) (k y d : ℕ) → slice_get xs k ≡ Some y → get_or xs k d ≡ y
get_is [] k y d e = absurd (cc)
get_is (x ∷ xs) zero y d e = cc
get_is (x ∷ xs) (suc k) y d e = get_is xs k y d e

pub block-start : (packed starts : List ℕ) (len : ℕ) (last : Option Probe) (log : List Probe) (k start : ℕ) → IsPackedLog packed starts len last log →
    64 * k < length log → start ≡ get_or starts k start → (start ≤ length packed) × (drop start packed ≡ words_from (64 * k) None (drop (64 * k) log))
block-start packed starts len last log k start is below got =
    let n : ℕ = 64 * k in
    let front : List ℕ = packed_of (take n log) in
    let rest : List ℕ = words_from n None (drop n log) in
    let length_is : length (take n log) ≡ n = length-take-le n log (omega arith) in
    let parts : packed ≡ front ++ rest =
    is.words
    ∙ ap packed_of (sym (take-append-drop n log))
    ∙ words-append 0 None (take n log) (drop n log)
    ∙ ap (λ m. front ++ words_from m (last_of None (take n log)) (drop n log)) (omega arith)
    ∙ ap (λ w. front ++ w) (block-words n (last_of None (take n log)) (drop n log) (omega arith)) in
    let same : start ≡ length front = got ∙ get_is starts k (length front) start (is.starts k below) in
    let sum : length packed ≡ length front + length rest = ap length parts ∙ length-append front rest in
    (omega arith, ap (drop start) parts ∙ drop_at front rest start (sym same))

-- a reader of them is there
pub at-block : (packed starts : List ℕ) (len : ℕ) (last : Option Probe) (log : List Probe) (k start : ℕ) → IsPackedLog packed starts len last log →
    64 * k < length log → start ≡ get_or starts k start → IsAt (record { place = 0; before = None; words = drop start packed }) log (64 * k)
at-block packed starts len last log k start is below got = record {
  place = λ b. omega arith;
  words = (block-start packed starts len last log k start is below got).1;
  entries = entries-drop (64 * k) log is.entries;
}

-- and so at the first entry
pub at-start : (packed starts : List ℕ) (len : ℕ) (last : Option Probe) (log : List Probe) → IsPackedLog packed starts len last log → IsAt (record { place = 0; before = None; words = packed }) log 0
at-start packed starts len last log is = record { place = λ b. refl; words = is.words; entries = is.entries }
