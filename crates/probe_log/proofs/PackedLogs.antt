-- What an entry more does to a packed log.
use Rattle.std.proofs.Common.{◌≡◌, ℕ, zero, suc, ◌+◌, ◌*◌, ◌/◌, ◌%◌, ◌<◌, ◌≤◌, ◌==◌, Bool, true, false, cond, List, [], ◌∷◌, ◌++◌, length, take, drop, Option, Some, None, refl, sym, ap, ◌∙◌, subst, ⊎_elim, arith, append_assoc}
use Rattle.std.proofs.lemmas.List.{take-append-le, take_at, length_push, append-nil}
use Rattle.std.proofs.lemmas.Bool.{cases_lt}
use Rattle.std.proofs.lemmas.Bool.Decides.{nat_tests}
use Rattle.std.specs.Prelude.{slice_get}
use Rattle.std.specs.List.{AllByRecursion}
use Rattle.hart_model.specs.declared.probe.Probe.{Probe}
use Rattle.probe_log.specs.Packing.{entry_words, in_block, words_from, packed_of, AreStartsOf}
use Rattle.probe_log.specs.Unpacking.{IsEntry, entries_in}
use Rattle.probe_log.specs.Reading.{last_of, starts_with, IsPackedLog}
use Rattle.probe_log.proofs.ReadsBack.{reads_back}

-- the words of two lists of entries, one after the other
pub words-append : (number : ℕ) (before : Option Probe) (xs ys : List Probe) →
    words_from number before (xs ++ ys) ≡ words_from number before xs ++ words_from (number + length xs) (last_of before xs) ys
words-append number before [] ys = ap (λ n. words_from n before ys) (omega arith)
words-append number before (x ∷ xs) ys =
    let others = words-append (number + 1) (Some x) xs ys in
    let same : number + 1 + length xs ≡ number + suc (length xs) = omega arith in
    let words : List ℕ = entry_words (in_block number before) x in
    ap (λ w. words ++ w) others
    ∙ sym (append_assoc words (words_from (number + 1) (Some x) xs) (words_from (number + 1 + length xs) (last_of (Some x) xs) ys))
    ∙ ap (λ n. (words ++ words_from (number + 1) (Some x) xs) ++ words_from n (last_of (Some x) xs) ys) same

-- an entry more
pub packed-push : (log : List Probe) (p : Probe) → packed_of (log ++ p ∷ []) ≡ packed_of log ++ entry_words (in_block (length log) (last_of None log)) p
packed-push log p =
    words-append 0 None log (p ∷ [])
    ∙ ap (λ n. packed_of log ++ (entry_words (in_block n (last_of None log)) p ++ [])) (omega arith)
    ∙ ap (λ w. packed_of log ++ w) (append-nil _)

pub last-push : (before : Option Probe) (log : List Probe) (p : Probe) → last_of before (log ++ p ∷ []) ≡ Some p
last-push before [] p = refl
last-push before (x ∷ xs) p = last-push (Some x) xs p

pub entries-push : (log : List Probe) (p : Probe) → AllByRecursion IsEntry log → IsEntry p → AllByRecursion IsEntry (log ++ p ∷ [])
entries-push [] p all is = (is, tt)
entries-push (x ∷ xs) p all is = (all.0, entries-push xs p all.1 is)

pub entries-drop : (n : ℕ) (log : List Probe) → AllByRecursion IsEntry log → AllByRecursion IsEntry (drop n log)
entries-drop zero log all = all
entries-drop (suc n) [] all = tt
entries-drop (suc n) (x ∷ xs) all = entries-drop n xs all.1

-- the item that a list has at its end, and those before it
get-push : (xs : List ℕ) (x : ℕ) → slice_get (xs ++ x ∷ []) (length xs) ≡ Some x
get-push [] x = refl
get-push (y ∷ xs) x = get-push xs x

get-push-before : (xs : List ℕ) (x k : ℕ) → k < length xs → slice_get (xs ++ x ∷ []) k ≡ slice_get xs k
get-push-before [] x k below = absurd (omega arith)
get-push-before (y ∷ xs) x zero below = refl
get-push-before (y ∷ xs) x (suc k) below = get-push-before xs x k (omega arith)

-- the starts of blocks, with an entry that begins none
starts-stay : (starts : List ℕ) (log : List Probe) (p : Probe) → (length log % 64 ≡ 0 → ⊥) → AreStartsOf starts log → AreStartsOf starts (log ++ p ∷ [])
starts-stay starts log p inside are k below =
    let length_is = length_push log p in
    let before : 64 * k < length log = omega arith in
    are k before ∙ ap (λ l. Some (length (packed_of l))) (sym (take-append-le (64 * k) log (p ∷ []) (omega arith)))

-- and with one that begins one
starts-more : (starts : List ℕ) (log : List Probe) (p : Probe) → length log % 64 ≡ 0 → length starts ≡ (length log + 63) / 64 → AreStartsOf starts log → AreStartsOf (starts ++ length (packed_of log) ∷ []) (log ++ p ∷ [])
starts-more starts log p begins blocks are k below =
    let length_is = length_push log p in
    ⊎_elim (λ (earlier : 64 * k < length log).
    get-push-before starts (length (packed_of log)) k (omega arith)
    ∙ are k earlier ∙ ap (λ l. Some (length (packed_of l))) (sym (take-append-le (64 * k) log (p ∷ []) (omega arith))))
    (λ (here : length log ≤ 64 * k).
    let at : k ≡ length starts = omega arith in
    let all : 64 * k ≡ length log = omega arith in
    ap (λ n. slice_get (starts ++ length (packed_of log) ∷ []) n) at
    ∙ get-push starts (length (packed_of log))
    ∙ ap (λ l. Some (length (packed_of l))) (sym (ap (λ n. take n (log ++ p ∷ [])) all ∙ take_at log (p ∷ []) (length log) refl)))
    (cases_lt (64 * k) (length log))

-- the words of a log are read as the log
pub packed_is_read : (packed starts : List ℕ) (len : ℕ) (last : Option Probe) (log : List Probe) → IsPackedLog packed starts len last log → entries_in 0 None len packed ≡ log
packed_is_read packed starts len last log is =
    ap (λ n. entries_in 0 None n packed) is.len_is ∙ ap (entries_in 0 None (length log)) is.words ∙ reads_back.log log is.entries

-- the starts of blocks, with an entry more
starts-push : (starts : List ℕ) (log : List Probe) (p : Probe) → length starts ≡ (length log + 63) / 64 → AreStartsOf starts log →
    AreStartsOf (starts_with (length log) (length (packed_of log)) starts) (log ++ p ∷ [])
starts-push starts log p blocks are = by_test (length log % 64 == 0) refl
  where
    by_test : (b : Bool) → (length log % 64 == 0) ≡ b → AreStartsOf (starts_with (length log) (length (packed_of log)) starts) (log ++ p ∷ [])
    by_test true e =
        let here : length log % 64 ≡ 0 = grind (arith, nat_tests) in
        subst (λ t. AreStartsOf (cond t (starts ++ length (packed_of log) ∷ []) starts) (log ++ p ∷ [])) (sym e) (starts-more starts log p here blocks are)
    by_test false e =
        let inside : length log % 64 ≡ 0 → ⊥ = grind (arith, nat_tests) in
        subst (λ t. AreStartsOf (cond t (starts ++ length (packed_of log) ∷ []) starts) (log ++ p ∷ [])) (sym e) (starts-stay starts log p inside are)

blocks-push : (starts : List ℕ) (number start : ℕ) → length starts ≡ (number + 63) / 64 → length (starts_with number start starts) ≡ (number + 1 + 63) / 64
blocks-push starts number start blocks = by_test (number % 64 == 0) refl
  where
    by_test : (b : Bool) → (number % 64 == 0) ≡ b → length (starts_with number start starts) ≡ (number + 1 + 63) / 64
    by_test true e =
        let here : number % 64 ≡ 0 = grind (arith, nat_tests) in
        let longer = length_push starts start in
        rw e (omega arith)
    by_test false e =
        let inside : number % 64 ≡ 0 → ⊥ = grind (arith, nat_tests) in
        rw e (omega arith)

-- a log with an entry more
push-packed : (packed starts : List ℕ) (len : ℕ) (last : Option Probe) (log : List Probe) (p : Probe) → IsPackedLog packed starts len last log → IsEntry p →
    IsPackedLog (packed ++ entry_words (in_block (length log) (last_of None log)) p) (starts_with len (length packed) starts) (len + 1) (Some p) (log ++ p ∷ [])
push-packed packed starts len last log p is entry =
    let length_is = length_push log p in
    let len_is : len ≡ length log = is.len_is in
    let same : starts_with len (length packed) starts ≡ starts_with (length log) (length (packed_of log)) starts =
    ap (λ n. starts_with n (length packed) starts) len_is ∙ ap (λ w. starts_with (length log) (length w) starts) is.words in
    record {
      words = ap (λ w. w ++ entry_words (in_block (length log) (last_of None log)) p) is.words ∙ sym (packed-push log p);
      starts = subst (λ s. AreStartsOf s (log ++ p ∷ [])) (sym same) (starts-push starts log p (is.blocks ∙ ap (λ n. (n + 63) / 64) len_is) is.starts);
      blocks = blocks-push starts len (length packed) is.blocks;
      len_is = omega arith;
      last = sym (last-push None log p);
      entries = entries-push log p is.entries entry;
    }

-- words with those of an entry more, and starts of blocks with them
pub record Pushed (packed starts : List ℕ) (len : ℕ) (p : Probe) (log : List Probe) : Type 0 where
  pub is_packed : IsPackedLog packed starts (len + 1) (Some p) (entries_in 0 None (len + 1) packed)
  pub entries : entries_in 0 None (len + 1) packed ≡ log ++ p ∷ []

-- Where `kept` is the log as callers see it, `before` the entry before in the block, and `whole` the words before.
pub pushed : (packed packed' whole starts starts' : List ℕ) (len : ℕ) (last before : Option Probe) (log kept : List Probe) (p : Probe) →
    IsPackedLog packed starts len last log → log ≡ kept → IsEntry p → before ≡ in_block (length kept) (last_of None kept) →
    packed' ≡ packed ++ entry_words before p → whole ≡ packed → starts' ≡ starts_with len (length whole) starts → Pushed packed' starts' len p log
pushed packed packed' whole starts starts' len last before log kept p is same entry before_is words_is whole_is starts_is =
    let more : List ℕ = packed ++ entry_words (in_block (length log) (last_of None log)) p in
    let words : packed' ≡ more =
    words_is ∙ ap (λ b. packed ++ entry_words b p) (before_is ∙ ap (λ (l : List Probe). in_block (length l) (last_of None l)) (sym same)) in
    let begins : starts' ≡ starts_with len (length packed) starts = starts_is ∙ ap (λ (w : List ℕ). starts_with len (length w) starts) whole_is in
    let theirs : IsPackedLog packed' starts' (len + 1) (Some p) (log ++ p ∷ []) =
    subst (λ w. IsPackedLog w starts' (len + 1) (Some p) (log ++ p ∷ [])) (sym words)
    (subst (λ s. IsPackedLog more s (len + 1) (Some p) (log ++ p ∷ [])) (sym begins) (push-packed packed starts len last log p is entry)) in
    let read : entries_in 0 None (len + 1) packed' ≡ log ++ p ∷ [] = packed_is_read packed' starts' (len + 1) (Some p) (log ++ p ∷ []) theirs in
    record { is_packed = subst (IsPackedLog packed' starts' (len + 1) (Some p)) (sym read) theirs; entries = read }

-- an empty log
pub none_packed : IsPackedLog [] [] 0 None []
none_packed = record { words = refl; starts = λ k below. absurd (omega arith); blocks = refl; len_is = refl; last = refl; entries = tt }
