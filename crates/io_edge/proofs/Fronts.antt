-- Fronts of a list of bytes: what was taken of it, and what is left.
use Rattle.std.proofs.Common.{◌≡◌, ℕ, ◌+◌, ◌-◌, ◌<◌, ◌≤◌, List, ◌++◌, length, take, drop, Option, None, Some, IfSome, arith, sym, ap, append_assoc, length-append, length-take, length-drop, ◌∙◌}
use Rattle.std.proofs.Math.Seq.{drop-append_seam, take-add}
use Rattle.std.proofs.lemmas.List.{take-append-drop, take_at, drop-drop}
use Rattle.std.proofs.KnownBytes.{Consumes-trans}
use Rattle.std.specs.Io.KnownBytes.{Consumes}
use Rattle.io_edge.specs.Causes.{ConsumesAtMost}

-- Where `limit + 1` known bytes were taken, there were more than `limit`, and the rest is left.
pub past_limit : (old new : Option (List ℕ)) (taken : List ℕ) (limit : ℕ) → Consumes old new taken → length taken ≡ limit + 1
    → IfSome old (λ bytes. (limit < length bytes) × (new ≡ Some (drop (limit + 1) bytes)))
past_limit None new taken limit h e = tt
past_limit (Some xs) None taken limit h e = absurd h
past_limit (Some xs) (Some ys) taken limit h e = (
  omega (arith, ap length h, length-append taken ys),
  ap (λ l. Some l) (sym (drop-append_seam taken ys) ∙ ap (λ l. drop (length taken) l) (sym h)) ∙ ap (λ n. Some (drop n xs)) e,
)

-- What was taken before and what was taken now is a front.
pub front_taken : (old now new : Option (List ℕ)) (before piece : List ℕ) (most : ℕ) → Consumes old now before
    → Consumes now new piece → length before + length piece ≤ most → ConsumesAtMost old new most
front_taken old now new before piece most p q h =
    (before ++ piece, omega (arith, length-append before piece), Consumes-trans old now new before piece p q)

-- What stands from `at` on is the next n bytes, read into a piece, and what stands from `at + n` on.
pub next_bytes : (bytes rest piece : List ℕ) (at n : ℕ) → piece ≡ take (at + n - at) (drop at bytes) → at + n ≤ length bytes
    → drop at bytes ≡ take n (piece ++ rest) ++ drop (at + n) bytes
next_bytes bytes rest piece at n e h =
    let same : at + n - at ≡ n = omega arith in
    let next : piece ≡ take n (drop at bytes) = e ∙ ap (λ k. take k (drop at bytes)) same in
    let len : length piece ≡ n = omega (arith, ap length next, length-take n (drop at bytes), length-drop at bytes) in
    sym (take-append-drop n (drop at bytes)) ∙ ap (λ l. l ++ drop n (drop at bytes)) (sym next ∙ sym (take_at piece rest n len))
    ∙ ap (λ l. take n (piece ++ rest) ++ l) (drop-drop n at bytes)

-- What was taken grows from one front to the next.
pub front_grows : (start now new bytes : List ℕ) (gone count : ℕ) → now ≡ start ++ take gone bytes → new ≡ now ++ take count (drop gone bytes)
    → new ≡ start ++ take (gone + count) bytes
front_grows start now new bytes gone count before step =
    step ∙ ap (λ l. l ++ take count (drop gone bytes)) before ∙ append_assoc start (take gone bytes) (take count (drop gone bytes))
    ∙ ap (λ l. start ++ l) (sym (take-add gone count bytes))

-- A front and the next n bytes, read into a piece, are a longer front.
pub longer_front : (bytes rest piece : List ℕ) (at n : ℕ) → piece ≡ take (at + n - at) (drop at bytes) → at + n ≤ length bytes
    → take (at + n) bytes ≡ take at bytes ++ take n (piece ++ rest)
longer_front bytes rest piece at n e h =
    let same : at + n - at ≡ n = omega arith in
    let next : piece ≡ take n (drop at bytes) = e ∙ ap (λ k. take k (drop at bytes)) same in
    let len : length piece ≡ n = omega (arith, ap length next, length-take n (drop at bytes), length-drop at bytes) in
    take-add at n bytes ∙ ap (λ l. take at bytes ++ l) (sym next ∙ sym (take_at piece rest n len))
