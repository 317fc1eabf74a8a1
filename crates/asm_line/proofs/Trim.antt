-- Blanks at the ends of a text, one at a time.
use Rattle.std.proofs.Common.{◌≡◌, ℕ, zero, suc, ◌+◌, ◌-◌, ◌<◌, ◌≤◌, true, false, List, [], ◌∷◌, length, take, drop, reverse, get_or, refl, ap, sym, ◌∙◌, arith, drop-cons}
use Rattle.std.proofs.Math.Seq.{take-suc}
use Rattle.std.proofs.lemmas.List.{reverse-append, reverse-reverse}
use Rattle.asm_line.specs.declared.pieces.Separator.TheVariants.{Blank}
use Rattle.asm_line.specs.Pieces.{is_separator, trim_start, trim_end}

trim_start-cons_more : (b : ℕ) (bs : List ℕ) → is_separator Blank b ≡ true → trim_start (b ∷ bs) ≡ trim_start bs
trim_start-cons_more b bs h = rw h refl

trim_start-cons_stop : (b : ℕ) (bs : List ℕ) → is_separator Blank b ≡ false → trim_start (b ∷ bs) ≡ b ∷ bs
trim_start-cons_stop b bs h = rw h refl

pub trim_start_more : (xs : List ℕ) (i : ℕ) → i < length xs → is_separator Blank (get_or xs i 0) ≡ true → trim_start (drop i xs) ≡ trim_start (drop (i + 1) xs)
trim_start_more xs i lt h =
    ap trim_start (drop-cons xs i 0 lt) ∙ trim_start-cons_more (get_or xs i 0) (drop (suc i) xs) h
    ∙ ap (λ n. trim_start (drop n xs)) (let e : suc i ≡ i + 1 = omega arith in e)

pub trim_start_stop : (xs : List ℕ) (i : ℕ) → i < length xs → is_separator Blank (get_or xs i 0) ≡ false → trim_start (drop i xs) ≡ drop i xs
trim_start_stop xs i lt h =
    ap trim_start (drop-cons xs i 0 lt) ∙ trim_start-cons_stop (get_or xs i 0) (drop (suc i) xs) h ∙ sym (drop-cons xs i 0 lt)

reverse_take : (xs : List ℕ) (i : ℕ) → i < length xs → reverse (take (suc i) xs) ≡ get_or xs i 0 ∷ reverse (take i xs)
reverse_take xs i lt = ap reverse (take-suc xs i 0 lt) ∙ reverse-append (take i xs) (get_or xs i 0 ∷ [])

trim_end_more_suc : (xs : List ℕ) (i : ℕ) → i < length xs → is_separator Blank (get_or xs i 0) ≡ true → trim_end (take (suc i) xs) ≡ trim_end (take i xs)
trim_end_more_suc xs i lt h =
    ap (λ l. reverse (trim_start l)) (reverse_take xs i lt)
    ∙ ap reverse (trim_start-cons_more (get_or xs i 0) (reverse (take i xs)) h)

trim_end_stop_suc : (xs : List ℕ) (i : ℕ) → i < length xs → is_separator Blank (get_or xs i 0) ≡ false → trim_end (take (suc i) xs) ≡ take (suc i) xs
trim_end_stop_suc xs i lt h =
    ap (λ l. reverse (trim_start l)) (reverse_take xs i lt)
    ∙ ap reverse (trim_start-cons_stop (get_or xs i 0) (reverse (take i xs)) h)
    ∙ ap reverse (sym (reverse_take xs i lt)) ∙ reverse-reverse (take (suc i) xs)

pub trim_end_more : (xs : List ℕ) (n : ℕ) → 0 < n → n ≤ length xs → is_separator Blank (get_or xs (n - 1) 0) ≡ true → trim_end (take n xs) ≡ trim_end (take (n - 1) xs)
trim_end_more xs zero low high h = absurd (omega arith)
trim_end_more xs (suc i) low high h =
    let e : suc i - 1 ≡ i = omega arith in
    trim_end_more_suc xs i (omega arith) (sym (ap (λ k. is_separator Blank (get_or xs k 0)) e) ∙ h) ∙ ap (λ k. trim_end (take k xs)) (sym e)

pub trim_end_stop : (xs : List ℕ) (n : ℕ) → 0 < n → n ≤ length xs → is_separator Blank (get_or xs (n - 1) 0) ≡ false → trim_end (take n xs) ≡ take n xs
trim_end_stop xs zero low high h = absurd (omega arith)
trim_end_stop xs (suc i) low high h =
    let e : suc i - 1 ≡ i = omega arith in
    trim_end_stop_suc xs i (omega arith) (sym (ap (λ k. is_separator Blank (get_or xs k 0)) e) ∙ h)
