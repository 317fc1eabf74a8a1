-- The last digit is the remainder.
use Rattle.std.proofs.Common.{◌≡◌, ℕ, zero, suc, ◌-◌, ◌/◌, ◌%◌, ◌<◌, false, [], ◌∷◌, ◌++◌, ap, sym, arith}
use Rattle.std.specs.Fmt.{digit_glyph}
use Rattle.rv_decode.specs.Text.{hex_digits}

pub hex_digits_step : (count number : ℕ) → 0 < count → hex_digits count number ≡ hex_digits (count - 1) (number / 16) ++ digit_glyph false (number % 16) ∷ []
hex_digits_step zero number some = absurd (omega arith)
hex_digits_step (suc count) number some =
    let e : suc count - 1 ≡ count = omega arith in ap (λ k. hex_digits k (number / 16) ++ digit_glyph false (number % 16) ∷ []) (sym e)
