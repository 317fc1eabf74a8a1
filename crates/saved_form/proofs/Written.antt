-- One item more is written.
use Rattle.std.proofs.Common.{◌≡◌, ℕ, ◌+◌, ◌<◌, List, ◌++◌, length, get_or, drop, sym, ap, ◌∙◌, append_assoc}
use Rattle.std.specs.List.{flat_map}
use Rattle.std.proofs.lemmas.Grind.{flat_map-append}
use Rattle.std.proofs.lemmas.List.{drop_more}
use Rattle.byteorder.specs.Endian.{little_bytes}
use Rattle.saved_form.specs.Spelling.{bytes_of}

module _ {A : Type 0} (numbers : A → List ℕ) (xs : List A) (i : ℕ) (x : A) (out more whole : List ℕ) where
  abbrev left : List A
  left = drop (i + 1) xs

  -- the bytes of what is left are those of the next and of what is left after it
  next-bytes : i < length xs → x ≡ get_or xs i x
      → bytes_of (flat_map numbers (drop i xs)) ≡ bytes_of (numbers x) ++ bytes_of (flat_map numbers left)
  next-bytes low is =
      ap (λ ys. bytes_of (flat_map numbers ys)) (drop_more xs i x low)
      ∙ ap (λ (y : A). bytes_of (numbers y ++ flat_map numbers left)) (sym is)
      ∙ flat_map-append (little_bytes 4) (numbers x) (flat_map numbers left)

  pub more-written : i < length xs → x ≡ get_or xs i x → out ++ bytes_of (flat_map numbers (drop i xs)) ≡ whole
      → more ≡ out ++ bytes_of (numbers x) → more ++ bytes_of (flat_map numbers left) ≡ whole
  more-written low is so_far one =
      ap (λ ys. ys ++ bytes_of (flat_map numbers left)) one
      ∙ append_assoc out (bytes_of (numbers x)) (bytes_of (flat_map numbers left))
      ∙ ap (λ ys. out ++ ys) (sym (next-bytes low is))
      ∙ so_far

-- Numbers are written after others.
pub and-then : (out more ns ms : List ℕ) → more ≡ out ++ bytes_of ns → more ++ bytes_of ms ≡ out ++ bytes_of (ns ++ ms)
and-then out more ns ms e =
    ap (λ ys. ys ++ bytes_of ms) e
    ∙ append_assoc out (bytes_of ns) (bytes_of ms)
    ∙ ap (λ ys. out ++ ys) (sym (flat_map-append (little_bytes 4) ns ms))
