-- What the tokens after the first word of a line say. The number of tokens and the fixed words are judged first, and then each number
-- from the left.
use Rattle.std.specs.Prelude.{ℕ, Bool, true, false, ◌==◌, ◌&&◌, List, [], ◌∷◌, Option, Some, None, Result, Ok, Err, length, codes, if◌then◌else◌}
use Rattle.std.specs.Str.{bytes_eq}
use Rattle.std.specs.List.{list_any}
use Rattle.isa_model.specs.Limits.{max_fuel, max_output_words, max_data_words, max_quantum}
use Rattle.bundle_text.specs.Numbers.{number_in, word_of}
use Rattle.bundle_text.specs.declared.bundle.BundleKind.{BundleKind}
use Rattle.bundle_text.specs.declared.bundle.BundleKind.TheVariants.{Operands}
use Rattle.bundle_text.specs.declared.bundle.PlanText.{PlanText}
use Rattle.core_model.specs.declared.world.World.{World}

-- what follows from a success; a refusal stays
infixl 10 ◌>>=◌
abbrev pub ◌>>=◌ : {A B E : Type 0} → Result A E → (A → Result B E) → Result B E
(Ok x) >>= f = f x
(Err e) >>= f = Err e

-- what each token says, from the left
abbrev pub each : {A : Type 0} → (List ℕ → Result A BundleKind) → List (List ℕ) → Result (List A) BundleKind
each says [] = Ok []
each says (t ∷ ts) = do
  x ← says t
  xs ← each says ts
  Ok (x ∷ xs)

-- nothing
abbrev pub no_operands : List (List ℕ) → Bool
no_operands [] = true
no_operands (t ∷ ts) = false

-- one number in a range
abbrev pub one_number : ℕ → ℕ → List (List ℕ) → Result ℕ BundleKind
one_number low high [] = Err Operands
one_number low high (t ∷ []) = number_in low high t
one_number low high (t ∷ u ∷ ts) = Err Operands

-- the words before the numbers of a task
abbrev pub are_limit_words : List ℕ → List ℕ → List ℕ → Bool
are_limit_words fuel_word out_word data_word =
    bytes_eq fuel_word (codes "fuel") && bytes_eq out_word (codes "out") && bytes_eq data_word (codes "data")

-- the token of the band: that after `band`, or `0` in a text without bands
abbrev pub band_token : Bool → List (List ℕ) → Option (List ℕ)
band_token has_bands [] = if has_bands then None else Some (codes "0")
band_token has_bands (word ∷ token ∷ []) = if has_bands && bytes_eq word (codes "band") then Some token else None
band_token has_bands ts = None

-- the fuel, the greatest output, the number of data words and the band that the tokens of these numbers say
abbrev pub limits_of : List ℕ → List ℕ → List ℕ → Option (List ℕ) → Result (ℕ × ℕ × ℕ × ℕ) BundleKind
limits_of fuel_token out_token data_token None = Err Operands
limits_of fuel_token out_token data_token (Some band_token) = do
  fuel ← number_in 1 max_fuel fuel_token
  out_max ← number_in 0 max_output_words out_token
  data_len ← number_in 0 max_data_words data_token
  band ← number_in 0 1 band_token
  Ok (fuel, out_max, data_len, band)

-- `fuel F out O data D`, and in a text with bands `band B` after it; without bands it is band 0
abbrev pub task_operands : Bool → List (List ℕ) → Result (ℕ × ℕ × ℕ × ℕ) BundleKind
task_operands has_bands (fuel_word ∷ fuel ∷ out_word ∷ out ∷ data_word ∷ data_len ∷ rest) =
    if are_limit_words fuel_word out_word data_word then limits_of fuel out data_len (band_token has_bands rest) else Err Operands
task_operands has_bands ts = Err Operands

-- the tokens of the quanta: none, or those after `quanta`
abbrev pub quanta_tokens : List (List ℕ) → Option (List (List ℕ))
quanta_tokens [] = Some []
quanta_tokens (word ∷ ts) = if bytes_eq word (codes "quanta") then Some ts else None

-- the plan that the tokens of its numbers say
abbrev pub plan_of : List ℕ → List ℕ → Option (List (List ℕ)) → Result PlanText BundleKind
plan_of hart_token tail_token None = Err Operands
plan_of hart_token tail_token (Some quanta_tokens) = do
  hart ← number_in 0 7 hart_token
  tail ← number_in 1 max_quantum tail_token
  quanta ← each (number_in 0 max_quantum) quanta_tokens
  Ok (record { hart = hart; plan = record { quanta = quanta; tail = tail } })

-- `H tail T`, and `quanta Q ..` or nothing
abbrev pub plan_operands : List (List ℕ) → Result PlanText BundleKind
plan_operands [] = Err Operands
plan_operands (hart ∷ []) = Err Operands
plan_operands (hart ∷ word ∷ []) = Err Operands
plan_operands (hart ∷ word ∷ tail ∷ ts) = if bytes_eq word (codes "tail") then plan_of hart tail (quanta_tokens ts) else Err Operands

-- the plans with one more, unless its hart has one
abbrev pub has_plan : ℕ → List PlanText → Bool
has_plan hart plans = list_any (λ p. p.hart == hart) plans

-- whether a world of so many words is as long as the worlds so far
abbrev pub is_as_long : List World → ℕ → Bool
is_as_long [] n = true
is_as_long (first ∷ others) n = length first.tape == n

-- `S W ..`, of as many words as the worlds so far have
abbrev pub world_operands : List World → List (List ℕ) → Result World BundleKind
world_operands worlds [] = Err Operands
world_operands worlds (secret_token ∷ ts) =
    if is_as_long worlds (length ts)
    then (number_in 0 0xffffffff secret_token >>= λ secret. each word_of ts >>= λ tape. Ok (record { secret = secret; tape = tape }))
    else Err Operands
