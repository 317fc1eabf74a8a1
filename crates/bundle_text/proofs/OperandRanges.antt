-- What the operands of a line say is in range.
use Rattle.std.proofs.Common.{◌≡◌, ℕ, ◌≤◌, Bool, true, false, cond, List, [], ◌∷◌, length, codes, Option, Some, None, Result, Ok, Err, refl, arith}
use Rattle.std.specs.Str.{bytes_eq}
use Rattle.bundle_text.specs.Numbers.{number_in, word_of}
use Rattle.bundle_text.specs.Operands.{◌>>=◌, each, one_number, are_limit_words, band_token, limits_of, task_operands, quanta_tokens, plan_of, plan_operands, is_as_long, world_operands}
use Rattle.bundle_text.specs.Range.{IsWord, IsShort, IsQuantum, IsPlanInRange, IsWorldInRange}
use Rattle.bundle_text.specs.declared.bundle.BundleKind.{BundleKind}
use Rattle.bundle_text.specs.declared.bundle.BundleKind.TheVariants as kind
use Rattle.bundle_text.specs.declared.bundle.PlanText.{PlanText}
use Rattle.core_model.specs.declared.world.World.{World}
use Rattle.bundle_text.proofs.Steps.{same_ok, err_ok, then_ok, if_ok, each_all}
use Rattle.bundle_text.proofs.NumberRanges.{number_range, word_range}

-- ---- operands

pub one_range : (low high : ℕ) (ts : List (List ℕ)) (n : ℕ) → one_number low high ts ≡ Ok n → (low ≤ n) × (n ≤ high)
one_range low high [] n h = absurd (err_ok n kind.Operands h)
one_range low high (t ∷ []) n h = number_range low high t n h
one_range low high (t ∷ u ∷ ts) n h = absurd (err_ok n kind.Operands h)

pub record AreLimits (limits : ℕ × ℕ × ℕ × ℕ) : Type 0 where
  pub fuel_low : 1 ≤ limits.0
  pub fuel_high : limits.0 ≤ 100000
  pub out_max : limits.1 ≤ 4096
  pub data_len : limits.2 ≤ 1024
  pub band : limits.3 ≤ 1

no_limits : (limits : ℕ × ℕ × ℕ × ℕ) → ◌≡◌ {A = Result (ℕ × ℕ × ℕ × ℕ) BundleKind} (Err kind.Operands) (Ok limits) → AreLimits limits
no_limits limits h = absurd (err_ok limits kind.Operands h)

limits_range : (fuel out length_token : List ℕ) (o : Option (List ℕ)) (limits : ℕ × ℕ × ℕ × ℕ) → limits_of fuel out length_token o ≡ Ok limits → AreLimits limits
limits_range fuel out length_token None limits h = no_limits limits h
limits_range fuel out length_token (Some band) limits h =
    let f = then_ok (number_in 1 100000 fuel) (λ f. number_in 0 4096 out >>= λ o. number_in 0 1024 length_token >>= λ d. number_in 0 1 band >>= λ b. Ok (f, o, d, b)) limits h in
    let o = then_ok (number_in 0 4096 out) (λ o. number_in 0 1024 length_token >>= λ d. number_in 0 1 band >>= λ b. Ok (f.0, o, d, b)) limits f.2 in
    let d = then_ok (number_in 0 1024 length_token) (λ d. number_in 0 1 band >>= λ b. Ok (f.0, o.0, d, b)) limits o.2 in
    let b = then_ok (number_in 0 1 band) (λ b. Ok (f.0, o.0, d.0, b)) limits d.2 in
    let fits_fuel = number_range 1 100000 fuel f.0 f.1 in
    let fits_out = number_range 0 4096 out o.0 o.1 in
    let fits_data = number_range 0 1024 length_token d.0 d.1 in
    let fits_band = number_range 0 1 band b.0 b.1 in
    let same : (f.0, o.0, d.0, b.0) ≡ limits = same_ok (f.0, o.0, d.0, b.0) limits b.2 in
    rw (← same) (record { fuel_low = fits_fuel.0; fuel_high = fits_fuel.1; out_max = fits_out.1; data_len = fits_data.1; band = fits_band.1 })

pub task_range : (has_bands : Bool) (ts : List (List ℕ)) (limits : ℕ × ℕ × ℕ × ℕ) → task_operands has_bands ts ≡ Ok limits → AreLimits limits
task_range has_bands (fuel_word ∷ fuel ∷ out_word ∷ out ∷ data_word ∷ data_len ∷ rest) limits h =
    limits_range fuel out data_len (band_token has_bands rest) limits
    (if_ok (are_limit_words fuel_word out_word data_word) (limits_of fuel out data_len (band_token has_bands rest)) kind.Operands limits h).1
task_range has_bands _ limits h = no_limits limits h

quantum_range : (t : List ℕ) (n : ℕ) → number_in 0 4096 t ≡ Ok n → IsQuantum n
quantum_range t n h = (number_range 0 4096 t n h).1

plan_numbers : (hart_token tail_token : List ℕ) (o : Option (List (List ℕ))) (plan : PlanText) → ((ts : List (List ℕ)) → o ≡ Some ts → IsShort ts)
    → plan_of hart_token tail_token o ≡ Ok plan → IsPlanInRange plan
plan_numbers hart_token tail_token None plan short h = absurd (err_ok plan kind.Operands h)
plan_numbers hart_token tail_token (Some ts) plan short h =
    let a = then_ok (number_in 0 7 hart_token) (λ hart. number_in 1 4096 tail_token >>= λ tail. each (number_in 0 4096) ts >>= λ quanta.
    Ok (record { hart = hart; plan = record { quanta = quanta; tail = tail } })) plan h in
    let b = then_ok (number_in 1 4096 tail_token) (λ tail. each (number_in 0 4096) ts >>= λ quanta.
    Ok (record { hart = a.0; plan = record { quanta = quanta; tail = tail } })) plan a.2 in
    let c = then_ok (each (number_in 0 4096) ts) (λ quanta. Ok (record { hart = a.0; plan = record { quanta = quanta; tail = b.0 } })) plan b.2 in
    let found : PlanText = record { hart = a.0; plan = record { quanta = c.0; tail = b.0 } } in
    let same : found ≡ plan = same_ok found plan c.2 in
    let fits_hart = number_range 0 7 hart_token a.0 a.1 in
    let fits_tail = number_range 1 4096 tail_token b.0 b.1 in
    let fits_quanta = each_all IsQuantum (number_in 0 4096) quantum_range ts c.0 c.1 in
    let few = short ts refl in
    let count = fits_quanta.1 in
    rw (← same) (record { hart = fits_hart.1; tail_low = fits_tail.0; tail_high = fits_tail.1; quanta = fits_quanta.0; quanta_short = omega arith })

quanta_count : (t : Bool) (ts found : List (List ℕ)) → cond t (Some ts) None ≡ Some found → ts ≡ found
quanta_count true ts found h = cc
quanta_count false ts found h = cc

quanta_short : (ts found : List (List ℕ)) → IsShort ts → quanta_tokens ts ≡ Some found → IsShort found
quanta_short [] found short h = let same : [] ≡ found = cc in rw (← same) short
quanta_short (word ∷ ts) found short h =
    let same = quanta_count (bytes_eq word (codes "quanta")) ts found h in rw (← same) (omega arith)

pub plan_range : (ts : List (List ℕ)) (plan : PlanText) → IsShort ts → plan_operands ts ≡ Ok plan → IsPlanInRange plan
plan_range [] plan short h = absurd (err_ok plan kind.Operands h)
plan_range (hart ∷ []) plan short h = absurd (err_ok plan kind.Operands h)
plan_range (hart ∷ word ∷ []) plan short h = absurd (err_ok plan kind.Operands h)
plan_range (hart ∷ word ∷ tail ∷ ts) plan short h =
    let p = if_ok (bytes_eq word (codes "tail")) (plan_of hart tail (quanta_tokens ts)) kind.Operands plan h in
    plan_numbers hart tail (quanta_tokens ts) plan (λ found e. quanta_short ts found (omega arith) e) p.1

-- a world and its length
pub record IsWorldFound (worlds : List World) (ts : List (List ℕ)) (world : World) : Type 0 where
  pub range : IsWorldInRange world
  pub as_long : is_as_long worlds (length world.tape) ≡ true

pub world_range : (worlds : List World) (ts : List (List ℕ)) (world : World) → IsShort ts → world_operands worlds ts ≡ Ok world → IsWorldFound worlds ts world
world_range worlds [] world short h = absurd (err_ok world kind.Operands h)
world_range worlds (secret_token ∷ ts) world short h =
    let p = if_ok (is_as_long worlds (length ts)) (number_in 0 0xffffffff secret_token >>= λ secret. each word_of ts >>= λ tape.
    Ok (record { secret = secret; tape = tape })) kind.Operands world h in
    let a = then_ok (number_in 0 0xffffffff secret_token) (λ secret. each word_of ts >>= λ tape. Ok (record { secret = secret; tape = tape })) world p.1 in
    let b = then_ok (each word_of ts) (λ tape. Ok (record { secret = a.0; tape = tape })) world a.2 in
    let found : World = record { secret = a.0; tape = b.0 } in
    let same : found ≡ world = same_ok found world b.2 in
    let fits_secret = number_range 0 0xffffffff secret_token a.0 a.1 in
    let fits_tape = each_all IsWord word_of word_range ts b.0 b.1 in
    let count = fits_tape.1 in
    rw (← same) (record {
      range = record { secret = omega (arith, fits_secret.1); tape = fits_tape.0; tape_short = omega arith };
      as_long = rw fits_tape.1 p.0;
    })
