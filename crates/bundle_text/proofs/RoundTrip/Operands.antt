-- The written operands of each kind of line read as they are.
use Rattle.std.proofs.Common.{◌≡◌, ℕ, ◌≤◌, ◌==◌, Bool, true, false, not, List, [], ◌∷◌, length, map, codes, decimal, Some, Result, Ok, Err, refl, sym, ap, ◌∙◌, arith}
use Rattle.std.specs.List.{AllByRecursion}
use Rattle.std.proofs.lemmas.Bool.{cond-true, or_parts, not-false, eqb-true}
use Rattle.std.proofs.lemmas.List.{length-map}
use Rattle.core_model.specs.declared.event.EventRun.{EventRun}
use Rattle.core_model.specs.declared.event.OrderRun.{OrderRun}
use Rattle.bundle_text.specs.Numbers.{number_in, word_of}
use Rattle.bundle_text.specs.Operands.{◌>>=◌, each, limits_of, task_operands, quanta_tokens, plan_of, plan_operands, is_as_long, world_operands}
use Rattle.bundle_text.specs.Runs.{event_operand, order_operand}
use Rattle.bundle_text.specs.Range.{IsWord, IsQuantum, IsTaskInRange, IsPlanInRange, IsWorldInRange, IsEventRunInRange, IsOrderRunInRange}
use Rattle.bundle_text.specs.Text.{word_text, quanta_text, band_text, has_bands, event_run_text, order_run_text}
use Rattle.bundle_text.specs.declared.bundle.TaskText.{TaskText}
use Rattle.bundle_text.specs.declared.bundle.PlanText.{PlanText}
use Rattle.core_model.specs.declared.world.World.{World}
use Rattle.bundle_text.specs.declared.bundle.BundleKind.{BundleKind}
use Rattle.bundle_text.specs.declared.bundle.BundleKind.TheVariants.{Operands}
use Rattle.bundle_text.proofs.RoundTrip.Tokens.{IsPlain}
use Rattle.bundle_text.proofs.RoundTrip.Numbers.{plain_decimal, number_in-decimal, word_of-word, plain_word}
use Rattle.bundle_text.proofs.RoundTrip.Runs.{order_operand-text, plain_order_run, event_operand-text, plain_event_run}

-- ---- each of some operands

each-text : {A : Type 0} (says : List ℕ → Result A BundleKind) (text : A → List ℕ) (P : A → Type 0) → ((x : A) → P x → says (text x) ≡ Ok x)
    → (xs : List A) → AllByRecursion P xs → each says (map text xs) ≡ Ok xs
each-text says text P h [] all = refl
each-text says text P h (x ∷ xs) all =
    ap (λ r. r >>= λ y. each says (map text xs) >>= λ ys. Ok (y ∷ ys)) (h x all.0)
    ∙ ap (λ r. r >>= λ ys. Ok (x ∷ ys)) (each-text says text P h xs all.1)

each_plain : {A : Type 0} (text : A → List ℕ) (P : A → Type 0) → ((x : A) → P x → IsPlain (text x)) → (xs : List A) → AllByRecursion P xs
    → AllByRecursion IsPlain (map text xs)
each_plain text P h [] all = tt
each_plain text P h (x ∷ xs) all = (h x all.0, each_plain text P h xs all.1)

pub each-words : (words : List ℕ) → AllByRecursion IsWord words → each word_of (map word_text words) ≡ Ok words
each-words words all = each-text word_of word_text IsWord word_of-word words all

pub plain_words : (words : List ℕ) → AllByRecursion IsWord words → AllByRecursion IsPlain (map word_text words)
plain_words words all = each_plain word_text IsWord (λ w h. plain_word w) words all

pub each-events : (runs : List EventRun) → AllByRecursion IsEventRunInRange runs → each event_operand (map event_run_text runs) ≡ Ok runs
each-events runs all = each-text event_operand event_run_text IsEventRunInRange event_operand-text runs all

pub plain_events : (runs : List EventRun) → AllByRecursion IsEventRunInRange runs → AllByRecursion IsPlain (map event_run_text runs)
plain_events runs all = each_plain event_run_text IsEventRunInRange plain_event_run runs all

pub each-order : (runs : List OrderRun) → AllByRecursion IsOrderRunInRange runs → each order_operand (map order_run_text runs) ≡ Ok runs
each-order runs all = each-text order_operand order_run_text IsOrderRunInRange order_operand-text runs all

pub plain_order : (runs : List OrderRun) → AllByRecursion IsOrderRunInRange runs → AllByRecursion IsPlain (map order_run_text runs)
plain_order runs all = each_plain order_run_text IsOrderRunInRange plain_order_run runs all

-- ---- a task

abbrev pub task_tokens : Bool → TaskText → List (List ℕ)
task_tokens banded t =
    codes "fuel" ∷ decimal t.fuel ∷ codes "out" ∷ decimal t.out_max ∷ codes "data" ∷ decimal t.data_len ∷ band_text banded t.band

-- A text without bands tells those that are 0.
abbrev pub IsBandTold : Bool → TaskText → Type 0
IsBandTold true t = Unit {0}
IsBandTold false t = t.band ≡ 0

-- the text of a bundle tells the band of each of its tasks
all_bands : (tasks : List TaskText) → AllByRecursion (IsBandTold true) tasks
all_bands [] = tt
all_bands (t ∷ ts) = (tt, all_bands ts)

no_bands : (tasks : List TaskText) → has_bands tasks ≡ false → AllByRecursion (IsBandTold false) tasks
no_bands [] e = tt
no_bands (t ∷ ts) e =
    let none = or_parts (not (t.band == 0)) (has_bands ts) e in
    (eqb-true t.band 0 (not-false (t.band == 0) none.0), no_bands ts none.1)

pub bands-told : (tasks : List TaskText) → AllByRecursion (IsBandTold (has_bands tasks)) tasks
bands-told tasks = by_test (has_bands tasks) refl
  where
    by_test : (b : Bool) → has_bands tasks ≡ b → AllByRecursion (IsBandTold b) tasks
    by_test true e = all_bands tasks
    by_test false e = no_bands tasks e

limits_of-text : (t : TaskText) (band_token : List ℕ) → IsTaskInRange t → number_in 0 1 band_token ≡ Ok t.band
    → limits_of (decimal t.fuel) (decimal t.out_max) (decimal t.data_len) (Some band_token) ≡ Ok (t.fuel, t.out_max, t.data_len, t.band)
limits_of-text t band_token h is =
    let fuel_high = h.fuel_high in
    let out_high = h.out_max in
    let data_high = h.data_len in
    let rest : ℕ → Result (ℕ × ℕ × ℕ × ℕ) BundleKind =
    λ fuel. number_in 0 4096 (decimal t.out_max) >>= λ out. number_in 0 1024 (decimal t.data_len) >>= λ data_len. number_in 0 1 band_token >>= λ band.
    Ok (fuel, out, data_len, band) in
    ap (λ r. r >>= rest) (number_in-decimal 1 100000 t.fuel h.fuel_low h.fuel_high (omega arith))
    ∙ ap (λ r. r >>= λ out. number_in 0 1024 (decimal t.data_len) >>= λ data_len. number_in 0 1 band_token >>= λ band. Ok (t.fuel, out, data_len, band))
    (number_in-decimal 0 4096 t.out_max (omega arith) h.out_max (omega arith))
    ∙ ap (λ r. r >>= λ data_len. number_in 0 1 band_token >>= λ band. Ok (t.fuel, t.out_max, data_len, band))
    (number_in-decimal 0 1024 t.data_len (omega arith) h.data_len (omega arith))
    ∙ ap (λ r. r >>= λ band. Ok (t.fuel, t.out_max, t.data_len, band)) is

pub task_operands-text : (banded : Bool) (t : TaskText) → IsTaskInRange t → IsBandTold banded t
    → task_operands banded (task_tokens banded t) ≡ Ok (t.fuel, t.out_max, t.data_len, t.band)
task_operands-text false t h told =
    let first : number_in 0 1 (codes "0") ≡ Ok 0 = refl in limits_of-text t (codes "0") h (first ∙ ap (λ (n : ℕ). Ok n) (sym told))
task_operands-text true t h told =
    let band_high = h.band in limits_of-text t (decimal t.band) h (number_in-decimal 0 1 t.band (omega arith) h.band (omega arith))

plain_literal : IsPlain (codes "fuel") × IsPlain (codes "out") × IsPlain (codes "data") × IsPlain (codes "tail") × IsPlain (codes "quanta")
plain_literal = (
  record { some = refl; visible = refl },
  record { some = refl; visible = refl },
  record { some = refl; visible = refl },
  record { some = refl; visible = refl },
  record { some = refl; visible = refl },
)

plain_band : (banded : Bool) (band : ℕ) → band ≤ 1 → AllByRecursion IsPlain (band_text banded band)
plain_band false band high = tt
plain_band true band high = (record { some = refl; visible = refl }, (plain_decimal band (omega arith), tt))

pub plain_task : (banded : Bool) (t : TaskText) → IsTaskInRange t → AllByRecursion IsPlain (task_tokens banded t)
plain_task banded t h =
    let fuel_high = h.fuel_high in
    let out_high = h.out_max in
    let data_high = h.data_len in (
      plain_literal.0,
      (
        plain_decimal t.fuel (omega arith),
        (
          plain_literal.1,
          (plain_decimal t.out_max (omega arith), (plain_literal.2, (plain_decimal t.data_len (omega arith), plain_band banded t.band h.band))),
        ),
      ),
    )

-- ---- a plan

quanta_tokens-text : (quanta : List ℕ) → quanta_tokens (quanta_text quanta) ≡ Some (map decimal quanta)
quanta_tokens-text [] = refl
quanta_tokens-text (q ∷ qs) = refl

read_quantum : (q : ℕ) → IsQuantum q → number_in 0 4096 (decimal q) ≡ Ok q
read_quantum q high = number_in-decimal 0 4096 q (omega arith) high (omega arith)

plain_quantum : (q : ℕ) → IsQuantum q → IsPlain (decimal q)
plain_quantum q high = plain_decimal q (omega arith)

abbrev pub plan_tokens : PlanText → List (List ℕ)
plan_tokens p = decimal p.hart ∷ codes "tail" ∷ decimal p.plan.tail ∷ quanta_text p.plan.quanta

pub plan_operands-text : (p : PlanText) → IsPlanInRange p → plan_operands (plan_tokens p) ≡ Ok p
plan_operands-text p h =
    let hart_high = h.hart in
    let tail_high = h.tail_high in
    let quanta = map decimal p.plan.quanta in
    let plan_with : ℕ → ℕ → List ℕ → PlanText = λ hart tail qs. record { hart = hart; plan = record { quanta = qs; tail = tail } } in
    ap (λ o. plan_of (decimal p.hart) (decimal p.plan.tail) o) (quanta_tokens-text p.plan.quanta)
    ∙ ap (λ r. r >>= λ hart. number_in 1 4096 (decimal p.plan.tail) >>= λ tail. each (number_in 0 4096) quanta >>= λ qs. Ok (plan_with hart tail qs))
    (number_in-decimal 0 7 p.hart (omega arith) h.hart (omega arith))
    ∙ ap (λ r. r >>= λ tail. each (number_in 0 4096) quanta >>= λ qs. Ok (plan_with p.hart tail qs))
    (number_in-decimal 1 4096 p.plan.tail h.tail_low h.tail_high (omega arith))
    ∙ ap (λ r. r >>= λ qs. Ok (plan_with p.hart p.plan.tail qs))
    (each-text (number_in 0 4096) decimal IsQuantum read_quantum p.plan.quanta h.quanta)

plain_quanta : (quanta : List ℕ) → AllByRecursion IsQuantum quanta → AllByRecursion IsPlain (quanta_text quanta)
plain_quanta [] all = tt
plain_quanta (q ∷ qs) all = (plain_literal.4, each_plain decimal IsQuantum plain_quantum (q ∷ qs) all)

pub plain_plan : (p : PlanText) → IsPlanInRange p → AllByRecursion IsPlain (plan_tokens p)
plain_plan p h =
    let hart_high = h.hart in
    let tail_high = h.tail_high in (
      plain_decimal p.hart (omega arith),
      (plain_literal.3, (plain_decimal p.plan.tail (omega arith), plain_quanta p.plan.quanta h.quanta)),
    )

-- ---- a world

abbrev pub world_tokens : World → List (List ℕ)
world_tokens w = decimal w.secret ∷ map word_text w.tape

pub world_operands-text : (worlds : List World) (w : World) → IsWorldInRange w → is_as_long worlds (length w.tape) ≡ true
    → world_operands worlds (world_tokens w) ≡ Ok w
world_operands-text worlds w h e =
    let secret_small = h.secret in
    let words = map word_text w.tape in
    let read : Result World BundleKind =
    number_in 0 0xffffffff (decimal w.secret) >>= λ secret. each word_of words >>= λ tape. Ok (record { secret = secret; tape = tape }) in
    cond-true (is_as_long worlds (length words)) read (Err Operands) (ap (λ n. is_as_long worlds n) (length-map w.tape word_text) ∙ e)
    ∙ ap (λ r. r >>= λ secret. each word_of words >>= λ tape. Ok (record { secret = secret; tape = tape }))
    (number_in-decimal 0 0xffffffff w.secret (omega arith) (omega arith) (omega arith))
    ∙ ap (λ r. r >>= λ tape. Ok (record { secret = w.secret; tape = tape })) (each-words w.tape h.tape)

pub plain_world : (w : World) → IsWorldInRange w → AllByRecursion IsPlain (world_tokens w)
plain_world w h = let secret_small = h.secret in (plain_decimal w.secret (omega arith), plain_words w.tape h.tape)
