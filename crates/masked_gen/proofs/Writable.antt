-- A generated bundle may be written.
use Rattle.std.proofs.Common.{◌≡◌, ℕ, zero, suc, ◌+◌, ◌-◌, ◌*◌, ◌/◌, ◌%◌, ◌^◌, ◌<◌, ◌≤◌, List, [], ◌∷◌, ◌++◌, length, count_by, refl, arith, bit_xor, length-append}
use Rattle.std.specs.List.{AllByRecursion}
use Rattle.std.specs.Int.{w32, rotate_right}
use Rattle.std.proofs.lemmas.Nat.{or_lt}
use Rattle.std.proofs.lemmas.List.Sums.{count_by-le-length}
use Rattle.std.proofs.Math.Nat.{div-le_self}
use Rattle.rand_pcg.specs.Lcg.{Lcg}
use Rattle.bundle_text.specs.Range.{IsWord, IsTaskInRange, AreCodeLines, IsWritable}
use Rattle.bundle_text.proofs.Steps.{all_append}
use Rattle.masked_gen.specs.Draws.{Drawn, word_draw, draws}
use Rattle.masked_gen.specs.Generator.{is_and, gate_draw, gates_draw, shares_draw, masks_draw, task_of, task_draw, generator_of, generated}
use Rattle.masked_gen.specs.declared.gate.Gate.{Gate}
use Rattle.masked_gen.proofs.Lines.{code_lines_are_code, code_lines_in_range, code_count}

-- ---- draws

rotated_word : (n by : ℕ) → n < 2 ^ 32 → rotate_right w32 n by < 2 ^ 32
rotated_word n by low =
    let high = div-le_self n (2 ^ (by % 32)) in
    or_lt 32 (n / 2 ^ (by % 32)) ((n * 2 ^ ((32 - by % 32) % 32)) % 2 ^ 32) (omega arith) (omega arith)

pub drawn_word : (g : Lcg) → IsWord (word_draw g).value
unfolding word_draw
drawn_word g = rotated_word (bit_xor (g.state / 2 ^ 18) g.state / 2 ^ 27 % 2 ^ 32) (g.state / 2 ^ 59) (omega arith)

pub all_drawn : {A : Type 0} (P : A → Type 0) (draw : Lcg → Drawn A) → ((g : Lcg) → P (draw g).value) → (n : ℕ) (g : Lcg) → AllByRecursion P (draws n draw g).value
unfolding draws
all_drawn P draw each zero g = tt
all_drawn P draw each (suc n) g =
    let front = draws n draw g in
    let last = draw front.rest in
    all_append P front.value (last.value ∷ []) (all_drawn P draw each n g) (each front.rest, tt)

pub drawn_count : {A : Type 0} (draw : Lcg → Drawn A) (n : ℕ) (g : Lcg) → length (draws n draw g).value ≡ n
unfolding draws
drawn_count draw zero g = refl
drawn_count draw (suc n) g =
    let front = draws n draw g in
    let last = draw front.rest in
    let count = drawn_count draw n g in
    omega (arith, length-append front.value (last.value ∷ []))

-- ---- tasks

pub few_gates : (g : Lcg) → length (gates_draw g).value ≤ 8
few_gates g =
    let number = word_draw g in
    let count = drawn_count gate_draw (1 + number.value % 8) number.rest in omega arith

-- the tape of a task
abbrev tape_of : List Gate → Lcg → List ℕ
tape_of gates g = (shares_draw g).value ++ (masks_draw gates (shares_draw g).rest).value

tape_words : (gates : List Gate) (g : Lcg) → AllByRecursion IsWord (tape_of gates g)
tape_words gates g =
    let shares = shares_draw g in
    all_append IsWord shares.value (masks_draw gates shares.rest).value (all_drawn IsWord word_draw drawn_word 4 g)
    (all_drawn IsWord word_draw drawn_word (count_by is_and gates) shares.rest)

tape_count : (gates : List Gate) (g : Lcg) → length (tape_of gates g) ≡ 4 + count_by is_and gates
tape_count gates g =
    let shares = shares_draw g in
    let four = drawn_count word_draw 4 g in
    let each = drawn_count word_draw (count_by is_and gates) shares.rest in
    omega (arith, length-append shares.value (masks_draw gates shares.rest).value)

task_in_range : (gates : List Gate) (tape : List ℕ) → length gates ≤ 8 → AllByRecursion IsWord tape → length tape ≤ 12 → IsTaskInRange (task_of gates tape)
task_in_range gates tape few words short =
    let lines = code_count gates in
    record {
      fuel_low = omega arith;
      fuel_high = omega arith;
      out_max = omega arith;
      data_len = omega arith;
      band = omega arith;
      tape = words;
      tape_short = omega arith;
      code = (omega arith, code_lines_in_range gates);
    }

drawn_task : (g : Lcg) → IsTaskInRange (task_draw g).value
drawn_task g =
    let gates = gates_draw g in
    let few = few_gates g in
    let ands = count_by-le-length is_and gates.value in
    let count = tape_count gates.value gates.rest in
    task_in_range gates.value (tape_of gates.value gates.rest) few (tape_words gates.value gates.rest) (omega arith)

-- ---- bundles

pub generated_writable : (seed tasks : ℕ) → tasks < 2 ^ 32 → IsWritable (generated seed tasks)
unfolding generated
generated_writable seed tasks short =
    let count = drawn_count task_draw tasks (generator_of seed) in
    record {
      range = record {
        slots_low = omega arith;
        slots_high = omega arith;
        plans = (record { hart = omega arith; tail_low = omega arith; tail_high = omega arith; quanta = tt; quanta_short = omega arith }, tt);
        plans_short = omega arith;
        plans_apart = (refl, tt);
        tasks = all_drawn IsTaskInRange task_draw drawn_task tasks (generator_of seed);
        tasks_short = omega arith;
        worlds = tt;
        worlds_short = omega arith;
        worlds_as_long = tt;
        events = tt;
        events_short = omega arith;
        order = tt;
        order_short = omega arith;
      };
      code = all_drawn (λ task. AreCodeLines task.code) task_draw (λ g. code_lines_are_code (gates_draw g).value) tasks (generator_of seed);
    }
