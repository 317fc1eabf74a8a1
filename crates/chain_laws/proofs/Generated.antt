-- Generated bundles: they load, and each of their tasks puts out its chain.
use Rattle.std.proofs.Common.{◌≡◌, ℕ, ◌+◌, ◌*◌, ◌^◌, ◌<◌, ◌≤◌, List, [], ◌∷◌, map, length, count_by, Ok, refl, sym, ap, subst, ◌∙◌, arith}
use Rattle.std.specs.List.{AllByRecursion, All, sum_by, enumerate_from}
use Rattle.std.proofs.lemmas.List.{length-map}
use Rattle.std.proofs.lemmas.List.Elements.{All-from_recursion}
use Rattle.std.proofs.lemmas.List.Sums.{sum_by-cons, count_by-le-length}
use Rattle.core_model.specs.declared.loaded.Loaded.{Loaded}
use Rattle.core_model.specs.declared.world.World.{World}
use Rattle.isa_model.specs.Limits.{max_quanta, max_tape_words}
use Rattle.rand_pcg.specs.Lcg.{Lcg}
use Rattle.bundle_text.specs.declared.bundle.TaskText.{TaskText}
use Rattle.bundle_text.specs.declared.bundle.PlanText.{PlanText}
use Rattle.bundle_text.specs.declared.bundle.Code.TheVariants.{Text}
use Rattle.rv_loader.specs.Coding.{◌>>=◌, words_of, coded_task, coded_tasks}
use Rattle.rv_loader.specs.Loading.{task_at}
use Rattle.rv_loader.specs.Valid.{IsTaskWithinLimits}
use Rattle.rv_loader.proofs.Outcomes.{loaded_from, loads, valid_of}
use Rattle.masked_gen.specs.Draws.{word_draw, draws}
use Rattle.masked_gen.specs.Code.{code_lines}
use Rattle.masked_gen.specs.Generator.{is_and, gates_draw, masks_draw, task_of, task_draw, generator_of, generated}
use Rattle.masked_gen.specs.declared.gate.Gate.{Gate}
use Rattle.masked_gen.proofs.Writable.{drawn_word, all_drawn, drawn_count, few_gates}
use Rattle.chain_laws.specs.Laws.{GeneratedBundlesLoad, PutsOutChain, ChainsArePutOut}
use Rattle.chain_laws.proofs.Words.{code_words, word_count, code_assembles}
use Rattle.chain_laws.proofs.Steps.{HasRoom}
use Rattle.chain_laws.proofs.Whole.{chain_run}

-- what was drawn for a task
record Masked : Type 0 where
  gates : List Gate
  s : ℕ
  t : ℕ
  b : ℕ
  c : ℕ
  masks : List ℕ
  few : length gates ≤ 8
  s_low : s < 2 ^ 32
  t_low : t < 2 ^ 32
  b_low : b < 2 ^ 32
  c_low : c < 2 ^ 32
  masks_low : AllByRecursion (λ mask. mask < 2 ^ 32) masks
  count : length masks ≡ count_by is_and gates

abbrev text_of : Masked → TaskText
text_of m = task_of m.gates (m.s ∷ m.t ∷ m.b ∷ m.c ∷ m.masks)

record IsMasked (text : TaskText) : Type 0 where
  masked : Masked
  is : text ≡ text_of masked

drawn_masked : (g : Lcg) → IsMasked (task_draw g).value
unfolding draws
drawn_masked g =
    let gates = gates_draw g in
    let one = word_draw gates.rest in
    let two = word_draw one.rest in
    let three = word_draw two.rest in
    let four = word_draw three.rest in
    let ands = count_by is_and gates.value in
    record {
      masked = record {
        gates = gates.value;
        s = one.value;
        t = two.value;
        b = three.value;
        c = four.value;
        masks = (masks_draw gates.value four.rest).value;
        few = few_gates g;
        s_low = drawn_word gates.rest;
        t_low = drawn_word one.rest;
        b_low = drawn_word two.rest;
        c_low = drawn_word three.rest;
        masks_low = all_drawn (λ mask. mask < 2 ^ 32) word_draw drawn_word ands four.rest;
        count = drawn_count word_draw ands four.rest;
      };
      is = refl;
    }

record AreMasked (texts : List TaskText) : Type 0 where
  all : List Masked
  are : texts ≡ map text_of all

gathered : (texts : List TaskText) → AllByRecursion IsMasked texts → AreMasked texts
gathered [] h = record { all = []; are = refl }
gathered (text ∷ texts) h =
    let rest = gathered texts h.1 in
    record { all = h.0.masked ∷ rest.all; are = λ i. h.0.is i ∷ rest.are i }

drawn_texts : (seed tasks : ℕ) → AreMasked (draws tasks task_draw (generator_of seed)).value
drawn_texts seed tasks = gathered (draws tasks task_draw (generator_of seed)).value (all_drawn IsMasked task_draw drawn_masked tasks (generator_of seed))

-- ---- they load

words_are : (gates : List Gate) → length gates ≤ 8 → words_of (Text 0 (code_lines gates)) ≡ Ok (code_words gates)
words_are gates few = ap (λ r. r >>= λ assembled. Ok assembled.words) (code_assembles gates few 0)

within_limits : (text : TaskText) → IsMasked text → IsTaskWithinLimits text
within_limits text masked =
    let m = masked.masked in
    let count = word_count m.gates in
    let few = m.few in
    let ands = count_by-le-length is_and m.gates in
    let masks = m.count in
    subst IsTaskWithinLimits (sym masked.is) (record { words = code_words m.gates; assembled = words_are m.gates m.few; code_high = omega arith; tape_high = omega arith })

fuels : (texts : List TaskText) → AllByRecursion IsMasked texts → sum_by (λ (text : TaskText). text.fuel) texts ≡ 1000 * length texts
fuels [] h = refl
fuels (text ∷ texts) h =
    let fuel = ap (λ (t : TaskText). t.fuel) h.0.is in
    let rest = fuels texts h.1 in
    omega (arith, sum_by-cons (λ (t : TaskText). t.fuel) text texts)

abbrev its_plans : List PlanText
its_plans = record { hart = 0; plan = record { quanta = []; tail = 5 } } ∷ []

pub generated_loads : GeneratedBundlesLoad
unfolding generated
generated_loads seed tasks harts some few one eight =
    let texts = (draws tasks task_draw (generator_of seed)).value in
    let count = drawn_count task_draw tasks (generator_of seed) in
    let masked = all_drawn IsMasked task_draw drawn_masked tasks (generator_of seed) in
    let fuel = fuels texts masked in
    loads (generated seed tasks) harts (record {
      tasks_low = omega arith;
      tasks_high = omega arith;
      tasks = All-from_recursion IsTaskWithinLimits texts (all_drawn IsTaskWithinLimits task_draw (λ g. within_limits (task_draw g).value (drawn_masked g)) tasks (generator_of seed));
      quanta_high = All-from_recursion (λ line. length line.plan.quanta ≤ max_quanta) its_plans (omega arith, tt);
      worlds_high = omega arith;
      tapes_high = All-from_recursion (λ (world : World). length world.tape ≤ max_tape_words) [] tt;
      events_high = omega arith;
      order_high = omega arith;
      harts_there = All-from_recursion (λ line. line.hart < harts) its_plans (omega arith, tt);
      bound_high = omega arith;
    })

-- ---- each task puts out its chain

coded_are : (all : List Masked) → coded_tasks (map text_of all) ≡ Ok (map (λ m. coded_task (text_of m) (code_words m.gates)) all)
coded_are [] = refl
coded_are (m ∷ all) =
    ap (λ r. r >>= λ words. coded_tasks (map text_of all) >>= λ tasks. Ok (coded_task (text_of m) words ∷ tasks)) (words_are m.gates m.few)
    ∙ ap (λ r. r >>= λ tasks. Ok (coded_task (text_of m) (code_words m.gates) ∷ tasks)) (coded_are all)

puts_out : (n : ℕ) (m : Masked) → n < 32 → PutsOutChain (task_at (n, coded_task (text_of m) (code_words m.gates)))
puts_out n m low =
    let T = task_at (n, coded_task (text_of m) (code_words m.gates)) in
    let count = word_count m.gates in
    let few = m.few in
    let room : HasRoom T = record { places = omega arith; fuel = omega arith } in
    let out = chain_run T m.gates m.s m.t m.b m.c m.masks room (omega arith) refl refl m.s_low m.t_low m.b_low m.c_low m.masks_low m.count in
    record {
      gates = m.gates;
      a0 = m.s;
      a1 = m.t;
      b0 = m.b;
      b1 = m.c;
      masks = m.masks;
      code = words_are m.gates m.few;
      tape = refl;
      first = out.s;
      second = out.t;
      ends = out.out.ends;
      output = out.out.output;
      chain = out.shared;
    }

all_put_out : (all : List Masked) (n : ℕ) → n + length all ≤ 32
    → AllByRecursion PutsOutChain (map task_at (enumerate_from n (map (λ m. coded_task (text_of m) (code_words m.gates)) all)))
all_put_out [] n few = tt
all_put_out (m ∷ all) n few = (puts_out n m (omega arith), all_put_out all (n + 1) (omega arith))

pub chains_put_out : ChainsArePutOut
unfolding generated
chains_put_out seed tasks harts loaded h =
    let bundle = generated seed tasks in
    let drawn = drawn_texts seed tasks in
    let from = loaded_from bundle harts (coded_tasks bundle.tasks) loaded h in
    let few = (valid_of bundle harts loaded h).tasks_high in
    let count = ap length drawn.are in
    let coded = sym (coded_are drawn.all) ∙ ap coded_tasks (sym drawn.are) ∙ from.coded_is in
    let same : map (λ m. coded_task (text_of m) (code_words m.gates)) drawn.all ≡ from.tasks = cc in
    subst (λ (l : Loaded). All PutsOutChain l.tasks) (sym from.loaded_is)
    (subst (λ ts. All PutsOutChain (map task_at (enumerate_from 0 ts))) same
    (All-from_recursion PutsOutChain (map task_at (enumerate_from 0 (map (λ m. coded_task (text_of m) (code_words m.gates)) drawn.all)))
    (all_put_out drawn.all 0 (omega (arith, length-map drawn.all text_of)))))
