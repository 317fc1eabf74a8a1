-- The command of words is the one that they spell.
use Rattle.std.proofs.Common.{◌≡◌, ℕ, ◌+◌, ◌-◌, ◌<◌, ◌≤◌, List, [], ◌∷◌, length, map, Option, Some, None, Bool, true, false, ◌&&◌, nat_lt, nat_le, refl, sym, ap, ◌∙◌, subst, codes, decimal, cond, arith, ltb-true, lt-ltb}
use Rattle.std.proofs.lemmas.Bool.{ltb-false, leb-true, le-ltb, le-leb, and_parts}
use Rattle.std.proofs.lemmas.Fmt.{decimal_digit}
use Rattle.std.specs.Str.{bytes_eq}
use Rattle.std.proofs.lemmas.Slice.Eq.{bytes_eq-Decides}
use Rattle.kernel_cli.specs.declared.command.Command.{Command}
use Rattle.kernel_cli.specs.declared.command.Command.TheVariants.{Alone, Asm, Run, Script, Replay, Explain, Certify, CertifyTwo, Gen, Drill, Lint, LintDrill}
use Rattle.core_model.proofs.Lists.{some-is}
use Rattle.timer_plan.specs.Tokens.{IsDecimal}
use Rattle.bundle_text.specs.Numbers.{decimal_of}
use Rattle.bundle_text.proofs.RunTokens.{SpellsDecimal, decimal_spelled}
use Rattle.kernel_cli.specs.Commands.{IsHartCount, IsNumberIn, IsSeed, IsTaskCount, SpellsNumbers, SpellsCommand, hart_count, run_by, replay_by, within, number_in, numbered, numbered_by, command_with_numbers, command_of}
use Rattle.kernel_cli.specs.Works.{work_of, HasCounts}

-- a word that its test says is this one
is_this : (word this : List ℕ) → bytes_eq word this ≡ true → word ∷ [] ≡ this ∷ []
is_this word this is = ap (λ w. w ∷ []) ((bytes_eq-Decides word this).0 is)

-- one word, by the tests that decide it
one_word : (word : List ℕ) (command : Command) (alone asm script explain certify lint : Bool)
    → bytes_eq word (codes "alone") ≡ alone → bytes_eq word (codes "asm") ≡ asm
    → bytes_eq word (codes "script") ≡ script → bytes_eq word (codes "explain") ≡ explain → bytes_eq word (codes "certify") ≡ certify
    → bytes_eq word (codes "lint") ≡ lint
    → cond alone (Some Alone) (cond asm (Some Asm) (cond script (Some (Script false)) (cond explain (Some Explain) (cond certify (Some Certify)
    (cond lint (Some Lint) None))))) ≡ Some command
    → SpellsCommand (word ∷ []) command
one_word word command true asm script explain certify lint is_alone is_asm is_script is_explain is_certify is_lint h =
    subst (λ (c : Command). SpellsCommand (word ∷ []) c) (some-is h) (is_this word (codes "alone") is_alone)
one_word word command false true script explain certify lint is_alone is_asm is_script is_explain is_certify is_lint h =
    subst (λ (c : Command). SpellsCommand (word ∷ []) c) (some-is h) (is_this word (codes "asm") is_asm)
one_word word command false false true explain certify lint is_alone is_asm is_script is_explain is_certify is_lint h =
    subst (λ (c : Command). SpellsCommand (word ∷ []) c) (some-is h) (is_this word (codes "script") is_script)
one_word word command false false false true certify lint is_alone is_asm is_script is_explain is_certify is_lint h =
    subst (λ (c : Command). SpellsCommand (word ∷ []) c) (some-is h) (is_this word (codes "explain") is_explain)
one_word word command false false false false true lint is_alone is_asm is_script is_explain is_certify is_lint h =
    subst (λ (c : Command). SpellsCommand (word ∷ []) c) (some-is h) (is_this word (codes "certify") is_certify)
one_word word command false false false false false true is_alone is_asm is_script is_explain is_certify is_lint h =
    subst (λ (c : Command). SpellsCommand (word ∷ []) c) (some-is h) (is_this word (codes "lint") is_lint)
one_word word command false false false false false false is_alone is_asm is_script is_explain is_certify is_lint h = absurd (cc h)

-- the number of harts of a word is that of its digit
code_spelled : (code harts : ℕ) (above below : Bool) → nat_lt 48 code ≡ above → nat_lt code 57 ≡ below
    → cond (above && below) (Some (code - 48)) None ≡ Some harts → IsHartCount harts × (code ∷ [] ≡ decimal harts)
code_spelled code harts true true is_above is_below h =
    let same : code - 48 ≡ harts = some-is h in
    let low : 48 < code = ltb-true 48 code is_above in
    let high : code < 57 = ltb-true code 57 is_below in
    let is : code ≡ 48 + harts = omega (arith, same, low) in
    ((omega (arith, is, low), omega (arith, is, high)), ap (λ d. d ∷ []) is ∙ sym (decimal_digit harts (omega (arith, is, high))))
code_spelled code harts true false is_above is_below h = absurd (cc h)
code_spelled code harts false below is_above is_below h = absurd (cc h)

count_spelled : (word : List ℕ) (harts : ℕ) → hart_count word ≡ Some harts → IsHartCount harts × (word ≡ decimal harts)
count_spelled [] harts h = absurd (cc h)
count_spelled (code ∷ []) harts h = code_spelled code harts (nat_lt 48 code) (nat_lt code 57) refl refl h
count_spelled (code ∷ next ∷ others) harts h = absurd (cc h)

spelled_count : (harts : ℕ) → IsHartCount harts → hart_count (decimal harts) ≡ Some harts
spelled_count harts count =
    let low = count.0 in
    let high = count.1 in
    let above : nat_lt 48 (48 + harts) ≡ true = lt-ltb 48 (48 + harts) (omega (arith, low)) in
    let below : nat_lt (48 + harts) 57 ≡ true = lt-ltb (48 + harts) 57 (omega (arith, high)) in
    let same : 48 + harts - 48 ≡ harts = omega arith in
    ap hart_count (decimal_digit harts (omega (arith, high)))
    ∙ ap (λ (b : Bool). cond (b && nat_lt (48 + harts) 57) (Some (48 + harts - 48)) None) above
    ∙ ap (λ (b : Bool). cond b (Some (48 + harts - 48)) None) below ∙ ap Some same

-- the words of a run
run_spelled : (detail : List ℕ) (command : Command) (count : Option ℕ) → hart_count detail ≡ count → run_by count ≡ Some command
    → SpellsCommand (codes "run" ∷ detail ∷ []) command
run_spelled detail command None is h = absurd (cc h)
run_spelled detail command (Some harts) is h =
    let spelled = count_spelled detail harts is in
    subst (λ (c : Command). SpellsCommand (codes "run" ∷ detail ∷ []) c) (some-is h)
    (spelled.0, ap (λ d. codes "run" ∷ d ∷ []) spelled.1)

-- the words of a replay
replay_spelled : (detail : List ℕ) (command : Command) (count : Option ℕ) → hart_count detail ≡ count → replay_by count false ≡ Some command
    → SpellsCommand (codes "replay" ∷ detail ∷ []) command
replay_spelled detail command None is h = absurd (cc h)
replay_spelled detail command (Some harts) is h =
    let spelled = count_spelled detail harts is in
    subst (λ (c : Command). SpellsCommand (codes "replay" ∷ detail ∷ []) c) (some-is h)
    (spelled.0, ap (λ d. codes "replay" ∷ d ∷ []) spelled.1)

replay_probes_spelled : (detail : List ℕ) (command : Command) (count : Option ℕ) → hart_count detail ≡ count → replay_by count true ≡ Some command
    → SpellsCommand (codes "replay" ∷ detail ∷ codes "probes" ∷ []) command
replay_probes_spelled detail command None is h = absurd (cc h)
replay_probes_spelled detail command (Some harts) is h =
    let spelled = count_spelled detail harts is in
    subst (λ (c : Command). SpellsCommand (codes "replay" ∷ detail ∷ codes "probes" ∷ []) c) (some-is h)
    (spelled.0, ap (λ d. codes "replay" ∷ d ∷ codes "probes" ∷ []) spelled.1)

-- the number of a word in a range is the one that its digits spell
in_range : (most low high n m : ℕ) (word : List ℕ) (test : Bool) → IsDecimal word m → length word ≤ most → (nat_le low m && nat_le m high) ≡ test
    → cond test (Some m) None ≡ Some n → IsNumberIn most low high word n
in_range most low high n m word true d few is h =
    let parts = and_parts (nat_le low m) (nat_le m high) is in
    subst (λ (k : ℕ). IsNumberIn most low high word k) (some-is h)
    (record { decimal = d; few = few; least = leb-true low m parts.0; greatest = leb-true m high parts.1 })
in_range most low high n m word false d few is h = absurd (cc h)

of_decimal : (most low high n : ℕ) (word : List ℕ) (o : Option ℕ) → SpellsDecimal word o → length word ≤ most → within low high o ≡ Some n
    → IsNumberIn most low high word n
of_decimal most low high n word None none few h = absurd (cc h)
of_decimal most low high n word (Some m) d few h = in_range most low high n m word (nat_le low m && nat_le m high) d few refl h

of_short : (most low high n : ℕ) (word : List ℕ) (long : Bool) → nat_lt most (length word) ≡ long
    → cond long None (within low high (decimal_of word)) ≡ Some n → IsNumberIn most low high word n
of_short most low high n word true is h = absurd (cc h)
of_short most low high n word false is h =
    of_decimal most low high n word (decimal_of word) (decimal_spelled word) (ltb-false most (length word) is) h

number_spelled : (most low high n : ℕ) (word : List ℕ) → number_in most low high word ≡ Some n → IsNumberIn most low high word n
number_spelled most low high n word h = of_short most low high n word (nat_lt most (length word)) refl h

decimal_back : (n : ℕ) (word : List ℕ) (o : Option ℕ) → SpellsDecimal word o → IsDecimal word n → o ≡ Some n
decimal_back n word None none d = absurd (none n d)
decimal_back n word (Some m) has d = ap (λ (k : ℕ). Some k) (has.value ∙ sym d.value)

in_range_back : (low high n : ℕ) → low ≤ n → n ≤ high → within low high (Some n) ≡ Some n
in_range_back low high n least greatest =
    ap (λ (b : Bool). cond (b && nat_le n high) (Some n) None) (le-leb low n least) ∙ ap (λ (b : Bool). cond b (Some n) None) (le-leb n high greatest)

spelled_number : (most low high n : ℕ) (word : List ℕ) → IsNumberIn most low high word n → number_in most low high word ≡ Some n
spelled_number most low high n word is =
    let decimal : decimal_of word ≡ Some n = decimal_back n word (decimal_of word) (decimal_spelled word) is.decimal in
    ap (λ (b : Bool). cond b None (within low high (decimal_of word))) (le-ltb most (length word) is.few) ∙ ap (λ (o : Option ℕ). within low high o) decimal
    ∙ in_range_back low high n is.least is.greatest

-- a word that its test says is this one, a seed and a number of tasks
are_numbers : (name word detail more : List ℕ) (seed tasks : ℕ) → bytes_eq word name ≡ true → IsSeed detail seed → IsTaskCount more tasks
    → SpellsNumbers name (word ∷ detail ∷ more ∷ []) seed tasks
are_numbers name word detail more seed tasks is seed_is tasks_are = record {
  seed_word = detail;
  tasks_word = more;
  words_are = ap (λ w. w ∷ detail ∷ more ∷ []) ((bytes_eq-Decides word name).0 is);
  seed_is = seed_is;
  tasks_are = tasks_are;
}

-- the words of a command about the bundle of a number, by the tests that decide it
numbers_spelled : (word detail more : List ℕ) (command : Command) (seed tasks : ℕ) (gen drill lint : Bool)
    → bytes_eq word (codes "gen") ≡ gen → bytes_eq word (codes "drill") ≡ drill → bytes_eq word (codes "lint") ≡ lint
    → IsSeed detail seed → IsTaskCount more tasks
    → cond gen (Some (Gen seed tasks)) (cond drill (Some (Drill seed tasks)) (cond lint (Some (LintDrill seed tasks)) None)) ≡ Some command
    → SpellsCommand (word ∷ detail ∷ more ∷ []) command
numbers_spelled word detail more command seed tasks true drill lint is is_drill is_lint seed_is tasks_are h =
    subst (λ (c : Command). SpellsCommand (word ∷ detail ∷ more ∷ []) c) (some-is h) (are_numbers (codes "gen") word detail more seed tasks is seed_is tasks_are)
numbers_spelled word detail more command seed tasks false true lint is is_drill is_lint seed_is tasks_are h =
    subst (λ (c : Command). SpellsCommand (word ∷ detail ∷ more ∷ []) c) (some-is h)
    (are_numbers (codes "drill") word detail more seed tasks is_drill seed_is tasks_are)
numbers_spelled word detail more command seed tasks false false true is is_drill is_lint seed_is tasks_are h =
    subst (λ (c : Command). SpellsCommand (word ∷ detail ∷ more ∷ []) c) (some-is h)
    (are_numbers (codes "lint") word detail more seed tasks is_lint seed_is tasks_are)
numbers_spelled word detail more command seed tasks false false false is is_drill is_lint seed_is tasks_are h = absurd (cc h)

numbered_spelled : (word detail more : List ℕ) (command : Command) (seed tasks : Option ℕ) → number_in 20 0 18446744073709551615 detail ≡ seed
    → number_in 2 1 32 more ≡ tasks → numbered_by word seed tasks ≡ Some command → SpellsCommand (word ∷ detail ∷ more ∷ []) command
numbered_spelled word detail more command None tasks is_seed is_tasks h = absurd (cc h)
numbered_spelled word detail more command (Some seed) None is_seed is_tasks h = absurd (cc h)
numbered_spelled word detail more command (Some seed) (Some tasks) is_seed is_tasks h =
    numbers_spelled word detail more command seed tasks (bytes_eq word (codes "gen")) (bytes_eq word (codes "drill")) (bytes_eq word (codes "lint"))
    refl refl refl (number_spelled 20 0 18446744073709551615 seed detail is_seed) (number_spelled 2 1 32 tasks more is_tasks) h

-- and back
numbers_decided : (word detail more : List ℕ) (seed tasks : ℕ) → IsSeed detail seed → IsTaskCount more tasks
    → command_with_numbers word detail more ≡ numbered word seed tasks
numbers_decided word detail more seed tasks seed_is tasks_are =
    ap (λ (o : Option ℕ). numbered_by word o (number_in 2 1 32 more)) (spelled_number 20 0 18446744073709551615 seed detail seed_is)
    ∙ ap (λ (o : Option ℕ). numbered_by word (Some seed) o) (spelled_number 2 1 32 tasks more tasks_are)

-- the words of a verdict by two probes
certify_spelled : (word detail : List ℕ) (command : Command) (certify two : Bool) → bytes_eq word (codes "certify") ≡ certify
    → bytes_eq detail (codes "2") ≡ two → cond (certify && two) (Some CertifyTwo) None ≡ Some command → SpellsCommand (word ∷ detail ∷ []) command
certify_spelled word detail command true true is_certify is_two h =
    let words : word ∷ detail ∷ [] ≡ codes "certify" ∷ codes "2" ∷ [] =
    ap (λ w. w ∷ detail ∷ []) ((bytes_eq-Decides word (codes "certify")).0 is_certify)
    ∙ ap (λ d. codes "certify" ∷ d ∷ []) ((bytes_eq-Decides detail (codes "2")).0 is_two) in
    subst (λ (c : Command). SpellsCommand (word ∷ detail ∷ []) c) (some-is h) words
certify_spelled word detail command true false is_certify is_two h = absurd (cc h)
certify_spelled word detail command false two is_certify is_two h = absurd (cc h)

-- two words, by theirs
two_words : (word detail : List ℕ) (command : Command) (run replay script probes : Bool)
    → bytes_eq word (codes "run") ≡ run → bytes_eq word (codes "replay") ≡ replay
    → bytes_eq word (codes "script") ≡ script → bytes_eq detail (codes "probes") ≡ probes
    → cond run (run_by (hart_count detail)) (cond replay (replay_by (hart_count detail) false) (cond (script && probes) (Some (Script true))
    (cond (bytes_eq word (codes "certify") && bytes_eq detail (codes "2")) (Some CertifyTwo) None)))
    ≡ Some command
    → SpellsCommand (word ∷ detail ∷ []) command
two_words word detail command true replay script probes is_run is_replay is_script is_probes h =
    subst (λ w. SpellsCommand (w ∷ detail ∷ []) command) (sym ((bytes_eq-Decides word (codes "run")).0 is_run))
    (run_spelled detail command (hart_count detail) refl h)
two_words word detail command false true script probes is_run is_replay is_script is_probes h =
    subst (λ w. SpellsCommand (w ∷ detail ∷ []) command) (sym ((bytes_eq-Decides word (codes "replay")).0 is_replay))
    (replay_spelled detail command (hart_count detail) refl h)
two_words word detail command false false true true is_run is_replay is_script is_probes h =
    let words : word ∷ detail ∷ [] ≡ codes "script" ∷ codes "probes" ∷ [] =
    ap (λ w. w ∷ detail ∷ []) ((bytes_eq-Decides word (codes "script")).0 is_script)
    ∙ ap (λ d. codes "script" ∷ d ∷ []) ((bytes_eq-Decides detail (codes "probes")).0 is_probes) in
    subst (λ (c : Command). SpellsCommand (word ∷ detail ∷ []) c) (some-is h) words
two_words word detail command false false true false is_run is_replay is_script is_probes h =
    certify_spelled word detail command (bytes_eq word (codes "certify")) (bytes_eq detail (codes "2")) refl refl h
two_words word detail command false false false probes is_run is_replay is_script is_probes h =
    certify_spelled word detail command (bytes_eq word (codes "certify")) (bytes_eq detail (codes "2")) refl refl h

-- three words, by theirs
three_words : (word detail more : List ℕ) (command : Command) (replay probes : Bool)
    → bytes_eq word (codes "replay") ≡ replay → bytes_eq more (codes "probes") ≡ probes
    → cond (replay && probes) (replay_by (hart_count detail) true) (command_with_numbers word detail more) ≡ Some command
    → SpellsCommand (word ∷ detail ∷ more ∷ []) command
three_words word detail more command true true is_replay is_probes h =
    subst (λ w. SpellsCommand (w ∷ detail ∷ more ∷ []) command) (sym ((bytes_eq-Decides word (codes "replay")).0 is_replay))
    (subst (λ m. SpellsCommand (codes "replay" ∷ detail ∷ m ∷ []) command) (sym ((bytes_eq-Decides more (codes "probes")).0 is_probes))
    (replay_probes_spelled detail command (hart_count detail) refl h))
three_words word detail more command true false is_replay is_probes h =
    numbered_spelled word detail more command (number_in 20 0 18446744073709551615 detail) (number_in 2 1 32 more) refl refl h
three_words word detail more command false probes is_replay is_probes h =
    numbered_spelled word detail more command (number_in 20 0 18446744073709551615 detail) (number_in 2 1 32 more) refl refl h

pub decided_spelled : (words : List (List ℕ)) (command : Command) → command_of words ≡ Some command → SpellsCommand words command
decided_spelled [] command h = absurd cc
decided_spelled (word ∷ []) command h =
    one_word word command (bytes_eq word (codes "alone")) (bytes_eq word (codes "asm")) (bytes_eq word (codes "script")) (bytes_eq word (codes "explain"))
    (bytes_eq word (codes "certify")) (bytes_eq word (codes "lint")) refl refl refl refl refl refl h
decided_spelled (word ∷ detail ∷ []) command h =
    two_words word detail command (bytes_eq word (codes "run")) (bytes_eq word (codes "replay")) (bytes_eq word (codes "script"))
    (bytes_eq detail (codes "probes")) refl refl refl refl h
decided_spelled (word ∷ detail ∷ more ∷ []) command h =
    three_words word detail more command (bytes_eq word (codes "replay")) (bytes_eq more (codes "probes")) refl refl h
decided_spelled (word ∷ detail ∷ more ∷ next ∷ others) command h = absurd cc

pub spelled_decided : (words : List (List ℕ)) (command : Command) → SpellsCommand words command → command_of words ≡ Some command
spelled_decided words Alone h = ap command_of h
spelled_decided words Asm h = ap command_of h
spelled_decided words (Run harts) h = ap command_of h.1 ∙ ap run_by (spelled_count harts h.0)
spelled_decided words (Script false) h = ap command_of h
spelled_decided words (Script true) h = ap command_of h
spelled_decided words (Replay harts false) h = ap command_of h.1 ∙ ap (λ count. replay_by count false) (spelled_count harts h.0)
spelled_decided words (Replay harts true) h = ap command_of h.1 ∙ ap (λ count. replay_by count true) (spelled_count harts h.0)
spelled_decided words Explain h = ap command_of h
spelled_decided words Certify h = ap command_of h
spelled_decided words CertifyTwo h = ap command_of h
spelled_decided words (Drill seed tasks) h =
    ap command_of h.words_are ∙ numbers_decided (codes "drill") h.seed_word h.tasks_word seed tasks h.seed_is h.tasks_are
spelled_decided words Lint h = ap command_of h
spelled_decided words (LintDrill seed tasks) h =
    ap command_of h.words_are ∙ numbers_decided (codes "lint") h.seed_word h.tasks_word seed tasks h.seed_is h.tasks_are
spelled_decided words (Gen seed tasks) h =
    ap command_of h.words_are ∙ numbers_decided (codes "gen") h.seed_word h.tasks_word seed tasks h.seed_is h.tasks_are

-- A command that words spell asks for 1 to 8 harts, and for 1 to 32 tasks.
pub spelled_counts : (words : List (List ℕ)) (command : Command) → SpellsCommand words command → HasCounts (work_of command)
spelled_counts words Alone h = (omega arith, omega arith)
spelled_counts words Asm h = (omega arith, omega arith)
spelled_counts words (Run harts) h = h.0
spelled_counts words (Script probes) h = (omega arith, omega arith)
spelled_counts words (Replay harts false) h = h.0
spelled_counts words (Replay harts true) h = h.0
spelled_counts words Explain h = (omega arith, omega arith)
spelled_counts words Certify h = (omega arith, omega arith)
spelled_counts words CertifyTwo h = (omega arith, omega arith)
spelled_counts words (Gen seed tasks) h = (h.tasks_are.least, h.tasks_are.greatest)
spelled_counts words (Drill seed tasks) h = (h.tasks_are.least, h.tasks_are.greatest)
spelled_counts words Lint h = tt
spelled_counts words (LintDrill seed tasks) h = (h.tasks_are.least, h.tasks_are.greatest)

-- Four words or more are no command.
pub many_words : {A : Type 0} (f : A → List ℕ) (words : List A) → 4 ≤ length words → None ≡ command_of (map f words)
many_words f [] many = absurd (omega arith)
many_words f (a ∷ []) many = absurd (omega arith)
many_words f (a ∷ b ∷ []) many = absurd (omega arith)
many_words f (a ∷ b ∷ c ∷ []) many = absurd (omega arith)
many_words f (a ∷ b ∷ c ∷ d ∷ others) many = refl
