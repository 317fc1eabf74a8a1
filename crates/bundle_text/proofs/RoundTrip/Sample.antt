-- The definitions tried on a bundle with every kind of line: its text, made by hand, and that it may be written.
use Rattle.std.proofs.Common.{◌≡◌, ℕ, ◌≤◌, ◌<◌, ◌^◌, true, false, not, ltb, eqb, List, [], ◌∷◌, ◌++◌, length, codes, refl, arith}
use Rattle.std.specs.Fmt.{digits}
use Rattle.std.specs.List.{AllByRecursion, list_all}
use Rattle.std.proofs.lemmas.Bool.{and_parts, ltb-true}
use Rattle.core_model.specs.declared.event.Event.TheVariants.{Go, Tick}
use Rattle.bundle_text.specs.Pieces.{is_text, tokens}
use Rattle.bundle_text.specs.Lines.{is_endcode}
use Rattle.bundle_text.specs.Range.{IsTimes, IsWritable, IsInRange, IsTaskInRange, IsCodeLine, IsLineInRange, IsByte}
use Rattle.bundle_text.specs.Text.{text_of}
use Rattle.bundle_text.specs.declared.pieces.TheConstants.{CARRIAGE_RETURN}
use Rattle.bundle_text.specs.declared.bundle.Bundle.{Bundle}
use Rattle.bundle_text.specs.declared.bundle.TaskText.{TaskText}
use Rattle.bundle_text.specs.declared.bundle.Code.TheVariants.{Words, Text}
use Rattle.bundle_text.proofs.RoundTrip.Tokens.{raw_by_test}

abbrev lf : List (List ℕ) → List ℕ
lf [] = []
lf (l ∷ ls) = l ++ 10 ∷ lf ls

abbrev pub words_task : TaskText
words_task = record {
  fuel = 100000;
  out_max = 4096;
  data_len = 1024;
  band = 0;
  tape = 0xffffffff ∷ 10 ∷ [];
  code = Words (0x13 ∷ 0x0abcdef0 ∷ []);
}

abbrev pub text_task : TaskText
text_task = record {
  fuel = 1;
  out_max = 0;
  data_len = 0;
  band = 0;
  tape = [];
  code = Text 77 (codes "\tli a0,1 # one" ∷ [] ∷ codes "ecall" ∷ []);
}

abbrev pub sample : Bundle
sample = record {
  slots = 8;
  plans = record { hart = 7; plan = record { quanta = 0 ∷ 4096 ∷ []; tail = 4096 } } ∷ record { hart = 0; plan = record { quanta = []; tail = 1 } } ∷ [];
  tasks = words_task ∷ text_task ∷ [];
  worlds = record { secret = 0xffffffff; tape = 1 ∷ 0x80000000 ∷ [] } ∷ record { secret = 0; tape = 0 ∷ 2 ∷ [] } ∷ [];
  events = record { event = Go 0; times = 1 } ∷ record { event = Tick 7; times = 1048576 } ∷ record { event = Go 3; times = 2 } ∷ [];
  order = record { hart = 0; times = 10 } ∷ record { hart = 1; times = 1 } ∷ [];
}

text : text_of sample
    ≡ lf (codes "bundle 1" ∷ codes "slots 8" ∷ codes "plan 7 tail 4096 quanta 0 4096" ∷ codes "plan 0 tail 1"
    ∷ codes "task fuel 100000 out 4096 data 1024" ∷ codes "tape ffffffff 0000000a" ∷ codes "words 00000013 0abcdef0" ∷ codes "endtask"
    ∷ codes "task fuel 1 out 0 data 0" ∷ codes "code" ∷ codes "\tli a0,1 # one" ∷ [] ∷ codes "ecall" ∷ codes "endcode" ∷ codes "endtask"
    ∷ codes "world 4294967295 00000001 80000000" ∷ codes "world 0 00000000 00000002" ∷ codes "events g0 t7*1048576 g3*2" ∷ codes "order 0*10 1" ∷ [])
unfolding digits
text = refl

-- a task of band 1 after one of band 0: each task says its band
bands : text_of (record { slots = 1; plans = []; tasks = text_task ∷ record words_task { band = 1; tape = [] } ∷ []; worlds = []; events = []; order = [] })
    ≡ lf (codes "bundle 2" ∷ codes "slots 1" ∷ codes "task fuel 1 out 0 data 0 band 0" ∷ codes "code" ∷ codes "\tli a0,1 # one" ∷ [] ∷ codes "ecall"
    ∷ codes "endcode" ∷ codes "endtask" ∷ codes "task fuel 100000 out 4096 data 1024 band 1" ∷ codes "words 00000013 0abcdef0" ∷ codes "endtask" ∷ [])
unfolding digits
bands = refl

-- nothing but the slots
least : text_of (record { slots = 1; plans = []; tasks = []; worlds = []; events = []; order = [] }) ≡ lf (codes "bundle 1" ∷ codes "slots 1" ∷ [])
unfolding digits
least = refl

-- ---- it may be written

bytes_by_test : (bytes : List ℕ) → list_all (λ b. ltb b 256) bytes ≡ true → AllByRecursion IsByte bytes
bytes_by_test [] e = tt
bytes_by_test (b ∷ bs) e = let p = and_parts (ltb b 256) (list_all (λ c. ltb c 256) bs) e in (ltb-true b 256 p.0, bytes_by_test bs p.1)

line_range : (line : List ℕ) → list_all (λ b. ltb b 256) line ≡ true → length line < 2 ^ 32 → IsLineInRange line
line_range line e lt = record { bytes = bytes_by_test line e; short = lt }

code_line : (line : List ℕ) → is_text line ≡ true → list_all (λ b. not (eqb b CARRIAGE_RETURN)) line ≡ true → is_endcode (tokens line) ≡ false → IsCodeLine line
code_line line text tested on = record { text = text; no_cr = (raw_by_test line text tested).no_cr; goes_on = on }

words_task_range : IsTaskInRange words_task
words_task_range = record {
  fuel_low = omega arith;
  fuel_high = omega arith;
  out_max = omega arith;
  data_len = omega arith;
  band = omega arith;
  tape = (omega arith, (omega arith, tt));
  tape_short = omega arith;
  code = ((omega arith, (omega arith, tt)), omega arith);
}

text_task_range : IsTaskInRange text_task
text_task_range = record {
  fuel_low = omega arith;
  fuel_high = omega arith;
  out_max = omega arith;
  data_len = omega arith;
  band = omega arith;
  tape = tt;
  tape_short = omega arith;
  code = (omega arith, (line_range _ refl (omega arith), (line_range _ refl (omega arith), (line_range _ refl (omega arith), tt))));
}

times : (n : ℕ) → 1 ≤ n → n ≤ 1048576 → IsTimes n
times n low high = record { low = low; high = high }

sample_range : IsInRange sample
sample_range = record {
  slots_low = omega arith;
  slots_high = omega arith;
  plans = (
    record { hart = omega arith; tail_low = omega arith; tail_high = omega arith; quanta = (omega arith, (omega arith, tt)); quanta_short = omega arith },
    (record { hart = omega arith; tail_low = omega arith; tail_high = omega arith; quanta = tt; quanta_short = omega arith }, tt),
  );
  plans_short = omega arith;
  plans_apart = (refl, (refl, tt));
  tasks = (words_task_range, (text_task_range, tt));
  tasks_short = omega arith;
  worlds = (
    record { secret = omega arith; tape = (omega arith, (omega arith, tt)); tape_short = omega arith },
    (record { secret = omega arith; tape = (omega arith, (omega arith, tt)); tape_short = omega arith }, tt),
  );
  worlds_short = omega arith;
  worlds_as_long = (refl, tt);
  events = (
    record { hart = omega arith; times = times 1 (omega arith) (omega arith) },
    (
      record { hart = omega arith; times = times 1048576 (omega arith) (omega arith) },
      (record { hart = omega arith; times = times 2 (omega arith) (omega arith) }, tt),
    ),
  );
  events_short = omega arith;
  order = (
    record { hart = omega arith; times = times 10 (omega arith) (omega arith) },
    (record { hart = omega arith; times = times 1 (omega arith) (omega arith) }, tt),
  );
  order_short = omega arith;
}

pub sample_writable : IsWritable sample
sample_writable = record {
  range = sample_range;
  code = (tt, ((code_line _ refl refl refl, (code_line _ refl refl refl, (code_line _ refl refl refl, tt))), tt));
}
