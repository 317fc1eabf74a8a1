-- The bundle of masked tasks that a number gives (this project's own). The words are drawn in the order in which the draws stand here.
use Rattle.std.specs.Prelude.{ℕ, ◌+◌, ◌%◌, ◌==◌, Bool, true, false, List, [], ◌∷◌, ◌++◌, count_by, if◌then◌else◌}
use Rattle.rand_core.specs.Pcg32Seed.{pcg32_seed}
use Rattle.rand_pcg.specs.Lcg.{Lcg}
use Rattle.rand_pcg.specs.Pcg.{pcg32_of_seed}
use Rattle.bundle_text.specs.declared.bundle.Bundle.{Bundle}
use Rattle.bundle_text.specs.declared.bundle.TaskText.{TaskText}
use Rattle.bundle_text.specs.declared.bundle.Code.TheVariants.{Text}
use Rattle.masked_gen.specs.Draws.{Drawn, drawn, ◌>>=◌, word_draw, draws}
use Rattle.masked_gen.specs.Code.{code_lines}
use Rattle.masked_gen.specs.declared.gate.Gate.{Gate}
use Rattle.masked_gen.specs.declared.gate.Gate.TheVariants.{Xor, And}

-- an even word gives an Xor, an odd one an And
abbrev pub gate_draw : Lcg → Drawn Gate
gate_draw = do
  word ← word_draw
  drawn (if word % 2 == 0 then Xor else And)

-- a word says how many gates there are, 1 to 8
abbrev pub gates_draw : Lcg → Drawn (List Gate)
gates_draw = do
  word ← word_draw
  draws (1 + word % 8) gate_draw

abbrev pub is_and : Gate → Bool
is_and Xor = false
is_and And = true

-- the two shares of one word and then those of the other
abbrev pub shares_draw : Lcg → Drawn (List ℕ)
shares_draw = draws 4 word_draw

-- a mask for each And
abbrev pub masks_draw : List Gate → Lcg → Drawn (List ℕ)
masks_draw gates = draws (count_by is_and gates) word_draw

-- the task of these gates and this tape
abbrev pub task_of : List Gate → List ℕ → TaskText
task_of gates tape = record { fuel = 1000; out_max = 2; data_len = 0; band = 0; tape = tape; code = Text 0 (code_lines gates) }

abbrev pub task_draw : Lcg → Drawn TaskText
task_draw = do
  gates ← gates_draw
  shares ← shares_draw
  masks ← masks_draw gates
  drawn (task_of gates (shares ++ masks))

-- the generator of a number
abbrev pub generator_of : ℕ → Lcg
generator_of seed = pcg32_of_seed (pcg32_seed 16 seed)

-- so many tasks, for four slots and a first hart with the tail 5
unfoldable pub generated : ℕ → ℕ → Bundle
generated seed tasks = record {
  slots = 4;
  plans = record { hart = 0; plan = record { quanta = []; tail = 5 } } ∷ [];
  tasks = (draws tasks task_draw (generator_of seed)).value;
  worlds = [];
  events = [];
  order = [];
}
