-- A task with how far it has come, and a context: such a task in a slot (this project's own).
use Rattle.std.specs.Prelude.{◌≡◌, ℕ, ◌+◌, ◌*◌, ◌<◌, ◌≤◌, List, [], length, get_or, set, replicate, Option, None}
use Rattle.isa_model.specs.declared.task.Task.{Task}
use Rattle.isa_model.specs.declared.ends.End.{End}
use Rattle.isa_model.specs.declared.latch.Latch.TheVariants.{Reg, Mem}
use Rattle.isa_model.specs.Alone.{alone_at}
use Rattle.isa_model.specs.AloneValue.{alone_value}
use Rattle.hart_model.specs.declared.tag.Cell.{Cell}
use Rattle.hart_model.specs.Cells.{blank}
use Rattle.hart_model.specs.Csrs.{public}
use Rattle.hart_model.specs.Pmp.{bounds_of}

-- a task's number, its places, words, limits and tape; and its data, tape position, output and count so far
pub record BodyState : Type 0 where
  pub task_no : ℕ
  pub code_at : ℕ
  pub data_at : ℕ
  pub code : List ℕ
  pub data_words : List Cell
  pub tape : List ℕ
  pub tape_at : ℕ
  pub output : List ℕ
  pub out_max : ℕ
  pub fuel : ℕ
  pub count : ℕ

-- the body, the slot's number and its 36 words, and how the task ended, if it has
pub record ContextState : Type 0 where
  pub body : BodyState
  pub slot : ℕ
  pub words : List Cell
  pub end : Option End

-- an ended task
pub record DoneState : Type 0 where
  pub task_no : ℕ
  pub count : ℕ
  pub output : List ℕ
  pub end : End

-- how many words a slot has: word 0 is the pc, words 1 to 31 are the registers, words 32 to 35 the four bounds
abbrev pub slot_len : ℕ
slot_len = 36

abbrev pub pc_word : ℕ
pc_word = 0

abbrev pub bound_word : ℕ → ℕ
bound_word i = 32 + i

-- the address of word 0 of a slot
abbrev pub slot_address : ℕ → ℕ
slot_address slot = 0x200 + 160 * slot

abbrev pub slot_word : ContextState → ℕ → Cell
slot_word c i = get_or c.words i blank

abbrev pub data_word : BodyState → ℕ → Cell
data_word b i = get_or b.data_words i blank

-- the task of a body
abbrev pub task_of : BodyState → Task
task_of b = record {
  code_at = b.code_at;
  data_at = b.data_at;
  code = b.code;
  data_len = length b.data_words;
  fuel = b.fuel;
  out_max = b.out_max;
  tape = b.tape;
}

-- a task at its start, under its number
abbrev pub fresh_body : ℕ → Task → BodyState
fresh_body task_no T = record {
  task_no = task_no;
  code_at = T.code_at;
  data_at = T.data_at;
  code = T.code;
  data_words = replicate T.data_len blank;
  tape = T.tape;
  tape_at = 0;
  output = [];
  out_max = T.out_max;
  fuel = T.fuel;
  count = 0;
}

-- the words of a slot that nothing was in
abbrev pub fresh_words : List Cell
fresh_words = replicate slot_len blank

abbrev pub with_bound : Task → ℕ → List Cell → List Cell
with_bound T i words = set words (bound_word i) (public (get_or (bounds_of T) i 0))

-- a slot's words for a task at its start: the pc and the four bounds are set, the others stay
abbrev pub start_words : Task → List Cell → List Cell
start_words T words = with_bound T 3 (with_bound T 2 (with_bound T 1 (with_bound T 0 (set words pc_word (public T.code_at)))))

-- the context of a body that is admitted into a slot with these words
abbrev pub admit_of : BodyState → ℕ → List Cell → ContextState
admit_of b slot words = record { body = b; slot = slot; words = start_words (task_of b) words; end = None }

-- the slot's registers are 0 and public
abbrev pub IsScrubbed : ContextState → Type 0
IsScrubbed c = (i : ℕ) → 1 ≤ i → i < 32 → slot_word c i ≡ blank

-- a context with this end, as it is kept among the ended tasks
abbrev pub done_of : ContextState → End → DoneState
done_of c end = record { task_no = c.body.task_no; count = c.body.count; output = c.body.output; end = end }

-- A context stands for its task at its count: the pc, the registers, the bounds, the data, the output and the tape position are those
-- of the run alone after so many instructions.
pub record StandsForTask (c : ContextState) (T : Task) : Type 0 where
  pub task : task_of c.body ≡ T
  pub words : length c.words ≡ slot_len
  pub pc : (slot_word c pc_word).value ≡ (alone_at T c.body.count).pc
  pub registers : (i : ℕ) → 1 ≤ i → i < 32 → (slot_word c i).value ≡ alone_value T c.body.count (Reg i)
  pub bounds : (i : ℕ) → i < 4 → (slot_word c (bound_word i)).value ≡ get_or (bounds_of T) i 0
  pub data_words : (i : ℕ) → i < T.data_len → (data_word c.body i).value ≡ alone_value T c.body.count (Mem (T.data_at + 4 * i))
  pub output : c.body.output ≡ (alone_at T c.body.count).output
  pub tape_at : c.body.tape_at ≡ (alone_at T c.body.count).tape_at
