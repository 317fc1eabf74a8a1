-- What holds of a core after any events (this project's own), but for what is between two instructions of the kernel: where a hart in
-- machine mode stands with a task.
use Rattle.std.specs.Prelude.{◌≡◌, ⊤, ℕ, ◌+◌, ◌*◌, ◌<◌, ◌≤◌, ◌⊎◌, true, List, [], ◌∷◌, length, All, filter, count_by, get_or, slice_get, nat_lt, Option, Some, None, ◌==◌, if◌then◌else◌}
use Rattle.isa_model.specs.declared.task.Task.{Task}
use Rattle.isa_model.specs.declared.latch.Latch.{Latch}
use Rattle.isa_model.specs.declared.latch.Latch.TheVariants as latches
use Rattle.isa_model.specs.declared.ends.End.TheVariants.{OutOfSteps}
use Rattle.isa_model.specs.Alone.{alone_at, last_of, count_of}
use Rattle.isa_model.specs.AloneValue.{alone_value}
use Rattle.hart_model.specs.declared.place.Place.{Place}
use Rattle.hart_model.specs.declared.place.Place.TheVariants.{Reg}
use Rattle.hart_model.specs.declared.tag.Cell.{Cell}
use Rattle.hart_model.specs.declared.tag.Tag.{Tag}
use Rattle.hart_model.specs.declared.tag.Tag.TheVariants.{Public, Of, Many}
use Rattle.hart_model.specs.declared.tag.Mode.{Mode}
use Rattle.hart_model.specs.declared.tag.Mode.TheVariants.{User, Machine}
use Rattle.hart_model.specs.Cells.{blank}
use Rattle.hart_model.specs.Pmp.{bounds_of, boot_pmpcfg}
use Rattle.hart_model.specs.Csrs.{CsrFile, public, mstatus_value}
use Rattle.hart_model.specs.MachineStep.{kernel_address}
use Rattle.hart_model.specs.Context.{BodyState, ContextState, DoneState, StandsForTask, task_of, fresh_body, slot_len, pc_word, bound_word, slot_address, slot_word, data_word}
use Rattle.hart_model.specs.HartState.{HartState, hart_cell}
use Rattle.core_model.specs.declared.loaded.Loaded.{Loaded}
use Rattle.core_model.specs.Board.{BoardState, OutEntry, all_ready, out_entry}
use Rattle.core_model.specs.Explained.{IsValueOf, IsLogExplained}
use Rattle.core_model.specs.Core.{CoreState}

-- A value is what its tag says: one with the tag of a task's latch is the value of this latch in the run alone, and none is of many.
abbrev pub IsAsTagged : List Task → ℕ → Tag → Type 0
IsAsTagged tasks value Public = ⊤
IsAsTagged tasks value (Of task_no n l) = IsValueOf tasks task_no n l value
IsAsTagged tasks value Many = ⊥

abbrev pub IsTruthful : List Task → Cell → Type 0
IsTruthful tasks cell = IsAsTagged tasks cell.value cell.tag

-- A cell of a task's latch that was never written up to instruction n, in which the run alone has it 0.
pub record IsUntouched (task : Task) (n : ℕ) (l : Latch) (cell : Cell) : Type 0 where
  pub tag : cell.tag ≡ Public
  pub value : cell.value ≡ 0
  pub never : (k : ℕ) → k ≤ n → alone_value task k l ≡ 0

-- A cell with the tag of a task's own latch after some instruction up to n, since which its value is the same.
pub record IsUnchangedSince (task_no : ℕ) (task : Task) (n : ℕ) (l : Latch) (cell : Cell) : Type 0 where
  pub since : ℕ
  pub since_low : 1 ≤ since
  pub since_high : since ≤ n
  pub tag : cell.tag ≡ Of task_no since l
  pub value : cell.value ≡ alone_value task n l
  pub unchanged : (k : ℕ) → since ≤ k → k ≤ n → alone_value task k l ≡ alone_value task n l

-- The cell of a latch that is the task's after n instructions.
abbrev pub IsOwn : ℕ → Task → ℕ → Latch → Cell → Type 0
IsOwn task_no task n l cell = IsUntouched task n l cell ⊎ IsUnchangedSince task_no task n l cell

-- The cell of a latch that is the task's or holds a public value.
abbrev pub IsOwnOrPublic : ℕ → Task → ℕ → Latch → Cell → Type 0
IsOwnOrPublic task_no task n l cell = (cell.tag ≡ Public) ⊎ IsUnchangedSince task_no task n l cell

-- A slot word is public, or of the task's register of its number.
abbrev pub IsOldWord : ℕ → ℕ → Cell → Type 0
IsOldWord task_no i cell = (cell.tag ≡ Public) ⊎ ((n : ℕ) × (cell.tag ≡ Of task_no n (latches.Reg i)))

-- No instruction of the first n has ended the task.
abbrev pub IsRunning : Task → ℕ → Type 0
IsRunning task n = ((alone_at task n).end ≡ None) ⊎ ((alone_at task n).end ≡ Some OutOfSteps)

-- The body of a task of the list: its output and its tape are as far as in the run alone, and its data words are its own.
pub record IsBodyCase (tasks : List Task) (b : BodyState) : Type 0 where
  pub is_task : slice_get tasks b.task_no ≡ Some (task_of b)
  pub is_running : IsRunning (task_of b) b.count
  pub output : b.output ≡ (alone_at (task_of b) b.count).output
  pub tape_at : b.tape_at ≡ (alone_at (task_of b) b.count).tape_at
  pub data_words : (i : ℕ) → i < length b.data_words
      → IsOwn b.task_no (task_of b) b.count (latches.Mem (b.data_at + 4 * i)) (data_word b i)

-- the four bounds of the task stand in the slot, public
abbrev pub HasBounds : ContextState → Type 0
HasBounds c = (i : ℕ) → i < 4 → slot_word c (bound_word i) ≡ public (get_or (bounds_of (task_of c.body)) i 0)

-- A hart in user mode with this context: it is as far as the run alone at the context's count, each register is the task's own, each
-- other latch that an instruction writes is the task's own or public, and the slot has nothing of another task.
pub record IsUserCase (tasks : List Task) (h : HartState) (c : ContextState) : Type 0 where
  pub mode : h.csrs.mode ≡ User
  pub held : h.held ≡ Some c
  pub body : IsBodyCase tasks c.body
  pub no_end : c.end ≡ None
  pub pc : h.pc ≡ (alone_at (task_of c.body) c.body.count).pc
  pub registers : (i : ℕ) → i < 32 → IsOwn c.body.task_no (task_of c.body) c.body.count (latches.Reg i) (hart_cell h (Reg i))
  pub port_a : IsOwnOrPublic c.body.task_no (task_of c.body) c.body.count latches.PortA h.port_a
  pub port_b : IsOwnOrPublic c.body.task_no (task_of c.body) c.body.count latches.PortB h.port_b
  pub res : IsOwnOrPublic c.body.task_no (task_of c.body) c.body.count latches.Res h.res
  pub load : IsOwnOrPublic c.body.task_no (task_of c.body) c.body.count latches.Load h.load
  pub store : IsOwnOrPublic c.body.task_no (task_of c.body) c.body.count latches.Store h.store
  pub mul : IsOwnOrPublic c.body.task_no (task_of c.body) c.body.count latches.Mul h.mul
  pub scratch : h.csrs.mscratch ≡ public (slot_address c.slot)
  pub bound_registers : h.csrs.pmp.addrs ≡ bounds_of (task_of c.body)
  pub words : length c.words ≡ slot_len
  pub saved_pc : (slot_word c pc_word).tag ≡ Public
  pub saved_registers : (i : ℕ) → 1 ≤ i → i < 32 → IsOldWord c.body.task_no i (slot_word c i)
  pub bounds : HasBounds c

-- A ready context: it stands for its task at its count, and each of its words is the task's own.
pub record IsReadyCase (tasks : List Task) (c : ContextState) : Type 0 where
  pub stands : StandsForTask c (task_of c.body)
  pub body : IsBodyCase tasks c.body
  pub no_end : c.end ≡ None
  pub saved_pc : (slot_word c pc_word).tag ≡ Public
  pub saved_registers : (i : ℕ) → 1 ≤ i → i < 32 → IsOwn c.body.task_no (task_of c.body) c.body.count (latches.Reg i) (slot_word c i)
  pub bounds : HasBounds c

-- A waiting task is one of the list, at its start.
pub record IsWaitingCase (tasks : List Task) (b : BodyState) : Type 0 where
  pub is_task : slice_get tasks b.task_no ≡ Some (task_of b)
  pub is_fresh : b ≡ fresh_body b.task_no (task_of b)

-- An ended task has the count, the output and the end of its whole run alone.
pub record IsEndedCase (tasks : List Task) (d : DoneState) : Type 0 where
  pub task : Task
  pub is_task : slice_get tasks d.task_no ≡ Some task
  pub count : d.count ≡ count_of task
  pub output : d.output ≡ (last_of task).output
  pub end : (last_of task).end ≡ Some d.end

-- mstatus in each mode: MPIE in user mode, and nothing in machine mode
abbrev pub mstatus_in : Mode → ℕ
mstatus_in User = 0x80
mstatus_in Machine = 0

-- What a hart's CSRs keep from boot on.
pub record AreCsrsSound (number : ℕ) (csrs : CsrFile) : Type 0 where
  pub hart : csrs.hart ≡ number
  pub timer : csrs.is_timer_enabled ≡ true
  pub fuel : csrs.is_fuel_enabled ≡ true
  pub mtvec : csrs.mtvec ≡ kernel_address
  pub pmpcfg : csrs.pmp.cfg ≡ boot_pmpcfg
  pub mstatus : mstatus_value csrs ≡ mstatus_in csrs.mode

-- The hart of a number: its cells are as their tags say, and public where it holds nothing; in user mode it is in the user case.
pub record IsHartSound (tasks : List Task) (number : ℕ) (h : HartState) : Type 0 where
  pub csrs : AreCsrsSound number h.csrs
  pub registers : length h.regs ≡ 32
  pub zero : h.zero_word ≡ blank
  pub truthful : (p : Place) → IsTruthful tasks (hart_cell h p)
  pub public_alone : h.held ≡ None → (p : Place) → (hart_cell h p).tag ≡ Public
  pub user : h.csrs.mode ≡ User → (c : ContextState) × IsUserCase tasks h c

-- in how many places of a board a task of this number is, and in how many a slot
abbrev pub home_count : BoardState → ℕ → ℕ
home_count b task_no =
    count_by (λ (body : BodyState). body.task_no == task_no) b.waiting
    + count_by (λ (c : ContextState). c.body.task_no == task_no) (all_ready b.ready)
    + count_by (λ (o : OutEntry). o.task_no == task_no) b.out
    + count_by (λ (d : DoneState). d.task_no == task_no) b.ended

abbrev pub slot_count : BoardState → ℕ → ℕ
slot_count b slot = count_by (λ (c : ContextState). c.slot == slot) (all_ready b.ready) + count_by (λ (o : OutEntry). o.slot == slot) b.out

-- A board of these tasks and so many slots: each task is in exactly one place, no slot is in two, and all that is there is as it
-- should be.
pub record IsBoardSound (tasks : List Task) (slots : ℕ) (b : BoardState) : Type 0 where
  pub homes : (task_no : ℕ) → home_count b task_no ≡ (if nat_lt task_no (length tasks) then 1 else 0)
  pub slot_once : (slot : ℕ) → slot_count b slot ≤ 1
  pub ready_slots : All (λ (c : ContextState). c.slot < slots) (all_ready b.ready)
  pub out_slots : All (λ (o : OutEntry). o.slot < slots) b.out
  pub waiting : All (IsWaitingCase tasks) b.waiting
  pub ready : All (IsReadyCase tasks) (all_ready b.ready)
  pub ended : All (IsEndedCase tasks) b.ended

-- what is out on a hart that holds this
abbrev pub entries_held : ℕ → Option ContextState → List OutEntry
entries_held hart None = []
entries_held hart (Some c) = out_entry hart c ∷ []

-- A core of a loaded bundle: its board and its harts are sound, just what each hart holds is out on it, and each entry of the log is
-- explained.
pub record IsCoreSound (loaded : Loaded) (c : CoreState) : Type 0 where
  pub hart_count : length c.harts ≡ loaded.harts
  pub harts : (i : ℕ) (h : HartState) → slice_get c.harts i ≡ Some h → IsHartSound loaded.tasks i h
  pub board : IsBoardSound loaded.tasks loaded.slots c.board
  pub out : (i : ℕ) (h : HartState) → slice_get c.harts i ≡ Some h → filter (λ (o : OutEntry). o.hart == i) c.board.out ≡ entries_held i h.held
  pub out_exists : All (λ (o : OutEntry). o.hart < loaded.harts) c.board.out
  pub log : IsLogExplained loaded.tasks c.log
