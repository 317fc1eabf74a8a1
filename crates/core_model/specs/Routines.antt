-- The parts of a kernel that save and restore a task, and what each has to do (this project's own), in three statements: the values that
-- it leaves, its tags and entries, and what two runs of it have in common. A tick may come before any of its instructions.
use Rattle.std.specs.Prelude.{◌≡◌, ⊤, ℕ, ◌+◌, ◌*◌, ◌<◌, ◌≤◌, ◌⊎◌, Bool, true, false, ◌||◌, List, [], ◌∷◌, ◌++◌, length, get_or, All, Option, Some, None, ◌==◌, if◌then◌else◌}
use Rattle.isa_model.specs.declared.instr.Instr.{Instr}
use Rattle.isa_model.specs.declared.instr.Instr.TheVariants.{Load, Store}
use Rattle.isa_model.specs.declared.task.Task.{Task}
use Rattle.isa_model.specs.declared.latch.Latch.TheVariants as latches
use Rattle.isa_model.specs.InstrTable.{instr_of}
use Rattle.isa_model.specs.Effect.{address}
use Rattle.isa_model.specs.AloneValue.{alone_value}
use Rattle.isa_model.specs.TaskPlaces.{IsValidTask}
use Rattle.hart_model.specs.declared.calls.Did.TheVariants.{Trapped}
use Rattle.hart_model.specs.declared.place.Place.{Place}
use Rattle.hart_model.specs.declared.place.Place.TheVariants.{Reg, SlotWord, DataWord}
use Rattle.hart_model.specs.declared.probe.Probe.{Probe}
use Rattle.hart_model.specs.declared.tag.Mode.TheVariants.{Machine}
use Rattle.hart_model.specs.declared.tag.Tag.TheVariants.{Public}
use Rattle.hart_model.specs.Cells.{blank}
use Rattle.hart_model.specs.Csrs.{CsrFile, public}
use Rattle.hart_model.specs.Context.{ContextState, slot_len, slot_address, slot_word, task_of}
use Rattle.hart_model.specs.HartState.{HartState, hart_cell, held_words, tick_of}
use Rattle.hart_model.specs.Writes.{HartAndProbes}
use Rattle.hart_model.specs.StepResult.{StepResult, Steps, Wants, Wedged}
use Rattle.hart_model.specs.UserStep.{user_step}
use Rattle.hart_model.specs.MachineStep.{Target, AtPort, target_of, kernel_address, kernel_word_at}
use Rattle.hart_model.specs.HartStep.{hart_step}
use Rattle.core_model.specs.Explained.{IsExplained}
use Rattle.core_model.specs.Soundness.{IsOwn, IsHartSound, IsUserCase, IsReadyCase}
use Rattle.core_model.specs.LowEquivalence.{AgreePublicly}
use Rattle.core_model.specs.AlikeHarts.{AreHartsAlike}

-- a hart, with a tick before its next step or without
abbrev pub ticked_if : Bool → HartState → HartState
ticked_if true h = tick_of h
ticked_if false h = h

-- whether one of some steps has a tick before it
abbrev pub has_tick : List Bool → Bool
has_tick [] = false
has_tick (ticked ∷ ticks) = ticked || has_tick ticks

-- whether an instruction reaches a device port
abbrev pub is_port : Target → Bool
is_port (AtPort port) = true
is_port target = false

abbrev pub reaches_port : HartState → Instr → Bool
reaches_port h (Load kind rd rs1 imm) = is_port (target_of h.held (address (hart_cell h (Reg rs1)).value imm))
reaches_port h (Store kind rs2 rs1 imm) = is_port (target_of h.held (address (hart_cell h (Reg rs1)).value imm))
reaches_port h instr = false

-- whether the instruction at the pc does
abbrev pub port_by_instr : HartState → Option Instr → Bool
port_by_instr h None = false
port_by_instr h (Some instr) = reaches_port h instr

abbrev pub port_by_word : HartState → Option ℕ → Bool
port_by_word h None = false
port_by_word h (Some word) = port_by_instr h (instr_of word)

abbrev pub is_at_port : List ℕ → HartState → Bool
is_at_port code h = port_by_word h (kernel_word_at code h.pc)

-- what a step leaves that goes on at the word after the pc
abbrev pub next_word : ℕ → StepResult → Option HartAndProbes
next_word pc (Steps h probes did) = if h.pc == pc + 4 then Some (record { hart = h; probes = probes }) else None
next_word pc (Wants call early_writes rd next) = None
next_word pc Wedged = None

-- One instruction of a part. None where it reaches a port, comes to no end, or doesn't go on at the word after it.
abbrev pub part_step : List ℕ → HartState → Option HartAndProbes
part_step code h = if is_at_port code h then None else next_word h.pc (hart_step code h)

-- more steps after some, with the entries of both
abbrev pub with_probes : List Probe → Option HartAndProbes → Option HartAndProbes
with_probes probes None = None
with_probes probes (Some a) = Some (record { hart = a.hart; probes = probes ++ a.probes })

abbrev pub then_run : Option HartAndProbes → (HartState → Option HartAndProbes) → Option HartAndProbes
then_run None more = None
then_run (Some a) more = with_probes a.probes (more a.hart)

-- Instructions of a part in a row, one for each item, with a tick before those whose item is true.
abbrev pub run_of_part : List ℕ → List Bool → HartState → Option HartAndProbes
run_of_part code [] h = Some (record { hart = h; probes = [] })
run_of_part code (ticked ∷ ticks) h = then_run (part_step code (ticked_if ticked h)) (λ g. run_of_part code ticks g)

-- a run that comes to its end, where this is so; and two runs
abbrev pub ComesTo : (HartAndProbes → Type 0) → Option HartAndProbes → Type 0
ComesTo There None = ⊥
ComesTo There (Some a) = There a

abbrev pub BothCome : (HartAndProbes → HartAndProbes → Type 0) → Option HartAndProbes → Option HartAndProbes → Type 0
BothCome There (Some a) (Some b) = There a b
BothCome There run other = ⊥

-- what is held is the same task in the same slot, at the same count
pub record IsSameTask (c d : ContextState) : Type 0 where
  pub task_no : d.body.task_no ≡ c.body.task_no
  pub slot : d.slot ≡ c.slot
  pub count : d.body.count ≡ c.body.count

abbrev pub HoldsSame : Option ContextState → Option ContextState → Type 0
HoldsSame None None = ⊤
HoldsSame (Some c) (Some d) = IsSameTask c d
HoldsSame before after = ⊥

-- A hart in user mode with a context, whose task has not executed more instructions than its fuel.
pub record IsUserState (tasks : List Task) (number : ℕ) (h : HartState) (c : ContextState) : Type 0 where
  pub sound : IsHartSound tasks number h
  pub user : IsUserCase tasks h c
  pub slot : c.slot < 8
  pub valid : IsValidTask (task_of c.body)
  pub within : c.body.count ≤ c.body.fuel

-- A ready context as the queue has it, and as it may be given.
pub record IsReadyContext (tasks : List Task) (c : ContextState) : Type 0 where
  pub ready : IsReadyCase tasks c
  pub slot : c.slot < 8
  pub valid : IsValidTask (task_of c.body)
  pub within : c.body.count ≤ c.body.fuel

-- the latches of a hart, and not the words of what it holds; and those of them that aren't registers
abbrev pub IsLatchPlace : Place → Type 0
IsLatchPlace (SlotWord i) = ⊥
IsLatchPlace (DataWord i) = ⊥
IsLatchPlace place = Unit {0}

abbrev pub IsOtherLatch : Place → Type 0
IsOtherLatch (Reg i) = ⊥
IsOtherLatch place = IsLatchPlace place

-- Where a save part begins: the step before was a trap or an interrupt in user mode, before which the task had executed n instructions.
-- An instruction that trapped has left its writes.
pub record IsTrapped (tasks : List Task) (number n : ℕ) (h : HartState) (c : ContextState) : Type 0 where
  pub user : HartState
  pub context : ContextState
  pub state : IsUserState tasks number user context
  pub count : context.body.count ≡ n
  pub probes : List Probe
  pub cause : ℕ
  pub step : user_step user ≡ Steps h probes (Trapped cause)
  pub held : h.held ≡ Some c

-- Where a restore part begins, at an address: with a ready context, whose slot's address is in x5 and mscratch, and with public latches.
pub record IsRestoring (tasks : List Task) (number at : ℕ) (h : HartState) (c : ContextState) : Type 0 where
  pub mode : h.csrs.mode ≡ Machine
  pub sound : IsHartSound tasks number h
  pub pc : h.pc ≡ at
  pub held : h.held ≡ Some c
  pub context : IsReadyContext tasks c
  pub x5 : hart_cell h (Reg 5) ≡ public (slot_address c.slot)
  pub scratch : h.csrs.mscratch ≡ public (slot_address c.slot)
  pub latches : (p : Place) → IsLatchPlace p → (hart_cell h p).tag ≡ Public

-- The CSRs are as before, but for mscratch; a tick has made the timer pending.
abbrev pub AreCsrsKept : List Bool → CsrFile → CsrFile → Type 0
AreCsrsKept ticks before after =
    after ≡ record before { mscratch = after.mscratch; is_timer_pending = before.is_timer_pending || has_tick ticks }

-- What a save part leaves of a hart with a context, whose task had executed n instructions: the slot's words 1 to 31 have the values of
-- the registers, and all else that is held is as before.
pub record HasSaved (n : ℕ) (ticks : List Bool) (before : HartState) (c : ContextState) (h : HartState) : Type 0 where
  pub held : h.held ≡ Some (record c { words = held_words h.held })
  pub words : length (held_words h.held) ≡ slot_len
  pub saved : (i : ℕ) → 1 ≤ i → i < 32 → (get_or (held_words h.held) i blank).value ≡ alone_value (task_of c.body) n (latches.Reg i)
  pub others : (i : ℕ) → (i ≡ 0) ⊎ (32 ≤ i) → get_or (held_words h.held) i blank ≡ slot_word c i
  pub x5 : (hart_cell h (Reg 5)).value ≡ slot_address c.slot
  pub scratch : h.csrs.mscratch.value ≡ slot_address c.slot
  pub zero : h.zero_word.value ≡ 0
  pub csrs : AreCsrsKept ticks before.csrs h.csrs

-- The words that it saved are the task's own, and nothing of the task is left in a latch.
pub record HasSavedTags (n : ℕ) (c : ContextState) (h : HartState) : Type 0 where
  pub saved : (i : ℕ) → 1 ≤ i → i < 32 → IsOwn c.body.task_no (task_of c.body) n (latches.Reg i) (get_or (held_words h.held) i blank)
  pub latches : (p : Place) → IsLatchPlace p → (hart_cell h p).tag ≡ Public

-- What a restore part leaves of a hart with a context: the registers have their values, and all that is held is as before.
pub record HasRestored (ticks : List Bool) (before : HartState) (c : ContextState) (h : HartState) : Type 0 where
  pub held : h.held ≡ Some c
  pub registers : (i : ℕ) → 1 ≤ i → i < 32 → (hart_cell h (Reg i)).value ≡ alone_value (task_of c.body) c.body.count (latches.Reg i)
  pub scratch : h.csrs.mscratch.value ≡ slot_address c.slot
  pub zero : h.zero_word.value ≡ 0
  pub csrs : AreCsrsKept ticks before.csrs h.csrs

-- The registers are the task's own, and the other latches are public.
pub record HasRestoredTags (c : ContextState) (h : HartState) : Type 0 where
  pub registers : (i : ℕ) → 1 ≤ i → i < 32 → IsOwn c.body.task_no (task_of c.body) c.body.count (latches.Reg i) (hart_cell h (Reg i))
  pub latches : (p : Place) → IsOtherLatch p → (hart_cell h p).tag ≡ Public

-- At each word of a part: the hart is sound, it holds the same task, and each entry so far is explained.
pub record IsPartSound (tasks : List Task) (number : ℕ) (c : ContextState) (a : HartAndProbes) : Type 0 where
  pub sound : IsHartSound tasks number a.hart
  pub holds : HoldsSame (Some c) a.hart.held
  pub explained : All (IsExplained tasks) a.probes

-- The first words of a code, so many, are done one by one by each hart that has trapped, and save its task's values;
abbrev pub SavesValues : List ℕ → ℕ → Type 0
SavesValues code words = (tasks : List Task) (number n : ℕ) (h : HartState) (c : ContextState) (ticks : List Bool) → IsTrapped tasks number n h c
    → length ticks ≡ words → ComesTo (λ a. HasSaved n ticks h c a.hart) (run_of_part code ticks h)

-- they leave the tags of a saved task, and at each word the hart is sound and each entry explained;
pub record SavesExplained (code : List ℕ) (words : ℕ) : Type 0 where
  pub sound : (tasks : List Task) (number n : ℕ) (h : HartState) (c : ContextState) (ticks : List Bool) → IsTrapped tasks number n h c
      → length ticks ≤ words → ComesTo (IsPartSound tasks number c) (run_of_part code ticks h)
  pub tags : (tasks : List Task) (number n : ℕ) (h : HartState) (c : ContextState) (ticks : List Bool) → IsTrapped tasks number n h c
      → length ticks ≡ words → ComesTo (λ a. HasSavedTags n c a.hart) (run_of_part code ticks h)

-- and from two harts that are alike, with the same ticks, the entries agree publicly up to each word, and the harts are alike at the end.
pub record SavesAlike (code : List ℕ) (words : ℕ) : Type 0 where
  pub probes : (tasks others : List Task) (number n m : ℕ) (h g : HartState) (c d : ContextState) (ticks : List Bool) → IsTrapped tasks number n h c
      → IsTrapped others number m g d → AreHartsAlike h g → length ticks ≤ words
      → BothCome (λ a b. AgreePublicly a.probes b.probes) (run_of_part code ticks h) (run_of_part code ticks g)
  pub harts : (tasks others : List Task) (number n m : ℕ) (h g : HartState) (c d : ContextState) (ticks : List Bool) → IsTrapped tasks number n h c
      → IsTrapped others number m g d → AreHartsAlike h g → length ticks ≡ words
      → BothCome (λ a b. AreHartsAlike a.hart b.hart) (run_of_part code ticks h) (run_of_part code ticks g)

-- So many words of a code from an address on restore the values of the task of each hart that is to restore one there;
abbrev pub RestoresValues : List ℕ → ℕ → ℕ → Type 0
RestoresValues code at words = (tasks : List Task) (number : ℕ) (h : HartState) (c : ContextState) (ticks : List Bool) → IsRestoring tasks number at h c
    → length ticks ≡ words → ComesTo (λ a. HasRestored ticks h c a.hart) (run_of_part code ticks h)

-- with the tags of a task in user mode, and the hart sound and each entry explained at each word;
pub record RestoresExplained (code : List ℕ) (at words : ℕ) : Type 0 where
  pub sound : (tasks : List Task) (number : ℕ) (h : HartState) (c : ContextState) (ticks : List Bool) → IsRestoring tasks number at h c
      → length ticks ≤ words → ComesTo (IsPartSound tasks number c) (run_of_part code ticks h)
  pub tags : (tasks : List Task) (number : ℕ) (h : HartState) (c : ContextState) (ticks : List Bool) → IsRestoring tasks number at h c
      → length ticks ≡ words → ComesTo (λ a. HasRestoredTags c a.hart) (run_of_part code ticks h)

-- and alike from two harts that are alike.
pub record RestoresAlike (code : List ℕ) (at words : ℕ) : Type 0 where
  pub probes : (tasks others : List Task) (number : ℕ) (h g : HartState) (c d : ContextState) (ticks : List Bool) → IsRestoring tasks number at h c
      → IsRestoring others number at g d → AreHartsAlike h g → length ticks ≤ words
      → BothCome (λ a b. AgreePublicly a.probes b.probes) (run_of_part code ticks h) (run_of_part code ticks g)
  pub harts : (tasks others : List Task) (number : ℕ) (h g : HartState) (c d : ContextState) (ticks : List Bool) → IsRestoring tasks number at h c
      → IsRestoring others number at g d → AreHartsAlike h g → length ticks ≡ words
      → BothCome (λ a b. AreHartsAlike a.hart b.hart) (run_of_part code ticks h) (run_of_part code ticks g)

-- how many words a part has at most, and how many words stand before a restore part at most
abbrev pub part_limit : ℕ
part_limit = 300

abbrev pub before_restore_limit : ℕ
before_restore_limit = part_limit + 113

-- Words that save a task, whatever code follows them.
pub record Saves (words : List ℕ) : Type 0 where
  pub values : (rest : List ℕ) → SavesValues (words ++ rest) (length words)
  pub explained : (rest : List ℕ) → SavesExplained (words ++ rest) (length words)
  pub alike : (rest : List ℕ) → SavesAlike (words ++ rest) (length words)

-- Words that restore a task, whatever code stands before and after them.
pub record Restores (words : List ℕ) : Type 0 where
  pub values : (front rest : List ℕ) → length front ≤ before_restore_limit
      → RestoresValues (front ++ (words ++ rest)) (kernel_address + 4 * length front) (length words)
  pub explained : (front rest : List ℕ) → length front ≤ before_restore_limit
      → RestoresExplained (front ++ (words ++ rest)) (kernel_address + 4 * length front) (length words)
  pub alike : (front rest : List ℕ) → length front ≤ before_restore_limit
      → RestoresAlike (front ++ (words ++ rest)) (kernel_address + 4 * length front) (length words)
