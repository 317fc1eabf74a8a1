-- A hart that took a context: how it stands, in the words of a path.
use Rattle.std.proofs.Common.{◌≡◌, ℕ, zero, suc, ◌+◌, ◌*◌, ◌<◌, ◌≤◌, ◌⊎◌, inl, inr, true, false, List, [], ◌∷◌, ◌++◌, replicate, length, get_or, Option, Some, refl, ap, sym, ◌∙◌, subst, arith}
use Rattle.std.specs.Prelude.{leb}
use Rattle.std.proofs.lemmas.List.{get_or_past}
use Rattle.std.proofs.lemmas.Bool.Decides.{leb_tells}
use Rattle.isa_model.specs.declared.task.Task.{Task}
use Rattle.isa_model.specs.declared.latch.Latch.TheVariants as latches
use Rattle.isa_model.specs.Alone.{alone_at}
use Rattle.hart_model.specs.declared.place.Place.{Place}
use Rattle.hart_model.specs.declared.place.Place.TheVariants.{Reg, PortA, PortB, Res, Load, Store, Scr, Mul}
use Rattle.hart_model.specs.declared.tag.Cell.{Cell}
use Rattle.hart_model.specs.declared.tag.Tag.TheVariants.{Public}
use Rattle.hart_model.specs.Cells.{blank}
use Rattle.hart_model.specs.Csrs.{CsrFile, public}
use Rattle.hart_model.specs.Pmp.{bounds_of}
use Rattle.hart_model.specs.Context.{ContextState, BodyState, slot_word, data_word, task_of, slot_address}
use Rattle.hart_model.specs.HartState.{HartState, hart_cell, held_words}
use Rattle.core_model.specs.Soundness.{IsTruthful, IsBodyCase}
use Rattle.symbolic_run.specs.AbstractCell.{AbstractCell, SlotAddress, PublicAny, PublicNumber, TaskReg, AbstractState}
use Rattle.symbolic_run.specs.Concretization.{Valuation, IsSound, AllDenote, RegsDenote}
use Rattle.symbolic_run.specs.SymbolicPath.{PathState, IsAsPathSays}
use Rattle.symbolic_run.proofs.OneWrite.{own-truthful}
use Rattle.symbolic_run.proofs.Denoted.{denote-next, denote-end, denote-repeated, denote-registers}
use Rattle.core_invariant.specs.KernelStates.{KernelParts, middle_at, take_index}
use Rattle.core_invariant.proofs.KernelCells.{numbered, kernel_regs, bound_cells, saved_cells}
use Rattle.core_model.specs.Routines.{IsReadyContext, IsLatchPlace}
use Rattle.core_invariant.specs.CutPoints.{HasPublicLatches}
use Rattle.core_invariant.proofs.Numbered.{denote-numbered}

-- the task of a context, with the words of its slot as its registers
abbrev pub taken_setting : List Task → ContextState → Valuation
taken_setting tasks c = record {
  tasks = tasks;
  task_no = c.body.task_no;
  task = task_of c.body;
  count = c.body.count;
  slot = c.slot;
  task_regs = slot_word c;
  old_words = slot_word c;
  given_cell = blank;
}

pub taken-setting-sound : (tasks : List Task) (c : ContextState) → IsReadyContext tasks c → IsSound (taken_setting tasks c)
taken-setting-sound tasks c r = record {
  slot = r.slot;
  is_task = r.ready.body.is_task;
  regs = r.ready.saved_registers;
  words = λ i low high. own-truthful tasks c.body.task_no (task_of c.body) c.body.count (latches.Reg i) (slot_word c i)
      r.ready.body.is_task (r.ready.saved_registers i low high);
  given_cell = tt;
}

-- a public cell of a known number
pub public-is : (c : Cell) (value : ℕ) → c.value ≡ value → c.tag ≡ Public → c ≡ public value
public-is c value e f = λ i. record { value = e i; tag = f i }

-- the pc of the task of a context
abbrev pub pc_of : ContextState → ℕ
pc_of c = (alone_at (task_of c.body) c.body.count).pc

-- what is known then: all latches are public, x5 is the slot's address, and the task stands in the slot
abbrev pub taken_cells : Valuation → ℕ → AbstractState
taken_cells s pc = record (saved_cells s (PublicNumber pc)) { scr = PublicAny }

abbrev pub taken_state : Valuation → CsrFile → ContextState → PathState
taken_state s csrs c = record { cells = taken_cells s (pc_of c); index = take_index + 1; csrs = csrs; held = c }

-- the data words of a body say the truth, and there are none past the end
pub data-truthful : (tasks : List Task) (b : BodyState) → IsBodyCase tasks b → (i : ℕ) → IsTruthful tasks (data_word b i)
data-truthful tasks b body i = go (leb_tells (length b.data_words) i)
  where
    go : ((leb (length b.data_words) i ≡ true) × (length b.data_words ≤ i))
        ⊎ ((leb (length b.data_words) i ≡ false) × (i < length b.data_words))
        → IsTruthful tasks (data_word b i)
    go (inl past) = subst (IsTruthful tasks) (sym (get_or_past b.data_words i blank past.1)) tt
    go (inr low) = own-truthful tasks b.task_no (task_of b) b.count (latches.Mem (b.data_at + 4 * i)) (data_word b i) body.is_task (body.data_words i low.1)

-- registers that are public, x5 being the slot's address
pub kernel-regs-stand : (s : Valuation) (regs : List Cell) → length regs ≡ 32 → ((i : ℕ) → 1 ≤ i → (get_or regs i blank).tag ≡ Public)
    → get_or regs 5 blank ≡ public (slot_address s.slot) → RegsDenote s kernel_regs regs
kernel-regs-stand s regs len each x5 =
    denote-registers s PublicAny (replicate 4 PublicAny ++ SlotAddress ∷ replicate 26 PublicAny) regs (omega (arith, len))
    (denote-repeated s PublicAny 1 4 (SlotAddress ∷ replicate 26 PublicAny) regs (omega (arith, len)) (λ j low high. each j low)
    (denote-next s SlotAddress (replicate 26 PublicAny) regs 5 (omega (arith, len)) x5
    (denote-repeated s PublicAny 6 26 [] regs (omega (arith, len)) (λ j low high. each j (omega arith)) (denote-end s regs 32 (omega (arith, len))))))

module _ (tasks : List Task) (c : ContextState) (r : IsReadyContext tasks c) where
  -- the registers
  regs-stand : (regs : List Cell) → length regs ≡ 32 → ((i : ℕ) → 1 ≤ i → (get_or regs i blank).tag ≡ Public)
      → get_or regs 5 blank ≡ public (slot_address c.slot)
      → RegsDenote (taken_setting tasks c) kernel_regs regs
  regs-stand regs len each x5 = kernel-regs-stand (taken_setting tasks c) regs len each x5

  -- the words of the slot
  abbrev words_known : List AbstractCell
  words_known = PublicNumber (pc_of c) ∷ numbered TaskReg 1 31 ++ bound_cells (task_of c.body)

  pub words-stand : AllDenote (taken_setting tasks c) words_known c.words
  words-stand =
      let t = taken_setting tasks c in
      let T = task_of c.body in
      let len : length c.words ≡ 36 = r.ready.stands.words in
      let b : ℕ → AbstractCell = λ i. PublicNumber (get_or (bounds_of T) i 0) in
      denote-next t (PublicNumber (pc_of c)) (numbered TaskReg 1 31 ++ bound_cells T) c.words 0 (omega (arith, len))
      (public-is (slot_word c 0) (pc_of c) r.ready.stands.pc r.ready.saved_pc)
      (denote-numbered t TaskReg 1 31 (bound_cells T) c.words (omega (arith, len)) (λ j low high. (low, high, refl))
      (denote-next t (b 0) (b 1 ∷ b 2 ∷ b 3 ∷ []) c.words 32 (omega (arith, len)) (r.ready.bounds 0 (omega arith))
      (denote-next t (b 1) (b 2 ∷ b 3 ∷ []) c.words 33 (omega (arith, len)) (r.ready.bounds 1 (omega arith))
      (denote-next t (b 2) (b 3 ∷ []) c.words 34 (omega (arith, len)) (r.ready.bounds 2 (omega arith))
      (denote-next t (b 3) [] c.words 35 (omega (arith, len)) (r.ready.bounds 3 (omega arith))
      (denote-end t c.words 36 (omega (arith, len))))))))

  -- so a hart stands that has public latches, x5 apart, and the context
  pub taken-stands : (k : KernelParts) (number : ℕ) (h : HartState) → HasPublicLatches tasks number (middle_at k + 4 * (take_index + 1)) h → h.held ≡ Some c
      → hart_cell h (Reg 5) ≡ public (slot_address c.slot)
      → IsAsPathSays (taken_setting tasks c) number (middle_at k) (taken_state (taken_setting tasks c) h.csrs c) h
  taken-stands k number h p held x5 = record {
    mode = p.mode;
    csrs = refl;
    csrs_sound = p.csrs;
    pc = p.pc;
    held = held ∙ ap (λ (o : Option ContextState). Some (record c { words = held_words o })) (sym held);
    slot = refl;
    cells = record {
      regs = regs-stand h.regs p.registers (register-public h p.latches) x5;
      port_a = p.latches PortA tt;
      port_b = p.latches PortB tt;
      res = p.latches Res tt;
      load = p.latches Load tt;
      store = p.latches Store tt;
      scr = p.latches Scr tt;
      mul = p.latches Mul tt;
      zero = p.zero_word;
      slot = subst (λ (o : Option ContextState). AllDenote (taken_setting tasks c) words_known (held_words o)) (sym held) words-stand;
      no_data = refl;
    };
    registers = p.registers;
    zero_word = p.zero_word;
    data_words = data-truthful tasks c.body r.ready.body;
  }
    where
      register-public : (h : HartState) → ((place : Place) → IsLatchPlace place → (hart_cell h place).tag ≡ Public) → (i : ℕ) → 1 ≤ i
          → (get_or h.regs i blank).tag ≡ Public
      register-public h each zero low = absurd (omega arith)
      register-public h each (suc i) low = each (Reg (suc i)) tt
