-- A core of one hart and one task at boot is sound.
use Rattle.std.proofs.Common.{◌≡◌, ℕ, zero, suc, ◌<◌, ◌≤◌, inl, List, [], ◌∷◌, get_or, replicate, set, slice_get, is_some, Bool, true≢false, Option, Some, None, nat_lt, ◌==◌, if◌then◌else◌, refl, ap, sym, ◌∙◌, subst, arith}
use Rattle.std.proofs.lemmas.Bool.{ne_eqb, ltb-true, cond_both}
use Rattle.std.proofs.lemmas.List.{get_or-set_other, get_or-replicate}
use Rattle.std.proofs.lemmas.List.Elements.{All-nil, All-cons}
use Rattle.isa_model.specs.declared.latch.Latch.{Latch}
use Rattle.isa_model.specs.declared.latch.Latch.TheVariants as latches
use Rattle.isa_model.specs.Alone.{alone_at}
use Rattle.isa_model.specs.AloneValue.{alone_value}
use Rattle.hart_model.specs.declared.place.Place.{Place}
use Rattle.hart_model.specs.declared.place.Place.TheVariants.{Reg, PortA, PortB, Res, Load, Store, Scr, Mul, Zero, SlotWord, DataWord}
use Rattle.hart_model.specs.declared.tag.Cell.{Cell}
use Rattle.hart_model.specs.Cells.{blank}
use Rattle.hart_model.specs.Csrs.{public}
use Rattle.hart_model.specs.Context.{ContextState, StandsForTask, fresh_body, fresh_words, pc_word, bound_word, with_bound, admit_of, slot_word}
use Rattle.hart_model.specs.HartState.{HartState, boot_hart, hart_cell}
use Rattle.core_model.specs.KernelWords.{kernel_code}
use Rattle.core_model.specs.Core.{CoreState, boot_core}
use Rattle.core_model.specs.Soundness.{IsTruthful, IsOwn, IsBodyCase, HasBounds, IsReadyCase, IsHartSound, IsBoardSound, IsCoreSound, home_count, slot_count, entries_held, mstatus_in}
use Rattle.core_model.proofs.TryCore.{task}
use Rattle.core_model.proofs.TryOrders.{calm}

abbrev core : CoreState
core = boot_core calm kernel_code

abbrev hart : HartState
hart = boot_hart 0 kernel_code.take

abbrev context : ContextState
context = admit_of (fresh_body 0 task) 0 fresh_words

-- the words with the pc and the bounds before this one
abbrev words_before : ℕ → List Cell
words_before zero = set fresh_words pc_word (public task.code_at)
words_before (suc i) = with_bound task i (words_before i)

no_bound : (i j : ℕ) → j < 32 → get_or (words_before i) j blank ≡ get_or (words_before 0) j blank
no_bound zero j lt = refl
no_bound (suc i) j lt = get_or-set_other (words_before i) (bound_word i) j _ blank (omega arith) ∙ no_bound i j lt

register_blank : (i : ℕ) → 1 ≤ i → i < 32 → slot_word context i ≡ blank
register_blank i low high =
    no_bound 4 i high ∙ get_or-set_other fresh_words pc_word i _ blank (omega arith) ∙ get_or-replicate 36 i blank blank (omega arith)

zero_at_start : (l : Latch) (k : ℕ) → k ≤ 0 → alone_value task k l ≡ 0
unfolding alone_at
zero_at_start l zero le = refl
zero_at_start l (suc k) le = absurd (omega arith)

blank_is_own : (l : Latch) (cell : Cell) → cell ≡ blank → IsOwn 0 task 0 l cell
blank_is_own l cell is = inl (record {
  tag = ap (λ (c : Cell). c.tag) is;
  value = ap (λ (c : Cell). c.value) is;
  never = zero_at_start l;
})

body_case : IsBodyCase (task ∷ []) (fresh_body 0 task)
unfolding alone_at
body_case = record { is_task = refl; is_running = inl refl; output = refl; tape_at = refl; data_words = λ i lt. absurd (omega arith) }

has_bounds : HasBounds context
has_bounds zero lt = refl
has_bounds (suc zero) lt = refl
has_bounds (suc (suc zero)) lt = refl
has_bounds (suc (suc (suc zero))) lt = refl
has_bounds (suc (suc (suc (suc i)))) lt = absurd (omega arith)

stands : StandsForTask context task
unfolding alone_at
stands = record {
  task = refl;
  words = refl;
  pc = refl;
  registers = λ i low high. ap (λ (c : Cell). c.value) (register_blank i low high);
  bounds = λ i lt. ap (λ (c : Cell). c.value) (has_bounds i lt);
  data_words = λ i lt. absurd (omega arith);
  output = refl;
  tape_at = refl;
}

ready_case : IsReadyCase (task ∷ []) context
ready_case = record {
  stands = stands;
  body = body_case;
  no_end = refl;
  saved_pc = refl;
  saved_registers = λ i low high. blank_is_own (latches.Reg i) (slot_word context i) (register_blank i low high);
  bounds = has_bounds;
}

all_blank : (n i : ℕ) → get_or (replicate n blank) i blank ≡ blank
all_blank zero i = refl
all_blank (suc n) zero = refl
all_blank (suc n) (suc i) = all_blank n i

cell_blank : (p : Place) → hart_cell hart p ≡ blank
cell_blank (Reg zero) = refl
cell_blank (Reg (suc i)) = all_blank 32 (suc i)
cell_blank PortA = refl
cell_blank PortB = refl
cell_blank Res = refl
cell_blank Load = refl
cell_blank Store = refl
cell_blank Scr = refl
cell_blank Mul = refl
cell_blank Zero = refl
cell_blank (SlotWord i) = refl
cell_blank (DataWord i) = refl

hart_sound : IsHartSound (task ∷ []) 0 hart
hart_sound = record {
  csrs = record { hart = refl; timer = refl; fuel = refl; mtvec = refl; pmpcfg = refl; mstatus = refl };
  registers = refl;
  zero = refl;
  truthful = λ p. subst (IsTruthful (task ∷ [])) (sym (cell_blank p)) tt;
  public_alone = λ held p. ap (λ (c : Cell). c.tag) (cell_blank p);
  user = λ mode. absurd (omega (arith, ap mstatus_in mode));
}

abbrev bit : Bool → ℕ
bit b = if b then 1 else 0

other_slot : (n : ℕ) → bit (context.slot == suc n) ≡ 0
other_slot n = ap bit (ne_eqb 0 (suc n) (λ e. omega arith))

other_task : (n : ℕ) → bit (context.body.task_no == suc n) ≡ 0
other_task n = ap bit (ne_eqb 0 (suc n) (λ e. omega arith))

no_task : (n : ℕ) → bit (nat_lt (suc n) 1) ≡ 0
no_task n = cond_both (nat_lt (suc n) 1) 1 0 (λ x. x ≡ 0) (λ e. let lt = ltb-true (suc n) 1 e in absurd (omega arith)) (λ e. refl)

homes_beyond : (n : ℕ) → home_count core.board (suc n) ≡ 0
homes_beyond n = omega (arith, other_task n)

slots_beyond : (n : ℕ) → slot_count core.board (suc n) ≡ 0
slots_beyond n = omega (arith, other_slot n)

one_home : (task_no : ℕ) → home_count core.board task_no ≡ (if nat_lt task_no 1 then 1 else 0)
one_home zero = refl
one_home (suc n) = homes_beyond n ∙ sym (no_task n)

once : (slot : ℕ) → slot_count core.board slot ≤ 1
once zero = omega arith
once (suc n) = omega (arith, slots_beyond n)

board_sound : IsBoardSound (task ∷ []) 1 core.board
board_sound = record {
  homes = one_home;
  slot_once = once;
  ready_slots = All-cons (λ (c : ContextState). c.slot < 1) context [] (omega arith) (All-nil _);
  out_slots = All-nil _;
  waiting = All-nil _;
  ready = All-cons (IsReadyCase (task ∷ [])) context [] ready_case (All-nil _);
  ended = All-nil _;
}

-- the hart that there is, else this
abbrev hart_or : HartState → Option HartState → HartState
hart_or other None = other
hart_or other (Some h) = h

each_hart : (i : ℕ) (h : HartState) → slice_get core.harts i ≡ Some h → IsHartSound (task ∷ []) i h
each_hart zero h is = subst (IsHartSound (task ∷ []) 0) (ap (hart_or hart) is) hart_sound
each_hart (suc i) h is = absurd (true≢false (sym (ap is_some is)))

nothing_out : (i : ℕ) (h : HartState) → slice_get core.harts i ≡ Some h → [] ≡ entries_held i h.held
nothing_out zero h is = subst (λ (x : HartState). [] ≡ entries_held 0 x.held) (ap (hart_or hart) is) refl
nothing_out (suc i) h is = absurd (true≢false (sym (ap is_some is)))

sound : IsCoreSound calm core
sound = record {
  hart_count = refl;
  harts = each_hart;
  board = board_sound;
  out = nothing_out;
  out_exists = All-nil _;
  log = All-nil _;
}
