-- Where harts begin their ways: each such hart is sound, stays so at a tick, and is there at boot.
use Rattle.std.proofs.Common.{◌≡◌, ℕ, zero, suc, ◌+◌, ◌*◌, inl, inr, List, replicate, get_or, refl, sym, subst}
use Rattle.isa_model.specs.declared.task.Task.{Task}
use Rattle.hart_model.specs.declared.place.Place.{Place}
use Rattle.hart_model.specs.declared.place.Place.TheVariants.{Reg, SlotWord, DataWord}
use Rattle.hart_model.specs.declared.tag.Tag.TheVariants.{Public}
use Rattle.hart_model.specs.Cells.{blank}
use Rattle.hart_model.specs.Context.{ContextState}
use Rattle.hart_model.specs.HartState.{HartState, boot_hart, tick_of, hart_cell}
use Rattle.core_model.specs.Soundness.{IsHartSound}
use Rattle.symbolic_run.proofs.Ways.{user-tick, sound-tick, leads-tick, leads-first}
use Rattle.core_invariant.specs.KernelStates.{KernelParts, IsLinked, middle_at, idle_at, give_ready_index, give_done_index, take_index}
use Rattle.core_model.specs.Routines.{IsLatchPlace, IsUserState}
use Rattle.core_invariant.specs.CutPoints.{IsEmptyHanded, IsAtCutPoint, IsOnItsWay}
use Rattle.core_invariant.proofs.Waiting.{empty-sound, giving-ready-sound, giving-done-sound, empty-tick, giving-ready-tick, giving-done-tick}

pub user-state-tick : (tasks : List Task) (number : ℕ) (h : HartState) (c : ContextState) → IsUserState tasks number h c
    → IsUserState tasks number (tick_of h) c
user-state-tick tasks number h c u = record {
  sound = sound-tick tasks number h u.sound;
  user = user-tick tasks h c u.user;
  slot = u.slot;
  valid = u.valid;
  within = u.within;
}

pub start-sound : (tasks : List Task) (k : KernelParts) (number : ℕ) (h : HartState) → IsAtCutPoint tasks k number h → IsHartSound tasks number h
start-sound tasks k number h (inl user) = user.1.sound
start-sound tasks k number h (inr (inl ready)) = giving-ready-sound tasks number (middle_at k + 4 * give_ready_index) h ready.0 ready.1
start-sound tasks k number h (inr (inr (inl ended))) = giving-done-sound tasks number (middle_at k + 4 * give_done_index) h ended.0 ended.1
start-sound tasks k number h (inr (inr (inr (inl takes)))) = empty-sound tasks number (middle_at k + 4 * take_index) h takes
start-sound tasks k number h (inr (inr (inr (inr idles)))) = empty-sound tasks number (idle_at k) h idles

pub start-tick : (tasks : List Task) (k : KernelParts) (number : ℕ) (h : HartState) → IsAtCutPoint tasks k number h → IsAtCutPoint tasks k number (tick_of h)
start-tick tasks k number h (inl user) = inl (user.0, user-state-tick tasks number h user.0 user.1)
start-tick tasks k number h (inr (inl ready)) = inr (inl (ready.0, giving-ready-tick tasks number (middle_at k + 4 * give_ready_index) h ready.0 ready.1))
start-tick tasks k number h (inr (inr (inl ended))) =
    inr (inr (inl (ended.0, giving-done-tick tasks number (middle_at k + 4 * give_done_index) h ended.0 ended.1)))
start-tick tasks k number h (inr (inr (inr (inl takes)))) = inr (inr (inr (inl (empty-tick tasks number (middle_at k + 4 * take_index) h takes))))
start-tick tasks k number h (inr (inr (inr (inr idles)))) = inr (inr (inr (inr (empty-tick tasks number (idle_at k) h idles))))

-- and so is and stays a hart on its way
pub way-sound : (tasks : List Task) (k : KernelParts) (number : ℕ) (h : HartState) → IsOnItsWay tasks k number h → IsHartSound tasks number h
way-sound tasks k number h way =
    elim (leads-first tasks k.code.words number way.0 (IsAtCutPoint tasks k number) h way.1) [
      | inl there ↦ start-sound tasks k number h there
      | inr steps ↦ steps.0
    ]

pub way-tick : (tasks : List Task) (k : KernelParts) (number : ℕ) (h : HartState) → IsOnItsWay tasks k number h → IsOnItsWay tasks k number (tick_of h)
way-tick tasks k number h way =
    (way.0, leads-tick tasks k.code.words number way.0 (IsAtCutPoint tasks k number) h (λ g there. start-tick tasks k number g there) way.1)

-- registers at boot
boot-register : (n i : ℕ) → (get_or (replicate n blank) i blank).tag ≡ Public
boot-register zero i = refl
boot-register (suc n) zero = refl
boot-register (suc n) (suc i) = boot-register n i

boot-latches : (number at : ℕ) (p : Place) → IsLatchPlace p → (hart_cell (boot_hart number at) p).tag ≡ Public
boot-latches number at (Reg zero) l = refl
boot-latches number at (Reg (suc i)) l = boot-register 32 (suc i)
boot-latches number at (SlotWord i) l = absurd l
boot-latches number at (DataWord i) l = absurd l
boot-latches number at p l = refl

-- a hart at boot holds nothing, and is at the take
pub boot-empty : (tasks : List Task) (number at : ℕ) → IsEmptyHanded tasks number at (boot_hart number at)
boot-empty tasks number at = record {
  hart = record {
    mode = refl;
    csrs = record { hart = refl; timer = refl; fuel = refl; mtvec = refl; pmpcfg = refl; mstatus = refl };
    pc = refl;
    registers = refl;
    zero_word = refl;
    bound_registers = refl;
    latches = boot-latches number at;
  };
  held = refl;
}

pub boots : (k : KernelParts) (linked : IsLinked k) (tasks : List Task) (number : ℕ) → IsOnItsWay tasks k number (boot_hart number k.code.take)
boots k linked tasks number =
    let P : ℕ → Type 0 = λ at. IsOnItsWay tasks k number (boot_hart number at) in
    subst P (sym linked.take) (0, inr (inr (inr (inl (boot-empty tasks number (middle_at k + 4 * take_index))))))
