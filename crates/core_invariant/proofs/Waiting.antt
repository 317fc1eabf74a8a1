-- Harts that hold nothing, or are about to give what they hold: they are sound, and a tick leaves them so.
use Rattle.std.proofs.Common.{◌≡◌, ℕ, zero, Bool, true, false, List, get_or, Option, refl, ap, sym, ◌∙◌, subst}
use Rattle.isa_model.specs.declared.task.Task.{Task}
use Rattle.hart_model.specs.declared.place.Place.{Place}
use Rattle.hart_model.specs.declared.place.Place.TheVariants.{Reg, SlotWord, DataWord}
use Rattle.hart_model.specs.declared.tag.Tag.TheVariants.{Public}
use Rattle.hart_model.specs.Cells.{blank}
use Rattle.hart_model.specs.Context.{ContextState}
use Rattle.hart_model.specs.HartState.{HartState, hart_cell, tick_of, held_words, held_data}
use Rattle.core_model.specs.Soundness.{IsHartSound, IsTruthful}
use Rattle.core_model.specs.Routines.{ticked_if}
use Rattle.symbolic_run.proofs.Ways.{csrs-tick}
use Rattle.symbolic_run.proofs.OneWrite.{public-truthful}
use Rattle.symbolic_run.proofs.PathSays.{not-user, not-none}
use Rattle.core_invariant.specs.CutPoints.{HasPublicLatches, IsEmptyHanded, IsGivingReady, IsGivingDone}

-- all cells of a hart that holds nothing are public
pub empty-public : (tasks : List Task) (number at : ℕ) (h : HartState) → IsEmptyHanded tasks number at h → (p : Place) → (hart_cell h p).tag ≡ Public
empty-public tasks number at h e (SlotWord i) =
    let P : Option ContextState → Type 0 = λ o. (get_or (held_words o) i blank).tag ≡ Public in subst P (sym e.held) refl
empty-public tasks number at h e (DataWord i) =
    let P : Option ContextState → Type 0 = λ o. (get_or (held_data o) i blank).tag ≡ Public in subst P (sym e.held) refl
empty-public tasks number at h e p = e.hart.latches p tt

pub empty-sound : (tasks : List Task) (number at : ℕ) (h : HartState) → IsEmptyHanded tasks number at h → IsHartSound tasks number h
empty-sound tasks number at h e = record {
  csrs = e.hart.csrs;
  registers = e.hart.registers;
  zero = e.hart.zero_word;
  truthful = λ p. public-truthful tasks (hart_cell h p).value (hart_cell h p).tag (empty-public tasks number at h e p);
  public_alone = λ none p. empty-public tasks number at h e p;
  user = λ user. absurd (not-user h.csrs.mode e.hart.mode user);
}

pub giving-ready-sound : (tasks : List Task) (number at : ℕ) (h : HartState) (c : ContextState) → IsGivingReady tasks number at h c → IsHartSound tasks number h
giving-ready-sound tasks number at h c g = record {
  csrs = g.hart.csrs;
  registers = g.hart.registers;
  zero = g.hart.zero_word;
  truthful = g.truthful;
  public_alone = λ none p. absurd (not-none h.held c g.held none);
  user = λ user. absurd (not-user h.csrs.mode g.hart.mode user);
}

pub giving-done-sound : (tasks : List Task) (number at : ℕ) (h : HartState) (c : ContextState) → IsGivingDone tasks number at h c → IsHartSound tasks number h
giving-done-sound tasks number at h c g = record {
  csrs = g.hart.csrs;
  registers = g.hart.registers;
  zero = g.hart.zero_word;
  truthful = g.truthful;
  public_alone = λ none p. absurd (not-none h.held c g.held none);
  user = λ user. absurd (not-user h.csrs.mode g.hart.mode user);
}

-- a tick changes no cell
pub cell-ticked : (h : HartState) (p : Place) → hart_cell (tick_of h) p ≡ hart_cell h p
cell-ticked h (Reg zero) = refl
cell-ticked h p = refl

pub latches-tick : (tasks : List Task) (number at : ℕ) (h : HartState) → HasPublicLatches tasks number at h → HasPublicLatches tasks number at (tick_of h)
latches-tick tasks number at h p = record {
  mode = p.mode;
  csrs = csrs-tick number h p.csrs;
  pc = p.pc;
  registers = p.registers;
  zero_word = p.zero_word;
  bound_registers = p.bound_registers;
  latches = λ place l. ap (λ c. c.tag) (cell-ticked h place) ∙ p.latches place l;
}

truthful-tick : (tasks : List Task) (h : HartState) → ((p : Place) → IsTruthful tasks (hart_cell h p)) → (p : Place)
    → IsTruthful tasks (hart_cell (tick_of h) p)
truthful-tick tasks h t p = subst (IsTruthful tasks) (sym (cell-ticked h p)) (t p)

pub empty-tick : (tasks : List Task) (number at : ℕ) (h : HartState) → IsEmptyHanded tasks number at h → IsEmptyHanded tasks number at (tick_of h)
empty-tick tasks number at h e = record { hart = latches-tick tasks number at h e.hart; held = e.held }

pub giving-ready-tick : (tasks : List Task) (number at : ℕ) (h : HartState) (c : ContextState) → IsGivingReady tasks number at h c
    → IsGivingReady tasks number at (tick_of h) c
giving-ready-tick tasks number at h c g = record {
  hart = latches-tick tasks number at h g.hart;
  held = g.held;
  truthful = truthful-tick tasks h g.truthful;
  given = g.given;
}

pub giving-done-tick : (tasks : List Task) (number at : ℕ) (h : HartState) (c : ContextState) → IsGivingDone tasks number at h c
    → IsGivingDone tasks number at (tick_of h) c
giving-done-tick tasks number at h c g = record {
  hart = latches-tick tasks number at h g.hart;
  held = g.held;
  truthful = truthful-tick tasks h g.truthful;
  given = g.given;
  x6 = g.x6;
}

pub empty-ticked : (tasks : List Task) (number at : ℕ) (ticked : Bool) (h : HartState) → IsEmptyHanded tasks number at h
    → IsEmptyHanded tasks number at (ticked_if ticked h)
empty-ticked tasks number at true h e = empty-tick tasks number at h e
empty-ticked tasks number at false h e = e
