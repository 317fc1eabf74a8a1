-- From a trap through the save part and along a path of the middle to its end, and what is so of the hart there.
use Rattle.std.proofs.Common.{◌≡◌, ℕ, refl, ◌+◌, ◌*◌, Bool, List, length, get_or, Some, sym, ap, subst, ◌∙◌}
use Rattle.isa_model.specs.declared.task.Task.{Task}
use Rattle.hart_model.specs.declared.place.Place.{Place}
use Rattle.hart_model.specs.declared.tag.Cell.{Cell}
use Rattle.hart_model.specs.Cells.{blank}
use Rattle.hart_model.specs.Csrs.{CsrFile}
use Rattle.hart_model.specs.Context.{ContextState}
use Rattle.hart_model.specs.HartState.{HartState, hart_cell, held_words}
use Rattle.core_model.specs.Soundness.{IsTruthful}
use Rattle.symbolic_run.specs.AbstractCell.{AbstractCell, AnyTagged}
use Rattle.symbolic_run.specs.Concretization.{Valuation, IsSound, Denotes}
use Rattle.symbolic_run.specs.SymbolicPath.{PathCondition, AreSo, IsAsPathSays}
use Rattle.symbolic_run.specs.Ways.{Leads}
use Rattle.symbolic_run.specs.Laws.{PathsLead}
use Rattle.core_invariant.specs.KernelStates.{KernelParts, IsKernel, middle_len, middle_at}
use Rattle.core_invariant.specs.CutPoints.{IsAtTrap, HasPublicLatches}
use Rattle.core_invariant.proofs.Trapped.{trapped_setting, trap-setting-sound, AreOwn}
use Rattle.core_invariant.proofs.Saved.{EndsThere, trap-leads}
use Rattle.core_invariant.proofs.PathStates.{has-public-latches, slot-denoted, slot-len, path-truthful}
use Rattle.core_invariant.proofs.ReadyPaths.{PathEnds}

-- what is so of a hart at the end of a path with these words of the slot and this context
pub record EndSays (s : Valuation) (number at : ℕ) (slot : List AbstractCell) (after : ContextState) (g : HartState) : Type 0 where
  pub hart : HasPublicLatches s.tasks number at g
  pub held : g.held ≡ Some (record after { words = held_words g.held })
  pub truthful : (p : Place) → IsTruthful s.tasks (hart_cell g p)
  pub words : length (held_words g.held) ≡ length slot
  pub denoted : (i : ℕ) → Denotes s (get_or slot i AnyTagged) (get_or (held_words g.held) i blank)

-- a hart at the end of a path is so
pub end-says : (s : Valuation) (number base idle : ℕ) (csrs : CsrFile) (held : ContextState)
    (answers : List Bool) (index : ℕ) (slot : List AbstractCell) (after : ContextState) (conditions : List PathCondition)
    → IsSound s → length csrs.pmp.addrs ≡ 4 → (e : PathEnds s idle csrs held answers index slot after conditions) → (g : HartState)
    → IsAsPathSays s number base e.path.end g
    → EndSays s number (base + 4 * index) slot after g
end-says s number base idle csrs held answers index slot after conditions sound four e g says =
    let AtIndex : ℕ → Type 0 = λ i. HasPublicLatches s.tasks number (base + 4 * i) g in
    let Four : CsrFile → Type 0 = λ x. length x.pmp.addrs ≡ 4 in
    let Held : ContextState → Type 0 = λ d. g.held ≡ Some (record d { words = held_words g.held }) in
    let Words : List AbstractCell → Type 0 = λ cells. (i : ℕ) → Denotes s (get_or cells i AnyTagged) (get_or (held_words g.held) i blank) in
    record {
      hart = subst AtIndex e.index_is (has-public-latches says (subst Four (sym e.csrs_is) four) e.latches);
      held = subst Held e.held_is says.held;
      truthful = path-truthful says sound;
      words = slot-len says ∙ ap length e.slot_is;
      denoted = subst Words e.slot_is (slot-denoted says);
    }

-- A path of the middle from a saved task, by these answers, with the slot's words and the context at its end, which has the end of the one
-- before: all is so that it asks, and each hart of which its end says so stands there.
pub record EndsSo (s : Valuation) (number : ℕ) (k : KernelParts) (csrs : CsrFile) (c : ContextState) (answers : List Bool) (index : ℕ)
    (There : HartState → Type 0) : Type 0 where
  pub slot : List AbstractCell
  pub after : ContextState
  pub conditions : List PathCondition
  pub ends : PathEnds s (middle_len + k.restore + 1) csrs c answers index slot after conditions
  pub so : AreSo conditions
  pub end_kept : after.end ≡ c.end
  pub there : (g : HartState) → EndSays s number (middle_at k + 4 * index) slot after g → There g

-- such a path is one from the saved task to where it ends
abbrev pub one-end : {tasks : List Task} {number n cause : ℕ} {h : HartState} {c : ContextState} (trap : IsAtTrap tasks number n cause h c) (given_cell : Cell)
    (truthful : IsTruthful tasks given_cell) (k : KernelParts) (answers : List Bool) (index : ℕ) (There : HartState → Type 0)
    (regs : ℕ → Cell) → AreOwn n c regs → EndsSo (trapped_setting tasks n regs c given_cell) number k h.csrs c answers index There
    → EndsThere trap given_cell truthful regs k h.csrs c answers There
one-end {tasks = tasks} {number = number} {n = n} {h = h} {c = c} trap given_cell truthful k answers index There regs own e =
    let So : List PathCondition → Type 0 = λ qs. AreSo qs in
    record {
      path = e.ends.path;
      is_path = e.ends.is_path;
      so = subst So (sym e.ends.asked_is) e.so;
      there = λ g says. e.there g
          (end-says (trapped_setting tasks n regs c given_cell) number (middle_at k) (middle_len + k.restore + 1) h.csrs c answers index e.slot e.after e.conditions
          (trap-setting-sound trap given_cell truthful regs own) trap.bound_registers e.ends g says);
    }

module _ (k : KernelParts) (kernel : IsKernel k) (paths-lead : PathsLead) where
  -- A trapped task is led there by such paths.
  pub trap-ends : (tasks : List Task) (number n cause : ℕ) (h : HartState) (c : ContextState) (given_cell : Cell) → IsAtTrap tasks number n cause h c
      → IsTruthful tasks given_cell → (answers : List Bool) (index : ℕ) (There : HartState → Type 0)
      → ((regs : ℕ → Cell) → AreOwn n c regs → EndsSo (trapped_setting tasks n regs c given_cell) number k h.csrs c answers index There)
      → Leads tasks k.code.words number (k.save + length answers) There h
  trap-ends tasks number n cause h c given_cell trap tape_truthful answers index There ends =
      trap-leads trap given_cell tape_truthful k kernel paths-lead h.csrs c refl refl answers There
      (λ regs own. one-end trap given_cell tape_truthful k answers index There regs own (ends regs own))
