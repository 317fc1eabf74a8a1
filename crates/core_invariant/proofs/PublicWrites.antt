-- Writes of public cells to registers and latches of a hart in machine mode: nothing of a task comes into its latches, and their entries
-- are explained.
use Rattle.std.proofs.Common.{◌≡◌, ℕ, zero, suc, List, [], ◌∷◌, All, get_or, set, length-set, Option, refl, ◌∙◌}
use Rattle.std.specs.Bool.{⊤}
use Rattle.std.proofs.lemmas.List.Elements.{All-nil, All-cons}
use Rattle.isa_model.specs.declared.task.Task.{Task}
use Rattle.isa_model.specs.declared.latch.Latch.{Latch}
use Rattle.hart_model.specs.declared.place.Place.{Place}
use Rattle.hart_model.specs.declared.place.Place.TheVariants.{Reg, PortA, PortB, Res, Load, Store, Scr, Mul, Zero, SlotWord, DataWord}
use Rattle.hart_model.specs.declared.tag.Mode.{Mode}
use Rattle.hart_model.specs.declared.tag.Cell.{Cell}
use Rattle.hart_model.specs.declared.tag.Tag.TheVariants.{Public}
use Rattle.hart_model.specs.Cells.{blank, latch_of}
use Rattle.hart_model.specs.Context.{ContextState}
use Rattle.hart_model.specs.Probes.{probe_of}
use Rattle.hart_model.specs.HartState.{HartState, hart_cell, hart_with_cell, bases_of}
use Rattle.hart_model.specs.Writes.{CellWrite, HartAndProbes, probe_of_write, after_writes}
use Rattle.core_model.specs.Explained.{IsExplained}
use Rattle.core_model.specs.Routines.{IsLatchPlace}
use Rattle.core_invariant.specs.CutPoints.{HasPublicLatches}

-- a register or another latch, but for mscratch
abbrev pub IsPlain : Place → Type 0
IsPlain (Reg r) = ⊤
IsPlain PortA = ⊤
IsPlain PortB = ⊤
IsPlain Res = ⊤
IsPlain Load = ⊤
IsPlain Store = ⊤
IsPlain Mul = ⊤
IsPlain place = ⊥

pub record IsPublicWrite (w : CellWrite) : Type 0 where
  pub plain : IsPlain w.at
  pub tag : w.cell.tag ≡ Public

abbrev pub ArePublic : List CellWrite → Type 0
ArePublic [] = ⊤
ArePublic (w ∷ ws) = IsPublicWrite w × ArePublic ws

-- an entry between public cells is explained
pub public-explained : (tasks : List Task) (number pc : ℕ) (mode : Mode) (latch : Latch) (was now : Cell) → was.tag ≡ Public → now.tag ≡ Public
    → IsExplained tasks (probe_of number pc mode latch was now)
public-explained tasks number pc mode latch was now e f = rw (e, f) tt

-- a public cell among public cells
set-public : (regs : List Cell) (r q : ℕ) (x : Cell) → x.tag ≡ Public → (get_or regs q blank).tag ≡ Public → (get_or (set regs r x) q blank).tag ≡ Public
set-public [] r q x new old = old
set-public (c ∷ cs) zero zero x new old = new
set-public (c ∷ cs) zero (suc q) x new old = old
set-public (c ∷ cs) (suc r) zero x new old = old
set-public (c ∷ cs) (suc r) (suc q) x new old = set-public cs r q x new old

-- the latches after one write
latches-after : (h : HartState) (at : Place) (x : Cell) → IsPlain at → x.tag ≡ Public → ((p : Place) → IsLatchPlace p → (hart_cell h p).tag ≡ Public)
    → (p : Place) → IsLatchPlace p → (hart_cell (hart_with_cell h at x) p).tag ≡ Public
latches-after h (Reg r) x plain new old (Reg zero) l = refl
latches-after h (Reg r) x plain new old (Reg (suc q)) l = set-public h.regs r (suc q) x new (old (Reg (suc q)) l)
latches-after h (Reg r) x plain new old p l = old p l
latches-after h PortA x plain new old PortA l = new
latches-after h PortA x plain new old p l = old p l
latches-after h PortB x plain new old PortB l = new
latches-after h PortB x plain new old p l = old p l
latches-after h Res x plain new old Res l = new
latches-after h Res x plain new old p l = old p l
latches-after h Load x plain new old Load l = new
latches-after h Load x plain new old p l = old p l
latches-after h Store x plain new old Store l = new
latches-after h Store x plain new old p l = old p l
latches-after h Mul x plain new old Mul l = new
latches-after h Mul x plain new old p l = old p l
latches-after h Scr x plain new old p l = absurd plain
latches-after h Zero x plain new old p l = absurd plain
latches-after h (SlotWord i) x plain new old p l = absurd plain
latches-after h (DataWord i) x plain new old p l = absurd plain

-- and the rest of what is known
after-one : (tasks : List Task) (number at : ℕ) (h : HartState) (place : Place) (x : Cell) → IsPlain place → x.tag ≡ Public
    → HasPublicLatches tasks number at h → HasPublicLatches tasks number at (hart_with_cell h place x)
after-one tasks number at h (Reg r) x plain new old = record {
  mode = old.mode;
  csrs = old.csrs;
  pc = old.pc;
  registers = length-set h.regs r x ∙ old.registers;
  zero_word = old.zero_word;
  bound_registers = old.bound_registers;
  latches = latches-after h (Reg r) x plain new old.latches;
}
after-one tasks number at h PortA x plain new old = record {
  mode = old.mode;
  csrs = old.csrs;
  pc = old.pc;
  registers = old.registers;
  zero_word = old.zero_word;
  bound_registers = old.bound_registers;
  latches = latches-after h PortA x plain new old.latches;
}
after-one tasks number at h PortB x plain new old = record {
  mode = old.mode;
  csrs = old.csrs;
  pc = old.pc;
  registers = old.registers;
  zero_word = old.zero_word;
  bound_registers = old.bound_registers;
  latches = latches-after h PortB x plain new old.latches;
}
after-one tasks number at h Res x plain new old = record {
  mode = old.mode;
  csrs = old.csrs;
  pc = old.pc;
  registers = old.registers;
  zero_word = old.zero_word;
  bound_registers = old.bound_registers;
  latches = latches-after h Res x plain new old.latches;
}
after-one tasks number at h Load x plain new old = record {
  mode = old.mode;
  csrs = old.csrs;
  pc = old.pc;
  registers = old.registers;
  zero_word = old.zero_word;
  bound_registers = old.bound_registers;
  latches = latches-after h Load x plain new old.latches;
}
after-one tasks number at h Store x plain new old = record {
  mode = old.mode;
  csrs = old.csrs;
  pc = old.pc;
  registers = old.registers;
  zero_word = old.zero_word;
  bound_registers = old.bound_registers;
  latches = latches-after h Store x plain new old.latches;
}
after-one tasks number at h Mul x plain new old = record {
  mode = old.mode;
  csrs = old.csrs;
  pc = old.pc;
  registers = old.registers;
  zero_word = old.zero_word;
  bound_registers = old.bound_registers;
  latches = latches-after h Mul x plain new old.latches;
}
after-one tasks number at h Scr x plain new old = absurd plain
after-one tasks number at h Zero x plain new old = absurd plain
after-one tasks number at h (SlotWord i) x plain new old = absurd plain
after-one tasks number at h (DataWord i) x plain new old = absurd plain

-- plain places are latches, and what is held isn't among them
plain-latch : (place : Place) → IsPlain place → IsLatchPlace place
plain-latch (SlotWord i) plain = absurd plain
plain-latch (DataWord i) plain = absurd plain
plain-latch place plain = tt

held-after : (h : HartState) (place : Place) (x : Cell) → IsPlain place → (hart_with_cell h place x).held ≡ h.held
held-after h (SlotWord i) x plain = absurd plain
held-after h (DataWord i) x plain = absurd plain
held-after h place x plain = refl

-- A hart after public writes.
pub record PublicAfter (tasks : List Task) (number at : ℕ) (h : HartState) (a : HartAndProbes) : Type 0 where
  pub hart : HasPublicLatches tasks number at a.hart
  pub held : a.hart.held ≡ h.held
  pub explained : All (IsExplained tasks) a.probes

pub after-public : (tasks : List Task) (number at : ℕ) (ws : List CellWrite) (h : HartState) → ArePublic ws → HasPublicLatches tasks number at h
    → PublicAfter tasks number at h (after_writes ws h)
after-public tasks number at [] h p old = record { hart = old; held = refl; explained = All-nil _ }
after-public tasks number at (w ∷ ws) h p old =
    let more = after-public tasks number at ws (hart_with_cell h w.at w.cell) p.1 (after-one tasks number at h w.at w.cell p.0.plain p.0.tag old) in
    record {
      hart = more.hart;
      held = more.held ∙ held-after h w.at w.cell p.0.plain;
      explained = All-cons (IsExplained tasks) (probe_of_write h w) (after_writes ws (hart_with_cell h w.at w.cell)).probes
          (public-explained tasks h.csrs.hart h.pc h.csrs.mode (latch_of (bases_of h.held) w.at) (hart_cell h w.at) w.cell
          (old.latches w.at (plain-latch w.at p.0.plain)) p.0.tag)
          more.explained;
    }

-- the same latches at another address, whatever is held
latches-moved : (g : HartState) (next : ℕ) (got : Option ContextState) → ((p : Place) → IsLatchPlace p → (hart_cell g p).tag ≡ Public)
    → (p : Place) → IsLatchPlace p → (hart_cell (record g { pc = next; held = got }) p).tag ≡ Public
latches-moved g next got old (SlotWord i) l = absurd l
latches-moved g next got old (DataWord i) l = absurd l
latches-moved g next got old p l = old p l

pub moved : (tasks : List Task) (number at next : ℕ) (g : HartState) (got : Option ContextState) → HasPublicLatches tasks number at g
    → HasPublicLatches tasks number next (record g { pc = next; held = got })
moved tasks number at next g got old = record {
  mode = old.mode;
  csrs = old.csrs;
  pc = refl;
  registers = old.registers;
  zero_word = old.zero_word;
  bound_registers = old.bound_registers;
  latches = latches-moved g next got old.latches;
}
