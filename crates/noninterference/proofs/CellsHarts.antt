-- Harts that are alike: the cell of every place is, places stand at one address, and a change of one place on both leaves them alike.
use Rattle.std.proofs.Common.{◌≡◌, ℕ, zero, suc, get_or, Option, Some, None, refl, ap}
use Rattle.hart_model.specs.declared.place.Place.{Place}
use Rattle.hart_model.specs.declared.place.Place.TheVariants.{Reg, PortA, PortB, Res, Load, Store, Scr, Mul, Zero, SlotWord, DataWord}
use Rattle.hart_model.specs.declared.tag.Cell.{Cell}
use Rattle.hart_model.specs.Cells.{blank, Bases}
use Rattle.hart_model.specs.Csrs.{CsrFile}
use Rattle.hart_model.specs.Context.{ContextState}
use Rattle.hart_model.specs.HartState.{HartState, bases_of, held_words, held_data, hart_cell, hart_with_cell, held_with_word, held_with_data}
use Rattle.hart_model.specs.MachineStep.{machine_bases}
use Rattle.core_model.specs.AlikeHarts.{AreCellsAlike, AreHeldAlike, AreCsrsAlike, AreHartsAlike}
use Rattle.noninterference.proofs.CellsAlike.{cell-refl, get-alike, set-alike, length-alike}

-- the words of what is held on both
words-alike : (x y : Option ContextState) (i : ℕ) → AreHeldAlike x y → AreCellsAlike (get_or (held_words x) i blank) (get_or (held_words y) i blank)
words-alike None None i a = cell-refl blank
words-alike None (Some d) i a = absurd a
words-alike (Some c) None i a = absurd a
words-alike (Some c) (Some d) i a = get-alike c.words d.words i a.words

data-alike : (x y : Option ContextState) (i : ℕ) → AreHeldAlike x y → AreCellsAlike (get_or (held_data x) i blank) (get_or (held_data y) i blank)
data-alike None None i a = cell-refl blank
data-alike None (Some d) i a = absurd a
data-alike (Some c) None i a = absurd a
data-alike (Some c) (Some d) i a = get-alike c.body.data_words d.body.data_words i a.body.data_words

-- the cell of every place is alike
pub cell-alike : (h g : HartState) (p : Place) → AreHartsAlike h g → AreCellsAlike (hart_cell h p) (hart_cell g p)
cell-alike h g (Reg zero) a = cell-refl blank
cell-alike h g (Reg (suc r)) a = get-alike h.regs g.regs (suc r) a.regs
cell-alike h g PortA a = a.port_a
cell-alike h g PortB a = a.port_b
cell-alike h g Res a = a.res
cell-alike h g Load a = a.load
cell-alike h g Store a = a.store
cell-alike h g Scr a = a.csrs.scratch
cell-alike h g Mul a = a.mul
cell-alike h g Zero a = a.zero_word
cell-alike h g (SlotWord i) a = words-alike h.held g.held i a.held
cell-alike h g (DataWord i) a = data-alike h.held g.held i a.held

-- the words of what is held stand at one address, and are as many
pub bases-alike : (x y : Option ContextState) → AreHeldAlike x y → bases_of x ≡ bases_of y
bases-alike None None a = refl
bases-alike None (Some d) a = absurd a
bases-alike (Some c) None a = absurd a
bases-alike (Some c) (Some d) a =
    let slot = a.slot in
    let data_at = a.body.data_at in
    let data_len = length-alike c.body.data_words d.body.data_words a.body.data_words in
    rw (slot, data_at, data_len) refl

pub machine-bases-alike : (x y : Option ContextState) → AreHeldAlike x y → machine_bases x ≡ machine_bases y
machine-bases-alike x y a = ap (λ (b : Bases). record b { data_at = 0; data_len = 0 }) (bases-alike x y a)

-- a change of one word of what is held
with-word-alike : (x y : Option ContextState) (i : ℕ) (c d : Cell) → AreHeldAlike x y → AreCellsAlike c d
    → AreHeldAlike (held_with_word i c x) (held_with_word i d y)
with-word-alike None None i c d a s = tt
with-word-alike None (Some y) i c d a s = absurd a
with-word-alike (Some x) None i c d a s = absurd a
with-word-alike (Some x) (Some y) i c d a s = record { body = a.body; slot = a.slot; words = set-alike x.words y.words i c d a.words s; end = a.end }

with-data-alike : (x y : Option ContextState) (i : ℕ) (c d : Cell) → AreHeldAlike x y → AreCellsAlike c d
    → AreHeldAlike (held_with_data i c x) (held_with_data i d y)
with-data-alike None None i c d a s = tt
with-data-alike None (Some y) i c d a s = absurd a
with-data-alike (Some x) None i c d a s = absurd a
with-data-alike (Some x) (Some y) i c d a s = record {
  body = record {
    task_no = a.body.task_no;
    code_at = a.body.code_at;
    data_at = a.body.data_at;
    code = a.body.code;
    data_words = set-alike x.body.data_words y.body.data_words i c d a.body.data_words s;
    tape = a.body.tape;
    tape_at = a.body.tape_at;
    output = a.body.output;
    out_max = a.body.out_max;
    fuel = a.body.fuel;
    count = a.body.count;
  };
  slot = a.slot;
  words = a.words;
  end = a.end;
}

-- the same CSR files, with other cells in mscratch that are alike
pub scratch-alike : (a b : CsrFile) (c d : Cell) → AreCsrsAlike a b → AreCellsAlike c d → AreCsrsAlike (record a { mscratch = c }) (record b { mscratch = d })
scratch-alike a b c d e s = record { scratch = s; others = ap (λ (f : CsrFile). record f { mscratch = d }) e.others }

module _ (h g : HartState) (c d : Cell) (a : AreHartsAlike h g) (s : AreCellsAlike c d) where
  -- a change of one place on both
  pub with-cell-alike : (p : Place) → AreHartsAlike (hart_with_cell h p c) (hart_with_cell g p d)
  with-cell-alike (Reg r) = record {
    regs = set-alike h.regs g.regs r c d a.regs s;
    port_a = a.port_a;
    port_b = a.port_b;
    res = a.res;
    load = a.load;
    store = a.store;
    mul = a.mul;
    zero_word = a.zero_word;
    csrs = a.csrs;
    pc = a.pc;
    held = a.held;
  }
  with-cell-alike PortA = record {
    regs = a.regs;
    port_a = s;
    port_b = a.port_b;
    res = a.res;
    load = a.load;
    store = a.store;
    mul = a.mul;
    zero_word = a.zero_word;
    csrs = a.csrs;
    pc = a.pc;
    held = a.held;
  }
  with-cell-alike PortB = record {
    regs = a.regs;
    port_a = a.port_a;
    port_b = s;
    res = a.res;
    load = a.load;
    store = a.store;
    mul = a.mul;
    zero_word = a.zero_word;
    csrs = a.csrs;
    pc = a.pc;
    held = a.held;
  }
  with-cell-alike Res = record {
    regs = a.regs;
    port_a = a.port_a;
    port_b = a.port_b;
    res = s;
    load = a.load;
    store = a.store;
    mul = a.mul;
    zero_word = a.zero_word;
    csrs = a.csrs;
    pc = a.pc;
    held = a.held;
  }
  with-cell-alike Load = record {
    regs = a.regs;
    port_a = a.port_a;
    port_b = a.port_b;
    res = a.res;
    load = s;
    store = a.store;
    mul = a.mul;
    zero_word = a.zero_word;
    csrs = a.csrs;
    pc = a.pc;
    held = a.held;
  }
  with-cell-alike Store = record {
    regs = a.regs;
    port_a = a.port_a;
    port_b = a.port_b;
    res = a.res;
    load = a.load;
    store = s;
    mul = a.mul;
    zero_word = a.zero_word;
    csrs = a.csrs;
    pc = a.pc;
    held = a.held;
  }
  with-cell-alike Scr = record {
    regs = a.regs;
    port_a = a.port_a;
    port_b = a.port_b;
    res = a.res;
    load = a.load;
    store = a.store;
    mul = a.mul;
    zero_word = a.zero_word;
    csrs = scratch-alike h.csrs g.csrs c d a.csrs s;
    pc = a.pc;
    held = a.held;
  }
  with-cell-alike Mul = record {
    regs = a.regs;
    port_a = a.port_a;
    port_b = a.port_b;
    res = a.res;
    load = a.load;
    store = a.store;
    mul = s;
    zero_word = a.zero_word;
    csrs = a.csrs;
    pc = a.pc;
    held = a.held;
  }
  with-cell-alike Zero = record {
    regs = a.regs;
    port_a = a.port_a;
    port_b = a.port_b;
    res = a.res;
    load = a.load;
    store = a.store;
    mul = a.mul;
    zero_word = s;
    csrs = a.csrs;
    pc = a.pc;
    held = a.held;
  }
  with-cell-alike (SlotWord i) = record {
    regs = a.regs;
    port_a = a.port_a;
    port_b = a.port_b;
    res = a.res;
    load = a.load;
    store = a.store;
    mul = a.mul;
    zero_word = a.zero_word;
    csrs = a.csrs;
    pc = a.pc;
    held = with-word-alike h.held g.held i c d a.held s;
  }
  with-cell-alike (DataWord i) = record {
    regs = a.regs;
    port_a = a.port_a;
    port_b = a.port_b;
    res = a.res;
    load = a.load;
    store = a.store;
    mul = a.mul;
    zero_word = a.zero_word;
    csrs = a.csrs;
    pc = a.pc;
    held = with-data-alike h.held g.held i c d a.held s;
  }
