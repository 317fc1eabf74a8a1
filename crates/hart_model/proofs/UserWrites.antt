-- After the writes of an instruction the registers and data words of a hart have the values that the run alone has after them.
use Rattle.std.proofs.Common.{◌≡◌, ℕ, zero, suc, ◌+◌, ◌-◌, ◌*◌, ◌/◌, ◌%◌, ◌<◌, ◌≤◌, ◌≢◌, ◌==◌, ◌⊎◌, inl, inr, Bool, true, false, ◌&&◌, nat_le, nat_lt, List, [], ◌∷◌, length, get_or, set, length-set, get_or-set_other, Option, Some, None, option_map, if◌then◌else◌, refl, ap, sym, ◌∙◌, subst, arith}
use Rattle.std.proofs.lemmas.Bool.{le-leb, lt-ltb, le-ltb, ne_eqb, leb-true, ltb-true, and_parts}
use Rattle.std.proofs.lemmas.Bool.Decides.{eqb_tells}
use Rattle.std.proofs.lemmas.Grind.{get_or-set_at}
use Rattle.isa_model.specs.declared.task.Task.{Task}
use Rattle.isa_model.specs.declared.latch.Latch.{Latch}
use Rattle.isa_model.specs.declared.latch.Latch.TheVariants as latches
use Rattle.isa_model.specs.Effect.{Write}
use Rattle.isa_model.specs.TaskPlaces.{IsValidTask}
use Rattle.isa_model.specs.Alone.{with_value, values_after}
use Rattle.hart_model.specs.declared.place.Place.{Place}
use Rattle.hart_model.specs.declared.place.Place.TheVariants as places
use Rattle.hart_model.specs.declared.tag.Cell.{Cell}
use Rattle.hart_model.specs.declared.tag.Tag.{Tag}
use Rattle.hart_model.specs.Cells.{Bases, blank, index_in, place_of, zero_address}
use Rattle.hart_model.specs.Context.{ContextState, task_of, slot_address, slot_len}
use Rattle.hart_model.specs.HartState.{HartState, bases_of, held_data, hart_cell, hart_with_cell, held_with_data}
use Rattle.hart_model.specs.Writes.{cell_writes, placed, after_writes}
use Rattle.hart_model.specs.UserStep.{latch_value, value_of_cell}
use Rattle.hart_model.specs.UserLaws.{IsTaskLatch}
use Rattle.hart_model.proofs.EffectShapes.{IsRunWrite, IsPortWrite, AllTo}

-- the place of a data word: its address is none of the hart's own words
pub index_past : (base len at : ℕ) → base + 4 * len ≤ at → index_in base len at ≡ None
index_past base len at h = go (nat_le base at) (nat_lt at (base + 4 * len)) (le-ltb at (base + 4 * len) h)
  where
    go : (low high : Bool) → high ≡ false → (if low && high && ((at - base) % 4 == 0) then Some ((at - base) / 4) else None) ≡ None
    go true high e = rw e refl
    go false high e = refl

pub index_here : (base len at : ℕ) → base ≤ at → at < base + 4 * len → (at - base) % 4 ≡ 0 → index_in base len at ≡ Some ((at - base) / 4)
index_here base len at low high even =
    let one = le-leb base at low in
    let two = lt-ltb at (base + 4 * len) high in
    rw (one, two, even) refl

abbrev pub data_index : Task → ℕ → ℕ
data_index T at = (at - T.data_at) / 4

-- the facts of the address of a data word
pub record IsDataAt (T : Task) (at : ℕ) : Type 0 where
  pub low : T.data_at ≤ at
  pub high : at < T.data_at + 4 * T.data_len
  pub even : at % 4 ≡ 0

pub data_at : (T : Task) (at : ℕ) → IsTaskLatch T (latches.Mem at) → IsDataAt T at
data_at T at inside =
    let parts = and_parts (nat_le T.data_at at) (nat_lt at (T.data_at + 4 * T.data_len)) inside.0 in
    record { low = leb-true _ _ parts.0; high = ltb-true _ _ parts.1; even = inside.1 }

pub place_of_data : (c : ContextState) (at : ℕ) → IsValidTask (task_of c.body) → c.slot < 8 → IsTaskLatch (task_of c.body) (latches.Mem at)
    → place_of (bases_of (Some c)) (latches.Mem at) ≡ Some (places.DataWord (data_index (task_of c.body) at))
place_of_data c at valid slot inside =
    let d = data_at (task_of c.body) at inside in
    let above = valid.data_above in
    let even = valid.data_aligned in
    let not_zero : (at == zero_address) ≡ false = ne_eqb at zero_address (λ e. absurd (omega (arith, e, d.low, above))) in
    let not_slot = index_past (slot_address c.slot) slot_len at (omega (arith, d.low, above, slot)) in
    let here = index_here c.body.data_at (length c.body.data_words) at d.low d.high (omega (arith, d.even, even)) in
    rw (not_zero, not_slot, here) refl

-- the value of a register, of which x0 is 0, and of a data word, in lists of cells
abbrev pub reg_value : List Cell → ℕ → ℕ
reg_value regs zero = 0
reg_value regs (suc r) = (get_or regs (suc r) blank).value

abbrev pub data_value : List Cell → ℕ → ℕ
data_value words i = (get_or words i blank).value

-- lists of cells have these values
pub record ListsHave (T : Task) (regs words : List Cell) (v : Latch → ℕ) : Type 0 where
  pub in_regs : (r : ℕ) → r < 32 → reg_value regs r ≡ v (latches.Reg r)
  pub in_words : (at : ℕ) → IsTaskLatch T (latches.Mem at) → data_value words (data_index T at) ≡ v (latches.Mem at)
  pub how_many_regs : length regs ≡ 32
  pub how_many_words : length words ≡ T.data_len

-- they are the values of the hart's latches
pub value_of_register : (h : HartState) (r : ℕ) → latch_value h (latches.Reg r) ≡ reg_value h.regs r
value_of_register h zero = refl
value_of_register h (suc r) = refl

pub value_of_word : (h : HartState) (c : ContextState) (at : ℕ) → h.held ≡ Some c → IsValidTask (task_of c.body) → c.slot < 8
    → IsTaskLatch (task_of c.body) (latches.Mem at) → latch_value h (latches.Mem at) ≡ data_value c.body.data_words (data_index (task_of c.body) at)
value_of_word h c at held valid slot inside =
    ap (λ (o : Option ContextState). value_of_cell (option_map (hart_cell h) (place_of (bases_of o) (latches.Mem at)))) held
    ∙ ap (λ (p : Option Place). value_of_cell (option_map (hart_cell h) p)) (place_of_data c at valid slot inside)
    ∙ ap (λ (o : Option ContextState). data_value (held_data o) (data_index (task_of c.body) at)) held

-- a register and a data word after a write of a register and of a data word
reg_after_set : (regs : List Cell) (r q : ℕ) (x : Cell) → length regs ≡ 32 → q < 32 → r ≢ 0
    → reg_value (set regs r x) q ≡ (if r == q then x.value else reg_value regs q)
reg_after_set regs r zero x len low some = let no : (r == 0) ≡ false = ne_eqb r 0 some in rw no refl
reg_after_set regs r (suc q) x len low some = go (eqb_tells r (suc q))
  where
    go : (((r == suc q) ≡ true) × (r ≡ suc q)) ⊎ (((r == suc q) ≡ false) × (r ≢ suc q))
        → reg_value (set regs r x) (suc q) ≡ (if r == suc q then x.value else reg_value regs (suc q))
    go (inl here) =
        let test = here.0 in
        let cell = get_or-set_at regs r (suc q) x blank (sym here.1) (omega (arith, here.1, len, low)) in
        ap (λ (c : Cell). c.value) cell ∙ rw test refl
    go (inr there) =
        let test = there.0 in
        let cell = get_or-set_other regs r (suc q) x blank (λ e. there.1 (sym e)) in
        ap (λ (c : Cell). c.value) cell ∙ rw test refl

word_after_set : (T : Task) (words : List Cell) (a at : ℕ) (x : Cell) → IsValidTask T → length words ≡ T.data_len
    → IsTaskLatch T (latches.Mem a) → IsTaskLatch T (latches.Mem at)
    → data_value (set words (data_index T a) x) (data_index T at) ≡ (if a == at then x.value else data_value words (data_index T at))
word_after_set T words a at x valid len inside inside' = go (eqb_tells a at)
  where
    d : IsDataAt T a
    d = data_at T a inside

    d' : IsDataAt T at
    d' = data_at T at inside'

    go : (((a == at) ≡ true) × (a ≡ at)) ⊎ (((a == at) ≡ false) × (a ≢ at))
        → data_value (set words (data_index T a) x) (data_index T at) ≡ (if a == at then x.value else data_value words (data_index T at))
    go (inl here) =
        let test = here.0 in
        let index : data_index T at ≡ data_index T a = ap (λ (n : ℕ). data_index T n) (sym here.1) in
        let cell = get_or-set_at words (data_index T a) (data_index T at) x blank index (omega (arith, len, d.low, d.high)) in
        ap (λ (c : Cell). c.value) cell ∙ rw test refl
    go (inr there) =
        let test = there.0 in
        let even = valid.data_aligned in
        let index : data_index T at ≢ data_index T a = λ e. there.1 (omega (arith, e, d.low, d.even, d'.low, d'.even, even)) in
        let cell = get_or-set_other words (data_index T a) (data_index T at) x blank index in
        ap (λ (c : Cell). c.value) cell ∙ rw test refl

-- a hart and its context after writes: all else stays
pub record IsLater (h : HartState) (c : ContextState) (g : HartState) (d : ContextState) : Type 0 where
  pub holds : g.held ≡ Some d
  pub rest : d ≡ record c { body = record c.body { data_words = d.body.data_words } }
  pub csrs : g.csrs ≡ h.csrs
  pub zero_word : g.zero_word ≡ h.zero_word
  pub pc : g.pc ≡ h.pc

-- after writes the lists have these values
pub record Wrote (T : Task) (h : HartState) (c : ContextState) (g : HartState) (v : Latch → ℕ) : Type 0 where
  pub context : ContextState
  pub later : IsLater h c g context
  pub lists : ListsHave T g.regs context.body.data_words v

-- a write and where it went
pub record WroteOne (T : Task) (b : Bases) (to : Latch) (x : Cell) (h : HartState) (c : ContextState) (v : Latch → ℕ) : Type 0 where
  pub place : Place
  pub is_place : place_of b to ≡ Some place
  pub wrote : Wrote T h c (hart_with_cell h place x) (with_value to x.value v)

module _ (T : Task) (b : Bases) (valid : IsValidTask T)
    (data_place : (at : ℕ) → IsTaskLatch T (latches.Mem at) → place_of b (latches.Mem at) ≡ Some (places.DataWord (data_index T at))) where
  -- a latch that is neither a register nor a word changes nothing of them
  other_latch : (to : Latch) (x : Cell) (place : Place) (h : HartState) (c : ContextState) (v : Latch → ℕ) → place_of b to ≡ Some place
      → IsLater h c (hart_with_cell h place x) c → (hart_with_cell h place x).regs ≡ h.regs
      → ((r : ℕ) → with_value to x.value v (latches.Reg r) ≡ v (latches.Reg r)) → ((at : ℕ) → with_value to x.value v (latches.Mem at) ≡ v (latches.Mem at))
      → ListsHave T h.regs c.body.data_words v → WroteOne T b to x h c v
  other_latch to x place h c v is later regs same_r same_w lists = record {
    place = place;
    is_place = is;
    wrote = record {
      context = c;
      later = later;
      lists = record {
        in_regs = λ r low. ap (λ (l : List Cell). reg_value l r) regs ∙ lists.in_regs r low ∙ sym (same_r r);
        in_words = λ at inside. lists.in_words at inside ∙ sym (same_w at);
        how_many_regs = ap (λ (l : List Cell). length l) regs ∙ lists.how_many_regs;
        how_many_words = lists.how_many_words;
      };
    };
  }

  stays : (h : HartState) (c : ContextState) (g : HartState) → h.held ≡ Some c → g.held ≡ h.held → g.csrs ≡ h.csrs → g.zero_word ≡ h.zero_word → g.pc ≡ h.pc → IsLater h c g c
  stays h c g held same csrs zero_word pc = record { holds = same ∙ held; rest = refl; csrs = csrs; zero_word = zero_word; pc = pc }

  pub write_one : (to : Latch) (x : Cell) (h : HartState) (c : ContextState) (v : Latch → ℕ) → IsRunWrite T to → h.held ≡ Some c
      → ListsHave T h.regs c.body.data_words v → WroteOne T b to x h c v
  write_one (latches.Reg r) x h c v some held lists = record {
    place = places.Reg r;
    is_place = refl;
    wrote = record {
      context = c;
      later = stays h c (hart_with_cell h (places.Reg r) x) held refl refl refl refl;
      lists = record {
        in_regs = λ q low. reg_after_set h.regs r q x lists.how_many_regs low some.0 ∙ ap (λ (n : ℕ). if r == q then x.value else n) (lists.in_regs q low);
        in_words = lists.in_words;
        how_many_regs = length-set h.regs r x ∙ lists.how_many_regs;
        how_many_words = lists.how_many_words;
      };
    };
  }
  write_one (latches.Mem a) x h c v inside held lists =
      let words = set c.body.data_words (data_index T a) x in
      record {
        place = places.DataWord (data_index T a);
        is_place = data_place a inside;
        wrote = record {
          context = record c { body = record c.body { data_words = words } };
          later = record {
            holds = ap (λ (o : Option ContextState). held_with_data (data_index T a) x o) held;
            rest = refl;
            csrs = refl;
            zero_word = refl;
            pc = refl;
          };
          lists = record {
            in_regs = lists.in_regs;
            in_words = λ at inside'.
                word_after_set T c.body.data_words a at x valid lists.how_many_words inside inside'
                ∙ ap (λ (n : ℕ). if a == at then x.value else n) (lists.in_words at inside');
            how_many_regs = lists.how_many_regs;
            how_many_words = length-set c.body.data_words (data_index T a) x ∙ lists.how_many_words;
          };
        };
      }
  write_one latches.PortA x h c v run held lists =
      other_latch latches.PortA x places.PortA h c v refl (stays h c (hart_with_cell h places.PortA x) held refl refl refl refl) refl (λ r. refl) (λ at. refl) lists
  write_one latches.PortB x h c v run held lists =
      other_latch latches.PortB x places.PortB h c v refl (stays h c (hart_with_cell h places.PortB x) held refl refl refl refl) refl (λ r. refl) (λ at. refl) lists
  write_one latches.Res x h c v run held lists =
      other_latch latches.Res x places.Res h c v refl (stays h c (hart_with_cell h places.Res x) held refl refl refl refl) refl (λ r. refl) (λ at. refl) lists
  write_one latches.Load x h c v run held lists =
      other_latch latches.Load x places.Load h c v refl (stays h c (hart_with_cell h places.Load x) held refl refl refl refl) refl (λ r. refl) (λ at. refl) lists
  write_one latches.Store x h c v run held lists =
      other_latch latches.Store x places.Store h c v refl (stays h c (hart_with_cell h places.Store x) held refl refl refl refl) refl (λ r. refl) (λ at. refl) lists
  write_one latches.Mul x h c v run held lists =
      other_latch latches.Mul x places.Mul h c v refl (stays h c (hart_with_cell h places.Mul x) held refl refl refl refl) refl (λ r. refl) (λ at. refl) lists
  write_one latches.Scr x h c v run held lists = absurd run

  -- later than later
  later_still : (h : HartState) (c : ContextState) (g : HartState) (d : ContextState) (f : HartState) (v : Latch → ℕ) → IsLater h c g d → Wrote T g d f v → Wrote T h c f v
  later_still h c g d f v one more = record {
    context = more.context;
    later = record {
      holds = more.later.holds;
      rest = more.later.rest ∙ ap (λ (e : ContextState). record e { body = record e.body { data_words = more.context.body.data_words } }) one.rest;
      csrs = more.later.csrs ∙ one.csrs;
      zero_word = more.later.zero_word ∙ one.zero_word;
      pc = more.later.pc ∙ one.pc;
    };
    lists = more.lists;
  }

  -- the writes of an instruction that goes on
  pub write_all : (tag : Write → Tag) (ws : List Write) (h : HartState) (c : ContextState) (v : Latch → ℕ) → AllTo (IsRunWrite T) ws → h.held ≡ Some c
      → ListsHave T h.regs c.body.data_words v → Wrote T h c (after_writes (cell_writes b tag ws) h).hart (values_after ws v)
  write_all tag [] h c v run held lists = record { context = c; later = record { holds = held; rest = refl; csrs = refl; zero_word = refl; pc = refl }; lists = lists }
  write_all tag (w ∷ ws) h c v run held lists =
      let x : Cell = record { value = w.value; tag = tag w } in
      let one = write_one w.to x h c v run.0 held lists in
      let g : HartState = hart_with_cell h one.place x in
      let more = write_all tag ws g one.wrote.context (with_value w.to w.value v) run.1 one.wrote.later.holds one.wrote.lists in
      subst (λ (o : Option Place). Wrote T h c (after_writes (placed o x (cell_writes b tag ws)) h).hart (values_after (w ∷ ws) v)) (sym one.is_place)
      (later_still h c g one.wrote.context (after_writes (cell_writes b tag ws) g).hart (values_after ws (with_value w.to w.value v)) one.wrote.later more)

-- a hart after writes of ports and Res alone
pub record OnlyPorts (h g : HartState) : Type 0 where
  pub regs : g.regs ≡ h.regs
  pub held : g.held ≡ h.held
  pub csrs : g.csrs ≡ h.csrs
  pub zero_word : g.zero_word ≡ h.zero_word
  pub pc : g.pc ≡ h.pc

only_still : (h g f : HartState) → OnlyPorts h g → OnlyPorts g f → OnlyPorts h f
only_still h g f one more = record {
  regs = more.regs ∙ one.regs;
  held = more.held ∙ one.held;
  csrs = more.csrs ∙ one.csrs;
  zero_word = more.zero_word ∙ one.zero_word;
  pc = more.pc ∙ one.pc;
}

-- the write of a port or of Res, with what the other writes do afterwards
write_port : (b : Bases) (tag : Write → Tag) (to : Latch) (x : Cell) (ws : List Write) (h : HartState) → IsPortWrite to
    → ((g : HartState) → OnlyPorts g (after_writes (cell_writes b tag ws) g).hart) → OnlyPorts h (after_writes (placed (place_of b to) x (cell_writes b tag ws)) h).hart
write_port b tag latches.PortA x ws h port rest =
    only_still h (hart_with_cell h places.PortA x) _ (record { regs = refl; held = refl; csrs = refl; zero_word = refl; pc = refl }) (rest (hart_with_cell h places.PortA x))
write_port b tag latches.PortB x ws h port rest =
    only_still h (hart_with_cell h places.PortB x) _ (record { regs = refl; held = refl; csrs = refl; zero_word = refl; pc = refl }) (rest (hart_with_cell h places.PortB x))
write_port b tag latches.Res x ws h port rest =
    only_still h (hart_with_cell h places.Res x) _ (record { regs = refl; held = refl; csrs = refl; zero_word = refl; pc = refl }) (rest (hart_with_cell h places.Res x))
write_port b tag (latches.Reg r) x ws h port rest = absurd port
write_port b tag (latches.Mem at) x ws h port rest = absurd port
write_port b tag latches.Load x ws h port rest = absurd port
write_port b tag latches.Store x ws h port rest = absurd port
write_port b tag latches.Scr x ws h port rest = absurd port
write_port b tag latches.Mul x ws h port rest = absurd port

-- the writes of an instruction that faults, on the hart and alone
pub write_ports : (b : Bases) (tag : Write → Tag) (ws : List Write) (h : HartState) → AllTo IsPortWrite ws → OnlyPorts h (after_writes (cell_writes b tag ws) h).hart
write_ports b tag [] h ports = record { regs = refl; held = refl; csrs = refl; zero_word = refl; pc = refl }
write_ports b tag (w ∷ ws) h ports =
    write_port b tag w.to (record { value = w.value; tag = tag w }) ws h ports.0 (λ g. write_ports b tag ws g ports.1)

port_keeps : (T : Task) (to l : Latch) (x : ℕ) (v : Latch → ℕ) → IsPortWrite to → IsTaskLatch T l → with_value to x v l ≡ v l
port_keeps T latches.PortA (latches.Reg r) x v port inside = refl
port_keeps T latches.PortA (latches.Mem at) x v port inside = refl
port_keeps T latches.PortB (latches.Reg r) x v port inside = refl
port_keeps T latches.PortB (latches.Mem at) x v port inside = refl
port_keeps T latches.Res (latches.Reg r) x v port inside = refl
port_keeps T latches.Res (latches.Mem at) x v port inside = refl
port_keeps T to latches.PortA x v port inside = absurd inside
port_keeps T to latches.PortB x v port inside = absurd inside
port_keeps T to latches.Res x v port inside = absurd inside
port_keeps T to latches.Load x v port inside = absurd inside
port_keeps T to latches.Store x v port inside = absurd inside
port_keeps T to latches.Scr x v port inside = absurd inside
port_keeps T to latches.Mul x v port inside = absurd inside
port_keeps T (latches.Reg r) l x v port inside = absurd port
port_keeps T (latches.Mem at) l x v port inside = absurd port
port_keeps T latches.Load l x v port inside = absurd port
port_keeps T latches.Store l x v port inside = absurd port
port_keeps T latches.Scr l x v port inside = absurd port
port_keeps T latches.Mul l x v port inside = absurd port

pub ports_keep : (T : Task) (ws : List Write) (l : Latch) (v : Latch → ℕ) → AllTo IsPortWrite ws → IsTaskLatch T l → values_after ws v l ≡ v l
ports_keep T [] l v ports inside = refl
ports_keep T (w ∷ ws) l v ports inside = ports_keep T ws l (with_value w.to w.value v) ports.1 inside ∙ port_keeps T w.to l w.value v ports.0 inside
