-- What an instruction in user mode writes: the values of the run alone, each with its own tag, and an entry for each write.
use Rattle.std.proofs.Common.{◌≡◌, ℕ, zero, suc, ◌<◌, ◌≢◌, ◌==◌, ◌⊎◌, inl, inr, Bool, true, false, ◌||◌, not, List, [], ◌∷◌, length, map, get_or, set, get_or-set_other, All, Option, Some, option_map, if◌then◌else◌, refl, ap, sym, ◌∙◌, subst, arith}
use Rattle.std.specs.List.{list_any}
use Rattle.std.proofs.lemmas.Bool.{ne_eqb, and_parts, false_from_ne_true}
use Rattle.std.proofs.lemmas.List.Elements.{All-nil, All-cons}
use Rattle.std.proofs.lemmas.Bool.Decides.{eqb_tells}
use Rattle.std.proofs.lemmas.Grind.{get_or-set_at}
use Rattle.isa_model.specs.declared.task.Task.{Task}
use Rattle.isa_model.specs.declared.latch.Latch.{Latch}
use Rattle.isa_model.specs.declared.latch.Latch.TheVariants as latches
use Rattle.isa_model.specs.LatchOrder.{same_latch}
use Rattle.isa_model.specs.Effect.{Write, has_no_repetition}
use Rattle.isa_model.specs.TaskPlaces.{IsValidTask}
use Rattle.isa_model.specs.Alone.{with_value, values_after}
use Rattle.hart_model.specs.declared.place.Place.{Place}
use Rattle.hart_model.specs.declared.place.Place.TheVariants as places
use Rattle.hart_model.specs.declared.probe.Probe.{Probe}
use Rattle.hart_model.specs.declared.tag.Cell.{Cell}
use Rattle.hart_model.specs.declared.tag.Tag.{Tag}
use Rattle.hart_model.specs.declared.tag.Mode.{Mode}
use Rattle.hart_model.specs.Cells.{Bases, blank, latch_of, place_of}
use Rattle.hart_model.specs.Taint.{user_tag}
use Rattle.hart_model.specs.Csrs.{CsrFile}
use Rattle.hart_model.specs.Probes.{probe_of}
use Rattle.hart_model.specs.Context.{ContextState, task_of}
use Rattle.hart_model.specs.HartState.{HartState, bases_of, held_data, held_with_data, hart_cell, hart_with_cell, latch_cell}
use Rattle.hart_model.specs.Writes.{cell_writes, placed, after_writes}
use Rattle.hart_model.specs.UserLaws.{IsTaskLatch, IsRunLatch}
use Rattle.hart_model.proofs.WhyTells.{same_latch-refl, same_latch-true}
use Rattle.hart_model.proofs.EffectShapes.{IsRunWrite, AllTo}
use Rattle.hart_model.proofs.UserWrites.{data_index, place_of_data, IsDataAt, data_at, ListsHave, Wrote, write_one}

-- where a hart has a latch of a run
abbrev pub run_place : Task → Latch → Place
run_place T (latches.Reg r) = places.Reg r
run_place T latches.PortA = places.PortA
run_place T latches.PortB = places.PortB
run_place T latches.Res = places.Res
run_place T latches.Load = places.Load
run_place T latches.Store = places.Store
run_place T latches.Scr = places.Scr
run_place T latches.Mul = places.Mul
run_place T (latches.Mem at) = places.DataWord (data_index T at)

place_of_run : (c : ContextState) (l : Latch) → IsValidTask (task_of c.body) → c.slot < 8 → IsRunLatch (task_of c.body) l
    → place_of (bases_of (Some c)) l ≡ Some (run_place (task_of c.body) l)
place_of_run c (latches.Reg r) valid slot run = refl
place_of_run c latches.PortA valid slot run = refl
place_of_run c latches.PortB valid slot run = refl
place_of_run c latches.Res valid slot run = refl
place_of_run c latches.Load valid slot run = refl
place_of_run c latches.Store valid slot run = refl
place_of_run c latches.Scr valid slot run = refl
place_of_run c latches.Mul valid slot run = refl
place_of_run c (latches.Mem at) valid slot run = place_of_data c at valid slot run

pub cell_of_run : (h : HartState) (c : ContextState) (T : Task) (l : Latch) → h.held ≡ Some c → task_of c.body ≡ T → IsValidTask T → c.slot < 8 → IsRunLatch T l
    → latch_cell h l ≡ Some (hart_cell h (run_place T l))
cell_of_run h c T l held task =
    subst (λ (U : Task). IsValidTask U → c.slot < 8 → IsRunLatch U l → latch_cell h l ≡ Some (hart_cell h (run_place U l))) task
    (λ valid slot run.
    ap (λ (o : Option ContextState). option_map (hart_cell h) (place_of (bases_of o) l)) held
    ∙ ap (λ (p : Option Place). option_map (hart_cell h) p) (place_of_run c l valid slot run))

-- the cell of a latch of a run after a write of another one, or of itself
module _ (T : Task) (valid : IsValidTask T) (h : HartState) (c : ContextState) (x : Cell) (held : h.held ≡ Some c) (how_many : length h.regs ≡ 32) (how_many_words : length c.body.data_words ≡ T.data_len) where
  abbrev IsAfter : Latch → Latch → Type 0
  IsAfter to l = hart_cell (hart_with_cell h (run_place T to) x) (run_place T l) ≡ (if same_latch to l then x else hart_cell h (run_place T l))

  reg_after : (r q : ℕ) → r ≢ 0 → q < 32 → IsAfter (latches.Reg r) (latches.Reg q)
  reg_after r zero some low = let test = ne_eqb r 0 some in rw test refl
  reg_after r (suc q) some low = go (eqb_tells r (suc q))
    where
      go : (((r == suc q) ≡ true) × (r ≡ suc q)) ⊎ (((r == suc q) ≡ false) × (r ≢ suc q)) → IsAfter (latches.Reg r) (latches.Reg (suc q))
      go (inl here) = let test = here.0 in get_or-set_at h.regs r (suc q) x blank (sym here.1) (omega (arith, here.1, how_many, low)) ∙ rw test refl
      go (inr there) = let test = there.0 in get_or-set_other h.regs r (suc q) x blank (λ e. there.1 (sym e)) ∙ rw test refl

  data_after : (a at : ℕ) → IsTaskLatch T (latches.Mem a) → IsTaskLatch T (latches.Mem at) → IsAfter (latches.Mem a) (latches.Mem at)
  data_after a at inside inside' = go (eqb_tells a at)
    where
      d : IsDataAt T a
      d = data_at T a inside

      d' : IsDataAt T at
      d' = data_at T at inside'

      now : hart_cell (hart_with_cell h (places.DataWord (data_index T a)) x) (places.DataWord (data_index T at)) ≡ get_or (set c.body.data_words (data_index T a) x) (data_index T at) blank
      now = ap (λ (o : Option ContextState). get_or (held_data (held_with_data (data_index T a) x o)) (data_index T at) blank) held

      was : get_or c.body.data_words (data_index T at) blank ≡ hart_cell h (places.DataWord (data_index T at))
      was = ap (λ (o : Option ContextState). get_or (held_data o) (data_index T at) blank) (sym held)

      go : (((a == at) ≡ true) × (a ≡ at)) ⊎ (((a == at) ≡ false) × (a ≢ at)) → IsAfter (latches.Mem a) (latches.Mem at)
      go (inl here) =
          let test = here.0 in
          let index : data_index T at ≡ data_index T a = ap (λ (n : ℕ). data_index T n) (sym here.1) in
          now ∙ get_or-set_at c.body.data_words (data_index T a) (data_index T at) x blank index (omega (arith, how_many_words, d.low, d.high)) ∙ rw test refl
      go (inr there) =
          let test = there.0 in
          let even = valid.data_aligned in
          let index : data_index T at ≢ data_index T a = λ e. there.1 (omega (arith, e, d.low, d.even, d'.low, d'.even, even)) in
          now ∙ get_or-set_other c.body.data_words (data_index T a) (data_index T at) x blank index ∙ was ∙ rw test refl

  cell_after : (to l : Latch) → IsRunWrite T to → IsRunLatch T l → IsAfter to l
  cell_after (latches.Reg r) (latches.Reg q) some low = reg_after r q some.0 low
  cell_after (latches.Mem a) (latches.Mem at) inside inside' = data_after a at inside inside'
  cell_after latches.Scr l write run = absurd write
  cell_after to latches.Scr write run = absurd run
  cell_after to (latches.Reg zero) write run = refl
  cell_after to (latches.Reg (suc q)) write run = refl
  cell_after to l write run = refl

pub run_of_write : (T : Task) (l : Latch) → IsRunWrite T l → IsRunLatch T l
run_of_write T (latches.Reg r) write = write.1
run_of_write T latches.PortA write = tt
run_of_write T latches.PortB write = tt
run_of_write T latches.Res write = tt
run_of_write T latches.Load write = tt
run_of_write T latches.Store write = tt
run_of_write T latches.Scr write = write
run_of_write T latches.Mul write = tt
run_of_write T (latches.Mem at) write = write

-- the cell of a latch after writes of latches, each with its tag
abbrev pub last_cell : (Write → Tag) → List Write → Cell → Latch → Cell
last_cell tag [] cell l = cell
last_cell tag (w ∷ ws) cell l = last_cell tag ws (if same_latch w.to l then record { value = w.value; tag = tag w } else cell) l

-- the writes of latches that are none of these
abbrev pub IsFresh : Latch → List Write → Type 0
IsFresh l [] = Unit {0}
IsFresh l (w ∷ ws) = (same_latch w.to l ≡ false) × IsFresh l ws

-- the latches of writes hold these cells
abbrev pub HoldBefore : Task → (Latch → Cell) → HartState → List Write → Type 0
HoldBefore T before h [] = Unit {0}
HoldBefore T before h (w ∷ ws) = (hart_cell h (run_place T w.to) ≡ before w.to) × HoldBefore T before h ws

-- no latch is written twice
abbrev pub AreFresh : List Write → Type 0
AreFresh [] = Unit {0}
AreFresh (w ∷ ws) = IsFresh w.to ws × AreFresh ws

module _ (T : Task) (b : Bases) (valid : IsValidTask T)
    (data_place : (at : ℕ) → IsTaskLatch T (latches.Mem at) → place_of b (latches.Mem at) ≡ Some (places.DataWord (data_index T at))) where
  place_of_write : (to : Latch) → IsRunWrite T to → place_of b to ≡ Some (run_place T to)
  place_of_write (latches.Reg r) write = refl
  place_of_write latches.PortA write = refl
  place_of_write latches.PortB write = refl
  place_of_write latches.Res write = refl
  place_of_write latches.Load write = refl
  place_of_write latches.Store write = refl
  place_of_write latches.Scr write = refl
  place_of_write latches.Mul write = refl
  place_of_write (latches.Mem at) write = data_place at write

  -- a write at its place
  wrote_at : (to : Latch) (x : Cell) (h : HartState) (c : ContextState) (v : Latch → ℕ) → IsRunWrite T to → h.held ≡ Some c
      → ListsHave T h.regs c.body.data_words v → Wrote T h c (hart_with_cell h (run_place T to) x) (with_value to x.value v)
  wrote_at to x h c v write held lists =
      let one = write_one T b valid data_place to x h c v write held lists in
      let there = place_of_write to write in
      let place : one.place ≡ run_place T to = cc (one.is_place, there) in
      subst (λ (p : Place). Wrote T h c (hart_with_cell h p x) (with_value to x.value v)) place one.wrote

  -- the cells after writes are the last that were written
  pub cells_after : (tag : Write → Tag) (ws : List Write) (h : HartState) (c : ContextState) (v : Latch → ℕ) → AllTo (IsRunWrite T) ws → h.held ≡ Some c
      → ListsHave T h.regs c.body.data_words v → (l : Latch) → IsRunLatch T l
      → hart_cell (after_writes (cell_writes b tag ws) h).hart (run_place T l) ≡ last_cell tag ws (hart_cell h (run_place T l)) l
  cells_after tag [] h c v writes held lists l run = refl
  cells_after tag (w ∷ ws) h c v writes held lists l run =
      let x : Cell = record { value = w.value; tag = tag w } in
      let g : HartState = hart_with_cell h (run_place T w.to) x in
      let one = wrote_at w.to x h c v writes.0 held lists in
      subst (λ (o : Option Place). hart_cell (after_writes (placed o x (cell_writes b tag ws)) h).hart (run_place T l) ≡ last_cell tag (w ∷ ws) (hart_cell h (run_place T l)) l)
      (sym (place_of_write w.to writes.0))
      (cells_after tag ws g one.context (with_value w.to w.value v) writes.1 one.later.holds one.lists l run
      ∙ ap (λ (cell : Cell). last_cell tag ws cell l) (cell_after T valid h c x held lists.how_many_regs lists.how_many_words w.to l writes.0 run))

-- which is own, or was there
abbrev pub OwnOrKept : ℕ → ℕ → List Write → Cell → (Latch → ℕ) → Latch → ℕ → Cell → Type 0
OwnOrKept task count ws cell v l was kept =
    (last_cell (λ (w : Write). user_tag task count w.to) ws cell l ≡ record { value = values_after ws v l; tag = user_tag task count l })
    ⊎ ((last_cell (λ (w : Write). user_tag task count w.to) ws cell l ≡ kept) × (values_after ws v l ≡ was))

pub own_or_kept : (task count : ℕ) (ws : List Write) (cell : Cell) (v : Latch → ℕ) (l : Latch) → OwnOrKept task count ws cell v l (v l) cell
own_or_kept task count [] cell v l = inr (refl, refl)
own_or_kept task count (w ∷ ws) cell v l =
    go (same_latch w.to l) refl (own_or_kept task count ws (record { value = w.value; tag = user_tag task count w.to }) (with_value w.to w.value v) l) (own_or_kept task count ws cell (with_value w.to w.value v) l)
  where
    go : (b : Bool) → same_latch w.to l ≡ b
        → OwnOrKept task count ws (record { value = w.value; tag = user_tag task count w.to }) (with_value w.to w.value v) l (with_value w.to w.value v l) (record { value = w.value; tag = user_tag task count w.to })
        → OwnOrKept task count ws cell (with_value w.to w.value v) l (with_value w.to w.value v l) cell
        → OwnOrKept task count ws (if b then record { value = w.value; tag = user_tag task count w.to } else cell) (with_value w.to w.value v) l (v l) cell
    go true is (inl own) rest = inl own
    go true is (inr kept) rest =
        let now : with_value w.to w.value v l ≡ w.value = rw is refl in
        inl (kept.0
        ∙ ap (λ (n : ℕ). record { value = n; tag = user_tag task count w.to }) (sym (kept.1 ∙ now))
        ∙ ap (λ (k : Latch). record { value = values_after ws (with_value w.to w.value v) l; tag = user_tag task count k }) (same_latch-true w.to l is))
    go false is first (inl own) = inl own
    go false is first (inr kept) = let now : with_value w.to w.value v l ≡ v l = rw is refl in inr (kept.0, kept.1 ∙ now)

-- a latch that isn't written keeps its value
fresh_keeps : (ws : List Write) (v : Latch → ℕ) (l : Latch) → IsFresh l ws → values_after ws v l ≡ v l
fresh_keeps [] v l fresh = refl
fresh_keeps (w ∷ ws) v l fresh = let now : with_value w.to w.value v l ≡ v l = (let other = fresh.0 in rw other refl) in fresh_keeps ws (with_value w.to w.value v) l fresh.1 ∙ now

-- so a latch that is written once has the value that was written
pub values_written : (ws : List Write) (v : Latch → ℕ) → AreFresh ws → All (λ (w : Write). w.value ≡ values_after ws v w.to) ws
values_written [] v fresh = All-nil _
values_written (w ∷ ws) v fresh =
    All-cons (λ (u : Write). u.value ≡ values_after (w ∷ ws) v u.to) w ws
    (let now : with_value w.to w.value v w.to ≡ w.value = (let same = same_latch-refl w.to in rw same refl) in sym (fresh_keeps ws (with_value w.to w.value v) w.to fresh.0 ∙ now))
    (values_written ws (with_value w.to w.value v) fresh.1)

-- no latch twice, as the test says it
same_latch-sym : (a c : Latch) → same_latch a c ≡ false → same_latch c a ≡ false
same_latch-sym a c other = false_from_ne_true (same_latch c a) (λ same. let e = same_latch-true c a same in let t = same_latch-refl a in cc)

fresh_from : (l : Latch) (ws : List Write) → list_any (λ (v : Write). same_latch v.to l) ws ≡ false → IsFresh l ws
fresh_from l [] h = tt
fresh_from l (w ∷ ws) h = go (same_latch w.to l) refl h (fresh_from l ws)
  where
    go : (b : Bool) → same_latch w.to l ≡ b → (b || list_any (λ (v : Write). same_latch v.to l) ws) ≡ false
        → (list_any (λ (v : Write). same_latch v.to l) ws ≡ false → IsFresh l ws) → (same_latch w.to l ≡ false) × IsFresh l ws
    go true is none rest = cc
    go false is none rest = (is, rest none)

pub all_fresh : (ws : List Write) → has_no_repetition ws ≡ true → AreFresh ws
all_fresh [] h = tt
all_fresh (w ∷ ws) h =
    let parts = and_parts (not (list_any (λ (v : Write). same_latch v.to w.to) ws)) (has_no_repetition ws) h in
    (fresh_from w.to ws (not_true _ parts.0), all_fresh ws parts.1)
  where
    not_true : (b : Bool) → not b ≡ true → b ≡ false
    not_true true e = cc
    not_true false e = refl

-- the entry of a write, from the cell that its latch held before
abbrev pub entry_of : ℕ → ℕ → Mode → (Latch → Cell) → (Write → Tag) → Write → Probe
entry_of number pc mode before tag w = probe_of number pc mode w.to (before w.to) (record { value = w.value; tag = tag w })

-- the entries of a list of writes, on a hart with this file and this pc
abbrev pub entries_of : CsrFile → ℕ → (Latch → Cell) → (Write → Tag) → List Write → List Probe
entries_of csrs pc before tag ws = map (entry_of csrs.hart pc csrs.mode before tag) ws

-- where what is held has its words
bases_after : (c d : ContextState) → d ≡ record c { body = record c.body { data_words = d.body.data_words } } → length d.body.data_words ≡ length c.body.data_words
    → bases_of (Some d) ≡ bases_of (Some c)
bases_after c d rest len =
    ap (λ (e : ContextState). record (bases_of (Some e)) { data_len = length d.body.data_words }) rest ∙ ap (λ (n : ℕ). record (bases_of (Some c)) { data_len = n }) len

module _ (T : Task) (b : Bases) (valid : IsValidTask T) (base : b.data_at ≡ T.data_at)
    (data_place : (at : ℕ) → IsTaskLatch T (latches.Mem at) → place_of b (latches.Mem at) ≡ Some (places.DataWord (data_index T at))) where
  -- the latch of its place is the latch
  latch_of_run : (l : Latch) → IsRunWrite T l → latch_of b (run_place T l) ≡ l
  latch_of_run (latches.Reg r) write = refl
  latch_of_run latches.PortA write = refl
  latch_of_run latches.PortB write = refl
  latch_of_run latches.Res write = refl
  latch_of_run latches.Load write = refl
  latch_of_run latches.Store write = refl
  latch_of_run latches.Scr write = refl
  latch_of_run latches.Mul write = refl
  latch_of_run (latches.Mem at) write =
      let d = data_at T at write in
      let even = valid.data_aligned in
      ap (λ (n : ℕ). latches.Mem n) (omega (arith, base, d.low, d.even, even))

  -- the latches of the writes that follow hold what they held
  hold_after : (before : Latch → Cell) (to : Latch) (x : Cell) (ws : List Write) (h : HartState) (c : ContextState) (v : Latch → ℕ) → IsRunWrite T to → h.held ≡ Some c
      → ListsHave T h.regs c.body.data_words v → AllTo (IsRunWrite T) ws → IsFresh to ws → HoldBefore T before h ws → HoldBefore T before (hart_with_cell h (run_place T to) x) ws
  hold_after before to x [] h c v write held lists writes fresh hold = tt
  hold_after before to x (w ∷ ws) h c v write held lists writes fresh hold =
      let other = same_latch-sym w.to to fresh.0 in
      let kept : hart_cell (hart_with_cell h (run_place T to) x) (run_place T w.to) ≡ hart_cell h (run_place T w.to) =
      cell_after T valid h c x held lists.how_many_regs lists.how_many_words to w.to write (run_of_write T w.to writes.0) ∙ rw other refl in
      (kept ∙ hold.0, hold_after before to x ws h c v write held lists writes.1 fresh.1 hold.1)

  pub entries_after : (before : Latch → Cell) (tag : Write → Tag) (ws : List Write) (h : HartState) (c : ContextState) (v : Latch → ℕ) → AllTo (IsRunWrite T) ws → AreFresh ws
      → HoldBefore T before h ws → h.held ≡ Some c → bases_of (Some c) ≡ b → ListsHave T h.regs c.body.data_words v
      → (after_writes (cell_writes b tag ws) h).probes ≡ entries_of h.csrs h.pc before tag ws
  entries_after before tag [] h c v writes fresh hold held bases lists = refl
  entries_after before tag (w ∷ ws) h c v writes fresh hold held bases lists =
      let x : Cell = record { value = w.value; tag = tag w } in
      let g : HartState = hart_with_cell h (run_place T w.to) x in
      let one = wrote_at T b valid data_place w.to x h c v writes.0 held lists in
      let more = entries_after before tag ws g one.context (with_value w.to w.value v) writes.1 fresh.1
      (hold_after before w.to x ws h c v writes.0 held lists writes.1 fresh.0 hold.1) one.later.holds
      (bases_after c one.context one.later.rest (one.lists.how_many_words ∙ sym lists.how_many_words) ∙ bases) one.lists in
      let here : probe_of h.csrs.hart h.pc h.csrs.mode (latch_of (bases_of h.held) (run_place T w.to)) (hart_cell h (run_place T w.to)) x ≡ entry_of h.csrs.hart h.pc h.csrs.mode before tag w =
      ap (λ (l : Latch). probe_of h.csrs.hart h.pc h.csrs.mode l (hart_cell h (run_place T w.to)) x) (ap (λ (o : Option ContextState). latch_of (bases_of o) (run_place T w.to)) held ∙ ap (λ (k : Bases). latch_of k (run_place T w.to)) bases ∙ latch_of_run w.to writes.0)
      ∙ ap (λ (cell : Cell). probe_of h.csrs.hart h.pc h.csrs.mode w.to cell x) hold.0 in
      subst (λ (o : Option Place). (after_writes (placed o x (cell_writes b tag ws)) h).probes ≡ entries_of h.csrs h.pc before tag (w ∷ ws)) (sym (place_of_write T b valid data_place w.to writes.0))
      (ap (λ (p : Probe). p ∷ (after_writes (cell_writes b tag ws) g).probes) here
      ∙ ap (λ (ps : List Probe). entry_of h.csrs.hart h.pc h.csrs.mode before tag w ∷ ps)
      (more ∙ ap (λ (k : CsrFile). entries_of k g.pc before tag ws) one.later.csrs ∙ ap (λ (n : ℕ). entries_of h.csrs n before tag ws) one.later.pc))
