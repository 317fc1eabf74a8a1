-- The way from a take that got a context to the restore part, and through it to MRET.
use Rattle.std.proofs.Common.{◌≡◌, ℕ, ◌+◌, ◌*◌, Bool, true, false, ◌||◌, List, [], ◌∷◌, ◌++◌, replicate, length, get_or, set, Option, Some, refl, sym, ap, ◌∙◌, arith}
use Rattle.std.specs.List.{list_all}
use Rattle.std.proofs.lemmas.Bool.{ne_eqb, and_parts}
use Rattle.isa_model.specs.declared.task.Task.{Task}
use Rattle.isa_model.specs.declared.instr.Cmp.TheVariants.{Beq}
use Rattle.isa_model.specs.Bits.{word_address}
use Rattle.hart_model.specs.declared.place.Place.{Place}
use Rattle.hart_model.specs.declared.place.Place.TheVariants.{Scr}
use Rattle.hart_model.specs.declared.tag.Cell.{Cell}
use Rattle.hart_model.specs.declared.tag.Tag.TheVariants.{Public}
use Rattle.hart_model.specs.declared.tag.Mode.TheVariants.{Machine}
use Rattle.hart_model.specs.Csrs.{CsrFile, public}
use Rattle.hart_model.specs.Pmp.{bounds_of}
use Rattle.hart_model.specs.Context.{ContextState, slot_address, task_of}
use Rattle.hart_model.specs.HartState.{HartState, hart_cell, held_words}
use Rattle.hart_model.specs.Writes.{HartAndProbes}
use Rattle.core_model.specs.Soundness.{IsHartSound}
use Rattle.core_model.specs.Routines.{IsReadyContext, IsRestoring, IsOtherLatch, IsPartSound, HasRestored, HasRestoredTags, ComesTo, run_of_part, has_tick}
use Rattle.symbolic_run.specs.AbstractCell.{AbstractCell, Zero, SlotAddress, PublicAny, PublicNumber, TaskReg, OldSlotWord, GivenCell, AnyTagged, AbstractState}
use Rattle.symbolic_run.specs.Concretization.{Valuation, Denotes, AllDenote}
use Rattle.symbolic_run.specs.Laws.{PathsLead}
use Rattle.symbolic_run.specs.SymbolicPath.{PathState, path_from, path_of, PathCondition, IsTaken, IsAsPathSays}
use Rattle.symbolic_run.specs.Ways.{Leads}
use Rattle.symbolic_run.proofs.OneWrite.{regs-get}
use Rattle.symbolic_run.proofs.Ways.{leads-map, leads-then}
use Rattle.symbolic_run.proofs.PathSays.{path-sound}
use Rattle.symbolic_run.proofs.ComputedPaths.{every_word, straight}
use Rattle.symbolic_run.proofs.PartRuns.{comes-map, comes-both, run-pc}
use Rattle.core_invariant.specs.KernelStates.{KernelParts, IsKernel, middle_at, restore_at, mret_at, middle_instrs, middle_len, take_index}
use Rattle.core_invariant.proofs.KernelCells.{numbered, bound_cells}
use Rattle.core_invariant.proofs.PartLeads.{part-leads}
use Rattle.core_invariant.proofs.PathStates.{latch-public, are-public}
use Rattle.core_invariant.proofs.Trapped.{AreOwn, registers_of}
use Rattle.core_invariant.proofs.TakenStands.{taken_setting, taken-setting-sound, taken_cells, taken_state, pc_of, public-is, words-stand}

-- the four bounds of the task in the protection
abbrev pub with_bounds : Task → List ℕ → List ℕ
with_bounds T addrs =
    set (set (set (set addrs 0 (get_or (bounds_of T) 0 0)) 1 (get_or (bounds_of T) 1 0)) 2 (get_or (bounds_of T) 2 0)) 3 (get_or (bounds_of T) 3 0)

-- the CSRs at the end: the task's bounds, and its pc in mepc
abbrev pub task_csrs : Task → ℕ → CsrFile → CsrFile
task_csrs T pc csrs = record csrs { mepc = word_address pc; pmp = record { cfg = csrs.pmp.cfg; addrs = with_bounds T csrs.pmp.addrs } }

-- the registers at the end, of which x6 is the pc
abbrev pub end_regs : ℕ → List AbstractCell
end_regs pc = replicate 5 PublicAny ++ SlotAddress ∷ PublicNumber pc ∷ replicate 25 PublicAny

abbrev pub end_cells : Valuation → ℕ → AbstractState
end_cells s pc = record {
  regs = end_regs pc;
  port_a = PublicNumber pc;
  port_b = Zero;
  res = PublicAny;
  load = PublicNumber pc;
  store = PublicAny;
  scr = SlotAddress;
  mul = PublicAny;
  zero = Zero;
  slot = PublicNumber pc ∷ numbered TaskReg 1 31 ++ bound_cells s.task;
  data_words = [];
}

abbrev pub end_state : Valuation → CsrFile → ContextState → ℕ → PathState
end_state s csrs c pc = record { cells = end_cells s pc; index = middle_len; csrs = task_csrs s.task pc csrs; held = c }

abbrev pub taken_asks : Valuation → List PathCondition
taken_asks s = IsTaken Beq (slot_address s.slot) 0 false ∷ []

-- twelve instructions on
pub taken-path : (s : Valuation) (csrs : CsrFile) (c : ContextState) (pc idle : ℕ)
    → path_of every_word s (middle_instrs idle) (straight 12) (record { cells = taken_cells s pc; index = take_index + 1; csrs = csrs; held = c })
    ≡ Some (record { end = end_state s csrs c pc; conditions = taken_asks s })
unfolding path_from
taken-path s csrs c pc idle = refl

-- cells that are known exactly are the same in two rows
abbrev is_exact : AbstractCell → Bool
is_exact (PublicNumber value) = true
is_exact (TaskReg number) = true
is_exact cell = false

exact-same : (s : Valuation) (a : AbstractCell) (c d : Cell) → is_exact a ≡ true → Denotes s a c → Denotes s a d → c ≡ d
exact-same s (PublicNumber value) c d e one two = one ∙ sym two
exact-same s (TaskReg number) c d e one two = one.2 ∙ sym two.2
exact-same s Zero c d e one two = absurd (cc e)
exact-same s SlotAddress c d e one two = absurd (cc e)
exact-same s PublicAny c d e one two = absurd (cc e)
exact-same s (OldSlotWord index) c d e one two = absurd (cc e)
exact-same s GivenCell c d e one two = absurd (cc e)
exact-same s AnyTagged c d e one two = absurd (cc e)

pub rows-same : (s : Valuation) (abstract : List AbstractCell) (cs ds : List Cell) → list_all is_exact abstract ≡ true → AllDenote s abstract cs
    → AllDenote s abstract ds → cs ≡ ds
rows-same s [] [] [] e one two = refl
rows-same s [] [] (d ∷ ds) e one two = absurd two
rows-same s [] (c ∷ cs) ds e one two = absurd one
rows-same s (a ∷ abstract) [] ds e one two = absurd one
rows-same s (a ∷ abstract) (c ∷ cs) [] e one two = absurd two
rows-same s (a ∷ abstract) (c ∷ cs) (d ∷ ds) e one two =
    let both = and_parts (is_exact a) (list_all is_exact abstract) e in
    let same = exact-same s a c d both.0 one.0 two.0 in
    let more = rows-same s abstract cs ds both.1 one.1 two.1 in
    ap (λ x. x ∷ cs) same ∙ ap (λ xs. d ∷ xs) more

-- The words of a slot of which no less is known than of a ready context's are those of the context.
pub words-are : (tasks : List Task) (c : ContextState) → IsReadyContext tasks c → (words : List Cell)
    → AllDenote (taken_setting tasks c) (PublicNumber (pc_of c) ∷ numbered TaskReg 1 31 ++ bound_cells (task_of c.body)) words → words ≡ c.words
words-are tasks c r words all =
    rows-same (taken_setting tasks c) (PublicNumber (pc_of c) ∷ numbered TaskReg 1 31 ++ bound_cells (task_of c.body)) words c.words refl all (words-stand tasks c r)

-- so what a hart holds is the context
pub held-as-before : (tasks : List Task) (c : ContextState) → IsReadyContext tasks c → (o : Option ContextState) → o ≡ Some (record c { words = held_words o })
    → AllDenote (taken_setting tasks c) (PublicNumber (pc_of c) ∷ numbered TaskReg 1 31 ++ bound_cells (task_of c.body)) (held_words o) → o ≡ Some c
held-as-before tasks c r o held all = held ∙ ap (λ ws. Some (record c { words = ws })) (words-are tasks c r (held_words o) all)

-- What is so of a hart at MRET, after the restore part.
pub record IsRestored (tasks : List Task) (number at : ℕ) (csrs : CsrFile) (c : ContextState) (h : HartState) : Type 0 where
  pub mode : h.csrs.mode ≡ Machine
  pub csrs_are : h.csrs ≡ record csrs { mscratch = h.csrs.mscratch; is_timer_pending = h.csrs.is_timer_pending }
  pub pc : h.pc ≡ at
  pub sound : IsHartSound tasks number h
  pub held : h.held ≡ Some c
  pub scratch : h.csrs.mscratch ≡ public (slot_address c.slot)
  pub registers : AreOwn c.body.count c (registers_of h)
  pub latches : (p : Place) → IsOtherLatch p → (hart_cell h p).tag ≡ Public

module _ (k : KernelParts) (kernel : IsKernel k) (paths-lead : PathsLead) (tasks : List Task) (number : ℕ) (c : ContextState) (r : IsReadyContext tasks c)
    (csrs : CsrFile) where
  -- a hart that is to restore the context, with the task's CSRs
  abbrev pub Restoring : HartState → Type 0
  Restoring g =
      IsRestoring tasks number (restore_at k) g c
      × (g.csrs ≡ record (task_csrs (task_of c.body) (pc_of c) csrs) { mscratch = g.csrs.mscratch; is_timer_pending = g.csrs.is_timer_pending })

  pub restoring : (g : HartState) → IsAsPathSays (taken_setting tasks c) number (middle_at k) (end_state (taken_setting tasks c) csrs c (pc_of c)) g → Restoring g
  restoring g says =
      let s = taken_setting tasks c in
      let ok = taken-setting-sound tasks c r in
      let p = end_state s csrs c (pc_of c) in (
        record {
          mode = says.mode;
          sound = path-sound s ok number (middle_at k) p g says;
          pc = says.pc ∙ omega arith;
          held = held-as-before tasks c r g.held says.held says.cells.slot;
          context = r;
          x5 = regs-get s (end_regs (pc_of c)) g.regs 4 says.cells.regs;
          scratch = says.cells.scr;
          latches = λ q is. latch-public s (end_cells s (pc_of c)) g (are-public (end_cells s (pc_of c)) refl) says.cells q is;
        },
        says.csrs,
      )

  -- from the take to the restore part
  pub to-restore : (h : HartState) → IsAsPathSays (taken_setting tasks c) number (middle_at k) (taken_state (taken_setting tasks c) csrs c) h
      → Leads tasks k.code.words number 12 Restoring h
  to-restore h says =
      let s = taken_setting tasks c in
      let ok = taken-setting-sound tasks c r in
      let low = ok.slot in
      leads-map tasks k.code.words number 12 (IsAsPathSays s number (middle_at k) (end_state s csrs c (pc_of c))) Restoring h (λ g there. restoring g there)
      (paths-lead every_word s number (middle_at k) k.code.words (middle_instrs (middle_len + k.restore + 1)) (straight 12)
      (taken_state s csrs c) (record { end = end_state s csrs c (pc_of c); conditions = taken_asks s }) h
      ok kernel.linked.middle (taken-path s csrs c (pc_of c) (middle_len + k.restore + 1))
      (ne_eqb (slot_address s.slot) 0 (λ e. absurd (omega (arith, e))), tt) says)

  -- each whole run of the restore part restores
  pub runs-restored : (g : HartState) → Restoring g → (ticks : List Bool) → length ticks ≡ k.restore
      → ComesTo (λ a. IsRestored tasks number (mret_at k) (task_csrs (task_of c.body) (pc_of c) csrs) c a.hart) (run_of_part k.code.words ticks g)
  runs-restored g at ticks same =
      let run = run_of_part k.code.words ticks g in
      let file = task_csrs (task_of c.body) (pc_of c) csrs in
      let Values : HartAndProbes → Type 0 = λ a. HasRestored ticks g c a.hart in
      let Tags : HartAndProbes → Type 0 = λ a. HasRestoredTags c a.hart in
      let Sound : HartAndProbes → Type 0 = IsPartSound tasks number c in
      let At : HartAndProbes → Type 0 = λ a. a.hart.pc ≡ g.pc + 4 * length ticks in
      let values = kernel.restores_values tasks number g c ticks at.0 same in
      let tags = kernel.restores_explained.tags tasks number g c ticks at.0 same in
      let sound = kernel.restores_explained.sound tasks number g c ticks at.0 (omega (arith, same)) in
      let pc = at.0.pc in
      comes-map (λ a. (Values a × Tags a) × (Sound a × At a)) (λ a. IsRestored tasks number (mret_at k) file c a.hart) run
      (λ a all. record {
        mode = ap (λ (x : CsrFile). x.mode) all.0.0.csrs ∙ at.0.mode;
        csrs_are = all.0.0.csrs
            ∙ ap (λ (x : CsrFile). record x { mscratch = a.hart.csrs.mscratch; is_timer_pending = g.csrs.is_timer_pending || has_tick ticks }) at.1
            ∙ ap (λ b. record file { mscratch = a.hart.csrs.mscratch; is_timer_pending = b }) (sym (ap (λ (x : CsrFile). x.is_timer_pending) all.0.0.csrs));
        pc = (let there = all.1.1 in omega (arith, pc, same, there));
        sound = all.1.0.sound;
        held = all.0.0.held;
        scratch = public-is a.hart.csrs.mscratch (slot_address c.slot) all.0.0.scratch (all.0.1.latches Scr tt);
        registers = all.0.1.registers;
        latches = all.0.1.latches;
      })
      (comes-both (λ a. Values a × Tags a) (λ a. Sound a × At a) run (comes-both Values Tags run values tags)
      (comes-both Sound At run sound (run-pc Values k.code.words ticks g values)))

  -- The restore part leads on to MRET.
  restores : (g : HartState) → Restoring g
      → Leads tasks k.code.words number k.restore (IsRestored tasks number (mret_at k) (task_csrs (task_of c.body) (pc_of c) csrs) c) g
  restores g at =
      part-leads tasks k.code.words number c (IsRestored tasks number (mret_at k) (task_csrs (task_of c.body) (pc_of c) csrs) c) k.restore g
      (λ ticks le. kernel.restores_explained.sound tasks number g c ticks at.0 le) (λ ticks same. runs-restored g at ticks same)

  -- and so the take does
  pub to-mret : (h : HartState) → IsAsPathSays (taken_setting tasks c) number (middle_at k) (taken_state (taken_setting tasks c) csrs c) h
      → Leads tasks k.code.words number (12 + k.restore) (IsRestored tasks number (mret_at k) (task_csrs (task_of c.body) (pc_of c) csrs) c) h
  to-mret h says =
      leads-then tasks k.code.words number 12 k.restore Restoring (IsRestored tasks number (mret_at k) (task_csrs (task_of c.body) (pc_of c) csrs) c) h
      (to-restore h says) (λ g at. restores g at)
