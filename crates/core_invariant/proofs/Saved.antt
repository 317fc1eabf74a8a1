-- The save part leads a trapped hart to a saved task, and paths of the middle lead it on from there.
use Rattle.std.proofs.Common.{◌≡◌, ℕ, zero, suc, ◌+◌, ◌*◌, ◌≤◌, inl, inr, Bool, List, [], ◌∷◌, ◌++◌, length, get_or, Option, Some, refl, sym, ap, subst, ◌∙◌, arith, lit<}
use Rattle.isa_model.specs.declared.task.Task.{Task}
use Rattle.hart_model.specs.declared.place.Place.TheVariants.{Reg, PortA, PortB, Res, Load, Store, Scr, Mul, DataWord}
use Rattle.hart_model.specs.declared.tag.Cell.{Cell}
use Rattle.hart_model.specs.declared.tag.Tag.TheVariants.{Public}
use Rattle.hart_model.specs.Cells.{blank}
use Rattle.hart_model.specs.Csrs.{CsrFile, public}
use Rattle.hart_model.specs.Pmp.{bounds_of}
use Rattle.hart_model.specs.Context.{ContextState, slot_word, slot_address, task_of}
use Rattle.hart_model.specs.HartState.{HartState, hart_cell, cells_of, held_words, held_data}
use Rattle.hart_model.specs.Writes.{HartAndProbes}
use Rattle.core_model.specs.Soundness.{IsTruthful, IsHartSound}
use Rattle.core_model.specs.Routines.{run_of_part, ComesTo, IsPartSound, HasSaved, HasSavedTags}
use Rattle.symbolic_run.specs.AbstractCell.{AbstractCell, PublicAny, PublicNumber, TaskReg}
use Rattle.symbolic_run.specs.Concretization.{Valuation, AllDenote, IsDenotedBy}
use Rattle.symbolic_run.specs.SymbolicPath.{Path, path_of, AreSo, IsAsPathSays}
use Rattle.symbolic_run.specs.Ways.{Leads}
use Rattle.symbolic_run.specs.Laws.{PathsLead}
use Rattle.symbolic_run.proofs.Denoted.{denote-next, denote-end}
use Rattle.symbolic_run.proofs.Ways.{leads-map, leads-then}
use Rattle.symbolic_run.proofs.ComputedPaths.{every_word}
use Rattle.symbolic_run.proofs.PartRuns.{comes-map, comes-both, run-pc}
use Rattle.core_invariant.specs.KernelStates.{middle_instrs, middle_len, KernelParts, IsKernel, middle_at}
use Rattle.core_invariant.proofs.KernelCells.{numbered, bound_cells, saved_cells, at_start}
use Rattle.core_invariant.specs.CutPoints.{IsAtTrap}
use Rattle.core_invariant.proofs.Numbered.{denote-numbered}
use Rattle.core_invariant.proofs.TakenStands.{public-is, kernel-regs-stand}
use Rattle.core_invariant.proofs.PartLeads.{part-leads}
use Rattle.core_invariant.proofs.Trapped.{trapped_setting, words_of, AreOwn, trap-setting-sound}

-- What the save part leaves of a hart with a context, at the middle.
pub record IsSaved (tasks : List Task) (number n at : ℕ) (before : HartState) (c : ContextState) (h : HartState) : Type 0 where
  pub pc : h.pc ≡ at
  pub sound : IsHartSound tasks number h
  pub ticks : List Bool
  pub values : HasSaved n ticks before c h
  pub tags : HasSavedTags n c h

module _ {tasks : List Task} {number n cause : ℕ} {h : HartState} {c : ContextState} (trap : IsAtTrap tasks number n cause h c) where
  -- each whole run of the save part saves
  pub runs-saved : (k : KernelParts) → IsKernel k → (ticks : List Bool) → length ticks ≡ k.save
      → ComesTo (λ a. IsSaved tasks number n (middle_at k) h c a.hart) (run_of_part k.code.words ticks h)
  runs-saved k kernel ticks same =
      let run = run_of_part k.code.words ticks h in
      let Values : HartAndProbes → Type 0 = λ a. HasSaved n ticks h c a.hart in
      let Tags : HartAndProbes → Type 0 = λ a. HasSavedTags n c a.hart in
      let Sound : HartAndProbes → Type 0 = IsPartSound tasks number c in
      let At : HartAndProbes → Type 0 = λ a. a.hart.pc ≡ h.pc + 4 * length ticks in
      let values = kernel.saves_values tasks number n h c ticks trap.trapped same in
      let tags = kernel.saves_explained.tags tasks number n h c ticks trap.trapped same in
      let sound = kernel.saves_explained.sound tasks number n h c ticks trap.trapped (omega (arith, same)) in
      let pc = trap.pc in
      comes-map (λ a. (Values a × Tags a) × (Sound a × At a)) (λ a. IsSaved tasks number n (middle_at k) h c a.hart) run
      (λ a all. record {
        pc = (let at = all.1.1 in omega (arith, pc, same, at));
        sound = all.1.0.sound;
        ticks = ticks;
        values = all.0.0;
        tags = all.0.1;
      })
      (comes-both (λ a. Values a × Tags a) (λ a. Sound a × At a) run (comes-both Values Tags run values tags)
      (comes-both Sound At run sound (run-pc Values k.code.words ticks h values)))

  -- The save part leads a trapped hart to a saved task.
  pub trap-saves : (k : KernelParts) → IsKernel k → Leads tasks k.code.words number k.save (IsSaved tasks number n (middle_at k) h c) h
  trap-saves k kernel =
      part-leads tasks k.code.words number c (IsSaved tasks number n (middle_at k) h c) k.save h
      (λ ticks le. kernel.saves_explained.sound tasks number n h c ticks trap.trapped le) (λ ticks same. runs-saved k kernel ticks same)

module _ {tasks : List Task} {number n cause : ℕ} {h : HartState} {c : ContextState}
    (trap : IsAtTrap tasks number n cause h c) (given_cell : Cell) (tape_truthful : IsTruthful tasks given_cell) where
  -- the setting of a saved hart, whose task's registers are the words of its slot
  abbrev pub saved_setting : HartState → Valuation
  saved_setting g = trapped_setting tasks n (words_of g) c given_cell

  module _ (at : ℕ) (g : HartState) (is : IsSaved tasks number n at h c g) where
    -- a word that the save part leaves
    other-word : (i : ℕ) → 32 ≤ i → words_of g i ≡ slot_word c i
    other-word i high = is.values.others i (inr high)

    saved-words : AllDenote (saved_setting g) (PublicAny ∷ numbered TaskReg 1 31 ++ bound_cells (task_of c.body)) (held_words g.held)
    saved-words =
        let s = saved_setting g in
        let len : length (held_words g.held) ≡ 36 = is.values.words in
        let b : ℕ → AbstractCell = λ i. PublicNumber (get_or (bounds_of (task_of c.body)) i 0) in
        denote-next s PublicAny (numbered TaskReg 1 31 ++ bound_cells (task_of c.body)) (held_words g.held) 0 (omega (arith, len))
        (ap (λ (x : Cell). x.tag) (is.values.others 0 (inl refl)) ∙ trap.saved_pc)
        (denote-numbered s TaskReg 1 31 (bound_cells (task_of c.body)) (held_words g.held) (omega (arith, len)) (λ k low under. (low, under, refl))
        (denote-next s (b 0) (b 1 ∷ b 2 ∷ b 3 ∷ []) (held_words g.held) 32 (omega (arith, len)) (other-word 32 (omega arith) ∙ trap.bounds 0 (lit< tt))
        (denote-next s (b 1) (b 2 ∷ b 3 ∷ []) (held_words g.held) 33 (omega (arith, len)) (other-word 33 (omega arith) ∙ trap.bounds 1 (lit< tt))
        (denote-next s (b 2) (b 3 ∷ []) (held_words g.held) 34 (omega (arith, len)) (other-word 34 (omega arith) ∙ trap.bounds 2 (lit< tt))
        (denote-next s (b 3) [] (held_words g.held) 35 (omega (arith, len)) (other-word 35 (omega arith) ∙ trap.bounds 3 (lit< tt))
        (denote-end s (held_words g.held) 36 (omega (arith, len))))))))

    register-public : (i : ℕ) → 1 ≤ i → (get_or g.regs i blank).tag ≡ Public
    register-public zero low = absurd (omega arith)
    register-public (suc i) low = is.tags.latches (Reg (suc i)) tt

    x5-is : get_or g.regs 5 blank ≡ public (slot_address c.slot)
    x5-is = public-is (hart_cell g (Reg 5)) (slot_address c.slot) is.values.x5 (is.tags.latches (Reg 5) tt)

    saved-denotes : IsDenotedBy (saved_setting g) (saved_cells (saved_setting g) PublicAny) (cells_of g)
    saved-denotes = record {
      regs = kernel-regs-stand (saved_setting g) g.regs is.sound.registers register-public x5-is;
      port_a = is.tags.latches PortA tt;
      port_b = is.tags.latches PortB tt;
      res = is.tags.latches Res tt;
      load = is.tags.latches Load tt;
      store = is.tags.latches Store tt;
      scr = public-is g.csrs.mscratch (slot_address c.slot) is.values.scratch (is.tags.latches Scr tt);
      mul = is.tags.latches Mul tt;
      zero = is.sound.zero;
      slot = saved-words;
      no_data = refl;
    }

    -- A saved hart is as the start of the middle says.
    pub saved-says : IsAsPathSays (saved_setting g) number at (at_start (saved_cells (saved_setting g) PublicAny) h.csrs c) g
    saved-says =
        let pending = ap (λ (x : CsrFile). x.is_timer_pending) is.values.csrs in
        let P : Option ContextState → Type 0 = λ o. (i : ℕ) → IsTruthful tasks (get_or (held_data o) i blank) in
        record {
          mode = ap (λ (x : CsrFile). x.mode) is.values.csrs ∙ trap.mode;
          csrs = is.values.csrs ∙ ap (λ b. record h.csrs { mscratch = g.csrs.mscratch; is_timer_pending = b }) (sym pending);
          csrs_sound = is.sound.csrs;
          pc = is.pc ∙ omega arith;
          held = is.values.held;
          slot = refl;
          cells = saved-denotes;
          registers = is.sound.registers;
          zero_word = is.sound.zero;
          data_words = subst P is.values.held (λ i. is.sound.truthful (DataWord i));
        }

  -- What leads on from every saved hart leads on from the trap.
  pub after-save : (k : KernelParts) → IsKernel k → (There : HartState → Type 0) (more : ℕ)
      → ((regs : ℕ → Cell) → AreOwn n c regs → (g : HartState)
      → IsAsPathSays (trapped_setting tasks n regs c given_cell) number (middle_at k)
      (at_start (saved_cells (trapped_setting tasks n regs c given_cell) PublicAny) h.csrs c) g
      → Leads tasks k.code.words number more There g)
      → Leads tasks k.code.words number (k.save + more) There h
  after-save k kernel There more further =
      leads-then tasks k.code.words number k.save more (IsSaved tasks number n (middle_at k) h c) There h (trap-saves trap k kernel)
      (λ g is. further (words_of g) is.tags.saved g (saved-says (middle_at k) g is))

  -- A path of the middle by these answers, from a saved task: all is so that it asks, and each hart at its end stands there.
  pub record EndsThere (regs : ℕ → Cell) (k : KernelParts) (csrs : CsrFile) (held : ContextState) (answers : List Bool) (There : HartState → Type 0) : Type 0 where
    pub path : Path
    pub is_path : path_of every_word (trapped_setting tasks n regs c given_cell) (middle_instrs (middle_len + k.restore + 1)) answers
        (at_start (saved_cells (trapped_setting tasks n regs c given_cell) PublicAny) csrs held) ≡ Some path
    pub so : AreSo path.conditions
    pub there : (g : HartState) → IsAsPathSays (trapped_setting tasks n regs c given_cell) number (middle_at k) path.end g → There g

  -- So it leads the trapped hart there.
  pub trap-leads : (k : KernelParts) → IsKernel k → PathsLead → (csrs : CsrFile) (held : ContextState) → h.csrs ≡ csrs → c ≡ held
      → (answers : List Bool) (There : HartState → Type 0) → ((regs : ℕ → Cell) → AreOwn n c regs → EndsThere regs k csrs held answers There)
      → Leads tasks k.code.words number (k.save + length answers) There h
  trap-leads k kernel paths-lead csrs held csrs_are held_is answers There ends =
      after-save k kernel There (length answers) (λ regs own g says.
      let s : Valuation = trapped_setting tasks n regs c given_cell in
      let e = ends regs own in
      let Says : CsrFile → ContextState → Type 0 = λ x d. IsAsPathSays s number (middle_at k) (at_start (saved_cells s PublicAny) x d) g in
      let P : CsrFile → Type 0 = λ x. Says x c in
      leads-map tasks k.code.words number (length answers) (IsAsPathSays s number (middle_at k) e.path.end) There g e.there
      (paths-lead every_word s number (middle_at k) k.code.words (middle_instrs (middle_len + k.restore + 1)) answers
      (at_start (saved_cells s PublicAny) csrs held) e.path g (trap-setting-sound trap given_cell tape_truthful regs own) kernel.linked.middle e.is_path e.so
      (subst (Says csrs) held_is (subst P csrs_are says))))
