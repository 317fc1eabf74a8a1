-- Each trap that ends a task leads to the give of the ended task: used fuel, an exception, and the services exit, out without room, in
-- without a word, and one that there isn't.
use Rattle.std.proofs.Common.{◌≡◌, ℕ, zero, suc, ◌+◌, ◌-◌, ◌^◌, ◌<◌, ◌≤◌, ◌≢◌, true, false, List, [], ◌∷◌, length, slice_get, nat_lt, None, refl, sym, ap, ◌∙◌, arith}
use Rattle.std.proofs.lemmas.Bool.{ne_eqb, eq-eqb, lt-ltb, ltb-false, le-ltb}
use Rattle.isa_model.specs.declared.task.Task.{Task}
use Rattle.isa_model.specs.declared.instr.Cmp.TheVariants.{Beq, Blt}
use Rattle.isa_model.specs.declared.latch.Latch.TheVariants as latches
use Rattle.isa_model.specs.declared.ends.End.TheVariants.{Exited, Faulted, BadCall, TapeEnd, OutFull, OutOfSteps}
use Rattle.isa_model.specs.declared.ends.EndKind.TheVariants as kinds
use Rattle.isa_model.specs.Bits.{low_word}
use Rattle.isa_model.specs.Arithmetic.{is_taken}
use Rattle.isa_model.specs.Alone.{alone_at}
use Rattle.isa_model.specs.AloneValue.{alone_value}
use Rattle.hart_model.specs.declared.tag.Cell.{Cell}
use Rattle.hart_model.specs.Context.{ContextState, task_of}
use Rattle.hart_model.specs.HartState.{HartState}
use Rattle.hart_model.specs.Traps.{fuel_cause}
use Rattle.symbolic_run.specs.AbstractCell.{Zero, PublicAny, PublicNumber}
use Rattle.symbolic_run.specs.Laws.{PathsLead}
use Rattle.core_invariant.specs.KernelStates.{KernelParts, IsKernel}
use Rattle.core_invariant.specs.CutPoints.{IsFuelTrap, IsFaultTrap, IsCallTrap}
use Rattle.core_invariant.proofs.DonePaths.{fuel_answers, fault_answers, exit_answers, out_full_answers, tape_end_answers, bad_call_answers, fuel-path, fault-path, exit-path, out-full-path, tape-end-path, bad-call-path}
use Rattle.core_invariant.proofs.EndedCases.{fuel-ended, fault-ended, exit-ended, out-full-ended, tape-end-ended, bad-call-ended}
use Rattle.core_invariant.proofs.DoneEnds.{idle-index, setting_with, EndsDone, LeadsToDone, done-leads}
use Rattle.core_invariant.proofs.Trapped.{AreOwn, own-reg-value}

-- a cause below 8 is no negative number
not-negative : (cause : ℕ) → cause < 8 → is_taken Blt cause 0 ≡ false
not-negative cause low =
    let lt : cause < 2 ^ 31 = omega arith in
    let test : nat_lt cause (2 ^ 31) ≡ true = lt-ltb cause (2 ^ 31) lt in
    rw test (le-ltb cause 0 (omega arith))

-- a list without an element at an index is no longer than this
none-left : (xs : List ℕ) (i : ℕ) → slice_get xs i ≡ None → length xs ≤ i
none-left [] i none = omega arith
none-left (x ∷ xs) zero none = absurd (cc none)
none-left (x ∷ xs) (suc i) none = let le : length xs ≤ i = none-left xs i none in omega arith

module _ (paths-lead : PathsLead) (k : KernelParts) (kernel : IsKernel k) {tasks : List Task} {number : ℕ} {h : HartState} {c : ContextState} where
  -- A task that has used its fuel.
  pub fuel-ends : (f : IsFuelTrap tasks number h c)
      → (regs : ℕ → Cell) → AreOwn c.body.count c regs → EndsDone paths-lead k kernel f.trap regs fuel_answers kinds.OutOfSteps
  fuel-ends f regs own =
      let pc : ℕ = (alone_at (task_of c.body) c.body.count).pc in
      record {
        conditions = _;
        x7 = PublicNumber fuel_cause;
        load = PublicAny;
        pc = PublicNumber pc;
        end = OutOfSteps;
        path = fuel-path (setting_with paths-lead k kernel f.trap regs) (idle-index paths-lead k kernel f.trap) pc h.csrs c;
        so = (refl, (refl, (refl, tt)));
        untagged = refl;
        ended = fuel-ended f;
        kind_is = refl;
      }

  pub fuel-leads : IsFuelTrap tasks number h c
      → LeadsToDone tasks k number h
  fuel-leads f = done-leads paths-lead k kernel f.trap fuel_answers kinds.OutOfSteps (fuel-ends f)

  -- An instruction that faults.
  pub fault-ends : {n cause : ℕ} (f : IsFaultTrap tasks number n cause h c) → (regs : ℕ → Cell) → AreOwn n c regs
      → EndsDone paths-lead k kernel f.trap regs fault_answers (kinds.Faulted cause)
  fault-ends {n = n} {cause = cause} f regs own =
      let pc : ℕ = (alone_at (task_of c.body) n).pc in
      record {
        conditions = _;
        x7 = PublicNumber cause;
        load = PublicAny;
        pc = PublicNumber pc;
        end = Faulted cause pc;
        path = fault-path (setting_with paths-lead k kernel f.trap regs) (idle-index paths-lead k kernel f.trap) pc h.csrs c cause (lt-ltb cause 8 f.is_low);
        so = (ne_eqb cause 8 (λ e. omega (arith, e, f.is_low)), (not-negative cause f.is_low, tt));
        untagged = refl;
        ended = fault-ended f;
        kind_is = refl;
      }

  pub fault-leads : {n cause : ℕ} → IsFaultTrap tasks number n cause h c → LeadsToDone tasks k number h
  fault-leads {cause = cause} f = done-leads paths-lead k kernel f.trap fault_answers (kinds.Faulted cause) (fault-ends f)

  -- The services that end a task, by a7.
  module _ {n : ℕ} (f : IsCallTrap tasks number n h c) where
    abbrev a7 : ℕ
    a7 = alone_value (task_of c.body) n (latches.Reg 17)

    abbrev pc-at : ℕ
    pc-at = (alone_at (task_of c.body) n).pc

    abbrev next-pc : ℕ
    next-pc = low_word (pc-at + 4)

    a7-value : (regs : ℕ → Cell) → AreOwn n c regs → (regs 17).value ≡ a7
    a7-value regs own = own-reg-value n c regs own 17 (omega arith) (omega arith)

    pub is-service : (regs : ℕ → Cell) → AreOwn n c regs → (number : ℕ) → a7 ≡ number → is_taken Beq (regs 17).value number ≡ true
    is-service regs own number e = eq-eqb (regs 17).value number (a7-value regs own ∙ e)

    pub not-service : (regs : ℕ → Cell) → AreOwn n c regs → (number : ℕ) → a7 ≢ number → is_taken Beq (regs 17).value number ≡ false
    not-service regs own number ne = ne_eqb (regs 17).value number (λ e. ne (sym (a7-value regs own) ∙ e))

    pub exit-ends : alone_value (task_of c.body) n (latches.Reg 17) ≡ 0
        → (regs : ℕ → Cell) → AreOwn n c regs → EndsDone paths-lead k kernel f.trap regs exit_answers kinds.Exited
    exit-ends e regs own =
        record {
          conditions = _;
          x7 = PublicNumber 8;
          load = Zero;
          pc = PublicNumber next-pc;
          end = Exited (regs 10).value;
          path = exit-path (setting_with paths-lead k kernel f.trap regs) (idle-index paths-lead k kernel f.trap) pc-at h.csrs c;
          so = (refl, (is-service regs own 0 e, tt));
          untagged = refl;
          ended = exit-ended f (regs 10).value (own-reg-value n c regs own 10 (omega arith) (omega arith)) e;
          kind_is = refl;
        }

    pub exit-leads : alone_value (task_of c.body) n (latches.Reg 17) ≡ 0
        → LeadsToDone tasks k number h
    exit-leads e = done-leads paths-lead k kernel f.trap exit_answers kinds.Exited (exit-ends e)

    pub out-full-ends : alone_value (task_of c.body) n (latches.Reg 17) ≡ 1
        → nat_lt (length (alone_at (task_of c.body) n).output) (task_of c.body).out_max ≡ false
        → (regs : ℕ → Cell) → AreOwn n c regs → EndsDone paths-lead k kernel f.trap regs out_full_answers kinds.OutFull
    out-full-ends e full regs own =
        let room : c.body.out_max ≤ length (alone_at (task_of c.body) n).output = ltb-false (length (alone_at (task_of c.body) n).output) c.body.out_max full in
        let same : length c.body.output ≡ length (alone_at (task_of c.body) n).output = ap (λ (xs : List ℕ). length xs) f.trap.output in
        let left : c.body.out_max - length c.body.output ≡ 0 = omega arith in
        record {
          conditions = _;
          x7 = PublicNumber 0x101;
          load = PublicNumber (c.body.out_max - length c.body.output);
          pc = PublicNumber next-pc;
          end = OutFull;
          path = out-full-path (setting_with paths-lead k kernel f.trap regs) (idle-index paths-lead k kernel f.trap) pc-at h.csrs c;
          so = (
            refl,
            (not-service regs own 0 (λ z. cc (e, z)), (is-service regs own 1 e, (eq-eqb (c.body.out_max - length c.body.output) 0 left, tt))),
          );
          untagged = refl;
          ended = out-full-ended f e full;
          kind_is = refl;
        }

    pub out-full-leads : alone_value (task_of c.body) n (latches.Reg 17) ≡ 1
        → nat_lt (length (alone_at (task_of c.body) n).output) (task_of c.body).out_max ≡ false
        → LeadsToDone tasks k number h
    out-full-leads e full = done-leads paths-lead k kernel f.trap out_full_answers kinds.OutFull (out-full-ends e full)

    pub tape-end-ends : alone_value (task_of c.body) n (latches.Reg 17) ≡ 2 → slice_get (task_of c.body).tape (alone_at (task_of c.body) n).tape_at ≡ None
        → (regs : ℕ → Cell) → AreOwn n c regs → EndsDone paths-lead k kernel f.trap regs tape_end_answers kinds.TapeEnd
    tape-end-ends e none regs own =
        let past : length c.body.tape ≤ (alone_at (task_of c.body) n).tape_at = none-left c.body.tape (alone_at (task_of c.body) n).tape_at none in
        let same : c.body.tape_at ≡ (alone_at (task_of c.body) n).tape_at = f.trap.tape_at in
        let left : length c.body.tape - c.body.tape_at ≡ 0 = omega arith in
        record {
          conditions = _;
          x7 = PublicNumber 0x100;
          load = PublicNumber (length c.body.tape - c.body.tape_at);
          pc = PublicNumber next-pc;
          end = TapeEnd;
          path = tape-end-path (setting_with paths-lead k kernel f.trap regs) (idle-index paths-lead k kernel f.trap) pc-at h.csrs c;
          so = (
            refl,
            (
              not-service regs own 0 (λ z. cc (e, z)),
              (
                not-service regs own 1 (λ z. cc (e, z)),
                (is-service regs own 2 e, (eq-eqb (length c.body.tape - c.body.tape_at) 0 left, tt)),
              ),
            ),
          );
          untagged = refl;
          ended = tape-end-ended f e none;
          kind_is = refl;
        }

    pub tape-end-leads : alone_value (task_of c.body) n (latches.Reg 17) ≡ 2 → slice_get (task_of c.body).tape (alone_at (task_of c.body) n).tape_at ≡ None
        → LeadsToDone tasks k number h
    tape-end-leads e none = done-leads paths-lead k kernel f.trap tape_end_answers kinds.TapeEnd (tape-end-ends e none)

    pub bad-call-ends : alone_value (task_of c.body) n (latches.Reg 17) ≢ 0 → alone_value (task_of c.body) n (latches.Reg 17) ≢ 1
        → alone_value (task_of c.body) n (latches.Reg 17) ≢ 2 → alone_value (task_of c.body) n (latches.Reg 17) ≢ 3
        → (regs : ℕ → Cell) → AreOwn n c regs → EndsDone paths-lead k kernel f.trap regs bad_call_answers (kinds.BadCall a7)
    bad-call-ends not0 not1 not2 not3 regs own =
        record {
          conditions = _;
          x7 = PublicNumber 0x102;
          load = Zero;
          pc = PublicNumber next-pc;
          end = BadCall (regs 17).value;
          path = bad-call-path (setting_with paths-lead k kernel f.trap regs) (idle-index paths-lead k kernel f.trap) pc-at h.csrs c;
          so = (
            refl,
            (
              not-service regs own 0 not0,
              (not-service regs own 1 not1, (not-service regs own 2 not2, (not-service regs own 3 not3, tt))),
            ),
          );
          untagged = refl;
          ended = bad-call-ended f (regs 17).value (a7-value regs own) not0 not1 not2 not3;
          kind_is = ap (λ (i : ℕ). kinds.BadCall i) (a7-value regs own);
        }

    pub bad-call-leads : alone_value (task_of c.body) n (latches.Reg 17) ≢ 0 → alone_value (task_of c.body) n (latches.Reg 17) ≢ 1
        → alone_value (task_of c.body) n (latches.Reg 17) ≢ 2 → alone_value (task_of c.body) n (latches.Reg 17) ≢ 3
        → LeadsToDone tasks k number h
    bad-call-leads not0 not1 not2 not3 = done-leads paths-lead k kernel f.trap bad_call_answers (kinds.BadCall a7) (bad-call-ends not0 not1 not2 not3)
