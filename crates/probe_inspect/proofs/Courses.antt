-- Runs that take the course of another: what is seen of them, and what they write.
use Rattle.std.proofs.Common.{◌≡◌, ◌⊎◌, inl, inr, ℕ, zero, suc, ◌+◌, ◌-◌, ◌<◌, ◌≤◌, List, [], ◌∷◌, ◌++◌, map, length, get_or, slice_get, Option, Some, None, is_none, if◌then◌else◌, IsSome, refl, ap, sym, ◌∙◌, subst, arith}
use Rattle.std.proofs.lemmas.Option.{slice_get_within, slice_get-get_or, same_Some}
use Rattle.isa_model.specs.declared.ends.End.{End}
use Rattle.isa_model.specs.declared.control.Control.{Control}
use Rattle.isa_model.specs.declared.control.Deed.{Deed}
use Rattle.isa_model.specs.declared.latch.Latch.{Latch}
use Rattle.isa_model.specs.declared.task.Task.{Task}
use Rattle.isa_model.specs.Effect.{Write}
use Rattle.isa_model.specs.Alone.{AloneState, alone_at, after_instr}
use Rattle.isa_model.specs.Control.{control_at}
use Rattle.isa_model.specs.Course.{Sight, sight_at}
use Rattle.isa_model.proofs.AloneLaws.{alone-stays}
use Rattle.hart_model.specs.UserLaws.{alone_effect}
use Rattle.core_model.specs.declared.world.World.{World}
use Rattle.core_model.specs.Loaded.{AreAsLong}
use Rattle.core_model.specs.LowEquivalence.{AreTasksAlike}
use Rattle.core_model.specs.Security.{task_in}
use Rattle.core_model.specs.Places.{served_latches, latches_written, written_at}
use Rattle.noninterference.proofs.UserTraps.{latches_of}
use Rattle.noninterference.proofs.ControlEffects.{control-effects}
use Rattle.probing_laws.specs.Verdicts.{AllTakeOneCourse, IsFirstDivergence}
use Rattle.probing_laws.proofs.Sights.{one-course}
use Rattle.probing_laws.proofs.Transfers.{item-has}
use Rattle.probe_inspect.specs.Course.{IsSeenAt, IsEndAt, IsCourseOf}
use Rattle.probe_inspect.specs.Rows.{IsSeenTo, IsAlong, LeavesAt}
use Rattle.probe_inspect.specs.Table.{IsAlikeAt, IsFirstParting, TakeCourse}
use Rattle.probe_inspect.specs.declared.table.Parting.{Parting}
use Rattle.probe_inspect.specs.declared.course.Passed.{Passed}
use Rattle.probe_inspect.specs.declared.course.Course.{Course}
use Rattle.probe_inspect.proofs.Passing.{written-running}

-- what is seen of an instruction, and of an end
abbrev pub seen_as : Control → Sight
seen_as control = record { pc = control.pc; deed = Some control.deed }

abbrev pub ended_at : ℕ → Sight
ended_at pc = record { pc = pc; deed = None }

module _ (T : Task) where
  sight_by : ℕ → Option End → Sight
  sight_by n o = record { pc = (alone_at T n).pc; deed = if is_none o then Some (after_instr T (alone_at T n)).deed else None }

  pub sight-seen : (n : ℕ) (passed : Passed) → IsSeenAt T n passed → sight_at T n ≡ seen_as passed.control
  sight-seen n passed seen =
      let by : Option End → Sight =
      λ o. record { pc = (alone_at T n).pc; deed = if is_none o then Some (after_instr T (alone_at T n)).deed else None } in
      ap by seen.running ∙ ap seen_as (sym seen.control)

  none_deed : (o : Option End) (d : Deed) → IsSome o → (if is_none o then Some d else None) ≡ None
  none_deed None d some = absurd cc
  none_deed (Some e) d some = refl

  sight-here : (n at : ℕ) → IsEndAt T n at → sight_at T n ≡ ended_at at
  sight-here n at end =
      let deed = none_deed (alone_at T n).end (after_instr T (alone_at T n)).deed end.ended in
      λ i. record { pc = end.pc i; deed = deed i }

  -- after its end a run is at it
  end-stays : (n at k : ℕ) → IsEndAt T n at → IsEndAt T (n + k) at
  end-stays n at k end =
      let stays = alone-stays T n k end.ended in record {
        ended = subst (λ (s : AloneState). IsSome s.end) (sym stays) end.ended;
        pc = ap (λ (s : AloneState). s.pc) stays ∙ end.pc;
      }

  pub end-later : (n m at : ℕ) → n ≤ m → IsEndAt T n at → IsEndAt T m at
  end-later n m at low end =
      let more : n + (m - n) ≡ m = omega (arith, low) in subst (λ k. IsEndAt T k at) more (end-stays n at (m - n) end)

  pub sight-end : (n m at : ℕ) → n ≤ m → IsEndAt T n at → sight_at T m ≡ ended_at at
  sight-end n m at low end = sight-here m at (end-later n m at low end)

  -- and back
  seen_by : (n : ℕ) (control : Control) (o : Option End) → (alone_at T n).end ≡ o
      → (if is_none o then Some (after_instr T (alone_at T n)).deed else None) ≡ Some control.deed → (alone_at T n).pc ≡ control.pc
      → (passed : Passed) → passed.control ≡ control → IsSeenAt T n passed
  seen_by n control None runs deed pc passed is =
      let same : (after_instr T (alone_at T n)).deed ≡ control.deed = same_Some _ _ deed in
      let own : control_at T n ≡ control = λ i. record { pc = pc i; deed = same i } in
      record { running = runs; control = is ∙ sym own }
  seen_by n control (Some e) runs deed pc passed is = absurd cc

  pub seen-back : (n : ℕ) (passed : Passed) → sight_at T n ≡ seen_as passed.control → IsSeenAt T n passed
  seen-back n passed same =
      seen_by n passed.control (alone_at T n).end refl (ap (λ (s : Sight). s.deed) same) (ap (λ (s : Sight). s.pc) same) passed refl

  ended_by : (o : Option End) (d : Deed) → (if is_none o then Some d else None) ≡ None → IsSome o
  ended_by None d is = absurd cc
  ended_by (Some e) d is = refl

  pub end-back : (n at : ℕ) → sight_at T n ≡ ended_at at → IsEndAt T n at
  end-back n at same = record {
    ended = ended_by (alone_at T n).end (after_instr T (alone_at T n)).deed (ap (λ (s : Sight). s.deed) same);
    pc = ap (λ (s : Sight). s.pc) same;
  }

  -- a run that is seen at a step isn't at its end there
  pub not-both : (n at : ℕ) (passed : Passed) → IsSeenAt T n passed → IsEndAt T n at → ⊥
  not-both n at passed seen end = go (alone_at T n).end seen.running end.ended
    where
      go : (o : Option End) → o ≡ None → IsSome o → ⊥
      go None none some = absurd cc
      go (Some e) none some = absurd cc

-- A place of a course, or past its steps.
pub place-of : (course : Course) (n : ℕ) → ((passed : Passed) × (slice_get course.steps n ≡ Some passed)) ⊎ (length course.steps ≤ n)
place-of course n = go course.steps n
  where
    go : (xs : List Passed) (k : ℕ) → ((passed : Passed) × (slice_get xs k ≡ Some passed)) ⊎ (length xs ≤ k)
    go [] k = inr (omega arith)
    go (x ∷ xs) zero = inl (x, refl)
    go (x ∷ xs) (suc k) = later (go xs k)
      where
        later : ((passed : Passed) × (slice_get xs k ≡ Some passed)) ⊎ (length xs ≤ k)
            → ((passed : Passed) × (slice_get (x ∷ xs) (suc k) ≡ Some passed)) ⊎ (length (x ∷ xs) ≤ suc k)
        later (inl found) = inl found
        later (inr past) = inr (omega (arith, past))

pub some-at : {X : Type 0} (xs : List X) (i : ℕ) → i < length xs → (x : X) × (slice_get xs i ≡ Some x)
some-at [] i low = absurd (omega (arith, low))
some-at (x ∷ xs) zero low = (x, refl)
some-at (x ∷ xs) (suc i) low = some-at xs i (omega (arith, low))

-- The course of the first world.
module _ (T : Task) (worlds : List World) (course : Course) (first : World) (at : slice_get worlds 0 ≡ Some first)
    (is : IsCourseOf (task_in T first) course) where
  abbrev V : Task
  V = task_in T first

  seen-first : (n : ℕ) (passed : Passed) → slice_get course.steps n ≡ Some passed → IsSeenAt V n passed
  seen-first n passed there = (is.steps n passed there).seen

  -- a world that is seen as the course at a step is seen as the first one
  alike-sight : (U : Task) (n : ℕ) → n ≤ length course.steps → IsAlikeAt U course n → sight_at U n ≡ sight_at V n
  alike-sight U n low alike = go (place-of course n)
    where
      go : ((passed : Passed) × (slice_get course.steps n ≡ Some passed)) ⊎ (length course.steps ≤ n) → sight_at U n ≡ sight_at V n
      go (inl (passed, there)) = sight-seen U n passed (alike.seen passed there) ∙ sym (sight-seen V n passed (seen-first n passed there))
      go (inr past) =
          let end : n ≡ length course.steps = omega (arith, low, past) in
          sight-end U n n course.last_pc (omega arith) (alike.end end)
          ∙ sym (sight-end V (length course.steps) n course.last_pc past is.end)

  seen-sight : (U : Task) (n step : ℕ) → n < step → step ≤ length course.steps → IsSeenTo U course step → sight_at U n ≡ sight_at V n
  seen-sight U n step low within seen = go (place-of course n)
    where
      go : ((passed : Passed) × (slice_get course.steps n ≡ Some passed)) ⊎ (length course.steps ≤ n) → sight_at U n ≡ sight_at V n
      go (inl (passed, there)) = sight-seen U n passed (seen n passed low there) ∙ sym (sight-seen V n passed (seen-first n passed there))
      go (inr past) = absurd (omega (arith, low, within, past))

  pub along-sight : (U : Task) → IsAlong U course → (n : ℕ) → sight_at U n ≡ sight_at V n
  along-sight U along n = go (place-of course n)
    where
      go : ((passed : Passed) × (slice_get course.steps n ≡ Some passed)) ⊎ (length course.steps ≤ n) → sight_at U n ≡ sight_at V n
      go (inl (passed, there)) =
          sight-seen U n passed (along.seen n passed (slice_get_within course.steps n passed there) there)
          ∙ sym (sight-seen V n passed (seen-first n passed there))
      go (inr past) =
          sight-end U (length course.steps) n course.last_pc past along.end
          ∙ sym (sight-end V (length course.steps) n course.last_pc past is.end)

  -- The first parting is the first divergence.
  pub divergence-is : (p : Parting) → IsFirstParting T worlds course (length worlds) p → IsFirstDivergence T worlds p.world p.step
  divergence-is p parting = record {
    low = let a = parting.within in let b = is.within in omega (arith, a, b);
    before = λ n i low v w one two.
        seen-sight (task_in T w) n p.step low parting.within (parting.before i w (slice_get_within worlds i w two) two)
        ∙ ap (λ (u : World). sight_at (task_in T u) n) (same_Some first v (sym at ∙ one));
    others = λ i low v w one two.
        alike-sight (task_in T w) p.step parting.within (parting.others i w low two)
        ∙ ap (λ (u : World). sight_at (task_in T u) p.step) (same_Some first v (sym at ∙ one));
    diverge = let found = some-at worlds p.world parting.low in (first, found.0, at, found.1, λ same. differ found.0 (parting.leaves found.0 found.1) same);
  }
    where
      differ : (w : World) → LeavesAt (task_in T w) course p.step → sight_at (task_in T w) p.step ≡ sight_at V p.step → ⊥
      differ w leaves same = go leaves.leaves
        where
          go : ((passed : Passed) × (slice_get course.steps p.step ≡ Some passed) × (IsSeenAt (task_in T w) p.step passed → ⊥))
              ⊎ ((p.step ≡ length course.steps) × (IsEndAt (task_in T w) p.step course.last_pc → ⊥)) → ⊥
          go (inl (passed, there, not)) =
              not (seen-back (task_in T w) p.step passed (same ∙ sight-seen V p.step passed (seen-first p.step passed there)))
          go (inr (end, not)) =
              not (end-back (task_in T w) p.step course.last_pc
              (same ∙ sight-end V (length course.steps) p.step course.last_pc (omega (arith, end)) is.end))

  -- Worlds that take the course take one course.
  pub one-course-all : TakeCourse T worlds course (length worlds) → AllTakeOneCourse T worlds
  one-course-all take i d low j e under =
      let v = get_or worlds i d in
      let w = get_or worlds j e in
      let left = take i v low (slice_get-get_or worlds i d low) in
      let right = take j w under (slice_get-get_or worlds j e under) in
      one-course (task_in T v) (task_in T w) refl (λ n upto. along-sight (task_in T v) left n ∙ sym (along-sight (task_in T w) right n))

  -- What an instruction of a world writes is what that of the first one does.
  targets-are : (ws : List Write) → map (λ (w : Write). w.to) ws ≡ latches_of ws
  targets-are [] = refl
  targets-are (w ∷ ws) = ap (λ (ls : List Latch). w.to ∷ ls) (targets-are ws)

  written-ended : (U : Task) (n pc : ℕ) → IsEndAt U n pc → written_at U n ≡ []
  written-ended U n pc end = go (alone_at U n).end end.ended
    where
      go : (o : Option End) → IsSome o → (if is_none o then latches_written U (alone_at U n) else []) ≡ []
      go None some = absurd cc
      go (Some e) some = refl

  pub written-past : (n : ℕ) → length course.steps ≤ n → written_at V n ≡ []
  written-past n past = written-ended V n course.last_pc (end-later V (length course.steps) n course.last_pc past is.end)

  pub written-same : (U : Task) → AreTasksAlike V U → IsAlong U course → (n : ℕ) → written_at U n ≡ written_at V n
  written-same U alike along n = go (place-of course n)
    where
      go : ((passed : Passed) × (slice_get course.steps n ≡ Some passed)) ⊎ (length course.steps ≤ n) → written_at U n ≡ written_at V n
      go (inl (passed, there)) =
          let low = slice_get_within course.steps n passed there in
          let one = seen-first n passed there in
          let two = along.seen n passed low there in
          let within = is.within in
          let effects = control-effects V U alike n (omega (arith, low, within)) one.running two.running in
          let control : control_at U n ≡ control_at V n = sym two.control ∙ one.control in
          let v = alone_effect V (alone_at V n) in
          let u = alone_effect U (alone_at U n) in
          let writes : map (λ (w : Write). w.to) u.writes ≡ map (λ (w : Write). w.to) v.writes =
          targets-are u.writes ∙ sym effects.latches ∙ sym (targets-are v.writes) in
          written-running U n two.running
          ∙ ap (λ (ls : List Latch). ls ++ served_latches (control_at U n).deed) writes
          ∙ ap (λ (k : Control). map (λ (w : Write). w.to) v.writes ++ served_latches k.deed) control
          ∙ sym (written-running V n one.running)
      go (inr past) =
          written-ended U n course.last_pc (end-later U (length course.steps) n course.last_pc past along.end) ∙ sym (written-past n past)

  -- Worlds of one length are alike where they take the course.
  pub tape-lengths : AreAsLong worlds → (i : ℕ) (w : World) → slice_get worlds i ≡ Some w → length first.tape ≡ length w.tape
  tape-lengths long i w there = go worlds long at i there
    where
      go : (ws : List World) → AreAsLong ws → slice_get ws 0 ≡ Some first → (k : ℕ) → slice_get ws k ≡ Some w → length first.tape ≡ length w.tape
      go [] ok zero_at k to = absurd cc
      go (v ∷ rest) ok zero_at zero to = ap (λ (u : World). length u.tape) (same_Some first w (sym zero_at ∙ to))
      go (v ∷ rest) ok zero_at (suc k) to =
          ap (λ (u : World). length u.tape) (sym (same_Some v first zero_at))
          ∙ sym (item-has (λ (u : World). length u.tape ≡ length v.tape) rest k w to ok)

  pub alike-along : AreAsLong worlds → TakeCourse T worlds course (length worlds) → (i : ℕ) (w : World) → slice_get worlds i ≡ Some w
      → AreTasksAlike V (task_in T w)
  alike-along long take i w there =
      let low = slice_get_within worlds i w there in
      let right = take i w low there in record {
        code_at = refl;
        data_at = refl;
        code = refl;
        data_len = refl;
        fuel = refl;
        out_max = refl;
        tape_length = tape-lengths long i w there;
        course = one-course V (task_in T w) refl (λ n upto. sym (along-sight (task_in T w) right n));
      }
