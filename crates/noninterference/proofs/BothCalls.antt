-- What a service does by the values of a7 and a0, told by its deed; and two calls of one deed.
use Rattle.std.proofs.Common.{◌≡◌, ◌≢◌, ℕ, ◌==◌, ◌++◌, [], ◌∷◌, Bool, true, false, length, slice_get, nat_lt, Option, Some, None, if◌then◌else◌, refl, sym, ◌∙◌}
use Rattle.std.proofs.lemmas.Bool.{eqb-true, eqb-false}
use Rattle.isa_model.specs.declared.task.Task.{Task}
use Rattle.isa_model.specs.declared.control.Deed.{Deed}
use Rattle.isa_model.specs.declared.control.Deed.TheVariants.{Called, Ended}
use Rattle.isa_model.specs.declared.ends.End.TheVariants.{Exited, BadCall, OutFull}
use Rattle.isa_model.specs.declared.ends.EndKind.TheVariants as kinds
use Rattle.isa_model.specs.Alone.{AloneState, after_call, after_service, after_end, after_out, after_in}

-- the seven ways of a call
pub data CallCase (T : Task) (a7 : ℕ) (s : AloneState) (deed : Deed) : Type 0 where
  Exits : (is : a7 ≡ 0) (d : deed ≡ Ended kinds.Exited) → CallCase T a7 s deed
  Outs : (is : a7 ≡ 1) (d : deed ≡ Called 1) (room : nat_lt (length s.output) T.out_max ≡ true) → CallCase T a7 s deed
  Fills : (is : a7 ≡ 1) (d : deed ≡ Ended kinds.OutFull) (room : nat_lt (length s.output) T.out_max ≡ false) → CallCase T a7 s deed
  Ins : (is : a7 ≡ 2) (d : deed ≡ Called 2) (word : ℕ) (given : slice_get T.tape s.tape_at ≡ Some word) → CallCase T a7 s deed
  RunsOut : (is : a7 ≡ 2) (d : deed ≡ Ended kinds.TapeEnd) (none : slice_get T.tape s.tape_at ≡ None) → CallCase T a7 s deed
  Yields : (is : a7 ≡ 3) (d : deed ≡ Called 3) → CallCase T a7 s deed
  IsBad : (d : deed ≡ Ended (kinds.BadCall a7)) (not0 : a7 ≢ 0) (not1 : a7 ≢ 1) (not2 : a7 ≢ 2) (not3 : a7 ≢ 3) → CallCase T a7 s deed

module _ (T : Task) (a7 a0 : ℕ) (s : AloneState) where
  out-case : (room : Bool) → nat_lt (length s.output) T.out_max ≡ room → a7 ≡ 1
      → CallCase T a7 s (if room then after_service 1 (record s { output = s.output ++ a0 ∷ [] }) else after_end OutFull kinds.OutFull s).deed
  out-case true e is = Outs is refl e
  out-case false e is = Fills is refl e

  in-case : (word : Option ℕ) → slice_get T.tape s.tape_at ≡ word → a7 ≡ 2 → CallCase T a7 s (after_in word s).deed
  in-case None e is = RunsOut is refl e
  in-case (Some word) e is = Ins is refl word e

  by-tests : (zero one two three : Bool) → (a7 == 0) ≡ zero → (a7 == 1) ≡ one → (a7 == 2) ≡ two → (a7 == 3) ≡ three
      → CallCase T a7 s (if zero then after_end (Exited a0) kinds.Exited s else if one then after_out T a0 s
      else if two then after_in (slice_get T.tape s.tape_at) s else if three then after_service 3 s else after_end (BadCall a7) (kinds.BadCall a7) s).deed
  by-tests true one two three e f g i = Exits (eqb-true a7 0 e) refl
  by-tests false true two three e f g i = out-case (nat_lt (length s.output) T.out_max) refl (eqb-true a7 1 f)
  by-tests false false true three e f g i = in-case (slice_get T.tape s.tape_at) refl (eqb-true a7 2 g)
  by-tests false false false true e f g i = Yields (eqb-true a7 3 i) refl
  by-tests false false false false e f g i = IsBad refl (eqb-false a7 0 e) (eqb-false a7 1 f) (eqb-false a7 2 g) (eqb-false a7 3 i)

  pub call-case : CallCase T a7 s (after_call T a7 a0 s).deed
  call-case = by-tests (a7 == 0) (a7 == 1) (a7 == 2) (a7 == 3) refl refl refl refl

-- the seven ways of two calls of one deed
pub data BothCalls (T U : Task) (a7 b7 : ℕ) (s t : AloneState) : Type 0 where
  BothExit : (is : a7 ≡ 0) (other : b7 ≡ 0) → BothCalls T U a7 b7 s t
  BothOut : (is : a7 ≡ 1) (other : b7 ≡ 1) (room : nat_lt (length s.output) T.out_max ≡ true)
      (free : nat_lt (length t.output) U.out_max ≡ true) → BothCalls T U a7 b7 s t
  BothFill : (is : a7 ≡ 1) (other : b7 ≡ 1) (room : nat_lt (length s.output) T.out_max ≡ false)
      (free : nat_lt (length t.output) U.out_max ≡ false) → BothCalls T U a7 b7 s t
  BothIn : (is : a7 ≡ 2) (other : b7 ≡ 2) (word : ℕ) (given : slice_get T.tape s.tape_at ≡ Some word) (found : ℕ)
      (given_too : slice_get U.tape t.tape_at ≡ Some found) → BothCalls T U a7 b7 s t
  BothRunOut : (is : a7 ≡ 2) (other : b7 ≡ 2) (none : slice_get T.tape s.tape_at ≡ None) (none_too : slice_get U.tape t.tape_at ≡ None)
      → BothCalls T U a7 b7 s t
  BothYield : (is : a7 ≡ 3) (other : b7 ≡ 3) → BothCalls T U a7 b7 s t
  BothBad : (same : a7 ≡ b7) (not0 : a7 ≢ 0) (not1 : a7 ≢ 1) (not2 : a7 ≢ 2) (not3 : a7 ≢ 3) → BothCalls T U a7 b7 s t

same-number : (a b : ℕ) (deed other : Deed) → deed ≡ Ended (kinds.BadCall a) → other ≡ Ended (kinds.BadCall b) → deed ≡ other → a ≡ b
same-number a b deed other e f same = cc (sym e ∙ same ∙ f)

module _ (T U : Task) (a7 b7 : ℕ) (s t : AloneState) (deed other : Deed) (same : deed ≡ other) where
  pub both-cases : CallCase T a7 s deed → CallCase U b7 t other → BothCalls T U a7 b7 s t
  both-cases (Exits is1 d1) (Exits is2 d2) = BothExit is1 is2
  both-cases (Exits is1 d1) (Outs is2 d2 room2) = absurd (cc (sym d1 ∙ same ∙ d2))
  both-cases (Exits is1 d1) (Fills is2 d2 room2) = absurd (cc (sym d1 ∙ same ∙ d2))
  both-cases (Exits is1 d1) (Ins is2 d2 word2 given2) = absurd (cc (sym d1 ∙ same ∙ d2))
  both-cases (Exits is1 d1) (RunsOut is2 d2 none2) = absurd (cc (sym d1 ∙ same ∙ d2))
  both-cases (Exits is1 d1) (Yields is2 d2) = absurd (cc (sym d1 ∙ same ∙ d2))
  both-cases (Exits is1 d1) (IsBad d2 zero2 one2 two2 three2) = absurd (cc (sym d1 ∙ same ∙ d2))
  both-cases (Outs is1 d1 room1) (Exits is2 d2) = absurd (cc (sym d1 ∙ same ∙ d2))
  both-cases (Outs is1 d1 room1) (Outs is2 d2 room2) = BothOut is1 is2 room1 room2
  both-cases (Outs is1 d1 room1) (Fills is2 d2 room2) = absurd (cc (sym d1 ∙ same ∙ d2))
  both-cases (Outs is1 d1 room1) (Ins is2 d2 word2 given2) = absurd (cc (sym d1 ∙ same ∙ d2))
  both-cases (Outs is1 d1 room1) (RunsOut is2 d2 none2) = absurd (cc (sym d1 ∙ same ∙ d2))
  both-cases (Outs is1 d1 room1) (Yields is2 d2) = absurd (cc (sym d1 ∙ same ∙ d2))
  both-cases (Outs is1 d1 room1) (IsBad d2 zero2 one2 two2 three2) = absurd (cc (sym d1 ∙ same ∙ d2))
  both-cases (Fills is1 d1 room1) (Exits is2 d2) = absurd (cc (sym d1 ∙ same ∙ d2))
  both-cases (Fills is1 d1 room1) (Outs is2 d2 room2) = absurd (cc (sym d1 ∙ same ∙ d2))
  both-cases (Fills is1 d1 room1) (Fills is2 d2 room2) = BothFill is1 is2 room1 room2
  both-cases (Fills is1 d1 room1) (Ins is2 d2 word2 given2) = absurd (cc (sym d1 ∙ same ∙ d2))
  both-cases (Fills is1 d1 room1) (RunsOut is2 d2 none2) = absurd (cc (sym d1 ∙ same ∙ d2))
  both-cases (Fills is1 d1 room1) (Yields is2 d2) = absurd (cc (sym d1 ∙ same ∙ d2))
  both-cases (Fills is1 d1 room1) (IsBad d2 zero2 one2 two2 three2) = absurd (cc (sym d1 ∙ same ∙ d2))
  both-cases (Ins is1 d1 word1 given1) (Exits is2 d2) = absurd (cc (sym d1 ∙ same ∙ d2))
  both-cases (Ins is1 d1 word1 given1) (Outs is2 d2 room2) = absurd (cc (sym d1 ∙ same ∙ d2))
  both-cases (Ins is1 d1 word1 given1) (Fills is2 d2 room2) = absurd (cc (sym d1 ∙ same ∙ d2))
  both-cases (Ins is1 d1 word1 given1) (Ins is2 d2 word2 given2) = BothIn is1 is2 word1 given1 word2 given2
  both-cases (Ins is1 d1 word1 given1) (RunsOut is2 d2 none2) = absurd (cc (sym d1 ∙ same ∙ d2))
  both-cases (Ins is1 d1 word1 given1) (Yields is2 d2) = absurd (cc (sym d1 ∙ same ∙ d2))
  both-cases (Ins is1 d1 word1 given1) (IsBad d2 zero2 one2 two2 three2) = absurd (cc (sym d1 ∙ same ∙ d2))
  both-cases (RunsOut is1 d1 none1) (Exits is2 d2) = absurd (cc (sym d1 ∙ same ∙ d2))
  both-cases (RunsOut is1 d1 none1) (Outs is2 d2 room2) = absurd (cc (sym d1 ∙ same ∙ d2))
  both-cases (RunsOut is1 d1 none1) (Fills is2 d2 room2) = absurd (cc (sym d1 ∙ same ∙ d2))
  both-cases (RunsOut is1 d1 none1) (Ins is2 d2 word2 given2) = absurd (cc (sym d1 ∙ same ∙ d2))
  both-cases (RunsOut is1 d1 none1) (RunsOut is2 d2 none2) = BothRunOut is1 is2 none1 none2
  both-cases (RunsOut is1 d1 none1) (Yields is2 d2) = absurd (cc (sym d1 ∙ same ∙ d2))
  both-cases (RunsOut is1 d1 none1) (IsBad d2 zero2 one2 two2 three2) = absurd (cc (sym d1 ∙ same ∙ d2))
  both-cases (Yields is1 d1) (Exits is2 d2) = absurd (cc (sym d1 ∙ same ∙ d2))
  both-cases (Yields is1 d1) (Outs is2 d2 room2) = absurd (cc (sym d1 ∙ same ∙ d2))
  both-cases (Yields is1 d1) (Fills is2 d2 room2) = absurd (cc (sym d1 ∙ same ∙ d2))
  both-cases (Yields is1 d1) (Ins is2 d2 word2 given2) = absurd (cc (sym d1 ∙ same ∙ d2))
  both-cases (Yields is1 d1) (RunsOut is2 d2 none2) = absurd (cc (sym d1 ∙ same ∙ d2))
  both-cases (Yields is1 d1) (Yields is2 d2) = BothYield is1 is2
  both-cases (Yields is1 d1) (IsBad d2 zero2 one2 two2 three2) = absurd (cc (sym d1 ∙ same ∙ d2))
  both-cases (IsBad d1 zero1 one1 two1 three1) (Exits is2 d2) = absurd (cc (sym d1 ∙ same ∙ d2))
  both-cases (IsBad d1 zero1 one1 two1 three1) (Outs is2 d2 room2) = absurd (cc (sym d1 ∙ same ∙ d2))
  both-cases (IsBad d1 zero1 one1 two1 three1) (Fills is2 d2 room2) = absurd (cc (sym d1 ∙ same ∙ d2))
  both-cases (IsBad d1 zero1 one1 two1 three1) (Ins is2 d2 word2 given2) = absurd (cc (sym d1 ∙ same ∙ d2))
  both-cases (IsBad d1 zero1 one1 two1 three1) (RunsOut is2 d2 none2) = absurd (cc (sym d1 ∙ same ∙ d2))
  both-cases (IsBad d1 zero1 one1 two1 three1) (Yields is2 d2) = absurd (cc (sym d1 ∙ same ∙ d2))
  both-cases (IsBad d1 zero1 one1 two1 three1) (IsBad d2 zero2 one2 two2 three2) = BothBad (same-number a7 b7 deed other d1 d2 same) zero1 one1 two1 three1
