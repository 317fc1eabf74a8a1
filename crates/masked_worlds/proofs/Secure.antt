-- Where no written place of a run alone tells anything, the task is secure in all worlds, alone and in every core.
use Rattle.std.proofs.Common.{◌≡◌, ◌⊎◌, inl, inr, ℕ, ◌+◌, ◌-◌, ◌<◌, ◌≤◌, ◌==◌, ◌&&◌, true, false, List, [], ◌∷◌, length, get_or, slice_get, Option, Some, None, is_none, IsSome, All, if◌then◌else◌, refl, ap, sym, ◌∙◌, subst, arith, Bool}
use Rattle.std.specs.List.{list_any}
use Rattle.std.proofs.lemmas.Bool.{cases_lt}
use Rattle.std.proofs.lemmas.List.Elements.{All-head, All-tail}
use Rattle.std.proofs.lemmas.List.Folds.{Any-from_list_any}
use Rattle.std.proofs.lemmas.Option.{slice_get_within, get_or_from_slice_get}
use Rattle.isa_model.specs.declared.ends.End.{End}
use Rattle.isa_model.specs.declared.latch.Latch.{Latch}
use Rattle.isa_model.specs.declared.task.Task.{Task}
use Rattle.isa_model.specs.Alone.{AloneState, alone_at, after_instr}
use Rattle.isa_model.specs.AloneValue.{alone_change}
use Rattle.isa_model.specs.Limits.{max_tape_words}
use Rattle.isa_model.specs.LatchOrder.{same_latch}
use Rattle.hart_model.proofs.WhyTells.{same_latch-true}
use Rattle.isa_model.proofs.AloneLaws.{alone-next, alone-stays, fuel-left}
use Rattle.core_model.specs.declared.loaded.Loaded.{Loaded}
use Rattle.core_model.specs.declared.world.World.{World}
use Rattle.core_model.specs.Loaded.{IsLoaded, IsTaskAt, AreAsLong}
use Rattle.core_model.specs.Places.{latches_written, is_written}
use Rattle.core_model.specs.Security.{task_in, same_pair, IsSecureByOne}
use Rattle.probing_laws.specs.Laws.{SecurityTransfers}
use Rattle.probing_laws.specs.Transfer.{AreWorldsOf}
use Rattle.probing_laws.specs.Verdicts.{IsEven, IsEarlier, IsIndependentAt, AllTakeOneCourse}
use Rattle.probing_laws.proofs.Counts.{equal-in, pairs-equal}
use Rattle.probing_laws.proofs.Independence.{unwritten-independent, places-decide}
use Rattle.probing_laws.proofs.Sights.{one-course}
use Rattle.masked_worlds.specs.declared.role.Role.{Role}
use Rattle.masked_worlds.specs.Tapes.{is_tape}
use Rattle.masked_worlds.specs.Secrets.{all_worlds, AreNumbered, TellsNothing}
use Rattle.masked_worlds.specs.Places.{shown, AreSeenAlike, SeenAlikeIsOneCourse, IsSilent, SecureIsSilent, WrittenAreSilent, SilentIsSecure, EarlierIsIndependent, MaskedSecurityTransfers}
use Rattle.masked_worlds.proofs.Tapes.{tape-length}
use Rattle.masked_worlds.proofs.Silent.{all-of-tapes}
use Rattle.masked_worlds.proofs.Come.{secrets-come}

-- A task has ended when its fuel is used, and writes nothing from then on.
module _ (U : Task) (least : 1 ≤ U.fuel) where
  some_end : (o : Option End) (e : End) → o ≡ Some e → IsSome o
  some_end o e is = subst (λ (p : Option End). IsSome p) (sym is) refl

  pred : U.fuel - 1 + 1 ≡ U.fuel
  pred = omega arith

  not_running : (alone_at U U.fuel).end ≡ None → ⊥
  not_running none = go (alone_at U (U.fuel - 1)).end refl
    where
      here : alone_at U (U.fuel - 1 + 1) ≡ alone_at U U.fuel
      here = ap (λ m. alone_at U m) pred

      go : (o : Option End) → (alone_at U (U.fuel - 1)).end ≡ o → ⊥
      go None is =
          let next = alone-next U (U.fuel - 1) is in
          fuel-left U (U.fuel - 1 + 1) (after_instr U (alone_at U (U.fuel - 1))).state
          (ap (λ (s : AloneState). s.end) (sym next) ∙ ap (λ (s : AloneState). s.end) here ∙ none) pred
      go (Some e) is =
          let stays = alone-stays U (U.fuel - 1) 1 (some_end (alone_at U (U.fuel - 1)).end e is) in
          let ends : Some e ≡ None = sym is ∙ ap (λ (s : AloneState). s.end) (sym stays) ∙ ap (λ (s : AloneState). s.end) here ∙ none in
          absurd cc

  ends_at_fuel : IsSome (alone_at U U.fuel).end
  ends_at_fuel = go (alone_at U U.fuel).end refl
    where
      go : (o : Option End) → (alone_at U U.fuel).end ≡ o → IsSome (alone_at U U.fuel).end
      go None is = absurd (not_running is)
      go (Some e) is = some_end (alone_at U U.fuel).end e is

  ended : (n : ℕ) → U.fuel ≤ n → IsSome (alone_at U n).end
  ended n past =
      let more : U.fuel + (n - U.fuel) ≡ n = omega (arith, past) in
      let stays : alone_at U n ≡ alone_at U U.fuel = ap (λ m. alone_at U m) (sym more) ∙ alone-stays U U.fuel (n - U.fuel) ends_at_fuel in
      subst (λ (s : AloneState). IsSome s.end) (sym stays) ends_at_fuel

  none_left : (o : Option End) (ls : List Latch) → IsSome o → (if is_none o then ls else []) ≡ []
  none_left None ls some = cc
  none_left (Some e) ls some = refl

  pub nothing-written : (n : ℕ) (l : Latch) → U.fuel ≤ n → is_written U n l ≡ false
  nothing-written n l past =
      ap (λ (ls : List Latch). list_any (λ k. same_latch k l) ls)
      (none_left (alone_at U n).end (latches_written U (alone_at U n)) (ended n past))

module _ (T : Task) (roles : List Role) where
  -- what tells nothing as a function of the tape is independent of the secrets as a change
  silent_independent : (n : ℕ) (l : Latch) → TellsNothing roles T.tape (shown T n l) → IsIndependentAt T (all_worlds roles T.tape) n l
  silent_independent n l tells change = tells (λ values. (get_or values 0 0 == change.0) && (get_or values 1 0 == change.1))

  -- each world has the tape of a tape
  good_tape : (i : ℕ) (d : World) → i < length (all_worlds roles T.tape) → is_tape roles T.tape (get_or (all_worlds roles T.tape) i d).tape ≡ true
  good_tape i d low = (all-of-tapes roles T.tape i d low).0

  looked : (n : ℕ) (l : Latch) → IsSilent T roles n l
      → All (λ world. is_written (task_in T world) n l ≡ false) (all_worlds roles T.tape) ⊎ IsIndependentAt T (all_worlds roles T.tape) n l
  looked n l (inl none) = inl (λ i d low. none (get_or (all_worlds roles T.tape) i d).tape (good_tape i d low))
  looked n l (inr tells) = inr (silent_independent n l tells)

  pub one-course-each : AreSeenAlike T roles → AllTakeOneCourse T (all_worlds roles T.tape)
  one-course-each alike i d low j e under =
      let v = get_or (all_worlds roles T.tape) i d in
      let w = get_or (all_worlds roles T.tape) j e in
      one-course (task_in T v) (task_in T w) refl (λ n upto. alike v.tape w.tape (good_tape i d low) (good_tape j e under) n upto)

  module _ (same : length roles ≡ length T.tape) (numbered : AreNumbered roles) where
    even : IsEven (all_worlds roles T.tape)
    even = (secrets-come roles T.tape same numbered).even

    secure : 1 ≤ T.fuel → AreSeenAlike T roles → ((n : ℕ) (l : Latch) → n < T.fuel → IsSilent T roles n l)
        → IsSecureByOne T (all_worlds roles T.tape)
    secure least alike silent = record {
      even = even;
      course = one-course-each alike;
      changes = λ n l change. places-decide T (all_worlds roles T.tape) even (n + 1) (λ m k low. each m k (cases_lt m T.fuel)) n l (omega arith) change;
    }
      where
        each : (m : ℕ) (k : Latch) → (m < T.fuel) ⊎ (T.fuel ≤ m)
            → All (λ world. is_written (task_in T world) m k ≡ false) (all_worlds roles T.tape) ⊎ IsIndependentAt T (all_worlds roles T.tape) m k
        each m k (inl low) = looked m k (silent m k low)
        each m k (inr past) = inl (λ i d low. nothing-written (task_in T (get_or (all_worlds roles T.tape) i d)) least m k past)

    module _ (step : ℕ) (latch : Latch) (silent : (n : ℕ) (l : Latch) → IsEarlier n l step latch → IsSilent T roles n l) where
      before : (m : ℕ) (k : Latch) → m < step → IsIndependentAt T (all_worlds roles T.tape) m k
      before = places-decide T (all_worlds roles T.tape) even step (λ m k low. looked m k (silent m k (inl low)))

      here : (l : Latch) → All (λ world. is_written (task_in T world) step l ≡ false) (all_worlds roles T.tape) ⊎ IsIndependentAt T (all_worlds roles T.tape) step l
          → IsIndependentAt T (all_worlds roles T.tape) step l
      here l (inl none) = unwritten-independent T (all_worlds roles T.tape) even step l before none
      here l (inr silent) = silent

      earlier : (n : ℕ) (l : Latch) → IsEarlier n l step latch → IsIndependentAt T (all_worlds roles T.tape) n l
      earlier n l (inl low) = before n l low
      earlier n l (inr at) =
          subst (λ (m : ℕ). IsIndependentAt T (all_worlds roles T.tape) m l) (sym at.0) (here l (looked step l (silent step l (inr (refl, at.1)))))

pub seen-alike-is-one-course : SeenAlikeIsOneCourse
seen-alike-is-one-course T roles alike = one-course-each T roles alike

pub written-are-silent : WrittenAreSilent
written-are-silent T roles n latches written tell l = go (list_any (λ k. same_latch k l) latches) refl
  where
    go : (b : Bool) → list_any (λ k. same_latch k l) latches ≡ b → IsSilent T roles n l
    go true among =
        let found = Any-from_list_any (λ k. same_latch k l) latches among in
        inr (at found.0 found.1 found.2 found.3 found.4)
      where
        at : (i : ℕ) (k : Latch) → i < length latches → get_or latches i k ≡ k → same_latch k l ≡ true → TellsNothing roles T.tape (shown T n l)
        at i k low there is =
            subst (λ (j : Latch). TellsNothing roles T.tape (shown T n j)) (there ∙ same_latch-true k l is) (tell i k low)
    go false apart = inl (λ t good. ap (λ (ls : List Latch). list_any (λ k. same_latch k l) ls) (written t good) ∙ apart)

pub secure-is-silent : SecureIsSilent
secure-is-silent T roles is n l is_so a b one two =
    equal-in same_pair pairs-equal (all_worlds roles T.tape) (λ world. alone_change (task_in T world) n l) a b
    (λ change. is.changes n l change a b one two) (λ (p : ℕ × ℕ). is_so (p.0 ∷ p.1 ∷ []))

pub silent-is-secure : SilentIsSecure
silent-is-secure T roles least same numbered alike silent = secure T roles same numbered least alike silent

pub earlier-is-independent : EarlierIsIndependent
earlier-is-independent T roles same numbered step latch silent n l is = earlier T roles same numbered step latch silent n l is

-- Worlds whose tapes have words of one number are as long as each other.
as_long_from : (worlds : List World) (n : ℕ) → All (λ world. length world.tape ≡ n) worlds → AreAsLong worlds
as_long_from [] n all = tt
as_long_from (world ∷ worlds) n all =
    let first = All-head (λ (w : World). length w.tape ≡ n) world worlds all in
    let rest = All-tail (λ (w : World). length w.tape ≡ n) world worlds all in
    λ i d low. rest i d low ∙ sym first

pub worlds-of : (loaded : Loaded) → IsLoaded loaded → (t : ℕ) (T : Task) → slice_get loaded.tasks t ≡ Some T
    → (roles : List Role) → length roles ≡ length T.tape → AreWorldsOf loaded t T (all_worlds roles T.tape)
worlds-of loaded fits t T at roles same = record {
  is_task = at;
  words = λ i d low. let words = long i d low in omega (arith, words, limit);
  as_long = as_long_from (all_worlds roles T.tape) (length T.tape) long;
}
  where
    long : All (λ world. length world.tape ≡ length T.tape) (all_worlds roles T.tape)
    long i d low = tape-length roles T.tape (get_or (all_worlds roles T.tape) i d).tape same (good_tape T roles i d low)

    stands : IsTaskAt t T
    stands =
        subst (λ (U : Task). IsTaskAt t U) (get_or_from_slice_get loaded.tasks t T T at)
        (fits.limits.tasks t T (slice_get_within loaded.tasks t T at))

    limit : length T.tape ≤ max_tape_words
    limit = stands.valid.tape_limit

pub masked-security-transfers : SecurityTransfers → MaskedSecurityTransfers
masked-security-transfers transfers k kernel of_both loaded fits t T at roles same is_secure events =
    transfers k kernel of_both loaded fits t T (all_worlds roles T.tape) (worlds-of loaded fits t T at roles same) is_secure events
