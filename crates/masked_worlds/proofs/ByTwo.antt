-- The same by two probes: where every two written places together tell nothing, the task is secure by two probes in all worlds.
use Rattle.std.proofs.Common.{◌≡◌, ◌⊎◌, inl, inr, ℕ, ◌+◌, ◌<◌, ◌≤◌, ◌==◌, ◌&&◌, Bool, true, false, List, ◌++◌, length, get_or, take, All, refl, sym, ◌∙◌, arith}
use Rattle.std.proofs.lemmas.Bool.{cases_lt}
use Rattle.isa_model.specs.declared.latch.Latch.{Latch}
use Rattle.isa_model.specs.declared.task.Task.{Task}
use Rattle.isa_model.specs.AloneValue.{alone_change}
use Rattle.core_model.specs.declared.world.World.{World}
use Rattle.core_model.specs.Places.{is_written}
use Rattle.core_model.specs.Security.{task_in, count_in, IsSecret, same_pair, changes_so, IsSecureByOne, IsSecureByTwo}
use Rattle.probing_laws.specs.Laws.{SecurityByTwoTransfers}
use Rattle.probing_laws.proofs.Counts.{pairs-equal}
use Rattle.probing_laws.proofs.Independence.{written-decide}
use Rattle.probing_laws.proofs.Transfers.{count_in-agree}
use Rattle.masked_worlds.specs.declared.role.Role.{Role}
use Rattle.masked_worlds.specs.Secrets.{all_worlds, AreNumbered}
use Rattle.masked_worlds.specs.Places.{shown, AreSeenAlike, IsSilent}
use Rattle.masked_worlds.specs.ByTwo.{ArePlaces, ArePairsSilent, SilentIsSecureByTwo, MaskedSecurityByTwoTransfers}
use Rattle.masked_worlds.proofs.Silent.{determined, all-of-tapes}
use Rattle.masked_worlds.proofs.Secure.{nothing-written, silent-is-secure, worlds-of}

turned : (a b : Bool) → (a && b) ≡ (b && a)
turned true true = refl
turned true false = refl
turned false true = refl
turned false false = refl

module _ (T : Task) (roles : List Role) (least : 1 ≤ T.fuel) (same : length roles ≡ length T.tape) (numbered : AreNumbered roles)
    (alike : AreSeenAlike T roles) (is_place : ℕ → Latch → Bool) (places : ArePlaces T roles is_place) (pairs : ArePairsSilent T roles is_place) where
  abbrev W : List World
  W = all_worlds roles T.tape

  unwritten : (n : ℕ) (l : Latch) → n < T.fuel → is_place n l ≡ false → All (λ world. is_written (task_in T world) n l ≡ false) (all_worlds roles T.tape)
  unwritten n l low isnt i d under =
      places n l low isnt (get_or (all_worlds roles T.tape) i d).tape (all-of-tapes roles T.tape i d under).0

  past_fuel : (n : ℕ) (l : Latch) → T.fuel ≤ n → All (λ world. is_written (task_in T world) n l ≡ false) (all_worlds roles T.tape)
  past_fuel n l past i d under = nothing-written (task_in T (get_or (all_worlds roles T.tape) i d)) least n l past

  alone : (n : ℕ) (l : Latch) → n < T.fuel → IsSilent T roles n l
  alone n l low = go (is_place n l) refl
    where
      go : (b : Bool) → is_place n l ≡ b → IsSilent T roles n l
      go true is =
          inr (determined roles T.tape (shown T n l) (λ t. shown T n l t ++ shown T n l t) (take 2) (λ t good. refl) (pairs n l n l low low is is))
      go false isnt = inl (places n l low isnt)

  by_one : IsSecureByOne T (all_worlds roles T.tape)
  by_one = silent-is-secure T roles least same numbered alike alone

  module _ (a b : ℕ) (one : IsSecret (all_worlds roles T.tape) a) (two : IsSecret (all_worlds roles T.tape) b) where
    -- two changes together come in equally many worlds of both tuples of secrets
    abbrev AreSame : ℕ → Latch → ℕ → Latch → Type 0
    AreSame n l m k = (change other : ℕ × ℕ)
        → count_in (all_worlds roles T.tape) a (λ world. changes_so T n l change world && changes_so T m k other world)
        ≡ count_in (all_worlds roles T.tape) b (λ world. changes_so T n l change world && changes_so T m k other world)

    pair_same : (n : ℕ) (l : Latch) (m : ℕ) (k : Latch) → n < T.fuel → m < T.fuel → is_place n l ≡ true → is_place m k ≡ true → AreSame n l m k
    pair_same n l m k low under is also change other =
        pairs n l m k low under is also
        (λ values. ((get_or values 0 0 == change.0) && (get_or values 1 0 == change.1)) && ((get_or values 2 0 == other.0) && (get_or values 3 0 == other.1)))
        a b one two

    -- beside a change at a place, those at each other place
    decide : (m : ℕ) (k : Latch)
        → ((n : ℕ) (l : Latch) → n < T.fuel → is_place n l ≡ true → AreSame n l m k) → (n : ℕ) (l : Latch) → AreSame n l m k
    decide m k known n l =
        written-decide T (all_worlds roles T.tape) a b same_pair pairs-equal (λ world. alone_change (task_in T world) m k)
        (λ x. by_one.changes m k x a b one two) (n + 1) (λ j i low. each j i (cases_lt j T.fuel)) n l (omega arith)
      where
        each : (j : ℕ) (i : Latch) → (j < T.fuel) ⊎ (T.fuel ≤ j)
            → All (λ world. is_written (task_in T world) j i ≡ false) (all_worlds roles T.tape) ⊎ AreSame j i m k
        each j i (inr past) = inl (past_fuel j i past)
        each j i (inl low) = go (is_place j i) refl
          where
            go : (c : Bool) → is_place j i ≡ c
                → All (λ world. is_written (task_in T world) j i ≡ false) (all_worlds roles T.tape) ⊎ AreSame j i m k
            go true is = inr (known j i low is)
            go false isnt = inl (unwritten j i low isnt)

    swapped : (n : ℕ) (l : Latch) (m : ℕ) (k : Latch) → AreSame n l m k → AreSame m k n l
    swapped n l m k known change other =
        over a ∙ known other change ∙ sym (over b)
      where
        over : (s : ℕ) → count_in (all_worlds roles T.tape) s (λ world. changes_so T m k change world && changes_so T n l other world)
            ≡ count_in (all_worlds roles T.tape) s (λ world. changes_so T n l other world && changes_so T m k change world)
        over s =
            count_in-agree (all_worlds roles T.tape) s (λ world. changes_so T m k change world && changes_so T n l other world)
            (λ world. changes_so T n l other world && changes_so T m k change world)
            (λ i d low. turned (changes_so T m k change (get_or (all_worlds roles T.tape) i d)) (changes_so T n l other (get_or (all_worlds roles T.tape) i d)))

    -- a written place and any other, and so any two
    beside_place : (n : ℕ) (l : Latch) → n < T.fuel → is_place n l ≡ true → (m : ℕ) (k : Latch) → AreSame m k n l
    beside_place n l low is = decide n l (λ j i under also. pair_same j i n l under low also is)

    every : (n : ℕ) (l : Latch) (m : ℕ) (k : Latch) → AreSame n l m k
    every n l m k = decide m k (λ j i low is. swapped m k j i (beside_place j i low is m k)) n l

  by_two : IsSecureByTwo T (all_worlds roles T.tape)
  by_two = record { by_one = by_one; changes = λ n l change m k other a b one two. every a b one two n l m k change other }

pub silent-is-secure-by-two : SilentIsSecureByTwo
silent-is-secure-by-two T roles least same numbered alike is_place places pairs = by_two T roles least same numbered alike is_place places pairs

pub masked-security-by-two-transfers : SecurityByTwoTransfers → MaskedSecurityByTwoTransfers
masked-security-by-two-transfers transfers k kernel of_both loaded fits t T at roles same is_secure events =
    transfers k kernel of_both loaded fits t T (all_worlds roles T.tape) (worlds-of loaded fits t T at roles same) is_secure events
