-- The end of a code, where what is known of slot words 0 and 17 is so.
use Rattle.std.proofs.Common.{◌≡◌, ℕ, Bool, true, false, ◌==◌, nat_lt, if◌then◌else◌, Option, Some, None, refl}
use Rattle.isa_model.specs.declared.ends.End.{End}
use Rattle.isa_model.specs.declared.ends.End.TheVariants.{Faulted, BadCall, TapeEnd, OutFull, OutOfSteps}
use Rattle.hart_model.specs.Traps.{fuel_cause}
use Rattle.hart_model.specs.Context.{ContextState, pc_word, slot_word}
use Rattle.hart_model.specs.Ports as ports
use Rattle.symbolic_run.specs.SymbolicPath.{end_with, end_of_code}

-- the two by their tests
abbrev known_by : Bool → Bool → Bool → Bool → Bool → Option ℕ → Option ℕ → ℕ → Option End
known_by b0 b1 b2 b3 b4 pc a7 code =
    if b0 then end_with pc (Faulted code) else if b1 then Some TapeEnd else if b2 then Some OutFull
    else if b3 then end_with a7 BadCall else if b4 then Some OutOfSteps else None

abbrev is_by : Bool → Bool → Bool → Bool → Bool → ℕ → ℕ → ℕ → Option End
is_by b0 b1 b2 b3 b4 pc a7 code =
    if b0 then Some (Faulted code pc) else if b1 then Some TapeEnd else if b2 then Some OutFull
    else if b3 then Some (BadCall a7) else if b4 then Some OutOfSteps else None

with-known : (known : Option ℕ) (v : ℕ) (f : ℕ → End) (end : End) → ((n : ℕ) → known ≡ Some n → v ≡ n) → end_with known f ≡ Some end → Some (f v) ≡ Some end
with-known None v f end is e = absurd (cc e)
with-known (Some n) v f end is e = rw (is n refl) e

by-tests : (b0 b1 b2 b3 b4 : Bool) (pc a7 : Option ℕ) (v w code : ℕ) (end : End) → ((n : ℕ) → pc ≡ Some n → v ≡ n) → ((n : ℕ) → a7 ≡ Some n → w ≡ n)
    → known_by b0 b1 b2 b3 b4 pc a7 code ≡ Some end → is_by b0 b1 b2 b3 b4 v w code ≡ Some end
by-tests true b1 b2 b3 b4 pc a7 v w code end is_pc is_a7 e = with-known pc v (Faulted code) end is_pc e
by-tests false true b2 b3 b4 pc a7 v w code end is_pc is_a7 e = e
by-tests false false true b3 b4 pc a7 v w code end is_pc is_a7 e = e
by-tests false false false true b4 pc a7 v w code end is_pc is_a7 e = with-known a7 w BadCall end is_a7 e
by-tests false false false false b4 pc a7 v w code end is_pc is_a7 e = e

-- a code that has an end by what is known has it by what is there
pub end-known : (c : ContextState) (pc a7 : Option ℕ) (code : ℕ) (end : End) → ((n : ℕ) → pc ≡ Some n → (slot_word c pc_word).value ≡ n)
    → ((n : ℕ) → a7 ≡ Some n → (slot_word c 17).value ≡ n)
    → end_of_code pc a7 code ≡ Some end → ports.end_of_code c code ≡ Some end
end-known c pc a7 code end is_pc is_a7 e =
    by-tests (nat_lt code 8) (code == 0x100) (code == 0x101) (code == 0x102) (code == fuel_cause)
    pc a7 (slot_word c pc_word).value (slot_word c 17).value code end is_pc is_a7 e
