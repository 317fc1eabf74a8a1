-- The rules, tried on the kernel's own parts with a word or two changed.
use Rattle.std.proofs.Common.{◌≡◌, ℕ, ◌+◌, List, [], ◌∷◌, ◌++◌, take, drop, Option, Some, None, refl}
use Rattle.hart_model.specs.declared.place.Place.{Place}
use Rattle.hart_model.specs.declared.place.Place.TheVariants as places
use Rattle.core_invariant.specs.KernelStates.{own_save, own_restore}
use Rattle.routine_laws.specs.declared.content.Content.{Content}
use Rattle.routine_laws.specs.declared.content.Content.TheVariants.{Zero, Public, TaskReg, OldSlotWord, Unknown}
use Rattle.routine_laws.specs.Contents.{content_at}
use Rattle.routine_laws.specs.Rules.{Form, Base, NotZero, Meets, Outcome, Ends, Fails, outcome_of}
use Rattle.routine_laws.specs.Accepted.{at_save, at_restore}

-- a part with other words in place of so many from an index on
abbrev with_words : ℕ → ℕ → List ℕ → List ℕ → List ℕ
with_words at count others words = take at words ++ others ++ drop (at + count) words

-- and what comes of it, as a save part and as a restore part
abbrev saved_by : ℕ → ℕ → List ℕ → Outcome
saved_by at count others = outcome_of 0 at_save (with_words at count others own_save)

abbrev restored_by : ℕ → ℕ → List ℕ → Outcome
restored_by at count others = outcome_of 0 at_restore (with_words at count others own_restore)

-- what is known of a place at the end
abbrev known_at : Place → Outcome → Option Content
known_at place (Ends c) = Some (content_at c place)
known_at place (Fails at rule) = None

-- Without the first word x5 of the task meets what stood in PortA; with add x0,x0,x0 there, the multiplier's latch isn't cleared.
without_first : saved_by 0 1 [] ≡ Fails 0 Meets
unfolding outcome_of
without_first = refl

by_addition : known_at places.Mul (saved_by 0 1 (0x00000033 ∷ [])) ≡ Some Unknown
unfolding outcome_of
by_addition = refl

-- without sw x0,4(x5), x1 meets the old word of the slot
over_old_word : saved_by 4 1 [] ≡ Fails 4 Meets
unfolding outcome_of
over_old_word = refl

-- no other forms: addi x1,x1,0; mul x1,x0,x0; divu x0,x0,x0; csrrw x0,mepc,x0; csrrs x0,mscratch,x1; sb x0,4(x5); ebreak; no instruction
of_a_register : saved_by 6 1 (0x00008093 ∷ []) ≡ Fails 6 Form
unfolding outcome_of
of_a_register = refl

of_the_multiplier : saved_by 6 1 (0x020000b3 ∷ []) ≡ Fails 6 Form
unfolding outcome_of
of_the_multiplier = refl

of_the_divider : saved_by 6 1 (0x02005033 ∷ []) ≡ Fails 6 Form
unfolding outcome_of
of_the_divider = refl

of_another_csr : saved_by 6 1 (0x34101073 ∷ []) ≡ Fails 6 Form
unfolding outcome_of
of_another_csr = refl

of_set_bits : saved_by 6 1 (0x3400a073 ∷ []) ≡ Fails 6 Form
unfolding outcome_of
of_set_bits = refl

of_a_byte : saved_by 6 1 (0x00028223 ∷ []) ≡ Fails 6 Form
unfolding outcome_of
of_a_byte = refl

of_a_break : saved_by 6 1 (0x00100073 ∷ []) ≡ Fails 6 Form
unfolding outcome_of
of_a_break = refl

of_nothing : saved_by 6 1 (0 ∷ []) ≡ Fails 6 Form
unfolding outcome_of
of_nothing = refl

-- nothing else is reached: lw x6,0(x5); lw x6,128(x5); lw x6,6(x5); lw x6,0x100(x1), where x1 is 0; lw x6,0x104(x0); sw x0,-4(x5)
at_the_pc : saved_by 101 0 (0x0002a303 ∷ []) ≡ Fails 101 Base
unfolding outcome_of
at_the_pc = refl

at_a_bound : saved_by 101 0 (0x0802a303 ∷ []) ≡ Fails 101 Base
unfolding outcome_of
at_a_bound = refl

between_words : saved_by 101 0 (0x0062a303 ∷ []) ≡ Fails 101 Base
unfolding outcome_of
between_words = refl

from_a_zero : saved_by 101 0 (0x1000a303 ∷ []) ≡ Fails 101 Base
unfolding outcome_of
from_a_zero = refl

at_a_port : saved_by 101 0 (0x10402303 ∷ []) ≡ Fails 101 Base
unfolding outcome_of
at_a_port = refl

before_the_slot : saved_by 101 0 (0xfe02ae23 ∷ []) ≡ Fails 101 Base
unfolding outcome_of
before_the_slot = refl

-- the word that is always 0 takes neither x5 of the task, nor the slot's address, nor a 0 by lui x6,0
task_to_zero : saved_by 2 1 (0x10502023 ∷ []) ≡ Fails 2 NotZero
unfolding outcome_of
task_to_zero = refl

address_to_zero : saved_by 101 0 (0x10502023 ∷ []) ≡ Fails 101 NotZero
unfolding outcome_of
address_to_zero = refl

public_to_zero : saved_by 101 0 (0x00000337 ∷ 0x10602023 ∷ []) ≡ Fails 102 NotZero
unfolding outcome_of
public_to_zero = refl

-- without the words of x31 it isn't saved, and isn't restored; csrrw x0,mscratch,x0 at the end loses the slot's address
not_saved : known_at (places.SlotWord 31) (saved_by 91 3 []) ≡ Some (OldSlotWord 31)
unfolding outcome_of
not_saved = refl

not_restored : known_at (places.Reg 31) (restored_by 58 2 []) ≡ Some Public
unfolding outcome_of
not_restored = refl

without_address : known_at places.Scr (saved_by 101 0 (0x34001073 ∷ [])) ≡ Some Zero
unfolding outcome_of
without_address = refl

-- without the last word x5 of the task stays in Load; with sw x0,4(x5) after x1's words x1 isn't saved any more
left_in_load : known_at places.Load (restored_by 61 1 []) ≡ Some (TaskReg 5)
unfolding outcome_of
left_in_load = refl

lost_again : known_at (places.SlotWord 1) (restored_by 2 0 (0x0002a223 ∷ [])) ≡ Some Zero
unfolding outcome_of
lost_again = refl

-- but a register may be cleared by another number, as x1 by lui x1,7
by_another_number : known_at (places.Reg 1) (saved_by 6 1 (0x000070b7 ∷ [])) ≡ Some Public
unfolding outcome_of
by_another_number = refl
