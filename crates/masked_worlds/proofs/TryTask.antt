-- A task that takes two shares of a secret and never has both in one place is secure in all 2^64 worlds, and one that takes the second over the
-- first isn't. The runs alone are computed with the words of the tape as variables.
use Rattle.std.proofs.Common.{◌≡◌, ℕ, zero, suc, ◌<◌, ◌≤◌, true, List, [], ◌∷◌, All, length, get_or, slice_get, Some, refl, ap, sym, ◌∙◌, subst, arith}
use Rattle.std.specs.Prelude.{bit_xor}
use Rattle.std.specs.Int.Bits.{xor_zero_r}
use Rattle.std.proofs.lemmas.List.Elements.{All-nil, All-cons}
use Rattle.isa_model.specs.declared.latch.Latch.{Latch}
use Rattle.isa_model.specs.declared.latch.Latch.TheVariants.{Reg, PortA, Res}
use Rattle.isa_model.specs.declared.task.Task.{Task}
use Rattle.isa_model.specs.Alone.{alone_at, after_instr}
use Rattle.isa_model.specs.Course.{sight_at}
use Rattle.core_model.specs.Places.{written_at}
use Rattle.core_model.specs.Security.{IsSecureByOne}
use Rattle.masked_worlds.specs.declared.role.Role.{Role}
use Rattle.masked_worlds.specs.declared.role.Role.TheVariants.{Share}
use Rattle.masked_worlds.specs.Tapes.{is_tape}
use Rattle.masked_worlds.specs.Secrets.{secret_at, all_worlds, AreNumbered, TellsNothing}
use Rattle.masked_worlds.specs.Changes.{IsApart}
use Rattle.masked_worlds.specs.Places.{with_tape, shown, AreSeenAlike, IsSilent}
use Rattle.masked_worlds.proofs.Tapes.{tape-length}
use Rattle.masked_worlds.proofs.Silent.{determined, apart-hidden}
use Rattle.masked_worlds.proofs.Come.{secrets-are-told}
use Rattle.masked_worlds.proofs.Secure.{silent-is-secure, secure-is-silent, written-are-silent}

-- addi x17,x0,2; ecall; addi x8,x10,0; addi x10,x0,0; ecall; addi x9,x10,0; addi x10,x0,0; addi x17,x0,0; ecall
abbrev clearing : Task
clearing = record {
  code_at = 0x100000;
  data_at = 0x108000;
  code = 0x00200893 ∷ 0x00000073 ∷ 0x00050413 ∷ 0x00000513 ∷ 0x00000073 ∷ 0x00050493 ∷ 0x00000513 ∷ 0x00000893 ∷ 0x00000073 ∷ [];
  data_len = 0;
  fuel = 9;
  out_max = 4;
  tape = 0 ∷ 0 ∷ [];
}

abbrev roles : List Role
roles = Share 0 ∷ Share 0 ∷ []

-- each tape has two words
two_words : (t : List ℕ) → length t ≡ 2 → (a : ℕ) × (b : ℕ) × (t ≡ a ∷ b ∷ [])
two_words [] two = absurd (omega (arith, two))
two_words (a ∷ []) two = absurd (omega (arith, two))
two_words (a ∷ b ∷ []) two = (a, b, refl)
two_words (a ∷ b ∷ c ∷ rest) two = absurd (omega (arith, two))

words_of : (t : List ℕ) → is_tape roles (0 ∷ 0 ∷ []) t ≡ true → (a : ℕ) × (b : ℕ) × (t ≡ a ∷ b ∷ [])
words_of t good = two_words t (tape-length roles (0 ∷ 0 ∷ []) t refl good)

-- what doesn't hang on one of the shares tells nothing
there : (place : ℕ) → slice_get roles place ≡ Some (Share 0) → (k : ℕ) → k < 1 → slice_get roles place ≡ Some (Share k)
there place at zero low = at
there place at (suc k) low = absurd (omega (arith, low))

tells : (place : ℕ) → slice_get roles place ≡ Some (Share 0) → (n : ℕ) (l : Latch) → IsApart place (shown clearing n l)
    → TellsNothing roles (0 ∷ 0 ∷ []) (shown clearing n l)
tells place at n l apart = apart-hidden roles (0 ∷ 0 ∷ []) refl (λ k. place) (there place at) (shown clearing n l) (λ k low. apart)

abbrev Tells : ℕ → Latch → Type 0
Tells n l = TellsNothing roles (0 ∷ 0 ∷ []) (shown clearing n l)

at_0_porta : IsApart 1 (shown clearing 0 PortA)
unfolding alone_at after_instr
at_0_porta [] x = refl
at_0_porta (a ∷ []) x = refl
at_0_porta (a ∷ b ∷ rest) x = refl

at_0_res : IsApart 1 (shown clearing 0 Res)
unfolding alone_at after_instr
at_0_res [] x = refl
at_0_res (a ∷ []) x = refl
at_0_res (a ∷ b ∷ rest) x = refl

at_0_reg17 : IsApart 1 (shown clearing 0 (Reg 17))
unfolding alone_at after_instr
at_0_reg17 [] x = refl
at_0_reg17 (a ∷ []) x = refl
at_0_reg17 (a ∷ b ∷ rest) x = refl

at_1_reg10 : IsApart 1 (shown clearing 1 (Reg 10))
unfolding alone_at after_instr
at_1_reg10 [] x = refl
at_1_reg10 (a ∷ []) x = refl
at_1_reg10 (a ∷ b ∷ rest) x = refl

at_2_porta : IsApart 1 (shown clearing 2 PortA)
unfolding alone_at after_instr
at_2_porta [] x = refl
at_2_porta (a ∷ []) x = refl
at_2_porta (a ∷ b ∷ rest) x = refl

at_2_res : IsApart 1 (shown clearing 2 Res)
unfolding alone_at after_instr
at_2_res [] x = refl
at_2_res (a ∷ []) x = refl
at_2_res (a ∷ b ∷ rest) x = refl

at_2_reg8 : IsApart 1 (shown clearing 2 (Reg 8))
unfolding alone_at after_instr
at_2_reg8 [] x = refl
at_2_reg8 (a ∷ []) x = refl
at_2_reg8 (a ∷ b ∷ rest) x = refl

at_3_porta : IsApart 1 (shown clearing 3 PortA)
unfolding alone_at after_instr
at_3_porta [] x = refl
at_3_porta (a ∷ []) x = refl
at_3_porta (a ∷ b ∷ rest) x = refl

at_3_res : IsApart 1 (shown clearing 3 Res)
unfolding alone_at after_instr
at_3_res [] x = refl
at_3_res (a ∷ []) x = refl
at_3_res (a ∷ b ∷ rest) x = refl

at_3_reg10 : IsApart 1 (shown clearing 3 (Reg 10))
unfolding alone_at after_instr
at_3_reg10 [] x = refl
at_3_reg10 (a ∷ []) x = refl
at_3_reg10 (a ∷ b ∷ rest) x = refl

at_4_reg10 : IsApart 0 (shown clearing 4 (Reg 10))
unfolding alone_at after_instr
at_4_reg10 [] x = refl
at_4_reg10 (a ∷ []) x = refl
at_4_reg10 (a ∷ b ∷ rest) x = refl

at_5_porta : IsApart 0 (shown clearing 5 PortA)
unfolding alone_at after_instr
at_5_porta [] x = refl
at_5_porta (a ∷ []) x = refl
at_5_porta (a ∷ b ∷ rest) x = refl

at_5_res : IsApart 0 (shown clearing 5 Res)
unfolding alone_at after_instr
at_5_res [] x = refl
at_5_res (a ∷ []) x = refl
at_5_res (a ∷ b ∷ rest) x = refl

at_5_reg9 : IsApart 0 (shown clearing 5 (Reg 9))
unfolding alone_at after_instr
at_5_reg9 [] x = refl
at_5_reg9 (a ∷ []) x = refl
at_5_reg9 (a ∷ b ∷ rest) x = refl

at_6_porta : IsApart 0 (shown clearing 6 PortA)
unfolding alone_at after_instr
at_6_porta [] x = refl
at_6_porta (a ∷ []) x = refl
at_6_porta (a ∷ b ∷ rest) x = refl

at_6_res : IsApart 0 (shown clearing 6 Res)
unfolding alone_at after_instr
at_6_res [] x = refl
at_6_res (a ∷ []) x = refl
at_6_res (a ∷ b ∷ rest) x = refl

at_6_reg10 : IsApart 0 (shown clearing 6 (Reg 10))
unfolding alone_at after_instr
at_6_reg10 [] x = refl
at_6_reg10 (a ∷ []) x = refl
at_6_reg10 (a ∷ b ∷ rest) x = refl

at_7_porta : IsApart 0 (shown clearing 7 PortA)
unfolding alone_at after_instr
at_7_porta [] x = refl
at_7_porta (a ∷ []) x = refl
at_7_porta (a ∷ b ∷ rest) x = refl

at_7_res : IsApart 0 (shown clearing 7 Res)
unfolding alone_at after_instr
at_7_res [] x = refl
at_7_res (a ∷ []) x = refl
at_7_res (a ∷ b ∷ rest) x = refl

at_7_reg17 : IsApart 0 (shown clearing 7 (Reg 17))
unfolding alone_at after_instr
at_7_reg17 [] x = refl
at_7_reg17 (a ∷ []) x = refl
at_7_reg17 (a ∷ b ∷ rest) x = refl

written_0 : (a b : ℕ) → written_at (with_tape clearing (a ∷ b ∷ [])) 0 ≡ PortA ∷ Res ∷ Reg 17 ∷ []
unfolding alone_at after_instr
written_0 a b = refl

written_1 : (a b : ℕ) → written_at (with_tape clearing (a ∷ b ∷ [])) 1 ≡ Reg 10 ∷ []
unfolding alone_at after_instr
written_1 a b = refl

written_2 : (a b : ℕ) → written_at (with_tape clearing (a ∷ b ∷ [])) 2 ≡ PortA ∷ Res ∷ Reg 8 ∷ []
unfolding alone_at after_instr
written_2 a b = refl

written_3 : (a b : ℕ) → written_at (with_tape clearing (a ∷ b ∷ [])) 3 ≡ PortA ∷ Res ∷ Reg 10 ∷ []
unfolding alone_at after_instr
written_3 a b = refl

written_4 : (a b : ℕ) → written_at (with_tape clearing (a ∷ b ∷ [])) 4 ≡ Reg 10 ∷ []
unfolding alone_at after_instr
written_4 a b = refl

written_5 : (a b : ℕ) → written_at (with_tape clearing (a ∷ b ∷ [])) 5 ≡ PortA ∷ Res ∷ Reg 9 ∷ []
unfolding alone_at after_instr
written_5 a b = refl

written_6 : (a b : ℕ) → written_at (with_tape clearing (a ∷ b ∷ [])) 6 ≡ PortA ∷ Res ∷ Reg 10 ∷ []
unfolding alone_at after_instr
written_6 a b = refl

written_7 : (a b : ℕ) → written_at (with_tape clearing (a ∷ b ∷ [])) 7 ≡ PortA ∷ Res ∷ Reg 17 ∷ []
unfolding alone_at after_instr
written_7 a b = refl

written_8 : (a b : ℕ) → written_at (with_tape clearing (a ∷ b ∷ [])) 8 ≡ []
unfolding alone_at after_instr
written_8 a b = refl

silent_at : (n : ℕ) (latches : List Latch) → ((a b : ℕ) → written_at (with_tape clearing (a ∷ b ∷ [])) n ≡ latches) → All (Tells n) latches
    → (l : Latch) → IsSilent clearing roles n l
silent_at n latches written each l =
    written-are-silent clearing roles n latches
    (λ t good.
    let words = words_of t good in
    subst (λ (u : List ℕ). written_at (with_tape clearing u) n ≡ latches) (sym words.2) (written words.0 words.1)) each l

silent : (n : ℕ) (l : Latch) → n < 9 → IsSilent clearing roles n l
silent zero l low = silent_at 0 (PortA ∷ Res ∷ Reg 17 ∷ []) written_0 (All-cons (Tells 0) PortA (Res ∷ Reg 17 ∷ []) (tells 1 refl 0 PortA at_0_porta) (All-cons (Tells 0) Res (Reg 17 ∷ []) (tells 1 refl 0 Res at_0_res) (All-cons (Tells 0) (Reg 17) ([]) (tells 1 refl 0 (Reg 17) at_0_reg17) (All-nil (Tells 0))))) l
silent (suc zero) l low = silent_at 1 (Reg 10 ∷ []) written_1 (All-cons (Tells 1) (Reg 10) ([]) (tells 1 refl 1 (Reg 10) at_1_reg10) (All-nil (Tells 1))) l
silent (suc (suc zero)) l low = silent_at 2 (PortA ∷ Res ∷ Reg 8 ∷ []) written_2 (All-cons (Tells 2) PortA (Res ∷ Reg 8 ∷ []) (tells 1 refl 2 PortA at_2_porta) (All-cons (Tells 2) Res (Reg 8 ∷ []) (tells 1 refl 2 Res at_2_res) (All-cons (Tells 2) (Reg 8) ([]) (tells 1 refl 2 (Reg 8) at_2_reg8) (All-nil (Tells 2))))) l
silent (suc (suc (suc zero))) l low = silent_at 3 (PortA ∷ Res ∷ Reg 10 ∷ []) written_3 (All-cons (Tells 3) PortA (Res ∷ Reg 10 ∷ []) (tells 1 refl 3 PortA at_3_porta) (All-cons (Tells 3) Res (Reg 10 ∷ []) (tells 1 refl 3 Res at_3_res) (All-cons (Tells 3) (Reg 10) ([]) (tells 1 refl 3 (Reg 10) at_3_reg10) (All-nil (Tells 3))))) l
silent (suc (suc (suc (suc zero)))) l low = silent_at 4 (Reg 10 ∷ []) written_4 (All-cons (Tells 4) (Reg 10) ([]) (tells 0 refl 4 (Reg 10) at_4_reg10) (All-nil (Tells 4))) l
silent (suc (suc (suc (suc (suc zero))))) l low = silent_at 5 (PortA ∷ Res ∷ Reg 9 ∷ []) written_5 (All-cons (Tells 5) PortA (Res ∷ Reg 9 ∷ []) (tells 0 refl 5 PortA at_5_porta) (All-cons (Tells 5) Res (Reg 9 ∷ []) (tells 0 refl 5 Res at_5_res) (All-cons (Tells 5) (Reg 9) ([]) (tells 0 refl 5 (Reg 9) at_5_reg9) (All-nil (Tells 5))))) l
silent (suc (suc (suc (suc (suc (suc zero)))))) l low = silent_at 6 (PortA ∷ Res ∷ Reg 10 ∷ []) written_6 (All-cons (Tells 6) PortA (Res ∷ Reg 10 ∷ []) (tells 0 refl 6 PortA at_6_porta) (All-cons (Tells 6) Res (Reg 10 ∷ []) (tells 0 refl 6 Res at_6_res) (All-cons (Tells 6) (Reg 10) ([]) (tells 0 refl 6 (Reg 10) at_6_reg10) (All-nil (Tells 6))))) l
silent (suc (suc (suc (suc (suc (suc (suc zero))))))) l low = silent_at 7 (PortA ∷ Res ∷ Reg 17 ∷ []) written_7 (All-cons (Tells 7) PortA (Res ∷ Reg 17 ∷ []) (tells 0 refl 7 PortA at_7_porta) (All-cons (Tells 7) Res (Reg 17 ∷ []) (tells 0 refl 7 Res at_7_res) (All-cons (Tells 7) (Reg 17) ([]) (tells 0 refl 7 (Reg 17) at_7_reg17) (All-nil (Tells 7))))) l
silent (suc (suc (suc (suc (suc (suc (suc (suc zero)))))))) l low = silent_at 8 ([]) written_8 (All-nil (Tells 8)) l
silent (suc (suc (suc (suc (suc (suc (suc (suc (suc n))))))))) l low = absurd (omega (arith, low))

-- with every two tapes others see the same
alike_at : (n : ℕ) → n ≤ 9 → (a b c d : ℕ) → sight_at (with_tape clearing (a ∷ b ∷ [])) n ≡ sight_at (with_tape clearing (c ∷ d ∷ [])) n
unfolding alone_at after_instr
alike_at zero low a b c d = refl
alike_at (suc zero) low a b c d = refl
alike_at (suc (suc zero)) low a b c d = refl
alike_at (suc (suc (suc zero))) low a b c d = refl
alike_at (suc (suc (suc (suc zero)))) low a b c d = refl
alike_at (suc (suc (suc (suc (suc zero))))) low a b c d = refl
alike_at (suc (suc (suc (suc (suc (suc zero)))))) low a b c d = refl
alike_at (suc (suc (suc (suc (suc (suc (suc zero))))))) low a b c d = refl
alike_at (suc (suc (suc (suc (suc (suc (suc (suc zero)))))))) low a b c d = refl
alike_at (suc (suc (suc (suc (suc (suc (suc (suc (suc zero))))))))) low a b c d = refl
alike_at (suc (suc (suc (suc (suc (suc (suc (suc (suc (suc n)))))))))) low a b c d = absurd (omega (arith, low))

alike : AreSeenAlike clearing roles
alike t u good fine n low =
    let one = words_of t good in
    let two = words_of u fine in
    subst (λ (v : List ℕ). sight_at (with_tape clearing t) n ≡ sight_at (with_tape clearing v) n) (sym two.2)
    (subst (λ (v : List ℕ). sight_at (with_tape clearing v) n ≡ sight_at (with_tape clearing (two.0 ∷ two.1 ∷ [])) n) (sym one.2)
    (alike_at n low one.0 one.1 two.0 two.1))

numbered : AreNumbered roles
numbered k low = (0, there 0 refl k low)

pub clearing_is_secure : IsSecureByOne clearing (all_worlds roles (0 ∷ 0 ∷ []))
clearing_is_secure = silent-is-secure clearing roles (omega arith) refl numbered alike silent

-- addi x17,x0,2; ecall; ecall; addi x17,x0,0; ecall: the second share is taken over the first, and this isn't secure
abbrev overwriting : Task
overwriting = record {
  code_at = 0x100000;
  data_at = 0x108000;
  code = 0x00200893 ∷ 0x00000073 ∷ 0x00000073 ∷ 0x00000893 ∷ 0x00000073 ∷ [];
  data_len = 0;
  fuel = 5;
  out_max = 4;
  tape = 0 ∷ 0 ∷ [];
}

both_shown : (a b : ℕ) → shown overwriting 2 (Reg 10) (a ∷ b ∷ []) ≡ a ∷ b ∷ []
unfolding alone_at after_instr
both_shown a b = refl

abbrev sum_of : List ℕ → ℕ
sum_of values = bit_xor (get_or values 0 0) (get_or values 1 0)

-- the secret is the sum of what is shown
secret_shown : (t : List ℕ) → is_tape roles (0 ∷ 0 ∷ []) t ≡ true → secret_at roles 0 t ≡ sum_of (shown overwriting 2 (Reg 10) t)
secret_shown t good =
    let words = words_of t good in
    let a = words.0 in
    let b = words.1 in
    let here : secret_at roles 0 (a ∷ b ∷ []) ≡ bit_xor a b = ap (λ (x : ℕ). bit_xor a x) (xor_zero_r b) in
    subst (λ (u : List ℕ). secret_at roles 0 u ≡ sum_of (shown overwriting 2 (Reg 10) u)) (sym words.2)
    (here ∙ ap sum_of (sym (both_shown a b)))

pub overwriting_is_not : IsSecureByOne overwriting (all_worlds roles (0 ∷ 0 ∷ [])) → ⊥
overwriting_is_not secure =
    secrets-are-told roles (0 ∷ 0 ∷ []) refl numbered 0 (omega arith)
    (determined roles (0 ∷ 0 ∷ []) (secret_at roles 0) (shown overwriting 2 (Reg 10)) sum_of secret_shown
    (secure-is-silent overwriting roles secure 2 (Reg 10)))
