-- A run alone through straight code.
use Rattle.std.proofs.Common.{◌≡◌, ℕ, ◌+◌, ◌*◌, ◌-◌, ◌/◌, ◌^◌, ◌<◌, ◌≤◌, Bool, true, false, List, [], ◌∷◌, ◌++◌, map, length, drop, get_or, Some, None, leb, ltb, eqb, refl, sym, ap, ◌∙◌, arith, length-append, length-drop, drop-cons, add-one}
use Rattle.std.specs.List.{slice_get}
use Rattle.std.proofs.lemmas.Bool.{cond-true, cond-false, le-leb, lt-ltb, ne_eqb}
use Rattle.std.proofs.lemmas.Option.{slice_get-get_or}
use Rattle.isa_model.specs.declared.instr.Instr.{Instr}
use Rattle.isa_model.specs.declared.instr.Instr.TheVariants.{AluImm, AluReg, Ecall}
use Rattle.isa_model.specs.declared.latch.Latch.{Latch}
use Rattle.isa_model.specs.declared.latch.Latch.TheVariants as latches
use Rattle.isa_model.specs.declared.task.Task.{Task}
use Rattle.isa_model.specs.Bits.{low_word}
use Rattle.isa_model.specs.Encoding.{word_of}
use Rattle.isa_model.specs.InstrTable.{instr_of}
use Rattle.isa_model.specs.Effect.{effect_of}
use Rattle.isa_model.specs.declared.ends.End.TheVariants.{Exited}
use Rattle.isa_model.specs.Alone.{AloneState, Executed, alone_at, after_instr, after_fetch, after_decode, fuel_checked_state, values_after, operands_of, code_word_at, with_value, after_call, after_in, last_of}
use Rattle.isa_model.proofs.AloneLaws.{alone-next, last-is}

-- the state of a run that goes on after n instructions of straight code
abbrev going : Task → ℕ → (Latch → ℕ) → List ℕ → ℕ → AloneState
going T n v out taken = record { value = v; pc = T.code_at + 4 * n; output = out; tape_at = taken; end = None }

-- The run goes on with these values, this output and so many words taken, and this is left of its code.
pub record Stands (T : Task) (v : Latch → ℕ) (out : List ℕ) (taken : ℕ) (left : List ℕ) : Type 0 where
  pub n : ℕ
  pub state : alone_at T n ≡ going T n v out taken
  pub code : drop n T.code ≡ left

-- The code lies in the address space, and there is fuel for all of it.
pub record HasRoom (T : Task) : Type 0 where
  pub places : T.code_at + 4 * length T.code ≤ 2 ^ 32
  pub fuel : length T.code < T.fuel

-- ---- one step

-- what stands first in what is left of a list
pub record StandsAt (xs : List ℕ) (n x : ℕ) (rest : List ℕ) : Type 0 where
  pub within : n < length xs
  pub is : slice_get xs n ≡ Some x
  pub rest_is : drop (n + 1) xs ≡ rest

pub stands_at : (xs : List ℕ) (n x : ℕ) (rest : List ℕ) → drop n xs ≡ x ∷ rest → StandsAt xs n x rest
stands_at xs n x rest e =
    let count = ap length e in
    let within : n < length xs = omega (arith, length-drop n xs) in
    let cut : get_or xs n 0 ∷ drop (n + 1) xs ≡ x ∷ rest = rw add-one (sym (drop-cons xs n 0 within) ∙ e) in
    let first : get_or xs n 0 ≡ x = cc in
    record { within = within; is = slice_get-get_or xs n 0 within ∙ ap (λ w. Some w) first; rest_is = cc }

record Fetched (T : Task) (n : ℕ) (word : ℕ) (rest : List ℕ) : Type 0 where
  within : n < length T.code
  word_is : code_word_at T (T.code_at + 4 * n) ≡ Some word
  rest_is : drop (n + 1) T.code ≡ rest

fetched : (T : Task) (n word : ℕ) (rest : List ℕ) → drop n T.code ≡ word ∷ rest → Fetched T n word rest
fetched T n word rest e =
    let here = stands_at T.code n word rest e in
    let index : (T.code_at + 4 * n - T.code_at) / 4 ≡ n = omega arith in
    record {
      within = here.within;
      word_is = cond-true (leb T.code_at (T.code_at + 4 * n)) (slice_get T.code ((T.code_at + 4 * n - T.code_at) / 4)) None (le-leb T.code_at (T.code_at + 4 * n) (omega arith))
          ∙ ap (slice_get T.code) index ∙ here.is;
      rest_is = here.rest_is;
    }

stepped : (T : Task) (n : ℕ) (v : Latch → ℕ) (out : List ℕ) (taken word : ℕ) (rest : List ℕ) (instr : Instr)
    → alone_at T n ≡ going T n v out taken → Fetched T n word rest → instr_of word ≡ Some instr
    → alone_at T (n + 1) ≡ fuel_checked_state T (n + 1) (after_decode T (Some instr) (going T n v out taken)).state
unfolding after_instr
stepped T n v out taken word rest instr state fetch decode =
    alone-next T n (ap (λ s. s.end) state) ∙ ap (λ s. fuel_checked_state T (n + 1) (after_instr T s).state) state
    ∙ ap (λ w. fuel_checked_state T (n + 1) (after_fetch T w (going T n v out taken)).state) fetch.word_is
    ∙ ap (λ i. fuel_checked_state T (n + 1) (after_decode T i (going T n v out taken)).state) decode

-- it goes on at the next word
moved : (T : Task) (n : ℕ) (v : Latch → ℕ) (out : List ℕ) (taken : ℕ) → n + 1 < T.fuel → T.code_at + 4 * (n + 1) < 2 ^ 32
    → fuel_checked_state T (n + 1) (record { value = v; pc = low_word (T.code_at + 4 * n + 4); output = out; tape_at = taken; end = None })
    ≡ going T (n + 1) v out taken
moved T n v out taken fuel places =
    let pc : low_word (T.code_at + 4 * n + 4) ≡ T.code_at + 4 * (n + 1) = omega arith in
    cond-false (eqb (n + 1) T.fuel) _ _ (ne_eqb (n + 1) T.fuel (λ q. omega arith))
    ∙ ap (λ p. record { value = v; pc = p; output = out; tape_at = taken; end = None }) pc

-- An instruction that leaves this, and is not the last, leads to where the rest of the code is left.
stands_next : (T : Task) (v next : Latch → ℕ) (out outs : List ℕ) (taken takes word : ℕ) (rest : List ℕ) (instr : Instr) → HasRoom T → 1 ≤ length rest
    → (stands : Stands T v out taken (word ∷ rest)) → instr_of word ≡ Some instr
    → (after_decode T (Some instr) (going T stands.n v out taken)).state
    ≡ record { value = next; pc = low_word (T.code_at + 4 * stands.n + 4); output = outs; tape_at = takes; end = None }
    → Stands T next outs takes rest
stands_next T v next out outs taken takes word rest instr room more stands decode leaves =
    let n = stands.n in
    let fetch = fetched T n word rest stands.code in
    let count : length T.code - (n + 1) ≡ length rest = sym (length-drop (n + 1) T.code) ∙ ap length fetch.rest_is in
    let within = fetch.within in
    let fuel = room.fuel in
    let places = room.places in
    record {
      n = n + 1;
      state = stepped T n v out taken word rest instr stands.state fetch decode ∙ ap (fuel_checked_state T (n + 1)) leaves
          ∙ moved T n next outs takes (omega arith) (omega arith);
      code = fetch.rest_is;
    }

-- ---- operations on registers

abbrev pub is_alu : Instr → Bool
is_alu (AluImm op rd rs1 imm) = true
is_alu (AluReg op rd rs1 rs2) = true
is_alu _ = false

-- the values after an operation
abbrev pub after_alu : Task → Instr → (Latch → ℕ) → Latch → ℕ
after_alu T instr v = values_after (effect_of instr 0 (operands_of T v instr)).writes v

alu_state : (T : Task) (n : ℕ) (v : Latch → ℕ) (out : List ℕ) (taken : ℕ) (instr : Instr) → is_alu instr ≡ true
    → (after_decode T (Some instr) (going T n v out taken)).state
    ≡ record { value = after_alu T instr v; pc = low_word (T.code_at + 4 * n + 4); output = out; tape_at = taken; end = None }
alu_state T n v out taken (AluImm op rd rs1 imm) e = refl
alu_state T n v out taken (AluReg op rd rs1 rs2) e = refl
alu_state T n v out taken _ e = absurd (cc e)

pub alu_step : (T : Task) (v : Latch → ℕ) (out : List ℕ) (taken word : ℕ) (rest : List ℕ) (instr : Instr) → HasRoom T
    → Stands T v out taken (word ∷ rest) → instr_of word ≡ Some instr → is_alu instr ≡ true → 1 ≤ length rest → Stands T (after_alu T instr v) out taken rest
alu_step T v out taken word rest instr room stands decode alu more =
    stands_next T v (after_alu T instr v) out out taken taken word rest instr room more stands decode (alu_state T stands.n v out taken instr alu)

-- Each of these is an operation, and its word spells it.
abbrev pub AreAlu : List Instr → Type 0
AreAlu [] = Unit {0}
AreAlu (instr ∷ instrs) = (instr_of (word_of instr) ≡ Some instr) × (is_alu instr ≡ true) × AreAlu instrs

abbrev pub after_alus : Task → List Instr → (Latch → ℕ) → Latch → ℕ
after_alus T [] v = v
after_alus T (instr ∷ instrs) v = after_alus T instrs (after_alu T instr v)

pub alu_steps : (T : Task) (instrs : List Instr) (v : Latch → ℕ) (out : List ℕ) (taken : ℕ) (rest : List ℕ) → HasRoom T → AreAlu instrs → 1 ≤ length rest
    → Stands T v out taken (map word_of instrs ++ rest) → Stands T (after_alus T instrs v) out taken rest
alu_steps T [] v out taken rest room alus more stands = stands
alu_steps T (instr ∷ instrs) v out taken rest room alus more stands =
    let long : 1 ≤ length (map word_of instrs ++ rest) = omega (arith, length-append (map word_of instrs) rest) in
    alu_steps T instrs (after_alu T instr v) out taken rest room alus.2 more
    (alu_step T v out taken (word_of instr) (map word_of instrs ++ rest) instr room stands alus.0 alus.1 long)

-- ---- services

-- the next word of the tape
pub in_step : (T : Task) (v : Latch → ℕ) (out : List ℕ) (taken word : ℕ) (rest : List ℕ) → HasRoom T → v (latches.Reg 17) ≡ 2 → slice_get T.tape taken ≡ Some word
    → 1 ≤ length rest → Stands T v out taken (0x73 ∷ rest) → Stands T (with_value (latches.Reg 10) word v) out (taken + 1) rest
in_step T v out taken word rest room call tape more stands =
    let here = going T stands.n v out taken in
    stands_next T v (with_value (latches.Reg 10) word v) out out taken (taken + 1) 0x73 rest Ecall room more stands refl
    (ap (λ a7. (after_call T a7 (v (latches.Reg 10)) here).state) call ∙ ap (λ w. (after_in w here).state) tape)

-- a word put out
pub out_step : (T : Task) (v : Latch → ℕ) (out : List ℕ) (taken : ℕ) (rest : List ℕ) → HasRoom T → v (latches.Reg 17) ≡ 1 → length out < T.out_max
    → 1 ≤ length rest → Stands T v out taken (0x73 ∷ rest) → Stands T v (out ++ v (latches.Reg 10) ∷ []) taken rest
out_step T v out taken rest room call free more stands =
    let here = going T stands.n v out taken in
    stands_next T v v out (out ++ v (latches.Reg 10) ∷ []) taken taken 0x73 rest Ecall room more stands refl
    (ap (λ a7. (after_call T a7 (v (latches.Reg 10)) here).state) call
    ∙ ap (λ (e : Executed). e.state) (cond-true (ltb (length out) T.out_max) _ _ (lt-ltb (length out) T.out_max free)))

-- the end, by the last word of the code
pub exit_step : (T : Task) (v : Latch → ℕ) (out : List ℕ) (taken : ℕ) → HasRoom T → v (latches.Reg 17) ≡ 0 → Stands T v out taken (0x73 ∷ [])
    → ((last_of T).end ≡ Some (Exited (v (latches.Reg 10)))) × ((last_of T).output ≡ out)
exit_step T v out taken room call stands =
    let n = stands.n in
    let fetch = fetched T n 0x73 [] stands.code in
    let here = going T n v out taken in
    let ended : alone_at T (n + 1) ≡ record here { end = Some (Exited (v (latches.Reg 10))) } =
    stepped T n v out taken 0x73 [] Ecall stands.state fetch refl
    ∙ ap (λ a7. fuel_checked_state T (n + 1) (after_call T a7 (v (latches.Reg 10)) here).state) call in
    let within = fetch.within in
    let fuel = room.fuel in
    let last = last-is T (n + 1) (omega arith) (rw ended refl) ∙ ended in
    (ap (λ s. s.end) last, ap (λ s. s.output) last)
