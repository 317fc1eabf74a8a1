-- A run alone through the code of a chain, from its start to its end.
use Rattle.std.proofs.Common.{◌≡◌, ℕ, ◌+◌, ◌*◌, ◌^◌, ◌<◌, ◌≤◌, List, [], ◌∷◌, ◌++◌, map, length, drop, count_by, Some, None, bit_xor, refl, ap, ◌∙◌, arith, length-append}
use Rattle.std.specs.List.{AllByRecursion, flat_map}
use Rattle.isa_model.specs.declared.latch.Latch.{Latch}
use Rattle.isa_model.specs.declared.latch.Latch.TheVariants as latches
use Rattle.isa_model.specs.declared.ends.End.TheVariants.{Exited}
use Rattle.isa_model.specs.declared.task.Task.{Task}
use Rattle.isa_model.specs.Bits.{low_word}
use Rattle.isa_model.specs.Encoding.{word_of}
use Rattle.isa_model.specs.Alone.{alone_at, with_value, last_of}
use Rattle.masked_gen.specs.Generator.{is_and}
use Rattle.masked_gen.specs.Chain.{chain_value}
use Rattle.masked_gen.specs.declared.gate.Gate.{Gate}
use Rattle.chain_laws.proofs.Steps.{Stands, HasRoom, AreAlu, after_alus, alu_steps, in_step, out_step, exit_step, stands_at}
use Rattle.chain_laws.proofs.Words.{taken_into, first_alus, out_alus, next_alus, last_alus, gate_words, end_words, code_words}
use Rattle.chain_laws.proofs.Gates.{Holds, gates_run, low_word-plain}

-- ---- the start

at_start : (T : Task) (words : List ℕ) → T.code ≡ words → Stands T (λ l. 0) [] 0 words
unfolding alone_at
at_start T words e =
    let pc : T.code_at ≡ T.code_at + 4 * 0 = omega arith in
    record { n = 0; state = ap (λ p. record { value = λ l. 0; pc = p; output = []; tape_at = 0; end = None }) pc; code = e }

-- the values once a share was taken into a register
abbrev with_share : Task → ℕ → ℕ → (Latch → ℕ) → Latch → ℕ
with_share T register share v = after_alus T (taken_into register) (with_value (latches.Reg 10) share v)

share_taken : (T : Task) (register : ℕ) (v : Latch → ℕ) (taken share : ℕ) (more rest : List ℕ) → HasRoom T → AreAlu (taken_into register) → v (latches.Reg 17) ≡ 2 → 1 ≤ length rest
    → drop taken T.tape ≡ share ∷ more → Stands T v [] taken (0x73 ∷ (map word_of (taken_into register) ++ rest)) → Stands T (with_share T register share v) [] (taken + 1) rest
share_taken T register v taken share more rest room alus call long tape stands =
    let next = stands_at T.tape taken share more tape in
    alu_steps T (taken_into register) (with_value (latches.Reg 10) share v) [] (taken + 1) rest room alus long
    (in_step T v [] taken share (map word_of (taken_into register) ++ rest) room call next.is (omega arith) stands)

abbrev started : Task → ℕ → ℕ → ℕ → ℕ → Latch → ℕ
started T s t b c = with_share T 4 c (with_share T 3 b (with_share T 2 t (with_share T 1 s (after_alus T first_alus (λ l. 0)))))

start_run : (T : Task) (gates : List Gate) (s t b c : ℕ) (masks : List ℕ) → HasRoom T → T.code ≡ code_words gates → T.tape ≡ s ∷ t ∷ b ∷ c ∷ masks
    → Stands T (started T s t b c) [] 4 (flat_map gate_words gates ++ end_words)
start_run T gates s t b c masks room code tape =
    let rest = flat_map gate_words gates ++ end_words in
    let long : 1 ≤ length rest = omega (arith, length-append (flat_map gate_words gates) end_words) in
    let r4 = 0x73 ∷ (map word_of (taken_into 4) ++ rest) in
    let r3 = 0x73 ∷ (map word_of (taken_into 3) ++ r4) in
    let r2 = 0x73 ∷ (map word_of (taken_into 2) ++ r3) in
    let r1 = 0x73 ∷ (map word_of (taken_into 1) ++ r2) in
    let v0 = after_alus T first_alus (λ l. 0) in
    let v1 = with_share T 1 s v0 in
    let v2 = with_share T 2 t v1 in
    let v3 = with_share T 3 b v2 in
    let s0 = alu_steps T first_alus (λ l. 0) [] 0 r1 room (refl, refl, tt) (omega arith) (at_start T (code_words gates) code) in
    let s1 = share_taken T 1 v0 0 s (t ∷ b ∷ c ∷ masks) r2 room (refl, refl, (refl, refl, tt)) refl (omega arith) tape s0 in
    let s2 = share_taken T 2 v1 1 t (b ∷ c ∷ masks) r3 room (refl, refl, (refl, refl, tt)) refl (omega arith) (ap (drop 1) tape) s1 in
    let s3 = share_taken T 3 v2 2 b (c ∷ masks) r4 room (refl, refl, (refl, refl, tt)) refl (omega arith) (ap (drop 2) tape) s2 in
    share_taken T 4 v3 3 c masks rest room (refl, refl, (refl, refl, tt)) refl long (ap (drop 3) tape) s3

start_holds : (T : Task) (s t b c : ℕ) → s < 2 ^ 32 → t < 2 ^ 32 → b < 2 ^ 32 → c < 2 ^ 32 → Holds (started T s t b c) s t b c
start_holds T s t b c hs ht hb hc = record {
  zero = refl;
  call = refl;
  s_is = low_word-plain s hs;
  t_is = low_word-plain t ht;
  b_is = low_word-plain b hb;
  c_is = low_word-plain c hc;
}

-- ---- the end

-- The task exits with 0, and has put out these two words.
pub record PutsOut (T : Task) (s t : ℕ) : Type 0 where
  pub ends : (last_of T).end ≡ Some (Exited 0)
  pub output : (last_of T).output ≡ s ∷ t ∷ []

end_run : (T : Task) (v : Latch → ℕ) (taken s t b c : ℕ) → HasRoom T → 2 ≤ T.out_max → s < 2 ^ 32 → t < 2 ^ 32 → Holds v s t b c → Stands T v [] taken end_words → PutsOut T s t
end_run T v taken s t b c room free hs ht h stands =
    let r3 = map word_of last_alus ++ (0x73 ∷ []) in
    let r2 = map word_of next_alus ++ (0x73 ∷ r3) in
    let v1 = after_alus T out_alus v in
    let v2 = after_alus T next_alus v1 in
    let v3 = after_alus T last_alus v2 in
    let x1 = v1 (latches.Reg 10) in
    let x2 = v2 (latches.Reg 10) in
    let call : v1 (latches.Reg 17) ≡ 1 = ap (λ z. low_word (z + 1)) h.zero in
    let gone : v3 (latches.Reg 17) ≡ 0 = ap (λ z. low_word (z + 0)) h.zero in
    let status : v3 (latches.Reg 10) ≡ 0 = ap (λ z. low_word (z + 0)) h.zero in
    let first : x1 ≡ s = ap (λ x. low_word (x + 0)) h.s_is ∙ low_word-plain s hs in
    let second : x2 ≡ t = ap (λ x. low_word (x + 0)) h.t_is ∙ low_word-plain t ht in
    let s1 = alu_steps T out_alus v [] taken (0x73 ∷ r2) room (refl, refl, (refl, refl, tt)) (omega arith) stands in
    let o1 = out_step T v1 [] taken r2 room call (omega arith) (omega arith) s1 in
    let s2 = alu_steps T next_alus v1 (x1 ∷ []) taken (0x73 ∷ r3) room (refl, refl, (refl, refl, (refl, refl, tt))) (omega arith) o1 in
    let o2 = out_step T v2 (x1 ∷ []) taken r3 room call (omega arith) (omega arith) s2 in
    let s3 = alu_steps T last_alus v2 (x1 ∷ x2 ∷ []) taken (0x73 ∷ []) room (refl, refl, (refl, refl, tt)) (omega arith) o2 in
    let last = exit_step T v3 (x1 ∷ x2 ∷ []) taken room gone s3 in
    record { ends = last.0 ∙ ap (λ x. Some (Exited x)) status; output = last.1 ∙ (λ i. first i ∷ second i ∷ []) }

-- ---- both, and the gates between them

-- Two words are put out, whose exclusive or is this.
pub record PutsOutShares (T : Task) (value : ℕ) : Type 0 where
  pub s : ℕ
  pub t : ℕ
  pub out : PutsOut T s t
  pub shared : bit_xor s t ≡ value

pub chain_run : (T : Task) (gates : List Gate) (s t b c : ℕ) (masks : List ℕ) → HasRoom T → 2 ≤ T.out_max → T.code ≡ code_words gates → T.tape ≡ s ∷ t ∷ b ∷ c ∷ masks
    → s < 2 ^ 32 → t < 2 ^ 32 → b < 2 ^ 32 → c < 2 ^ 32 → AllByRecursion (λ mask. mask < 2 ^ 32) masks → length masks ≡ count_by is_and gates
    → PutsOutShares T (chain_value gates (bit_xor s t) (bit_xor b c))
chain_run T gates s t b c masks room free code tape hs ht hb hc low count =
    let went = gates_run T gates (started T s t b c) 4 masks s t b c end_words room (omega arith) hs ht hb hc low count (ap (drop 4) tape)
    (start_run T gates s t b c masks room code tape) (start_holds T s t b c hs ht hb hc) in
    record {
      s = went.s;
      t = went.t;
      out = end_run T went.v went.taken went.s went.t b c room free went.s_low went.t_low went.holds went.stands;
      shared = went.shared;
    }
