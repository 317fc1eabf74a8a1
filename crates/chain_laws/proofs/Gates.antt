-- A run alone through the code of a chain: what the registers hold of it.
use Rattle.std.proofs.Common.{◌≡◌, ℕ, ◌+◌, ◌^◌, ◌<◌, ◌≤◌, List, [], ◌∷◌, ◌++◌, map, length, drop, count_by, bit_and, bit_xor, refl, ap, ◌∙◌, arith, length-append, cond, zero-add}
use Rattle.std.specs.List.{AllByRecursion, flat_map}
use Rattle.std.proofs.lemmas.List.Sums.{sum_by-cons}
use Rattle.std.proofs.lemmas.Nat.{xor_lt, and_le_l}
use Rattle.isa_model.specs.declared.latch.Latch.{Latch}
use Rattle.isa_model.specs.declared.latch.Latch.TheVariants as latches
use Rattle.isa_model.specs.declared.task.Task.{Task}
use Rattle.isa_model.specs.Bits.{low_word}
use Rattle.isa_model.specs.Encoding.{word_of}
use Rattle.isa_model.specs.Alone.{with_value}
use Rattle.masked_gen.specs.Generator.{is_and}
use Rattle.masked_gen.specs.Chain.{gate_value, chain_value}
use Rattle.masked_gen.specs.declared.gate.Gate.{Gate}
use Rattle.masked_gen.specs.declared.gate.Gate.TheVariants.{Xor, And}
use Rattle.chain_laws.proofs.Bits.{xor_shares, and_shares}
use Rattle.chain_laws.proofs.Steps.{Stands, HasRoom, AreAlu, after_alus, alu_steps, in_step, stands_at}
use Rattle.chain_laws.proofs.Words.{xor_alus, and_alus, gate_words}

-- The registers hold both shares of both words, and the task asks for words of its tape.
pub record Holds (v : Latch → ℕ) (s t b c : ℕ) : Type 0 where
  pub zero : v (latches.Reg 0) ≡ 0
  pub call : v (latches.Reg 17) ≡ 2
  pub s_is : v (latches.Reg 1) ≡ s
  pub t_is : v (latches.Reg 2) ≡ t
  pub b_is : v (latches.Reg 3) ≡ b
  pub c_is : v (latches.Reg 4) ≡ c

pub low_word-plain : (n : ℕ) → n < 2 ^ 32 → low_word (n + 0) ≡ n
low_word-plain n h = omega arith

-- ---- an Xor

are_xor : AreAlu xor_alus
are_xor = (refl, refl, (refl, refl, (refl, refl, (refl, refl, tt))))

xor_holds : (T : Task) (v : Latch → ℕ) (s t b c : ℕ) → Holds v s t b c → Holds (after_alus T xor_alus v) (bit_xor s b) (bit_xor t c) b c
xor_holds T v s t b c h = record {
  zero = h.zero;
  call = h.call;
  s_is = ap (λ x. bit_xor x (v (latches.Reg 3))) h.s_is ∙ ap (bit_xor s) h.b_is;
  t_is = ap (λ x. bit_xor x (v (latches.Reg 4))) h.t_is ∙ ap (bit_xor t) h.c_is;
  b_is = h.b_is;
  c_is = h.c_is;
}

-- ---- an And

are_and : AreAlu and_alus
are_and = (refl, refl, (refl, refl, (refl, refl, (refl, refl, (refl, refl, (refl, refl, (refl, refl, (refl, refl, (refl, refl, (refl, refl, (refl, refl, (refl, refl, (refl, refl, (refl, refl, (refl, refl, (refl, refl, (refl, refl, (refl, refl, (refl, refl, (refl, refl, (refl, refl, (refl, refl, (refl, refl, (refl, refl, (refl, refl, (refl, refl, (refl, refl, tt)))))))))))))))))))))))))))

-- the shares after it
abbrev first_share : ℕ → ℕ → ℕ → ℕ → ℕ
first_share s b c m = bit_xor (bit_and s b) (bit_xor (bit_and s c) m)

and_first : (T : Task) (v : Latch → ℕ) (m : ℕ) → after_alus T and_alus (with_value (latches.Reg 10) m v) (latches.Reg 1)
    ≡ low_word (bit_xor (bit_and (v (latches.Reg 1)) (v (latches.Reg 3))) (bit_xor (bit_and (v (latches.Reg 1)) (v (latches.Reg 4))) (low_word (m + 0))) + 0)
and_first T v m = refl

and_second : (T : Task) (v : Latch → ℕ) (m : ℕ) → after_alus T and_alus (with_value (latches.Reg 10) m v) (latches.Reg 2)
    ≡ low_word (bit_xor (bit_and (v (latches.Reg 2)) (v (latches.Reg 4))) (bit_xor (bit_and (v (latches.Reg 2)) (v (latches.Reg 3))) (low_word (m + 0))) + 0)
and_second T v m = refl

and_lt : (a b : ℕ) → a < 2 ^ 32 → bit_and a b < 2 ^ 32
and_lt a b h = let le = and_le_l a b in omega arith

share_lt : (s b c m : ℕ) → s < 2 ^ 32 → m < 2 ^ 32 → first_share s b c m < 2 ^ 32
share_lt s b c m hs hm = xor_lt 32 (bit_and s b) (bit_xor (bit_and s c) m) (and_lt s b hs) (xor_lt 32 (bit_and s c) m (and_lt s c hs) hm)

share_is : (s b c m : ℕ) → s < 2 ^ 32 → m < 2 ^ 32
    → low_word (bit_xor (bit_and s b) (bit_xor (bit_and s c) (low_word (m + 0))) + 0) ≡ first_share s b c m
share_is s b c m hs hm =
    ap (λ x. low_word (bit_xor (bit_and s b) (bit_xor (bit_and s c) x) + 0)) (low_word-plain m hm) ∙ low_word-plain (first_share s b c m) (share_lt s b c m hs hm)

and_holds : (T : Task) (v : Latch → ℕ) (s t b c m : ℕ) → s < 2 ^ 32 → t < 2 ^ 32 → m < 2 ^ 32 → Holds v s t b c
    → Holds (after_alus T and_alus (with_value (latches.Reg 10) m v)) (first_share s b c m) (first_share t c b m) b c
and_holds T v s t b c m hs ht hm h = record {
  zero = h.zero;
  call = h.call;
  s_is = and_first T v m
      ∙ (λ i. low_word (bit_xor (bit_and (h.s_is i) (h.b_is i)) (bit_xor (bit_and (h.s_is i) (h.c_is i)) (low_word (m + 0))) + 0))
      ∙ share_is s b c m hs hm;
  t_is = and_second T v m
      ∙ (λ i. low_word (bit_xor (bit_and (h.t_is i) (h.c_is i)) (bit_xor (bit_and (h.t_is i) (h.b_is i)) (low_word (m + 0))) + 0))
      ∙ share_is t c b m ht hm;
  b_is = h.b_is;
  c_is = h.c_is;
}

-- ---- all gates

-- The run went through gates, and holds shares of what they compute.
pub record WentThrough (T : Task) (gates : List Gate) (word b c : ℕ) (rest : List ℕ) : Type 0 where
  pub v : Latch → ℕ
  pub taken : ℕ
  pub s : ℕ
  pub t : ℕ
  pub stands : Stands T v [] taken rest
  pub holds : Holds v s t b c
  pub s_low : s < 2 ^ 32
  pub t_low : t < 2 ^ 32
  pub shared : bit_xor s t ≡ chain_value gates word (bit_xor b c)

went_on : (T : Task) (gate : Gate) (gates : List Gate) (word b c : ℕ) (rest : List ℕ) (here : ℕ) → here ≡ gate_value gate word (bit_xor b c)
    → WentThrough T gates here b c rest → WentThrough T (gate ∷ gates) word b c rest
went_on T gate gates word b c rest here e went = record {
  v = went.v;
  taken = went.taken;
  s = went.s;
  t = went.t;
  stands = went.stands;
  holds = went.holds;
  s_low = went.s_low;
  t_low = went.t_low;
  shared = went.shared ∙ ap (λ x. chain_value gates x (bit_xor b c)) e;
}

pub gates_run : (T : Task) (gates : List Gate) (v : Latch → ℕ) (taken : ℕ) (masks : List ℕ) (s t b c : ℕ) (rest : List ℕ) → HasRoom T → 1 ≤ length rest
    → s < 2 ^ 32 → t < 2 ^ 32 → b < 2 ^ 32 → c < 2 ^ 32 → AllByRecursion (λ mask. mask < 2 ^ 32) masks → length masks ≡ count_by is_and gates
    → drop taken T.tape ≡ masks → Stands T v [] taken (flat_map gate_words gates ++ rest) → Holds v s t b c → WentThrough T gates (bit_xor s t) b c rest
gates_run T [] v taken masks s t b c rest room more hs ht hb hc low count tape stands holds =
    record { v = v; taken = taken; s = s; t = t; stands = stands; holds = holds; s_low = hs; t_low = ht; shared = refl }
gates_run T (Xor ∷ gates) v taken masks s t b c rest room more hs ht hb hc low count tape stands holds =
    let after = flat_map gate_words gates ++ rest in
    let long : 1 ≤ length after = omega (arith, length-append (flat_map gate_words gates) rest) in
    went_on T Xor gates (bit_xor s t) b c rest (bit_xor (bit_xor s b) (bit_xor t c)) (xor_shares s t b c)
    (gates_run T gates (after_alus T xor_alus v) taken masks (bit_xor s b) (bit_xor t c) b c rest room more (xor_lt 32 s b hs hb) (xor_lt 32 t c ht hc) hb hc low
    (count ∙ sum_by-cons (λ g. cond (is_and g) 1 0) Xor gates ∙ zero-add (count_by is_and gates)) tape
    (alu_steps T xor_alus v [] taken after room are_xor long stands) (xor_holds T v s t b c holds))
gates_run T (And ∷ gates) v taken [] s t b c rest room more hs ht hb hc low count tape stands holds =
    absurd (omega (arith, count, sum_by-cons (λ g. cond (is_and g) 1 0) And gates))
gates_run T (And ∷ gates) v taken (m ∷ masks) s t b c rest room more hs ht hb hc low count tape stands holds =
    let after = flat_map gate_words gates ++ rest in
    let long : 1 ≤ length after = omega (arith, length-append (flat_map gate_words gates) rest) in
    let mask = stands_at T.tape taken m masks tape in
    let fewer : length masks ≡ count_by is_and gates = omega (arith, count, sum_by-cons (λ g. cond (is_and g) 1 0) And gates) in
    let given = in_step T v [] taken m (map word_of and_alus ++ after) room holds.call mask.is (omega arith) stands in
    went_on T And gates (bit_xor s t) b c rest (bit_xor (first_share s b c m) (first_share t c b m)) (and_shares s t b c m)
    (gates_run T gates (after_alus T and_alus (with_value (latches.Reg 10) m v)) (taken + 1) masks (first_share s b c m) (first_share t c b m) b c rest room more
    (share_lt s b c m hs low.0) (share_lt t c b m ht low.0) hb hc low.1 fewer mask.rest_is
    (alu_steps T and_alus (with_value (latches.Reg 10) m v) [] (taken + 1) after room are_and long given) (and_holds T v s t b c m hs ht low.0 holds))
