-- Reading a packed log back gives the log.
use Rattle.std.proofs.Common.{◌≡◌, ℕ, ◌+◌, ◌*◌, ◌^◌, ◌<◌, Bool, true, false, ◌==◌, List, [], ◌∷◌, ◌++◌, length, Option, Some, None, refl, sym, ap, ◌∙◌, arith, append_assoc}
use Rattle.std.proofs.lemmas.Bool.Decides.{nat_tests}
use Rattle.std.proofs.lemmas.Grind.{common_steps}
use Rattle.std.specs.List.{AllByRecursion}
use Rattle.isa_model.specs.Bits.{bits}
use Rattle.isa_model.specs.declared.latch.Latch.{Latch}
use Rattle.hart_model.specs.declared.probe.Probe.{Probe}
use Rattle.hart_model.specs.declared.probe.Why.{Why}
use Rattle.hart_model.specs.declared.probe.Why.TheVariants as whys
use Rattle.hart_model.specs.declared.probe.Side.{Side}
use Rattle.hart_model.specs.declared.probe.Side.TheVariants.{Was, Now}
use Rattle.probe_log.specs.declared.header.Header.{Header}
use Rattle.probe_log.specs.Packing.{latch_code, latch_words, why_code, is_now, names_now, named_code, named_words, differs, flag, hart_follows, pc_follows, header_of, header_word, word_if, entry_words, in_block, words_from}
use Rattle.probe_log.specs.Unpacking.{header_in, word_in, latch_in, side_of, why_in, hart_of, pc_of, entry_after, entry_in, entries_in, IsLatch, NamesLatch, IsEntry, ReadsBack}

-- The fields of a sum of fields.
record AreFields (l w s n h p a o : ℕ) (word : ℕ) : Type 0 where
  latch : bits 0 8 word ≡ l
  why : bits 8 2 word ≡ w
  side : bits 10 1 word ≡ s
  named : bits 11 8 word ≡ n
  hart : bits 19 1 word ≡ h
  pc : bits 20 1 word ≡ p
  was : bits 21 1 word ≡ a
  now : bits 22 1 word ≡ o

abbrev sum_of : (l w s n h p a o : ℕ) → ℕ
sum_of l w s n h p a o = l + 2 ^ 8 * w + 2 ^ 10 * s + 2 ^ 11 * n + 2 ^ 19 * h + 2 ^ 20 * p + 2 ^ 21 * a + 2 ^ 22 * o

are_fields : (l w s n h p a o : ℕ) → l < 256 → w < 4 → s < 2 → n < 256 → h < 2 → p < 2 → a < 2 → o < 2 → AreFields l w s n h p a o (sum_of l w s n h p a o)
are_fields l w s n h p a o lb wb sb nb hb pb ab ob = record {
  latch = omega arith;
  why = omega arith;
  side = omega arith;
  named = omega arith;
  hart = omega arith;
  pc = omega arith;
  was = omega arith;
  now = omega arith;
}

flag_bound : (b : Bool) → flag b < 2
flag_bound true = omega arith
flag_bound false = omega arith

-- a flag that is read is the flag
flag_is : (b : Bool) (n : ℕ) → n ≡ flag b → (n == 1) ≡ b
flag_is true n e = rw e refl
flag_is false n e = rw e refl

code_bound : (latch : Latch) → IsLatch latch → latch_code latch < 256
code_bound latch is = grind arith

named_bound : (why : Why) → NamesLatch why → named_code why < 256
named_bound (whys.Value task step latch side) is = code_bound latch is
named_bound (whys.Step task step latch) is = code_bound latch is
named_bound whys.Public is = omega arith
named_bound whys.Unexplained is = omega arith

why_bound : (why : Why) → why_code why < 4
why_bound (whys.Value task step latch side) = omega arith
why_bound (whys.Step task step latch) = omega arith
why_bound whys.Public = omega arith
why_bound whys.Unexplained = omega arith

-- the header of a header's word is the header
header_back : (h : Header) → h.latch < 256 → h.why < 4 → h.named < 256 → header_in (header_word h) ≡ h
header_back h latch why named =
    let fields = are_fields h.latch h.why (flag h.names_now) h.named (flag h.hart_follows) (flag h.pc_follows) (flag h.was_follows) (flag h.now_follows)
    latch why (flag_bound _) named (flag_bound _) (flag_bound _) (flag_bound _) (flag_bound _) in
    let side = flag_is h.names_now _ fields.side in
    let hart = flag_is h.hart_follows _ fields.hart in
    let pc = flag_is h.pc_follows _ fields.pc in
    let was = flag_is h.was_follows _ fields.was in
    let now = flag_is h.now_follows _ fields.now in
    rw (fields.latch, fields.why, side, fields.named, hart, pc, was, now) refl

-- what follows, or what is kept
word_back : (b : Bool) (kept n : ℕ) (more rest : List ℕ) → (b ≡ false → kept ≡ n) → word_in b kept ((word_if b n ++ more) ++ rest) ≡ Some (n, more ++ rest)
word_back true kept n more rest same = refl
word_back false kept n more rest same = ap (λ k. Some (k, more ++ rest)) (same refl)

latch_back : (latch : Latch) (rest : List ℕ) → IsLatch latch → latch_in (latch_code latch) (latch_words latch ++ rest) ≡ Some (latch, rest)
latch_back latch rest is = grind (arith, common_steps)

side_back : (side : Side) → side_of (is_now side) ≡ side
side_back Was = refl
side_back Now = refl

why_back : (why : Why) (h : Header) (rest : List ℕ) → NamesLatch why → h.why ≡ why_code why → h.names_now ≡ names_now why → h.named ≡ named_code why → why_in h (named_words why ++ rest) ≡ Some (why, rest)
why_back (whys.Value task step latch side) h rest is why now named = rw (why, now, named, latch_back latch rest is, side_back side) refl
why_back (whys.Step task step latch) h rest is why now named = rw (why, named, latch_back latch rest is) refl
why_back whys.Public h rest is why now named = rw why refl
why_back whys.Unexplained h rest is why now named = rw why refl

same_unless_differs : (m n : ℕ) → differs m n ≡ false → m ≡ n
same_unless_differs m n e = grind (arith, nat_tests)

hart_kept : (before : Option Probe) (p : Probe) → hart_follows before p ≡ false → hart_of before ≡ p.hart
hart_kept None p e = absurd (cc)
hart_kept (Some before) p e = same_unless_differs before.hart p.hart e

pc_kept : (before : Option Probe) (p : Probe) → pc_follows before p ≡ false → pc_of before ≡ p.pc
pc_kept None p e = absurd (cc)
pc_kept (Some before) p e = same_unless_differs before.pc p.pc e

zero_kept : (n : ℕ) → differs n 0 ≡ false → 0 ≡ n
zero_kept n e = sym (same_unless_differs n 0 e)

-- what follows the header, from the latch on, from the value after on, and so forth
abbrev from_latch : Probe → List ℕ
from_latch p = latch_words p.latch ++ named_words p.why

abbrev from_now : Probe → List ℕ
from_now p = word_if (differs p.now 0) p.now ++ from_latch p

abbrev from_was : Probe → List ℕ
from_was p = word_if (differs p.was 0) p.was ++ from_now p

abbrev from_pc : Option Probe → Probe → List ℕ
from_pc before p = word_if (pc_follows before p) p.pc ++ from_was p

-- all that follows the header
abbrev from_hart : Option Probe → Probe → List ℕ
from_hart before p = word_if (hart_follows before p) p.hart ++ from_pc before p

after_header : (before : Option Probe) (p : Probe) (rest : List ℕ) → IsEntry p → entry_after before (header_of before p) (from_hart before p ++ rest) ≡ Some (p, rest)
after_header before p rest is =
    let h : Header = header_of before p in
    let hart = word_back (hart_follows before p) (hart_of before) p.hart (from_pc before p) rest (hart_kept before p) in
    let pc = word_back (pc_follows before p) (pc_of before) p.pc (from_was p) rest (pc_kept before p) in
    let was = word_back (differs p.was 0) 0 p.was (from_now p) rest (zero_kept p.was) in
    let now = word_back (differs p.now 0) 0 p.now (from_latch p) rest (zero_kept p.now) in
    let latch = latch_back p.latch (named_words p.why ++ rest) is.latch in
    let why = why_back p.why h rest is.named refl refl refl in
    rw (hart, pc, was, now, append_assoc (latch_words p.latch) (named_words p.why) rest, latch, why) refl

entry_back : (before : Option Probe) (p : Probe) (rest : List ℕ) → IsEntry p → entry_in before (entry_words before p ++ rest) ≡ Some (p, rest)
entry_back before p rest is =
    let header = header_back (header_of before p) (code_bound p.latch is.latch) (why_bound p.why) (named_bound p.why is.named) in
    ap (λ h. entry_after before h (from_hart before p ++ rest)) header ∙ after_header before p rest is

log_back : (number : ℕ) (before : Option Probe) (log : List Probe) → AllByRecursion IsEntry log → entries_in number before (length log) (words_from number before log) ≡ log
log_back number before [] is = refl
log_back number before (p ∷ ps) is =
    let read = entry_back (in_block number before) p (words_from (number + 1) (Some p) ps) is.0 in
    let others = log_back (number + 1) (Some p) ps is.1 in
    rw read (rw others refl)

pub reads_back : ReadsBack
reads_back = record { entry = entry_back; log = log_back 0 None }
