-- A log as words (this project's own): the words of its entries, one entry after the other. An entry is a header, and then the words that
-- the header announces. A hart and a pc that are those of the entry before, and values that are 0, are left out; in each block of 64
-- entries the first has its hart and its pc, so that reading may begin there.
use Rattle.std.specs.Prelude.{◌≡◌, ℕ, ◌+◌, ◌*◌, ◌%◌, ◌^◌, ◌<◌, Bool, true, false, ◌==◌, List, [], ◌∷◌, ◌++◌, length, take, Option, Some, None, slice_get, if◌then◌else◌}
use Rattle.isa_model.specs.declared.latch.Latch.{Latch}
use Rattle.isa_model.specs.declared.latch.Latch.TheVariants.{Reg, PortA, PortB, Res, Load, Store, Scr, Mul, Mem}
use Rattle.hart_model.specs.declared.probe.Probe.{Probe}
use Rattle.hart_model.specs.declared.probe.Why.{Why}
use Rattle.hart_model.specs.declared.probe.Why.TheVariants as whys
use Rattle.hart_model.specs.declared.probe.Side.{Side}
use Rattle.hart_model.specs.declared.probe.Side.TheVariants.{Was, Now}
use Rattle.probe_log.specs.declared.header.Header.{Header}

-- the code of a latch: the number of a register, and then one each; words of memory have one code, whatever their address
abbrev pub latch_code : Latch → ℕ
latch_code (Reg r) = r
latch_code PortA = 32
latch_code PortB = 33
latch_code Res = 34
latch_code Load = 35
latch_code Store = 36
latch_code Scr = 37
latch_code (Mem at) = 38
latch_code Mul = 39

-- the address of a word of memory follows
abbrev pub latch_words : Latch → List ℕ
latch_words (Mem at) = at ∷ []
latch_words latch = []

abbrev pub why_code : Why → ℕ
why_code whys.Public = 0
why_code (whys.Value task step latch side) = 1
why_code (whys.Step task step latch) = 2
why_code whys.Unexplained = 3

abbrev pub is_now : Side → Bool
is_now Was = false
is_now Now = true

-- whether the why names the value after the write
abbrev pub names_now : Why → Bool
names_now (whys.Value task step latch side) = is_now side
names_now why = false

-- the code of the latch that the why names, and 0 where it names none
abbrev pub named_code : Why → ℕ
named_code (whys.Value task step latch side) = latch_code latch
named_code (whys.Step task step latch) = latch_code latch
named_code why = 0

-- the task and the step that the why names, and the address of a word of memory
abbrev pub named_words : Why → List ℕ
named_words (whys.Value task step latch side) = task ∷ step ∷ latch_words latch
named_words (whys.Step task step latch) = task ∷ step ∷ latch_words latch
named_words why = []

abbrev pub differs : ℕ → ℕ → Bool
differs m n = if m == n then false else true

-- whether the hart and the pc follow: in an entry that comes after none in its block, and where they differ
abbrev pub hart_follows : Option Probe → Probe → Bool
hart_follows None p = true
hart_follows (Some before) p = differs before.hart p.hart

abbrev pub pc_follows : Option Probe → Probe → Bool
pc_follows None p = true
pc_follows (Some before) p = differs before.pc p.pc

-- the header of an entry, after this one of its block
abbrev pub header_of : Option Probe → Probe → Header
header_of before p = record {
  latch = latch_code p.latch;
  why = why_code p.why;
  names_now = names_now p.why;
  named = named_code p.why;
  hart_follows = hart_follows before p;
  pc_follows = pc_follows before p;
  was_follows = differs p.was 0;
  now_follows = differs p.now 0;
}

abbrev pub flag : Bool → ℕ
flag b = if b then 1 else 0

-- the word of a header: the latch in bits 0 to 7, the why in 8 and 9, the side in 10, the named latch in 11 to 18, and what follows in
-- 19 to 22
abbrev pub header_word : Header → ℕ
header_word h =
    h.latch + 2 ^ 8 * h.why + 2 ^ 10 * flag h.names_now + 2 ^ 11 * h.named + 2 ^ 19 * flag h.hart_follows + 2 ^ 20 * flag h.pc_follows
    + 2 ^ 21 * flag h.was_follows + 2 ^ 22 * flag h.now_follows

abbrev pub word_if : Bool → ℕ → List ℕ
word_if b n = if b then n ∷ [] else []

-- the words of an entry, after this one of its block
abbrev pub entry_words : Option Probe → Probe → List ℕ
entry_words before p =
    header_word (header_of before p)
    ∷ (word_if (hart_follows before p) p.hart ++ (word_if (pc_follows before p) p.pc ++ (word_if (differs p.was 0) p.was
    ++ (word_if (differs p.now 0) p.now ++ (latch_words p.latch ++ named_words p.why)))))

-- how many entries a block has
abbrev pub block_len : ℕ
block_len = 64

-- the entry before, if it is of the same block
abbrev pub in_block : ℕ → Option Probe → Option Probe
in_block number before = if number % block_len == 0 then None else before

-- the words of entries, of which the first has this number and comes after this one
abbrev pub words_from : ℕ → Option Probe → List Probe → List ℕ
words_from number before [] = []
words_from number before (p ∷ ps) = entry_words (in_block number before) p ++ words_from (number + 1) (Some p) ps

abbrev pub packed_of : List Probe → List ℕ
packed_of log = words_from 0 None log

-- where the blocks of a log begin
abbrev pub AreStartsOf : List ℕ → List Probe → Type 0
AreStartsOf starts log = (k : ℕ) → block_len * k < length log → slice_get starts k ≡ Some (length (packed_of (take (block_len * k) log)))
