-- Reading a packed log back.
use Rattle.std.specs.Prelude.{◌≡◌, ℕ, zero, suc, ◌+◌, ◌<◌, Bool, true, false, ◌==◌, nat_lt, List, [], ◌∷◌, ◌++◌, length, Option, Some, None, option_map, option_and_then, if◌then◌else◌}
use Rattle.std.specs.Option.{option_map_or}
use Rattle.std.specs.List.{AllByRecursion}
use Rattle.isa_model.specs.Bits.{bits}
use Rattle.isa_model.specs.declared.latch.Latch.{Latch}
use Rattle.isa_model.specs.declared.latch.Latch.TheVariants.{Reg, PortA, PortB, Res, Load, Store, Scr, Mul, Mem}
use Rattle.hart_model.specs.declared.probe.Probe.{Probe}
use Rattle.hart_model.specs.declared.probe.Why.{Why}
use Rattle.hart_model.specs.declared.probe.Why.TheVariants as whys
use Rattle.hart_model.specs.declared.probe.Side.{Side}
use Rattle.hart_model.specs.declared.probe.Side.TheVariants.{Was, Now}
use Rattle.probe_log.specs.declared.header.Header.{Header}
use Rattle.probe_log.specs.Packing.{entry_words, packed_of, in_block}

infixl 10 ◌>>=◌
abbrev pub ◌>>=◌ : {A B : Type 0} → Option A → (A → Option B) → Option B
o >>= f = option_and_then f o

abbrev pub is_set : ℕ → ℕ → Bool
is_set at word = bits at 1 word == 1

-- the header of a word
abbrev pub header_in : ℕ → Header
header_in word = record {
  latch = bits 0 8 word;
  why = bits 8 2 word;
  names_now = is_set 10 word;
  named = bits 11 8 word;
  hart_follows = is_set 19 word;
  pc_follows = is_set 20 word;
  was_follows = is_set 21 word;
  now_follows = is_set 22 word;
}

-- The first word where it follows, and else this one; and the words after it. None where it follows and there is none; so below.
abbrev pub word_in : Bool → ℕ → List ℕ → Option (ℕ × List ℕ)
word_in false kept words = Some (kept, words)
word_in true kept [] = None
word_in true kept (word ∷ words) = Some (word, words)

-- the latch of a code that isn't that of the words of memory; None where no latch has it
abbrev pub plain_latch : ℕ → Option Latch
plain_latch code =
    if nat_lt code 32 then Some (Reg code)
    else (if code == 32 then Some PortA
    else (if code == 33 then Some PortB
    else (if code == 34 then Some Res
    else (if code == 35 then Some Load
    else (if code == 36 then Some Store
    else (if code == 37 then Some Scr
    else (if code == 39 then Some Mul
    else None)))))))

-- the latch of a code, with its address from the words if it is a word of memory, and the words after it
abbrev pub latch_in : ℕ → List ℕ → Option (Latch × List ℕ)
latch_in code words =
    if code == 38 then option_map (λ at. (Mem at.0, at.1)) (word_in true 0 words) else option_map (λ latch. (latch, words)) (plain_latch code)

abbrev pub side_of : Bool → Side
side_of names_now = if names_now then Now else Was

-- the why of a header, with what it names from the words, and the words after it
abbrev pub why_in : Header → List ℕ → Option (Why × List ℕ)
why_in header words =
    if header.why == 0 then Some (whys.Public, words)
    else (if header.why == 3 then Some (whys.Unexplained, words)
    else (do
      task ← word_in true 0 words
      step ← word_in true 0 task.1
      latch ← latch_in header.named step.1
      Some (if header.why == 1 then whys.Value task.0 step.0 latch.0 (side_of header.names_now) else whys.Step task.0 step.0 latch.0, latch.1)))

-- the hart and the pc of an entry; 0 where there is none
abbrev pub hart_of : Option Probe → ℕ
hart_of None = 0
hart_of (Some before) = before.hart

abbrev pub pc_of : Option Probe → ℕ
pc_of None = 0
pc_of (Some before) = before.pc

-- the entry of a header and the words after it, after this entry of its block; and the words after the entry
abbrev pub entry_after : Option Probe → Header → List ℕ → Option (Probe × List ℕ)
entry_after before header words = do
  hart ← word_in header.hart_follows (hart_of before) words
  pc ← word_in header.pc_follows (pc_of before) hart.1
  was ← word_in header.was_follows 0 pc.1
  now ← word_in header.now_follows 0 was.1
  latch ← latch_in header.latch now.1
  why ← why_in header latch.1
  Some (record { hart = hart.0; pc = pc.0; latch = latch.0; was = was.0; now = now.0; why = why.0 }, why.1)

-- The entry at the front of words, after this one of its block, and the words after it. None where the words end too early, or a code is
-- no latch's.
abbrev pub entry_in : Option Probe → List ℕ → Option (Probe × List ℕ)
entry_in before [] = None
entry_in before (word ∷ words) = entry_after before (header_in word) words

-- So many entries at the front of words, of which the first has this number and comes after this one; fewer where `entry_in` has none.
abbrev pub entries_in : ℕ → Option Probe → ℕ → List ℕ → List Probe
entries_in number before zero words = []
entries_in number before (suc count) words =
    option_map_or (λ found. found.0 ∷ entries_in (number + 1) (Some found.0) count found.1) (entry_in (in_block number before) words) []

-- a latch: registers have numbers below 32
abbrev pub IsLatch : Latch → Type 0
IsLatch (Reg r) = r < 32
IsLatch latch = Unit {0}

-- what a why names is a latch
abbrev pub NamesLatch : Why → Type 0
NamesLatch (whys.Value task step latch side) = IsLatch latch
NamesLatch (whys.Step task step latch) = IsLatch latch
NamesLatch why = Unit {0}

-- an entry of latches that there are
pub record IsEntry (p : Probe) : Type 0 where
  pub latch : IsLatch p.latch
  pub named : NamesLatch p.why

-- Reading undoes the packing: of an entry, whatever words follow, and of a log.
pub record ReadsBack : Type 0 where
  pub entry : (before : Option Probe) (p : Probe) (rest : List ℕ) → IsEntry p → entry_in before (entry_words before p ++ rest) ≡ Some (p, rest)
  pub log : (log : List Probe) → AllByRecursion IsEntry log → entries_in 0 None (length log) (packed_of log) ≡ log
