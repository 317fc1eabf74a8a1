-- Going through a packed log from one entry to the next.
use Rattle.std.specs.Prelude.{◌≡◌, ℕ, ◌+◌, ◌/◌, ◌%◌, ◌<◌, ◌==◌, if◌then◌else◌, List, [], ◌∷◌, ◌++◌, length, drop, Option, Some, None}
use Rattle.std.specs.List.{AllByRecursion}
use Rattle.hart_model.specs.declared.probe.Probe.{Probe}
use Rattle.probe_log.specs.Packing.{block_len, words_from, packed_of, AreStartsOf}
use Rattle.probe_log.specs.Unpacking.{IsEntry}

-- a reader, as contracts see it: its place in the block, the entry before, and the words that are left
pub record Reading : Type 0 where
  pub place : ℕ
  pub before : Option Probe
  pub words : List ℕ

-- A reader is at entry n of a log: what is left are the words of the entries from n on.
pub record IsAt (r : Reading) (log : List Probe) (n : ℕ) : Type 0 where
  pub place : n < length log → r.place ≡ n % block_len
  pub words : r.words ≡ words_from n r.before (drop n log)
  pub entries : AllByRecursion IsEntry (drop n log)

-- the last of some entries that come after this one
abbrev pub last_of : Option Probe → List Probe → Option Probe
last_of before [] = before
last_of before (p ∷ ps) = last_of (Some p) ps

-- the starts of blocks, with this one where the entry of this number begins a block
abbrev pub starts_with : ℕ → ℕ → List ℕ → List ℕ
starts_with number start starts = if number % block_len == 0 then starts ++ start ∷ [] else starts

-- these words, starts of blocks, number of entries and last entry are those of a log
pub record IsPackedLog (packed block_starts : List ℕ) (len : ℕ) (latest : Option Probe) (log : List Probe) : Type 0 where
  pub words : packed ≡ packed_of log
  pub starts : AreStartsOf block_starts log
  pub blocks : length block_starts ≡ (len + 63) / block_len
  pub len_is : len ≡ length log
  pub last : latest ≡ last_of None log
  pub entries : AllByRecursion IsEntry log
