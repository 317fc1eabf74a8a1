-- A source and a sink over memory, as contracts see them, and what one call does to each.
use Rattle.std.specs.Prelude.{ℕ, ◌+◌, ◌-◌, ◌^◌, ◌<◌, ◌≡◌, Bool, false, ◌&&◌, eqb, ltb, List, ◌++◌, length, take, drop, min}

-- A source over memory: the bytes that it has left, those that it has given, whether its last read met the end, how many it gives a
-- call at most, the numbers of the calls that fail, and how many calls and faults there were.
pub record GivenBytes : Type 0 where
  pub left : List ℕ
  pub given : List ℕ
  pub ended : Bool
  pub per_call : ℕ
  pub failing : List ℕ
  pub calls : ℕ
  pub faults : ℕ

-- A sink over memory: the bytes that it holds, how many it has room for, how many it takes a call
-- at most, the numbers of the calls that fail, and how many calls and faults there were.
pub record TakenBytes : Type 0 where
  pub held : List ℕ
  pub room : ℕ
  pub per_call : ℕ
  pub failing : List ℕ
  pub calls : ℕ
  pub faults : ℕ

-- A counter after one more, which stays at the greatest u64.
abbrev pub next_count : ℕ → ℕ
next_count count = min (count + 1) (2 ^ 64 - 1)

-- How many bytes a read into a buffer of this length gives.
abbrev pub given_count : GivenBytes → ℕ → ℕ
given_count source buffer_len = min (min (length source.left) source.per_call) buffer_len

-- The source after a read that gave this many bytes into a buffer of this length.
abbrev pub source_after_read : GivenBytes → ℕ → ℕ → GivenBytes
source_after_read source count buffer_len = record source {
  left = drop count source.left;
  given = source.given ++ take count source.left;
  ended = eqb count 0 && ltb 0 buffer_len;
  calls = next_count source.calls;
}

-- The source after a read that failed.
abbrev pub source_after_fault : GivenBytes → GivenBytes
source_after_fault source = record source {
  ended = false;
  calls = next_count source.calls;
  faults = next_count source.faults;
}

-- The sink has no room for a piece that isn't empty.
abbrev pub IsFullFor : TakenBytes → List ℕ → Type 0
IsFullFor sink piece = (0 < length piece) × (length sink.held ≡ sink.room)

-- How many bytes a write of a piece of this length takes.
abbrev pub taken_count : TakenBytes → ℕ → ℕ
taken_count sink piece_len = min (min piece_len sink.per_call) (sink.room - length sink.held)

-- The sink after a write that took these bytes.
abbrev pub sink_after_write : TakenBytes → List ℕ → TakenBytes
sink_after_write sink bytes = record sink {
  held = sink.held ++ bytes;
  calls = next_count sink.calls;
}

-- The sink after a write that failed.
abbrev pub sink_after_fault : TakenBytes → TakenBytes
sink_after_fault sink = record sink {
  calls = next_count sink.calls;
  faults = next_count sink.faults;
}
