-- What is known of the past of a source and a sink, and what each call does to it.
use Rattle.std.specs.Prelude.{◌≡◌, ℕ, Bool, false, ◌&&◌, eqb, ltb, Result, Ok, Err, Option, List, [], ◌++◌, take}
use Rattle.std.specs.Io.KnownBytes.{Appends, Consumes}

-- The bytes that a call moved: the first n of the buffer or the piece where it answered `Ok(n)`, and none where it failed.
abbrev pub moved : {E : Type 0} → Result ℕ E → List ℕ → List ℕ
moved (Ok n) bytes = take n bytes
moved (Err e) bytes = []

-- A read met the end: it gave nothing into a buffer of this length that isn't empty.
abbrev pub is_end : {E : Type 0} → Result ℕ E → ℕ → Bool
is_end (Ok n) room = eqb n 0 && ltb 0 room
is_end (Err e) room = false

-- What a source tells: the bytes that are left, where it tells them, those that it has given, and whether its last read met the end.
pub record SourceTells : Type 0 where
  pub left : Option (List ℕ)
  pub given : List ℕ
  pub ended : Bool

-- What a sink tells: the bytes that it holds, where it tells them, and those that it has taken.
pub record SinkTells : Type 0 where
  pub held : Option (List ℕ)
  pub taken : List ℕ

-- all that a source tells, and a sink, of its meanings
abbrev pub source_tells : {S : Type 0} → (S → Option (List ℕ)) → (S → List ℕ) → (S → Bool) → S → SourceTells
source_tells left given ended src = record { left = left src; given = given src; ended = ended src }

abbrev pub sink_tells : {K : Type 0} → (K → Option (List ℕ)) → (K → List ℕ) → K → SinkTells
sink_tells held taken sink = record { held = held sink; taken = taken sink }

-- A source gave these bytes, the next ones where it tells what is left.
pub record Gave (src src' : SourceTells) (bytes : List ℕ) : Type 0 where
  pub given : src'.given ≡ src.given ++ bytes
  pub left : Consumes src.left src'.left bytes

-- A sink took these bytes.
pub record Took (sink sink' : SinkTells) (bytes : List ℕ) : Type 0 where
  pub taken : sink'.taken ≡ sink.taken ++ bytes
  pub held : Appends sink.held sink'.held bytes
