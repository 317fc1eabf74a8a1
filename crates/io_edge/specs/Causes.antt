-- When a fault may be answered: the object that was handed in counted one in this call.
use Rattle.std.specs.Prelude.{ℕ, ◌-◌, ◌^◌, ◌<◌, ◌≤◌, ◌≡◌, ◌⊎◌, Result, OnErr, Option, List, length, take}
use Rattle.std.specs.Io.KnownBytes.{Appends, Consumes}

-- A count of faults rose, or stands at the greatest u64, from where it can't rise.
abbrev pub Rose : ℕ → ℕ → Type 0
Rose before now = (before < now) ⊎ (now ≡ 2 ^ 64 - 1)

-- A count of faults never falls, and an error comes only where it rose.
pub record HasCause {T E : Type 0} (before now : ℕ) (result : Result T E) : Type 0 where
  pub later : before ≤ now
  pub failed : OnErr result (Rose before now)

-- Known bytes grow by a front of these bytes.
abbrev pub AppendsFront : Option (List ℕ) → Option (List ℕ) → List ℕ → Type 0
AppendsFront old new bytes = (gone : ℕ) × (gone ≤ length bytes) × Appends old new (take gone bytes)

-- Known bytes lose a front of at most this many bytes.
abbrev pub ConsumesAtMost : Option (List ℕ) → Option (List ℕ) → ℕ → Type 0
ConsumesAtMost old new most = (taken : List ℕ) × (length taken ≤ most) × Consumes old new taken
