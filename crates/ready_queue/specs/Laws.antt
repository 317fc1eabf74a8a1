-- What holds of boards. It is the contract of a law in `src/laws.rt`.
use Rattle.std.specs.Prelude.{ℕ, List, All}
use Rattle.hart_model.specs.Context.{BodyState}
use Rattle.core_model.specs.Board.{all_ready, boot_board}
use Rattle.ready_queue.specs.declared.kind.Kind.TheVariants.{Ready}
use Rattle.ready_queue.specs.Bodies.{AreFreshFrom}
use Rattle.ready_queue.specs.Gives.{CanBeGiven}

-- The ready contexts of a board at boot stand for their tasks, and none has an end.
abbrev pub BootedContextsStand : Type 0
BootedContextsStand = (slots : ℕ) (bodies : List BodyState) (bands : List ℕ) → AreFreshFrom 0 bodies →
    All (CanBeGiven Ready) (all_ready (boot_board slots bodies bands).ready)
