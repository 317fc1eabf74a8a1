-- What the text of a run on threads tells (this project's own).
use Rattle.std.specs.Prelude.{◌≡◌, ℕ, List}
use Rattle.core_model.specs.declared.loaded.Loaded.{Loaded}
use Rattle.core_model.specs.Loaded.{IsLoaded}
use Rattle.kernel_cli.specs.Replays.{order_report}
use Rattle.kernel_cli.specs.Runs.{IsRunOrder}

-- Two orders that harts may make of a loaded bundle and that have one text are one order.
abbrev pub RunTextsTellOrders : Type 0
RunTextsTellOrders = (loaded : Loaded) → IsLoaded loaded → (o p : List ℕ) → IsRunOrder loaded o → IsRunOrder loaded p
    → order_report loaded o ≡ order_report loaded p → o ≡ p
