-- A worker before its first turn.
use Rattle.std.proofs.Common.{◌≡◌, ℕ, zero, suc, ◌+◌, ◌<◌, [], replicate, slice_get, Some, refl, sym, ap, ◌∙◌, subst, arith}
use Rattle.hart_model.specs.HartState.{boot_hart}
use Rattle.core_model.specs.declared.loaded.Loaded.{Loaded}
use Rattle.core_model.specs.Board.{BoardWithSpare, boot_board}
use Rattle.core_model.specs.Core.{CoreState, bodies_from, harts_from}
use Rattle.core_model.specs.KernelWords.{kernel_code}
use Rattle.core_model.specs.Loaded.{IsLoaded}
use Rattle.core_model.specs.Orders.{boot_pace, boot_coarse, plan_at, IsLegalFrom, IsLegal}
use Rattle.probe_log.specs.Counts.{counts_of}
use Rattle.timer_plan.specs.Pace.{PaceState, pace_of}
use Rattle.order_laws.specs.CoarseRuns.{coarse_from, coarse_state, HartShare, IsShareOf}
use Rattle.hart_advance.specs.Pacing.{IsPaceOf}
use Rattle.hart_advance.proofs.CanAdvance.{paces-follow}
use Rattle.order_laws.proofs.AsEvents.{coarse-states}
use Rattle.hart_runner.specs.declared.own_hart.OwnHart.{OwnHart}
use Rattle.hart_runner.specs.CoreBoards.{IsBoardOf}
use Rattle.hart_runner.specs.Turning.{IsTurning}

hart-at : (first count take i : ℕ) → i < count → slice_get (harts_from first count take) i ≡ Some (boot_hart (first + i) take)
hart-at first zero take i low = absurd (omega (arith, low))
hart-at first (suc count) take zero low = let e : first + 0 ≡ first = omega arith in ap (λ n. Some (boot_hart n take)) (sym e)
hart-at first (suc count) take (suc i) low =
    let e : first + 1 + i ≡ first + suc i = omega arith in
    hart-at (first + 1) count take i (omega (arith, low)) ∙ ap (λ n. Some (boot_hart n take)) e

pace-at : (count i : ℕ) → i < count → slice_get (replicate count boot_pace) i ≡ Some boot_pace
pace-at zero i low = absurd (omega (arith, low))
pace-at (suc count) zero low = refl
pace-at (suc count) (suc i) low = pace-at count i (omega (arith, low))

abbrev pub boot_share : ℕ → HartShare
boot_share number = record { hart = boot_hart number kernel_code.take; pace = boot_pace; entries = [] }

module _ (loaded : Loaded) (number : ℕ) (low : number < loaded.harts) where
  booted : IsShareOf (boot_coarse loaded kernel_code) number (boot_share number)
  booted =
      let e : 0 + number ≡ number = omega arith in
      record {
        hart = hart-at 0 loaded.harts kernel_code.take number low ∙ ap (λ n. Some (boot_hart n kernel_code.take)) e;
        pace = pace-at loaded.harts number low;
        entries = refl;
      }

  boot-share : IsShareOf (coarse_state loaded kernel_code []) number (boot_share number)
  unfolding coarse_from
  boot-share = booted

pub none-legal : (loaded : Loaded) → IsLegal loaded kernel_code []
unfolding IsLegalFrom
none-legal loaded = tt

pub turning-boots : (loaded : Loaded) → IsLoaded loaded → (number : ℕ) → number < loaded.harts → (own : OwnHart)
    → own.hart ≡ boot_hart number kernel_code.take → own.pace ≡ pace_of (plan_at loaded.plans number) 0 0 → own.tally ≡ counts_of []
    → IsTurning loaded number [] own
turning-boots loaded fits number low own hart pace tally = record {
  is_loaded = fits;
  legal = none-legal loaded;
  share = boot_share number;
  is_share = boot-share loaded number low;
  goes_on = refl;
  hart = hart;
  counts = tally;
  pace = subst (λ (p : PaceState). IsPaceOf (plan_at loaded.plans number) boot_pace (boot_hart number kernel_code.take) p) (sym pace)
      (paces-follow.boots (plan_at loaded.plans number) (boot_hart number kernel_code.take) refl);
}

-- A board at boot is that of the empty order.
module _ (loaded : Loaded) (b : BoardWithSpare) (lists : b.lists ≡ boot_board loaded.slots (bodies_from 0 loaded.tasks) loaded.bands) where
  booted-board : b.lists ≡ (coarse_state loaded kernel_code []).core.board
  unfolding coarse_from
  booted-board = lists

  pub board-boots : IsBoardOf loaded b []
  board-boots = record {
    legal = none-legal loaded;
    board = booted-board ∙ ap (λ (c : CoreState). c.board) (coarse-states loaded kernel_code []);
  }
