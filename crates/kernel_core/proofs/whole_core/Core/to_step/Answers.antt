-- A step of a hart under its plan: what was told then, and what the keeper got.
use Rattle.std.proofs.Common.{◌≡◌, ◌<◌, ◌+◌, ◌++◌, ◌∷◌, ◌∙◌, true, false, List, length, get_or, set, refl, sym, ap, subst}
use Rattle.hart_model.specs.declared.probe.Probe.{Probe as LogEntry}
use Rattle.core_model.specs.Orders.{boot_pace, plan_at}
use Rattle.kernel_core.specs.Counted.{of_counts, of_keeper}
use Rattle.kernel_core.specs.Seats.{SeatValue}
use Rattle.kernel_core.specs.History.{CoreValue}
use Rattle.kernel_core.specs.PacedHistory.{PacedHistory, IsPacedCoreOf, has_stopped_at, stepped}
use Rattle.kernel_core.proofs.HistoryMore.{sound-so}
use Rattle.kernel_core.proofs.PacedRunAfter.{ticked-actions}
use Rattle.kernel_core.proofs.PacedSeats.{GonePaced, seat-found, pace-in, paced-step, action-is, entries-are}
use Rattle.kernel_core.proofs.whole_core.Core.to_step.Goals as goal

pub go_paced-action-requires-clause-paced : goal.go_paced-action-requires-clause-paced
go_paced-action-requires-clause-paced g c =
    let old : CoreValue g.row.K.Denot = record {
      run = c.self.inside.run;
      tasks = c.self.inside.tasks;
      log = c.self.inside.log;
      seats = c.self.inside.seats.items;
      is_paced = c.self.inside.is_paced;
    } in
    let low = subst (λ (v : CoreValue g.row.K.Denot). c.args.hart < length v.run.harts) (sym c.self.view_is) c.requires.hart in
    let told = c.self.invariant (subst (λ (v : CoreValue g.row.K.Denot). v.is_paced ≡ true) (sym c.self.view_is) c.requires.paced) in
    let seat : SeatValue = record { pace = c.seat.inside.pace; has_stopped = c.seat.inside.stopped } in
    let F : SeatValue → Type 0 = λ s. s ≡ get_or old.seats c.args.hart s in
    let found = seat-found told.0 old c.args.hart seat told.1 low (subst F (sym c.seat.view_is) c.index_mut-seat.ensures.value) in
    (plan_at told.0.history.loaded.plans c.args.hart, get_or told.0.paces c.args.hart boot_pace, pace-in told.0 old c.args.hart seat told.1 found)

pub invariant_of-self : goal.invariant_of-self
invariant_of-self g c is_paced =
    let old : CoreValue g.row.K.Denot = record {
      run = c.self.inside.run;
      tasks = c.self.inside.tasks;
      log = c.self.inside.log;
      seats = c.self.inside.seats.items;
      is_paced = c.self.inside.is_paced;
    } in
    let low = subst (λ (v : CoreValue g.row.K.Denot). c.args.hart < length v.run.harts) (sym c.self.view_is) c.requires.hart in
    let told = c.self.invariant is_paced in
    let seat : SeatValue = record { pace = c.seat.inside.pace; has_stopped = c.seat.inside.stopped } in
    let F : SeatValue → Type 0 = λ s. s ≡ get_or old.seats c.args.hart s in
    let found = seat-found told.0 old c.args.hart seat told.1 low (subst F (sym c.seat.view_is) c.index_mut-seat.ensures.value) in
    let gone : GonePaced c.args.hart old _ c.go_paced-action.result = record {
      exists = low;
      goes_on = subst (λ (v : CoreValue g.row.K.Denot). has_stopped_at v c.args.hart ≡ false) (sym c.self.view_is) c.requires.goes_on;
      seat = seat;
      is_seat = found;
      pace = c.go_paced-action.new.pace;
      seats = ap (λ b. set old.seats c.args.hart (record { pace = c.go_paced-action.new.pace; has_stopped = b })) c.stopped_after-seat-inside.ensures.stopped;
      tasks = refl;
      is_paced = is_paced;
      run = c.go_paced-action.ensures.after;
      made = c.go_paced-action.ensures.action;
      paced = c.go_paced-action.ensures.pace;
      logs = λ plan progress paced log stood. c.go_paced-action.ensures.log plan progress paced (of_counts ∷ log) stood;
    } in
    (stepped told.0 c.args.hart, paced-step told.0 c.args.hart old _ c.go_paced-action.result told.1 gone)

pub returns : goal.returns
returns g c =
    let old : CoreValue g.row.K.Denot = record {
      run = c.self.inside.run;
      tasks = c.self.inside.tasks;
      log = c.self.inside.log;
      seats = c.self.inside.seats.items;
      is_paced = c.self.inside.is_paced;
    } in
    let low = subst (λ (v : CoreValue g.row.K.Denot). c.args.hart < length v.run.harts) (sym c.self.view_is) c.requires.hart in
    let is_paced = subst (λ (v : CoreValue g.row.K.Denot). v.is_paced ≡ true) (sym c.self.view_is) c.requires.paced in
    let told = c.self.invariant is_paced in
    let seat : SeatValue = record { pace = c.seat.inside.pace; has_stopped = c.seat.inside.stopped } in
    let F : SeatValue → Type 0 = λ s. s ≡ get_or old.seats c.args.hart s in
    let found = seat-found told.0 old c.args.hart seat told.1 low (subst F (sym c.seat.view_is) c.index_mut-seat.ensures.value) in
    let after : CoreValue g.row.K.Denot = record {
      run = c.go_paced-action.new.self;
      tasks = c.self.inside.tasks;
      log = c.go_paced-action.new.keeper;
      seats = set c.self.inside.seats.items c.args.hart
          (record { pace = c.go_paced-action.new.pace; has_stopped = c.stopped_after-seat-inside.result });
      is_paced = c.self.inside.is_paced;
    } in
    let gone : GonePaced c.args.hart old after c.go_paced-action.result = record {
      exists = low;
      goes_on = subst (λ (v : CoreValue g.row.K.Denot). has_stopped_at v c.args.hart ≡ false) (sym c.self.view_is) c.requires.goes_on;
      seat = seat;
      is_seat = found;
      pace = c.go_paced-action.new.pace;
      seats = ap (λ b. set old.seats c.args.hart (record { pace = c.go_paced-action.new.pace; has_stopped = b })) c.stopped_after-seat-inside.ensures.stopped;
      tasks = refl;
      is_paced = is_paced;
      run = c.go_paced-action.ensures.after;
      made = c.go_paced-action.ensures.action;
      paced = c.go_paced-action.ensures.pace;
      logs = λ plan progress paced log stood. c.go_paced-action.ensures.log plan progress paced (of_counts ∷ log) stood;
    } in
    let I : PacedHistory → CoreValue g.row.K.Denot → Type 0 = λ t v. IsPacedCoreOf t v in
    let is_old : (t : PacedHistory) → IsPacedCoreOf t c.args.self.now → IsPacedCoreOf t old = λ t is. subst (I t) (sym c.self.view_is) is in
    record {
      told = λ t is. paced-step t c.args.hart old after c.go_paced-action.result (is_old t is) gone;
      action = λ t is. action-is t c.args.hart old after c.go_paced-action.result (is_old t is) gone;
      sound = λ t is. sound-so (stepped t c.args.hart).history is.core.is_kernel is.core.start;
      actions = (
          let plan = plan_at told.0.history.loaded.plans c.args.hart in
          let progress = get_or told.0.paces c.args.hart boot_pace in
          (c.go_paced-action.ensures.after plan progress (pace-in told.0 old c.args.hart seat told.1 found)).actions
          ∙ ticked-actions plan progress c.args.hart old.run
          ∙ ap (λ (v : CoreValue g.row.K.Denot). v.run.actions) c.self.view_is);
      paced = is_paced;
      keeper = λ t is before stood.
          (let entries = entries-are t c.args.hart old after c.go_paced-action.result (is_old t is) gone in
          let S : List LogEntry → Type 0 = λ es. g.K.Keeper.stands c.go_paced-action.new.keeper.keeper (before ++ es) in
          let B : CoreValue g.row.K.Denot → Type 0 = λ v. g.K.Keeper.stands v.log.keeper before in
          subst S entries
          (c.go_paced-action.ensures.log _ _ (pace-in t old c.args.hart seat (is_old t is) found) (of_keeper ∷ before) (subst B (sym c.self.view_is) stood)));
      room = λ t is.
          (let entries = entries-are t c.args.hart old after c.go_paced-action.result (is_old t is) gone in
          let R : List LogEntry → Type 0 = λ es. g.K.Keeper.room_of c.go_paced-action.new.keeper.keeper + length es ≡ g.K.Keeper.room_of old.log.keeper in
          subst R entries (c.go_paced-action.ensures.room _ _ (pace-in t old c.args.hart seat (is_old t is) found))
          ∙ ap (λ (v : CoreValue g.row.K.Denot). g.K.Keeper.room_of v.log.keeper) c.self.view_is);
    }
