-- A step under a plan is the event on the run that its tick left, and keeps the core.
use Rattle.std.proofs.Common.{◌≡◌, ◌<◌, ◌+◌, ◌++◌, ◌∙◌, sym, subst, ap, length, slice_get, Option, Some, List, ℕ}
use Rattle.hart_model.specs.declared.probe.Probe.{Probe as LogEntry}
use Rattle.hart_model.specs.HartState.{HartState}
use Rattle.core_model.specs.declared.event.Event.TheVariants as events
use Rattle.core_model.specs.KernelWords.{KernelCodeState}
use Rattle.core_model.specs.Orders.{count_on, pace_after}
use Rattle.core_model.proofs.Lists.{some-is}
use Rattle.core_invariant.proofs.Items.{get-set_same}
use Rattle.hart_advance.specs.Pacing.{IsPaceOf, IsUnderKernel, due_hart}
use Rattle.core_model.specs.BoardStep.{board_step_of}
use Rattle.kernel_core.specs.BoardStep.{CanGo, IsAfterBoardStep}
use Rattle.kernel_core.specs.Running.{RunValue, IsAfterEvent, event_on, entries_of}
use Rattle.kernel_core.specs.PacedRun.{ticked_run}
use Rattle.kernel_core.proofs.RunAfter.{index-is, with_board_and_hart}
use Rattle.kernel_core.proofs.PacedRunAfter.{under-kernel, can-go-due, after-paced, action-of-paced, kept-paced, entries-of-paced}
use Rattle.kernel_core.proofs.run.Run.go_paced.Goals as goal

pub go_paced-requires-clause-kernel : goal.go_paced-requires-clause-kernel
go_paced-requires-clause-kernel g c =
    let r : RunValue = record { board = c.self.inside.board; harts = c.self.inside.harts.items; kernel = c.self.inside.kernel; actions = c.self.inside.actions } in
    let low = subst (λ (v : RunValue). c.args.number < length v.harts) (sym c.self.view_is) c.requires.hart in
    let is = index-is r.harts c.args.number c.index_mut-hart.result.now low c.index_mut-hart.ensures.value in
    let there = subst (λ (v : RunValue). slice_get v.harts c.args.number ≡ Some c.index_mut-hart.result.now) c.self.view_is is in
    let words = c.as_slice-code.ensures.words ∙ ap (λ (k : KernelCodeState). k.words) (c.behind-self.view_is ∙ c.code.ensures.code) in
    let P : List ℕ → Type 0 = λ code. IsUnderKernel code c.index_mut-hart.result.now in
    subst P (sym words) (under-kernel r c.args.number c.index_mut-hart.result.now is c.self.invariant.0 c.self.invariant.1)

pub go_paced-requires-clause-can : goal.go_paced-requires-clause-can
go_paced-requires-clause-can g c =
    let r : RunValue = record { board = c.self.inside.board; harts = c.self.inside.harts.items; kernel = c.self.inside.kernel; actions = c.self.inside.actions } in
    let low = subst (λ (v : RunValue). c.args.number < length v.harts) (sym c.self.view_is) c.requires.hart in
    let is = index-is r.harts c.args.number c.index_mut-hart.result.now low c.index_mut-hart.ensures.value in
    let there = subst (λ (v : RunValue). slice_get v.harts c.args.number ≡ Some c.index_mut-hart.result.now) c.self.view_is is in
    let words = c.as_slice-code.ensures.words ∙ ap (λ (k : KernelCodeState). k.words) (c.behind-self.view_is ∙ c.code.ensures.code) in
    let left = subst (λ (v : RunValue). length v.board.lists.order < v.actions) (sym c.self.view_is) c.requires.actions in
    let paced = c.requires.paced in
    let P : List ℕ → Type 0 = λ code. CanGo code r.board c.args.number (due_hart paced.0 paced.1 c.index_mut-hart.result.now) in
    record {
      plan = paced.0;
      progress = paced.1;
      is_pace = paced.2 c.index_mut-hart.result.now there;
      can = subst P (sym words)
          (can-go-due r c.args.number c.index_mut-hart.result.now is paced.0 paced.1 c.self.invariant.0 c.self.invariant.1 low left);
    }

pub invariant_of-self : goal.invariant_of-self
invariant_of-self g c =
    let r : RunValue = record { board = c.self.inside.board; harts = c.self.inside.harts.items; kernel = c.self.inside.kernel; actions = c.self.inside.actions } in
    let low = subst (λ (v : RunValue). c.args.number < length v.harts) (sym c.self.view_is) c.requires.hart in
    let is = index-is r.harts c.args.number c.index_mut-hart.result.now low c.index_mut-hart.ensures.value in
    let there = subst (λ (v : RunValue). slice_get v.harts c.args.number ≡ Some c.index_mut-hart.result.now) c.self.view_is is in
    let words = c.as_slice-code.ensures.words ∙ ap (λ (k : KernelCodeState). k.words) (c.behind-self.view_is ∙ c.code.ensures.code) in
    let plan = c.requires.paced.0 in
    let progress = c.requires.paced.1 in
    let paced = c.requires.paced.2 in
    let G : List ℕ → Type 0 =
    λ code. IsAfterBoardStep (board_step_of code r.board.lists c.args.number (due_hart plan progress c.index_mut-hart.result.now))
    c.go_paced.new.board.lists c.go_paced.new.hart c.go_paced.result in
    let gone = subst G words (c.go_paced.ensures.gone plan progress (paced c.index_mut-hart.result.now there)) in (
      c.self.invariant.0,
      kept-paced r c.args.number c.index_mut-hart.result.now is plan progress c.go_paced.new.board c.go_paced.new.hart c.go_paced.result gone
          c.go_paced.ensures.spare c.self.invariant.0 c.self.invariant.1,
    )

pub returns-clause-after : goal.returns-clause-after
returns-clause-after g c plan progress paced =
    let r : RunValue = record { board = c.self.inside.board; harts = c.self.inside.harts.items; kernel = c.self.inside.kernel; actions = c.self.inside.actions } in
    let low = subst (λ (v : RunValue). c.args.number < length v.harts) (sym c.self.view_is) c.requires.hart in
    let is = index-is r.harts c.args.number c.index_mut-hart.result.now low c.index_mut-hart.ensures.value in
    let there = subst (λ (v : RunValue). slice_get v.harts c.args.number ≡ Some c.index_mut-hart.result.now) c.self.view_is is in
    let words = c.as_slice-code.ensures.words ∙ ap (λ (k : KernelCodeState). k.words) (c.behind-self.view_is ∙ c.code.ensures.code) in
    let G : List ℕ → Type 0 =
    λ code. IsAfterBoardStep (board_step_of code r.board.lists c.args.number (due_hart plan progress c.index_mut-hart.result.now))
    c.go_paced.new.board.lists c.go_paced.new.hart c.go_paced.result in
    let gone = subst G words (c.go_paced.ensures.gone plan progress (paced c.index_mut-hart.result.now there)) in
    let P : RunValue → Type 0 =
    λ v. IsAfterEvent (ticked_run plan progress c.args.number v) (with_board_and_hart r c.go_paced.new.board c.args.number c.go_paced.new.hart)
    (events.Go c.args.number) in
    subst P c.self.view_is
    (after-paced r c.args.number c.index_mut-hart.result.now is plan progress c.go_paced.new.board c.go_paced.new.hart c.go_paced.result gone)

pub returns-clause-action : goal.returns-clause-action
returns-clause-action g c plan progress paced =
    let r : RunValue = record { board = c.self.inside.board; harts = c.self.inside.harts.items; kernel = c.self.inside.kernel; actions = c.self.inside.actions } in
    let low = subst (λ (v : RunValue). c.args.number < length v.harts) (sym c.self.view_is) c.requires.hart in
    let is = index-is r.harts c.args.number c.index_mut-hart.result.now low c.index_mut-hart.ensures.value in
    let there = subst (λ (v : RunValue). slice_get v.harts c.args.number ≡ Some c.index_mut-hart.result.now) c.self.view_is is in
    let words = c.as_slice-code.ensures.words ∙ ap (λ (k : KernelCodeState). k.words) (c.behind-self.view_is ∙ c.code.ensures.code) in
    let G : List ℕ → Type 0 =
    λ code. IsAfterBoardStep (board_step_of code r.board.lists c.args.number (due_hart plan progress c.index_mut-hart.result.now))
    c.go_paced.new.board.lists c.go_paced.new.hart c.go_paced.result in
    let gone = subst G words (c.go_paced.ensures.gone plan progress (paced c.index_mut-hart.result.now there)) in
    let P : RunValue → Type 0 = λ v. c.go_paced.result ≡ (event_on (ticked_run plan progress c.args.number v) (events.Go c.args.number)).action in
    subst P c.self.view_is
    (action-of-paced r c.args.number c.index_mut-hart.result.now is plan progress c.go_paced.new.board c.go_paced.new.hart c.go_paced.result gone)

pub returns-clause-pace : goal.returns-clause-pace
returns-clause-pace g c plan progress paced h after =
    let r : RunValue = record { board = c.self.inside.board; harts = c.self.inside.harts.items; kernel = c.self.inside.kernel; actions = c.self.inside.actions } in
    let low = subst (λ (v : RunValue). c.args.number < length v.harts) (sym c.self.view_is) c.requires.hart in
    let is = index-is r.harts c.args.number c.index_mut-hart.result.now low c.index_mut-hart.ensures.value in
    let there = subst (λ (v : RunValue). slice_get v.harts c.args.number ≡ Some c.index_mut-hart.result.now) c.self.view_is is in
    let words = c.as_slice-code.ensures.words ∙ ap (λ (k : KernelCodeState). k.words) (c.behind-self.view_is ∙ c.code.ensures.code) in
    let set_is = get-set_same r.harts c.args.number c.index_mut-hart.result.now c.go_paced.new.hart is in
    let same : c.go_paced.new.hart ≡ h = some-is (sym set_is ∙ after) in
    let P : HartState → Type 0 = λ x. IsPaceOf plan (pace_after progress (count_on (Some x)) c.go_paced.result) x c.go_paced.new.pace in
    let Q : Option HartState → Type 0 = λ o. IsPaceOf plan (pace_after progress (count_on o) c.go_paced.result) h c.go_paced.new.pace in
    subst Q (sym after) (subst P same (c.go_paced.ensures.pace plan progress (paced c.index_mut-hart.result.now there)))

pub returns-clause-log : goal.returns-clause-log
returns-clause-log g c plan progress paced log stood =
    let r : RunValue = record { board = c.self.inside.board; harts = c.self.inside.harts.items; kernel = c.self.inside.kernel; actions = c.self.inside.actions } in
    let low = subst (λ (v : RunValue). c.args.number < length v.harts) (sym c.self.view_is) c.requires.hart in
    let is = index-is r.harts c.args.number c.index_mut-hart.result.now low c.index_mut-hart.ensures.value in
    let there = subst (λ (v : RunValue). slice_get v.harts c.args.number ≡ Some c.index_mut-hart.result.now) c.self.view_is is in
    let words = c.as_slice-code.ensures.words ∙ ap (λ (k : KernelCodeState). k.words) (c.behind-self.view_is ∙ c.code.ensures.code) in
    let E : List ℕ → List LogEntry = λ code. (board_step_of code r.board.lists c.args.number (due_hart plan progress c.index_mut-hart.result.now)).probes in
    let same =
    ap E words
    ∙ sym (entries-of-paced r c.args.number c.index_mut-hart.result.now is plan progress)
    ∙ ap (λ (v : RunValue). entries_of (ticked_run plan progress c.args.number v) (events.Go c.args.number)) c.self.view_is in
    let S : List LogEntry → Type 0 = λ entries. g.K.Keeper.stands c.go_paced.new.keeper (log ++ entries) in
    subst S same (c.go_paced.ensures.log plan progress (paced c.index_mut-hart.result.now there) log stood)

pub returns-clause-room : goal.returns-clause-room
returns-clause-room g c plan progress paced =
    let r : RunValue = record { board = c.self.inside.board; harts = c.self.inside.harts.items; kernel = c.self.inside.kernel; actions = c.self.inside.actions } in
    let low = subst (λ (v : RunValue). c.args.number < length v.harts) (sym c.self.view_is) c.requires.hart in
    let is = index-is r.harts c.args.number c.index_mut-hart.result.now low c.index_mut-hart.ensures.value in
    let there = subst (λ (v : RunValue). slice_get v.harts c.args.number ≡ Some c.index_mut-hart.result.now) c.self.view_is is in
    let words = c.as_slice-code.ensures.words ∙ ap (λ (k : KernelCodeState). k.words) (c.behind-self.view_is ∙ c.code.ensures.code) in
    let E : List ℕ → List LogEntry = λ code. (board_step_of code r.board.lists c.args.number (due_hart plan progress c.index_mut-hart.result.now)).probes in
    let same =
    ap E words
    ∙ sym (entries-of-paced r c.args.number c.index_mut-hart.result.now is plan progress)
    ∙ ap (λ (v : RunValue). entries_of (ticked_run plan progress c.args.number v) (events.Go c.args.number)) c.self.view_is in
    let S : List LogEntry → Type 0 =
    λ entries. g.K.Keeper.room_of c.go_paced.new.keeper + length entries ≡ g.K.Keeper.room_of c.args.keeper.now in
    subst S same (c.go_paced.ensures.room plan progress (paced c.index_mut-hart.result.now there))
