-- A step is the event, and keeps the core.
use Rattle.std.proofs.Common.{◌≡◌, ◌<◌, ◌+◌, ◌++◌, ◌∙◌, sym, subst, ap, length, List, ℕ}
use Rattle.hart_model.specs.declared.probe.Probe.{Probe as LogEntry}
use Rattle.core_model.specs.declared.event.Event.TheVariants as events
use Rattle.core_model.specs.KernelWords.{KernelCodeState}
use Rattle.core_model.specs.BoardStep.{board_step_of}
use Rattle.kernel_core.specs.BoardStep.{CanGo, IsAfterBoardStep}
use Rattle.kernel_core.specs.Running.{RunValue, IsAfterEvent, event_on, entries_of}
use Rattle.kernel_core.proofs.RunFacts.{can-go}
use Rattle.kernel_core.proofs.RunAfter.{index-is, with_board_and_hart, after-go, action-of-go, entries-of-go, kept-go}
use Rattle.kernel_core.proofs.run.Run.go.Goals as goal

pub go-requires-clause-can : goal.go-requires-clause-can
go-requires-clause-can g c =
    let r : RunValue = record { board = c.self.inside.board; harts = c.self.inside.harts.items; kernel = c.self.inside.kernel; actions = c.self.inside.actions } in
    let low = subst (λ (v : RunValue). c.args.number < length v.harts) (sym c.self.view_is) c.requires.hart in
    let left = subst (λ (v : RunValue). length v.board.lists.order < v.actions) (sym c.self.view_is) c.requires.actions in
    let is = index-is r.harts c.args.number c.index_mut-hart.result.now low c.index_mut-hart.ensures.value in
    let P : List ℕ → Type 0 = λ code. CanGo code r.board c.args.number c.index_mut-hart.result.now in
    let words = c.as_slice-code.ensures.words ∙ ap (λ (k : KernelCodeState). k.words) (c.behind-self.view_is ∙ c.code.ensures.code) in
    subst P (sym words) (can-go r c.self.invariant.0 c.self.invariant.1 c.args.number c.index_mut-hart.result.now is low left)

pub invariant_of-self : goal.invariant_of-self
invariant_of-self g c =
    let r : RunValue = record { board = c.self.inside.board; harts = c.self.inside.harts.items; kernel = c.self.inside.kernel; actions = c.self.inside.actions } in
    let low = subst (λ (v : RunValue). c.args.number < length v.harts) (sym c.self.view_is) c.requires.hart in
    let is = index-is r.harts c.args.number c.index_mut-hart.result.now low c.index_mut-hart.ensures.value in
    let G : List ℕ → Type 0 = λ code. IsAfterBoardStep (board_step_of code r.board.lists c.args.number c.index_mut-hart.result.now) c.go.new.board.lists c.go.new.hart c.go.result in
    let words = c.as_slice-code.ensures.words ∙ ap (λ (k : KernelCodeState). k.words) (c.behind-self.view_is ∙ c.code.ensures.code) in (
      c.self.invariant.0,
      kept-go r c.args.number c.index_mut-hart.result.now is c.go.new.board c.go.new.hart c.go.result (subst G words c.go.ensures.gone) c.go.ensures.spare
          c.self.invariant.0 c.self.invariant.1,
    )

pub returns-clause-after : goal.returns-clause-after
returns-clause-after g c =
    let r : RunValue = record { board = c.self.inside.board; harts = c.self.inside.harts.items; kernel = c.self.inside.kernel; actions = c.self.inside.actions } in
    let low = subst (λ (v : RunValue). c.args.number < length v.harts) (sym c.self.view_is) c.requires.hart in
    let is = index-is r.harts c.args.number c.index_mut-hart.result.now low c.index_mut-hart.ensures.value in
    let G : List ℕ → Type 0 = λ code. IsAfterBoardStep (board_step_of code r.board.lists c.args.number c.index_mut-hart.result.now) c.go.new.board.lists c.go.new.hart c.go.result in
    let words = c.as_slice-code.ensures.words ∙ ap (λ (k : KernelCodeState). k.words) (c.behind-self.view_is ∙ c.code.ensures.code) in
    let P : RunValue → Type 0 = λ v. IsAfterEvent v (with_board_and_hart r c.go.new.board c.args.number c.go.new.hart) (events.Go c.args.number) in
    subst P c.self.view_is (after-go r c.args.number c.index_mut-hart.result.now is c.go.new.board c.go.new.hart c.go.result (subst G words c.go.ensures.gone))

pub returns-clause-action : goal.returns-clause-action
returns-clause-action g c =
    let r : RunValue = record { board = c.self.inside.board; harts = c.self.inside.harts.items; kernel = c.self.inside.kernel; actions = c.self.inside.actions } in
    let low = subst (λ (v : RunValue). c.args.number < length v.harts) (sym c.self.view_is) c.requires.hart in
    let is = index-is r.harts c.args.number c.index_mut-hart.result.now low c.index_mut-hart.ensures.value in
    let G : List ℕ → Type 0 = λ code. IsAfterBoardStep (board_step_of code r.board.lists c.args.number c.index_mut-hart.result.now) c.go.new.board.lists c.go.new.hart c.go.result in
    let words = c.as_slice-code.ensures.words ∙ ap (λ (k : KernelCodeState). k.words) (c.behind-self.view_is ∙ c.code.ensures.code) in
    let P : RunValue → Type 0 = λ v. c.go.result ≡ (event_on v (events.Go c.args.number)).action in
    subst P c.self.view_is (action-of-go r c.args.number c.index_mut-hart.result.now is c.go.new.board c.go.new.hart c.go.result (subst G words c.go.ensures.gone))

pub returns-clause-log : goal.returns-clause-log
returns-clause-log g c log stood =
    let r : RunValue = record { board = c.self.inside.board; harts = c.self.inside.harts.items; kernel = c.self.inside.kernel; actions = c.self.inside.actions } in
    let low = subst (λ (v : RunValue). c.args.number < length v.harts) (sym c.self.view_is) c.requires.hart in
    let is = index-is r.harts c.args.number c.index_mut-hart.result.now low c.index_mut-hart.ensures.value in
    let words = c.as_slice-code.ensures.words ∙ ap (λ (k : KernelCodeState). k.words) (c.behind-self.view_is ∙ c.code.ensures.code) in
    let E : List ℕ → List LogEntry = λ code. (board_step_of code r.board.lists c.args.number c.index_mut-hart.result.now).probes in
    let same = ap E words ∙ sym (entries-of-go r c.args.number c.index_mut-hart.result.now is) ∙ ap (λ (v : RunValue). entries_of v (events.Go c.args.number)) c.self.view_is in
    let S : List LogEntry → Type 0 = λ entries. g.K.Keeper.stands c.go.new.keeper (log ++ entries) in
    subst S same (c.go.ensures.log log stood)

pub returns-clause-room : goal.returns-clause-room
returns-clause-room g c =
    let r : RunValue = record { board = c.self.inside.board; harts = c.self.inside.harts.items; kernel = c.self.inside.kernel; actions = c.self.inside.actions } in
    let low = subst (λ (v : RunValue). c.args.number < length v.harts) (sym c.self.view_is) c.requires.hart in
    let is = index-is r.harts c.args.number c.index_mut-hart.result.now low c.index_mut-hart.ensures.value in
    let words = c.as_slice-code.ensures.words ∙ ap (λ (k : KernelCodeState). k.words) (c.behind-self.view_is ∙ c.code.ensures.code) in
    let E : List ℕ → List LogEntry = λ code. (board_step_of code r.board.lists c.args.number c.index_mut-hart.result.now).probes in
    let same = ap E words ∙ sym (entries-of-go r c.args.number c.index_mut-hart.result.now is) ∙ ap (λ (v : RunValue). entries_of v (events.Go c.args.number)) c.self.view_is in
    let S : List LogEntry → Type 0 = λ entries. g.K.Keeper.room_of c.go.new.keeper + length entries ≡ g.K.Keeper.room_of c.args.keeper.now in
    subst S same c.go.ensures.room
