-- The parts are right ones, and the paces draw what is left of the plans.
use Rattle.std.proofs.Common.{List, ap, ◌∙◌, sym, subst}
use Rattle.hart_model.specs.HartState.{HartState}
use Rattle.core_model.specs.Board.{BoardState}
use Rattle.resume_laws.specs.Parts.{AreRightParts}
use Rattle.kernel_core.specs.History.{CoreValue, IsCoreOf}
use Rattle.kernel_core.specs.PacedHistory.{IsPacedCoreOf}
use Rattle.kernel_core.specs.Running.{RunValue}
use Rattle.kernel_core.proofs.Parting.{right-parts, paces-left}
use Rattle.kernel_core.proofs.whole_core.Core.part.Goals as goal

pub returns-clause-right : goal.returns-clause-right
returns-clause-right g c t kernel is =
    let old : CoreValue g.row.K.Denot = record {
      run = c.self.inside.run;
      tasks = c.self.inside.tasks;
      log = c.self.inside.log;
      seats = c.self.inside.seats.items;
      is_paced = c.self.inside.is_paced;
    } in
    let I : CoreValue g.row.K.Denot → Type 0 = λ v. IsCoreOf t v in
    let empty = c.has_nothing_out.ensures.test.0 c.if-not-has_nothing_out.false in
    let right = right-parts t old (subst I (sym c.self.view_is) is) kernel empty in
    let harts = c.new.ensures.items ∙ ap (λ (r : RunValue). r.harts) c.run.view_is in
    let B : BoardState → Type 0 = λ b. AreRightParts t.loaded b c.new.result in
    let H : List HartState → Type 0 = λ hs. AreRightParts t.loaded old.run.board.lists hs in
    subst B (sym (ap (λ (r : RunValue). r.board.lists) c.run.view_is)) (subst H (sym harts) right)

pub returns-clause-left : goal.returns-clause-left
returns-clause-left g c t is =
    let old : CoreValue g.row.K.Denot = record {
      run = c.self.inside.run;
      tasks = c.self.inside.tasks;
      log = c.self.inside.log;
      seats = c.self.inside.seats.items;
      is_paced = c.self.inside.is_paced;
    } in
    let I : CoreValue g.row.K.Denot → Type 0 = λ v. IsPacedCoreOf t v in
    paces-left t old (subst I (sym c.self.view_is) is)
