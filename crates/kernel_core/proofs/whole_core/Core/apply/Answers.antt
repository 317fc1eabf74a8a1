-- A core that is told one event more is that of what it was told then, and is sound.
use Rattle.std.proofs.Common.{◌++◌, ◌∷◌, refl, sym, subst}
use Rattle.kernel_core.specs.Counted.{of_counts, of_keeper}
use Rattle.kernel_core.specs.Running.{entries_of}
use Rattle.kernel_core.specs.History.{CoreValue, IsCoreOf, given}
use Rattle.kernel_core.proofs.HistoryMore.{told-more, sound-so}
use Rattle.kernel_core.proofs.whole_core.Core.apply.Goals as goal

pub returns-clause-told : goal.returns-clause-told
returns-clause-told g c t is =
    let old : CoreValue g.row.K.Denot = record {
      run = c.self.inside.run;
      tasks = c.self.inside.tasks;
      log = c.self.inside.log;
      seats = c.self.inside.seats.items;
      is_paced = c.self.inside.is_paced;
    } in
    let I : CoreValue g.row.K.Denot → Type 0 = λ v. IsCoreOf t v in
    told-more t c.args.event old _ (subst I (sym c.self.view_is) is) c.apply.ensures.after refl
    (λ log stood. c.apply.ensures.log (of_counts ∷ log) stood)

pub returns-clause-sound : goal.returns-clause-sound
returns-clause-sound g c t is = sound-so (given t c.args.event) is.is_kernel is.start

pub returns-clause-keeper : goal.returns-clause-keeper
returns-clause-keeper g c before stood =
    let P : CoreValue g.row.K.Denot → Type 0 = λ v. g.K.Keeper.stands v.log.keeper before
    → g.K.Keeper.stands c.apply.new.keeper.keeper (before ++ entries_of v.run c.args.event) in
    subst P c.self.view_is (λ s. c.apply.ensures.log (of_keeper ∷ before) s) stood
