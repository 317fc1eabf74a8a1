-- What is found in one of the two lists.
use Rattle.std.proofs.Common.{◌≡◌, ◌≢◌, ◌↔◌, ◌==◌, Some, true, false, All, find, refl, subst}
use Rattle.std.specs.Option.{option_copied, IsNone}
use Rattle.std.proofs.lemmas.List.Elements.{All-append}
use Rattle.hart_model.specs.Context.{ContextState}
use Rattle.core_model.specs.Board.{all_ready}
use Rattle.ready_queue.specs.ReadyView.{ReadyView}
use Rattle.ready_queue.proofs.Finding.{found-first, found-second, all-front, all-back}
use Rattle.ready_queue.proofs.ready.Ready.find.Goals as goal

pub returns-in-Some-clause-context : goal.returns-in-Some-clause-context
returns-in-Some-clause-context c =
    let test = λ (x : ContextState). x.body.task_no == c.args.task in
    subst (λ (r : ReadyView). Some c.in-Some.context.now ≡ find test (all_ready r.lists)) c.self.view_is
    (found-first test c.self.inside.first.items c.self.inside.second.items c.in-Some.context.now c.in-Some.ensures.context)

pub returns-in-Some-clause-none : goal.returns-in-Some-clause-none
returns-in-Some-clause-none c =
    let Other : ContextState → Type 0 = λ (x : ContextState). x.body.task_no ≢ c.args.task in
    subst (λ (r : ReadyView). (true ≡ false) ↔ All Other (all_ready r.lists)) c.self.view_is
    (λ is. absurd (cc is), λ all. c.in-Some.ensures.none.1 (all-front Other c.self.inside.first.items c.self.inside.second.items all))

pub returns-in-None-clause-context : goal.returns-in-None-clause-context
returns-in-None-clause-context c =
    let test = λ (x : ContextState). x.body.task_no == c.args.task in
    subst (λ (r : ReadyView). option_copied c.find_in-in-None.result ≡ find test (all_ready r.lists)) c.self.view_is
    (found-second test c.self.inside.first.items c.self.inside.second.items (option_copied c.find_in-in-None.result)
    c.in-None.ensures.context c.find_in-in-None.ensures.context)

pub returns-in-None-clause-none : goal.returns-in-None-clause-none
returns-in-None-clause-none c =
    let Other : ContextState → Type 0 = λ (x : ContextState). x.body.task_no ≢ c.args.task in
    let first = c.self.inside.first.items in
    let second = c.self.inside.second.items in
    subst (λ (r : ReadyView). IsNone c.find_in-in-None.result ↔ All Other (all_ready r.lists)) c.self.view_is (
      λ is. All-append Other first second (c.in-None.ensures.none.0 refl) (c.find_in-in-None.ensures.none.0 is),
      λ all. c.find_in-in-None.ensures.none.1 (all-back Other first second all),
    )
