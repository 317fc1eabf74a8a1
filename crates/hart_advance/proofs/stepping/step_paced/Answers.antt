-- The step of the hart that code ticked is that of the definition.
use Rattle.std.proofs.Common.{◌≡◌, ◌+◌, ◌++◌, length, sym, ap, ◌∙◌, subst}
use Rattle.hart_model.specs.HartState.{HartState}
use Rattle.hart_model.specs.HartStep.{hart_step}
use Rattle.hart_model.specs.StepResult.{did_of, hart_after, probes_of}
use Rattle.hart_state.specs.Asked.{AsksFor}
use Rattle.hart_advance.proofs.PacedStep.{may-count, hart-due, may-run, pace-now}
use Rattle.hart_advance.proofs.stepping.step_paced.Goals as goal

pub step-did-requires-clause-count : goal.step-did-requires-clause-count
step-did-requires-clause-count g c =
    may-count c.args.code.now c.args.hart.now c.args.pace.now c.requires.kernel c.tick_if_over.new.hart c.tick_if_over.ensures.hart

pub count_instruction-requires : goal.count_instruction-requires
count_instruction-requires g c = record {
  not_due = may-run c.args.code.now c.args.hart.now c.args.pace.now c.requires.kernel c.tick_if_over.new.hart c.tick_if_over.ensures.hart
      c.step-did.new.self c.step-did.ensures.hart c.count_of-before.result c.count_of-after.result c.count_of-before.ensures.count
      c.count_of-after.ensures.count;
}

pub returns : goal.returns
returns g c =
    let due = hart-due c.args.code.now c.args.hart.now c.args.pace.now c.requires.kernel c.tick_if_over.new.hart c.tick_if_over.ensures.hart in
    let code = c.args.code.now in
    record {
      did = λ plan progress is. c.step-did.ensures.did ∙ ap (λ (x : HartState). did_of (hart_step code x)) (due plan progress is);
      wants = λ plan progress is call wants.
          (let P : HartState → Type 0 = λ x. AsksFor call (hart_step code x) in
          subst P (due plan progress is) (c.step-did.ensures.wants call wants));
      asks = λ call wants.
          (let P : HartState → Type 0 = λ x. AsksFor call (hart_step code x) in
          subst P (sym (c.step-did.ensures.wants_kept call wants)) (c.step-did.ensures.wants call wants));
      hart = λ plan progress is. c.step-did.ensures.hart ∙ ap (λ (x : HartState). hart_after x (hart_step code x)) (due plan progress is);
      pace = λ plan progress is.
          pace-now code c.args.hart.now c.args.pace.now c.requires.kernel c.tick_if_over.new.hart c.tick_if_over.ensures.hart
          c.step-did.new.self c.step-did.ensures.hart c.count_of-before.result c.count_of-after.result c.count_of-before.ensures.count
          c.count_of-after.ensures.count plan progress is c.count_instruction.new.pace c.count_instruction.ensures.pace;
      log = λ plan progress is log stands.
          (let P : HartState → Type 0 = λ x. g.K.Keeper.stands c.step-did.new.keeper (log ++ probes_of (hart_step code x)) in
          subst P (due plan progress is) (c.step-did.ensures.log log stands));
      room = λ plan progress is.
          (let P : HartState → Type 0 =
          λ x. g.K.Keeper.room_of c.step-did.new.keeper + length (probes_of (hart_step code x)) ≡ g.K.Keeper.room_of c.args.keeper.now in
          subst P (due plan progress is) c.step-did.ensures.room);
    }
