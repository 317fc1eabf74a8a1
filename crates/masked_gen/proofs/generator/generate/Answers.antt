-- What is put together is the generated bundle, which may be written.
use Rattle.std.proofs.Common.{◌≡◌, ◌^◌, ◌<◌, ap, sym, subst, ◌∙◌, arith}
use Rattle.bundle_text.specs.Range.{IsWritable}
use Rattle.bundle_text.proofs.RoundTrip.Whole.{written_reads_back}
use Rattle.masked_gen.specs.Draws.{draws}
use Rattle.masked_gen.specs.Generator.{task_draw, generator_of, generated}
use Rattle.masked_gen.proofs.Writable.{generated_writable}
use Rattle.masked_gen.proofs.generator.generate.Goals as goal

pub returns-clause-bundle : goal.returns-clause-bundle
unfolding generated
returns-clause-bundle c =
    let tasks : c.in_ok-draw_tasks.field-0 ≡ (draws c.args.tasks task_draw (generator_of c.args.seed)).value =
    ap (λ d. d.value) (sym c.in_ok-draw_tasks.ensures.drawn) ∙ ap (λ g. (draws c.args.tasks task_draw g).value) c.seed_from_u64-rng.ensures in
    let plans = c.in_ok-plans.ensures.plans in
    let worlds = c.empty.ensures.items in
    let events = c.empty-2.ensures.items in
    let order = c.empty-3.ensures.items in cc

pub returns-clause-writable : goal.returns-clause-writable
returns-clause-writable c =
    let short : c.args.tasks < 2 ^ 32 = omega arith in
    subst IsWritable (sym (returns-clause-bundle c)) (generated_writable c.args.seed c.args.tasks short)

pub returns-clause-reads_back : goal.returns-clause-reads_back
returns-clause-reads_back c = written_reads_back _ (returns-clause-writable c)
