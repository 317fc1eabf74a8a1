-- The places are few.
use Rattle.std.proofs.Common.{Ok, subst}
use Rattle.probing_laws.specs.Certified.{IsCertified}
use Rattle.probing_laws.specs.declared.verdict.Verdict.{Verdict}
use Rattle.probe_inspect.specs.Certify.{IsWorldsOf}
use Rattle.probe_order.proofs.JudgedTwo.{few-places}
use Rattle.probe_order.proofs.certifying_two.certify_two.Goals as goal

pub by_two-requires-clause-places : goal.by_two-requires-clause-places
by_two-requires-clause-places c =
    let T = c.args.task.now in
    let worlds = c.args.worlds.now in
    let ok : IsWorldsOf T worlds = record {
      valid = c.requires.valid;
      few = c.requires.few;
      words = c.requires.words;
      as_long = c.requires.as_long;
    } in
    let survey = c.in-Ok.ensures.survey in
    few-places T worlds ok c.in-Ok.survey survey c.in-Secure.places
    (subst (λ (v : Verdict). IsCertified T worlds (Ok v)) c.in-Secure.is (c.in_ok-verdict.ensures.verdict T worlds ok survey))
