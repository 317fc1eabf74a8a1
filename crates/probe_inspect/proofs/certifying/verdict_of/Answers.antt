-- What is found along the course is the verdict.
use Rattle.std.proofs.Common.{List, Result, Ok, Err, IfOk, subst}
use Rattle.probing_laws.specs.Certified.{IsCertified}
use Rattle.probe_inspect.specs.declared.groups.Group.{Group}
use Rattle.probe_inspect.specs.declared.rows.Row.{Row}
use Rattle.probe_inspect.specs.Columns.{IsVerdictIn}
use Rattle.probe_inspect.proofs.Judged.{verdict-is}
use Rattle.probe_inspect.proofs.certifying.verdict_of.Goals as goal

if-ok : {A E : Type 0} (P Q : A → Type 0) (r : Result A E) → ((x : A) → P x → Q x) → IfOk r P → IfOk r Q
if-ok P Q (Ok x) f p = f x p
if-ok P Q (Err e) f p = p

pub returns : goal.returns
returns c =
    let s = c.args.survey.now in
    let r = c.verdict_on.result in
    let found : IfOk r (IsVerdictIn s.course s.groups s.rows) =
    subst (λ (gs : List Group). IfOk r (IsVerdictIn s.course gs s.rows)) c.as_slice.ensures.items
    (subst (λ (rs : List Row). IfOk r (IsVerdictIn s.course c.as_slice.result.now rs)) c.as_slice-2.ensures.items c.verdict_on.ensures.verdict) in
    record {
      verdict = λ T worlds ok is.
          if-ok (IsVerdictIn s.course s.groups s.rows) (λ v. IsCertified T worlds (Ok v)) r
          (λ v in_course. verdict-is T worlds ok is.admitted s.groups is.groups s.course is.course s.rows is.rows v in_course) found;
    }
