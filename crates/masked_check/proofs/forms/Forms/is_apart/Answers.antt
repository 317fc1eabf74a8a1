use Rattle.std.proofs.Common.{rules, ◌≡◌, ℕ, ◌<◌, Bool, List, [], length, get_or, set, refl, subst}
use Rattle.std.proofs.lemmas.Option.{slice_get_read}
use Rattle.tape_terms.specs.declared.term.Term.{Term}
use Rattle.tape_terms.specs.Marks.{marks, AreColumns, IsApart}
use Rattle.masked_check.specs.Forms.{value_on, seen, IsUnread, OthersAreUnread}
use Rattle.masked_check.proofs.FormLaws.{form-apart, others-apart}
use Rattle.masked_check.proofs.forms.Forms.is_apart.Goals as goal

apart : (columns : List (List Bool)) (forms : List (List ℕ)) (rest : List ℕ) (i place : ℕ) (column : List Bool) → place < length columns → column ≡ get_or columns place column
    → IsUnread column rest → OthersAreUnread column forms i → (terms : List Term) → AreColumns terms columns
    → IsApart place (λ (t : List ℕ). value_on terms t rest) × IsApart place (seen terms (set forms i []))
apart columns forms rest i place column low at unread others terms are =
    let is : column ≡ marks terms place = are place column (slice_get_read columns (length columns) place column refl low at) in (
      form-apart terms place rest (subst (λ (bs : List Bool). IsUnread bs rest) is unread),
      others-apart terms place forms i (subst (λ (bs : List Bool). OthersAreUnread bs forms i) is others),
    )

pub returns-then-not-reads : goal.returns-then-not-reads
returns-then-not-reads c = record {
  apart = λ yes. apart c.args.columns.now c.args.self.now c.args.rest.now c.args.i c.args.place c.in-Some.column.now (search rules) (search rules)
      (c.reads.ensures.unread (search rules)) (c.others_read.ensures.unread (search rules));
}
