use Rattle.std.proofs.Common.{rules, ◌≡◌, ℕ, ◌<◌, Bool, List, length, get_or, refl, subst}
use Rattle.std.proofs.lemmas.Option.{slice_get_read}
use Rattle.tape_terms.specs.declared.term.Term.{Term}
use Rattle.tape_terms.specs.Marks.{marks, AreColumns, IsApart}
use Rattle.masked_check.specs.Forms.{seen, AreUnread}
use Rattle.masked_check.proofs.FormLaws.{seen-apart}
use Rattle.masked_check.proofs.forms.Forms.is_unread.Goals as goal

apart : (columns : List (List Bool)) (forms : List (List ℕ)) (place : ℕ) (column : List Bool) → place < length columns → column ≡ get_or columns place column
    → AreUnread column forms → (terms : List Term) → AreColumns terms columns → IsApart place (seen terms forms)
apart columns forms place column low at unread terms are =
    let is : column ≡ marks terms place = are place column (slice_get_read columns (length columns) place column refl low at) in
    seen-apart terms place forms (subst (λ (bs : List Bool). AreUnread bs forms) is unread)

pub returns-in-Some : goal.returns-in-Some
returns-in-Some c = record {
  apart = λ yes. apart c.args.columns.now c.args.self.now c.args.place c.in-Some.column.now (search rules) (search rules) (c.reads.ensures.unread (search rules));
}
