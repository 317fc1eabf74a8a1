-- What contracts see of the checker's values in code: each is a value of the definitions of routines.
use Rattle.std.specs.Prelude.{ℕ, ℤ, pos, negsuc, Option, Some, None}
use Rattle.routine_laws.specs.Contents.{Contents, ContentWrite}
use Rattle.routine_laws.specs.Rules.{Rule, Form, Base, NotZero, Meets, WordOutcome, Leaves, Breaks, Outcome, Ends, Fails}
use Rattle.scrub_rules.specs.declared.write_list.Write.{Write}
use Rattle.scrub_rules.specs.declared.rule.WordRule.{WordRule}
use Rattle.scrub_rules.specs.declared.rule.WordRule.TheVariants as words
use Rattle.scrub_rules.specs.declared.rule.WordFault.{WordFault}

abbrev pub content_write : Write → ContentWrite
content_write w = record { at = w.at; content = w.content }

abbrev pub word_rule : WordRule → Rule
word_rule words.Form = Form
word_rule words.Base = Base
word_rule words.NotZero = NotZero
word_rule words.Meets = Meets

-- what one word leaves, by the rule that it breaks, if any
abbrev pub word_outcome : Option WordRule → Contents → WordOutcome
word_outcome None c = Leaves c
word_outcome (Some rule) c = Breaks (word_rule rule)

-- what words leave, by the first fault among them, if any
abbrev pub part_outcome : Option WordFault → Contents → Outcome
part_outcome None c = Ends c
part_outcome (Some fault) c = Fails fault.at (word_rule fault.rule)

-- a distance forwards; None where it goes backwards
abbrev pub forwards : ℤ → Option ℕ
forwards (pos at) = Some at
forwards (negsuc n) = None
