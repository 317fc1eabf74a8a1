-- The three parts stand one after the other.
use Rattle.std.proofs.Common.{◌≡◌, List, ◌++◌, ◌∙◌, ap, append_assoc}
use Rattle.masked_gen.proofs.code.add_and.Goals as goal

three_parts : {A : Type 0} (old first second third one two all : List A) → one ≡ old ++ first → two ≡ one ++ second → all ≡ two ++ third
    → all ≡ old ++ (first ++ (second ++ third))
three_parts old first second third one two all e f g =
    g ∙ ap (λ l. l ++ third) (f ∙ ap (λ l. l ++ second) e ∙ append_assoc old first second) ∙ append_assoc old (first ++ second) third
    ∙ ap (λ l. old ++ l) (append_assoc first second third)

pub returns : goal.returns
returns c = record {
  ok = three_parts c.args.code.now _ _ _ c.add_lines.new.code c.add_cleared.new.code c.add_lines-2.new.code c.in_ok-add_lines.ensures.ok
      c.in_ok-add_cleared.ensures.ok c.in_ok-add_lines-2.ensures.ok;
}
