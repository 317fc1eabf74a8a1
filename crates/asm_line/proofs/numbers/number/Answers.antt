-- A negative number, up to the cap.
use Rattle.std.proofs.Common.{◌≡◌, ◌∙◌, ap, sym, refl, true, codes, drop, option_map}
use Rattle.std.proofs.lemmas.List.{take_rest}
use Rattle.asm_line.specs.Numbers.{begins, digits_value, negative, number_of}
use Rattle.asm_line.specs.Capped.{capped_number}
use Rattle.asm_line.proofs.Digits.{capped-negatives}
use Rattle.asm_line.proofs.numbers.number.Goals as goal

pub returns-then-starts_with-clause-value : goal.returns-then-starts_with-clause-value
returns-then-starts_with-clause-value c =
    let text = c.args.text.now in
    let minus : begins (codes "-") text ≡ true = sym c.if-starts_with.ensures.value in
    let is : number_of text ≡ option_map negative (digits_value 10 (drop 1 text)) = rw minus refl in
    let digits = rw take_rest at c.digits_value.ensures.value in
    c.negative.ensures.value ∙ ap (option_map negative) digits ∙ sym (capped-negatives (digits_value 10 (drop 1 text)))
    ∙ ap (option_map capped_number) (sym is)
