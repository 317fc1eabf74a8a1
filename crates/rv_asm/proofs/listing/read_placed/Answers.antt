-- A line is refused or read.
use Rattle.std.proofs.Common.{inr, refl, sym, ap, ◌∙◌}
use Rattle.rv_asm.specs.declared.listing.Placed.{Placed}
use Rattle.rv_asm.specs.Refusals.{kind_in_reading}
use Rattle.rv_asm.specs.Places.{names}
use Rattle.rv_asm.proofs.Reading.{room_of_line}
use Rattle.rv_asm.proofs.listing.read_placed.Goals as goal

pub returns-in-Some-clause-refused : goal.returns-in-Some-clause-refused
returns-in-Some-clause-refused c =
    let seen = names c.args.places.now in
    let kind = sym (c.in_ok-kind.ensures.value c.args.number) ∙ c.in-Some.is in
    inr (refl, ap (λ line. kind_in_reading seen (record { number = c.args.number; place = c.args.place; line = line })) (sym c.in_ok-line.ensures.read) ∙ kind)

pub returns-clause-accepted : goal.returns-clause-accepted
returns-clause-accepted c = sym (c.in_ok-kind.ensures.value c.args.number) ∙ c.in_default.is

pub returns-clause-room : goal.returns-clause-room
returns-clause-room c =
    let p : Placed = record { number = c.args.number; place = c.args.place; line = c.in_ok-line.line } in
    room_of_line (names c.args.places.now) p (sym (c.in_ok-kind.ensures.value c.args.number) ∙ c.in_default.is)
