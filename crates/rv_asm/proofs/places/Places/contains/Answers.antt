-- The map's look-up, as contracts see it.
use Rattle.std.proofs.Common.{ap, ◌∙◌}
use Rattle.rv_asm.specs.Listing.{is_among}
use Rattle.rv_asm.specs.Places.{names}
use Rattle.rv_asm.proofs.PlacesSeen.{is_among-seen}
use Rattle.rv_asm.proofs.places.Places.contains.Goals as goal

pub returns : goal.returns
returns c =
    let label = c.args.label.now in
    record { value = c.contains_key.ensures ∙ is_among-seen label c.self.inside.inner.entries ∙ ap (λ ps. is_among (names ps) label) c.self.view_is }
