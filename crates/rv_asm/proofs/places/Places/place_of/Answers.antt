-- The map's look-up, as contracts see it.
use Rattle.std.proofs.Common.{ap, ◌∙◌}
use Rattle.std.specs.Map.{lookup}
use Rattle.std.specs.Str.{bytes_eq}
use Rattle.rv_asm.proofs.PlacesSeen.{lookup-seen}
use Rattle.rv_asm.proofs.places.Places.place_of.Goals as goal

pub returns : goal.returns
returns c =
    let test = bytes_eq c.args.label.now in
    record { value = c.copied.ensures ∙ c.get.ensures.value ∙ lookup-seen test c.self.inside.inner.entries ∙ ap (lookup test) c.self.view_is }
