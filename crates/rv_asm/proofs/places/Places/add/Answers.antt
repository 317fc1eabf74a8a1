-- The map puts a new key last.
use Rattle.std.proofs.Common.{◌≡◌, false, None, ◌++◌, ◌∷◌, [], ap, ◌∙◌}
use Rattle.std.proofs.lemmas.List.{map-append}
use Rattle.std.specs.Map.{lookup}
use Rattle.std.specs.Str.{bytes_eq}
use Rattle.indexmap.proofs.CallerLemmas.{insert_entry-new}
use Rattle.rv_asm.specs.Listing.{is_among}
use Rattle.rv_asm.specs.Places.{names}
use Rattle.rv_asm.proofs.PlacesSeen.{seen, lookup-new}
use Rattle.rv_asm.proofs.places.Places.add.Goals as goal

pub returns : goal.returns
returns c =
    let label = c.args.label.now in
    let key = c.in_ok-from_slice.field-0 in
    let map = c.self.inside.inner in
    let name : key.items ≡ label = c.in_ok-from_slice.ensures.items in
    let absent : is_among (names (seen map.entries)) label ≡ false = ap (λ ps. is_among (names ps) label) c.self.view_is ∙ c.requires.new in
    let none : lookup (λ k. bytes_eq key.items k.items) map.entries ≡ None = ap (λ n. lookup (λ k. bytes_eq n k.items) map.entries) name ∙ lookup-new label map.entries absent in
    let entries = c.in_ok-insert.ensures.entries ∙ insert_entry-new (λ x y. bytes_eq x.items y.items) map key c.args.place none in
    let shown = ap seen entries ∙ map-append (λ e. (e.0.items, e.1)) map.entries ((key, c.args.place) ∷ []) in
    record { ok = shown ∙ (λ i. c.self.view_is i ++ (name i, c.args.place) ∷ []) }
