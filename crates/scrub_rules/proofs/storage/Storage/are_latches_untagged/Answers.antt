-- Where one is tagged, not all are untagged.
use Rattle.std.proofs.Common.{◌≡◌, false, arith}
use Rattle.std.proofs.lemmas.Grind.{common_steps}
use Rattle.hart_model.specs.declared.place.Place.TheVariants as places
use Rattle.routine_laws.specs.Contents.{is_tagged, content_at}
use Rattle.scrub_rules.proofs.storage.Storage.are_latches_untagged.Goals as goal

pub returns-clause-no : goal.returns-clause-no
returns-clause-no c = λ tagged untagged.
    let k = c.args.self.now in
    let a : is_tagged (content_at k places.PortA) ≡ false = untagged places.PortA tt in
    let b : is_tagged (content_at k places.PortB) ≡ false = untagged places.PortB tt in
    let res : is_tagged (content_at k places.Res) ≡ false = untagged places.Res tt in
    let load : is_tagged (content_at k places.Load) ≡ false = untagged places.Load tt in
    let store : is_tagged (content_at k places.Store) ≡ false = untagged places.Store tt in
    let scr : is_tagged (content_at k places.Scr) ≡ false = untagged places.Scr tt in
    let mul : is_tagged (content_at k places.Mul) ≡ false = untagged places.Mul tt in
    let z : is_tagged (content_at k places.Zero) ≡ false = untagged places.Zero tt in
    grind (arith, common_steps)
