-- At the end of a part no latch is tagged, where none of each kind is.
use Rattle.std.proofs.Common.{◌≡◌, false}
use Rattle.hart_model.specs.declared.place.Place.TheVariants as places
use Rattle.routine_laws.specs.Contents.{Contents, is_tagged, content_at}
use Rattle.routine_laws.specs.Accepted.{AreLatchesUntagged}

pub untagged_latches : (c : Contents) → is_tagged (content_at c places.PortA) ≡ false → is_tagged (content_at c places.PortB) ≡ false
    → is_tagged (content_at c places.Res) ≡ false → is_tagged (content_at c places.Load) ≡ false
    → is_tagged (content_at c places.Store) ≡ false → is_tagged (content_at c places.Scr) ≡ false
    → is_tagged (content_at c places.Mul) ≡ false → is_tagged (content_at c places.Zero) ≡ false → AreLatchesUntagged c
untagged_latches c a b res load store scr mul z places.PortA is = a
untagged_latches c a b res load store scr mul z places.PortB is = b
untagged_latches c a b res load store scr mul z places.Res is = res
untagged_latches c a b res load store scr mul z places.Load is = load
untagged_latches c a b res load store scr mul z places.Store is = store
untagged_latches c a b res load store scr mul z places.Scr is = scr
untagged_latches c a b res load store scr mul z places.Mul is = mul
untagged_latches c a b res load store scr mul z places.Zero is = z
untagged_latches c a b res load store scr mul z (places.Reg i) is = absurd is
untagged_latches c a b res load store scr mul z (places.SlotWord i) is = absurd is
untagged_latches c a b res load store scr mul z (places.DataWord i) is = absurd is
