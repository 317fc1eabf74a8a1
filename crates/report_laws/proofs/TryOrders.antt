-- Orders as reports spell them, by computation.
use Rattle.std.proofs.Common.{◌≡◌, ◌*◌, ◌^◌, [], ◌∷◌, codes, decimal, refl, arith}
use Rattle.std.specs.Fmt.{digits}
use Rattle.report_text.specs.Report.{order_line_of}
use Rattle.report_laws.specs.Laws.{IsOrderOfBytes}

-- the line of an order of three harts
three_harts : order_line_of (0 ∷ 0 ∷ 1 ∷ 0 ∷ 7 ∷ []) ≡ codes "order 0*2 1 0 7\n"
unfolding digits
three_harts = refl

-- which is an order as memory can hold it
three_harts_fit : IsOrderOfBytes (0 ∷ 0 ∷ 1 ∷ 0 ∷ 7 ∷ [])
three_harts_fit = record { harts = (omega arith, (omega arith, (omega arith, (omega arith, (omega arith, tt))))); entries = omega arith }

-- Of a number no more than 64 digits are written, so two runs of so many entries may have one text: an order has to have fewer.
long_alike : decimal (10 ^ 64) ≡ decimal (2 * 10 ^ 64)
unfolding digits
long_alike = refl
