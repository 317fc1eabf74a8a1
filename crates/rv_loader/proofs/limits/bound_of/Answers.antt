-- The sums are small, so no step wraps.
use Rattle.std.proofs.Common.{arith}
use Rattle.rv_loader.proofs.Counts.{sums_are_small}
use Rattle.rv_loader.proofs.limits.bound_of.Goals as goal

pub quanta_listed-quanta-requires : goal.quanta_listed-quanta-requires
quanta_listed-quanta-requires c =
    let small = sums_are_small c.args.bundle.now c.requires.range c.requires.quanta in record { fits = rw c.as_slice.ensures.items (omega (arith, small.quanta)) }

pub fuels_stated-fuels-requires : goal.fuels_stated-fuels-requires
fuels_stated-fuels-requires c =
    let small = sums_are_small c.args.bundle.now c.requires.range c.requires.quanta in record { fits = rw c.as_slice-2.ensures.items (omega (arith, small.fuels)) }

pub overflow_add-result : goal.overflow_add-result
overflow_add-result c =
    let small = sums_are_small c.args.bundle.now c.requires.range c.requires.quanta in
    let quanta = rw c.as_slice.ensures.items at c.quanta_listed-quanta.ensures.sum in
    let fuels = rw c.as_slice-2.ensures.items at c.fuels_stated-fuels.ensures.sum in
    omega (arith, small.quanta, small.fuels, quanta, fuels)

pub overflow_add-result-2 : goal.overflow_add-result-2
overflow_add-result-2 c =
    let small = sums_are_small c.args.bundle.now c.requires.range c.requires.quanta in
    let quanta = rw c.as_slice.ensures.items at c.quanta_listed-quanta.ensures.sum in
    let fuels = rw c.as_slice-2.ensures.items at c.fuels_stated-fuels.ensures.sum in
    omega (arith, small.quanta, small.fuels, small.tasks, quanta, fuels, c.len.ensures.length)

pub overflow_mul-result : goal.overflow_mul-result
overflow_mul-result c =
    let small = sums_are_small c.args.bundle.now c.requires.range c.requires.quanta in
    let quanta = rw c.as_slice.ensures.items at c.quanta_listed-quanta.ensures.sum in
    let fuels = rw c.as_slice-2.ensures.items at c.fuels_stated-fuels.ensures.sum in
    omega (arith, small.quanta, small.fuels, small.tasks, quanta, fuels, c.len.ensures.length)

pub overflow_add-result-3 : goal.overflow_add-result-3
overflow_add-result-3 c =
    let small = sums_are_small c.args.bundle.now c.requires.range c.requires.quanta in
    let quanta = rw c.as_slice.ensures.items at c.quanta_listed-quanta.ensures.sum in
    let fuels = rw c.as_slice-2.ensures.items at c.fuels_stated-fuels.ensures.sum in
    omega (arith, small.quanta, small.fuels, small.tasks, quanta, fuels, c.len.ensures.length, c.from.ensures, c.ranges.harts.fits)
