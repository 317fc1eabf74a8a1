-- A core at boot is that of its bundle and its kernel.
use Rattle.std.proofs.Common.{ℕ, List, map, refl, ap, subst, ◌∙◌, arith}
use Rattle.core_model.specs.declared.plan.Plan.{Plan}
use Rattle.core_model.specs.KernelWords.{KernelCodeState}
use Rattle.core_model.specs.Core.{harts_from}
use Rattle.core_invariant.specs.KernelStates.{KernelParts}
use Rattle.kernel_core.specs.Kernels.{IsWholeKernel}
use Rattle.kernel_core.specs.Seats.{boot_seat}
use Rattle.kernel_core.specs.PacedHistory.{paced_at_boot}
use Rattle.kernel_core.proofs.PacedSeats.{paced-boot}
use Rattle.kernel_core.proofs.Booted.{run-kept, told-boot}
use Rattle.kernel_core.proofs.whole_core.Core.boot_with.Goals as goal

pub invariant_of-result : goal.invariant_of-result
invariant_of-result g c =
    let lists = c.in_ok-reserve.ensures.lists ∙ c.in_ok-board.ensures.lists in
    let take = ap (λ (code : KernelCodeState). code.take) (c.behind-kernel.view_is ∙ c.code.ensures.code) in
    let harts = c.in_ok-harts.ensures.harts ∙ ap (λ (at : ℕ). harts_from 0 c.args.loaded.now.harts at) take in
    let K : KernelParts → Type 0 = λ k. IsWholeKernel k in
    let spare = c.in_ok-reserve.ensures.ok in (
      c.args.loaded.now,
      run-kept c.args.loaded.now c.requires.loaded c.args.kernel (subst K c.kernel.view_is c.kernel.invariant).kernel c.reserve.new.self c.in_ok-harts.harts.items c.args.actions
          lists harts (omega (arith, spare)),
    )

pub returns-clause-told : goal.returns-clause-told
returns-clause-told g c =
    let take = ap (λ (code : KernelCodeState). code.take) (c.behind-kernel.view_is ∙ c.code.ensures.code) in
    let K : KernelParts → Type 0 = λ k. IsWholeKernel k in
    told-boot c.args.loaded.now c.args.kernel _ c.requires.loaded (subst K c.kernel.view_is c.kernel.invariant) refl c.len.ensures.length
    (c.in_ok-reserve.ensures.lists ∙ c.in_ok-board.ensures.lists)
    (c.in_ok-harts.ensures.harts ∙ ap (λ (at : ℕ). harts_from 0 c.args.loaded.now.harts at) take) c.new.ensures.tally

pub returns-clause-paced : goal.returns-clause-paced
returns-clause-paced g c =
    let take = ap (λ (code : KernelCodeState). code.take) (c.behind-kernel.view_is ∙ c.code.ensures.code) in
    let seats = c.in_ok-seats.ensures.seats ∙ ap (λ (plans : List Plan). map boot_seat plans) c.as_slice.ensures.items in
    paced-boot c.args.loaded.now c.args.kernel c.requires.loaded _ (returns-clause-told g c)
    (c.in_ok-harts.ensures.harts ∙ ap (λ (at : ℕ). harts_from 0 c.args.loaded.now.harts at) take) seats refl

pub invariant_of-result-2 : goal.invariant_of-result-2
invariant_of-result-2 g c is_paced = (paced_at_boot c.args.loaded.now c.args.kernel, returns-clause-paced g c)
