-- A kernel that is linked is a kernel, on two harts that are alike too.
use Rattle.std.proofs.Common.{length, sym, subst}
use Rattle.core_model.specs.KernelWords.{KernelCodeState}
use Rattle.kernel_core.specs.Kernels.{IsWholeKernel}
use Rattle.kernel_core.proofs.LinkedKernel.{linked-whole}
use Rattle.kernel_core.proofs.kernel.Kernel.of.Goals as goal

pub invariant_of-result : goal.invariant_of-result
invariant_of-result c =
    let P : KernelCodeState → Type 0 = λ code. IsWholeKernel (record { code = code; save = length c.args.save.now; restore = length c.args.restore.now }) in
    subst P (sym c.in_ok-link.ensures.code)
    (linked-whole c.args.save.now c.args.restore.now c.requires.save_few c.requires.restore_few c.requires.saves c.requires.restores)
