-- The emitted kernel is a kernel, on two harts that are alike too.
use Rattle.std.proofs.Common.{sym, subst}
use Rattle.core_model.specs.KernelWords.{KernelCodeState}
use Rattle.core_invariant.proofs.Proved.{emitted-is-kernel}
use Rattle.noninterference.proofs.EmittedAlike.{emitted-alike}
use Rattle.kernel_core.specs.Kernels.{IsWholeKernel}
use Rattle.kernel_core.proofs.kernel.Kernel.emitted.Goals as goal

pub invariant_of-result : goal.invariant_of-result
invariant_of-result c =
    let P : KernelCodeState → Type 0 = λ code. IsWholeKernel (record { code = code; save = 101; restore = 62 }) in
    subst P (sym c.in_ok-kernel_code.ensures.code) (record { kernel = emitted-is-kernel; alike = emitted-alike })
