-- What is proved of kernels, with nothing left open.
use Rattle.symbolic_run.proofs.StepsTaken.{steps-taken}
use Rattle.symbolic_run.proofs.Paths.{paths-lead}
use Rattle.core_invariant.specs.KernelStates.{IsKernel, emitted_parts}
use Rattle.core_invariant.proofs.EmittedKernel.{emitted-kernel}
use Rattle.core_invariant.proofs.EachHart.{each-hart}
use Rattle.core_invariant.proofs.FromHarts.{HartsOfKernels}

-- each hart of every kernel does what it has to
pub kernel-harts : HartsOfKernels
kernel-harts k kernel loaded fits = each-hart k kernel (paths-lead steps-taken) loaded.tasks

-- the kernel of this project is one
pub emitted-is-kernel : IsKernel emitted_parts
emitted-is-kernel = emitted-kernel
