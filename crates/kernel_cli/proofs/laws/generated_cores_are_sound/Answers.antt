-- By the laws of kernels and of loading.
use Rattle.kernel_cli.proofs.SoundCores.{generated_sound}
use Rattle.kernel_cli.proofs.laws.generated_cores_are_sound.Goals as goal

pub returns : goal.returns
returns c = record {
  sound = generated_sound c.loading_is_sound.ensures.law c.kernels_are_sound.ensures.sound c.emitted_is_kernel.ensures.kernel
      c.emitted_is_alike.ensures.alike;
}
