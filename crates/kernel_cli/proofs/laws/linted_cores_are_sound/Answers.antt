-- By the laws of kernels, of loading and of routines.
use Rattle.kernel_cli.proofs.SoundCores.{linted_sound}
use Rattle.kernel_cli.proofs.laws.linted_cores_are_sound.Goals as goal

pub returns : goal.returns
returns c = record {
  sound = linted_sound c.loading_is_sound.ensures.law c.kernels_are_sound.ensures.sound c.accepted_routines_do.ensures.routines;
}
