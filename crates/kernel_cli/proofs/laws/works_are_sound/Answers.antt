-- Work by work.
use Rattle.kernel_cli.proofs.SoundCores.{works_sound}
use Rattle.kernel_cli.proofs.laws.works_are_sound.Goals as goal

pub returns : goal.returns
returns c = record {
  sound = works_sound c.cores_are_sound.ensures.sound c.generated_cores_are_sound.ensures.sound c.linted_cores_are_sound.ensures.sound;
}
