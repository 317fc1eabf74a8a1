-- By the laws of the core, of two worlds and of orders.
use Rattle.kernel_cli.proofs.SoundCores.{kernels_sound}
use Rattle.kernel_cli.proofs.laws.kernels_are_sound.Goals as goal

pub returns : goal.returns
returns c = record {
  sound = kernels_sound c.core_stays_sound.ensures.sound c.outputs_stay_beginnings.ensures.outputs c.each_task_has_one_home.ensures.homes
      c.no_hart_wedges.ensures.never c.two_worlds_agree.ensures.agree c.alike_bundles_run_alike.ensures.alike;
}
