-- By the law of probing security, at the kernel of this project.
use Rattle.kernel_cli.proofs.SoundCores.{stay_secure}
use Rattle.kernel_cli.proofs.laws.secure_tasks_stay_secure.Goals as goal

pub returns : goal.returns
returns c = record {
  secure = stay_secure c.loading_is_sound.ensures.law c.security_transfers.ensures.transfers c.security_by_two_transfers.ensures.transfers
      c.emitted_is_kernel.ensures.kernel c.emitted_is_alike.ensures.alike;
}
