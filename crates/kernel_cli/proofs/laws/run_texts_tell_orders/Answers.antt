-- By the law of reports, at the kernel of this project.
use Rattle.core_invariant.specs.KernelStates.{emitted_parts}
use Rattle.kernel_cli.proofs.laws.run_texts_tell_orders.Goals as goal

pub returns : goal.returns
returns c = record {
  orders = λ loaded fits o p first other same.
      c.run_reports_tell_orders.ensures.orders emitted_parts c.emitted_is_kernel.ensures.kernel loaded fits o p first.legal other.legal same;
}
