-- The answers by two probes at once (this project's own).
use Rattle.std.specs.Prelude.{ℕ}
use Rattle.probing_laws.specs.declared.verdict.CertFault.{CertFault}
use Rattle.probing_laws.specs.declared.verdict.CertFault.TheVariants as faults
use Rattle.probing_laws.specs.declared.verdict_two.VerdictTwo.{VerdictTwo}
use Rattle.probing_laws.specs.declared.verdict_two.VerdictTwo.TheVariants.{Leak}
use Rattle.probing_laws.specs.declared.verdict_two.TwoFault.{TwoFault}
use Rattle.probing_laws.specs.declared.verdict_two.TwoFault.TheVariants.{Cert, Memory}
use Rattle.probe_order.specs.Joint.{values_of}
use Rattle.probe_order.specs.declared.joint.JointDifference.{JointDifference}
use Rattle.probe_order.specs.declared.places.Place.{Place}

-- a fault by one probe as one by two
abbrev pub fault_of : CertFault → TwoFault
fault_of faults.Memory = Memory
fault_of faults.NoWorlds = Cert faults.NoWorlds
fault_of (faults.TooMuch product) = Cert (faults.TooMuch product)
fault_of (faults.Uneven a b) = Cert (faults.Uneven a b)
fault_of (faults.ControlDiffers v w step) = Cert (faults.ControlDiffers v w step)

-- the leak at two places
abbrev pub leak_between : Place → Place → ℕ → JointDifference → VerdictTwo
leak_between p q secret d = Leak (p.step, q.step) (p.latch, q.latch) secret d.secret (values_of d.joint) d.count_first d.count_other
