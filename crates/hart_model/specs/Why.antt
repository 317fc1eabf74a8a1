-- Why a write is explained (this project's own), by the mode, the latch and the two tags alone.
use Rattle.std.specs.Prelude.{ℕ, suc, Bool, true, false, ◌&&◌, nat_le, ◌==◌}
use Rattle.isa_model.specs.declared.latch.Latch.{Latch}
use Rattle.isa_model.specs.LatchOrder.{same_latch}
use Rattle.hart_model.specs.declared.tag.Tag.{Tag}
use Rattle.hart_model.specs.declared.tag.Tag.TheVariants.{Public, Of}
use Rattle.hart_model.specs.declared.tag.Mode.{Mode}
use Rattle.hart_model.specs.declared.tag.Mode.TheVariants.{User}
use Rattle.hart_model.specs.declared.probe.Why.{Why}
use Rattle.hart_model.specs.declared.probe.Why.TheVariants as whys
use Rattle.hart_model.specs.declared.probe.Side.TheVariants.{Was, Now}

-- instruction n of a task where the test holds
abbrev pub step_or_unexplained : Bool → ℕ → ℕ → Latch → Why
step_or_unexplained true task n l = whys.Step task n l
step_or_unexplained false task n l = whys.Unexplained

-- The why of a write of latch l, by the mode and the tags before and after. Both public: Public. One public and one of a task: the
-- value of that tag, with the side where it stands. In user mode, where both tags are of one task and of l itself, the new one after
-- instruction n and the old one after no more than n instructions: instruction n of that task. Else it is unexplained.
abbrev pub why_of : Mode → Latch → Tag → Tag → Why
why_of mode l Public Public = whys.Public
why_of mode l (Of task n k) Public = whys.Value task n k Was
why_of mode l Public (Of task n k) = whys.Value task n k Now
why_of User l (Of task m k) (Of other (suc n) j) =
    step_or_unexplained ((task == other) && same_latch k l && same_latch j l && nat_le m n) task n l
why_of mode l was now = whys.Unexplained
