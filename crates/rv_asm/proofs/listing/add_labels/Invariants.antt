-- The labels so far are added, and what is left decides.
use Rattle.std.proofs.Common.{drop}
use Rattle.rv_asm.proofs.Labels.{AreAdded}
use Rattle.rv_asm.proofs.listing.add_labels.Given as goal

abbrev pub invariant-loop-label : goal.invariant-loop-label
invariant-loop-label l = AreAdded l.fn.places l.places l.place l.labels (drop l.label-index l.labels)
