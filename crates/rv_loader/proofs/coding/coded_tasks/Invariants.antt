-- The tasks so far, and what is left, are what all tasks are.
use Rattle.std.proofs.Common.{◌≡◌, drop}
use Rattle.rv_loader.specs.Coding.{coded_tasks}
use Rattle.rv_loader.proofs.Coded.{coded_after}
use Rattle.rv_loader.proofs.coding.coded_tasks.Given as goal

abbrev pub invariant-loop-text : goal.invariant-loop-text
invariant-loop-text l = coded_tasks l.texts ≡ coded_after l.tasks.items (coded_tasks (drop l.text-index l.texts))
