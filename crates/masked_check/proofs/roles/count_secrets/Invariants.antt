use Rattle.std.proofs.Common.{◌≡◌, ℕ, ◌<◌, slice_get, Some}
use Rattle.masked_worlds.specs.declared.role.Role.TheVariants.{Share}
use Rattle.masked_check.proofs.roles.count_secrets.Given as goal

abbrev pub invariant-loop-role : goal.invariant-loop-role
invariant-loop-role l = (place : ℕ) → place < l.role-index → (k : ℕ) → slice_get l.roles place ≡ Some (Share k) → k < l.count
