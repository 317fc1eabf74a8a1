use Rattle.masked_worlds.proofs.ByTwo.{silent-is-secure-by-two}
use Rattle.masked_worlds.proofs.laws.silent_is_secure_by_two.Goals as goal

pub returns : goal.returns
returns c = record { secure = silent-is-secure-by-two }
