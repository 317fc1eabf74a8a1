use Rattle.masked_worlds.proofs.Secure.{seen-alike-is-one-course, written-are-silent, silent-is-secure, secure-is-silent, earlier-is-independent}
use Rattle.masked_worlds.proofs.laws.silent_is_secure.Goals as goal

pub returns : goal.returns
returns c = record { course = seen-alike-is-one-course; written = written-are-silent; secure = silent-is-secure; silent = secure-is-silent; earlier = earlier-is-independent }
