-- The secrets of a tape, and all worlds of a task.
use Rattle.std.specs.Prelude.{◌≡◌, ◌≢◌, ◌↔◌, ℕ, zero, suc, ◌+◌, ◌*◌, ◌^◌, ◌<◌, Bool, true, false, List, [], ◌∷◌, map, length, get_or, slice_get, Some, ◌==◌, nat_lt, bit_xor, if◌then◌else◌}
use Rattle.core_model.specs.declared.world.World.{World}
use Rattle.core_model.specs.Security.{IsSecret, IsIndependent}
use Rattle.masked_worlds.specs.declared.role.Role.{Role}
use Rattle.masked_worlds.specs.declared.role.Role.TheVariants.{Public, Mask, Share}
use Rattle.masked_worlds.specs.Tapes.{tapes}

abbrev pub is_share_of : ℕ → Role → Bool
is_share_of k Public = false
is_share_of k Mask = false
is_share_of k (Share j) = j == k

-- secret number k: the exclusive or of its shares
abbrev pub secret_at : List Role → ℕ → List ℕ → ℕ
secret_at (role ∷ roles) k (v ∷ vs) = if is_share_of k role then bit_xor v (secret_at roles k vs) else secret_at roles k vs
secret_at _ k _ = 0

-- the secrets below a number as one number, 32 bits each
abbrev pub secrets_below : ℕ → List Role → List ℕ → ℕ
secrets_below zero roles t = 0
secrets_below (suc k) roles t = secrets_below k roles t + 2 ^ (32 * k) * secret_at roles k t

-- how many secrets there are: one more than the greatest number
abbrev pub secret_count : List Role → ℕ
secret_count [] = 0
secret_count (Public ∷ roles) = secret_count roles
secret_count (Mask ∷ roles) = secret_count roles
secret_count (Share k ∷ roles) = if nat_lt k (secret_count roles) then secret_count roles else suc k

abbrev pub secrets_of : List Role → List ℕ → ℕ
secrets_of roles t = secrets_below (secret_count roles) roles t

abbrev pub world_of : List Role → List ℕ → World
world_of roles t = record { secret = secrets_of roles t; tape = t }

-- All worlds of a task whose tape has these words.
abbrev pub all_worlds : List Role → List ℕ → List World
all_worlds roles words = map (world_of roles) (tapes roles words)

-- Each secret has a share: the numbers below the count of secrets are all in use.
abbrev pub AreNumbered : List Role → Type 0
AreNumbered roles = (k : ℕ) → k < secret_count roles → (place : ℕ) × (slice_get roles place ≡ Some (Share k))

-- What is seen of a tape tells nothing of the secrets: whatever may be asked of it is so in equally many worlds of every two tuples of secrets.
abbrev pub TellsNothing : {X : Type 0} → List Role → List ℕ → (List ℕ → X) → Type 0
TellsNothing {X} roles words seen = (is_so : X → Bool) → IsIndependent (all_worlds roles words) (λ world. is_so (seen world.tape))

-- The tuples of secrets that come are all those of words of 32 bits, each in equally many worlds.
pub record SecretsComeAlike (roles : List Role) (words : List ℕ) : Type 0 where
  pub all : (s : ℕ) → IsSecret (all_worlds roles words) s ↔ (s < 2 ^ (32 * secret_count roles))
  pub even : IsIndependent (all_worlds roles words) (λ world. true)

-- A secret with one share alone is the word of this share.
abbrev pub LoneShareIsSecret : Type 0
LoneShareIsSecret = (roles : List Role) (k place : ℕ) → slice_get roles place ≡ Some (Share k)
    → ((other : ℕ) → other ≢ place → slice_get roles other ≢ Some (Share k)) → (t : List ℕ) → length t ≡ length roles
    → secret_at roles k t ≡ get_or t place 0

-- A secret itself does tell something, of whatever tuples of secrets it is one.
abbrev pub SecretsAreTold : Type 0
SecretsAreTold = (roles : List Role) (words : List ℕ) → length roles ≡ length words → AreNumbered roles → (k : ℕ) → k < secret_count roles
    → TellsNothing roles words (secret_at roles k) → ⊥
