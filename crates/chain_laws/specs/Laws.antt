-- The laws of generated bundles.
use Rattle.std.specs.Prelude.{◌≡◌, ℕ, ◌≤◌, List, [], ◌∷◌, All, Ok, Some, bit_xor}
use Rattle.isa_model.specs.declared.ends.End.TheVariants.{Exited}
use Rattle.isa_model.specs.declared.task.Task.{Task}
use Rattle.isa_model.specs.Alone.{last_of}
use Rattle.core_model.specs.declared.loaded.Loaded.{Loaded}
use Rattle.isa_model.specs.Limits.{max_harts, max_tasks}
use Rattle.bundle_text.specs.declared.bundle.Code.TheVariants.{Text}
use Rattle.rv_loader.specs.Coding.{words_of}
use Rattle.rv_loader.specs.Loading.{loading_of}
use Rattle.masked_gen.specs.declared.gate.Gate.{Gate}
use Rattle.masked_gen.specs.Code.{code_lines}
use Rattle.masked_gen.specs.Chain.{chain_value}
use Rattle.masked_gen.specs.Generator.{generated}

-- Every generated bundle of 1 to 32 tasks loads, on 1 to 8 harts.
abbrev pub GeneratedBundlesLoad : Type 0
GeneratedBundlesLoad = (seed tasks harts : ℕ) → 1 ≤ tasks → tasks ≤ max_tasks → 1 ≤ harts → harts ≤ max_harts → (loaded : Loaded) × (loading_of (generated seed tasks) harts ≡ Ok loaded)

-- A task of a chain of gates: its code is the chain's, and its tape begins with the shares of both words. Alone it exits with 0, and the
-- exclusive or of the two words that it puts out is what the chain computes of both words.
pub record PutsOutChain (T : Task) : Type 0 where
  pub gates : List Gate
  pub a0 : ℕ
  pub a1 : ℕ
  pub b0 : ℕ
  pub b1 : ℕ
  pub masks : List ℕ
  pub code : words_of (Text 0 (code_lines gates)) ≡ Ok T.code
  pub tape : T.tape ≡ a0 ∷ a1 ∷ b0 ∷ b1 ∷ masks
  pub first : ℕ
  pub second : ℕ
  pub ends : (last_of T).end ≡ Some (Exited 0)
  pub output : (last_of T).output ≡ first ∷ second ∷ []
  pub chain : bit_xor first second ≡ chain_value gates (bit_xor a0 a1) (bit_xor b0 b1)

-- Each task of what a generated bundle loads as is one.
abbrev pub ChainsArePutOut : Type 0
ChainsArePutOut = (seed tasks harts : ℕ) (loaded : Loaded) → loading_of (generated seed tasks) harts ≡ Ok loaded → All PutsOutChain loaded.tasks
