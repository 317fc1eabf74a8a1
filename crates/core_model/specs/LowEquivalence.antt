-- Loaded bundles that are alike in all that is public, and logs that agree in it (this project's own).
use Rattle.std.specs.Prelude.{◌≡◌, ⊤, List, [], ◌∷◌, length}
use Rattle.isa_model.specs.declared.task.Task.{Task}
use Rattle.isa_model.specs.Course.{TakeOneCourse}
use Rattle.hart_model.specs.declared.probe.Probe.{Probe}
use Rattle.hart_model.specs.declared.probe.Why.{Why}
use Rattle.hart_model.specs.declared.probe.Why.TheVariants as whys
use Rattle.hart_model.specs.declared.probe.Side.TheVariants.{Was, Now}
use Rattle.core_model.specs.declared.loaded.Loaded.{Loaded}

-- Two tasks are alike: the same places, code, data length, fuel and output limit, tapes of one length, and runs alone of one course.
pub record AreTasksAlike (a b : Task) : Type 0 where
  pub code_at : a.code_at ≡ b.code_at
  pub data_at : a.data_at ≡ b.data_at
  pub code : a.code ≡ b.code
  pub data_len : a.data_len ≡ b.data_len
  pub fuel : a.fuel ≡ b.fuel
  pub out_max : a.out_max ≡ b.out_max
  pub tape_length : length a.tape ≡ length b.tape
  pub course : TakeOneCourse a b

-- as many on both sides, and related place by place
abbrev pub ArePairwise : {A : Type 0} → (A → A → Type 0) → List A → List A → Type 0
ArePairwise R [] [] = ⊤
ArePairwise R (x ∷ xs) (y ∷ ys) = R x y × ArePairwise R xs ys
ArePairwise R xs ys = ⊥

-- Two loaded bundles are alike: the same harts, slots, plans and bands, and tasks alike one by one.
pub record AreAlike (a b : Loaded) : Type 0 where
  pub harts : a.harts ≡ b.harts
  pub slots : a.slots ≡ b.slots
  pub plans : a.plans ≡ b.plans
  pub bands : a.bands ≡ b.bands
  pub tasks : ArePairwise AreTasksAlike a.tasks b.tasks

-- the values that the why leaves to be public: both of a public entry, and of a value the one on the other side
abbrev pub AreValuesAlike : Probe → Probe → Why → Type 0
AreValuesAlike p q whys.Public = (p.was ≡ q.was) × (p.now ≡ q.now)
AreValuesAlike p q (whys.Value task n l Was) = p.now ≡ q.now
AreValuesAlike p q (whys.Value task n l Now) = p.was ≡ q.was
AreValuesAlike p q (whys.Step task n l) = ⊤
AreValuesAlike p q whys.Unexplained = ⊤

-- Two entries agree publicly: the same hart, pc, latch and why, and the values that are public.
pub record AgreesPublicly (p q : Probe) : Type 0 where
  pub hart : p.hart ≡ q.hart
  pub pc : p.pc ≡ q.pc
  pub latch : p.latch ≡ q.latch
  pub why : p.why ≡ q.why
  pub values : AreValuesAlike p q p.why

-- Two logs agree publicly: they are equally long and agree place by place.
abbrev pub AgreePublicly : List Probe → List Probe → Type 0
AgreePublicly log other = ArePairwise AgreesPublicly log other
