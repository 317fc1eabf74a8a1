-- A task of each band, two slots and one hart: the task of band 1 waits while that of band 0 runs, and is taken when that has ended.
use Rattle.std.proofs.Common.{◌≡◌, refl, [], ◌∷◌, ◌++◌, replicate, Some}
use Rattle.hart_model.specs.Csrs.{csr_cell, with_csr}
use Rattle.hart_model.specs.Pmp.{is_allowed_by}
use Rattle.hart_model.specs.UserStep.{user_step}
use Rattle.hart_model.specs.MachineStep.{machine_step}
use Rattle.core_model.specs.declared.event.Event.TheVariants.{Go, Tick}
use Rattle.core_model.specs.declared.home.Home.TheVariants.{Slot, Hart, Ended}
use Rattle.core_model.specs.declared.loaded.Loaded.{Loaded}
use Rattle.core_model.specs.Core.{CoreState, core_after, core_from}
use Rattle.core_model.specs.Homes.{home_of}
use Rattle.core_invariant.specs.KernelStates.{emitted_parts}
use Rattle.core_invariant.proofs.TryCores.{plan, two_tasks}

-- task 0 is of band 1, task 1 of band 0
abbrev two_bands : Loaded
two_bands = record two_tasks { harts = 1; slots = 2; plans = plan ∷ []; bands = 1 ∷ 0 ∷ [] }

-- Task 1 is taken, interrupted after two instructions, and taken again. Task 0 is ready all the while, since boot.
abbrev taken_again : CoreState
taken_again = core_after two_bands emitted_parts.code (replicate 78 (Go 0) ++ Tick 0 ∷ replicate 200 (Go 0))

band_1_waits : (taken_again.board.order ≡ 0 ∷ 0 ∷ 0 ∷ []) × (home_of taken_again.board 1 ≡ Some (Hart 0 1)) × (home_of taken_again.board 0 ≡ Some (Slot 0))
unfolding core_from user_step machine_step is_allowed_by csr_cell with_csr
band_1_waits = (refl, refl, refl)

-- Where task 1 has ended, after its output and a third take, task 0 is taken.
abbrev after_band_0 : CoreState
after_band_0 = core_from emitted_parts.code.words taken_again (replicate 450 (Go 0))

band_1_goes : (after_band_0.board.order ≡ replicate 7 0) × (home_of after_band_0.board 1 ≡ Some Ended) × (home_of after_band_0.board 0 ≡ Some (Hart 0 0))
unfolding core_from user_step machine_step is_allowed_by csr_cell with_csr
band_1_goes = (refl, refl, refl)
