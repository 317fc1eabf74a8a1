-- The core of every bundle that is loaded is sound after every list of events, under each kernel that a command makes; and a task that is secure in its worlds is so in every core.
use Rattle.std.proofs.Common.{ℕ, ◌+◌, ◌<◌, ◌≤◌, ◌^◌, ◌-◌, List, length, take, sym, subst, arith}
use Rattle.core_model.specs.declared.loaded.Loaded.{Loaded}
use Rattle.core_model.specs.Loaded.{IsLoaded}
use Rattle.core_invariant.specs.KernelStates.{emitted_parts, linked_parts, IsAlikeKernel}
use Rattle.order_laws.specs.Laws.{AlikeBundlesRunAlike}
use Rattle.probing_laws.specs.Laws.{SecurityTransfers, SecurityByTwoTransfers, TwoWorldsAgree}
use Rattle.core_invariant.specs.Laws.{CoreStaysSound, OutputsStayBeginnings, EachTaskHasOneHome, NoHartWedges, EmittedIsKernel}
use Rattle.bundle_text.proofs.DraftRanges.{bundle_range}
use Rattle.masked_gen.specs.Generator.{generated}
use Rattle.masked_gen.proofs.Writable.{generated_writable}
use Rattle.rv_loader.specs.Valid.{LoadingIsSound}
use Rattle.core_model.specs.Routines.{Saves, Restores}
use Rattle.routine_laws.specs.Laws.{AcceptedRoutinesDo}
use Rattle.scrub_rules.specs.Division.{save_part, restore_part}
use Rattle.kernel_core.proofs.LinkedKernel.{linked-whole}
use Rattle.kernel_cli.specs.Bundles.{LoadAs}
use Rattle.kernel_cli.specs.Commands.{IsHartCount}
use Rattle.kernel_cli.specs.Generated.{IsGenerated}
use Rattle.kernel_cli.specs.Security.{SecureTasksStaySecure}
use Rattle.kernel_cli.specs.Soundness.{AreKernelsSound, AreCoresSound, AreGeneratedCoresSound, AreLintedCoresSound}
use Rattle.kernel_cli.specs.TopCall.{AreWorksSound}
use Rattle.kernel_cli.specs.Works.{harts_of, threads_of}
use Rattle.kernel_cli.specs.declared.work.Work.TheVariants.{Bundle, Code, Generated, Threads}
use Rattle.kernel_cli.specs.declared.work.CodeWork.TheVariants.{Lint, LintDrill}
use Rattle.kernel_cli.specs.declared.work.GeneratedWork.TheVariants.{Gen, Drill}

-- what bytes load as is loaded
is_loaded : LoadingIsSound → (harts : ℕ) → IsHartCount harts → (bytes : List ℕ) (loaded : Loaded) → LoadAs harts bytes loaded → IsLoaded loaded
is_loaded law harts count bytes loaded l =
    let within = l.within in
    let short : length bytes < 2 ^ 32 - 1 = omega arith in
    (law l.bundle harts loaded count.0 count.1 (bundle_range bytes l.bundle short l.reads) l.loads).sound

-- The core of every bundle that is loaded, under every kernel.
pub kernels_sound : CoreStaysSound → OutputsStayBeginnings → EachTaskHasOneHome → NoHartWedges → TwoWorldsAgree → AlikeBundlesRunAlike → AreKernelsSound
kernels_sound sound outputs homes wedges agree alike_orders k kernel alike loaded valid events = record {
  sound = λ n. sound k kernel loaded valid (take n events);
  homes = λ n. homes k kernel loaded valid (take n events);
  outputs = λ n. outputs k kernel loaded valid (take n events);
  unwedged = λ n. wedges k kernel loaded valid (take n events);
  alike = λ n other fits same. agree k kernel alike loaded other valid fits same (take n events);
  orders = λ other fits same order. alike_orders k kernel alike loaded other valid fits same order;
}

pub cores_are_sound : LoadingIsSound → AreKernelsSound → EmittedIsKernel → IsAlikeKernel emitted_parts → AreCoresSound
cores_are_sound law kernels kernel alike harts count bytes loaded l events =
    kernels emitted_parts kernel alike loaded (is_loaded law harts count bytes loaded l) events

-- What the bundle of a number loads as is loaded.
pub generated_is_loaded : LoadingIsSound → (seed tasks : ℕ) → tasks ≤ 32 → (loaded : Loaded) → IsGenerated seed tasks loaded → IsLoaded loaded
generated_is_loaded law seed tasks few loaded loads =
    (law (generated seed tasks) 1 loaded (omega arith) (omega arith) (generated_writable seed tasks (omega (arith, few))).range loads).sound

-- The core of the bundle of a number is sound.
pub generated_sound : LoadingIsSound → AreKernelsSound → EmittedIsKernel → IsAlikeKernel emitted_parts → AreGeneratedCoresSound
generated_sound law kernels kernel alike seed tasks few loaded loads events =
    kernels emitted_parts kernel alike loaded (generated_is_loaded law seed tasks few loaded loads) events

-- The kernel with the two parts of accepted words is a kernel, so its cores are sound too.
pub linted_sound : LoadingIsSound → AreKernelsSound → AcceptedRoutinesDo → AreLintedCoresSound
linted_sound law kernels routines words save restore parts seed tasks few loaded loads events =
    let is = parts.accepted in
    let short : length save ≤ 300 = subst (λ (p : List ℕ). length p ≤ 300) (sym parts.save_is) is.save.few in
    let restore_short : length restore ≤ 300 = subst (λ (p : List ℕ). length p ≤ 300) (sym parts.restore_is) is.restore.few in
    let saves : Saves save = subst (λ (p : List ℕ). Saves p) (sym parts.save_is) (routines.saves (save_part words parts.at) is.save) in
    let restores : Restores restore =
    subst (λ (p : List ℕ). Restores p) (sym parts.restore_is) (routines.restores (parts.at + 1) (restore_part words parts.at) is.restore) in
    let whole = linked-whole save restore short restore_short saves restores in
    kernels (linked_parts save restore) whole.kernel whole.alike loaded (generated_is_loaded law seed tasks few loaded loads) events

-- So is that of every work of words.
pub works_sound : AreCoresSound → AreGeneratedCoresSound → AreLintedCoresSound → AreWorksSound
works_sound loaded_sound generated_cores linted (Bundle work) counts src = λ bytes loaded were loads events. loaded_sound (harts_of work) counts bytes loaded loads events
works_sound loaded_sound generated_cores linted (Code Lint) counts src = tt
works_sound loaded_sound generated_cores linted (Code (LintDrill seed tasks)) counts src = λ bytes words parts loaded were assembles accepted loads events.
    linted words parts.save parts.restore accepted seed tasks counts.1 loaded loads events
works_sound loaded_sound generated_cores linted (Generated (Gen seed tasks)) counts src = tt
works_sound loaded_sound generated_cores linted (Generated (Drill seed tasks)) counts src = λ loaded loads events. generated_cores seed tasks counts.1 loaded loads events
works_sound loaded_sound generated_cores linted (Threads work) counts src = λ bytes loaded were loads events. loaded_sound (threads_of work) counts bytes loaded loads events

pub stay_secure : LoadingIsSound → SecurityTransfers → SecurityByTwoTransfers → EmittedIsKernel → IsAlikeKernel emitted_parts → SecureTasksStaySecure
stay_secure law transfers by_two kernel alike = record {
  by_one = λ harts count bytes loaded l T secure. (let valid = is_loaded law harts count bytes loaded l in
      record {
        alone = secure;
        cores = λ other is_other t at events. transfers emitted_parts kernel alike other is_other t T loaded.worlds
            (record { is_task = at; words = valid.limits.worlds; as_long = valid.limits.worlds_as_long }) secure events;
      });
  by_two = λ harts count bytes loaded l T secure. (let valid = is_loaded law harts count bytes loaded l in
      record {
        alone = secure;
        cores = λ other is_other t at events. by_two emitted_parts kernel alike other is_other t T loaded.worlds
            (record { is_task = at; words = valid.limits.worlds; as_long = valid.limits.worlds_as_long }) secure events;
      });
}
