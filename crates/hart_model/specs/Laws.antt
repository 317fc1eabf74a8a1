-- What holds of physical memory protection and of traps. Each is the contract of a law in `src/laws.rt`.
use Rattle.std.specs.Prelude.{◌≡◌, ℕ, ◌+◌, ◌*◌, ◌-◌, ◌%◌, ◌^◌, ◌<◌, ◌≤◌, Bool, true, false, ◌&&◌, ◌||◌, is_some}
use Rattle.isa_model.specs.declared.task.Task.{Task}
use Rattle.isa_model.specs.Alone.{code_word_at, is_data_address}
use Rattle.isa_model.specs.TaskPlaces.{IsValidTask}
use Rattle.hart_model.specs.declared.access.Access.{Access}
use Rattle.hart_model.specs.declared.access.Access.TheVariants.{Read, Write, Fetch}
use Rattle.hart_model.specs.declared.region.AddressMatching.TheVariants.{Napot}
use Rattle.hart_model.specs.declared.tag.Mode.TheVariants.{User}
use Rattle.hart_model.specs.Pmp.{PmpFile, cfg_of, addr_of, matching_of, region_of, is_touched, is_covered, is_permitted, is_allowed, task_pmp, IsAccessSize}
use Rattle.hart_model.specs.Csrs.{CsrFile}
use Rattle.hart_model.specs.Traps.{csrs_after_trap, csrs_after_mret}

-- of the entries that match any byte of an access, k is the lowest
pub record IsLowestMatch (p : PmpFile) (at size k : ℕ) : Type 0 where
  pub exists : k < 4
  pub matches : is_touched (region_of p k) at size ≡ true
  pub below : (i : ℕ) → i < k → is_touched (region_of p i) at size ≡ false

-- The lowest entry that matches any byte of an access decides about it in user mode, by its region and its configuration byte
-- alone.
abbrev pub LowestMatchDecides : Type 0
LowestMatchDecides = (p : PmpFile) (at size k : ℕ) (kind : Access) → IsLowestMatch p at size k →
    is_allowed User p at size kind ≡ (is_covered (region_of p k) at size && is_permitted (cfg_of p k) kind)

-- An access in user mode that no entry matches fails.
abbrev pub UnmatchedFails : Type 0
UnmatchedFails = (p : PmpFile) (at size : ℕ) (kind : Access) →
    ((i : ℕ) → i < 4 → is_touched (region_of p i) at size ≡ false) → is_allowed User p at size kind ≡ false

-- A power-of-two entry whose address word ends in a 0 and k ones covers a block of 2 ^ (k + 3) bytes, at a multiple of that.
abbrev pub NapotIsAligned : Type 0
NapotIsAligned = (p : PmpFile) (i m k : ℕ) → k ≤ 32 → matching_of (cfg_of p i) ≡ Napot →
    addr_of p i ≡ m * 2 ^ (k + 1) + (2 ^ k - 1) →
    region_of p i ≡ record { low = m * 2 ^ (k + 3); high = (m + 1) * 2 ^ (k + 3) }

-- what the run alone may do at an address: fetch and load the code, load and store the data
abbrev pub is_allowed_alone : Task → ℕ → Access → Bool
is_allowed_alone T at Fetch = is_some (code_word_at T at)
is_allowed_alone T at Read = is_some (code_word_at T at) || is_data_address T at
is_allowed_alone T at Write = is_data_address T at

-- Under the boot configuration and the four bounds of a task, user mode may do exactly the accesses of the task's run alone.
abbrev pub BoundsAllowRunAlone : Type 0
BoundsAllowRunAlone = (T : Task) → IsValidTask T → (at size : ℕ) (kind : Access) → IsAccessSize size → at % size ≡ 0 →
    is_allowed User (task_pmp T) at size kind ≡ is_allowed_alone T at kind

-- A trap and then MRET leave the mode, the interrupt enable and all else as before, but for what a trap records and what MRET
-- resets; MRET goes to `mepc`, which is the pc of the trap.
abbrev pub MretUndoesTrap : Type 0
MretUndoesTrap = (c : CsrFile) (cause pc : ℕ) →
    csrs_after_mret (csrs_after_trap c cause pc) ≡ record c { was_enabled = true; previous = User; mepc = pc; mcause = cause }
