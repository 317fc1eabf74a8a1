-- Steps in user mode, computed: the words are those of a GNU assembler.
use Rattle.std.proofs.Common.{◌≡◌, refl, ℕ, true, false, List, [], ◌∷◌, Option, Some, None}
use Rattle.isa_model.specs.declared.latch.Latch.{Latch}
use Rattle.isa_model.specs.declared.latch.Latch.TheVariants as latches
use Rattle.hart_model.specs.declared.place.Place.TheVariants.{Reg, DataWord}
use Rattle.hart_model.specs.declared.tag.Tag.TheVariants.{Of}
use Rattle.hart_model.specs.declared.tag.Mode.TheVariants.{User, Machine}
use Rattle.hart_model.specs.declared.calls.Did.{Did}
use Rattle.hart_model.specs.declared.calls.Did.TheVariants.{Ran, Trapped}
use Rattle.hart_model.specs.declared.probe.Probe.{Probe}
use Rattle.hart_model.specs.declared.probe.Why.{Why}
use Rattle.hart_model.specs.declared.probe.Why.TheVariants.{Value, Step}
use Rattle.hart_model.specs.declared.probe.Side.TheVariants.{Now}
use Rattle.hart_model.specs.Csrs.{public}
use Rattle.hart_model.specs.Pmp.{is_allowed_by}
use Rattle.hart_model.specs.Context.{ContextState}
use Rattle.hart_model.specs.HartState.{HartState, hart_cell, hart_with_cell, tick_of}
use Rattle.hart_model.specs.StepResult.{did_of, hart_after, probes_of}
use Rattle.hart_model.specs.UserStep.{user_step}
use Rattle.hart_model.proofs.SmallTask.{small_body, small_context, user_hart, user_csrs, latches_of}

-- addi x10,x0,42; addi x17,x0,1; ecall
abbrev words : List ℕ
words = 0x02a00513 ∷ 0x00100893 ∷ 0x00000073 ∷ []

abbrev first : HartState
first = user_hart words

abbrev second : HartState
second = hart_after first (user_step first)

abbrev third : HartState
third = hart_after second (user_step second)

abbrev last : HartState
last = hart_after third (user_step third)

-- the entry of a write that hart 1 makes
abbrev entry : ℕ → Latch → ℕ → ℕ → Why → Probe
entry pc latch was now why = record { hart = 1; pc = pc; latch = latch; was = was; now = now; why = why }

-- the count of what is held
abbrev count_of : Option ContextState → ℕ
count_of None = 0
count_of (Some c) = c.body.count

probes_of_addi : probes_of (user_step first) ≡
    entry 0x100000 latches.PortA 0 0 (Value 3 1 latches.PortA Now)
    ∷ entry 0x100000 latches.Res 0 42 (Value 3 1 latches.Res Now)
    ∷ entry 0x100000 (latches.Reg 10) 0 42 (Value 3 1 (latches.Reg 10) Now)
    ∷ []
unfolding user_step is_allowed_by
probes_of_addi = refl

cell_of_addi : hart_cell second (Reg 10) ≡ record { value = 42; tag = Of 3 1 (latches.Reg 10) }
unfolding user_step is_allowed_by
cell_of_addi = refl

next_of_addi : (second.pc ≡ 0x100004) × (count_of second.held ≡ 1) × (second.csrs.mode ≡ User)
unfolding user_step is_allowed_by
next_of_addi = (refl, refl, refl)

probes_of_second_addi : probes_of (user_step second) ≡
    entry 0x100004 latches.PortA 0 0 (Step 3 1 latches.PortA)
    ∷ entry 0x100004 latches.Res 42 1 (Step 3 1 latches.Res)
    ∷ entry 0x100004 (latches.Reg 17) 0 1 (Value 3 2 (latches.Reg 17) Now)
    ∷ []
unfolding user_step is_allowed_by
probes_of_second_addi = refl

ecall_traps : did_of (user_step third) ≡ Trapped 8
unfolding user_step is_allowed_by
ecall_traps = refl

ecall_writes_nothing : probes_of (user_step third) ≡ []
unfolding user_step is_allowed_by
ecall_writes_nothing = refl

after_ecall : (last.pc ≡ 0x1000) × (last.csrs.mepc ≡ 0x100008) × (last.csrs.mcause ≡ 8) × (last.csrs.mode ≡ Machine) × (last.csrs.previous ≡ User) × (count_of last.held ≡ 3)
unfolding user_step is_allowed_by
after_ecall = (refl, refl, refl, refl, refl, refl)

-- interrupts: the hart with this count, whose fuel is 5, and with a pending timer
abbrev with_count : ℕ → HartState
with_count n = record first { held = Some (record (small_context words) { body = record (small_body words) { count = n } }) }

timer : did_of (user_step (tick_of first)) ≡ Trapped 0x80000007
unfolding user_step
timer = refl

timer_leaves_the_count : count_of (hart_after first (user_step (tick_of (with_count 4)))).held ≡ 4
unfolding user_step
timer_leaves_the_count = refl

timer_writes_nothing : probes_of (user_step (tick_of first)) ≡ []
unfolding user_step
timer_writes_nothing = refl

fuel_before_timer : did_of (user_step (tick_of (with_count 5))) ≡ Trapped 0x80000010
unfolding user_step
fuel_before_timer = refl

fuel_left : did_of (user_step (with_count 4)) ≡ Ran
unfolding user_step is_allowed_by
fuel_left = refl

fuel_disabled : did_of (user_step (record (with_count 5) { csrs = record (user_csrs words) { is_fuel_enabled = false } })) ≡ Ran
unfolding user_step is_allowed_by
fuel_disabled = refl

timer_disabled : did_of (user_step (record first { csrs = record (user_csrs words) { is_timer_pending = true; is_timer_enabled = false } })) ≡ Ran
unfolding user_step is_allowed_by
timer_disabled = refl

-- One instruction from its first step on, with x1 and x2 at these values. x1 is 5 where nothing else is said, and the data word stands
-- at 0x108000.
abbrev with_registers : ℕ → ℕ → ℕ → HartState
with_registers word x1 x2 = hart_with_cell (hart_with_cell (user_hart (word ∷ [])) (Reg 1) (public x1)) (Reg 2) (public x2)

-- what a step did, and the latches that it wrote, in order
record Outcome : Type 0 where
  did : Did
  written : List Latch

abbrev outcome : ℕ → ℕ → ℕ → Outcome
outcome word x1 x2 = record {
  did = did_of (user_step (with_registers word x1 x2));
  written = latches_of (probes_of (user_step (with_registers word x1 x2)));
}

-- past the code
fetch_fault : did_of (user_step (record first { pc = 0x10000c })) ≡ Trapped 1
unfolding user_step is_allowed_by
fetch_fault = refl

fault_counts : count_of (hart_after first (user_step (record first { pc = 0x10000c }))).held ≡ 1
unfolding user_step is_allowed_by
fault_counts = refl

-- wfi; csrrs x1,mscratch,x0; mret; ebreak
wfi_is_illegal : (outcome 0x10500073 5 0).did ≡ Trapped 2
unfolding user_step is_allowed_by
wfi_is_illegal = refl

csrrs_is_illegal : outcome 0x340020f3 5 0 ≡ record { did = Trapped 2; written = [] }
unfolding user_step is_allowed_by
csrrs_is_illegal = refl

mret_is_illegal : (outcome 0x30200073 5 0).did ≡ Trapped 2
unfolding user_step is_allowed_by
mret_is_illegal = refl

ebreak : (outcome 0x00100073 5 0).did ≡ Trapped 3
unfolding user_step is_allowed_by
ebreak = refl

-- jalr x2,6(x1); jal x0,6: a target that is no multiple of 4
jalr_misaligned : outcome 0x00608167 0x100000 0 ≡ record { did = Trapped 0; written = latches.PortA ∷ [] }
unfolding user_step is_allowed_by
jalr_misaligned = refl

jal_misaligned : outcome 0x0060006f 5 0 ≡ record { did = Trapped 0; written = [] }
unfolding user_step is_allowed_by
jal_misaligned = refl

-- sw x1,0(x2)
store_to_data : outcome 0x00112023 5 0x108000 ≡ record { did = Ran; written = latches.PortA ∷ latches.PortB ∷ latches.Res ∷ latches.Store ∷ latches.Mem 0x108000 ∷ [] }
unfolding user_step is_allowed_by
store_to_data = refl

stored_cell : hart_cell (hart_after first (user_step (with_registers 0x00112023 5 0x108000))) (DataWord 0) ≡ record { value = 5; tag = Of 3 1 (latches.Mem 0x108000) }
unfolding user_step is_allowed_by
stored_cell = refl

store_past_data : outcome 0x00112023 5 0x108004 ≡ record { did = Trapped 7; written = latches.PortA ∷ latches.PortB ∷ latches.Res ∷ [] }
unfolding user_step is_allowed_by
store_past_data = refl

store_to_code : (outcome 0x00112023 5 0x100000).did ≡ Trapped 7
unfolding user_step is_allowed_by
store_to_code = refl

store_to_slot : (outcome 0x00112023 5 0x340).did ≡ Trapped 7
unfolding user_step is_allowed_by
store_to_slot = refl

-- misalignment comes before the access
store_misaligned : (outcome 0x00112023 5 0x108006).did ≡ Trapped 6
unfolding user_step is_allowed_by
store_misaligned = refl

-- sh x1,2(x2)
half_store : hart_cell (hart_after first (user_step (with_registers 0x00111123 0x12345678 0x108000))) (DataWord 0) ≡ record { value = 0x56780000; tag = Of 3 1 (latches.Mem 0x108000) }
unfolding user_step is_allowed_by
half_store = refl

-- lw x3,0(x2)
load_of_code : hart_cell (hart_after first (user_step (with_registers 0x00012183 5 0x100000))) (Reg 3) ≡ record { value = 0x00012183; tag = Of 3 1 (latches.Reg 3) }
unfolding user_step is_allowed_by
load_of_code = refl

load_past_data : outcome 0x00012183 5 0x108004 ≡ record { did = Trapped 5; written = latches.PortA ∷ latches.Res ∷ [] }
unfolding user_step is_allowed_by
load_past_data = refl

load_of_port : (outcome 0x00012183 5 0x700).did ≡ Trapped 5
unfolding user_step is_allowed_by
load_of_port = refl

load_misaligned : (outcome 0x00012183 5 0x108002).did ≡ Trapped 4
unfolding user_step is_allowed_by
load_misaligned = refl

-- lb x3,1(x2): byte 1 of the code word 0x00110183
byte_of_code : hart_cell (hart_after first (user_step (with_registers 0x00110183 5 0x100000))) (Reg 3) ≡ record { value = 1; tag = Of 3 1 (latches.Reg 3) }
unfolding user_step is_allowed_by
byte_of_code = refl

-- where the protection allows no load, there is none
load_unprotected : did_of (user_step (record (with_registers 0x00012183 5 0x108000) { csrs = record (user_csrs (0x00012183 ∷ [])) { pmp = record { cfg = 0x00000d00; addrs = 0x40000 ∷ 0x40001 ∷ 0x42000 ∷ 0x42001 ∷ [] } } })) ≡ Trapped 5
unfolding user_step is_allowed_by
load_unprotected = refl

-- nothing is held: there is no word to fetch
nothing_held : did_of (user_step (record first { held = None })) ≡ Trapped 1
unfolding user_step
nothing_held = refl
