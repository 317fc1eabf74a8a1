-- A step that says that it wants a queue action comes to one, and changes nothing; so does a wedged one.
use Rattle.std.proofs.Common.{◌≡◌, ℕ, List, Option, Some, None, refl, sym, ap, ◌∙◌, subst}
use Rattle.isa_model.specs.declared.instr.Instr.{Instr}
use Rattle.isa_model.specs.InstrTable.{instr_of}
use Rattle.isa_model.specs.Effect.{Effect, Next, Goes, Raises, Calls, Returns}
use Rattle.hart_model.specs.declared.calls.Did.{Did}
use Rattle.hart_model.specs.declared.calls.Did.TheVariants as dids
use Rattle.hart_model.specs.declared.calls.QueueCall.{QueueCall}
use Rattle.hart_model.specs.declared.calls.QueueCall.TheVariants.{Take, GiveReady, GiveDone}
use Rattle.hart_model.specs.declared.tag.Mode.{Mode}
use Rattle.hart_model.specs.declared.tag.Mode.TheVariants.{User, Machine}
use Rattle.hart_model.specs.Csrs.{CsrFile}
use Rattle.hart_model.specs.Traps.{interrupt_of}
use Rattle.hart_model.specs.Context.{ContextState}
use Rattle.hart_model.specs.Ports.{SideEffect}
use Rattle.hart_model.specs.HartState.{HartState}
use Rattle.hart_model.specs.Writes.{CellWrite, HartAndProbes, after_writes}
use Rattle.hart_model.specs.StepResult.{StepResult, Steps, Wants, Wedged, did_of, hart_after}
use Rattle.hart_model.specs.UserStep.{user_writes, user_effect, with_next_count, after_user_writes, user_instr_step, by_interrupt, is_fuel_used, user_step}
use Rattle.hart_model.specs.MachineStep.{OperandCells, Reach, Finds, NeedsQueue, Refused, operand_cells, machine_effect, csrs_after_effect, by_csrs, by_next, reach_of, by_reach, kernel_word_at, by_instr, by_word, machine_step}
use Rattle.hart_model.specs.HartStep.{step_by_mode, hart_step}
use Rattle.hart_state.specs.Asked.{AsksFor}

-- a step that goes on says that it ran or trapped
abbrev SaysWhatItDid : StepResult → Type 0
SaysWhatItDid (Steps hart probes (dids.Wants call)) = ⊥
SaysWhatItDid (Steps hart probes dids.Ran) = Unit {0}
SaysWhatItDid (Steps hart probes (dids.Trapped cause)) = Unit {0}
SaysWhatItDid (Steps hart probes dids.Wedged) = ⊥
SaysWhatItDid (Wants call early_writes rd next) = Unit {0}
SaysWhatItDid Wedged = Unit {0}

-- ---- machine mode

says_by_csrs : (h : HartState) (o : OperandCells) (side : SideEffect) (e : Effect) (pc : ℕ) (csrs : Option CsrFile) → SaysWhatItDid (by_csrs h o side e pc csrs)
says_by_csrs h o side e pc None = tt
says_by_csrs h o side e pc (Some csrs) = tt

says_by_next : (h : HartState) (o : OperandCells) (side : SideEffect) (e : Effect) (next : Next) → SaysWhatItDid (by_next h o side e next)
says_by_next h o side e (Goes pc) = says_by_csrs h o side e pc (csrs_after_effect h.csrs o e.csr)
says_by_next h o side e (Raises cause) = tt
says_by_next h o side e Calls = tt
says_by_next h o side e Returns = tt

says_by_reach : (h : HartState) (instr : Instr) (reach : Reach) → SaysWhatItDid (by_reach h instr reach)
says_by_reach h instr (Finds word old_csr side) =
    let o = operand_cells h instr word old_csr in says_by_next h o side (machine_effect h instr o) (machine_effect h instr o).next
says_by_reach h instr (NeedsQueue call word) = tt
says_by_reach h instr Refused = tt

says_by_instr : (h : HartState) (instr : Option Instr) → SaysWhatItDid (by_instr h instr)
says_by_instr h None = tt
says_by_instr h (Some instr) = says_by_reach h instr (reach_of h instr)

says_by_word : (h : HartState) (word : Option ℕ) → SaysWhatItDid (by_word h word)
says_by_word h None = tt
says_by_word h (Some word) = says_by_instr h (instr_of word)

says_machine : (code : List ℕ) (h : HartState) → SaysWhatItDid (machine_step code h)
unfolding machine_step
says_machine code h = says_by_word h (kernel_word_at code h.pc)

-- ---- user mode

says_user_writes : (a : HartAndProbes) (next : Next) → SaysWhatItDid (after_user_writes a next)
says_user_writes a (Goes pc) = tt
says_user_writes a (Raises cause) = tt
says_user_writes a Calls = tt
says_user_writes a Returns = tt

says_user_instr : (h : HartState) (held : Option ContextState) → SaysWhatItDid (user_instr_step h held)
says_user_instr h None = tt
says_user_instr h (Some c) =
    let e = user_effect h c.body in
    let a = after_writes (user_writes h c.body e) h in
    says_user_writes (record { hart = with_next_count a.hart; probes = a.probes }) e.next

says_by_interrupt : (h : HartState) (cause : Option ℕ) → SaysWhatItDid (by_interrupt h cause)
says_by_interrupt h (Some cause) = tt
says_by_interrupt h None = says_user_instr h h.held

says_user : (h : HartState) → SaysWhatItDid (user_step h)
unfolding user_step
says_user h = says_by_interrupt h (interrupt_of h.csrs (is_fuel_used h.held))

-- ---- both

-- what was wanted, or else this
abbrev wanted_or : Did → QueueCall → QueueCall
wanted_or (dids.Wants call) other = call
wanted_or did other = other

same_call : (a b : QueueCall) → dids.Wants a ≡ dids.Wants b → a ≡ b
same_call a b is = ap (λ did. wanted_or did b) is

asks_itself : (call : QueueCall) (early_writes : List CellWrite) (rd next : ℕ) → AsksFor call (Wants call early_writes rd next)
asks_itself Take early_writes rd next = tt
asks_itself GiveReady early_writes rd next = tt
asks_itself GiveDone early_writes rd next = tt

asks_by : (call : QueueCall) (s : StepResult) → SaysWhatItDid s → did_of s ≡ dids.Wants call → AsksFor call s
asks_by call (Steps hart probes (dids.Wants other)) says is = absurd says
asks_by call (Steps hart probes dids.Ran) says is = absurd cc
asks_by call (Steps hart probes (dids.Trapped cause)) says is = absurd cc
asks_by call (Steps hart probes dids.Wedged) says is = absurd says
asks_by call (Wants other early_writes rd next) says is =
    subst (λ c. AsksFor c (Wants other early_writes rd next)) (same_call other call is) (asks_itself other early_writes rd next)
asks_by call Wedged says is = absurd cc

-- the did of a step that changes nothing
abbrev Changes : Did → Type 0
Changes dids.Ran = Unit {0}
Changes (dids.Trapped cause) = Unit {0}
Changes (dids.Wants call) = ⊥
Changes dids.Wedged = ⊥

kept_by : (h : HartState) (s : StepResult) → SaysWhatItDid s → (Changes (did_of s) → ⊥) → hart_after h s ≡ h
kept_by h (Steps hart probes (dids.Wants other)) says kept = absurd says
kept_by h (Steps hart probes dids.Ran) says kept = absurd (kept tt)
kept_by h (Steps hart probes (dids.Trapped cause)) says kept = absurd (kept tt)
kept_by h (Steps hart probes dids.Wedged) says kept = absurd says
kept_by h (Wants other early_writes rd next) says kept = refl
kept_by h Wedged says kept = refl

says_step : (code : List ℕ) (h : HartState) (mode : Mode) → SaysWhatItDid (step_by_mode code h mode)
says_step code h User = says_user h
says_step code h Machine = says_machine code h

-- A step that says that it wants this queue action comes to it.
pub wants_asks : (code : List ℕ) (h : HartState) (call : QueueCall) (did : Did)
    → did ≡ did_of (hart_step code h) → did ≡ dids.Wants call → AsksFor call (hart_step code h)
wants_asks code h call did is wants = asks_by call (hart_step code h) (says_step code h h.csrs.mode) (sym is ∙ wants)

-- It changes nothing.
pub wants_keeps : (code : List ℕ) (h : HartState) (call : QueueCall) (did : Did)
    → did ≡ did_of (hart_step code h) → did ≡ dids.Wants call → hart_after h (hart_step code h) ≡ h
wants_keeps code h call did is wants =
    kept_by h (hart_step code h) (says_step code h h.csrs.mode) (subst (λ d. Changes d → ⊥) (sym (sym is ∙ wants)) (λ x. x))

-- A wedged hart changes nothing.
pub wedged_keeps : (code : List ℕ) (h : HartState) (did : Did)
    → did ≡ did_of (hart_step code h) → did ≡ dids.Wedged → hart_after h (hart_step code h) ≡ h
wedged_keeps code h did is wedged =
    kept_by h (hart_step code h) (says_step code h h.csrs.mode) (subst (λ d. Changes d → ⊥) (sym (sym is ∙ wedged)) (λ x. x))
