-- A hart, the board and the kernel's words together: one task from boot to the empty take. The numbers are those of a worked example.
use Rattle.std.proofs.Common.{◌≡◌, refl, ℕ, zero, suc, List, [], ◌∷◌, ◌++◌, length, map, ◌==◌, if◌then◌else◌}
use Rattle.std.specs.Prelude.{count_by}
use Rattle.isa_model.specs.declared.task.Task.{Task}
use Rattle.isa_model.specs.declared.ends.End.{End}
use Rattle.isa_model.specs.declared.ends.End.TheVariants.{Exited, Faulted, BadCall, TapeEnd, OutOfSteps}
use Rattle.hart_model.specs.declared.probe.Probe.{Probe}
use Rattle.hart_model.specs.declared.probe.Why.{Why}
use Rattle.hart_model.specs.declared.probe.Why.TheVariants.{Public, Value, Step, Unexplained}
use Rattle.hart_model.specs.Csrs.{csr_cell, with_csr}
use Rattle.hart_model.specs.Pmp.{is_allowed_by}
use Rattle.hart_model.specs.Probes.{kind_of_latch}
use Rattle.hart_model.specs.Context.{DoneState, fresh_body}
use Rattle.hart_model.specs.HartState.{HartState, boot_hart}
use Rattle.hart_model.specs.UserStep.{user_step}
use Rattle.hart_model.specs.MachineStep.{machine_step}
use Rattle.core_model.specs.Board.{BoardState, boot_board}
use Rattle.core_model.specs.BoardStep.{BoardStep, board_step_of}
use Rattle.core_model.specs.KernelWords.{kernel_words}

-- one hart and the board, with the entries so far
record Run : Type 0 where
  hart : HartState
  board : BoardState
  log : List Probe

-- the run with what a step leaves
abbrev with_step : Run → BoardStep → Run
with_step r s = record { hart = s.hart; board = s.board; log = r.log ++ s.probes }

-- steps until there are so many actions, and at most so many steps
run_to : ℕ → ℕ → Run → Run
unfolding user_step machine_step
run_to actions zero r = r
run_to actions (suc n) r =
    if length r.board.order == actions then r
    else run_to actions n (with_step r (board_step_of kernel_words r.board 0 r.hart))

-- one slot and one task of fuel 5
abbrev at_boot : Task → Run
at_boot task = record { hart = boot_hart 0 0x1324; board = boot_board 1 (fresh_body 0 task ∷ []) (0 ∷ []); log = [] }

-- a task of these words, with this many data words, this tape and an output of at most 4 words
abbrev task_of_words : List ℕ → ℕ → List ℕ → Task
task_of_words words data_len tape = record {
  code_at = 0x100000;
  data_at = 0x108000;
  code = words;
  data_len = data_len;
  fuel = 5;
  out_max = 4;
  tape = tape;
}

-- addi x10,x0,42; addi x17,x0,1; ecall; addi x17,x0,0; ecall: two takes with a give each, and the empty take
abbrev forty_two : Run
forty_two = run_to 5 600 (at_boot (task_of_words (0x02a00513 ∷ 0x00100893 ∷ 0x00000073 ∷ 0x00000893 ∷ 0x00000073 ∷ []) 0 []))

how_it_ends : forty_two.board.ended ≡ record { task_no = 0; count = 5; output = 42 ∷ []; end = Exited 42 } ∷ []
unfolding run_to user_step machine_step is_allowed_by csr_cell with_csr
how_it_ends = refl

how_many_entries : length forty_two.log ≡ 1679
unfolding run_to user_step machine_step is_allowed_by csr_cell with_csr
how_many_entries = refl

-- by why: public, value, step, unexplained
why_number : Why → ℕ
why_number Public = 0
why_number (Value task step latch side) = 1
why_number (Step task step latch) = 2
why_number Unexplained = 3

abbrev count_whys : List Probe → List ℕ
count_whys log = map (λ n. count_by (λ (p : Probe). why_number p.why == n) log) (0 ∷ 1 ∷ 2 ∷ 3 ∷ [])

entries_by_why : count_whys forty_two.log ≡ 1602 ∷ 74 ∷ 3 ∷ 0 ∷ []
unfolding run_to user_step machine_step is_allowed_by csr_cell with_csr why_number
entries_by_why = refl

-- by kind of latch: registers, PortA, PortB, Res and Mul, Load, Store, Scr, memory
abbrev count_latches : List Probe → List ℕ
count_latches log = map (λ n. count_by (λ (p : Probe). kind_of_latch p.latch == n) log) (0 ∷ 1 ∷ 2 ∷ 3 ∷ 4 ∷ 5 ∷ 6 ∷ 7 ∷ [])

entries_by_latch : count_latches forty_two.log ≡ 165 ∷ 428 ∷ 181 ∷ 411 ∷ 150 ∷ 171 ∷ 6 ∷ 167 ∷ []
unfolding run_to user_step machine_step is_allowed_by csr_cell with_csr
entries_by_latch = refl

-- The ends of small tasks, each after a take and a give: how a task ended, and its count.
record Outcome : Type 0 where
  end : End
  count : ℕ

abbrev outcomes : List DoneState → List Outcome
outcomes [] = []
outcomes (d ∷ ds) = record { end = d.end; count = d.count } ∷ outcomes ds

abbrev outcomes_of : List ℕ → ℕ → List ℕ → List Outcome
outcomes_of words data_len tape = outcomes (run_to 2 500 (at_boot (task_of_words words data_len tape))).board.ended

-- lui x1,264; sw x0,0(x1); sw x0,4(x1), with one data word
store_past_data : outcomes_of (0x001080b7 ∷ 0x0000a023 ∷ 0x0000a223 ∷ []) 1 [] ≡ record { end = Faulted 7 0x100008; count = 3 } ∷ []
unfolding run_to user_step machine_step is_allowed_by csr_cell with_csr
store_past_data = refl

-- lui x1,264; lw x0,2(x1)
load_misaligned : outcomes_of (0x001080b7 ∷ 0x0020a003 ∷ []) 1 [] ≡ record { end = Faulted 4 0x100004; count = 2 } ∷ []
unfolding run_to user_step machine_step is_allowed_by csr_cell with_csr
load_misaligned = refl

-- addi x17,x0,9; ecall
bad_call : outcomes_of (0x00900893 ∷ 0x00000073 ∷ []) 0 [] ≡ record { end = BadCall 9; count = 2 } ∷ []
unfolding run_to user_step machine_step is_allowed_by csr_cell with_csr
bad_call = refl

-- addi x17,x0,2; ecall, without a tape
tape_end : outcomes_of (0x00200893 ∷ 0x00000073 ∷ []) 0 [] ≡ record { end = TapeEnd; count = 2 } ∷ []
unfolding run_to user_step machine_step is_allowed_by csr_cell with_csr
tape_end = refl

-- lui x1,256; jalr x2,6(x1); then with offset 9, which jumps past the code
jump_misaligned : outcomes_of (0x001000b7 ∷ 0x00608167 ∷ []) 0 [] ≡ record { end = Faulted 0 0x100004; count = 2 } ∷ []
unfolding run_to user_step machine_step is_allowed_by csr_cell with_csr
jump_misaligned = refl

jump_past_code : outcomes_of (0x001000b7 ∷ 0x00908167 ∷ []) 0 [] ≡ record { end = Faulted 1 0x100008; count = 3 } ∷ []
unfolding run_to user_step machine_step is_allowed_by csr_cell with_csr
jump_past_code = refl

-- csrrs x1,mscratch,x0
illegal : outcomes_of (0x340020f3 ∷ []) 0 [] ≡ record { end = Faulted 2 0x100000; count = 1 } ∷ []
unfolding run_to user_step machine_step is_allowed_by csr_cell with_csr
illegal = refl

-- jal x0,0
out_of_steps : outcomes_of (0x0000006f ∷ []) 0 [] ≡ record { end = OutOfSteps; count = 5 } ∷ []
unfolding run_to user_step machine_step is_allowed_by csr_cell with_csr
out_of_steps = refl

-- addi x17,x0,2; ecall; ecall, with a tape of one word: its first call gives the context back
tape_used_up : outcomes (run_to 4 900 (at_boot (task_of_words (0x00200893 ∷ 0x00000073 ∷ 0x00000073 ∷ []) 0 (11 ∷ [])))).board.ended ≡ record { end = TapeEnd; count = 3 } ∷ []
unfolding run_to user_step machine_step is_allowed_by csr_cell with_csr
tape_used_up = refl
