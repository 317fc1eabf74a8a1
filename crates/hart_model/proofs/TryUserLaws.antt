-- The premise of the law about user steps is met: a hart that holds a task at its start stands where the run alone starts.
use Rattle.std.proofs.Common.{◌≡◌, ℕ, zero, suc, inl, ap, List, [], ◌∷◌, get_or, replicate, refl, arith}
use Rattle.isa_model.specs.TaskPlaces.{IsValidTask}
use Rattle.isa_model.specs.Alone.{start_of}
use Rattle.hart_model.specs.declared.tag.Cell.{Cell}
use Rattle.hart_model.specs.Cells.{blank}
use Rattle.hart_model.specs.UserLaws.{IsAtRunAlone, IsInstrAlone}
use Rattle.hart_model.proofs.UserWrites.{ListsHave, reg_value, data_index}
use Rattle.hart_model.proofs.UserStepIsAlone.{latch_values, user_step_is_alone}
use Rattle.hart_model.proofs.SmallTask.{small_task, small_context, user_hart}

-- addi x10,x0,42
abbrev words : List ℕ
words = 0x02a00513 ∷ []

valid : IsValidTask (small_task words)
valid = record {
  code_aligned = refl;
  data_aligned = refl;
  code_above = omega arith;
  data_above = omega arith;
  code_end = omega arith;
  data_end = omega arith;
  apart = inl (omega arith);
  code_limit = omega arith;
  data_limit = omega arith;
  fuel_least = omega arith;
  fuel_limit = omega arith;
  out_limit = omega arith;
  tape_limit = omega arith;
}

blank_at : (n i : ℕ) → get_or (replicate n blank) i blank ≡ blank
blank_at zero i = refl
blank_at (suc n) zero = refl
blank_at (suc n) (suc i) = blank_at n i

register_is_0 : (n r : ℕ) → reg_value (replicate n blank) r ≡ 0
register_is_0 n zero = refl
register_is_0 n (suc r) = ap (λ (c : Cell). c.value) (blank_at n (suc r))

lists : ListsHave (small_task words) (user_hart words).regs (small_context words).body.data_words (λ l. 0)
lists = record {
  in_regs = λ r low. register_is_0 32 r;
  in_words = λ at inside. ap (λ (c : Cell). c.value) (blank_at 1 (data_index (small_task words) at));
  how_many_regs = refl;
  how_many_words = refl;
}

starts : IsAtRunAlone (small_task words) (start_of (small_task words)) (user_hart words) (small_context words)
starts = record {
  held = refl;
  task = refl;
  slot = omega arith;
  registers = refl;
  mode = refl;
  pmp = refl;
  pc = refl;
  pc_aligned = refl;
  values = latch_values (user_hart words) (small_context words) (small_task words) (λ l. 0) refl refl valid (omega arith) lists;
  output = refl;
  tape_at = refl;
}

-- so its first step is that of the run alone
first_step : IsInstrAlone (small_task words) (start_of (small_task words)) (user_hart words) (small_context words)
first_step = user_step_is_alone (small_task words) valid (start_of (small_task words)) (user_hart words) (small_context words) starts refl
