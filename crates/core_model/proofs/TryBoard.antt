-- Three tasks and one slot: boards and homes, computed.
use Rattle.std.proofs.Common.{◌≡◌, refl, ℕ, [], ◌∷◌, Some, None, set}
use Rattle.isa_model.specs.declared.task.Task.{Task}
use Rattle.isa_model.specs.declared.ends.End.TheVariants.{TapeEnd}
use Rattle.hart_model.specs.Csrs.{public}
use Rattle.hart_model.specs.Context.{BodyState, ContextState, fresh_body, fresh_words, admit_of, slot_word}
use Rattle.core_model.specs.declared.home.Home.TheVariants.{Waiting, Slot, Hart, Ended}
use Rattle.core_model.specs.Board.{BoardState, boot_board, take_of, give_ready_of, give_done_of}
use Rattle.core_model.specs.Homes.{home_of}

-- task t, whose code is one ECALL at a place of its own
abbrev task : ℕ → Task
task code_at = record { code_at = code_at; data_at = 0x108000; code = 0x00000073 ∷ []; data_len = 0; fuel = 5; out_max = 0; tape = [] }

abbrev body_0 : BodyState
body_0 = fresh_body 0 (task 0x100000)

abbrev body_1 : BodyState
body_1 = fresh_body 1 (task 0x110000)

abbrev body_2 : BodyState
body_2 = fresh_body 2 (task 0x120000)

abbrev context_0 : ContextState
context_0 = admit_of body_0 0 fresh_words

abbrev at_boot : BoardState
at_boot = boot_board 1 (body_0 ∷ body_1 ∷ body_2 ∷ []) (0 ∷ 1 ∷ 0 ∷ [])

ready_at_boot : at_boot.ready ≡ record { first = context_0 ∷ []; second = [] }
ready_at_boot = refl

waiting_at_boot : at_boot.waiting ≡ body_1 ∷ body_2 ∷ []
waiting_at_boot = refl

homes_at_boot : (home_of at_boot 0 ≡ Some (Slot 0)) × (home_of at_boot 1 ≡ Some Waiting) × (home_of at_boot 3 ≡ None)
homes_at_boot = (refl, refl, refl)

-- hart 4 takes
abbrev taken : BoardState
taken = (take_of at_boot 4).board

got : (take_of at_boot 4).got ≡ Some context_0
got = refl

home_on_hart : home_of taken 0 ≡ Some (Hart 4 0)
home_on_hart = refl

order_after_take : taken.order ≡ 4 ∷ []
order_after_take = refl

-- then hart 5 takes, and gets nothing; its action stands in the order
nothing_got : (take_of taken 5).got ≡ None
nothing_got = refl

after_empty_take : (take_of taken 5).board ≡ record taken { order = 4 ∷ 5 ∷ [] }
after_empty_take = refl

-- hart 4 gives it back as ready
given_ready : give_ready_of taken 4 context_0 ≡ record at_boot { order = 4 ∷ 4 ∷ [] }
given_ready = refl

-- or as done, with something left in slot word 35: task 1 gets the slot
abbrev ended_context : ContextState
ended_context = record context_0 { words = set context_0.words 35 (public 9) }

abbrev given_done : BoardState
given_done = give_done_of taken 4 ended_context TapeEnd

homes_after_done : (home_of given_done 0 ≡ Some Ended) × (home_of given_done 1 ≡ Some (Slot 0)) × (home_of given_done 2 ≡ Some Waiting)
homes_after_done = (refl, refl, refl)

done : given_done.ended ≡ record { task_no = 0; count = 0; output = []; end = TapeEnd } ∷ []
done = refl

nothing_out : given_done.out ≡ []
nothing_out = refl

-- its pc and its bounds are set
next_context : given_done.ready ≡ record { first = []; second = admit_of body_1 0 fresh_words ∷ [] }
next_context = refl

pc_of_next : slot_word (admit_of body_1 0 fresh_words) 0 ≡ public 0x110000
pc_of_next = refl

-- with two slots, task 1 of band 1 is taken after task 2, which is of band 0 and got its slot later
abbrev context_1 : ContextState
context_1 = admit_of body_1 1 fresh_words

abbrev two_slots : BoardState
two_slots = boot_board 2 (body_0 ∷ body_1 ∷ body_2 ∷ []) (0 ∷ 1 ∷ 0 ∷ [])

both_bands : two_slots.ready ≡ record { first = context_0 ∷ []; second = context_1 ∷ [] }
both_bands = refl

before_band_1 : (take_of (give_done_of (take_of two_slots 4).board 4 ended_context TapeEnd) 5).got ≡ Some (admit_of body_2 0 fresh_words)
before_band_1 = refl

after_band_0 : (take_of (take_of two_slots 4).board 5).got ≡ Some context_1
after_band_0 = refl
