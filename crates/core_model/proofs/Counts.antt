-- In how many places a task or a slot is, before and after the actions of a board.
use Rattle.std.proofs.Common.{◌≡◌, ℕ, ◌+◌, ◌≤◌, Bool, Option, Some, None, List, [], ◌∷◌, ◌++◌, filter, refl, ap, ◌∙◌, arith, ◌==◌}
use Rattle.std.specs.List.{count_by}
use Rattle.isa_model.specs.declared.ends.End.{End}
use Rattle.hart_model.specs.declared.tag.Cell.{Cell}
use Rattle.hart_model.specs.Context.{BodyState, ContextState, DoneState, admit_of, done_of}
use Rattle.core_model.specs.Board.{BoardState, OutEntry, Front, all_ready, front_of, out_entry, out_without, with_action, take_from, give_ready_of, give_done_of, with_next_admitted}
use Rattle.core_model.specs.Soundness.{home_count, slot_count}
use Rattle.core_model.proofs.Lists.{bit, count-cons, count-push, count-split}
use Rattle.core_model.proofs.ReadyLists.{front-is, count-ready}

-- the tests that the counts are by
abbrev pub waits_as : ℕ → BodyState → Bool
waits_as t body = body.task_no == t

abbrev pub ready_as : ℕ → ContextState → Bool
ready_as t c = c.body.task_no == t

abbrev pub out_as : ℕ → OutEntry → Bool
out_as t o = o.task_no == t

abbrev pub ended_as : ℕ → DoneState → Bool
ended_as t d = d.task_no == t

abbrev pub ready_in : ℕ → ContextState → Bool
ready_in s c = c.slot == s

abbrev pub out_in : ℕ → OutEntry → Bool
out_in s o = o.slot == s

-- what is out on a hart
abbrev pub on_hart : ℕ → OutEntry → Bool
on_hart hart o = o.hart == hart

-- a take moves a task and its slot
pub homes-take : (t hart : ℕ) (b : BoardState) (front : Option Front) → front_of b.ready.first b.ready.second ≡ front
    → home_count (take_from b hart front).board t ≡ home_count b t
homes-take t hart b None e = refl
homes-take t hart b (Some f) e =
    let out = count-push (out_as t) b.out (out_entry hart f.context) in
    let one = count-cons (ready_as t) f.context (all_ready f.left) in
    let ready = ap (count_by (ready_as t)) (front-is b.ready.first b.ready.second f e) in
    omega arith

pub slots-take : (s hart : ℕ) (b : BoardState) (front : Option Front) → front_of b.ready.first b.ready.second ≡ front
    → slot_count (take_from b hart front).board s ≡ slot_count b s
slots-take s hart b None e = refl
slots-take s hart b (Some f) e =
    let out = count-push (out_in s) b.out (out_entry hart f.context) in
    let one = count-cons (ready_in s) f.context (all_ready f.left) in
    let ready = ap (count_by (ready_in s)) (front-is b.ready.first b.ready.second f e) in
    omega arith

-- a give of what is out moves it back
pub homes-give_ready : (t hart : ℕ) (b : BoardState) (c : ContextState) → filter (on_hart hart) b.out ≡ out_entry hart c ∷ []
    → home_count (give_ready_of b hart c) t ≡ home_count b t
homes-give_ready t hart b c e =
    let ready = count-ready (ready_as t) b.bands b.ready c in
    let split = count-split (out_as t) (on_hart hart) b.out in
    let one = count-cons (out_as t) (out_entry hart c) [] in
    let mine = ap (count_by (out_as t)) e in
    omega arith

pub slots-give_ready : (s hart : ℕ) (b : BoardState) (c : ContextState) → filter (on_hart hart) b.out ≡ out_entry hart c ∷ []
    → slot_count (give_ready_of b hart c) s ≡ slot_count b s
slots-give_ready s hart b c e =
    let ready = count-ready (ready_in s) b.bands b.ready c in
    let split = count-split (out_in s) (on_hart hart) b.out in
    let one = count-cons (out_in s) (out_entry hart c) [] in
    let mine = ap (count_by (out_in s)) e in
    omega arith

-- the next waiting task, if there is one, goes into the slot that is free
homes-next : (t slot : ℕ) (words : List Cell) (b : BoardState) (waiting : List BodyState) → b.waiting ≡ waiting
    → home_count (with_next_admitted b slot words waiting) t ≡ home_count b t
homes-next t slot words b [] e = refl
homes-next t slot words b (next ∷ rest) e =
    let ready = count-ready (ready_as t) b.bands b.ready (admit_of next slot words) in
    let one = count-cons (waits_as t) next rest in
    let waits = ap (count_by (waits_as t)) e in
    omega arith

slots-next : (s slot : ℕ) (words : List Cell) (b : BoardState) (waiting : List BodyState)
    → slot_count (with_next_admitted b slot words waiting) s ≤ slot_count b s + bit (slot == s)
slots-next s slot words b [] = omega arith
slots-next s slot words b (next ∷ rest) =
    let ready = count-ready (ready_in s) b.bands b.ready (admit_of next slot words) in
    omega arith

-- the board after a give of an ended task, but for the next one
abbrev pub with_ended : BoardState → ℕ → ContextState → End → BoardState
with_ended b hart c end = record (with_action b hart) { out = out_without hart b.out; ended = b.ended ++ done_of c end ∷ [] }

pub homes-give_done : (t hart : ℕ) (b : BoardState) (c : ContextState) (end : End) → filter (on_hart hart) b.out ≡ out_entry hart c ∷ []
    → home_count (give_done_of b hart c end) t ≡ home_count b t
homes-give_done t hart b c end e =
    let ended = count-push (ended_as t) b.ended (done_of c end) in
    let split = count-split (out_as t) (on_hart hart) b.out in
    let one = count-cons (out_as t) (out_entry hart c) [] in
    let mine = ap (count_by (out_as t)) e in
    homes-next t c.slot c.words (with_ended b hart c end) b.waiting refl ∙ omega arith

pub slots-give_done : (s hart : ℕ) (b : BoardState) (c : ContextState) (end : End) → filter (on_hart hart) b.out ≡ out_entry hart c ∷ []
    → slot_count (give_done_of b hart c end) s ≤ slot_count b s
slots-give_done s hart b c end e =
    let split = count-split (out_in s) (on_hart hart) b.out in
    let one = count-cons (out_in s) (out_entry hart c) [] in
    let mine = ap (count_by (out_in s)) e in
    let next = slots-next s c.slot c.words (with_ended b hart c end) b.waiting in
    omega arith
