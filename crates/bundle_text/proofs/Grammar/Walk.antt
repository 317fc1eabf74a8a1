-- Line by line: what a line adds to the sections of the lines after it.
use Rattle.std.proofs.Common.{◌≡◌, ℕ, suc, ◌+◌, inr, Bool, true, List, [], ◌∷◌, ◌++◌, length, codes, Option, Some, None, Result, Ok, Err, refl, sym, ap, ◌∙◌, subst, arith, append_assoc, length-append}
use Rattle.std.proofs.lemmas.Bool.{false≢true}
use Rattle.core_model.specs.declared.world.World.{World}
use Rattle.bundle_text.specs.Numbers.{number_in, word_of}
use Rattle.bundle_text.specs.Operands.{◌>>=◌, each, no_operands, task_operands, plan_operands, has_plan, is_as_long, world_operands}
use Rattle.bundle_text.specs.Runs.{event_operand, order_operand}
use Rattle.bundle_text.specs.Places.{in_order, in_events, in_worlds, in_tasks, in_plans, in_code_end, in_words, in_tape}
use Rattle.bundle_text.specs.Lines.{task_with, with_plan, with_operands, with_line, at_line, with_lines}
use Rattle.bundle_text.specs.Range.{ArePlansApart, AreWorldsAsLong}
use Rattle.bundle_text.specs.Form.{IsHexWord}
use Rattle.bundle_text.specs.Grammar.{IsOrderRun, IsEventRun, IsPlan, IsTaskHead, IsWorld, IsLine, SaysOne, SaysEach, IsTaskBlock, AreTaskBlocks}
use Rattle.bundle_text.specs.declared.bundle.Bundle.{Bundle}
use Rattle.bundle_text.specs.declared.bundle.TaskText.{TaskText}
use Rattle.bundle_text.specs.declared.bundle.PlanText.{PlanText}
use Rattle.bundle_text.specs.declared.bundle.Code.{Code}
use Rattle.bundle_text.specs.declared.bundle.Code.TheVariants.{Words, Text}
use Rattle.bundle_text.specs.declared.bundle.BundleKind.{BundleKind}
use Rattle.bundle_text.specs.declared.bundle.BundleKind.TheVariants as kind
use Rattle.bundle_text.specs.declared.bundle.BundleFault.{BundleFault}
use Rattle.bundle_text.specs.declared.draft.Draft.{Draft}
use Rattle.bundle_text.specs.declared.draft.Word.{Word}
use Rattle.bundle_text.specs.declared.draft.Word.TheVariants as word
use Rattle.bundle_text.specs.declared.draft.Place.{Place}
use Rattle.bundle_text.specs.declared.draft.Place.TheVariants as at
use Rattle.bundle_text.proofs.Steps.{same_ok, err_ok, then_ok, if_ok, else_ok, each_all}
use Rattle.bundle_text.proofs.DraftRanges.{plans_apart, worlds_as_long}
use Rattle.bundle_text.proofs.RoundTrip.Drafts.{so_far}
use Rattle.bundle_text.proofs.RoundTrip.Tasks.{with_tasks}
use Rattle.bundle_text.proofs.RoundTrip.Later.{with_worlds, with_events, with_order}
use Rattle.bundle_text.proofs.Grammar.Operands.{words_are, events_are, order_runs_are, plan_is, task_of, head_is, world_is}
use Rattle.bundle_text.proofs.Grammar.Lines.{name_of}
use Rattle.bundle_text.proofs.Grammar.Front.{front_line}
use Rattle.bundle_text.proofs.Grammar.Found.{more_plans, task_so_far, OrderLeft, EventsLeft, WorldsLeft, TasksLeft, AfterTask, PlansLeft, EndLeft, CodeLeft, WordsLeft, BodyLeft, TapeLeft, Left, IsKept, events_none, worlds_none, tasks_none, plans_none, words_none, tape_none, body_of_words}

-- What is left is found after every draft of which these lines make the whole bundle.
abbrev pub Found : Bool → Bundle → List (List ℕ) → Type 0
Found banded out lines =
    (place : Place) (number : ℕ) (b : Bundle) (t : TaskText) (tape : List ℕ) (code : Code)
    → with_lines number (so_far banded place b t tape code) lines ≡ Ok out → IsKept b → Left banded out place number b t tape code lines

-- ---- the first of some lines

at_line_ok : {A : Type 0} (number : ℕ) (r : Result A BundleKind) (x : A) → at_line number r ≡ Ok x → r ≡ Ok x
at_line_ok number (Ok y) x e = ap (λ z. Ok z) (same_ok y x e)
at_line_ok {A} number (Err k) x e =
    let fault : BundleFault = record { line = number; kind = k } in absurd (err_ok x fault e)

pub first_line : (number : ℕ) (d : Draft) (line : List ℕ) (others : List (List ℕ)) (out : Bundle) → with_lines number d (line ∷ others) ≡ Ok out
    → (next : Draft) × (with_line number d line ≡ Ok next) × (with_lines (number + 1) next others ≡ Ok out)
first_line number d line others out e =
    let p = then_ok (at_line number (with_line number d line)) (λ next. with_lines (number + 1) next others) out e in
    (p.0, at_line_ok number (with_line number d line) p.0 p.1, p.2)

pub no_place : (p : Place) → ◌≡◌ {A = Option Place} None (Some p) → ⊥
no_place p e = cc

no_tokens : (ts : List (List ℕ)) → no_operands ts ≡ true → ts ≡ []
no_tokens [] e = refl
no_tokens (t ∷ ts) e = absurd (false≢true e)

pub world_length : (secret : List ℕ) (tape : List (List ℕ)) (w : World) → world_operands [] (secret ∷ tape) ≡ Ok w → length w.tape ≡ length tape
world_length secret tape w e =
    let s = then_ok (number_in 0 0xffffffff secret) (λ s. each word_of tape >>= λ t. Ok (record { secret = s; tape = t })) w e in
    let t = then_ok (each word_of tape) (λ t. Ok (record { secret = s.0; tape = t })) w s.2 in
    let found : World = record { secret = s.0; tape = t.0 } in
    let same : found ≡ w = same_ok found w t.2 in
    ap (λ (x : World). length x.tape) (sym same) ∙ (each_all (λ (n : ℕ). Unit {0}) word_of (λ x n e. tt) tape t.0 t.1).1

pub world_parts : (worlds : List World) (ts : List (List ℕ)) (w : World) → world_operands worlds ts ≡ Ok w
    → (world_operands [] ts ≡ Ok w) × (is_as_long worlds (length w.tape) ≡ true)
world_parts worlds [] w e = absurd (err_ok w kind.Operands e)
world_parts worlds (secret ∷ tape) w e =
    let p = if_ok (is_as_long worlds (length tape)) (world_operands [] (secret ∷ tape)) kind.Operands w e in
    (p.1, ap (λ n. is_as_long worlds n) (world_length secret tape w p.1) ∙ p.0)

-- ---- a task, of its parts

pub head_of : (banded : Bool) (ts : List (List ℕ)) (t : TaskText) (tape : List ℕ) (code : Code) → IsTaskHead banded ts t
    → IsTaskHead banded ts (task_so_far t tape code)
head_of banded ts t tape code h = record {
  fuel = h.fuel;
  out_max = h.out_max;
  data_len = h.data_len;
  band = h.band;
  parts = h.parts;
  fuel_is = h.fuel_is;
  out_max_is = h.out_max_is;
  data_len_is = h.data_len_is;
  band_is = h.band_is;
}

abbrev block_of : List ℕ → List (List ℕ) → List (List ℕ) → List ℕ → List (List ℕ) → List (List ℕ)
block_of head tape code end_line after = head ∷ (tape ++ (code ++ (end_line ∷ after)))

block_parts : (head end_line : List ℕ) (others tape after_tape code after_code after_end after after_block section rest : List (List ℕ))
    → others ≡ tape ++ after_tape → after_tape ≡ code ++ after_code → after_code ≡ end_line ∷ after_end → after_end ≡ after ++ after_block
    → after_block ≡ section ++ rest → head ∷ others ≡ (block_of head tape code end_line after ++ section) ++ rest
block_parts head end_line others tape after_tape code after_code after_end after after_block section rest a b c d e =
    rw (a, b, c, d, e) (simp append_assoc)

block_length : (number : ℕ) (head end_line : List ℕ) (tape code after : List (List ℕ))
    → number + 1 + length tape + length code + 1 + length after ≡ number + length (block_of head tape code end_line after)
block_length number head end_line tape code after =
    let a = length-append tape (code ++ (end_line ∷ after)) in let b = length-append code (end_line ∷ after) in omega arith

-- a task whose lines these are, before tasks
pub tasks_of_tape : (banded : Bool) (out : Bundle) (number : ℕ) (b : Bundle) (t : TaskText) (head : List ℕ) (ts : List (List ℕ)) (others : List (List ℕ))
    → IsLine (codes "task") head ts → IsTaskHead banded ts t → TapeLeft banded out (number + 1) b t [] others → TasksLeft banded out number b (head ∷ others)
tasks_of_tape banded out number b t head ts others is limits tape =
    let body = tape.later in
    let ended = body.later in
    let done = ended.later in
    let left = done.later in
    let task = task_so_far t tape.items body.code in
    let block = block_of head tape.section body.section ended.end_line done.after in
    let is_block : IsTaskBlock banded number block task = record {
      head = head;
      tape = tape.section;
      code = body.section;
      end_line = ended.end_line;
      after = done.after;
      parts = refl;
      head_tokens = ts;
      head_is = is;
      limits_are = head_of banded ts t tape.items body.code limits;
      tape_is = tape.said;
      code_is = body.code_is;
      end_line_is = ended.end_line_is;
      after_silent = done.silent;
    } in
    record {
      section = block ++ left.section;
      rest = left.rest;
      tasks = task ∷ left.tasks;
      parts = block_parts head ended.end_line others tape.section tape.rest body.section body.rest ended.rest done.after done.rest left.section left.rest
          tape.parts body.parts ended.parts done.parts left.parts;
      blocks = (
        block,
        left.section,
        refl,
        is_block,
        subst (λ n. AreTaskBlocks banded n left.section left.tasks) (block_length number head ended.end_line tape.section body.section done.after) left.blocks,
      );
      later = subst (λ l. WorldsLeft out (record b { tasks = l }) left.rest) (append_assoc b.tasks (task ∷ []) left.tasks) left.later;
    }

code_length : (number : ℕ) (line end_line : List ℕ) (code after : List (List ℕ))
    → number + 1 + length code + 1 + length after ≡ number + length (line ∷ (code ++ (end_line ∷ after)))
code_length number line end_line code after = let a = length-append code (end_line ∷ after) in omega arith

code_parts : (line end_line : List ℕ) (others code after_code after rest : List (List ℕ)) → others ≡ code ++ (end_line ∷ after_code)
    → after_code ≡ after ++ rest → line ∷ others ≡ (line ∷ (code ++ (end_line ∷ after))) ++ rest
code_parts line end_line others code after_code after rest a b = rw (a, b) (simp append_assoc)

-- a code block after its first line
pub body_of_code : (banded : Bool) (out : Bundle) (number : ℕ) (b : Bundle) (t : TaskText) (tape : List ℕ) (line : List ℕ) (others : List (List ℕ))
    → IsLine (codes "code") line [] → CodeLeft banded out (number + 1) b t tape (number + 1) [] others → BodyLeft banded out number b t tape (line ∷ others)
body_of_code banded out number b t tape line others is code =
    let done = code.later in
    let block = line ∷ (code.code ++ (code.end_line ∷ done.after)) in
    record {
      section = block;
      rest = done.rest;
      code = Text (number + 1) code.code;
      parts = code_parts line code.end_line others code.code code.rest done.after done.rest code.parts done.parts;
      code_is = record {
        code_line = line;
        end_line = code.end_line;
        after = done.after;
        parts = refl;
        code_line_is = is;
        code_is = code.code_is;
        end_line_is = code.end_line_is;
        after_silent = done.silent;
        numbered = refl;
      };
      later = subst (λ n. EndLeft banded out n b (task_so_far t tape (Text (number + 1) code.code)) done.rest)
          (code_length number line code.end_line code.code done.after) done.later;
    }

module _ (banded : Bool) (out : Bundle) (line : List ℕ) (others : List (List ℕ)) (more : Found banded out others) where
  follow : (number : ℕ) (found next : Draft) → found ≡ next → with_lines (number + 1) next others ≡ Ok out → with_lines (number + 1) found others ≡ Ok out
  follow number found next same left = ap (λ d. with_lines (number + 1) d others) same ∙ left

  at_place : (w : Word) (number : ℕ) (b : Bundle) (t : TaskText) (tape : List ℕ) (code : Code) (p q : Place) (ts : List (List ℕ)) (next : Draft)
      → ◌≡◌ {A = Option Place} (Some p) (Some q) → with_operands w number (so_far banded q b t tape code) ts ≡ Ok next
      → with_operands w number (so_far banded p b t tape code) ts ≡ Ok next
  at_place w number b t tape code p q ts next placed says =
      let same : q ≡ p = cc in subst (λ x. with_operands w number (so_far banded x b t tape code) ts ≡ Ok next) same says

  -- ---- the order

  order_line : (number : ℕ) (b : Bundle) (t : TaskText) (tape : List ℕ) (code : Code) (ts : List (List ℕ)) (next : Draft) → IsKept b
      → IsLine (codes "order") line ts → with_operands word.Order number (so_far banded at.Order b t tape code) ts ≡ Ok next
      → with_lines (number + 1) next others ≡ Ok out → OrderLeft out b (line ∷ others)
  order_line number b t tape code ts next kept is says left =
      let p = then_ok (each order_operand ts) (λ runs. Ok (so_far banded at.Order (with_order b runs) t tape code)) next says in
      let found = so_far banded at.Order (with_order b p.0) t tape code in
      let rest : OrderLeft out (with_order b p.0) others =
      more at.Order (number + 1) (with_order b p.0) t tape code (follow number found next (same_ok found next p.2) left)
      (record { apart = kept.apart; as_long = kept.as_long }) in
      front_line (SaysEach (codes "order") IsOrderRun) (λ k runs rest. (rest ≡ []) × (out ≡ with_order b runs))
      (λ k runs rest. (rest ≡ []) × (out ≡ with_order (with_order b p.0) runs)) line others p.0 (inr (ts, is, order_runs_are ts p.0 p.1)) rest
      (λ k runs rest h. (h.0, h.1 ∙ ap (λ l. record b { order = l }) (append_assoc b.order p.0 runs)))

  pub order_word : (w : Word) (number : ℕ) (b : Bundle) (t : TaskText) (tape : List ℕ) (code : Code) (q : Place) (ts : List (List ℕ)) (next : Draft) → IsKept b
      → IsLine (name_of w) line ts → in_order w ≡ Some q → with_operands w number (so_far banded q b t tape code) ts ≡ Ok next
      → with_lines (number + 1) next others ≡ Ok out → OrderLeft out b (line ∷ others)
  order_word word.Order number b t tape code q ts next kept is placed says left =
      order_line number b t tape code ts next kept is (at_place word.Order number b t tape code at.Order q ts next placed says) left
  order_word w number b t tape code q ts next kept is placed says left = absurd (no_place q placed)

  -- ---- events

  events_line : (number : ℕ) (b : Bundle) (t : TaskText) (tape : List ℕ) (code : Code) (ts : List (List ℕ)) (next : Draft) → IsKept b
      → IsLine (codes "events") line ts → with_operands word.Events number (so_far banded at.Events b t tape code) ts ≡ Ok next
      → with_lines (number + 1) next others ≡ Ok out → EventsLeft out b (line ∷ others)
  events_line number b t tape code ts next kept is says left =
      let p = then_ok (each event_operand ts) (λ runs. Ok (so_far banded at.Events (with_events b runs) t tape code)) next says in
      let found = so_far banded at.Events (with_events b p.0) t tape code in
      let rest : EventsLeft out (with_events b p.0) others =
      more at.Events (number + 1) (with_events b p.0) t tape code (follow number found next (same_ok found next p.2) left)
      (record { apart = kept.apart; as_long = kept.as_long }) in
      front_line (SaysEach (codes "events") IsEventRun) (λ k runs rest. OrderLeft out (with_events b runs) rest)
      (λ k runs rest. OrderLeft out (with_events (with_events b p.0) runs) rest) line others p.0 (inr (ts, is, events_are ts p.0 p.1)) rest
      (λ k runs rest h. subst (λ l. OrderLeft out (record b { events = l }) rest) (append_assoc b.events p.0 runs) h)

  pub events_word : (w : Word) (number : ℕ) (b : Bundle) (t : TaskText) (tape : List ℕ) (code : Code) (q : Place) (ts : List (List ℕ)) (next : Draft) → IsKept b
      → IsLine (name_of w) line ts → in_events w ≡ Some q → with_operands w number (so_far banded q b t tape code) ts ≡ Ok next
      → with_lines (number + 1) next others ≡ Ok out → EventsLeft out b (line ∷ others)
  events_word word.Events number b t tape code q ts next kept is placed says left =
      events_line number b t tape code ts next kept is (at_place word.Events number b t tape code at.Events q ts next placed says) left
  events_word w number b t tape code q ts next kept is placed says left =
      events_none out b (line ∷ others) (order_word w number b t tape code q ts next kept is placed says left)

  -- ---- worlds

  world_line : (number : ℕ) (b : Bundle) (t : TaskText) (tape : List ℕ) (code : Code) (ts : List (List ℕ)) (next : Draft) → IsKept b
      → IsLine (codes "world") line ts → with_operands word.World number (so_far banded at.Worlds b t tape code) ts ≡ Ok next
      → with_lines (number + 1) next others ≡ Ok out → WorldsLeft out b (line ∷ others)
  world_line number b t tape code ts next kept is says left =
      let p = then_ok (world_operands b.worlds ts) (λ w. Ok (so_far banded at.Worlds (with_worlds b (w ∷ [])) t tape code)) next says in
      let found = so_far banded at.Worlds (with_worlds b (p.0 ∷ [])) t tape code in
      let parts = world_parts b.worlds ts p.0 p.1 in
      let rest : WorldsLeft out (with_worlds b (p.0 ∷ [])) others =
      more at.Worlds (number + 1) (with_worlds b (p.0 ∷ [])) t tape code (follow number found next (same_ok found next p.2) left)
      (record { apart = kept.apart; as_long = worlds_as_long b.worlds p.0 kept.as_long parts.1 }) in
      front_line (SaysOne (codes "world") IsWorld) (λ k worlds rest. AreWorldsAsLong (b.worlds ++ worlds) × EventsLeft out (with_worlds b worlds) rest)
      (λ k worlds rest. AreWorldsAsLong ((b.worlds ++ p.0 ∷ []) ++ worlds) × EventsLeft out (with_worlds (with_worlds b (p.0 ∷ [])) worlds) rest) line others
      (p.0 ∷ []) (inr (ts, p.0, is, world_is ts p.0 parts.0, refl)) rest
      (λ k worlds rest h. (
        subst (λ l. AreWorldsAsLong l) (append_assoc b.worlds (p.0 ∷ []) worlds) h.0,
        subst (λ l. EventsLeft out (record b { worlds = l }) rest) (append_assoc b.worlds (p.0 ∷ []) worlds) h.1,
      ))

  pub worlds_word : (w : Word) (number : ℕ) (b : Bundle) (t : TaskText) (tape : List ℕ) (code : Code) (q : Place) (ts : List (List ℕ)) (next : Draft) → IsKept b
      → IsLine (name_of w) line ts → in_worlds w ≡ Some q → with_operands w number (so_far banded q b t tape code) ts ≡ Ok next
      → with_lines (number + 1) next others ≡ Ok out → WorldsLeft out b (line ∷ others)
  worlds_word word.World number b t tape code q ts next kept is placed says left =
      world_line number b t tape code ts next kept is (at_place word.World number b t tape code at.Worlds q ts next placed says) left
  worlds_word w number b t tape code q ts next kept is placed says left =
      worlds_none out b (line ∷ others) kept.as_long (events_word w number b t tape code q ts next kept is placed says left)

  -- ---- tasks

  task_line : (number : ℕ) (b : Bundle) (t : TaskText) (tape : List ℕ) (code : Code) (ts : List (List ℕ)) (next : Draft) → IsKept b
      → IsLine (codes "task") line ts → with_operands word.Task number (so_far banded at.Tape b t tape code) ts ≡ Ok next
      → with_lines (number + 1) next others ≡ Ok out → TasksLeft banded out number b (line ∷ others)
  task_line number b t tape code ts next kept is says left =
      let p = then_ok (task_operands banded ts) (λ limits. Ok (so_far banded at.Tape b (task_of limits) [] (Words []))) next says in
      let found = so_far banded at.Tape b (task_of p.0) [] (Words []) in
      let rest : TapeLeft banded out (number + 1) b (task_of p.0) [] others =
      more at.Tape (number + 1) b (task_of p.0) [] (Words []) (follow number found next (same_ok found next p.2) left) kept in
      tasks_of_tape banded out number b (task_of p.0) line ts others is (head_is banded ts p.0 p.1) rest

  pub tasks_word : (w : Word) (number : ℕ) (b : Bundle) (t : TaskText) (tape : List ℕ) (code : Code) (q : Place) (ts : List (List ℕ)) (next : Draft) → IsKept b
      → IsLine (name_of w) line ts → in_tasks w ≡ Some q → with_operands w number (so_far banded q b t tape code) ts ≡ Ok next
      → with_lines (number + 1) next others ≡ Ok out → TasksLeft banded out number b (line ∷ others)
  tasks_word word.Task number b t tape code q ts next kept is placed says left =
      task_line number b t tape code ts next kept is (at_place word.Task number b t tape code at.Tape q ts next placed says) left
  tasks_word w number b t tape code q ts next kept is placed says left =
      tasks_none banded out number b (line ∷ others) (worlds_word w number b t tape code q ts next kept is placed says left)

  -- ---- plans

  plan_line : (number : ℕ) (b : Bundle) (t : TaskText) (tape : List ℕ) (code : Code) (ts : List (List ℕ)) (next : Draft) → IsKept b
      → IsLine (codes "plan") line ts → with_operands word.Plan number (so_far banded at.Plans b t tape code) ts ≡ Ok next
      → with_lines (number + 1) next others ≡ Ok out → PlansLeft banded out number b (line ∷ others)
  plan_line number b t tape code ts next kept is says left =
      let with : List PlanText → Draft = λ plans. so_far banded at.Plans (record b { plans = plans }) t tape code in
      let p = then_ok (plan_operands ts) (λ plan. with_plan b.plans plan >>= λ plans. Ok (with plans)) next says in
      let q = then_ok (with_plan b.plans p.0) (λ plans. Ok (with plans)) next p.2 in
      let r = else_ok (has_plan p.0.hart b.plans) (Ok (b.plans ++ p.0 ∷ [])) kind.Repeated q.0 q.1 in
      let same : with (b.plans ++ p.0 ∷ []) ≡ next =
      ap with (same_ok (b.plans ++ p.0 ∷ []) q.0 r.1) ∙ same_ok (with q.0) next q.2 in
      let rest : PlansLeft banded out (number + 1) (more_plans b (p.0 ∷ [])) others =
      more at.Plans (number + 1) (more_plans b (p.0 ∷ [])) t tape code (follow number (with (b.plans ++ p.0 ∷ [])) next same left)
      (record { apart = plans_apart b.plans p.0 kept.apart r.0; as_long = kept.as_long }) in
      front_line (SaysOne (codes "plan") IsPlan)
      (λ k plans rest. ArePlansApart (b.plans ++ plans) × TasksLeft banded out (number + k) (more_plans b plans) rest)
      (λ k plans rest. ArePlansApart ((b.plans ++ p.0 ∷ []) ++ plans)
      × TasksLeft banded out (number + 1 + k) (more_plans (more_plans b (p.0 ∷ [])) plans) rest) line others (p.0 ∷ [])
      (inr (ts, p.0, is, plan_is ts p.0 p.1, refl)) rest
      (λ k plans rest h.
      let counted : number + 1 + k ≡ number + suc k = omega arith in (
        subst (λ l. ArePlansApart l) (append_assoc b.plans (p.0 ∷ []) plans) h.0,
        subst (λ l. TasksLeft banded out (number + suc k) (record b { plans = l }) rest) (append_assoc b.plans (p.0 ∷ []) plans)
            (subst (λ n. TasksLeft banded out n (more_plans (more_plans b (p.0 ∷ [])) plans) rest) counted h.1),
      ))

  pub plans_word : (w : Word) (number : ℕ) (b : Bundle) (t : TaskText) (tape : List ℕ) (code : Code) (q : Place) (ts : List (List ℕ)) (next : Draft) → IsKept b
      → IsLine (name_of w) line ts → in_plans w ≡ Some q → with_operands w number (so_far banded q b t tape code) ts ≡ Ok next
      → with_lines (number + 1) next others ≡ Ok out → PlansLeft banded out number b (line ∷ others)
  plans_word word.Plan number b t tape code q ts next kept is placed says left =
      plan_line number b t tape code ts next kept is (at_place word.Plan number b t tape code at.Plans q ts next placed says) left
  plans_word w number b t tape code q ts next kept is placed says left =
      plans_none banded out number b (line ∷ others) kept.apart (tasks_word w number b t tape code q ts next kept is placed says left)

  -- ---- inside a task

  end_line : (number : ℕ) (b : Bundle) (t : TaskText) (tape : List ℕ) (code : Code) (ts : List (List ℕ)) (next : Draft) → IsKept b
      → IsLine (codes "endtask") line ts → with_operands word.EndTask number (so_far banded at.Tasks b t tape code) ts ≡ Ok next
      → with_lines (number + 1) next others ≡ Ok out → EndLeft banded out number b (task_so_far t tape code) (line ∷ others)
  end_line number b t tape code ts next kept is says left =
      let task = task_so_far t tape code in
      let found = so_far banded at.Tasks (with_tasks b (task ∷ [])) (task_with 0 0 0 0) [] (Words []) in
      let p = if_ok (no_operands ts) (Ok found) kind.Operands next says in
      let rest : AfterTask banded out (number + 1) (with_tasks b (task ∷ [])) others =
      more at.Tasks (number + 1) (with_tasks b (task ∷ [])) (task_with 0 0 0 0) [] (Words []) (follow number found next (same_ok found next p.1) left)
      (record { apart = kept.apart; as_long = kept.as_long }) in
      record {
        end_line = line;
        rest = others;
        parts = refl;
        end_line_is = subst (λ l. IsLine (codes "endtask") line l) (no_tokens ts p.0) is;
        later = rest;
      }

  pub end_word : (w : Word) (number : ℕ) (b : Bundle) (t : TaskText) (tape : List ℕ) (code : Code) (q : Place) (ts : List (List ℕ)) (next : Draft) → IsKept b
      → IsLine (name_of w) line ts → in_code_end w ≡ Some q → with_operands w number (so_far banded q b t tape code) ts ≡ Ok next
      → with_lines (number + 1) next others ≡ Ok out → EndLeft banded out number b (task_so_far t tape code) (line ∷ others)
  end_word word.EndTask number b t tape code q ts next kept is placed says left =
      end_line number b t tape code ts next kept is (at_place word.EndTask number b t tape code at.Tasks q ts next placed says) left
  end_word w number b t tape code q ts next kept is placed says left = absurd (no_place q placed)

  words_line : (number : ℕ) (b : Bundle) (t : TaskText) (tape front : List ℕ) (ts : List (List ℕ)) (next : Draft) → IsKept b
      → IsLine (codes "words") line ts → with_operands word.Words number (so_far banded at.Words b t tape (Words front)) ts ≡ Ok next
      → with_lines (number + 1) next others ≡ Ok out → WordsLeft banded out number b t tape front (line ∷ others)
  words_line number b t tape front ts next kept is says left =
      let p = then_ok (each word_of ts) (λ words. Ok (so_far banded at.Words b t tape (Words (front ++ words)))) next says in
      let found = so_far banded at.Words b t tape (Words (front ++ p.0)) in
      let rest : WordsLeft banded out (number + 1) b t tape (front ++ p.0) others =
      more at.Words (number + 1) b t tape (Words (front ++ p.0)) (follow number found next (same_ok found next p.2) left) kept in
      front_line (SaysEach (codes "words") IsHexWord) (λ k words rest. EndLeft banded out (number + k) b (task_so_far t tape (Words (front ++ words))) rest)
      (λ k words rest. EndLeft banded out (number + 1 + k) b (task_so_far t tape (Words ((front ++ p.0) ++ words))) rest) line others p.0
      (inr (ts, is, words_are ts p.0 p.1)) rest
      (λ k words rest h.
      let counted : number + 1 + k ≡ number + suc k = omega arith in
      subst (λ l. EndLeft banded out (number + suc k) b (task_so_far t tape (Words l)) rest) (append_assoc front p.0 words)
      (subst (λ n. EndLeft banded out n b (task_so_far t tape (Words ((front ++ p.0) ++ words))) rest) counted h))

  pub words_word : (w : Word) (number : ℕ) (b : Bundle) (t : TaskText) (tape front : List ℕ) (q : Place) (ts : List (List ℕ)) (next : Draft) → IsKept b
      → IsLine (name_of w) line ts → in_words w ≡ Some q → with_operands w number (so_far banded q b t tape (Words front)) ts ≡ Ok next
      → with_lines (number + 1) next others ≡ Ok out → WordsLeft banded out number b t tape front (line ∷ others)
  words_word word.Words number b t tape front q ts next kept is placed says left =
      words_line number b t tape front ts next kept is (at_place word.Words number b t tape (Words front) at.Words q ts next placed says) left
  words_word w number b t tape front q ts next kept is placed says left =
      words_none banded out number b t tape front (line ∷ others) (end_word w number b t tape (Words front) q ts next kept is placed says left)

  tape_line : (number : ℕ) (b : Bundle) (t : TaskText) (tape : List ℕ) (ts : List (List ℕ)) (next : Draft) → IsKept b
      → IsLine (codes "tape") line ts → with_operands word.Tape number (so_far banded at.Tape b t tape (Words [])) ts ≡ Ok next
      → with_lines (number + 1) next others ≡ Ok out → TapeLeft banded out number b t tape (line ∷ others)
  tape_line number b t tape ts next kept is says left =
      let p = then_ok (each word_of ts) (λ words. Ok (so_far banded at.Tape b t (tape ++ words) (Words []))) next says in
      let found = so_far banded at.Tape b t (tape ++ p.0) (Words []) in
      let rest : TapeLeft banded out (number + 1) b t (tape ++ p.0) others =
      more at.Tape (number + 1) b t (tape ++ p.0) (Words []) (follow number found next (same_ok found next p.2) left) kept in
      front_line (SaysEach (codes "tape") IsHexWord) (λ k words rest. BodyLeft banded out (number + k) b t (tape ++ words) rest)
      (λ k words rest. BodyLeft banded out (number + 1 + k) b t ((tape ++ p.0) ++ words) rest) line others p.0 (inr (ts, is, words_are ts p.0 p.1)) rest
      (λ k words rest h.
      let counted : number + 1 + k ≡ number + suc k = omega arith in
      subst (λ l. BodyLeft banded out (number + suc k) b t l rest) (append_assoc tape p.0 words)
      (subst (λ n. BodyLeft banded out n b t ((tape ++ p.0) ++ words) rest) counted h))

  open_line : (number : ℕ) (b : Bundle) (t : TaskText) (tape : List ℕ) (ts : List (List ℕ)) (next : Draft) → IsKept b
      → IsLine (codes "code") line ts → with_operands word.Code number (so_far banded at.Code b t tape (Words [])) ts ≡ Ok next
      → with_lines (number + 1) next others ≡ Ok out → BodyLeft banded out number b t tape (line ∷ others)
  open_line number b t tape ts next kept is says left =
      let found = so_far banded at.Code b t tape (Text (number + 1) []) in
      let p = if_ok (no_operands ts) (Ok found) kind.Operands next says in
      let rest : CodeLeft banded out (number + 1) b t tape (number + 1) [] others =
      more at.Code (number + 1) b t tape (Text (number + 1) []) (follow number found next (same_ok found next p.1) left) kept in
      body_of_code banded out number b t tape line others (subst (λ l. IsLine (codes "code") line l) (no_tokens ts p.0) is) rest

  pub tape_word : (w : Word) (number : ℕ) (b : Bundle) (t : TaskText) (tape : List ℕ) (q : Place) (ts : List (List ℕ)) (next : Draft) → IsKept b
      → IsLine (name_of w) line ts → in_tape w ≡ Some q → with_operands w number (so_far banded q b t tape (Words [])) ts ≡ Ok next
      → with_lines (number + 1) next others ≡ Ok out → TapeLeft banded out number b t tape (line ∷ others)
  tape_word word.Tape number b t tape q ts next kept is placed says left =
      tape_line number b t tape ts next kept is (at_place word.Tape number b t tape (Words []) at.Tape q ts next placed says) left
  tape_word word.Code number b t tape q ts next kept is placed says left =
      tape_none banded out number b t tape (line ∷ others)
      (open_line number b t tape ts next kept is (at_place word.Code number b t tape (Words []) at.Code q ts next placed says) left)
  tape_word w number b t tape q ts next kept is placed says left =
      tape_none banded out number b t tape (line ∷ others)
      (body_of_words banded out number b t tape (line ∷ others) (words_word w number b t tape [] q ts next kept is placed says left))
