-- The lines that are left after a draft, where they are decided as a bundle: its sections from the draft's place on.
use Rattle.std.proofs.Common.{◌≡◌, ℕ, ◌+◌, Bool, List, [], ◌∷◌, ◌++◌, length, codes, refl, sym, ap, ◌∙◌, subst, arith, append-nil}
use Rattle.std.specs.List.{AllByRecursion}
use Rattle.bundle_text.specs.Range.{ArePlansApart, AreWorldsAsLong}
use Rattle.bundle_text.specs.Form.{IsHexWord}
use Rattle.bundle_text.specs.Grammar.{IsOrderRun, IsEventRun, IsPlan, IsWorld, IsLine, IsSilent, SaysOne, SaysEach, IsOfCode, IsCode, AreTaskBlocks}
use Rattle.bundle_text.specs.declared.bundle.Bundle.{Bundle}
use Rattle.bundle_text.specs.declared.bundle.TaskText.{TaskText}
use Rattle.bundle_text.specs.declared.bundle.PlanText.{PlanText}
use Rattle.bundle_text.specs.declared.bundle.Code.{Code}
use Rattle.bundle_text.specs.declared.bundle.Code.TheVariants.{Words, Text}
use Rattle.bundle_text.specs.declared.draft.Place.{Place}
use Rattle.bundle_text.specs.declared.draft.Place.TheVariants as at
use Rattle.bundle_text.proofs.RoundTrip.Tasks.{with_tasks}
use Rattle.bundle_text.proofs.RoundTrip.Later.{with_worlds, with_events, with_order}
use Rattle.bundle_text.proofs.Grammar.Front.{Front, front_none}

-- the bundle with plans more
abbrev pub more_plans : Bundle → List PlanText → Bundle
more_plans bundle plans = record bundle { plans = bundle.plans ++ plans }

-- the task with this tape and code
abbrev pub task_so_far : TaskText → List ℕ → Code → TaskText
task_so_far t tape code = record t { tape = tape; code = code }

-- ---- what is left, by what was said last; `out` is the whole bundle, and `b` what was said of it

abbrev pub OrderLeft : Bundle → Bundle → List (List ℕ) → Type 0
OrderLeft out b lines = Front (SaysEach (codes "order") IsOrderRun) (λ k runs rest. (rest ≡ []) × (out ≡ with_order b runs)) lines

abbrev pub EventsLeft : Bundle → Bundle → List (List ℕ) → Type 0
EventsLeft out b lines = Front (SaysEach (codes "events") IsEventRun) (λ k runs rest. OrderLeft out (with_events b runs) rest) lines

abbrev pub WorldsLeft : Bundle → Bundle → List (List ℕ) → Type 0
WorldsLeft out b lines =
    Front (SaysOne (codes "world") IsWorld) (λ k worlds rest. AreWorldsAsLong (b.worlds ++ worlds) × EventsLeft out (with_worlds b worlds) rest) lines

pub record TasksLeft (banded : Bool) (out : Bundle) (number : ℕ) (b : Bundle) (lines : List (List ℕ)) : Type 0 where
  pub section : List (List ℕ)
  pub rest : List (List ℕ)
  pub tasks : List TaskText
  pub parts : lines ≡ section ++ rest
  pub blocks : AreTaskBlocks banded number section tasks
  pub later : WorldsLeft out (with_tasks b tasks) rest

-- after a task, silent lines first
pub record AfterTask (banded : Bool) (out : Bundle) (number : ℕ) (b : Bundle) (lines : List (List ℕ)) : Type 0 where
  pub after : List (List ℕ)
  pub rest : List (List ℕ)
  pub parts : lines ≡ after ++ rest
  pub silent : AllByRecursion IsSilent after
  pub later : TasksLeft banded out (number + length after) b rest

abbrev pub PlansLeft : Bool → Bundle → ℕ → Bundle → List (List ℕ) → Type 0
PlansLeft banded out number b lines =
    Front (SaysOne (codes "plan") IsPlan)
    (λ k plans rest. ArePlansApart (b.plans ++ plans) × TasksLeft banded out (number + k) (more_plans b plans) rest) lines

-- `endtask`
pub record EndLeft (banded : Bool) (out : Bundle) (number : ℕ) (b : Bundle) (task : TaskText) (lines : List (List ℕ)) : Type 0 where
  pub end_line : List ℕ
  pub rest : List (List ℕ)
  pub parts : lines ≡ end_line ∷ rest
  pub end_line_is : IsLine (codes "endtask") end_line []
  pub later : AfterTask banded out (number + 1) (with_tasks b (task ∷ [])) rest

-- after a code block, silent lines first
pub record AfterCode (banded : Bool) (out : Bundle) (number : ℕ) (b : Bundle) (task : TaskText) (lines : List (List ℕ)) : Type 0 where
  pub after : List (List ℕ)
  pub rest : List (List ℕ)
  pub parts : lines ≡ after ++ rest
  pub silent : AllByRecursion IsSilent after
  pub later : EndLeft banded out (number + length after) b task rest

pub record CodeLeft (banded : Bool) (out : Bundle) (number : ℕ) (b : Bundle) (t : TaskText) (tape : List ℕ) (first_line : ℕ) (front : List (List ℕ))
    (lines : List (List ℕ)) : Type 0 where
  pub code : List (List ℕ)
  pub end_line : List ℕ
  pub rest : List (List ℕ)
  pub parts : lines ≡ code ++ (end_line ∷ rest)
  pub code_is : AllByRecursion IsOfCode code
  pub end_line_is : IsLine (codes "endcode") end_line []
  pub later : AfterCode banded out (number + length code + 1) b (task_so_far t tape (Text first_line (front ++ code))) rest

abbrev pub WordsLeft : Bool → Bundle → ℕ → Bundle → TaskText → List ℕ → List ℕ → List (List ℕ) → Type 0
WordsLeft banded out number b t tape front lines =
    Front (SaysEach (codes "words") IsHexWord) (λ k words rest. EndLeft banded out (number + k) b (task_so_far t tape (Words (front ++ words))) rest) lines

-- the code and what follows it
pub record BodyLeft (banded : Bool) (out : Bundle) (number : ℕ) (b : Bundle) (t : TaskText) (tape : List ℕ) (lines : List (List ℕ)) : Type 0 where
  pub section : List (List ℕ)
  pub rest : List (List ℕ)
  pub code : Code
  pub parts : lines ≡ section ++ rest
  pub code_is : IsCode number section code
  pub later : EndLeft banded out (number + length section) b (task_so_far t tape code) rest

abbrev pub TapeLeft : Bool → Bundle → ℕ → Bundle → TaskText → List ℕ → List (List ℕ) → Type 0
TapeLeft banded out number b t tape lines =
    Front (SaysEach (codes "tape") IsHexWord) (λ k words rest. BodyLeft banded out (number + k) b t (tape ++ words) rest) lines

-- ---- by the place

abbrev TapeOf : Bool → Bundle → ℕ → Bundle → TaskText → List ℕ → Code → List (List ℕ) → Type 0
TapeOf banded out number b t tape (Words []) lines = TapeLeft banded out number b t tape lines
TapeOf banded out number b t tape code lines = Unit {0}

abbrev WordsOf : Bool → Bundle → ℕ → Bundle → TaskText → List ℕ → Code → List (List ℕ) → Type 0
WordsOf banded out number b t tape (Words front) lines = WordsLeft banded out number b t tape front lines
WordsOf banded out number b t tape (Text first_line code) lines = Unit {0}

abbrev CodeOf : Bool → Bundle → ℕ → Bundle → TaskText → List ℕ → Code → List (List ℕ) → Type 0
CodeOf banded out number b t tape (Words words) lines = Unit {0}
CodeOf banded out number b t tape (Text first_line front) lines = CodeLeft banded out number b t tape first_line front lines

-- what is left from a place on
abbrev pub Left : Bool → Bundle → Place → ℕ → Bundle → TaskText → List ℕ → Code → List (List ℕ) → Type 0
Left banded out at.Start number b t tape code lines = Unit {0}
Left banded out at.Header number b t tape code lines = Unit {0}
Left banded out at.Plans number b t tape code lines = PlansLeft banded out number b lines
Left banded out at.Tasks number b t tape code lines = AfterTask banded out number b lines
Left banded out at.Worlds number b t tape code lines = WorldsLeft out b lines
Left banded out at.Events number b t tape code lines = EventsLeft out b lines
Left banded out at.Order number b t tape code lines = OrderLeft out b lines
Left banded out at.Tape number b t tape code lines = TapeOf banded out number b t tape code lines
Left banded out at.Words number b t tape code lines = WordsOf banded out number b t tape code lines
Left banded out at.Code number b t tape code lines = CodeOf banded out number b t tape code lines
Left banded out at.CodeEnd number b t tape code lines = AfterCode banded out number b (task_so_far t tape code) lines

-- The plans and worlds so far are of one bundle.
pub record IsKept (b : Bundle) : Type 0 where
  pub apart : ArePlansApart b.plans
  pub as_long : AreWorldsAsLong b.worlds

-- ---- where a section is empty

pub order_none : (out b : Bundle) → out ≡ b → OrderLeft out b []
order_none out b e =
    front_none (SaysEach (codes "order") IsOrderRun) (λ k runs rest. (rest ≡ []) × (out ≡ with_order b runs)) []
    (refl, e ∙ ap (λ l. record b { order = l }) (sym (append-nil b.order)))

pub events_none : (out b : Bundle) (lines : List (List ℕ)) → OrderLeft out b lines → EventsLeft out b lines
events_none out b lines h =
    front_none (SaysEach (codes "events") IsEventRun) (λ k runs rest. OrderLeft out (with_events b runs) rest) lines
    (subst (λ l. OrderLeft out (record b { events = l }) lines) (sym (append-nil b.events)) h)

pub worlds_none : (out b : Bundle) (lines : List (List ℕ)) → AreWorldsAsLong b.worlds → EventsLeft out b lines → WorldsLeft out b lines
worlds_none out b lines as_long h =
    front_none (SaysOne (codes "world") IsWorld)
    (λ k worlds rest. AreWorldsAsLong (b.worlds ++ worlds) × EventsLeft out (with_worlds b worlds) rest) lines (
      subst (λ l. AreWorldsAsLong l) (sym (append-nil b.worlds)) as_long,
      subst (λ l. EventsLeft out (record b { worlds = l }) lines) (sym (append-nil b.worlds)) h,
    )

pub tasks_none : (banded : Bool) (out : Bundle) (number : ℕ) (b : Bundle) (lines : List (List ℕ)) → WorldsLeft out b lines
    → TasksLeft banded out number b lines
tasks_none banded out number b lines h = record {
  section = [];
  rest = lines;
  tasks = [];
  parts = refl;
  blocks = refl;
  later = subst (λ l. WorldsLeft out (record b { tasks = l }) lines) (sym (append-nil b.tasks)) h;
}

pub after_none : (banded : Bool) (out : Bundle) (number : ℕ) (b : Bundle) (lines : List (List ℕ)) → TasksLeft banded out number b lines
    → AfterTask banded out number b lines
after_none banded out number b lines h =
    let same : number ≡ number + 0 = omega arith in
    record { after = []; rest = lines; parts = refl; silent = tt; later = subst (λ n. TasksLeft banded out n b lines) same h }

pub plans_none : (banded : Bool) (out : Bundle) (number : ℕ) (b : Bundle) (lines : List (List ℕ)) → ArePlansApart b.plans
    → TasksLeft banded out number b lines → PlansLeft banded out number b lines
plans_none banded out number b lines apart h =
    let same : number ≡ number + 0 = omega arith in
    front_none (SaysOne (codes "plan") IsPlan)
    (λ k plans rest. ArePlansApart (b.plans ++ plans) × TasksLeft banded out (number + k) (more_plans b plans) rest) lines (
      subst (λ l. ArePlansApart l) (sym (append-nil b.plans)) apart,
      subst (λ l. TasksLeft banded out (number + 0) (record b { plans = l }) lines) (sym (append-nil b.plans))
          (subst (λ n. TasksLeft banded out n b lines) same h),
    )

pub after_code_none : (banded : Bool) (out : Bundle) (number : ℕ) (b : Bundle) (task : TaskText) (lines : List (List ℕ))
    → EndLeft banded out number b task lines → AfterCode banded out number b task lines
after_code_none banded out number b task lines h =
    let same : number ≡ number + 0 = omega arith in
    record { after = []; rest = lines; parts = refl; silent = tt; later = subst (λ n. EndLeft banded out n b task lines) same h }

pub words_none : (banded : Bool) (out : Bundle) (number : ℕ) (b : Bundle) (t : TaskText) (tape front : List ℕ) (lines : List (List ℕ))
    → EndLeft banded out number b (task_so_far t tape (Words front)) lines → WordsLeft banded out number b t tape front lines
words_none banded out number b t tape front lines h =
    let same : number ≡ number + 0 = omega arith in
    front_none (SaysEach (codes "words") IsHexWord) (λ k words rest. EndLeft banded out (number + k) b (task_so_far t tape (Words (front ++ words))) rest) lines
    (subst (λ l. EndLeft banded out (number + 0) b (task_so_far t tape (Words l)) lines) (sym (append-nil front))
    (subst (λ n. EndLeft banded out n b (task_so_far t tape (Words front)) lines) same h))

pub tape_none : (banded : Bool) (out : Bundle) (number : ℕ) (b : Bundle) (t : TaskText) (tape : List ℕ) (lines : List (List ℕ))
    → BodyLeft banded out number b t tape lines → TapeLeft banded out number b t tape lines
tape_none banded out number b t tape lines h =
    let same : number ≡ number + 0 = omega arith in
    front_none (SaysEach (codes "tape") IsHexWord) (λ k words rest. BodyLeft banded out (number + k) b t (tape ++ words) rest) lines
    (subst (λ l. BodyLeft banded out (number + 0) b t l lines) (sym (append-nil tape)) (subst (λ n. BodyLeft banded out n b t tape lines) same h))

-- words are code
pub body_of_words : (banded : Bool) (out : Bundle) (number : ℕ) (b : Bundle) (t : TaskText) (tape : List ℕ) (lines : List (List ℕ))
    → WordsLeft banded out number b t tape [] lines → BodyLeft banded out number b t tape lines
body_of_words banded out number b t tape lines f =
    record { section = f.section; rest = f.rest; code = Words f.items; parts = f.parts; code_is = f.said; later = f.later }
