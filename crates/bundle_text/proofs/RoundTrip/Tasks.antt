-- Tasks read as they are, but for the number of the line at which code begins.
use Rattle.std.proofs.Common.{◌≡◌, ℕ, Bool, ◌+◌, false, List, [], ◌∷◌, ◌++◌, map, codes, Some, Ok, refl, sym, ap, ◌∙◌, subst, append-nil, append_assoc}
use Rattle.std.specs.List.{AllByRecursion, flat_map}
use Rattle.std.proofs.lemmas.Bool.{cond-false}
use Rattle.bundle_text.specs.Pieces.{tokens}
use Rattle.bundle_text.specs.Operands.{◌>>=◌}
use Rattle.bundle_text.specs.Places.{place_after, is_in_code}
use Rattle.bundle_text.specs.Lines.{task_with, is_endcode}
use Rattle.bundle_text.specs.Range.{IsWord, IsCodeInRange, IsTaskInRange, IsCodeLine, AreCodeLines}
use Rattle.bundle_text.specs.Text.{word_text, list_text, code_text, task_head_text, task_text, unnumbered_code, unnumbered_task}
use Rattle.bundle_text.specs.declared.draft.Draft.{Draft}
use Rattle.bundle_text.specs.declared.draft.Word.TheVariants as word
use Rattle.bundle_text.specs.declared.draft.Place.{Place}
use Rattle.bundle_text.specs.declared.draft.Place.TheVariants as at
use Rattle.bundle_text.specs.declared.bundle.Bundle.{Bundle}
use Rattle.bundle_text.specs.declared.bundle.TaskText.{TaskText}
use Rattle.bundle_text.specs.declared.bundle.Code.{Code}
use Rattle.bundle_text.specs.declared.bundle.Code.TheVariants.{Words, Text}
use Rattle.bundle_text.proofs.RoundTrip.Tokens.{raw_by_test}
use Rattle.bundle_text.proofs.RoundTrip.Operands.{each-words, plain_words, IsBandTold, task_tokens, task_operands-text, plain_task}
use Rattle.bundle_text.proofs.RoundTrip.Steps.{Leads, leads_nothing, leads_on, code_line_leads, Names, word_line_leads}
use Rattle.bundle_text.proofs.RoundTrip.Drafts.{draft_at, so_far, closed_at, MayTasks, after_tasks}

names_task : Names (codes "task") word.Task
names_task = record { plain = record { some = refl; visible = refl }; no_comment = refl; named = refl }

names_tape : Names (codes "tape") word.Tape
names_tape = record { plain = record { some = refl; visible = refl }; no_comment = refl; named = refl }

names_words : Names (codes "words") word.Words
names_words = record { plain = record { some = refl; visible = refl }; no_comment = refl; named = refl }

names_code : Names (codes "code") word.Code
names_code = record { plain = record { some = refl; visible = refl }; no_comment = refl; named = refl }

names_endtask : Names (codes "endtask") word.EndTask
names_endtask = record { plain = record { some = refl; visible = refl }; no_comment = refl; named = refl }

-- ---- the head and the tape

head_leads : (banded : Bool) (number : ℕ) (place : Place) (bundle : Bundle) (t : TaskText) → MayTasks place → IsTaskInRange t → IsBandTold banded t
    → Leads number (closed_at banded place bundle) (task_head_text banded t) (so_far banded at.Tape bundle t [] (Words []))
head_leads banded number place bundle t may range told =
    word_line_leads number (closed_at banded place bundle) (so_far banded at.Tape bundle t [] (Words [])) (codes "task") (task_tokens banded t) word.Task at.Tape
    names_task (plain_task banded t range) may.later.later.later.outside may.tasks
    (ap (λ r. r >>= λ limits. Ok (draft_at banded at.Tape bundle (task_with limits.0 limits.1 limits.2 limits.3))) (task_operands-text banded t range told))

tape_leads : (banded : Bool) (number : ℕ) (bundle : Bundle) (t : TaskText) (tape : List ℕ) → AllByRecursion IsWord tape
    → Leads number (so_far banded at.Tape bundle t [] (Words [])) (list_text (codes "tape") (map word_text tape)) (so_far banded at.Tape bundle t tape (Words []))
tape_leads banded number bundle t [] all = leads_nothing number (so_far banded at.Tape bundle t [] (Words []))
tape_leads banded number bundle t (w ∷ ws) all =
    word_line_leads number (so_far banded at.Tape bundle t [] (Words [])) (so_far banded at.Tape bundle t (w ∷ ws) (Words [])) (codes "tape")
    (map word_text (w ∷ ws)) word.Tape at.Tape names_tape (plain_words (w ∷ ws) all) refl refl
    (ap (λ r. r >>= λ words. Ok (so_far banded at.Tape bundle t words (Words []))) (each-words (w ∷ ws) all))

-- ---- code

-- a task whose code is read
record CodeLeads (banded : Bool) (number : ℕ) (bundle : Bundle) (t : TaskText) (code : Code) : Type 0 where
  place : Place
  read : Code
  same : unnumbered_code read ≡ unnumbered_code code
  outside : is_in_code place ≡ false
  ends : place_after place word.EndTask ≡ Some at.Tasks
  leads : Leads number (so_far banded at.Tape bundle t t.tape (Words [])) (code_text code) (so_far banded place bundle t t.tape read)

words_lead : (banded : Bool) (number : ℕ) (bundle : Bundle) (t : TaskText) (words : List ℕ) → AllByRecursion IsWord words → CodeLeads banded number bundle t (Words words)
words_lead banded number bundle t [] all = record {
  place = at.Tape;
  read = Words [];
  same = refl;
  outside = refl;
  ends = refl;
  leads = leads_nothing number (so_far banded at.Tape bundle t t.tape (Words []));
}
words_lead banded number bundle t (w ∷ ws) all = record {
  place = at.Words;
  read = Words (w ∷ ws);
  same = refl;
  outside = refl;
  ends = refl;
  leads = word_line_leads number (so_far banded at.Tape bundle t t.tape (Words [])) (so_far banded at.Words bundle t t.tape (Words (w ∷ ws))) (codes "words")
      (map word_text (w ∷ ws)) word.Words at.Words names_words (plain_words (w ∷ ws) all) refl refl
      (ap (λ r. r >>= λ words. Ok (so_far banded at.Words bundle t t.tape (Words words))) (each-words (w ∷ ws) all));
}

-- the lines so far
abbrev in_text : Bool → Bundle → TaskText → ℕ → List (List ℕ) → Draft
in_text banded bundle t first lines = so_far banded at.Code bundle t t.tape (Text first lines)

one_line_leads : (banded : Bool) (number : ℕ) (bundle : Bundle) (t : TaskText) (first : ℕ) (front : List (List ℕ)) (line : List ℕ) → IsCodeLine line
    → Leads number (in_text banded bundle t first front) (line ++ codes "\n") (in_text banded bundle t first (front ++ line ∷ []))
one_line_leads banded number bundle t first front line h =
    let draft = in_text banded bundle t first front in
    let next = in_text banded bundle t first (front ++ line ∷ []) in
    subst (λ d. Leads number draft (line ++ codes "\n") d)
    (cond-false (is_endcode (tokens line)) (record draft { place = at.CodeEnd }) next h.goes_on)
    (code_line_leads number draft line (record { text = h.text; no_cr = h.no_cr }) refl)

lines_lead : (banded : Bool) (lines : List (List ℕ)) (number : ℕ) (bundle : Bundle) (t : TaskText) (first : ℕ) (front : List (List ℕ)) → AllByRecursion IsCodeLine lines
    → Leads number (in_text banded bundle t first front) (flat_map (λ line. line ++ codes "\n") lines) (in_text banded bundle t first (front ++ lines))
lines_lead banded [] number bundle t first front all =
    subst (λ l. Leads number (in_text banded bundle t first front) [] (in_text banded bundle t first l)) (sym (append-nil front))
    (leads_nothing number (in_text banded bundle t first front))
lines_lead banded (line ∷ others) number bundle t first front all =
    let draft = in_text banded bundle t first front in
    let middle = in_text banded bundle t first (front ++ line ∷ []) in
    let one = one_line_leads banded number bundle t first front line all.0 in
    subst (λ l. Leads number draft ((line ++ codes "\n") ++ flat_map (λ k. k ++ codes "\n") others) (in_text banded bundle t first l))
    (append_assoc front (line ∷ []) others)
    (leads_on number draft middle (in_text banded bundle t first ((front ++ line ∷ []) ++ others)) (line ++ codes "\n")
    (flat_map (λ k. k ++ codes "\n") others) one (lines_lead banded others one.after bundle t first (front ++ line ∷ []) all.1))

end_line_leads : (banded : Bool) (number : ℕ) (bundle : Bundle) (t : TaskText) (first : ℕ) (lines : List (List ℕ))
    → Leads number (in_text banded bundle t first lines) (codes "endcode\n") (so_far banded at.CodeEnd bundle t t.tape (Text first lines))
end_line_leads banded number bundle t first lines =
    code_line_leads number (in_text banded bundle t first lines) (codes "endcode") (raw_by_test (codes "endcode") refl refl) refl

text_leads : (banded : Bool) (number : ℕ) (bundle : Bundle) (t : TaskText) (first_line : ℕ) (lines : List (List ℕ)) → AllByRecursion IsCodeLine lines
    → CodeLeads banded number bundle t (Text first_line lines)
text_leads banded number bundle t first_line lines all =
    let start = so_far banded at.Tape bundle t t.tape (Words []) in
    let opened = in_text banded bundle t (number + 1) [] in
    let whole = in_text banded bundle t (number + 1) lines in
    let ended = so_far banded at.CodeEnd bundle t t.tape (Text (number + 1) lines) in
    let open_line : Leads number start (codes "code\n") opened =
    word_line_leads number start opened (codes "code") [] word.Code at.Code names_code tt refl refl refl in
    let body : Leads open_line.after opened (flat_map (λ line. line ++ codes "\n") lines) whole =
    lines_lead banded lines open_line.after bundle t (number + 1) [] all in
    let last : Leads body.after whole (codes "endcode\n") ended = end_line_leads banded body.after bundle t (number + 1) lines in
    record {
      place = at.CodeEnd;
      read = Text (number + 1) lines;
      same = refl;
      outside = refl;
      ends = refl;
      leads = leads_on number start opened ended (codes "code\n") (flat_map (λ line. line ++ codes "\n") lines ++ codes "endcode\n") open_line
          (leads_on open_line.after opened whole ended (flat_map (λ line. line ++ codes "\n") lines) (codes "endcode\n") body last);
    }

code_leads : (banded : Bool) (number : ℕ) (bundle : Bundle) (t : TaskText) (code : Code) → IsCodeInRange code → AreCodeLines code → CodeLeads banded number bundle t code
code_leads banded number bundle t (Words words) range lines = words_lead banded number bundle t words range.0
code_leads banded number bundle t (Text first_line ls) range lines = text_leads banded number bundle t first_line ls lines

-- ---- a task

-- the bundle with a task more
abbrev with_task : Bundle → TaskText → Bundle
with_task bundle t = record bundle { tasks = bundle.tasks ++ t ∷ [] }

record TaskLeads (banded : Bool) (number : ℕ) (place : Place) (bundle : Bundle) (t : TaskText) : Type 0 where
  read : TaskText
  same : unnumbered_task read ≡ unnumbered_task t
  leads : Leads number (closed_at banded place bundle) (task_text banded t) (closed_at banded at.Tasks (with_task bundle read))

task_end_leads : (banded : Bool) (number : ℕ) (place : Place) (bundle : Bundle) (t : TaskText) (code : Code) → is_in_code place ≡ false
    → place_after place word.EndTask ≡ Some at.Tasks
    → Leads number (so_far banded place bundle t t.tape code) (codes "endtask\n") (closed_at banded at.Tasks (with_task bundle (record t { code = code })))
task_end_leads banded number place bundle t code outside ends =
    word_line_leads number (so_far banded place bundle t t.tape code) (closed_at banded at.Tasks (with_task bundle (record t { code = code }))) (codes "endtask") []
    word.EndTask at.Tasks names_endtask tt outside ends refl

task_leads : (banded : Bool) (number : ℕ) (place : Place) (bundle : Bundle) (t : TaskText) → MayTasks place → IsTaskInRange t → IsBandTold banded t → AreCodeLines t.code
    → TaskLeads banded number place bundle t
task_leads banded number place bundle t may range told lines =
    let start = closed_at banded place bundle in
    let opened = so_far banded at.Tape bundle t [] (Words []) in
    let taped = so_far banded at.Tape bundle t t.tape (Words []) in
    let tape_text = list_text (codes "tape") (map word_text t.tape) in
    let head = head_leads banded number place bundle t may range told in
    let tape = tape_leads banded head.after bundle t t.tape range.tape in
    let code = code_leads banded tape.after bundle t t.code range.code lines in
    let coded = so_far banded code.place bundle t t.tape code.read in
    let ended = closed_at banded at.Tasks (with_task bundle (record t { code = code.read })) in
    let last = task_end_leads banded code.leads.after code.place bundle t code.read code.outside code.ends in
    record {
      read = record t { code = code.read };
      same = ap (λ (k : Code). record t { code = k }) code.same;
      leads = leads_on number start opened ended (task_head_text banded t) (tape_text ++ (code_text t.code ++ codes "endtask\n")) head
          (leads_on head.after opened taped ended tape_text (code_text t.code ++ codes "endtask\n") tape
          (leads_on tape.after taped coded ended (code_text t.code) (codes "endtask\n") code.leads last));
    }

-- ---- tasks

-- the bundle with tasks more
abbrev pub with_tasks : Bundle → List TaskText → Bundle
with_tasks bundle tasks = record bundle { tasks = bundle.tasks ++ tasks }

-- the tasks are read after those of a bundle
pub record TasksLead (banded : Bool) (number : ℕ) (place : Place) (bundle : Bundle) (tasks : List TaskText) : Type 0 where
  pub next_place : Place
  pub may : MayTasks next_place
  pub read : List TaskText
  pub same : map unnumbered_task read ≡ map unnumbered_task tasks
  pub leads : Leads number (closed_at banded place bundle) (flat_map (task_text banded) tasks) (closed_at banded next_place (with_tasks bundle read))

no_tasks_lead : (banded : Bool) (number : ℕ) (place : Place) (bundle : Bundle) → MayTasks place → TasksLead banded number place bundle []
no_tasks_lead banded number place bundle may = record {
  next_place = place;
  may = may;
  read = [];
  same = refl;
  leads = subst (λ (l : List TaskText). Leads number (closed_at banded place bundle) [] (closed_at banded place (record bundle { tasks = l })))
      (sym (append-nil bundle.tasks)) (leads_nothing number (closed_at banded place bundle));
}

pub tasks_lead : (banded : Bool) (tasks : List TaskText) (number : ℕ) (place : Place) (bundle : Bundle) → MayTasks place → AllByRecursion IsTaskInRange tasks → AllByRecursion (IsBandTold banded) tasks
    → AllByRecursion (λ t. AreCodeLines t.code) tasks → TasksLead banded number place bundle tasks
tasks_lead banded [] number place bundle may range told lines = no_tasks_lead banded number place bundle may
tasks_lead banded (t ∷ ts) number place bundle may range told lines =
    let first = task_leads banded number place bundle t may range.0 told.0 lines.0 in
    let others = tasks_lead banded ts first.leads.after at.Tasks (with_task bundle first.read) after_tasks range.1 told.1 lines.1 in
    let start = closed_at banded place bundle in
    let last = closed_at banded others.next_place (with_tasks (with_task bundle first.read) others.read) in
    record {
      next_place = others.next_place;
      may = others.may;
      read = first.read ∷ others.read;
      same = ap (λ u. u ∷ map unnumbered_task others.read) first.same ∙ ap (λ us. unnumbered_task t ∷ us) others.same;
      leads = subst
          (λ (l : List TaskText). Leads number start (task_text banded t ++ flat_map (task_text banded) ts) (closed_at banded others.next_place (record bundle { tasks = l })))
          (append_assoc bundle.tasks (first.read ∷ []) others.read)
          (leads_on number start (closed_at banded at.Tasks (with_task bundle first.read)) last (task_text banded t) (flat_map (task_text banded) ts) first.leads others.leads);
    }
