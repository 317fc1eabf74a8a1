-- Lines that are decided as a bundle are its sections.
use Rattle.std.proofs.Common.{◌≡◌, ℕ, suc, ◌+◌, ◌==◌, inl, inr, Bool, true, false, cond, List, [], ◌∷◌, ◌++◌, length, codes, Some, Result, Ok, Err, refl, sym, ap, ◌∙◌, subst, arith, append-nil, append_assoc, length-append}
use Rattle.std.specs.List.{AllByRecursion}
use Rattle.std.proofs.lemmas.Bool.{false≢true}
use Rattle.bundle_text.specs.Pieces.{is_text, tokens}
use Rattle.bundle_text.specs.Operands.{one_number}
use Rattle.bundle_text.specs.Places.{place_after, in_start, in_header}
use Rattle.bundle_text.specs.Lines.{task_with, with_operands, is_endcode, with_lines, no_lines}
use Rattle.bundle_text.specs.Range.{ArePlansApart, AreWorldsAsLong}
use Rattle.bundle_text.specs.Form.{IsHexWord}
use Rattle.bundle_text.specs.Grammar.{IsNumber, IsOrderRun, IsEventRun, IsPlan, IsWorld, IsLine, IsSilent, SaysOne, SaysEach, IsOfCode, AreTaskBlocks, IsBundle}
use Rattle.bundle_text.specs.declared.bundle.Bundle.{Bundle}
use Rattle.bundle_text.specs.declared.bundle.TaskText.{TaskText}
use Rattle.bundle_text.specs.declared.bundle.Code.{Code}
use Rattle.bundle_text.specs.declared.bundle.Code.TheVariants.{Words, Text}
use Rattle.bundle_text.specs.declared.bundle.BundleKind.TheVariants as kind
use Rattle.bundle_text.specs.declared.bundle.BundleFault.{BundleFault}
use Rattle.bundle_text.specs.declared.draft.Draft.{Draft}
use Rattle.bundle_text.specs.declared.draft.Word.{Word}
use Rattle.bundle_text.specs.declared.draft.Word.TheVariants as word
use Rattle.bundle_text.specs.declared.draft.Place.{Place}
use Rattle.bundle_text.specs.declared.draft.Place.TheVariants as at
use Rattle.bundle_text.proofs.Steps.{same_ok, err_ok, then_ok}
use Rattle.bundle_text.proofs.RoundTrip.Drafts.{so_far}
use Rattle.bundle_text.proofs.RoundTrip.Plans.{with_slots}
use Rattle.bundle_text.proofs.RoundTrip.Later.{with_worlds, with_events, with_order}
use Rattle.bundle_text.proofs.Grammar.Operands.{number_is}
use Rattle.bundle_text.proofs.Grammar.Lines.{name_of, line_says, LineSays, code_says, endcode_is, endcode_read}
use Rattle.bundle_text.proofs.Grammar.Front.{front_line}
use Rattle.bundle_text.proofs.Grammar.Found.{more_plans, task_so_far, OrderLeft, EventsLeft, WorldsLeft, TasksLeft, AfterTask, PlansLeft, EndLeft, AfterCode, CodeLeft, WordsLeft, BodyLeft, TapeLeft, Left, IsKept, order_none, events_none, worlds_none, tasks_none, after_none, plans_none, after_code_none}
use Rattle.bundle_text.proofs.Grammar.Walk.{Found, first_line, no_place, order_word, events_word, worlds_word, tasks_word, plans_word, end_word, words_word, tape_word}

-- ---- a silent line more

silent_order : (out b : Bundle) (line : List ℕ) (others : List (List ℕ)) → IsSilent line → OrderLeft out b others → OrderLeft out b (line ∷ others)
silent_order out b line others is rest =
    front_line (SaysEach (codes "order") IsOrderRun) (λ k runs rest. (rest ≡ []) × (out ≡ with_order b runs))
    (λ k runs rest. (rest ≡ []) × (out ≡ with_order b runs)) line others [] (inl (is, refl)) rest (λ k runs rest h. h)

silent_events : (out b : Bundle) (line : List ℕ) (others : List (List ℕ)) → IsSilent line → EventsLeft out b others → EventsLeft out b (line ∷ others)
silent_events out b line others is rest =
    front_line (SaysEach (codes "events") IsEventRun) (λ k runs rest. OrderLeft out (with_events b runs) rest)
    (λ k runs rest. OrderLeft out (with_events b runs) rest) line others [] (inl (is, refl)) rest (λ k runs rest h. h)

silent_worlds : (out b : Bundle) (line : List ℕ) (others : List (List ℕ)) → IsSilent line → WorldsLeft out b others → WorldsLeft out b (line ∷ others)
silent_worlds out b line others is rest =
    front_line (SaysOne (codes "world") IsWorld) (λ k worlds rest. AreWorldsAsLong (b.worlds ++ worlds) × EventsLeft out (with_worlds b worlds) rest)
    (λ k worlds rest. AreWorldsAsLong (b.worlds ++ worlds) × EventsLeft out (with_worlds b worlds) rest) line others [] (inl (is, refl)) rest
    (λ k worlds rest h. h)

counted : (number k : ℕ) → number + 1 + k ≡ number + suc k
counted number k = omega arith

silent_after : (banded : Bool) (out : Bundle) (number : ℕ) (b : Bundle) (line : List ℕ) (others : List (List ℕ)) → IsSilent line
    → AfterTask banded out (number + 1) b others → AfterTask banded out number b (line ∷ others)
silent_after banded out number b line others is a = record {
  after = line ∷ a.after;
  rest = a.rest;
  parts = ap (λ l. line ∷ l) a.parts;
  silent = (is, a.silent);
  later = subst (λ n. TasksLeft banded out n b a.rest) (counted number (length a.after)) a.later;
}

silent_plans : (banded : Bool) (out : Bundle) (number : ℕ) (b : Bundle) (line : List ℕ) (others : List (List ℕ)) → IsSilent line
    → PlansLeft banded out (number + 1) b others → PlansLeft banded out number b (line ∷ others)
silent_plans banded out number b line others is rest =
    front_line (SaysOne (codes "plan") IsPlan)
    (λ k plans rest. ArePlansApart (b.plans ++ plans) × TasksLeft banded out (number + k) (more_plans b plans) rest)
    (λ k plans rest. ArePlansApart (b.plans ++ plans) × TasksLeft banded out (number + 1 + k) (more_plans b plans) rest) line others [] (inl (is, refl)) rest
    (λ k plans rest h. (h.0, subst (λ n. TasksLeft banded out n (more_plans b plans) rest) (counted number k) h.1))

silent_after_code : (banded : Bool) (out : Bundle) (number : ℕ) (b : Bundle) (task : TaskText) (line : List ℕ) (others : List (List ℕ)) → IsSilent line
    → AfterCode banded out (number + 1) b task others → AfterCode banded out number b task (line ∷ others)
silent_after_code banded out number b task line others is a = record {
  after = line ∷ a.after;
  rest = a.rest;
  parts = ap (λ l. line ∷ l) a.parts;
  silent = (is, a.silent);
  later = subst (λ n. EndLeft banded out n b task a.rest) (counted number (length a.after)) a.later;
}

silent_words : (banded : Bool) (out : Bundle) (number : ℕ) (b : Bundle) (t : TaskText) (tape front : List ℕ) (line : List ℕ) (others : List (List ℕ))
    → IsSilent line → WordsLeft banded out (number + 1) b t tape front others → WordsLeft banded out number b t tape front (line ∷ others)
silent_words banded out number b t tape front line others is rest =
    front_line (SaysEach (codes "words") IsHexWord) (λ k words rest. EndLeft banded out (number + k) b (task_so_far t tape (Words (front ++ words))) rest)
    (λ k words rest. EndLeft banded out (number + 1 + k) b (task_so_far t tape (Words (front ++ words))) rest) line others [] (inl (is, refl)) rest
    (λ k words rest h. subst (λ n. EndLeft banded out n b (task_so_far t tape (Words (front ++ words))) rest) (counted number k) h)

silent_tape : (banded : Bool) (out : Bundle) (number : ℕ) (b : Bundle) (t : TaskText) (tape : List ℕ) (line : List ℕ) (others : List (List ℕ))
    → IsSilent line → TapeLeft banded out (number + 1) b t tape others → TapeLeft banded out number b t tape (line ∷ others)
silent_tape banded out number b t tape line others is rest =
    front_line (SaysEach (codes "tape") IsHexWord) (λ k words rest. BodyLeft banded out (number + k) b t (tape ++ words) rest)
    (λ k words rest. BodyLeft banded out (number + 1 + k) b t (tape ++ words) rest) line others [] (inl (is, refl)) rest
    (λ k words rest h. subst (λ n. BodyLeft banded out n b t (tape ++ words) rest) (counted number k) h)

-- ---- a line of code more

code_end : (banded : Bool) (out : Bundle) (number : ℕ) (b : Bundle) (t : TaskText) (tape : List ℕ) (first : ℕ) (front : List (List ℕ)) (line : List ℕ)
    (others : List (List ℕ)) → IsLine (codes "endcode") line [] → AfterCode banded out (number + 1) b (task_so_far t tape (Text first front)) others
    → CodeLeft banded out number b t tape first front (line ∷ others)
code_end banded out number b t tape first front line others is after =
    let same : number + 1 ≡ number + 0 + 1 = omega arith in record {
      code = [];
      end_line = line;
      rest = others;
      parts = refl;
      code_is = tt;
      end_line_is = is;
      later = subst (λ l. AfterCode banded out (number + 0 + 1) b (task_so_far t tape (Text first l)) others) (sym (append-nil front))
          (subst (λ n. AfterCode banded out n b (task_so_far t tape (Text first front)) others) same after);
    }

code_more : (banded : Bool) (out : Bundle) (number : ℕ) (b : Bundle) (t : TaskText) (tape : List ℕ) (first : ℕ) (front : List (List ℕ)) (line : List ℕ)
    (others : List (List ℕ)) → IsOfCode line → CodeLeft banded out (number + 1) b t tape first (front ++ line ∷ []) others
    → CodeLeft banded out number b t tape first front (line ∷ others)
code_more banded out number b t tape first front line others is c =
    let same : number + 1 + length c.code + 1 ≡ number + suc (length c.code) + 1 = omega arith in record {
      code = line ∷ c.code;
      end_line = c.end_line;
      rest = c.rest;
      parts = ap (λ l. line ∷ l) c.parts;
      code_is = (is, c.code_is);
      end_line_is = c.end_line_is;
      later = subst (λ l. AfterCode banded out (number + suc (length c.code) + 1) b (task_so_far t tape (Text first l)) c.rest)
          (append_assoc front (line ∷ []) c.code)
          (subst (λ n. AfterCode banded out n b (task_so_far t tape (Text first ((front ++ line ∷ []) ++ c.code))) c.rest) same c.later);
    }

-- ---- where no line is left

not_ended : (number : ℕ) (out : Bundle) → ◌≡◌ {A = Result Bundle BundleFault} (Err (record { line = number; kind = kind.Missing })) (Ok out) → ⊥
not_ended number out e = let fault : BundleFault = record { line = number; kind = kind.Missing } in err_ok out fault e

no_more : (banded : Bool) (out : Bundle) → Found banded out []
no_more banded out at.Start number b t tape code e kept = tt
no_more banded out at.Header number b t tape code e kept = tt
no_more banded out at.Order number b t tape code e kept = order_none out b (sym (same_ok b out e))
no_more banded out at.Events number b t tape code e kept = events_none out b [] (order_none out b (sym (same_ok b out e)))
no_more banded out at.Worlds number b t tape code e kept =
    worlds_none out b [] kept.as_long (events_none out b [] (order_none out b (sym (same_ok b out e))))
no_more banded out at.Tasks number b t tape code e kept =
    after_none banded out number b [] (tasks_none banded out number b []
    (worlds_none out b [] kept.as_long (events_none out b [] (order_none out b (sym (same_ok b out e))))))
no_more banded out at.Plans number b t tape code e kept =
    plans_none banded out number b [] kept.apart (tasks_none banded out number b []
    (worlds_none out b [] kept.as_long (events_none out b [] (order_none out b (sym (same_ok b out e))))))
no_more banded out at.Tape number b t tape code e kept = absurd (not_ended number out e)
no_more banded out at.Words number b t tape code e kept = absurd (not_ended number out e)
no_more banded out at.Code number b t tape code e kept = absurd (not_ended number out e)
no_more banded out at.CodeEnd number b t tape code e kept = absurd (not_ended number out e)

-- ---- by the first line

-- what follows from a silent line and from the line of a word follows from the first line
by_says : (number : ℕ) (d next : Draft) (line : List ℕ) (others : List (List ℕ)) (out : Bundle) (G : Type 0) → LineSays number d line next
    → with_lines (number + 1) next others ≡ Ok out
    → (IsSilent line → with_lines (number + 1) d others ≡ Ok out → G)
    → ((w : Word) (q : Place) (ts : List (List ℕ)) → IsLine (name_of w) line ts → place_after d.place w ≡ Some q
    → with_operands w number (record d { place = q }) ts ≡ Ok next → G) → G
by_says number d next line others out G (inl s) left silent says = silent s.0 (ap (λ x. with_lines (number + 1) x others) s.1 ∙ left)
by_says number d next line others out G (inr s) left silent says = says s.word s.place s.operands s.line_is s.placed s.says

module _ (banded : Bool) (out : Bundle) (line : List ℕ) (others : List (List ℕ)) (more : Found banded out others) where
  code_step : (t : Bool) (number : ℕ) (b : Bundle) (task : TaskText) (tape : List ℕ) (first : ℕ) (front : List (List ℕ)) → IsKept b → is_text line ≡ true
      → is_endcode (tokens line) ≡ t
      → with_lines (number + 1)
      (cond t (so_far banded at.CodeEnd b task tape (Text first front)) (so_far banded at.Code b task tape (Text first (front ++ line ∷ [])))) others ≡ Ok out
      → CodeLeft banded out number b task tape first front (line ∷ others)
  code_step true number b task tape first front kept text ends e =
      code_end banded out number b task tape first front line others (endcode_is line text ends)
      (more at.CodeEnd (number + 1) b task tape (Text first front) e kept)
  code_step false number b task tape first front kept text ends e =
      code_more banded out number b task tape first front line others
      (record { text = text; goes_on = λ is. false≢true (sym ends ∙ endcode_read line is) })
      (more at.Code (number + 1) b task tape (Text first (front ++ line ∷ [])) e kept)

  in_code : (number : ℕ) (b : Bundle) (t : TaskText) (tape : List ℕ) (code : Code)
      → with_lines number (so_far banded at.Code b t tape code) (line ∷ others) ≡ Ok out → IsKept b
      → Left banded out at.Code number b t tape code (line ∷ others)
  in_code number b t tape (Words words) e kept = tt
  in_code number b t tape (Text first front) e kept =
      let d = so_far banded at.Code b t tape (Text first front) in
      let p = first_line number d line others out e in
      let q = code_says number d line p.0 refl p.1 in
      code_step (is_endcode (tokens line)) number b t tape first front kept q.0 refl (ap (λ x. with_lines (number + 1) x others) q.1 ∙ p.2)

  in_task : (number : ℕ) (b : Bundle) (t : TaskText) (tape : List ℕ) (code : Code)
      → with_lines number (so_far banded at.Tape b t tape code) (line ∷ others) ≡ Ok out → IsKept b
      → Left banded out at.Tape number b t tape code (line ∷ others)
  in_task number b t tape (Words []) e kept =
      let d = so_far banded at.Tape b t tape (Words []) in
      let p = first_line number d line others out e in
      by_says number d p.0 line others out (TapeLeft banded out number b t tape (line ∷ others)) (line_says number d line p.0 refl p.1) p.2
      (λ is left. silent_tape banded out number b t tape line others is (more at.Tape (number + 1) b t tape (Words []) left kept))
      (λ w q ts is placed says. tape_word banded out line others more w number b t tape q ts p.0 kept is placed says p.2)
  in_task number b t tape (Words (w ∷ ws)) e kept = tt
  in_task number b t tape (Text first front) e kept = tt

  in_words_of : (number : ℕ) (b : Bundle) (t : TaskText) (tape : List ℕ) (code : Code)
      → with_lines number (so_far banded at.Words b t tape code) (line ∷ others) ≡ Ok out → IsKept b
      → Left banded out at.Words number b t tape code (line ∷ others)
  in_words_of number b t tape (Text first front) e kept = tt
  in_words_of number b t tape (Words front) e kept =
      let d = so_far banded at.Words b t tape (Words front) in
      let p = first_line number d line others out e in
      by_says number d p.0 line others out (WordsLeft banded out number b t tape front (line ∷ others)) (line_says number d line p.0 refl p.1) p.2
      (λ is left. silent_words banded out number b t tape front line others is (more at.Words (number + 1) b t tape (Words front) left kept))
      (λ w q ts is placed says. words_word banded out line others more w number b t tape front q ts p.0 kept is placed says p.2)

  step : Found banded out (line ∷ others)
  step at.Start number b t tape code e kept = tt
  step at.Header number b t tape code e kept = tt
  step at.Code number b t tape code e kept = in_code number b t tape code e kept
  step at.Tape number b t tape code e kept = in_task number b t tape code e kept
  step at.Words number b t tape code e kept = in_words_of number b t tape code e kept
  step at.CodeEnd number b t tape code e kept =
      let d = so_far banded at.CodeEnd b t tape code in
      let task = task_so_far t tape code in
      let p = first_line number d line others out e in
      by_says number d p.0 line others out (AfterCode banded out number b task (line ∷ others)) (line_says number d line p.0 refl p.1) p.2
      (λ is left. silent_after_code banded out number b task line others is (more at.CodeEnd (number + 1) b t tape code left kept))
      (λ w q ts is placed says. after_code_none banded out number b task (line ∷ others)
      (end_word banded out line others more w number b t tape code q ts p.0 kept is placed says p.2))
  step at.Plans number b t tape code e kept =
      let d = so_far banded at.Plans b t tape code in
      let p = first_line number d line others out e in
      by_says number d p.0 line others out (PlansLeft banded out number b (line ∷ others)) (line_says number d line p.0 refl p.1) p.2
      (λ is left. silent_plans banded out number b line others is (more at.Plans (number + 1) b t tape code left kept))
      (λ w q ts is placed says. plans_word banded out line others more w number b t tape code q ts p.0 kept is placed says p.2)
  step at.Tasks number b t tape code e kept =
      let d = so_far banded at.Tasks b t tape code in
      let p = first_line number d line others out e in
      by_says number d p.0 line others out (AfterTask banded out number b (line ∷ others)) (line_says number d line p.0 refl p.1) p.2
      (λ is left. silent_after banded out number b line others is (more at.Tasks (number + 1) b t tape code left kept))
      (λ w q ts is placed says. after_none banded out number b (line ∷ others)
      (tasks_word banded out line others more w number b t tape code q ts p.0 kept is placed says p.2))
  step at.Worlds number b t tape code e kept =
      let d = so_far banded at.Worlds b t tape code in
      let p = first_line number d line others out e in
      by_says number d p.0 line others out (WorldsLeft out b (line ∷ others)) (line_says number d line p.0 refl p.1) p.2
      (λ is left. silent_worlds out b line others is (more at.Worlds (number + 1) b t tape code left kept))
      (λ w q ts is placed says. worlds_word banded out line others more w number b t tape code q ts p.0 kept is placed says p.2)
  step at.Events number b t tape code e kept =
      let d = so_far banded at.Events b t tape code in
      let p = first_line number d line others out e in
      by_says number d p.0 line others out (EventsLeft out b (line ∷ others)) (line_says number d line p.0 refl p.1) p.2
      (λ is left. silent_events out b line others is (more at.Events (number + 1) b t tape code left kept))
      (λ w q ts is placed says. events_word banded out line others more w number b t tape code q ts p.0 kept is placed says p.2)
  step at.Order number b t tape code e kept =
      let d = so_far banded at.Order b t tape code in
      let p = first_line number d line others out e in
      by_says number d p.0 line others out (OrderLeft out b (line ∷ others)) (line_says number d line p.0 refl p.1) p.2
      (λ is left. silent_order out b line others is (more at.Order (number + 1) b t tape code left kept))
      (λ w q ts is placed says. order_word banded out line others more w number b t tape code q ts p.0 kept is placed says p.2)

pub found : (banded : Bool) (out : Bundle) (lines : List (List ℕ)) → Found banded out lines
found banded out [] = no_more banded out
found banded out (line ∷ others) = step banded out line others (found banded out others)

-- ---- the head

one_is : (low high : ℕ) (ts : List (List ℕ)) (n : ℕ) → one_number low high ts ≡ Ok n → (token : List ℕ) × (ts ≡ token ∷ []) × IsNumber low high token n
one_is low high [] n e = absurd (err_ok n kind.Operands e)
one_is low high (t ∷ []) n e = (t, refl, number_is low high t n e)
one_is low high (t ∷ u ∷ ts) n e = absurd (err_ok n kind.Operands e)

-- what is left after the version
record HeaderLeft (banded : Bool) (out : Bundle) (number : ℕ) (lines : List (List ℕ)) : Type 0 where
  between : List (List ℕ)
  slots_line : List ℕ
  token : List ℕ
  slots : ℕ
  rest : List (List ℕ)
  parts : lines ≡ between ++ (slots_line ∷ rest)
  silent : AllByRecursion IsSilent between
  slots_line_is : IsLine (codes "slots") slots_line (token ∷ [])
  slots_is : IsNumber 1 8 token slots
  later : PlansLeft banded out (number + length between + 1) (with_slots slots) rest

abbrev head_draft : Bool → Place → ℕ → Draft
head_draft banded place slots = so_far banded place (with_slots slots) (task_with 0 0 0 0) [] (Words [])

slots_word : (w : Word) (banded : Bool) (out : Bundle) (number : ℕ) (line : List ℕ) (others : List (List ℕ)) (q : Place) (ts : List (List ℕ)) (next : Draft)
    → IsLine (name_of w) line ts → in_header w ≡ Some q → with_operands w number (head_draft banded q 0) ts ≡ Ok next
    → with_lines (number + 1) next others ≡ Ok out → HeaderLeft banded out number (line ∷ others)
slots_word word.Slots banded out number line others q ts next is placed says left =
    let same : q ≡ at.Plans = cc in
    let p = then_ok (one_number 1 8 ts) (λ slots. Ok (head_draft banded q slots)) next says in
    let t = one_is 1 8 ts p.0 p.1 in
    let moved : head_draft banded at.Plans p.0 ≡ next = ap (λ x. head_draft banded x p.0) (sym same) ∙ same_ok (head_draft banded q p.0) next p.2 in
    let counted : number + 1 ≡ number + 0 + 1 = omega arith in
    let rest : PlansLeft banded out (number + 1) (with_slots p.0) others =
    found banded out others at.Plans (number + 1) (with_slots p.0) (task_with 0 0 0 0) [] (Words [])
    (ap (λ x. with_lines (number + 1) x others) moved ∙ left) (record { apart = tt; as_long = tt }) in
    record {
      between = [];
      slots_line = line;
      token = t.0;
      slots = p.0;
      rest = others;
      parts = refl;
      silent = tt;
      slots_line_is = subst (λ l. IsLine (codes "slots") line l) t.1 is;
      slots_is = t.2;
      later = subst (λ n. PlansLeft banded out n (with_slots p.0) others) counted rest;
    }
slots_word w banded out number line others q ts next is placed says left = absurd (no_place q placed)

silent_header : (banded : Bool) (out : Bundle) (number : ℕ) (line : List ℕ) (others : List (List ℕ)) → IsSilent line
    → HeaderLeft banded out (number + 1) others → HeaderLeft banded out number (line ∷ others)
silent_header banded out number line others is h =
    let same : number + 1 + length h.between + 1 ≡ number + suc (length h.between) + 1 = omega arith in record {
      between = line ∷ h.between;
      slots_line = h.slots_line;
      token = h.token;
      slots = h.slots;
      rest = h.rest;
      parts = ap (λ l. line ∷ l) h.parts;
      silent = (is, h.silent);
      slots_line_is = h.slots_line_is;
      slots_is = h.slots_is;
      later = subst (λ n. PlansLeft banded out n (with_slots h.slots) h.rest) same h.later;
    }

header : (lines : List (List ℕ)) (banded : Bool) (out : Bundle) (number : ℕ) → with_lines number (head_draft banded at.Header 0) lines ≡ Ok out
    → HeaderLeft banded out number lines
header [] banded out number e = absurd (not_ended number out e)
header (line ∷ others) banded out number e =
    let d = head_draft banded at.Header 0 in
    let p = first_line number d line others out e in
    by_says number d p.0 line others out (HeaderLeft banded out number (line ∷ others)) (line_says number d line p.0 refl p.1) p.2
    (λ is left. silent_header banded out number line others is (header others banded out (number + 1) left))
    (λ w q ts is placed says. slots_word w banded out number line others q ts p.0 is placed says p.2)

record StartLeft (out : Bundle) (number : ℕ) (lines : List (List ℕ)) : Type 0 where
  before : List (List ℕ)
  bundle_line : List ℕ
  token : List ℕ
  version : ℕ
  rest : List (List ℕ)
  parts : lines ≡ before ++ (bundle_line ∷ rest)
  silent : AllByRecursion IsSilent before
  bundle_line_is : IsLine (codes "bundle") bundle_line (token ∷ [])
  version_is : IsNumber 1 2 token version
  later : HeaderLeft (version == 2) out (number + length before + 1) rest

bundle_word : (w : Word) (out : Bundle) (number : ℕ) (line : List ℕ) (others : List (List ℕ)) (q : Place) (ts : List (List ℕ)) (next : Draft)
    → IsLine (name_of w) line ts → in_start w ≡ Some q → with_operands w number (head_draft false q 0) ts ≡ Ok next
    → with_lines (number + 1) next others ≡ Ok out → StartLeft out number (line ∷ others)
bundle_word word.Bundle out number line others q ts next is placed says left =
    let same : q ≡ at.Header = cc in
    let p = then_ok (one_number 1 2 ts) (λ version. Ok (head_draft (version == 2) q 0)) next says in
    let t = one_is 1 2 ts p.0 p.1 in
    let moved : head_draft (p.0 == 2) at.Header 0 ≡ next =
    ap (λ x. head_draft (p.0 == 2) x 0) (sym same) ∙ same_ok (head_draft (p.0 == 2) q 0) next p.2 in
    let counted : number + 1 ≡ number + 0 + 1 = omega arith in
    let rest = header others (p.0 == 2) out (number + 1) (ap (λ x. with_lines (number + 1) x others) moved ∙ left) in
    record {
      before = [];
      bundle_line = line;
      token = t.0;
      version = p.0;
      rest = others;
      parts = refl;
      silent = tt;
      bundle_line_is = subst (λ l. IsLine (codes "bundle") line l) t.1 is;
      version_is = t.2;
      later = subst (λ n. HeaderLeft (p.0 == 2) out n others) counted rest;
    }
bundle_word w out number line others q ts next is placed says left = absurd (no_place q placed)

silent_start : (out : Bundle) (number : ℕ) (line : List ℕ) (others : List (List ℕ)) → IsSilent line → StartLeft out (number + 1) others
    → StartLeft out number (line ∷ others)
silent_start out number line others is h =
    let same : number + 1 + length h.before + 1 ≡ number + suc (length h.before) + 1 = omega arith in record {
      before = line ∷ h.before;
      bundle_line = h.bundle_line;
      token = h.token;
      version = h.version;
      rest = h.rest;
      parts = ap (λ l. line ∷ l) h.parts;
      silent = (is, h.silent);
      bundle_line_is = h.bundle_line_is;
      version_is = h.version_is;
      later = subst (λ n. HeaderLeft (h.version == 2) out n h.rest) same h.later;
    }

start : (lines : List (List ℕ)) (out : Bundle) (number : ℕ) → with_lines number (head_draft false at.Start 0) lines ≡ Ok out → StartLeft out number lines
start [] out number e = absurd (not_ended number out e)
start (line ∷ others) out number e =
    let d = head_draft false at.Start 0 in
    let p = first_line number d line others out e in
    by_says number d p.0 line others out (StartLeft out number (line ∷ others)) (line_says number d line p.0 refl p.1) p.2
    (λ is left. silent_start out number line others is (start others out (number + 1) left))
    (λ w q ts is placed says. bundle_word w out number line others q ts p.0 is placed says p.2)

-- ---- the whole

abbrev head_lines : List (List ℕ) → List ℕ → List (List ℕ) → List ℕ → List (List ℕ)
head_lines before bundle_line between slots_line = before ++ (bundle_line ∷ (between ++ slots_line ∷ []))

whole_parts : (text before between r1 r2 plans r3 tasks r4 worlds r5 events r6 order r7 : List (List ℕ)) (bundle_line slots_line : List ℕ)
    → text ≡ before ++ (bundle_line ∷ r1) → r1 ≡ between ++ (slots_line ∷ r2) → r2 ≡ plans ++ r3 → r3 ≡ tasks ++ r4 → r4 ≡ worlds ++ r5
    → r5 ≡ events ++ r6 → r6 ≡ order ++ r7 → r7 ≡ []
    → text ≡ head_lines before bundle_line between slots_line ++ (plans ++ (tasks ++ (worlds ++ (events ++ order))))
whole_parts text before between r1 r2 plans r3 tasks r4 worlds r5 events r6 order r7 bundle_line slots_line a b c d e f g h =
    rw (a, b, c, d, e, f, g, h) (simp (append_assoc, append-nil))

head_length : (before between : List (List ℕ)) (bundle_line slots_line : List ℕ) (k : ℕ)
    → 1 + length before + 1 + length between + 1 + k ≡ 1 + length (head_lines before bundle_line between slots_line) + k
head_length before between bundle_line slots_line k =
    let a = length-append before (bundle_line ∷ (between ++ slots_line ∷ [])) in let b = length-append between (slots_line ∷ []) in omega arith

pub sections_are : (text : List (List ℕ)) (out : Bundle) → with_lines 1 no_lines text ≡ Ok out → IsBundle text out
sections_are text out e =
    let s = start text out 1 e in
    let h = s.later in
    let plans = h.later in
    let tasks = plans.later.1 in
    let worlds = tasks.later in
    let events = worlds.later.1 in
    let order = events.later in
    let head = head_lines s.before s.bundle_line h.between h.slots_line in
    let whole : Bundle = record {
      slots = h.slots;
      plans = plans.items;
      tasks = tasks.tasks;
      worlds = worlds.items;
      events = events.items;
      order = order.items;
    } in
    let is : IsBundle text whole = record {
      head = head;
      plans = plans.section;
      tasks = tasks.section;
      worlds = worlds.section;
      events = events.section;
      order = order.section;
      parts = whole_parts text s.before h.between s.rest h.rest plans.section plans.rest tasks.section tasks.rest worlds.section worlds.rest
          events.section events.rest order.section order.rest s.bundle_line h.slots_line s.parts h.parts plans.parts tasks.parts worlds.parts
          events.parts order.parts order.later.0;
      version = s.version;
      head_is = record {
        before = s.before;
        between = h.between;
        bundle_line = s.bundle_line;
        slots_line = h.slots_line;
        parts = refl;
        before_silent = s.silent;
        between_silent = h.silent;
        version_token = s.token;
        slots_token = h.token;
        bundle_line_is = s.bundle_line_is;
        slots_line_is = h.slots_line_is;
        version_is = s.version_is;
        slots_is = h.slots_is;
      };
      plans_are = plans.said;
      plans_apart = plans.later.0;
      tasks_are = subst (λ n. AreTaskBlocks (s.version == 2) n tasks.section tasks.tasks)
          (head_length s.before h.between s.bundle_line h.slots_line (length plans.section)) tasks.blocks;
      worlds_are = worlds.said;
      worlds_as_long = worlds.later.0;
      events_are = events.said;
      order_is = order.said;
    } in
    subst (λ b. IsBundle text b) (sym order.later.1) is
