-- The next word of each tape is what its term denotes.
use Rattle.std.proofs.Common.{◌≡◌, ℕ, ◌+◌, ◌<◌, ◌≤◌, List, length, Some, None, get_or, slice_get, inl, inr, ap, ◌∙◌, arith, rules}
use Rattle.std.proofs.lemmas.Option.{slice_get-get_or, slice_get_cases}
use Rattle.isa_model.specs.declared.latch.Latch.TheVariants.{Reg}
use Rattle.isa_model.specs.declared.ends.EndKind.TheVariants as kinds
use Rattle.isa_model.specs.Bits.{low_word}
use Rattle.isa_model.specs.Alone.{with_value}
use Rattle.tape_terms.specs.Values.{value_of}
use Rattle.masked_run.specs.Places.{term_at}
use Rattle.masked_run.proofs.TermLaws.{put, put-in, grown, grown-in, denote-same, in-same, keeps-none}
use Rattle.masked_run.proofs.services.take_in.Goals as goal

past : (xs : List ℕ) (i : ℕ) → length xs ≤ i → slice_get xs i ≡ None
past xs i high = elim ((slice_get_cases xs i).1) [
  | inl here ↦ absurd (let low = here.1 in omega arith)
  | inr none ↦ none.1
]

pub returns-in_ok-term : goal.returns-in_ok-term
returns-in_ok-term c =
    let old = c.args.pool.now in
    let new = c.tape_term.new.pool in
    let m = c.args.machine.now in
    let at = term_at m.latches in
    let term = c.in_ok-term.term in
    let keeps = c.in_ok-term.ensures.others in
    let room : m.tape_at < length c.args.task.now.tape = search rules in
    record {
      done = record {
        keeps = keeps;
        places = in-same new (with_value (Reg 10) term at) (term_at c.write_a0.new.self) c.write_a0.ensures.terms (put-in new (Reg 10) term at (grown-in old new at keeps c.requires.places) c.in_ok-term.ensures.place);
        on_tapes = λ tape is s h.
            let inside : s.tape_at < length tape = let a = h.tape_at in let b = is.as_long in omega arith in
            let word : slice_get tape s.tape_at ≡ Some (get_or tape s.tape_at 0) = slice_get-get_or tape s.tape_at 0 inside in
            let made : value_of new tape term ≡ get_or tape s.tape_at 0 = c.in_ok-term.ensures.value tape is ∙ ap (λ (k : ℕ). get_or tape k 0) h.tape_at in
            rw word (record {
              values = denote-same new tape (with_value (Reg 10) term at) (term_at c.write_a0.new.self) _ c.write_a0.ensures.terms
                  (put new tape (Reg 10) term (get_or tape s.tape_at 0) at s.value (grown old new tape at s.value keeps c.requires.places h.values) made);
              pc = ap (λ (p : ℕ). low_word (p + 4)) h.pc;
              output = h.output;
              tape_at = ap (λ (k : ℕ). k + 1) h.tape_at;
              end = h.end;
            });
      };
    }

pub returns-else-machine-len : goal.returns-else-machine-len
returns-else-machine-len c =
    let full : length c.args.task.now.tape ≤ c.args.machine.now.tape_at = search rules in
    record {
      done = record {
        keeps = keeps-none c.args.pool.now;
        places = c.requires.places;
        on_tapes = λ tape is s h.
            let none : slice_get tape s.tape_at ≡ None = past tape s.tape_at (let a = h.tape_at in let b = is.as_long in omega arith) in
            rw none (record { values = h.values; pc = h.pc; output = h.output; tape_at = h.tape_at; end = λ i. Some kinds.TapeEnd });
      };
    }
