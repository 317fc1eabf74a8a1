-- The parts of a task are written one after the other.
use Rattle.std.proofs.Common.{◌≡◌, ℕ, List, [], ◌∷◌, ◌++◌, ap, ◌∙◌}
use Rattle.std.proofs.lemmas.Result.{on_ok_weaker}
use Rattle.saved_form.specs.Spelling.{counted, of_progress, bytes_of}
use Rattle.saved_form.proofs.Written.{and-then}
use Rattle.saved_form.proofs.writing.add_task.Goals as goal

pub returns : goal.returns
returns c =
    let t = c.args.task.now in
    let head : List ℕ = t.band ∷ t.fuel ∷ t.out_max ∷ t.data_len ∷ [] in
    let out = c.args.out.now.items in
    let one = c.add_numbers.new.out.items in
    let two = c.add_counted.new.out.items in
    let three = c.add_counted-2.new.out.items in
    let last = of_progress t.progress in
    let code : two ≡ one ++ bytes_of (counted t.code) = c.in_ok-add_counted.ensures.ok ∙ ap (λ ws. one ++ bytes_of (counted ws)) c.as_slice.ensures.words in
    let tape : three ≡ two ++ bytes_of (counted t.tape) = c.in_ok-add_counted-2.ensures.ok ∙ ap (λ ws. two ++ bytes_of (counted ws)) c.as_slice-2.ensures.words in
    record {
      ok = on_ok_weaker c.add_progress.result (λ e.
          e
          ∙ and-then two three (counted t.tape) last tape
          ∙ and-then one two (counted t.code) (counted t.tape ++ last) code
          ∙ and-then out one head (counted t.code ++ (counted t.tape ++ last)) c.in_ok-add_numbers.ensures.ok) c.add_progress.ensures.ok;
    }
