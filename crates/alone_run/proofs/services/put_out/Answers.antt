-- There is room in the machine's output exactly where there is room in the state's.
use Rattle.std.proofs.Common.{◌≡◌, ◌++◌, [], ◌∷◌, length, nat_lt, true, false, sym, ◌∙◌, refl, ap}
use Rattle.isa_model.specs.declared.task.Task.{Task}
use Rattle.isa_model.specs.Alone.{AloneState}
use Rattle.alone_run.specs.StandsFor.{StandsFor}
use Rattle.alone_run.specs.declared.machine.Machine.{Machine}
use Rattle.alone_run.proofs.services.put_out.Goals as goal

same_room : (T : Task) (s : AloneState) (m : Machine) → StandsFor T s m → nat_lt (length m.output.words) m.output.max ≡ nat_lt (length s.output) T.out_max
same_room T s m h = rw (h.output, h.output_max) refl

pub returns-then-append : goal.returns-then-append
returns-then-append c = record {
  left = λ T s h.
      let m = c.args.machine.now in
      let room : nat_lt (length m.output.words) m.output.max ≡ true = sym c.append.ensures.room ∙ c.if-append.true in
      let room' : nat_lt (length s.output) T.out_max ≡ true = sym (same_room T s m h) ∙ room in
      let after = rw room at c.append.ensures.after in
      rw room' (c.return_from.ensures.left T (record s { output = s.output ++ c.args.word ∷ [] }) (record {
        latches = h.latches;
        pc = h.pc;
        output = ap (λ o. o.words) after ∙ ap (λ ws. ws ++ c.args.word ∷ []) h.output;
        output_max = ap (λ o. o.max) after ∙ h.output_max;
        tape_at = h.tape_at;
        end = h.end;
      }));
}

pub returns-else-append : goal.returns-else-append
returns-else-append c = record {
  left = λ T s h.
      let m = c.args.machine.now in
      let room : nat_lt (length m.output.words) m.output.max ≡ false = sym c.append.ensures.room ∙ c.if-append.false in
      let room' : nat_lt (length s.output) T.out_max ≡ false = sym (same_room T s m h) ∙ room in
      let after = rw room at c.append.ensures.after in
      rw room' (c.finish.ensures.left T s (record {
        latches = h.latches;
        pc = h.pc;
        output = ap (λ o. o.words) after ∙ h.output;
        output_max = ap (λ o. o.max) after ∙ h.output_max;
        tape_at = h.tape_at;
        end = h.end;
      }));
}
