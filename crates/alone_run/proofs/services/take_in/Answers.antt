-- The next word of the machine's tape is that of the state's.
use Rattle.std.proofs.Common.{◌≡◌, ◌+◌, sym, ◌∙◌, ap, Some, None, slice_get}
use Rattle.isa_model.specs.declared.latch.Latch.TheVariants.{Reg}
use Rattle.isa_model.specs.Alone.{with_value}
use Rattle.alone_run.proofs.services.take_in.Goals as goal

pub returns-in-Some : goal.returns-in-Some
returns-in-Some c = record {
  left = λ s h.
      let T = c.args.task.now in
      let here : slice_get T.tape s.tape_at ≡ Some c.in-Some.word = ap (λ k. slice_get T.tape k) (sym h.tape_at) ∙ sym c.in-Some.ensures.word in
      rw here (c.return_from.ensures.left T (record s { value = with_value (Reg 10) c.in-Some.word s.value; tape_at = s.tape_at + 1 }) (record {
        latches = c.write_a0.ensures.held T s.value h.latches;
        pc = h.pc;
        output = h.output;
        output_max = h.output_max;
        tape_at = ap (λ k. k + 1) h.tape_at;
        end = h.end;
      }));
}

pub returns-in-None : goal.returns-in-None
returns-in-None c = record {
  left = λ s h.
      let T = c.args.task.now in
      let here : slice_get T.tape s.tape_at ≡ None = ap (λ k. slice_get T.tape k) (sym h.tape_at) ∙ sym c.in-None.ensures.word in
      rw here (c.finish.ensures.left T s h);
}
