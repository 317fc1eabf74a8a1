use Rattle.std.proofs.Common.{◌≡◌, ℕ, List, [], ◌∷◌, ◌++◌, arith, append_assoc}
use Rattle.std.specs.List.{flat_map}
use Rattle.std.proofs.lemmas.Result.{IfOk-equal}
use Rattle.core_model.specs.KernelText.{Line, registers_but_x5, lw, clear_load, saved, x5}
use Rattle.switch_emit.proofs.Registers.{next_kept, next_skipped, all_kept}
use Rattle.switch_emit.proofs.kernel_text.append_restore.Goals as goal
use Rattle.switch_emit.proofs.kernel_text.append_restore.Goals.{then-register-ne-X5+in_ok-append, else-register-ne-X5}

abbrev restored : ℕ → List Line
restored i = lw i (saved i) x5 ∷ clear_load ∷ []

pub loop-register-preserved : goal.loop-register-preserved
loop-register-preserved c =
    let r = c.loop-register.register in
    let lines = c.loop-register.text in
    let below = c.loop-register-test.true in
    elim c.if-register-ne-X5.branch [
      | then-register-ne-X5+in_ok-append w ↦
          rw (w.text-is, w.in_ok-append.ensures.lines, w.lw.ensures.line, w.saved.ensures.offset, w.clear_load.ensures.line)
          (next_kept restored r lines _ below w.if-register-ne-X5.true c.loop-register.invariant)
      | else-register-ne-X5 w ↦
          rw w.text-is (next_skipped restored r lines _ below w.if-register-ne-X5.false c.loop-register.invariant)
    ]

pub returns : goal.returns
returns c =
    let all : c.loop-register.text ≡ c.args.text.now ++ flat_map restored registers_but_x5 =
    all_kept restored c.loop-register.register c.loop-register.text _ (omega arith) c.loop-register.invariant in
    record {
      lines = IfOk-equal _ _ _ _ c.append-2.ensures.lines
          (rw (all, c.lw-2.ensures.line, c.saved-2.ensures.offset, c.clear_load-2.ensures.line)
          (simp append_assoc));
    }
