use Rattle.std.proofs.Common.{◌≡◌, ℕ, List, [], ◌∷◌, ◌++◌, arith, append_assoc}
use Rattle.std.specs.List.{flat_map}
use Rattle.std.proofs.lemmas.Result.{IfOk-equal}
use Rattle.core_model.specs.KernelText.{Line, registers, sw, saved, x0, x5}
use Rattle.switch_emit.proofs.Registers.{next_each, all_each}
use Rattle.switch_emit.proofs.kernel_text.append_finish.Goals as goal

abbrev scrub : ℕ → List Line
scrub i = sw x0 (saved i) x5 ∷ []

pub loop-register-preserved : goal.loop-register-preserved
loop-register-preserved c =
    rw (c.in_ok-append-2.ensures.lines, c.sw.ensures.line, c.saved.ensures.offset)
    (next_each scrub c.loop-register.register c.loop-register.text _ c.loop-register-test.true c.loop-register.invariant)

pub returns : goal.returns
returns c =
    let all : c.loop-register.text ≡ c.append.new.self ++ flat_map scrub registers =
    all_each scrub c.loop-register.register c.loop-register.text _ (omega arith) c.loop-register.invariant in
    record {
      lines = IfOk-equal _ _ _ _ c.append-2.ensures.lines
          (rw (all, c.in_ok-append.ensures.lines, c.at.ensures.line, c.addi.ensures.line, c.sw-2.ensures.line, c.port.ensures.address, c.jal.ensures.line)
          (simp append_assoc));
    }
