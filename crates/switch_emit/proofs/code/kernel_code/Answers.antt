use Rattle.switch_emit.proofs.code.kernel_code.Goals as goal

pub returns : goal.returns
returns c = record { code = rw (c.in_ok-append_kernel.ensures.lines, c.new-text.ensures.lines) at c.code_of.ensures.code }
