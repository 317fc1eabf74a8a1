-- The words so far are written.
use Rattle.std.proofs.Common.{◌≡◌, take}
use Rattle.rv_asm.specs.Disassembly.{listing_of}
use Rattle.rv_asm.proofs.disassembling.disassemble.Given as goal

abbrev pub invariant-loop-word : goal.invariant-loop-word
invariant-loop-word l = l.text.items ≡ listing_of (take l.word-index l.words)
