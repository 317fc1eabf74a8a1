-- The definition at written-out lines.
use Rattle.std.proofs.Common.{◌≡◌, [], ◌∷◌, Ok, codes, refl}
use Rattle.asm_line.specs.declared.line.Item.TheVariants.{One, Two, BranchTo}
use Rattle.isa_model.specs.declared.instr.Cmp.TheVariants.{Beq}
use Rattle.asm_line.specs.LineForm.{line_of}

addi_line : line_of (codes "a:b: addi x10,x0,42 # c") ≡ record { labels = codes "a" ∷ codes "b" ∷ []; item = Ok (One 0x02a00513) }
addi_line = refl

lw_line : line_of (codes " lw t1 , 0x10(sp) ") ≡ record { labels = []; item = Ok (One 0x01012303) }
lw_line = refl

li_line : line_of (codes "li x1,0x12345fff") ≡ record { labels = []; item = Ok (Two 0x123460b7 0xfff08093) }
li_line = refl

beq_line : line_of (codes "beq x1,x2,loop") ≡ record { labels = []; item = Ok (BranchTo Beq 1 2 (codes "loop")) }
beq_line = refl
