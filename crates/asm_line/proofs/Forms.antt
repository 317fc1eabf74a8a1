-- The text of each instruction is read as its word: one form after another.
use Rattle.std.proofs.Common.{◌≡◌, ℕ, ◌<◌, ◌^◌, Bool, true, false, ◌&&◌, ◌||◌, cond, eqb, ltb, List, [], ◌∷◌, length, codes, Some, Ok, Err, ℤ, pos, negsuc, refl, ap, ◌∙◌, arith, lit<, eqb-true, sym}
use Rattle.std.specs.List.{list_any}
use Rattle.std.proofs.lemmas.Bool.{or_parts, ltb-true, cond_both, and_from}
use Rattle.isa_model.specs.declared.instr.Cmp.{Cmp}
use Rattle.isa_model.specs.declared.instr.Cmp.TheVariants.{Beq, Bne, Blt, Bge, Bltu, Bgeu}
use Rattle.isa_model.specs.declared.instr.LoadKind.{LoadKind}
use Rattle.isa_model.specs.declared.instr.LoadKind.TheVariants as loads
use Rattle.isa_model.specs.declared.instr.StoreKind.{StoreKind}
use Rattle.isa_model.specs.declared.instr.StoreKind.TheVariants as stores
use Rattle.isa_model.specs.declared.instr.Alu.{Alu}
use Rattle.isa_model.specs.declared.instr.Alu.TheVariants as alus
use Rattle.isa_model.specs.declared.instr.CsrOp.{CsrOp}
use Rattle.isa_model.specs.declared.instr.CsrOp.TheVariants as csrs
use Rattle.isa_model.specs.declared.instr.Instr.{Instr}
use Rattle.isa_model.specs.declared.instr.Instr.TheVariants as instrs
use Rattle.isa_model.specs.Bits.{IsInBits}
use Rattle.isa_model.specs.Encoding.{IsInstr, IsShiftAmount, IsImmediate, word_of}
use Rattle.rv_decode.specs.Text.{text_of_instr, word_text, instr_line, register_text}
use Rattle.asm_line.specs.declared.line.AsmKind.TheVariants.{Operands}
use Rattle.asm_line.specs.declared.line.Item.TheVariants.{One}
use Rattle.asm_line.specs.declared.line.Line.{Line}
use Rattle.asm_line.specs.declared.pieces.Separator.TheVariants.{Hash, Colon, Comma, Blank}
use Rattle.asm_line.specs.declared.fields.Operand.{Operand}
use Rattle.asm_line.specs.declared.fields.Fields.{Fields}
use Rattle.asm_line.specs.declared.mnemonic.ImmediateOp.{ImmediateOp}
use Rattle.asm_line.specs.declared.mnemonic.ImmediateOp.TheVariants as immediates
use Rattle.asm_line.specs.declared.mnemonic.ShiftOp.{ShiftOp}
use Rattle.asm_line.specs.declared.mnemonic.ShiftOp.TheVariants as shifts
use Rattle.asm_line.specs.declared.mnemonic.Mnemonic.{Mnemonic}
use Rattle.asm_line.specs.declared.mnemonic.Mnemonic.TheVariants as words
use Rattle.asm_line.specs.Pieces.{is_separator}
use Rattle.asm_line.specs.Fields.{no_fields}
use Rattle.asm_line.specs.Operands.{◌>>=◌, with_operands, has_shape, have_shapes}
use Rattle.asm_line.specs.Table.{row_of, mnemonic_of, alu_of_immediate, alu_of_shift}
use Rattle.asm_line.specs.LineForm.{line_of, item_of_word}
use Rattle.asm_line.proofs.ReadBack.{IsPlain, ArePlain, line-words}
use Rattle.asm_line.proofs.Operands.{Fills, rd-fills, rs1-fills, rs2-fills, imm12-fills, imm20-fills, shamt-fills, uimm-fills, csr-fills, jump-fills, branch-fills, number-fills, address-fills}

-- what is read of a line with one word alone
abbrev pub Reads : List ℕ → ℕ → Type 0
Reads text word = line_of text ≡ record { labels = []; item = Ok (One word) }

-- ---- names

-- the name of a word is known as this word, and nothing in it parts a line
pub record IsNamed (word : Mnemonic) : Type 0 where
  pub known : mnemonic_of (row_of word).name ≡ Some word
  pub some : 0 < length (row_of word).name
  pub plain : IsPlain (row_of word).name

-- whether a byte of the text parts a line
abbrev pub parts_line : List ℕ → Bool
parts_line text = list_any (is_separator Hash) text || (list_any (is_separator Colon) text || (list_any (is_separator Comma) text || list_any (is_separator Blank) text))

named_by : (word : Mnemonic) → mnemonic_of (row_of word).name ≡ Some word → ltb 0 (length (row_of word).name) ≡ true → parts_line (row_of word).name ≡ false → IsNamed word
named_by word known some whole =
    let text = (row_of word).name in
    let hash = or_parts (list_any (is_separator Hash) text) (list_any (is_separator Colon) text || (list_any (is_separator Comma) text || list_any (is_separator Blank) text)) whole in
    let colon = or_parts (list_any (is_separator Colon) text) (list_any (is_separator Comma) text || list_any (is_separator Blank) text) hash.1 in
    let comma = or_parts (list_any (is_separator Comma) text) (list_any (is_separator Blank) text) colon.1 in
    record {
      known = known;
      some = ltb-true 0 (length text) some;
      plain = record { hash = hash.0; colon = colon.0; comma = comma.0; blank = comma.1 };
    }

named_branch : (op : Cmp) → IsNamed (words.Branch op)
named_branch Beq = named_by (words.Branch Beq) refl refl refl
named_branch Bne = named_by (words.Branch Bne) refl refl refl
named_branch Blt = named_by (words.Branch Blt) refl refl refl
named_branch Bge = named_by (words.Branch Bge) refl refl refl
named_branch Bltu = named_by (words.Branch Bltu) refl refl refl
named_branch Bgeu = named_by (words.Branch Bgeu) refl refl refl

named_load : (op : LoadKind) → IsNamed (words.Load op)
named_load loads.B = named_by (words.Load loads.B) refl refl refl
named_load loads.H = named_by (words.Load loads.H) refl refl refl
named_load loads.W = named_by (words.Load loads.W) refl refl refl
named_load loads.Bu = named_by (words.Load loads.Bu) refl refl refl
named_load loads.Hu = named_by (words.Load loads.Hu) refl refl refl

named_store : (op : StoreKind) → IsNamed (words.Store op)
named_store stores.B = named_by (words.Store stores.B) refl refl refl
named_store stores.H = named_by (words.Store stores.H) refl refl refl
named_store stores.W = named_by (words.Store stores.W) refl refl refl

named_immediate : (op : ImmediateOp) → IsNamed (words.Immediate op)
named_immediate immediates.Add = named_by (words.Immediate immediates.Add) refl refl refl
named_immediate immediates.Slt = named_by (words.Immediate immediates.Slt) refl refl refl
named_immediate immediates.Sltu = named_by (words.Immediate immediates.Sltu) refl refl refl
named_immediate immediates.Xor = named_by (words.Immediate immediates.Xor) refl refl refl
named_immediate immediates.Or = named_by (words.Immediate immediates.Or) refl refl refl
named_immediate immediates.And = named_by (words.Immediate immediates.And) refl refl refl

named_shift : (op : ShiftOp) → IsNamed (words.Shift op)
named_shift shifts.Sll = named_by (words.Shift shifts.Sll) refl refl refl
named_shift shifts.Srl = named_by (words.Shift shifts.Srl) refl refl refl
named_shift shifts.Sra = named_by (words.Shift shifts.Sra) refl refl refl

named_register : (op : Alu) → IsNamed (words.Register op)
named_register alus.Add = named_by (words.Register alus.Add) refl refl refl
named_register alus.Sub = named_by (words.Register alus.Sub) refl refl refl
named_register alus.Sll = named_by (words.Register alus.Sll) refl refl refl
named_register alus.Slt = named_by (words.Register alus.Slt) refl refl refl
named_register alus.Sltu = named_by (words.Register alus.Sltu) refl refl refl
named_register alus.Xor = named_by (words.Register alus.Xor) refl refl refl
named_register alus.Srl = named_by (words.Register alus.Srl) refl refl refl
named_register alus.Sra = named_by (words.Register alus.Sra) refl refl refl
named_register alus.Or = named_by (words.Register alus.Or) refl refl refl
named_register alus.And = named_by (words.Register alus.And) refl refl refl
named_register alus.Mul = named_by (words.Register alus.Mul) refl refl refl
named_register alus.Mulh = named_by (words.Register alus.Mulh) refl refl refl
named_register alus.Mulhsu = named_by (words.Register alus.Mulhsu) refl refl refl
named_register alus.Mulhu = named_by (words.Register alus.Mulhu) refl refl refl
named_register alus.Div = named_by (words.Register alus.Div) refl refl refl
named_register alus.Divu = named_by (words.Register alus.Divu) refl refl refl
named_register alus.Rem = named_by (words.Register alus.Rem) refl refl refl
named_register alus.Remu = named_by (words.Register alus.Remu) refl refl refl

named_csr : (op : CsrOp) → IsNamed (words.Csr op)
named_csr csrs.Rw = named_by (words.Csr csrs.Rw) refl refl refl
named_csr csrs.Rs = named_by (words.Csr csrs.Rs) refl refl refl
named_csr csrs.Rc = named_by (words.Csr csrs.Rc) refl refl refl

named_csr_immediate : (op : CsrOp) → IsNamed (words.CsrImmediate op)
named_csr_immediate csrs.Rw = named_by (words.CsrImmediate csrs.Rw) refl refl refl
named_csr_immediate csrs.Rs = named_by (words.CsrImmediate csrs.Rs) refl refl refl
named_csr_immediate csrs.Rc = named_by (words.CsrImmediate csrs.Rc) refl refl refl

-- ---- lines

-- a word with operands whose texts fill these fields
reads_row : (word : Mnemonic) (text : List ℕ) (texts : List (List ℕ)) (f : Fields) → IsNamed word → 0 < length text → ArePlain (text ∷ texts)
    → have_shapes (row_of word).operands (text ∷ texts) ≡ true → with_operands (row_of word).operands (text ∷ texts) no_fields ≡ Ok f
    → line_of (instr_line (row_of word).name (text ∷ texts)) ≡ record { labels = []; item = Ok ((row_of word).item f) }
reads_row word text texts f named some plain shapes fields =
    let row = row_of word in
    line-words row.name text texts named.some named.plain some plain
    ∙ ap (λ o. let l : Line = record { labels = []; item = item_of_word o (text ∷ texts) } in l) named.known
    ∙ ap (λ b. let l : Line = record { labels = []; item = cond b (with_operands row.operands (text ∷ texts) no_fields >>= λ g. Ok (row.item g)) (Err Operands) } in l) shapes
    ∙ ap (λ r. let l : Line = record { labels = []; item = r >>= λ g. Ok (row.item g) } in l) fields

reads_one : {a : Operand} {s : List ℕ} {f : Fields} (word : Mnemonic) → IsNamed word → (row_of word).operands ≡ a ∷ [] → 0 < length s → Fills a s no_fields f
    → line_of (instr_line (row_of word).name (s ∷ [])) ≡ record { labels = []; item = Ok ((row_of word).item f) }
reads_one {a} {s} {f} word named e some p =
    reads_row word s [] f named some (p.plain, tt)
    (ap (λ l. have_shapes l (s ∷ [])) e ∙ and_from (has_shape a s) true p.shape refl)
    (ap (λ l. with_operands l (s ∷ []) no_fields) e ∙ ap (λ r. r >>= λ k. Ok k) p.fields)

reads_two : {a b : Operand} {s t : List ℕ} {f g : Fields} (word : Mnemonic) → IsNamed word → (row_of word).operands ≡ a ∷ b ∷ [] → 0 < length s
    → Fills a s no_fields f → Fills b t f g
    → line_of (instr_line (row_of word).name (s ∷ t ∷ [])) ≡ record { labels = []; item = Ok ((row_of word).item g) }
reads_two {a} {b} {s} {t} {f} {g} word named e some p q =
    reads_row word s (t ∷ []) g named some (p.plain, (q.plain, tt))
    (ap (λ l. have_shapes l (s ∷ t ∷ [])) e ∙ and_from (has_shape a s) (has_shape b t && true) p.shape (and_from (has_shape b t) true q.shape refl))
    (ap (λ l. with_operands l (s ∷ t ∷ []) no_fields) e
    ∙ ap (λ r. r >>= λ k. with_operands (b ∷ []) (t ∷ []) k) p.fields ∙ ap (λ r. r >>= λ k. Ok k) q.fields)

reads_three : {a b c : Operand} {s t u : List ℕ} {f g h : Fields} (word : Mnemonic) → IsNamed word → (row_of word).operands ≡ a ∷ b ∷ c ∷ [] → 0 < length s
    → Fills a s no_fields f → Fills b t f g → Fills c u g h
    → line_of (instr_line (row_of word).name (s ∷ t ∷ u ∷ [])) ≡ record { labels = []; item = Ok ((row_of word).item h) }
reads_three {a} {b} {c} {s} {t} {u} {f} {g} {h} word named e some p q r =
    reads_row word s (t ∷ u ∷ []) h named some (p.plain, (q.plain, (r.plain, tt)))
    (ap (λ l. have_shapes l (s ∷ t ∷ u ∷ [])) e
    ∙ and_from (has_shape a s) (has_shape b t && (has_shape c u && true)) p.shape
    (and_from (has_shape b t) (has_shape c u && true) q.shape (and_from (has_shape c u) true r.shape refl)))
    (ap (λ l. with_operands l (s ∷ t ∷ u ∷ []) no_fields) e
    ∙ ap (λ o. o >>= λ k. with_operands (b ∷ c ∷ []) (t ∷ u ∷ []) k) p.fields
    ∙ ap (λ o. o >>= λ k. with_operands (c ∷ []) (u ∷ []) k) q.fields ∙ ap (λ o. o >>= λ k. Ok k) r.fields)

register_some : (r : ℕ) → 0 < length (register_text r)
register_some r = omega arith

-- ---- forms

pub reads_word : (word : ℕ) → word < 2 ^ 32 → Reads (word_text word) word
reads_word word lt = reads_one words.Word (named_by words.Word refl refl refl) refl (lit< tt) (number-fills word no_fields lt)

reads_fence : (word : ℕ) → word < 2 ^ 32 → Reads (text_of_instr (instrs.Fence word)) word
reads_fence word lt =
    cond_both (eqb word 0x0ff0000f) (codes "fence") (word_text word) (λ text. Reads text word)
    (λ h. ap (λ w. let l : Line = record { labels = []; item = Ok (One w) } in l) (sym (eqb-true word 0x0ff0000f h)))
    (λ h. reads_word word lt)

-- the immediate of an operation is in the range that its text is read in
reads_immediate : (op : ImmediateOp) (rd rs1 : ℕ) (imm : ℤ) → rd < 32 → rs1 < 32 → IsInBits 11 imm
    → Reads (text_of_instr (instrs.AluImm (alu_of_immediate op) rd rs1 imm)) (word_of (instrs.AluImm (alu_of_immediate op) rd rs1 imm))
reads_immediate op rd rs1 imm p q r =
    reads_three (words.Immediate op) (named_immediate op) refl (register_some rd) (rd-fills rd no_fields p) (rs1-fills rs1 (record no_fields { rd = rd }) q)
    (imm12-fills imm (record no_fields { rd = rd; rs1 = rs1 }) r)

reads_shift : (op : ShiftOp) (rd rs1 : ℕ) (imm : ℤ) → rd < 32 → rs1 < 32 → IsShiftAmount imm
    → Reads (text_of_instr (instrs.AluImm (alu_of_shift op) rd rs1 imm)) (word_of (instrs.AluImm (alu_of_shift op) rd rs1 imm))
reads_shift op rd rs1 (negsuc n) p q r = absurd r
reads_shift op rd rs1 (pos n) p q r =
    reads_three (words.Shift op) (named_shift op) refl (register_some rd) (rd-fills rd no_fields p) (rs1-fills rs1 (record no_fields { rd = rd }) q)
    (shamt-fills n (record no_fields { rd = rd; rs1 = rs1 }) r)

reads_alu_imm : (op : Alu) (rd rs1 : ℕ) (imm : ℤ) → rd < 32 → rs1 < 32 → IsImmediate op imm
    → Reads (text_of_instr (instrs.AluImm op rd rs1 imm)) (word_of (instrs.AluImm op rd rs1 imm))
reads_alu_imm alus.Add rd rs1 imm p q r = reads_immediate immediates.Add rd rs1 imm p q r
reads_alu_imm alus.Slt rd rs1 imm p q r = reads_immediate immediates.Slt rd rs1 imm p q r
reads_alu_imm alus.Sltu rd rs1 imm p q r = reads_immediate immediates.Sltu rd rs1 imm p q r
reads_alu_imm alus.Xor rd rs1 imm p q r = reads_immediate immediates.Xor rd rs1 imm p q r
reads_alu_imm alus.Or rd rs1 imm p q r = reads_immediate immediates.Or rd rs1 imm p q r
reads_alu_imm alus.And rd rs1 imm p q r = reads_immediate immediates.And rd rs1 imm p q r
reads_alu_imm alus.Sll rd rs1 imm p q r = reads_shift shifts.Sll rd rs1 imm p q r
reads_alu_imm alus.Srl rd rs1 imm p q r = reads_shift shifts.Srl rd rs1 imm p q r
reads_alu_imm alus.Sra rd rs1 imm p q r = reads_shift shifts.Sra rd rs1 imm p q r
reads_alu_imm _ rd rs1 imm p q r = absurd r

-- what is written of an instruction is read as its word
pub reads_instr : (instr : Instr) → IsInstr instr → Reads (text_of_instr instr) (word_of instr)
reads_instr (instrs.Lui rd imm20) h =
    reads_two words.Lui (named_by words.Lui refl refl refl) refl (register_some rd) (rd-fills rd no_fields h.0) (imm20-fills imm20 (record no_fields { rd = rd }) h.1)
reads_instr (instrs.Auipc rd imm20) h =
    reads_two words.Auipc (named_by words.Auipc refl refl refl) refl (register_some rd) (rd-fills rd no_fields h.0) (imm20-fills imm20 (record no_fields { rd = rd }) h.1)
reads_instr (instrs.Jal rd off) h =
    reads_two words.Jal (named_by words.Jal refl refl refl) refl (register_some rd) (rd-fills rd no_fields h.0) (jump-fills off (record no_fields { rd = rd }) h.1 h.2)
reads_instr (instrs.Jalr rd rs1 imm) h =
    reads_two words.Jalr (named_by words.Jalr refl refl refl) refl (register_some rd) (rd-fills rd no_fields h.0) (address-fills imm rs1 (record no_fields { rd = rd }) h.2 h.1)
reads_instr (instrs.Branch op rs1 rs2 off) h =
    reads_three (words.Branch op) (named_branch op) refl (register_some rs1) (rs1-fills rs1 no_fields h.0) (rs2-fills rs2 (record no_fields { rs1 = rs1 }) h.1)
    (branch-fills off (record no_fields { rs1 = rs1; rs2 = rs2 }) h.2 h.3)
reads_instr (instrs.Load kind rd rs1 imm) h =
    reads_two (words.Load kind) (named_load kind) refl (register_some rd) (rd-fills rd no_fields h.0) (address-fills imm rs1 (record no_fields { rd = rd }) h.2 h.1)
reads_instr (instrs.Store kind rs2 rs1 imm) h =
    reads_two (words.Store kind) (named_store kind) refl (register_some rs2) (rs2-fills rs2 no_fields h.0) (address-fills imm rs1 (record no_fields { rs2 = rs2 }) h.2 h.1)
reads_instr (instrs.AluImm op rd rs1 imm) h = reads_alu_imm op rd rs1 imm h.0 h.1 h.2
reads_instr (instrs.AluReg op rd rs1 rs2) h =
    reads_three (words.Register op) (named_register op) refl (register_some rd) (rd-fills rd no_fields h.0) (rs1-fills rs1 (record no_fields { rd = rd }) h.1)
    (rs2-fills rs2 (record no_fields { rd = rd; rs1 = rs1 }) h.2)
reads_instr (instrs.Fence word) h = reads_fence word h.0
reads_instr instrs.Ecall h = refl
reads_instr instrs.Ebreak h = refl
reads_instr instrs.Mret h = refl
reads_instr (instrs.Csr op rd rs1 csr) h =
    reads_three (words.Csr op) (named_csr op) refl (register_some rd) (rd-fills rd no_fields h.0) (csr-fills csr (record no_fields { rd = rd }) h.2)
    (rs1-fills rs1 (record no_fields { rd = rd; csr = csr }) h.1)
reads_instr (instrs.CsrImm op rd uimm csr) h =
    reads_three (words.CsrImmediate op) (named_csr_immediate op) refl (register_some rd) (rd-fills rd no_fields h.0) (csr-fills csr (record no_fields { rd = rd }) h.2)
    (uimm-fills uimm (record no_fields { rd = rd; csr = csr }) h.1)
