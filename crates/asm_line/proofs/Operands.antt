-- The texts of operands are plain, and fill the fields that they were written of.
use Rattle.std.proofs.Common.{◌≡◌, ℕ, suc, ◌+◌, ◌-◌, ◌<◌, ◌^◌, Bool, true, false, List, [], ◌∷◌, ◌++◌, length, take, codes, nat_eq, Result, Ok, ℤ, pos, negsuc, refl, ap, sym, ◌∙◌, arith, length-append, append_assoc, take_at, drop_at, lit<, lit≤}
use Rattle.std.specs.Fmt.{decimal, signed_decimal}
use Rattle.std.specs.Cmp.Lexicographic.{pointwise}
use Rattle.std.specs.List.{list_any, ends_with}
use Rattle.std.proofs.lemmas.Bool.{or_from, or_right, and_from}
use Rattle.std.proofs.lemmas.List.Folds.{list_any-append}
use Rattle.isa_model.specs.Bits.{IsInBits}
use Rattle.isa_model.specs.Encoding.{IsEven}
use Rattle.rv_decode.specs.Text.{register_text, target_text, address_text, csr_text, hex_digits}
use Rattle.asm_line.specs.declared.line.AsmKind.{AsmKind}
use Rattle.asm_line.specs.declared.pieces.Separator.{Separator}
use Rattle.asm_line.specs.declared.pieces.Separator.TheVariants.{Hash, Colon, Comma, Opening, Blank}
use Rattle.asm_line.specs.declared.fields.Operand.{Operand}
use Rattle.asm_line.specs.declared.fields.Operand.TheVariants.{Rd, Rs1, Rs2, Imm12, Imm20, Shamt, Uimm, Address, Csr, JumpTarget, BranchTarget, Number}
use Rattle.asm_line.specs.declared.fields.Fields.{Fields}
use Rattle.asm_line.specs.declared.fields.Target.TheVariants.{Distance}
use Rattle.asm_line.specs.Pieces.{is_separator, is_address, offset_part, register_part}
use Rattle.asm_line.specs.Operands.{◌>>=◌, register, number_in, unsigned_in, word_in, csr, target, with_operand, has_shape}
use Rattle.asm_line.proofs.Parts.{Lacks, lacks-append, before_first-at, after_first-at}
use Rattle.asm_line.proofs.Written.{decimal-lacks, hex-lacks, in_32, register-text, number_of-decimal, unsigned_in-is, imm12-text, csr-text, target-text, number_of-hex, word_in-is}
use Rattle.asm_line.proofs.ReadBack.{IsPlain}

-- ---- plain texts

lacks-cons : (p : ℕ → Bool) (b : ℕ) (bs : List ℕ) → p b ≡ false → Lacks p bs → Lacks p (b ∷ bs)
lacks-cons p b bs h k = or_from (p b) (list_any p bs) h k

decimal-plain : (n : ℕ) → n < 2 ^ 64 → IsPlain (decimal n)
decimal-plain n lt = record { hash = decimal-lacks Hash n lt; colon = decimal-lacks Colon n lt; comma = decimal-lacks Comma n lt; blank = decimal-lacks Blank n lt }

register-plain : (r : ℕ) → r < 32 → IsPlain (register_text r)
register-plain r lt = let p = decimal-plain r (omega arith) in record { hash = p.hash; colon = p.colon; comma = p.comma; blank = p.blank }

signed-lacks : (s : Separator) (z : ℤ) → is_separator s 0x2d ≡ false → IsInBits 32 z → Lacks (is_separator s) (signed_decimal z)
signed-lacks s (pos n) minus small = decimal-lacks s n (omega arith)
signed-lacks s (negsuc n) minus small = lacks-cons (is_separator s) 0x2d (decimal (suc n)) minus (decimal-lacks s (suc n) (omega arith))

signed-plain : (z : ℤ) → IsInBits 32 z → IsPlain (signed_decimal z)
signed-plain z small = record {
  hash = signed-lacks Hash z refl small;
  colon = signed-lacks Colon z refl small;
  comma = signed-lacks Comma z refl small;
  blank = signed-lacks Blank z refl small;
}

target-plain : (z : ℤ) → IsInBits 32 z → IsPlain (target_text z)
target-plain (pos n) small = let p = decimal-plain n (omega arith) in record { hash = p.hash; colon = p.colon; comma = p.comma; blank = p.blank }
target-plain (negsuc n) small = let p = decimal-plain (n + 1) (omega arith) in record { hash = p.hash; colon = p.colon; comma = p.comma; blank = p.blank }

hex-plain : (count n : ℕ) → IsPlain (codes "0x" ++ hex_digits count n)
hex-plain count n = record { hash = hex-lacks Hash count n; colon = hex-lacks Colon count n; comma = hex-lacks Comma count n; blank = hex-lacks Blank count n }

address-lacks : (s : Separator) (z : ℤ) (r : ℕ) → is_separator s 0x2d ≡ false → is_separator s 0x28 ≡ false → is_separator s 0x78 ≡ false → is_separator s 0x29 ≡ false
    → IsInBits 32 z → r < 32 → Lacks (is_separator s) (address_text z r)
address-lacks s z r minus opening letter closing small lt =
    let p = is_separator s in
    lacks-append p (signed_decimal z) (0x28 ∷ (register_text r ++ (0x29 ∷ []))) (signed-lacks s z minus small)
    (lacks-cons p 0x28 (register_text r ++ (0x29 ∷ [])) opening
    (lacks-append p (register_text r) (0x29 ∷ []) (lacks-cons p 0x78 (decimal r) letter (decimal-lacks s r (omega arith))) (lacks-cons p 0x29 [] closing refl)))

address-plain : (z : ℤ) (r : ℕ) → IsInBits 32 z → r < 32 → IsPlain (address_text z r)
address-plain z r small lt = record {
  hash = address-lacks Hash z r refl refl refl refl small lt;
  colon = address-lacks Colon z r refl refl refl refl small lt;
  comma = address-lacks Comma z r refl refl refl refl small lt;
  blank = address-lacks Blank z r refl refl refl refl small lt;
}

-- ---- the parts of an address

ends-closed : (xs : List ℕ) → ends_with nat_eq (xs ++ 0x29 ∷ []) (0x29 ∷ []) ≡ true
ends-closed xs =
    let e = length-append xs (0x29 ∷ []) in
    ap (λ l. pointwise nat_eq (0x29 ∷ []) l) (drop_at xs (0x29 ∷ []) (length (xs ++ 0x29 ∷ []) - 1) (omega arith))

address-shape : (z : ℤ) (r : ℕ) → is_address (address_text z r) ≡ true
address-shape z r =
    let p = is_separator Opening in
    let offset = signed_decimal z in
    let base = register_text r in
    and_from (list_any p (address_text z r)) (ends_with nat_eq (address_text z r) (codes ")"))
    (list_any-append p offset (0x28 ∷ (base ++ 0x29 ∷ [])) ∙ or_right (list_any p offset) true refl)
    (ap (λ l. ends_with nat_eq l (0x29 ∷ [])) (sym (append_assoc offset (0x28 ∷ base) (0x29 ∷ []))) ∙ ends-closed (offset ++ 0x28 ∷ base))

address-offset : (z : ℤ) (r : ℕ) → IsInBits 32 z → offset_part (address_text z r) ≡ signed_decimal z
address-offset z r small =
    before_first-at (is_separator Opening) (signed_decimal z) 0x28 (register_text r ++ 0x29 ∷ []) (signed-lacks Opening z refl small) refl

address-register : (z : ℤ) (r : ℕ) → IsInBits 32 z → register_part (address_text z r) ≡ register_text r
address-register z r small =
    let base = register_text r in
    let e = length-append base (0x29 ∷ []) in
    ap (λ l. take (length l - 1) l) (after_first-at (is_separator Opening) (signed_decimal z) 0x28 (base ++ 0x29 ∷ []) (signed-lacks Opening z refl small) refl)
    ∙ take_at base (0x29 ∷ []) (length (base ++ 0x29 ∷ []) - 1) (omega arith)

-- ---- what the texts fill

-- a plain text of the operand's shape, which takes the fields f to g
pub record Fills (operand : Operand) (text : List ℕ) (f g : Fields) : Type 0 where
  pub plain : IsPlain text
  pub shape : has_shape operand text ≡ true
  pub fields : with_operand operand text f ≡ Ok g

-- an operand whose text is read as x, which one field takes
taken : {A : Type 0} (o : Result A AsmKind) (x : A) (with_it : A → Fields) → o ≡ Ok x → (o >>= λ y. Ok (with_it y)) ≡ Ok (with_it x)
taken o x with_it e = ap (λ r. r >>= λ y. Ok (with_it y)) e

pub rd-fills : (r : ℕ) (f : Fields) → r < 32 → Fills Rd (register_text r) f (record f { rd = r })
rd-fills r f lt = record {
  plain = register-plain r lt;
  shape = refl;
  fields = taken (register (register_text r)) r (λ y. record f { rd = y }) (register-text r lt);
}

pub rs1-fills : (r : ℕ) (f : Fields) → r < 32 → Fills Rs1 (register_text r) f (record f { rs1 = r })
rs1-fills r f lt = record {
  plain = register-plain r lt;
  shape = refl;
  fields = taken (register (register_text r)) r (λ y. record f { rs1 = y }) (register-text r lt);
}

pub rs2-fills : (r : ℕ) (f : Fields) → r < 32 → Fills Rs2 (register_text r) f (record f { rs2 = r })
rs2-fills r f lt = record {
  plain = register-plain r lt;
  shape = refl;
  fields = taken (register (register_text r)) r (λ y. record f { rs2 = y }) (register-text r lt);
}

pub imm12-fills : (z : ℤ) (f : Fields) → IsInBits 11 z → Fills Imm12 (signed_decimal z) f (record f { imm12 = z })
imm12-fills z f small = record {
  plain = signed-plain z (in_32 z 11 (lit≤ tt) small);
  shape = refl;
  fields = taken (number_in (2 ^ 11) (2 ^ 11 - 1) (signed_decimal z)) z (λ y. record f { imm12 = y }) (imm12-text z small);
}

pub imm20-fills : (n : ℕ) (f : Fields) → n < 2 ^ 20 → Fills Imm20 (decimal n) f (record f { imm20 = n })
imm20-fills n f lt = record {
  plain = decimal-plain n (omega arith);
  shape = refl;
  fields = taken (unsigned_in (2 ^ 20 - 1) (decimal n)) n (λ y. record f { imm20 = y }) (unsigned_in-is (2 ^ 20 - 1) (decimal n) n (number_of-decimal n (omega arith)) (omega arith));
}

pub shamt-fills : (n : ℕ) (f : Fields) → n < 32 → Fills Shamt (decimal n) f (record f { shamt = n })
shamt-fills n f lt = record {
  plain = decimal-plain n (omega arith);
  shape = refl;
  fields = taken (unsigned_in 31 (decimal n)) n (λ y. record f { shamt = y }) (unsigned_in-is 31 (decimal n) n (number_of-decimal n (omega arith)) (omega arith));
}

pub uimm-fills : (n : ℕ) (f : Fields) → n < 32 → Fills Uimm (decimal n) f (record f { uimm = n })
uimm-fills n f lt = record {
  plain = decimal-plain n (omega arith);
  shape = refl;
  fields = taken (unsigned_in 31 (decimal n)) n (λ y. record f { uimm = y }) (unsigned_in-is 31 (decimal n) n (number_of-decimal n (omega arith)) (omega arith));
}

pub csr-fills : (n : ℕ) (f : Fields) → n < 2 ^ 12 → Fills Csr (csr_text n) f (record f { csr = n })
csr-fills n f lt = record {
  plain = hex-plain 3 n;
  shape = refl;
  fields = taken (csr (csr_text n)) n (λ y. record f { csr = y }) (csr-text n lt);
}

pub jump-fills : (z : ℤ) (f : Fields) → IsInBits 20 z → IsEven z → Fills JumpTarget (target_text z) f (record f { jump = Distance z })
jump-fills z f small even = record {
  plain = target-plain z (in_32 z 20 (lit≤ tt) small);
  shape = refl;
  fields = taken (target (2 ^ 20) (target_text z)) (Distance z) (λ y. record f { jump = y }) (target-text 20 z (lit< tt) (lit≤ tt) small even);
}

pub branch-fills : (z : ℤ) (f : Fields) → IsInBits 12 z → IsEven z → Fills BranchTarget (target_text z) f (record f { branch = Distance z })
branch-fills z f small even = record {
  plain = target-plain z (in_32 z 12 (lit≤ tt) small);
  shape = refl;
  fields = taken (target (2 ^ 12) (target_text z)) (Distance z) (λ y. record f { branch = y }) (target-text 12 z (lit< tt) (lit≤ tt) small even);
}

pub number-fills : (n : ℕ) (f : Fields) → n < 2 ^ 32 → Fills Number (codes "0x" ++ hex_digits 8 n) f (record f { number = n })
number-fills n f lt =
    let text = codes "0x" ++ hex_digits 8 n in
    record {
      plain = hex-plain 8 n;
      shape = refl;
      fields = taken (word_in text) n (λ y. record f { number = y }) (word_in-is text n (number_of-hex 8 n (lit< tt) lt) lt);
    }

address-read : (z : ℤ) (r : ℕ) (f : Fields) → IsInBits 11 z → r < 32 → with_operand Address (address_text z r) f ≡ Ok (record f { rs1 = r; imm12 = z })
address-read z r f small lt =
    let text = address_text z r in
    let whole = in_32 z 11 (lit≤ tt) small in
    ap (λ t. register t >>= λ y. (number_in (2 ^ 11) (2 ^ 11 - 1) (offset_part text) >>= λ n. Ok (record f { rs1 = y; imm12 = n }))) (address-register z r whole)
    ∙ ap (λ o. o >>= λ y. (number_in (2 ^ 11) (2 ^ 11 - 1) (offset_part text) >>= λ n. Ok (record f { rs1 = y; imm12 = n }))) (register-text r lt)
    ∙ ap (λ t. number_in (2 ^ 11) (2 ^ 11 - 1) t >>= λ n. Ok (record f { rs1 = r; imm12 = n })) (address-offset z r whole)
    ∙ taken (number_in (2 ^ 11) (2 ^ 11 - 1) (signed_decimal z)) z (λ y. record f { rs1 = r; imm12 = y }) (imm12-text z small)

pub address-fills : (z : ℤ) (r : ℕ) (f : Fields) → IsInBits 11 z → r < 32 → Fills Address (address_text z r) f (record f { rs1 = r; imm12 = z })
address-fills z r f small lt = record {
  plain = address-plain z r (in_32 z 11 (lit≤ tt) small) lt;
  shape = address-shape z r;
  fields = address-read z r f small lt;
}
