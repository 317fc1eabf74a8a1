-- Whatever operands say, the fields are in their ranges.
use Rattle.std.proofs.Common.{◌≡◌, ℕ, ◌-◌, ◌%◌, ◌<◌, ◌≤◌, ◌^◌, Bool, true, false, ◌&&◌, cond, eqb, leb, ltb, List, [], ◌∷◌, Option, Some, None, Result, Ok, Err, IfOk, IfSome, ℤ, pos, negsuc, refl, sym, subst, arith, lit<}
use Rattle.std.specs.List.{list_all}
use Rattle.std.specs.Str.{bytes_eq}
use Rattle.std.proofs.lemmas.Bool.{and_parts, leb-true, ltb-true, eqb-true}
use Rattle.isa_model.specs.Bits.{IsInBits}
use Rattle.isa_model.specs.Encoding.{IsEven}
use Rattle.asm_line.specs.declared.line.AsmKind.{AsmKind}
use Rattle.asm_line.specs.declared.line.AsmKind.TheVariants.{BadRegister, BadNumber, OutOfRange}
use Rattle.asm_line.specs.declared.fields.Fields.{Fields}
use Rattle.asm_line.specs.declared.fields.Target.TheVariants.{Distance, Label}
use Rattle.asm_line.specs.declared.fields.Operand.{Operand}
use Rattle.asm_line.specs.declared.fields.Operand.TheVariants.{Rd, Rs1, Rs2, Imm12, Imm20, Shamt, Uimm, Address, Csr, JumpTarget, BranchTarget, Number}
use Rattle.asm_line.specs.Pieces.{offset_part, register_part}
use Rattle.asm_line.specs.Numbers.{number_of, distance_of, is_within, is_even}
use Rattle.asm_line.specs.Names.{number_named, register_names, csr_names, is_name}
use Rattle.asm_line.specs.Fields.{AreInRange, IsTargetIn, no_fields}
use Rattle.asm_line.specs.Operands.{◌>>=◌, or_fault, register, in_range, number_in, word_value, word_in, unsigned_in, csr_named, csr, target_or_label, target, with_operand, with_operands}

-- what holds of a value holds of what is made of it
after_ok : {A B : Type 0} (r : Result A AsmKind) (Q : A → Type 0) (P : B → Type 0) (k : A → Result B AsmKind) → IfOk r Q → ((x : A) → Q x → IfOk (k x) P) → IfOk (r >>= k) P
after_ok (Ok x) Q P k h more = more x h
after_ok (Err kind) Q P k h more = tt

ok_cond : {A : Type 0} (b : Bool) (x : A) (kind : AsmKind) (P : A → Type 0) → (b ≡ true → P x) → IfOk (cond b (Ok x) (Err kind)) P
ok_cond true x kind P h = h refl
ok_cond false x kind P h = tt

-- ---- names

if_found : (b : Bool) (x : ℕ) (o : Option ℕ) (P : ℕ → Type 0) → P x → IfSome o P → IfSome (cond b (Some x) o) P
if_found true x o P h more = h
if_found false x o P h more = more

pub named_below : (bound : ℕ) (entries : List (List ℕ × ℕ)) (text : List ℕ) → list_all (λ e. ltb e.1 bound) entries ≡ true
    → IfSome (number_named entries text) (λ n. n < bound)
named_below bound [] text h = tt
named_below bound (e ∷ es) text h =
    let p = and_parts (ltb e.1 bound) (list_all (λ e. ltb e.1 bound) es) h in
    if_found (bytes_eq e.0 text) e.1 (number_named es text) (λ n. n < bound) (ltb-true e.1 bound p.0) (named_below bound es text p.1)

some_ok : (o : Option ℕ) (kind : AsmKind) (P : ℕ → Type 0) → IfSome o P → IfOk (or_fault o kind) P
some_ok None kind P h = tt
some_ok (Some x) kind P h = h

pub register-range : (text : List ℕ) → IfOk (register text) (λ r. r < 32)
register-range text = some_ok (number_named register_names text) BadRegister (λ r. r < 32) (named_below 32 register_names text refl)

-- ---- numbers

abbrev pub IsWithin : ℕ → ℕ → ℤ → Type 0
IsWithin below above z = is_within below above z ≡ true

number_then_range : (below above : ℕ) (o : Option ℤ) → IfOk (or_fault o BadNumber >>= λ z. in_range below above z) (IsWithin below above)
number_then_range below above None = tt
number_then_range below above (Some z) = ok_cond (is_within below above z) z OutOfRange (IsWithin below above) (λ h. h)

pub number_in-range : (below above : ℕ) (text : List ℕ) → IfOk (number_in below above text) (IsWithin below above)
number_in-range below above text = number_then_range below above (number_of text)

pub within_12 : (z : ℤ) → IsWithin (2 ^ 11) (2 ^ 11 - 1) z → IsInBits 11 z
within_12 (pos n) h = let p = leb-true n (2 ^ 11 - 1) h in omega arith
within_12 (negsuc n) h = ltb-true n (2 ^ 11) h

within_word : (z : ℤ) → IsWithin (2 ^ 31) (2 ^ 32 - 1) z → word_value z < 2 ^ 32
within_word (pos n) h = let p = leb-true n (2 ^ 32 - 1) h in omega arith
within_word (negsuc n) h = omega arith

within_natural : (above : ℕ) (z : ℤ) → IsWithin 0 above z → word_value z ≤ above
within_natural above (pos n) h = leb-true n above h
within_natural above (negsuc n) h = let p = ltb-true n 0 h in absurd (omega arith)

pub unsigned_in-range : (above : ℕ) (text : List ℕ) → IfOk (unsigned_in above text) (λ n. n ≤ above)
unsigned_in-range above text =
    after_ok (number_in 0 above text) (IsWithin 0 above) (λ n. n ≤ above) (λ z. Ok (word_value z)) (number_in-range 0 above text)
    (λ z h. within_natural above z h)

pub word_in-range : (text : List ℕ) → IfOk (word_in text) (λ n. n < 2 ^ 32)
word_in-range text =
    after_ok (number_in (2 ^ 31) (2 ^ 32 - 1) text) (IsWithin (2 ^ 31) (2 ^ 32 - 1)) (λ n. n < 2 ^ 32) (λ z. Ok (word_value z))
    (number_in-range (2 ^ 31) (2 ^ 32 - 1) text) (λ z h. within_word z h)

csr_named-range : (o : Option ℕ) (text : List ℕ) → IfSome o (λ n. n < 2 ^ 12) → IfOk (csr_named o text) (λ n. n < 2 ^ 12)
csr_named-range (Some n) text h = h
csr_named-range None text h =
    after_ok (number_in 0 (2 ^ 12 - 1) text) (IsWithin 0 (2 ^ 12 - 1)) (λ n. n < 2 ^ 12) (λ z. Ok (word_value z)) (number_in-range 0 (2 ^ 12 - 1) text)
    (λ z h. let p = within_natural (2 ^ 12 - 1) z h in omega arith)

pub csr-range : (text : List ℕ) → IfOk (csr text) (λ n. n < 2 ^ 12)
csr-range text = csr_named-range (number_named csr_names text) text (named_below (2 ^ 12) csr_names text refl)

-- ---- targets

distance_range : (below reach : ℕ) (off : ℤ) → 0 < reach → reach ≡ 2 ^ below → (is_within reach (reach - 2) off && is_even off) ≡ true → IsInBits below off × IsEven off
distance_range below reach (pos n) some e h =
    let p = and_parts (leb n (reach - 2)) (eqb (n % 2) 0) h in
    let q = leb-true n (reach - 2) p.0 in
    (let lt : n < 2 ^ below = omega arith in lt, eqb-true (n % 2) 0 p.1)
distance_range below reach (negsuc n) some e h =
    let p = and_parts (ltb n reach) (eqb (n % 2) 1) h in
    let q = ltb-true n reach p.0 in
    (let lt : n < 2 ^ below = omega arith in lt, eqb-true (n % 2) 1 p.1)

target_range : (below reach : ℕ) (o : Option ℤ) (text : List ℕ) → 0 < reach → reach ≡ 2 ^ below → IfOk (target_or_label reach o text) (IsTargetIn below)
target_range below reach (Some off) text some e =
    ok_cond (is_within reach (reach - 2) off && is_even off) (Distance off) OutOfRange (IsTargetIn below) (distance_range below reach off some e)
target_range below reach None text some e = ok_cond (is_name text) (Label text) BadNumber (IsTargetIn below) (λ h. tt)

-- ---- fields

pub no_fields-range : AreInRange no_fields
no_fields-range = record {
  rd = lit< tt;
  rs1 = lit< tt;
  rs2 = lit< tt;
  imm12 = lit< tt;
  imm20 = lit< tt;
  shamt = lit< tt;
  uimm = lit< tt;
  csr = lit< tt;
  jump = (lit< tt, refl);
  branch = (lit< tt, refl);
  number = lit< tt;
}

with_operand-range : (operand : Operand) (text : List ℕ) (f : Fields) → AreInRange f → IfOk (with_operand operand text f) AreInRange
with_operand-range Rd text f h =
    after_ok (register text) (λ r. r < 32) AreInRange (λ r. Ok (record f { rd = r })) (register-range text) (λ r p. record { rd = p; rs1 = h.rs1; rs2 = h.rs2; imm12 = h.imm12; imm20 = h.imm20; shamt = h.shamt; uimm = h.uimm; csr = h.csr; jump = h.jump; branch = h.branch; number = h.number })
with_operand-range Rs1 text f h =
    after_ok (register text) (λ r. r < 32) AreInRange (λ r. Ok (record f { rs1 = r })) (register-range text) (λ r p. record { rd = h.rd; rs1 = p; rs2 = h.rs2; imm12 = h.imm12; imm20 = h.imm20; shamt = h.shamt; uimm = h.uimm; csr = h.csr; jump = h.jump; branch = h.branch; number = h.number })
with_operand-range Rs2 text f h =
    after_ok (register text) (λ r. r < 32) AreInRange (λ r. Ok (record f { rs2 = r })) (register-range text) (λ r p. record { rd = h.rd; rs1 = h.rs1; rs2 = p; imm12 = h.imm12; imm20 = h.imm20; shamt = h.shamt; uimm = h.uimm; csr = h.csr; jump = h.jump; branch = h.branch; number = h.number })
with_operand-range Imm12 text f h =
    after_ok (number_in (2 ^ 11) (2 ^ 11 - 1) text) (IsWithin (2 ^ 11) (2 ^ 11 - 1)) AreInRange (λ n. Ok (record f { imm12 = n })) (number_in-range (2 ^ 11) (2 ^ 11 - 1) text) (λ n p. record { rd = h.rd; rs1 = h.rs1; rs2 = h.rs2; imm12 = within_12 n p; imm20 = h.imm20; shamt = h.shamt; uimm = h.uimm; csr = h.csr; jump = h.jump; branch = h.branch; number = h.number })
with_operand-range Imm20 text f h =
    after_ok (unsigned_in (2 ^ 20 - 1) text) (λ n. n ≤ 2 ^ 20 - 1) AreInRange (λ n. Ok (record f { imm20 = n })) (unsigned_in-range (2 ^ 20 - 1) text) (λ n p. record { rd = h.rd; rs1 = h.rs1; rs2 = h.rs2; imm12 = h.imm12; imm20 = omega arith; shamt = h.shamt; uimm = h.uimm; csr = h.csr; jump = h.jump; branch = h.branch; number = h.number })
with_operand-range Shamt text f h =
    after_ok (unsigned_in 31 text) (λ n. n ≤ 31) AreInRange (λ n. Ok (record f { shamt = n })) (unsigned_in-range 31 text) (λ n p. record { rd = h.rd; rs1 = h.rs1; rs2 = h.rs2; imm12 = h.imm12; imm20 = h.imm20; shamt = omega arith; uimm = h.uimm; csr = h.csr; jump = h.jump; branch = h.branch; number = h.number })
with_operand-range Uimm text f h =
    after_ok (unsigned_in 31 text) (λ n. n ≤ 31) AreInRange (λ n. Ok (record f { uimm = n })) (unsigned_in-range 31 text) (λ n p. record { rd = h.rd; rs1 = h.rs1; rs2 = h.rs2; imm12 = h.imm12; imm20 = h.imm20; shamt = h.shamt; uimm = omega arith; csr = h.csr; jump = h.jump; branch = h.branch; number = h.number })
with_operand-range Address text f h =
    after_ok (register (register_part text)) (λ r. r < 32) AreInRange
    (λ r. number_in (2 ^ 11) (2 ^ 11 - 1) (offset_part text) >>= λ n. Ok (record f { rs1 = r; imm12 = n })) (register-range (register_part text))
    (λ r p. after_ok (number_in (2 ^ 11) (2 ^ 11 - 1) (offset_part text)) (IsWithin (2 ^ 11) (2 ^ 11 - 1)) AreInRange
    (λ n. Ok (record f { rs1 = r; imm12 = n })) (number_in-range (2 ^ 11) (2 ^ 11 - 1) (offset_part text)) (λ n q. record { rd = h.rd; rs1 = p; rs2 = h.rs2; imm12 = within_12 n q; imm20 = h.imm20; shamt = h.shamt; uimm = h.uimm; csr = h.csr; jump = h.jump; branch = h.branch; number = h.number }))
with_operand-range Csr text f h =
    after_ok (csr text) (λ n. n < 2 ^ 12) AreInRange (λ n. Ok (record f { csr = n })) (csr-range text) (λ n p. record { rd = h.rd; rs1 = h.rs1; rs2 = h.rs2; imm12 = h.imm12; imm20 = h.imm20; shamt = h.shamt; uimm = h.uimm; csr = p; jump = h.jump; branch = h.branch; number = h.number })
with_operand-range JumpTarget text f h =
    after_ok (target (2 ^ 20) text) (IsTargetIn 20) AreInRange (λ t. Ok (record f { jump = t })) (target_range 20 (2 ^ 20) (distance_of text) text (lit< tt) refl) (λ t p. record { rd = h.rd; rs1 = h.rs1; rs2 = h.rs2; imm12 = h.imm12; imm20 = h.imm20; shamt = h.shamt; uimm = h.uimm; csr = h.csr; jump = p; branch = h.branch; number = h.number })
with_operand-range BranchTarget text f h =
    after_ok (target (2 ^ 12) text) (IsTargetIn 12) AreInRange (λ t. Ok (record f { branch = t })) (target_range 12 (2 ^ 12) (distance_of text) text (lit< tt) refl) (λ t p. record { rd = h.rd; rs1 = h.rs1; rs2 = h.rs2; imm12 = h.imm12; imm20 = h.imm20; shamt = h.shamt; uimm = h.uimm; csr = h.csr; jump = h.jump; branch = p; number = h.number })
with_operand-range Number text f h =
    after_ok (word_in text) (λ n. n < 2 ^ 32) AreInRange (λ n. Ok (record f { number = n })) (word_in-range text) (λ n p. record { rd = h.rd; rs1 = h.rs1; rs2 = h.rs2; imm12 = h.imm12; imm20 = h.imm20; shamt = h.shamt; uimm = h.uimm; csr = h.csr; jump = h.jump; branch = h.branch; number = p })

pub with_operands-range : (operands : List Operand) (texts : List (List ℕ)) (f : Fields) → AreInRange f → IfOk (with_operands operands texts f) AreInRange
with_operands-range [] texts f h = h
with_operands-range (operand ∷ operands) [] f h = h
with_operands-range (operand ∷ operands) (text ∷ texts) f h =
    after_ok (with_operand operand text f) AreInRange AreInRange (λ g. with_operands operands texts g) (with_operand-range operand text f h)
    (λ g p. with_operands-range operands texts g p)

-- what operands fill is in range
pub filled_range : (operands : List Operand) (texts : List (List ℕ)) (f : Fields) → Ok f ≡ with_operands operands texts no_fields → AreInRange f
filled_range operands texts f e =
    let P : Result Fields AsmKind → Type 0 = λ r. IfOk r AreInRange in
    subst P (sym e) (with_operands-range operands texts no_fields no_fields-range)
