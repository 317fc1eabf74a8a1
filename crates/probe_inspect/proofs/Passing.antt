-- The latches of an instruction in order: those of its writes, or the register that its service writes.
use Rattle.std.proofs.Common.{◌≡◌, ◌⊎◌, inl, inr, ℕ, ◌+◌, ◌<◌, ◌≤◌, ◌==◌, Bool, true, false, List, [], ◌∷◌, ◌++◌, map, length, length-append, append-nil, Option, Some, None, is_none, All, IfSome, if◌then◌else◌, refl, ap, sym, ◌∙◌, subst, arith}
use Rattle.std.specs.List.{count_by}
use Rattle.std.proofs.lemmas.List.Elements.{All-nil, All-cons, All-append}
use Rattle.isa_model.specs.declared.control.Deed.{Deed}
use Rattle.isa_model.specs.declared.control.Deed.TheVariants.{Ran, Stored, Called, Ended}
use Rattle.isa_model.specs.declared.ends.End.{End}
use Rattle.isa_model.specs.declared.instr.Instr.{Instr}
use Rattle.isa_model.specs.declared.instr.Instr.TheVariants.{Lui, Auipc, Jal, Jalr, Branch, Load, Store, AluImm, AluReg, Fence, Ecall, Ebreak, Mret, Csr, CsrImm}
use Rattle.isa_model.specs.declared.latch.Latch.{Latch}
use Rattle.isa_model.specs.declared.latch.Latch.TheVariants as latches
use Rattle.isa_model.specs.declared.task.Task.{Task}
use Rattle.isa_model.specs.declared.control.Control.{Control}
use Rattle.isa_model.specs.Control.{control_at}
use Rattle.probe_inspect.specs.declared.course.Passed.{Passed}
use Rattle.probe_inspect.specs.Course.{IsPassed}
use Rattle.isa_model.specs.Effect.{Write, Flow, Moved, Rs1, Rs2, Next, Goes, Raises, Calls, Returns, effect_of}
use Rattle.isa_model.specs.Bits.{word_address}
use Rattle.isa_model.specs.InstrTable.{instr_of}
use Rattle.isa_model.specs.LatchOrder.{IsLatch}
use Rattle.isa_model.specs.Alone.{AloneState, alone_at, after_instr, after_fetch, after_decode, after_effect, after_writes, after_fault, code_word_at, is_privileged, operands_of, deed_of, rs1_of, values_after}
use Rattle.hart_model.specs.UserStep.{exception}
use Rattle.hart_model.specs.UserLaws.{alone_effect, alone_effect_of_instr, alone_effect_of_word}
use Rattle.core_model.specs.Places.{served_latches, latches_written, written_at}
use Rattle.core_model.proofs.Lists.{count-cons, count-append}
use Rattle.noninterference.proofs.ControlRows.{IsPlain, row-is-plain}
use Rattle.probing_laws.proofs.Counts.{count-map}
use Rattle.rv_effect.specs.declared.writes.Traced.{Traced}
use Rattle.rv_effect.specs.declared.writes.RegisterWrite.{RegisterWrite}
use Rattle.rv_effect.specs.declared.writes.UnitWrite.{UnitWrite}
use Rattle.rv_effect.specs.declared.writes.UnitWrite.TheVariants.{Nothing, Multiplies, Loads, Stores, Scratches}
use Rattle.rv_effect.specs.declared.writes.Writes.{Writes}
use Rattle.rv_effect.specs.View.{flow_of, port_write, res_write, before_res, after_res, register_write, writes_of}
use Rattle.probe_inspect.specs.LatchList.{writes_made, IsInOrderFrom, AreInOrder, register_latch, port_latch, result_latch, unit_latches, latches_in_order}

-- the latches that writes go to
abbrev targets : List Write → List Latch
targets ws = map (λ (w : Write). w.to) ws

register_targets : (o : Option RegisterWrite) → targets (register_write o) ≡ register_latch o
register_targets None = refl
register_targets (Some w) = go (w.rd == 0)
  where
    go : (b : Bool) → targets (if b then [] else record { to = latches.Reg w.rd; value = w.value.value; flow = flow_of w.value.flow } ∷ [])
        ≡ (if b then [] else latches.Reg w.rd ∷ [])
    go true = refl
    go false = refl

port_targets : (port : Latch) (flow : Flow) (o : Option ℕ) → targets (port_write port flow o) ≡ port_latch port o
port_targets port flow None = refl
port_targets port flow (Some value) = refl

result_targets : (o : Option Traced) → targets (res_write o) ≡ result_latch o
result_targets None = refl
result_targets (Some v) = refl

-- Each test is passed by as many.
module _ (test : Latch → Bool) where
  abbrev of : Write → Bool
  of w = test w.to

  counted : (ws : List Write) (ls : List Latch) → targets ws ≡ ls → count_by of ws ≡ count_by test ls
  counted ws ls is = sym (count-map test (λ (w : Write). w.to) ws) ∙ ap (count_by test) is

  none : count_by test [] ≡ 0
  none = refl

  unit_counted : (u : UnitWrite) → count_by of (before_res u) + count_by of (after_res u) ≡ count_by test (unit_latches u)
  unit_counted Nothing = refl
  unit_counted (Multiplies value) =
      let one = counted (before_res (Multiplies value)) (latches.Mul ∷ []) refl in omega (arith, one, none)
  unit_counted (Loads word) =
      let one = counted (after_res (Loads word)) (latches.Load ∷ []) refl in omega (arith, one, none)
  unit_counted (Stores value at word) =
      let one = counted (after_res (Stores value at word)) (latches.Store ∷ (latches.Mem (word_address at) ∷ [])) refl in omega (arith, one, none)
  unit_counted (Scratches v) =
      let one = counted (after_res (Scratches v)) (latches.Scr ∷ []) refl in omega (arith, one, none)

  all_counted : (w : Writes) → count_by of (writes_of w) ≡ count_by test (latches_in_order w)
  all_counted w =
      let a = port_write latches.PortA (Moved Rs1) w.port_a in
      let b = port_write latches.PortB (Moved Rs2) w.port_b in
      let m = before_res w.unit in
      let r = res_write w.res in
      let u = after_res w.unit in
      let g = register_write w.register in
      let a' = port_latch latches.PortA w.port_a in
      let b' = port_latch latches.PortB w.port_b in
      let r' = result_latch w.res in
      let u' = unit_latches w.unit in
      let g' = register_latch w.register in
      let one = count-append of a (b ++ (m ++ (r ++ (u ++ g)))) in
      let two = count-append of b (m ++ (r ++ (u ++ g))) in
      let three = count-append of m (r ++ (u ++ g)) in
      let four = count-append of r (u ++ g) in
      let five = count-append of u g in
      let one' = count-append test g' (a' ++ (b' ++ (r' ++ u'))) in
      let two' = count-append test a' (b' ++ (r' ++ u')) in
      let three' = count-append test b' (r' ++ u') in
      let four' = count-append test r' u' in
      let pa = counted a a' (port_targets latches.PortA (Moved Rs1) w.port_a) in
      let pb = counted b b' (port_targets latches.PortB (Moved Rs2) w.port_b) in
      let pr = counted r r' (result_targets w.res) in
      let pg = counted g g' (register_targets w.register) in
      let pu = unit_counted w.unit in
      omega (arith, one, two, three, four, five, one', two', three', four', pa, pb, pr, pg, pu)

-- In order.
from-lower : (a b : ℕ) (ls : List Latch) → b ≤ a → IsInOrderFrom a ls → IsInOrderFrom b ls
from-lower a b [] low order = tt
from-lower a b (l ∷ ls) low order = let here = order.0 in (omega (arith, low, here), order.1)

unit_order : (u : UnitWrite) → IsInOrderFrom 35 (unit_latches u)
unit_order Nothing = tt
unit_order (Multiplies value) = (omega arith, tt)
unit_order (Loads word) = (omega arith, tt)
unit_order (Stores value at word) = (omega arith, (omega arith, tt))
unit_order (Scratches v) = (omega arith, tt)

result_order : (o : Option Traced) (ls : List Latch) → IsInOrderFrom 35 ls → IsInOrderFrom 34 (result_latch o ++ ls)
result_order None ls order = from-lower 35 34 ls (omega arith) order
result_order (Some v) ls order = (omega arith, from-lower 35 34 ls (omega arith) order)

second_order : (o : Option ℕ) (ls : List Latch) → IsInOrderFrom 34 ls → IsInOrderFrom 33 (port_latch latches.PortB o ++ ls)
second_order None ls order = from-lower 34 33 ls (omega arith) order
second_order (Some v) ls order = (omega arith, from-lower 34 33 ls (omega arith) order)

first_order : (o : Option ℕ) (ls : List Latch) → IsInOrderFrom 33 ls → IsInOrderFrom 32 (port_latch latches.PortA o ++ ls)
first_order None ls order = from-lower 33 32 ls (omega arith) order
first_order (Some v) ls order = (omega arith, from-lower 33 32 ls (omega arith) order)

-- the register that is written has a number
abbrev pub HasRegister : Option RegisterWrite → Type 0
HasRegister o = IfSome o (λ w. w.rd < 32)

register_order : (o : Option RegisterWrite) (ls : List Latch) → HasRegister o → IsInOrderFrom 32 ls → IsInOrderFrom 0 (register_latch o ++ ls)
register_order None ls low order = from-lower 32 0 ls (omega arith) order
register_order (Some w) ls low order = go (w.rd == 0)
  where
    go : (b : Bool) → IsInOrderFrom 0 ((if b then [] else latches.Reg w.rd ∷ []) ++ ls)
    go true = from-lower 32 0 ls (omega arith) order
    go false = (omega arith, from-lower 32 w.rd ls (omega (arith, low)) order)

-- Each is a latch.
abbrev AreLatches : List Latch → Type 0
AreLatches ls = All IsLatch ls

one_latch : (l : Latch) → IsLatch l → AreLatches (l ∷ [])
one_latch l is = All-cons IsLatch l [] is (All-nil IsLatch)

port_is : (port : Latch) (o : Option ℕ) → IsLatch port → AreLatches (port_latch port o)
port_is port None is = All-nil IsLatch
port_is port (Some value) is = one_latch port is

result_is : (o : Option Traced) → AreLatches (result_latch o)
result_is None = All-nil IsLatch
result_is (Some v) = one_latch latches.Res tt

unit_is : (u : UnitWrite) → AreLatches (unit_latches u)
unit_is Nothing = All-nil IsLatch
unit_is (Multiplies value) = one_latch latches.Mul tt
unit_is (Loads word) = one_latch latches.Load tt
unit_is (Stores value at word) = All-cons IsLatch latches.Store (latches.Mem (word_address at) ∷ []) tt (one_latch (latches.Mem (word_address at)) tt)
unit_is (Scratches v) = one_latch latches.Scr tt

register_is : (o : Option RegisterWrite) → HasRegister o → AreLatches (register_latch o)
register_is None low = All-nil IsLatch
register_is (Some w) low = go (w.rd == 0)
  where
    go : (b : Bool) → AreLatches (if b then [] else latches.Reg w.rd ∷ [])
    go true = All-nil IsLatch
    go false = one_latch (latches.Reg w.rd) low

-- The latches of writes are in order.
writes-in-order : (w : Writes) → HasRegister w.register → AreInOrder (latches_in_order w) (targets (writes_of w))
writes-in-order w low =
    let a = port_latch latches.PortA w.port_a in
    let b = port_latch latches.PortB w.port_b in
    let r = result_latch w.res in
    let u = unit_latches w.unit in
    let g = register_latch w.register in record {
      same = λ test. sym (all_counted test w) ∙ sym (count-map test (λ (v : Write). v.to) (writes_of w));
      order = register_order w.register (a ++ (b ++ (r ++ u))) low
          (first_order w.port_a (b ++ (r ++ u)) (second_order w.port_b (r ++ u) (result_order w.res u (unit_order w.unit))));
      latches = All-append IsLatch g (a ++ (b ++ (r ++ u))) (register_is w.register low)
          (All-append IsLatch a (b ++ (r ++ u)) (port_is latches.PortA w.port_a tt)
          (All-append IsLatch b (r ++ u) (port_is latches.PortB w.port_b tt)
          (All-append IsLatch r u (result_is w.res) (unit_is w.unit))));
    }

-- the latches that are put down for writes
abbrev pub latches_made : Option Writes → List Latch
latches_made None = []
latches_made (Some w) = latches_in_order w

abbrev pub HasRegisterMade : Option Writes → Type 0
HasRegisterMade o = IfSome o (λ w. HasRegister w.register)

made-in-order : (o : Option Writes) → HasRegisterMade o → AreInOrder (latches_made o) (targets (writes_made o))
made-in-order None low = record { same = λ test. refl; order = tt; latches = All-nil IsLatch }
made-in-order (Some w) low = writes-in-order w low

-- An instruction that calls a service writes nothing itself.
no_call : (i : Instr) (first number : ℕ) → deed_of i first ≡ Called number → ⊥
no_call (Lui rd imm20) first number is = absurd cc
no_call (Auipc rd imm20) first number is = absurd cc
no_call (Jal rd off) first number is = absurd cc
no_call (Jalr rd rs1 imm) first number is = absurd cc
no_call (Branch op rs1 rs2 off) first number is = absurd cc
no_call (Load kind rd rs1 imm) first number is = absurd cc
no_call (Store kind rs2 rs1 imm) first number is = absurd cc
no_call (AluImm op rd rs1 imm) first number is = absurd cc
no_call (AluReg op rd rs1 rs2) first number is = absurd cc
no_call (Fence word) first number is = absurd cc
no_call Ecall first number is = absurd cc
no_call Ebreak first number is = absurd cc
no_call Mret first number is = absurd cc
no_call (Csr op rd rs1 csr) first number is = absurd cc
no_call (CsrImm op rd uimm csr) first number is = absurd cc

plain_calls_none : (T : Task) (i : Instr) (first number : ℕ) (next : Next) (s : AloneState) → IsPlain next
    → (after_writes T (deed_of i first) next s).deed ≡ Called number → ⊥
plain_calls_none T i first number (Goes pc) s plain is = no_call i first number is
plain_calls_none T i first number (Raises cause) s plain is = absurd cc
plain_calls_none T i first number Calls s plain is = absurd plain
plain_calls_none T i first number Returns s plain is = absurd plain

module _ (T : Task) (s : AloneState) (number : ℕ) where
  by_row : (i : Instr) → is_privileged i ≡ false
      → (after_effect T (deed_of i (s.value (latches.Reg (rs1_of i)))) (effect_of i s.pc (operands_of T s.value i)) s).deed ≡ Called number
      → (effect_of i s.pc (operands_of T s.value i)).writes ≡ []
  by_row i f is = go (row-is-plain i s.pc (operands_of T s.value i) f)
    where
      go : IsPlain (effect_of i s.pc (operands_of T s.value i)).next ⊎ (i ≡ Ecall) → (effect_of i s.pc (operands_of T s.value i)).writes ≡ []
      go (inl plain) =
          let e = effect_of i s.pc (operands_of T s.value i) in
          absurd (plain_calls_none T i (s.value (latches.Reg (rs1_of i))) number e.next (record s { value = values_after e.writes s.value }) plain is)
      go (inr call) = ap (λ (j : Instr). (effect_of j s.pc (operands_of T s.value i)).writes) call

  by_privilege : (i : Instr) (b : Bool) → is_privileged i ≡ b
      → (if b then after_fault 2 s else after_effect T (deed_of i (s.value (latches.Reg (rs1_of i)))) (effect_of i s.pc (operands_of T s.value i)) s).deed ≡ Called number
      → (if b then exception 2 else effect_of i s.pc (operands_of T s.value i)).writes ≡ []
  by_privilege i true f is = refl
  by_privilege i false f is = by_row i f is

  by_instr : (found : Option Instr) → (after_decode T found s).deed ≡ Called number → (alone_effect_of_instr T s found).writes ≡ []
  by_instr None is = refl
  by_instr (Some i) is = by_privilege i (is_privileged i) refl is

  by_word : (word : Option ℕ) → (after_fetch T word s).deed ≡ Called number → (alone_effect_of_word T s word).writes ≡ []
  by_word None is = refl
  by_word (Some word) is = by_instr (instr_of word) is

  calls-write-none : (after_instr T s).deed ≡ Called number → (alone_effect T s).writes ≡ []
  unfolding after_instr
  calls-write-none is = by_word (code_word_at T s.pc) is

no-items : (ls : List Latch) → count_by (λ (l : Latch). true) ls ≡ 0 → ls ≡ []
no-items [] none = refl
no-items (l ∷ ls) none = let one = count-cons (λ (k : Latch). true) l ls in absurd (omega (arith, one, none))

-- The latches of an instruction and then the register of its service are in order.
module _ (T : Task) (s : AloneState) (o : Option Writes) (is : writes_made o ≡ (alone_effect T s).writes) (low : HasRegisterMade o) where
  own : AreInOrder (latches_made o) (targets (alone_effect T s).writes)
  own = subst (λ (ws : List Write). AreInOrder (latches_made o) (targets ws)) is (made-in-order o low)

  unserved : AreInOrder (latches_made o ++ []) (targets (alone_effect T s).writes ++ [])
  unserved =
      subst (λ (ls : List Latch). AreInOrder ls (targets (alone_effect T s).writes ++ [])) (sym (append-nil (latches_made o)))
      (subst (λ (ks : List Latch). AreInOrder (latches_made o) ks) (sym (append-nil (targets (alone_effect T s).writes))) own)

  served : (number : ℕ) → (after_instr T s).deed ≡ Called number → (b : Bool)
      → AreInOrder (latches_made o ++ (if b then latches.Reg 10 ∷ [] else [])) (targets (alone_effect T s).writes ++ (if b then latches.Reg 10 ∷ [] else []))
  served number call false = unserved
  served number call true =
      let quiet = calls-write-none T s number call in
      let none : latches_made o ≡ [] =
      no-items (latches_made o) (own.same (λ (l : Latch). true) ∙ ap (λ (ws : List Write). count_by (λ (l : Latch). true) (targets ws)) quiet) in
      let P : List Latch → List Latch → Type 0 = λ ls ks. AreInOrder (ls ++ latches.Reg 10 ∷ []) (ks ++ latches.Reg 10 ∷ []) in
      let base : P [] [] = record { same = λ test. refl; order = (omega arith, tt); latches = one_latch (latches.Reg 10) (omega arith) } in
      subst (λ (ls : List Latch). P ls (targets (alone_effect T s).writes)) (sym none)
      (subst (λ (ws : List Write). P [] (targets ws)) (sym quiet) base)

  pub passes-in-order : (deed : Deed) → (after_instr T s).deed ≡ deed
      → AreInOrder (latches_made o ++ served_latches deed) (targets (alone_effect T s).writes ++ served_latches deed)
  passes-in-order Ran same = unserved
  passes-in-order (Stored at) same = unserved
  passes-in-order (Called number) same = served number same (number == 2)
  passes-in-order (Ended kind) same = unserved

-- They are few.
most_one : (b : Bool) (l : Latch) → length (if b then [] else l ∷ []) ≤ 1
most_one true l = omega arith
most_one false l = omega arith

register_few : (o : Option RegisterWrite) → length (register_latch o) ≤ 1
register_few None = omega arith
register_few (Some w) = most_one (w.rd == 0) (latches.Reg w.rd)

port_few : (port : Latch) (o : Option ℕ) → length (port_latch port o) ≤ 1
port_few port None = omega arith
port_few port (Some value) = omega arith

result_few : (o : Option Traced) → length (result_latch o) ≤ 1
result_few None = omega arith
result_few (Some v) = omega arith

unit_few : (u : UnitWrite) → length (unit_latches u) ≤ 2
unit_few Nothing = omega arith
unit_few (Multiplies value) = omega arith
unit_few (Loads word) = omega arith
unit_few (Stores value at word) = omega arith
unit_few (Scratches v) = omega arith

made_few : (o : Option Writes) → length (latches_made o) ≤ 6
made_few None = omega arith
made_few (Some w) =
    let a = port_latch latches.PortA w.port_a in
    let b = port_latch latches.PortB w.port_b in
    let r = result_latch w.res in
    let u = unit_latches w.unit in
    let g = register_latch w.register in
    let one = length-append g (a ++ (b ++ (r ++ u))) in
    let two = length-append a (b ++ (r ++ u)) in
    let three = length-append b (r ++ u) in
    let four = length-append r u in
    let pg = register_few w.register in
    let pa = port_few latches.PortA w.port_a in
    let pb = port_few latches.PortB w.port_b in
    let pr = result_few w.res in
    let pu = unit_few w.unit in
    omega (arith, one, two, three, four, pg, pa, pb, pr, pu)

served_few : (deed : Deed) → length (served_latches deed) ≤ 1
served_few Ran = omega arith
served_few (Stored at) = omega arith
served_few (Ended kind) = omega arith
served_few (Called number) = go (number == 2)
  where
    go : (b : Bool) → length (if b then latches.Reg 10 ∷ [] else []) ≤ 1
    go true = omega arith
    go false = omega arith

pub passes-few : (o : Option Writes) (deed : Deed) → length (latches_made o ++ served_latches deed) ≤ 7
passes-few o deed =
    let one = length-append (latches_made o) (served_latches deed) in
    let two = made_few o in
    let three = served_few deed in
    omega (arith, one, two, three)

-- what an instruction of a run that goes on writes
pub written-running : (T : Task) (n : ℕ) → (alone_at T n).end ≡ None → written_at T n ≡ latches_written T (alone_at T n)
written-running T n runs = ap (λ (o : Option End). if is_none o then latches_written T (alone_at T n) else []) runs

-- An instruction that a run executes, with its latches.
pub passed-is : (T : Task) (n : ℕ) (o : Option Writes) (passed : Passed) → writes_made o ≡ (alone_effect T (alone_at T n)).writes → HasRegisterMade o
    → (alone_at T n).end ≡ None → passed.control ≡ control_at T n → passed.latches ≡ latches_made o ++ served_latches passed.control.deed
    → IsPassed T n passed
passed-is T n o passed is low runs control items =
    let s = alone_at T n in
    let deed : (after_instr T s).deed ≡ passed.control.deed = sym (ap (λ (c : Control). c.deed) control) in
    let own = passes-in-order T s o is low passed.control.deed deed in
    let few = passes-few o passed.control.deed in
    let there : targets (alone_effect T s).writes ++ served_latches passed.control.deed ≡ written_at T n =
    ap (λ (d : Deed). targets (alone_effect T s).writes ++ served_latches d) (sym deed) ∙ sym (written-running T n runs) in
    record {
      seen = record { running = runs; control = control };
      latches = subst (λ (ls : List Latch). AreInOrder ls (written_at T n)) (sym items)
          (subst (λ (ks : List Latch). AreInOrder (latches_made o ++ served_latches passed.control.deed) ks) there own);
      few = subst (λ (ls : List Latch). length ls ≤ 7) (sym items) few;
    }
