-- What follows an instruction in machine mode on harts that are alike: harts that are, with entries that agree publicly.
use Rattle.std.proofs.Common.{◌≡◌, ℕ, ◌+◌, false, List, [], ◌∷◌, ◌++◌, length, length-append, Option, Some, None, option_map, refl, subst, ap, arith}
use Rattle.isa_model.specs.Bits.{low_word}
use Rattle.isa_model.specs.declared.instr.Instr.{Instr}
use Rattle.isa_model.specs.declared.ends.EndKind.{EndKind}
use Rattle.isa_model.specs.Effect.{Effect, Next, Goes, Raises, Calls, Returns, effect_of}
use Rattle.hart_model.specs.declared.place.Place.TheVariants.{Reg}
use Rattle.hart_model.specs.declared.tag.Cell.{Cell}
use Rattle.hart_model.specs.Cells.{blank}
use Rattle.hart_model.specs.Csrs.{CsrFile}
use Rattle.hart_model.specs.Context.{ContextState}
use Rattle.hart_model.specs.HartState.{HartState}
use Rattle.hart_model.specs.Writes.{after_writes}
use Rattle.hart_model.specs.Ports.{SideEffect, Nothing, Outputs, AdvancesTape, Ends, ClearsTimer}
use Rattle.hart_model.specs.MachineStep.{OperandCells, operand_cells, machine_bases, machine_writes, machine_effect, held_after_side, after_side, by_csrs, by_next, by_reach, Reach, Finds, NeedsQueue, Refused}
use Rattle.isa_model.specs.Alone.{rs1_of, rs2_of}
use Rattle.core_model.specs.LowEquivalence.{ArePairwise}
use Rattle.core_model.specs.AlikeHarts.{AreCellsAlike, AreContextsAlike, AreHeldAlike, AreCsrsAlike, AreHartsAlike}
use Rattle.noninterference.specs.AlikeSteps.{AreWritesAlike, AreStepsAlike}
use Rattle.noninterference.proofs.CellsAlike.{cell-refl}
use Rattle.noninterference.proofs.CellsHarts.{cell-alike, machine-bases-alike}
use Rattle.noninterference.proofs.CellsWrites.{writes-leave-alike}
use Rattle.noninterference.proofs.MachineRows.{AreOptionsAlike, AreOperandsAlike, AreEffectsAlike, cell-writes-alike}
use Rattle.noninterference.proofs.MachineForms.{DecidesBy, effect-alike}
use Rattle.noninterference.proofs.MachineCsrs.{AreFilesAlike, after-effect-alike, mret-csrs-alike, mepc-alike}
use Rattle.noninterference.proofs.MachinePorts.{AreSidesAlike}
use Rattle.noninterference.proofs.MachineReach.{AreReachAlike}

-- what is held after side effects that are alike
longer : (xs ys : List ℕ) (v w : ℕ) → length xs ≡ length ys → length (xs ++ v ∷ []) ≡ length (ys ++ w ∷ [])
longer xs ys v w e = simp length-append (omega arith)

context-side : (s t : SideEffect) (c d : ContextState) → AreSidesAlike s t → AreContextsAlike c d → AreContextsAlike (held_after_side s c) (held_after_side t d)
context-side Nothing Nothing c d e a = a
context-side (Outputs v) (Outputs w) c d e a = record {
  body = record {
    task_no = a.body.task_no;
    code_at = a.body.code_at;
    data_at = a.body.data_at;
    code = a.body.code;
    data_words = a.body.data_words;
    tape = a.body.tape;
    tape_at = a.body.tape_at;
    output = longer c.body.output d.body.output v w a.body.output;
    out_max = a.body.out_max;
    fuel = a.body.fuel;
    count = a.body.count;
  };
  slot = a.slot;
  words = a.words;
  end = a.end;
}
context-side AdvancesTape AdvancesTape c d e a = record {
  body = record {
    task_no = a.body.task_no;
    code_at = a.body.code_at;
    data_at = a.body.data_at;
    code = a.body.code;
    data_words = a.body.data_words;
    tape = a.body.tape;
    tape_at = ap (λ (n : ℕ). n + 1) a.body.tape_at;
    output = a.body.output;
    out_max = a.body.out_max;
    fuel = a.body.fuel;
    count = a.body.count;
  };
  slot = a.slot;
  words = a.words;
  end = a.end;
}
context-side (Ends end) (Ends other) c d e a = record { body = a.body; slot = a.slot; words = a.words; end = ap (λ (k : EndKind). Some k) e }
context-side ClearsTimer ClearsTimer c d e a = a
context-side s t c d e a = absurd e

held-side : (s t : SideEffect) (x y : Option ContextState) → AreSidesAlike s t → AreHeldAlike x y
    → AreHeldAlike (option_map (held_after_side s) x) (option_map (held_after_side t) y)
held-side s t None None e a = tt
held-side s t None (Some d) e a = absurd a
held-side s t (Some c) None e a = absurd a
held-side s t (Some c) (Some d) e a = context-side s t c d e a

-- harts that are alike, with what they hold or their CSR files changed on both
pub with-held : (h g : HartState) (x y : Option ContextState) → AreHartsAlike h g → AreHeldAlike x y
    → AreHartsAlike (record h { held = x }) (record g { held = y })
with-held h g x y a e = record {
  regs = a.regs;
  port_a = a.port_a;
  port_b = a.port_b;
  res = a.res;
  load = a.load;
  store = a.store;
  mul = a.mul;
  zero_word = a.zero_word;
  csrs = a.csrs;
  pc = a.pc;
  held = e;
}

pub with-csrs : (h g : HartState) (b c : CsrFile) → AreHartsAlike h g → AreCsrsAlike b c → AreHartsAlike (record h { csrs = b }) (record g { csrs = c })
with-csrs h g b c a e = record {
  regs = a.regs;
  port_a = a.port_a;
  port_b = a.port_b;
  res = a.res;
  load = a.load;
  store = a.store;
  mul = a.mul;
  zero_word = a.zero_word;
  csrs = e;
  pc = a.pc;
  held = a.held;
}

pub with-pc : (h g : HartState) (m n : ℕ) → AreHartsAlike h g → m ≡ n → AreHartsAlike (record h { pc = m }) (record g { pc = n })
with-pc h g m n a e = record {
  regs = a.regs;
  port_a = a.port_a;
  port_b = a.port_b;
  res = a.res;
  load = a.load;
  store = a.store;
  mul = a.mul;
  zero_word = a.zero_word;
  csrs = a.csrs;
  pc = e;
  held = a.held;
}

hart-side : (s t : SideEffect) (h g : HartState) → AreSidesAlike s t → AreHartsAlike h g → AreHartsAlike (after_side s h) (after_side t g)
hart-side Nothing Nothing h g e a = with-held h g _ _ a (held-side Nothing Nothing h.held g.held e a.held)
hart-side (Outputs v) (Outputs w) h g e a = with-held h g _ _ a (held-side (Outputs v) (Outputs w) h.held g.held e a.held)
hart-side AdvancesTape AdvancesTape h g e a = with-held h g _ _ a (held-side AdvancesTape AdvancesTape h.held g.held e a.held)
hart-side (Ends end) (Ends other) h g e a = with-held h g _ _ a (held-side (Ends end) (Ends other) h.held g.held e a.held)
hart-side ClearsTimer ClearsTimer h g e a =
    with-csrs h g _ _ a (record { scratch = a.csrs.scratch; others = ap (λ (f : CsrFile). record f { is_timer_pending = false }) a.csrs.others })
hart-side s t h g e a = absurd e

module _ (h g : HartState) (a : AreHartsAlike h g) where
  module _ (o p : OperandCells) (s : AreOperandsAlike o p) where
    -- the writes of an effect
    effect-writes : (e f : Effect) → AreEffectsAlike o e f → ArePairwise AreWritesAlike (machine_writes h o e) (machine_writes g p f)
    effect-writes e f k = cell-writes-alike o p s (machine_bases h.held) (machine_bases g.held)
        (machine-bases-alike h.held g.held a.held) e.writes f.writes k.writes

    -- an effect that goes on
    goes-alike : (v w : SideEffect) (e f : Effect) (m n : ℕ) (x y : Option CsrFile) → AreSidesAlike v w → AreEffectsAlike o e f → m ≡ n → AreFilesAlike x y
        → AreStepsAlike (by_csrs h o v e m x) (by_csrs g p w f n y)
    goes-alike v w e f m n None None i k l c = tt
    goes-alike v w e f m n None (Some y) i k l c = absurd c.both
    goes-alike v w e f m n (Some x) None i k l c = absurd c.both
    goes-alike v w e f m n (Some x) (Some y) i k l c =
        let left = writes-leave-alike (machine_writes h o e) (machine_writes g p f) (record h { csrs = x }) (record g { csrs = y })
        (effect-writes e f k) (with-csrs h g x y a c.both) in
        let one = (after_writes (machine_writes h o e) (record h { csrs = x })).hart in
        let other = (after_writes (machine_writes g p f) (record g { csrs = y })).hart in
        (record { harts = with-pc (after_side v one) (after_side w other) m n (hart-side v w one other i left.harts) l; probes = left.probes }, refl)

    -- an effect, by what follows it
    next-alike : (v w : SideEffect) (e f : Effect) (next then : Next) → AreSidesAlike v w → AreEffectsAlike o e f → next ≡ then
        → AreStepsAlike (by_next h o v e next) (by_next g p w f then)
    next-alike v w e f next then i k l =
        let P : Next → Type 0 = λ z. AreStepsAlike (by_next h o v e next) (by_next g p w f z) in
        subst P l (go next)
      where
        go : (z : Next) → AreStepsAlike (by_next h o v e z) (by_next g p w f z)
        go (Goes pc) = goes-alike v w e f pc pc _ _ i k refl (after-effect-alike h.csrs g.csrs a.csrs o p s e.csr f.csr k.csr)
        go (Raises cause) = tt
        go Calls = tt
        go Returns = (
          record {
            harts = with-pc (record h { csrs = _ }) (record g { csrs = _ }) _ _
                (with-csrs h g _ _ a (mret-csrs-alike h.csrs g.csrs a.csrs)) (mepc-alike h.csrs g.csrs a.csrs);
            probes = tt;
          },
          refl,
        )

  operands-alike : (instr : Instr) (x y : Option Cell) (c d : Cell) → AreOptionsAlike x y → AreCellsAlike c d
      → AreOperandsAlike (operand_cells h instr x c) (operand_cells g instr y d)
  operands-alike instr x y c d s t = record { rs1 = cell-alike h g (Reg (rs1_of instr)) a; rs2 = cell-alike h g (Reg (rs2_of instr)) a; word = s; old_csr = t }

  -- the effects of one instruction
  effects-alike : (instr : Instr) (o p : OperandCells) → AreOperandsAlike o p → DecidesBy o p instr
      → AreEffectsAlike o (machine_effect h instr o) (machine_effect g instr p)
  effects-alike instr o p s d =
      let P : ℕ → Type 0 = λ pc. AreEffectsAlike o (machine_effect h instr o)
      (effect_of instr pc (record { rs1 = p.rs1.value; rs2 = p.rs2.value; word = option_map (λ cell. cell.value) p.word; old_csr = p.old_csr.value })) in
      subst P a.pc (effect-alike o p s instr h.pc d)

  -- an instruction, by what it finds
  pub found-alike : (instr : Instr) (r s : Reach) → AreReachAlike r s
      → ((x y : Option Cell) (c d : Cell) → DecidesBy (operand_cells h instr x c) (operand_cells g instr y d) instr)
      → AreStepsAlike (by_reach h instr r) (by_reach g instr s)
  found-alike instr (Finds x c v) (Finds y d w) k f =
      let o = operand_cells h instr x c in
      let p = operand_cells g instr y d in
      let s = operands-alike instr x y c d k.both.0 k.both.1 in
      let e = effects-alike instr o p s (f x y c d) in
      next-alike o p s v w (machine_effect h instr o) (machine_effect g instr p) _ _ k.both.2 e e.next
  found-alike instr (NeedsQueue call x) (NeedsQueue wanted y) k f =
      let o = operand_cells h instr x blank in
      let p = operand_cells g instr y blank in
      let s = operands-alike instr x y blank blank k.both.1 (cell-refl blank) in
      let e = effects-alike instr o p s (f x y blank blank) in
      (k.both.0, effect-writes o p s (machine_effect h instr o) (machine_effect g instr p) e, refl, ap (λ (pc : ℕ). low_word (pc + 4)) a.pc)
  found-alike instr Refused Refused k f = tt
  found-alike instr (Finds x c v) (NeedsQueue wanted y) k f = absurd k.both
  found-alike instr (Finds x c v) Refused k f = absurd k.both
  found-alike instr (NeedsQueue call x) (Finds y d w) k f = absurd k.both
  found-alike instr (NeedsQueue call x) Refused k f = absurd k.both
  found-alike instr Refused (Finds y d w) k f = absurd k.both
  found-alike instr Refused (NeedsQueue wanted y) k f = absurd k.both
