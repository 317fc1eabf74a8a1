-- The CSR, the writes, the side effect and the pc.
use Rattle.std.proofs.Common.{◌≡◌, ◌+◌, List, ◌++◌, length, true, is_some, sym, subst, ◌∙◌}
use Rattle.hart_model.specs.declared.probe.Probe.{Probe as LogEntry}
use Rattle.hart_model.specs.HartState.{HartState}
use Rattle.hart_model.specs.MachineStep.{csrs_after_effect}
use Rattle.hart_state.specs.declared.writer.Writer.TheVariants.{Machine}
use Rattle.rv_effect.specs.View.{writes_of, optional_csr_write_of}
use Rattle.rv_effect.specs.EffectView.{effect_value}
use Rattle.hart_state.specs.WriterView.{operand_cells_of}
use Rattle.hart_state.specs.PortView.{side_of, IsPossible}
use Rattle.hart_state.proofs.BesideWords.{possible-stays}
use Rattle.hart_state.proofs.Following.{machine-hart, machine-probes}
use Rattle.hart_state.proofs.hart.Hart.go_on.Goals as goal

pub act-requires : goal.act-requires
act-requires g c =
    let side = c.args.side in
    let ws = writes_of c.args.effect.now.writes in
    let before : IsPossible c.write_csr.new.self.held side = subst (λ (x : HartState). IsPossible x.held side) (sym c.write_csr.ensures.hart) c.requires.possible in
    let after = possible-stays side (Machine c.args.cells.now) ws c.write_csr.new.self before in
    record { possible = subst (λ (x : HartState). IsPossible x.held side) (sym c.write_all.ensures.hart) after }

pub returns-clause-hart : goal.returns-clause-hart
returns-clause-hart g c =
    let h = c.args.self.now in
    let cells = c.args.cells.now in
    let o = csrs_after_effect h.csrs (operand_cells_of cells) (optional_csr_write_of c.args.effect.now.csr) in
    let yes : c.write_csr.result ≡ true = cc in
    let some : is_some o ≡ true = sym c.write_csr.ensures.accepted ∙ yes in
    let written = c.write_all.ensures.hart in
    machine-hart h cells (side_of c.args.side) (effect_value c.args.effect.now) c.args.pc o some c.write_csr.new.self c.write_all.new.self _
    c.write_csr.ensures.hart written (c.self.view_is ∙ c.act.ensures.hart)

pub returns-clause-log : goal.returns-clause-log
returns-clause-log g c = λ log s.
    let h = c.args.self.now in
    let cells = c.args.cells.now in
    let o = csrs_after_effect h.csrs (operand_cells_of cells) (optional_csr_write_of c.args.effect.now.csr) in
    let yes : c.write_csr.result ≡ true = cc in
    let some : is_some o ≡ true = sym c.write_csr.ensures.accepted ∙ yes in
    let same = machine-probes h cells (side_of c.args.side) (effect_value c.args.effect.now) c.args.pc o some c.write_csr.new.self c.write_csr.ensures.hart in
    subst (λ (ps : List LogEntry). g.K.Keeper.stands c.write_all.new.keeper (log ++ ps)) same (c.write_all.ensures.log log s)

pub returns-clause-room : goal.returns-clause-room
returns-clause-room g c =
    let h = c.args.self.now in
    let cells = c.args.cells.now in
    let o = csrs_after_effect h.csrs (operand_cells_of cells) (optional_csr_write_of c.args.effect.now.csr) in
    let yes : c.write_csr.result ≡ true = cc in
    let some : is_some o ≡ true = sym c.write_csr.ensures.accepted ∙ yes in
    let same = machine-probes h cells (side_of c.args.side) (effect_value c.args.effect.now) c.args.pc o some c.write_csr.new.self c.write_csr.ensures.hart in
    subst (λ (ps : List LogEntry). g.K.Keeper.room_of c.write_all.new.keeper + length ps ≡ g.K.Keeper.room_of c.args.keeper.now) same c.write_all.ensures.room
