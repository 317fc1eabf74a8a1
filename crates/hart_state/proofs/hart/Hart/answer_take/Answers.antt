-- The writes that the load has begun with, and then those of what it loads.
use Rattle.std.proofs.Common.{◌≡◌, ◌+◌, List, ◌++◌, length, length-append, append_assoc, refl, ap, subst, ◌∙◌, arith}
use Rattle.hart_model.specs.declared.probe.Probe.{Probe as LogEntry}
use Rattle.hart_model.specs.HartState.{HartState}
use Rattle.hart_model.specs.Writes.{HartAndProbes, after_writes}
use Rattle.hart_model.specs.HartStep.{hart_step, loaded_writes}
use Rattle.hart_state.specs.declared.writer.Writer.TheVariants.{Machine}
use Rattle.hart_state.specs.Reached.{reached_bases}
use Rattle.rv_effect.specs.View.{writes_of}
use Rattle.hart_state.specs.WriterView.{tag_by, reaches_data, after_writes_by}
use Rattle.hart_state.proofs.TakeAnswer.{take-parts, take-short, few-entries}
use Rattle.hart_state.proofs.hart.Hart.answer_take.Goals as goal

pub write_loaded-requires : goal.write_loaded-requires
write_loaded-requires g c =
    let h = c.args.self.now in
    let a = c.in-Some.asked in
    let who = Machine a.cells in
    let ws = writes_of a.effect.writes in
    let short = take-short h (hart_step c.args.code.now h) a c.requires.asks c.in-Some.ensures.asked in
    let few = few-entries (reached_bases (reaches_data who) h.held) (tag_by who) ws h in
    let left = c.write_all.ensures.room in
    let room = c.requires.room in
    record { room = omega (arith, short, few, left, room) }

pub returns-clause-hart : goal.returns-clause-hart
returns-clause-hart g c =
    let h = c.args.self.now in
    let a = c.in-Some.asked in
    let parts = take-parts h c.write_all.new.self (hart_step c.args.code.now h) a c.args.got (writes_of a.effect.writes) c.take_cell-cell.result
    c.requires.asks c.in-Some.ensures.asked refl c.take_cell-cell.ensures.cell c.write_all.ensures.hart in
    ap (λ (x : HartState). record x { pc = a.next; held = c.args.got }) (c.self.view_is ∙ c.write_loaded.ensures.hart)
    ∙ ap (λ (x : HartAndProbes). x.hart) parts

pub returns-clause-log : goal.returns-clause-log
returns-clause-log g c = λ log s.
    let h = c.args.self.now in
    let a = c.in-Some.asked in
    let parts = take-parts h c.write_all.new.self (hart_step c.args.code.now h) a c.args.got (writes_of a.effect.writes) c.take_cell-cell.result
    c.requires.asks c.in-Some.ensures.asked refl c.take_cell-cell.ensures.cell c.write_all.ensures.hart in
    let early_writes = (after_writes_by (Machine a.cells) (writes_of a.effect.writes) h).probes in
    let loaded = (after_writes (loaded_writes a.rd c.take_cell-cell.result) c.write_all.new.self).probes in
    let both = c.write_loaded.ensures.log (log ++ early_writes) (c.write_all.ensures.log log s) in
    let joined = append_assoc log early_writes loaded ∙ ap (λ (x : HartAndProbes). log ++ x.probes) parts in
    subst (λ (ps : List LogEntry). g.K.Keeper.stands c.write_loaded.new.keeper ps) joined both

pub returns-clause-room : goal.returns-clause-room
returns-clause-room g c =
    let h = c.args.self.now in
    let a = c.in-Some.asked in
    let parts = take-parts h c.write_all.new.self (hart_step c.args.code.now h) a c.args.got (writes_of a.effect.writes) c.take_cell-cell.result
    c.requires.asks c.in-Some.ensures.asked refl c.take_cell-cell.ensures.cell c.write_all.ensures.hart in
    let early_writes = (after_writes_by (Machine a.cells) (writes_of a.effect.writes) h).probes in
    let loaded = (after_writes (loaded_writes a.rd c.take_cell-cell.result) c.write_all.new.self).probes in
    let sum = length-append early_writes loaded in
    let first = c.write_all.ensures.room in
    let second = c.write_loaded.ensures.room in
    let both : g.K.Keeper.room_of c.write_loaded.new.keeper + length (early_writes ++ loaded) ≡ g.K.Keeper.room_of c.args.keeper.now = omega (arith, sum, first, second) in
    subst (λ (x : HartAndProbes). g.K.Keeper.room_of c.write_loaded.new.keeper + length x.probes ≡ g.K.Keeper.room_of c.args.keeper.now) parts both
