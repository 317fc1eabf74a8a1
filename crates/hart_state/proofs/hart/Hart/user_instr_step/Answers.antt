-- The writes, the count and what follows.
use Rattle.std.proofs.Common.{◌≡◌, ◌+◌, List, ◌++◌, length, sym, subst}
use Rattle.hart_model.specs.declared.probe.Probe.{Probe as LogEntry}
use Rattle.hart_model.specs.HartState.{HartState}
use Rattle.rv_effect.specs.View.{writes_of}
use Rattle.hart_state.specs.UserDeed.{CanCount}
use Rattle.hart_state.proofs.BesideWords.{count-stays}
use Rattle.hart_state.proofs.Following.{user-hart, user-probes}
use Rattle.hart_state.proofs.hart.Hart.user_instr_step.Goals as goal

pub raise_count-requires : goal.raise_count-requires
raise_count-requires g c =
    let ws = writes_of c.in-Some.deed.effect.writes in
    record { count = subst (λ (x : HartState). CanCount x.held) (sym c.write_all.ensures.hart) (count-stays c.in-Some.deed.writer ws c.args.self.now c.requires.count) }

pub returns-in-Some-clause-hart : goal.returns-in-Some-clause-hart
returns-in-Some-clause-hart g c =
    let h = c.args.self.now in
    let d = c.in-Some.deed in
    let written = c.write_all.ensures.hart in
    user-hart h h.held d c.in-Some.ensures.deed c.write_all.new.self c.raise_count.new.self c.follow.new.self written c.raise_count.ensures.hart c.follow.ensures.hart

pub returns-in-Some-clause-log : goal.returns-in-Some-clause-log
returns-in-Some-clause-log g c = λ log s.
    let h = c.args.self.now in
    let d = c.in-Some.deed in
    let same = user-probes h h.held d c.in-Some.ensures.deed in
    subst (λ (ps : List LogEntry). g.K.Keeper.stands c.write_all.new.keeper (log ++ ps)) same (c.write_all.ensures.log log s)

pub returns-in-Some-clause-room : goal.returns-in-Some-clause-room
returns-in-Some-clause-room g c =
    let h = c.args.self.now in
    let d = c.in-Some.deed in
    let same = user-probes h h.held d c.in-Some.ensures.deed in
    subst (λ (ps : List LogEntry). g.K.Keeper.room_of c.write_all.new.keeper + length ps ≡ g.K.Keeper.room_of c.args.keeper.now) same c.write_all.ensures.room
