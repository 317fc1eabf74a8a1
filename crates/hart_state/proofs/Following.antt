-- What follows the writes of an instruction, in both modes.
use Rattle.std.proofs.Common.{◌≡◌, ℕ, ◌+◌, true, List, Option, Some, None, is_some, unwrap_or, refl, ap, ◌∙◌}
use Rattle.isa_model.specs.Effect.{Next, Goes, Raises, Calls, Returns, Effect}
use Rattle.hart_model.specs.declared.probe.Probe.{Probe}
use Rattle.hart_model.specs.Csrs.{CsrFile}
use Rattle.hart_model.specs.Ports.{SideEffect}
use Rattle.hart_model.specs.Context.{ContextState, BodyState}
use Rattle.hart_model.specs.HartState.{HartState}
use Rattle.hart_model.specs.Writes.{after_writes}
use Rattle.hart_model.specs.StepResult.{hart_after, probes_of}
use Rattle.hart_model.specs.UserStep.{user_writes, with_next_count, no_writes, after_user_writes, after_user_effect, user_instr_step}
use Rattle.hart_model.specs.MachineStep.{by_csrs, after_side}
use Rattle.hart_state.specs.declared.user.UserDeed.{UserDeed}
use Rattle.hart_state.specs.declared.writer.OperandCells.{OperandCells}
use Rattle.hart_state.specs.declared.writer.Writer.{Writer}
use Rattle.hart_state.specs.declared.writer.Writer.TheVariants.{User, Machine}
use Rattle.rv_effect.specs.View.{writes_of, next_of}
use Rattle.rv_effect.specs.EffectView.{effect_value}
use Rattle.hart_state.specs.WriterView.{operand_cells_of, after_writes_by}
use Rattle.hart_state.specs.UserDeed.{HasUserDeed}

-- the entries that were made don't matter to what follows
same_follow : (n : Next) (x h : HartState) (ps : List Probe)
    → hart_after x (after_user_writes (no_writes x) n) ≡ hart_after h (after_user_writes (record { hart = x; probes = ps }) n)
same_follow (Goes pc) x h ps = refl
same_follow (Raises cause) x h ps = refl
same_follow Calls x h ps = refl
same_follow Returns x h ps = refl

same_probes : (n : Next) (x : HartState) (ps : List Probe) → ps ≡ probes_of (after_user_writes (record { hart = x; probes = ps }) n)
same_probes (Goes pc) x ps = refl
same_probes (Raises cause) x ps = refl
same_probes Calls x ps = refl
same_probes Returns x ps = refl

-- an effect in user mode: the writes, the count and what follows
effect-hart : (h : HartState) (b : BodyState) (who : Writer) (e : Effect) → who ≡ User b.task_no (b.count + 1) → (h1 h2 h3 : HartState)
    → h1 ≡ (after_writes_by who e.writes h).hart → h2 ≡ with_next_count h1 → h3 ≡ hart_after h2 (after_user_writes (no_writes h2) e.next)
    → h3 ≡ hart_after h (after_user_effect h b e)
effect-hart h b who e w h1 h2 h3 e1 e2 e3 =
    let a = after_writes (user_writes h b e) h in
    let written : h1 ≡ a.hart = e1 ∙ ap (λ (v : Writer). (after_writes_by v e.writes h).hart) w in
    let counted : h2 ≡ with_next_count a.hart = e2 ∙ ap (λ (x : HartState). with_next_count x) written in
    e3 ∙ ap (λ (x : HartState). hart_after x (after_user_writes (no_writes x) e.next)) counted ∙ same_follow e.next (with_next_count a.hart) h a.probes

effect-probes : (h : HartState) (b : BodyState) (who : Writer) (e : Effect) → who ≡ User b.task_no (b.count + 1)
    → (after_writes_by who e.writes h).probes ≡ probes_of (after_user_effect h b e)
effect-probes h b who e w =
    let a = after_writes (user_writes h b e) h in
    let written : (after_writes_by who e.writes h).probes ≡ a.probes = ap (λ (v : Writer). (after_writes_by v e.writes h).probes) w in
    written ∙ same_probes e.next (with_next_count a.hart) a.probes

pub user-hart : (h : HartState) (held : Option ContextState) (d : UserDeed) → HasUserDeed h held (Some d) → (h1 h2 h3 : HartState)
    → h1 ≡ (after_writes_by d.writer (writes_of d.effect.writes) h).hart → h2 ≡ with_next_count h1
    → h3 ≡ hart_after h2 (after_user_writes (no_writes h2) (next_of d.effect.next)) → h3 ≡ hart_after h (user_instr_step h held)
user-hart h None d k h1 h2 h3 e1 e2 e3 = absurd k
user-hart h (Some c) d k h1 h2 h3 e1 e2 e3 =
    effect-hart h c.body d.writer (effect_value d.effect) k.writer h1 h2 h3 e1 e2 e3
    ∙ ap (λ (e : Effect). hart_after h (after_user_effect h c.body e)) k.effect

pub user-probes : (h : HartState) (held : Option ContextState) (d : UserDeed) → HasUserDeed h held (Some d)
    → (after_writes_by d.writer (writes_of d.effect.writes) h).probes ≡ probes_of (user_instr_step h held)
user-probes h None d k = absurd k
user-probes h (Some c) d k =
    effect-probes h c.body d.writer (effect_value d.effect) k.writer
    ∙ ap (λ (e : Effect). probes_of (after_user_effect h c.body e)) k.effect

-- an effect in machine mode that goes on: the CSR, the writes, the side effect and the pc
pub machine-hart : (h : HartState) (cells : OperandCells) (side : SideEffect) (e : Effect) (pc : ℕ) (o : Option CsrFile) → is_some o ≡ true
    → (h1 h2 h3 : HartState) → h1 ≡ record h { csrs = unwrap_or o h.csrs } → h2 ≡ (after_writes_by (Machine cells) e.writes h1).hart
    → h3 ≡ after_side side h2 → record h3 { pc = pc } ≡ hart_after h (by_csrs h (operand_cells_of cells) side e pc o)
machine-hart h cells side e pc None some h1 h2 h3 e1 e2 e3 = absurd (cc some)
machine-hart h cells side e pc (Some csrs) some h1 h2 h3 e1 e2 e3 =
    let written = e2 ∙ ap (λ (x : HartState). (after_writes_by (Machine cells) e.writes x).hart) e1 in
    ap (λ (x : HartState). record x { pc = pc }) (e3 ∙ ap (λ (x : HartState). after_side side x) written)

pub machine-probes : (h : HartState) (cells : OperandCells) (side : SideEffect) (e : Effect) (pc : ℕ) (o : Option CsrFile) → is_some o ≡ true
    → (h1 : HartState) → h1 ≡ record h { csrs = unwrap_or o h.csrs }
    → (after_writes_by (Machine cells) e.writes h1).probes ≡ probes_of (by_csrs h (operand_cells_of cells) side e pc o)
machine-probes h cells side e pc None some h1 e1 = absurd (cc some)
machine-probes h cells side e pc (Some csrs) some h1 e1 = ap (λ (x : HartState). (after_writes_by (Machine cells) e.writes x).probes) e1
