-- What the answer to a take leaves, part by part, and what an instruction has begun with that asks.
use Rattle.std.proofs.Common.{◌≡◌, ℕ, ◌+◌, ◌%◌, ◌≤◌, List, [], ◌∷◌, ◌++◌, length, Option, Some, None, refl, ap, sym, subst, ◌∙◌, arith}
use Rattle.isa_model.specs.declared.instr.Instr.{Instr}
use Rattle.isa_model.specs.Bits.{low_word}
use Rattle.isa_model.specs.Effect.{Effect, Write, effect_of}
use Rattle.hart_model.specs.declared.calls.QueueCall.{QueueCall}
use Rattle.hart_model.specs.declared.calls.QueueCall.TheVariants as calls
use Rattle.hart_model.specs.declared.place.Place.{Place}
use Rattle.hart_model.specs.declared.tag.Cell.{Cell}
use Rattle.hart_model.specs.declared.tag.Tag.{Tag}
use Rattle.hart_model.specs.Cells.{Bases, blank, place_of}
use Rattle.hart_model.specs.Context.{ContextState}
use Rattle.hart_model.specs.HartState.{HartState, hart_with_cell}
use Rattle.hart_model.specs.Writes.{CellWrite, HartAndProbes, probe_of_write, placed, cell_writes, after_writes}
use Rattle.hart_model.specs.StepResult.{StepResult, Steps, Wants, Wedged}
use Rattle.hart_model.specs.HartStep.{take_cell, loaded_writes}
use Rattle.hart_model.specs.MachineStep.{Reach, NeedsQueue, OperandCells, operand_cells, operand_values, machine_effect, machine_writes, load_rd, reach_of, by_reach, machine_instr_step}
use Rattle.hart_state.specs.declared.writer.OperandCells.{OperandCells as CodeCells}
use Rattle.hart_state.specs.declared.writer.Writer.TheVariants.{Machine}
use Rattle.rv_effect.specs.declared.effect.Effect.{Effect as CodeEffect}
use Rattle.hart_state.specs.declared.answering.Asked.{Asked}
use Rattle.rv_effect.specs.View.{writes_of}
use Rattle.rv_effect.specs.EffectView.{effect_value}
use Rattle.hart_state.specs.WriterView.{operand_cells_of, tag_by, writes_by, after_writes_by}
use Rattle.hart_state.specs.Asked.{AsksTake, HasAsked, BeginsShort, after_take}
use Rattle.hart_state.proofs.Asking.{begins-short}
use Rattle.hart_state.proofs.Giving.{early_writes-keeps, asks-held}

-- some writes and then others
abbrev pub in_two : HartAndProbes → HartAndProbes → HartAndProbes
in_two one rest = record { hart = rest.hart; probes = one.probes ++ rest.probes }

after-append : (xs ys : List CellWrite) (h : HartState) → after_writes (xs ++ ys) h ≡ in_two (after_writes xs h) (after_writes ys (after_writes xs h).hart)
after-append [] ys h = refl
after-append (w ∷ xs) ys h =
    let with_first : HartAndProbes → HartAndProbes = λ a. record { hart = a.hart; probes = probe_of_write h w ∷ a.probes } in
    ap with_first (after-append xs ys (hart_with_cell h w.at w.cell))

-- the hart that holds what was got and goes on there
abbrev pub with_got : Option ContextState → ℕ → HartAndProbes → HartAndProbes
with_got got next a = record { hart = record a.hart { pc = next; held = got }; probes = a.probes }

abbrev pub early_writes_and_loaded : Option ContextState → ℕ → HartAndProbes → HartAndProbes
early_writes_and_loaded got rd one = in_two one (after_writes (loaded_writes rd (take_cell got)) one.hart)

pub taken : (h : HartState) (step : StepResult) (a : Asked) (got : Option ContextState) → AsksTake step → HasAsked h step (Some a)
    → after_take step got h ≡ with_got got a.next (early_writes_and_loaded got a.rd (after_writes_by (Machine a.cells) (writes_of a.effect.writes) h))
taken h (Wants calls.Take early_writes rd next) a got asks k =
    ap (λ (x : HartAndProbes). with_got got next x) (after-append early_writes (loaded_writes rd (take_cell got)) h)
    ∙ ap (λ (b : List CellWrite). with_got got next (early_writes_and_loaded got rd (after_writes b h))) (sym k.early_writes_is)
    ∙ ap (λ (r : ℕ). with_got got next (early_writes_and_loaded got r (after_writes_by (Machine a.cells) (writes_of a.effect.writes) h))) (sym k.rd_is)
    ∙ ap (λ (n : ℕ). with_got got n (early_writes_and_loaded got a.rd (after_writes_by (Machine a.cells) (writes_of a.effect.writes) h))) (sym k.next_is)
taken h (Wants calls.GiveReady early_writes rd next) a got asks k = absurd asks
taken h (Wants calls.GiveDone early_writes rd next) a got asks k = absurd asks
taken h (Steps hart probes did) a got asks k = absurd asks
taken h Wedged a got asks k = absurd asks

pub take-found : (h : HartState) (step : StepResult) → AsksTake step → HasAsked h step None → ⊥
take-found h (Wants calls.Take early_writes rd next) asks k = k
take-found h (Wants calls.GiveReady early_writes rd next) asks k = k
take-found h (Wants calls.GiveDone early_writes rd next) asks k = k
take-found h (Steps hart probes did) asks k = asks
take-found h Wedged asks k = asks

pub take-short : (h : HartState) (step : StepResult) (a : Asked) → AsksTake step → HasAsked h step (Some a) → length (writes_of a.effect.writes) ≤ 2
take-short h (Wants calls.Take early_writes rd next) a asks k = k.short
take-short h (Wants calls.GiveReady early_writes rd next) a asks k = absurd asks
take-short h (Wants calls.GiveDone early_writes rd next) a asks k = absurd asks
take-short h (Steps hart probes did) a asks k = absurd asks
take-short h Wedged a asks k = absurd asks

pub take-aligned : (h : HartState) (step : StepResult) (a : Asked) → HasAsked h step (Some a) → a.next % 4 ≡ 0
take-aligned h (Wants call early_writes rd next) a k = k.aligned
take-aligned h (Steps hart probes did) a k = absurd k
take-aligned h Wedged a k = absurd k

-- an instruction that the queue has to answer
pub needs : (h : HartState) (instr : Instr) (call : QueueCall) (word : Option Cell) (cells : CodeCells) (code_effect : CodeEffect) (rd next : ℕ)
    → NeedsQueue call word ≡ reach_of h instr → operand_cells_of cells ≡ operand_cells h instr word blank
    → effect_value code_effect ≡ effect_of instr h.pc (operand_values (operand_cells_of cells))
    → rd ≡ load_rd instr → next ≡ low_word (h.pc + 4) → h.pc % 4 ≡ 0
    → HasAsked h (machine_instr_step h instr) (Some (record { cells = cells; effect = code_effect; rd = rd; next = next }))
needs h instr call word cells code_effect rd next reach same effect rd_is next_is aligned =
    let a : Asked = record { cells = cells; effect = code_effect; rd = rd; next = next } in
    let writes : writes_of code_effect.writes ≡ (effect_of instr h.pc (operand_values (operand_cells_of cells))).writes = ap (λ (e : Effect). e.writes) effect in
    let of_step : writes_of code_effect.writes ≡ (effect_of instr h.pc (operand_values (operand_cells h instr word blank))).writes =
    writes ∙ ap (λ (o : OperandCells). (effect_of instr h.pc (operand_values o)).writes) same in
    subst (λ (r : Reach). HasAsked h (by_reach h instr r) (Some a)) reach (record {
      early_writes_is = ap (λ (ws : List Write). writes_by (Machine cells) h.held ws) writes ∙ ap (λ (o : OperandCells). machine_writes h o (machine_effect h instr o)) same;
      rd_is = rd_is;
      next_is = next_is;
      aligned = omega (arith, next_is, aligned);
      short = subst (λ (ws : List Write). BeginsShort call (length ws)) (sym of_step) (begins-short h instr call word (sym reach));
      keeps = subst (λ (ws : List Write). (after_writes_by (Machine cells) ws h).hart.held ≡ h.held) (sym of_step) (early_writes-keeps h (tag_by (Machine cells)) instr call word (sym reach));
      gives = asks-held h instr call word (sym reach);
    })

-- the same by what the code has: the writes, the hart after them, and the cell that is loaded
pub take-parts : (h h1 : HartState) (step : StepResult) (a : Asked) (got : Option ContextState) (ws : List Write) (cell : Cell)
    → AsksTake step → HasAsked h step (Some a) → ws ≡ (writes_of a.effect.writes) → cell ≡ take_cell got → h1 ≡ (after_writes_by (Machine a.cells) ws h).hart
    → with_got got a.next (in_two (after_writes_by (Machine a.cells) ws h) (after_writes (loaded_writes a.rd cell) h1)) ≡ after_take step got h
take-parts h h1 step a got ws cell asks k ws_is cell_is h1_is =
    let one = after_writes_by (Machine a.cells) ws h in
    ap (λ (c : Cell). with_got got a.next (in_two one (after_writes (loaded_writes a.rd c) h1))) cell_is
    ∙ ap (λ (x : HartState). with_got got a.next (in_two one (after_writes (loaded_writes a.rd (take_cell got)) x))) h1_is
    ∙ ap (λ (xs : List Write). with_got got a.next (early_writes_and_loaded got a.rd (after_writes_by (Machine a.cells) xs h))) ws_is
    ∙ sym (taken h step a got asks k)

-- no more entries than writes
few-placed : (o : Option Place) (cell : Cell) (rest : List CellWrite) (n : ℕ) → ((g : HartState) → length (after_writes rest g).probes ≤ n) → (h : HartState)
    → length (after_writes (placed o cell rest) h).probes ≤ n + 1
few-placed None cell rest n k h = let p = k h in omega (arith, p)
few-placed (Some place) cell rest n k h = let p = k (hart_with_cell h place cell) in omega (arith, p)

pub few-entries : (b : Bases) (tag : Write → Tag) (ws : List Write) (h : HartState) → length (after_writes (cell_writes b tag ws) h).probes ≤ length ws
few-entries b tag [] h = omega arith
few-entries b tag (w ∷ ws) h =
    let p = few-placed (place_of b w.to) (record { value = w.value; tag = tag w }) (cell_writes b tag ws) (length ws) (few-entries b tag ws) h in omega (arith, p)
