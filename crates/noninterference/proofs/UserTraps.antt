-- What follows the writes of an instruction in user mode, and a trap, on harts that are alike.
use Rattle.std.proofs.Common.{◌≡◌, ℕ, ◌+◌, List, [], ◌∷◌, Option, Some, None, refl, ap, subst}
use Rattle.isa_model.specs.declared.latch.Latch.{Latch}
use Rattle.isa_model.specs.Effect.{Effect, Write, Next, Goes, Raises, Calls, Returns}
use Rattle.hart_model.specs.declared.place.Place.{Place}
use Rattle.hart_model.specs.declared.tag.Cell.{Cell}
use Rattle.hart_model.specs.Cells.{Bases, place_of}
use Rattle.hart_model.specs.Csrs.{CsrFile}
use Rattle.hart_model.specs.Traps.{csrs_after_trap}
use Rattle.hart_model.specs.Taint.{user_tag}
use Rattle.hart_model.specs.Context.{ContextState, BodyState}
use Rattle.hart_model.specs.HartState.{HartState, bases_of}
use Rattle.hart_model.specs.Writes.{CellWrite, HartAndProbes, cell_writes, placed, after_writes}
use Rattle.hart_model.specs.UserStep.{held_with_next_count, with_next_count, after_trap, after_user_writes, after_user_effect, user_writes}
use Rattle.core_model.specs.LowEquivalence.{ArePairwise}
use Rattle.core_model.specs.AlikeHarts.{AreCellsAlike, AreHeldAlike, AreCsrsAlike, AreHartsAlike}
use Rattle.noninterference.specs.AlikeSteps.{AreWritesAlike, AreLeftAlike, AreStepsAlike}
use Rattle.noninterference.proofs.CellsHarts.{bases-alike}
use Rattle.noninterference.proofs.CellsWrites.{writes-leave-alike}
use Rattle.noninterference.proofs.UserCsrs.{csrs-agree}

-- the latches that writes go to
abbrev pub latches_of : List Write → List Latch
latches_of [] = []
latches_of (w ∷ ws) = w.to ∷ latches_of ws

-- Two effects write the same latches in the same order, and the same follows.
pub record AreEffectsAlike (e f : Effect) : Type 0 where
  pub latches : latches_of e.writes ≡ latches_of f.writes
  pub next : e.next ≡ f.next

-- The CSRs after a trap, by one cause at one pc.
pub csrs-trap-alike : (a b : CsrFile) (cause pc : ℕ) → AreCsrsAlike a b → AreCsrsAlike (csrs_after_trap a cause pc) (csrs_after_trap b cause pc)
csrs-trap-alike a b cause pc alike = record { scratch = alike.scratch; others = ap (λ (c : CsrFile). csrs_after_trap c cause pc) alike.others }

module _ (a b : HartAndProbes) (alike : AreLeftAlike a b) where
  -- A trap by one cause.
  pub trap-alike : (cause : ℕ) → AreStepsAlike (after_trap a cause) (after_trap b cause)
  trap-alike cause =
      let P : ℕ → Type 0 = λ pc. AreCsrsAlike (csrs_after_trap a.hart.csrs cause a.hart.pc) (csrs_after_trap b.hart.csrs cause pc) in
      let csrs = subst P alike.harts.pc (csrs-trap-alike a.hart.csrs b.hart.csrs cause a.hart.pc alike.harts.csrs) in
      let pc : a.hart.csrs.mtvec ≡ b.hart.csrs.mtvec = csrs-agree (λ (c : CsrFile). c.mtvec) a.hart.csrs b.hart.csrs alike.harts.csrs (λ c m. refl) in (
        record {
          harts = record {
            regs = alike.harts.regs;
            port_a = alike.harts.port_a;
            port_b = alike.harts.port_b;
            res = alike.harts.res;
            load = alike.harts.load;
            store = alike.harts.store;
            mul = alike.harts.mul;
            zero_word = alike.harts.zero_word;
            csrs = csrs;
            pc = pc;
            held = alike.harts.held;
          };
          probes = alike.probes;
        },
        refl,
      )

  -- What follows the writes is the same.
  pub follows-alike : (next : Next) → AreStepsAlike (after_user_writes a next) (after_user_writes b next)
  follows-alike (Goes pc) = (
    record {
      harts = record {
        regs = alike.harts.regs;
        port_a = alike.harts.port_a;
        port_b = alike.harts.port_b;
        res = alike.harts.res;
        load = alike.harts.load;
        store = alike.harts.store;
        mul = alike.harts.mul;
        zero_word = alike.harts.zero_word;
        csrs = alike.harts.csrs;
        pc = refl;
        held = alike.harts.held;
      };
      probes = alike.probes;
    },
    refl,
  )
  follows-alike (Raises cause) = trap-alike cause
  follows-alike Calls = trap-alike 8
  follows-alike Returns = trap-alike 2

-- one instruction more is counted on both
counted_alike : (o r : Option ContextState) → AreHeldAlike o r → AreHeldAlike (held_with_next_count o) (held_with_next_count r)
counted_alike None None held = tt
counted_alike (Some c) (Some d) held = record {
  body = record {
    task_no = held.body.task_no;
    code_at = held.body.code_at;
    data_at = held.body.data_at;
    code = held.body.code;
    data_words = held.body.data_words;
    tape = held.body.tape;
    tape_at = held.body.tape_at;
    output = held.body.output;
    out_max = held.body.out_max;
    fuel = held.body.fuel;
    count = ap (λ n. n + 1) held.body.count;
  };
  slot = held.slot;
  words = held.words;
  end = held.end;
}
counted_alike None (Some d) held = absurd held
counted_alike (Some c) None held = absurd held

next_count_alike : (h g : HartState) → AreHartsAlike h g → AreHartsAlike (with_next_count h) (with_next_count g)
next_count_alike h g alike = record {
  regs = alike.regs;
  port_a = alike.port_a;
  port_b = alike.port_b;
  res = alike.res;
  load = alike.load;
  store = alike.store;
  mul = alike.mul;
  zero_word = alike.zero_word;
  csrs = alike.csrs;
  pc = alike.pc;
  held = counted_alike h.held g.held alike.held;
}

-- the tag of a task's write is public nowhere
own_alike : (task n : ℕ) (l : Latch) (x y : ℕ)
    → AreCellsAlike (record { value = x; tag = user_tag task n l }) (record { value = y; tag = user_tag task n l })
own_alike task n l x y = record { tag = refl; value = λ is. absurd cc }

placed_alike : (o : Option Place) (x y : Cell) (ws vs : List CellWrite) → AreCellsAlike x y → ArePairwise AreWritesAlike ws vs
    → ArePairwise AreWritesAlike (placed o x ws) (placed o y vs)
placed_alike None x y ws vs cells all = all
placed_alike (Some p) x y ws vs cells all = (record { at = refl; cell = cells }, all)

-- the writes of the same latches by one task after one count
tagged_alike : (b : Bases) (task n : ℕ) (ws vs : List Write) → latches_of ws ≡ latches_of vs
    → ArePairwise AreWritesAlike (cell_writes b (λ w. user_tag task n w.to) ws) (cell_writes b (λ w. user_tag task n w.to) vs)
tagged_alike b task n [] [] same = tt
tagged_alike b task n (w ∷ ws) (v ∷ vs) same =
    let to : w.to ≡ v.to = cc in
    let rest : latches_of ws ≡ latches_of vs = cc in
    let P : Latch → Type 0 = λ l.
    ArePairwise AreWritesAlike (cell_writes b (λ (u : Write). user_tag task n u.to) (w ∷ ws))
    (placed (place_of b l) (record { value = v.value; tag = user_tag task n l }) (cell_writes b (λ (u : Write). user_tag task n u.to) vs)) in
    subst P to
    (placed_alike (place_of b w.to) (record { value = w.value; tag = user_tag task n w.to }) (record { value = v.value; tag = user_tag task n w.to })
    (cell_writes b (λ (u : Write). user_tag task n u.to) ws) (cell_writes b (λ (u : Write). user_tag task n u.to) vs)
    (own_alike task n w.to w.value v.value) (tagged_alike b task n ws vs rest))
tagged_alike b task n [] (v ∷ vs) same = absurd cc
tagged_alike b task n (w ∷ ws) [] same = absurd cc

-- Effects that are alike, on harts that are alike, lead to steps that are alike.
pub effects-step-alike : (h g : HartState) (b d : BodyState) (e f : Effect) → AreHartsAlike h g
    → b.task_no ≡ d.task_no → b.count ≡ d.count → AreEffectsAlike e f
    → AreStepsAlike (after_user_effect h b e) (after_user_effect g d f)
effects-step-alike h g b d e f alike task count effects =
    let P : Bases → ℕ → ℕ → Type 0 = λ bases t n.
    ArePairwise AreWritesAlike (user_writes h b e) (cell_writes bases (λ (w : Write). user_tag t n w.to) f.writes) in
    let writes : ArePairwise AreWritesAlike (user_writes h b e) (user_writes g d f) =
    subst (λ bases. P bases d.task_no d.count) (bases-alike h.held g.held alike.held)
    (subst (λ t. P (bases_of h.held) t d.count) task
    (subst (λ n. P (bases_of h.held) b.task_no n) count (tagged_alike (bases_of h.held) b.task_no b.count e.writes f.writes effects.latches))) in
    let left = writes-leave-alike (user_writes h b e) (user_writes g d f) h g writes alike in
    let left_hart : HartAndProbes = after_writes (user_writes h b e) h in
    let right_hart : HartAndProbes = after_writes (user_writes g d f) g in
    let x : HartAndProbes = record { hart = with_next_count left_hart.hart; probes = left_hart.probes } in
    let y : HartAndProbes = record { hart = with_next_count right_hart.hart; probes = right_hart.probes } in
    let counted : AreLeftAlike x y = record { harts = next_count_alike left_hart.hart right_hart.hart left.harts; probes = left.probes } in
    subst (λ next. AreStepsAlike (after_user_writes x e.next) (after_user_writes y next)) effects.next (follows-alike x y counted e.next)
