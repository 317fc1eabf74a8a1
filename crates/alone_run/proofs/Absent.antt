-- A latch that the task hasn't is 0.
use Rattle.std.proofs.Common.{◌≡◌, ℕ, ◌+◌, ◌*◌, ◌%◌, ◌<◌, ◌≤◌, ◌==◌, ◌∙◌, length, arith, false, ◌&&◌, unwrap_or, if◌then◌else◌, ⊎_elim, refl, ap}
use Rattle.std.proofs.lemmas.Bool.{cases_eq, cases_lt, eq-eqb, ne_eqb, lt-ltb, le-leb, lt-leb, eqb-true, not-false}
use Rattle.std.proofs.lemmas.Option.{slice_get_past}
use Rattle.isa_model.specs.declared.latch.Latch.{Latch}
use Rattle.isa_model.specs.declared.latch.Latch.TheVariants as latches
use Rattle.isa_model.specs.declared.task.Task.{Task}
use Rattle.isa_model.specs.Alone.{is_data_address}
use Rattle.alone_run.specs.DataWords.{DataWords, data_word, data_index}
use Rattle.alone_run.specs.LatchValues.{Holds, latch_value, has_latch}
use Rattle.alone_run.specs.declared.latches.Latches.{Latches}

-- an address outside the data, or one that isn't the address of a word
outside : (T : Task) (d : DataWords) (at : ℕ) → d.at ≡ T.data_at → length d.words ≡ T.data_len → (is_data_address T at && (at % 4 == 0)) ≡ false
    → (if at % 4 == 0 then unwrap_or (data_word d at) 0 else 0) ≡ 0
outside T d at place len absent =
    ⊎_elim
    (λ (even : at % 4 ≡ 0). ⊎_elim
    (λ (below : at < d.at). rw (eq-eqb (at % 4) 0 even, lt-leb d.at at below) refl)
    (λ (up : d.at ≤ at). ⊎_elim
    (λ (inside : at < d.at + 4 * length d.words).
    let place' : T.data_at ≤ at = omega arith in
    let inside' : at < T.data_at + 4 * T.data_len = omega arith in
    let h = rw (le-leb T.data_at at place', lt-ltb at (T.data_at + 4 * T.data_len) inside', eq-eqb (at % 4) 0 even) at absent in
    cc)
    (λ (past : d.at + 4 * length d.words ≤ at).
    let beyond : length d.words ≤ data_index d at = omega arith in
    rw (eq-eqb (at % 4) 0 even, le-leb d.at at up, slice_get_past d.words (data_index d at) beyond) refl)
    (cases_lt at (d.at + 4 * length d.words)))
    (cases_lt at d.at))
    (λ (odd : at % 4 ≡ 0 → ⊥). rw (ne_eqb (at % 4) 0 odd) refl)
    (cases_eq (at % 4) 0)

pub value-absent : (T : Task) (m : Latches) (v : Latch → ℕ) (l : Latch) → Holds T m v → has_latch T l ≡ false → latch_value m l ≡ 0
value-absent T m v (latches.Reg r) h absent = ap (λ k. latch_value m (latches.Reg k)) (eqb-true r 0 (not-false (r == 0) absent)) ∙ h.zero
value-absent T m v latches.PortA h absent = cc
value-absent T m v latches.PortB h absent = cc
value-absent T m v latches.Res h absent = cc
value-absent T m v latches.Load h absent = cc
value-absent T m v latches.Store h absent = cc
value-absent T m v latches.Scr h absent = refl
value-absent T m v latches.Mul h absent = cc
value-absent T m v (latches.Mem at) h absent = outside T m.memory at h.data_at h.data_len absent
