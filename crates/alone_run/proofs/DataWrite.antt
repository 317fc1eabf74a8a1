-- A data word that is written: the latch of its address holds it, and every other latch is as before.
use Rattle.std.proofs.Common.{◌≡◌, ◌≢◌, ℕ, ◌%◌, ◌<◌, ◌≤◌, ◌==◌, ◌∙◌, sym, ap, length, length-set, get_or, set, arith, IsSome, cond, eqb, unwrap_or, if◌then◌else◌, ⊎_elim, refl}
use Rattle.std.proofs.lemmas.Bool.{cases_eq, cases_lt, eq-eqb, ne_eqb, le-leb, lt-leb}
use Rattle.std.proofs.lemmas.Option.{unwrap_or-slice_get, slice_get_past}
use Rattle.std.proofs.lemmas.List.{get_or-set_same, get_or-set_other}
use Rattle.isa_model.specs.Bits.{word_address}
use Rattle.isa_model.specs.declared.latch.Latch.{Latch}
use Rattle.isa_model.specs.declared.latch.Latch.TheVariants as latches
use Rattle.isa_model.specs.declared.task.Task.{Task}
use Rattle.isa_model.specs.Alone.{with_value}
use Rattle.alone_run.specs.DataWords.{DataWords, data_word, data_index, with_data_word}
use Rattle.alone_run.specs.LatchValues.{Holds, latch_value}
use Rattle.alone_run.specs.declared.latches.Latches.{Latches}

-- what the latch of an address holds
abbrev mem_value : DataWords → ℕ → ℕ
mem_value d a = if a % 4 == 0 then unwrap_or (data_word d a) 0 else 0

-- an address whose word is there
mem_value-inside : (d : DataWords) (a : ℕ) → a % 4 ≡ 0 → d.at ≤ a → mem_value d a ≡ get_or d.words (data_index d a) 0
mem_value-inside d a aligned above = rw (eq-eqb (a % 4) 0 aligned, le-leb d.at a above) (unwrap_or-slice_get d.words (data_index d a) 0)

-- a word that is read lies in the data
pub within-above : (d : DataWords) (at : ℕ) → IsSome (data_word d at) → d.at ≤ at
within-above d at h = ⊎_elim (λ (lt : at < d.at). let e = lt-leb d.at at lt in let e2 = rw e at h in cc) (λ (le : d.at ≤ at). le) (cases_lt at d.at)

pub within-index : (d : DataWords) (at : ℕ) → IsSome (data_word d at) → data_index d at < length d.words
within-index d at h =
    let e = le-leb d.at at (within-above d at h) in
    let e2 = rw e at h in
    ⊎_elim (λ (lt : data_index d at < length d.words). lt)
    (λ (le : length d.words ≤ data_index d at). let p = slice_get_past d.words (data_index d at) le in let q = rw p at e2 in cc)
    (cases_lt (data_index d at) (length d.words))

-- the latch that is written
written_here : (d : DataWords) (at word a : ℕ) → d.at % 4 ≡ 0 → d.at ≤ at → data_index d at < length d.words → word_address at ≡ a
    → mem_value (with_data_word at word d) a ≡ word
written_here d at word a aligned above inside here =
    let place : data_index d a ≡ data_index d at = omega arith in
    let up : d.at ≤ a = omega arith in
    mem_value-inside (with_data_word at word d) a (omega arith) up
    ∙ ap (λ i. get_or (set d.words (data_index d at) word) i 0) place ∙ get_or-set_same d.words (data_index d at) word 0 inside

-- another latch
written_elsewhere : (d : DataWords) (at word a : ℕ) → d.at % 4 ≡ 0 → d.at ≤ at → (word_address at ≡ a → ⊥)
    → mem_value (with_data_word at word d) a ≡ mem_value d a
written_elsewhere d at word a aligned above there =
    ⊎_elim
    (λ (even : a % 4 ≡ 0). ⊎_elim
    (λ (below : a < d.at). rw (eq-eqb (a % 4) 0 even, lt-leb d.at a below) refl)
    (λ (up : d.at ≤ a).
    let apart : data_index d a ≢ data_index d at = omega arith in
    mem_value-inside (with_data_word at word d) a even up ∙ get_or-set_other d.words (data_index d at) (data_index d a) word 0 apart
    ∙ sym (mem_value-inside d a even up))
    (cases_lt a d.at))
    (λ (odd : a % 4 ≡ 0 → ⊥). rw (ne_eqb (a % 4) 0 odd) refl)
    (cases_eq (a % 4) 0)

mem_written : (d : DataWords) (at word a old : ℕ) → d.at % 4 ≡ 0 → d.at ≤ at → data_index d at < length d.words → mem_value d a ≡ old
    → mem_value (with_data_word at word d) a ≡ cond (eqb (word_address at) a) word old
mem_written d at word a old aligned above inside before =
    ⊎_elim
    (λ (here : word_address at ≡ a). written_here d at word a aligned above inside here ∙ sym (ap (λ b. cond b word old) (eq-eqb (word_address at) a here)))
    (λ (there : word_address at ≡ a → ⊥). written_elsewhere d at word a aligned above there ∙ before ∙ sym (ap (λ b. cond b word old) (ne_eqb (word_address at) a there)))
    (cases_eq (word_address at) a)

value_written : (m : Latches) (v : Latch → ℕ) (at word : ℕ) → m.memory.at % 4 ≡ 0 → IsSome (data_word m.memory at) → ((l : Latch) → latch_value m l ≡ v l)
    → (l : Latch) → latch_value (record m { memory = with_data_word at word m.memory }) l ≡ with_value (latches.Mem (word_address at)) word v l
value_written m v at word aligned within h (latches.Mem a) =
    mem_written m.memory at word a (v (latches.Mem a)) aligned (within-above m.memory at within) (within-index m.memory at within) (h (latches.Mem a))
value_written m v at word aligned within h (latches.Reg r) = h (latches.Reg r)
value_written m v at word aligned within h latches.PortA = h latches.PortA
value_written m v at word aligned within h latches.PortB = h latches.PortB
value_written m v at word aligned within h latches.Res = h latches.Res
value_written m v at word aligned within h latches.Load = h latches.Load
value_written m v at word aligned within h latches.Store = h latches.Store
value_written m v at word aligned within h latches.Scr = h latches.Scr
value_written m v at word aligned within h latches.Mul = h latches.Mul

pub data-written : (T : Task) (m : Latches) (v : Latch → ℕ) (at word : ℕ) → IsSome (data_word m.memory at) → Holds T m v
    → Holds T (record m { memory = with_data_word at word m.memory }) (with_value (latches.Mem (word_address at)) word v)
data-written T m v at word within h =
    let aligned : m.memory.at % 4 ≡ 0 = rw h.data_at h.aligned in
    record {
      values = value_written m v at word aligned within h.values;
      zero = h.zero;
      data_at = h.data_at;
      data_len = simp length-set h.data_len;
      aligned = h.aligned;
    }
