-- A fault of a text names one of its lines or the line after them, and no want of memory.
use Rattle.std.proofs.Common.{◌≡◌, ◌≢◌, ℕ, ◌+◌, ◌≤◌, ◌==◌, Bool, true, false, ◌&&◌, cond, eqb, leb, List, [], ◌∷◌, ◌++◌, length, codes, Option, Some, None, Result, Ok, Err, sym, subst, arith}
use Rattle.std.specs.Str.{bytes_eq}
use Rattle.bundle_text.specs.Pieces.{is_text, tokens}
use Rattle.bundle_text.specs.Numbers.{number_in, number_within, decimal_of, hex_of, without_0x, word_within, word_of}
use Rattle.bundle_text.specs.Operands.{◌>>=◌, each, no_operands, one_number, are_limit_words, band_token, limits_of, task_operands, quanta_tokens, plan_of, plan_operands, has_plan, is_as_long, world_operands}
use Rattle.bundle_text.specs.Runs.{run_of, run_within, order_operand, event_with, event_operand}
use Rattle.bundle_text.specs.Places.{word_named, place_after, may_end, is_in_code}
use Rattle.bundle_text.specs.Lines.{task_with, with_words, with_plan, with_task_ended, with_operands, is_comment, placed_line, line_of_word, line_of_tokens, line_of_code, with_line, at_line, at_end, with_lines}
use Rattle.core_model.specs.declared.event.Event.{Event}
use Rattle.core_model.specs.declared.event.Event.TheVariants.{Go, Tick}
use Rattle.core_model.specs.declared.event.OrderRun.{OrderRun}
use Rattle.bundle_text.specs.declared.draft.Draft.{Draft}
use Rattle.bundle_text.specs.declared.draft.Word.{Word}
use Rattle.bundle_text.specs.declared.draft.Word.TheVariants as word
use Rattle.bundle_text.specs.declared.draft.Place.{Place}
use Rattle.bundle_text.specs.declared.bundle.Bundle.{Bundle}
use Rattle.bundle_text.specs.declared.bundle.BundleFault.{BundleFault}
use Rattle.bundle_text.specs.declared.bundle.BundleKind.{BundleKind}
use Rattle.bundle_text.specs.declared.bundle.BundleKind.TheVariants as kind
use Rattle.core_model.specs.declared.world.World.{World}
use Rattle.bundle_text.proofs.Steps.{err_ok}

-- ---- no refusal by a line is for want of memory

abbrev IsOfForm : BundleKind → Type 0
IsOfForm kind.Memory = ⊥
IsOfForm k = Unit {0}

abbrev RefusesByForm : {A : Type 0} → Result A BundleKind → Type 0
RefusesByForm (Ok x) = Unit {0}
RefusesByForm (Err k) = IsOfForm k

then_form : {A B : Type 0} (r : Result A BundleKind) (f : A → Result B BundleKind) → RefusesByForm r → ((x : A) → RefusesByForm (f x)) → RefusesByForm (r >>= f)
then_form (Ok x) f h more = more x
then_form (Err k) f h more = h

if_form : {A : Type 0} (t : Bool) (r s : Result A BundleKind) → RefusesByForm r → RefusesByForm s → RefusesByForm (cond t r s)
if_form true r s h k = h
if_form false r s h k = k

each_form : {A : Type 0} (says : List ℕ → Result A BundleKind) → ((t : List ℕ) → RefusesByForm (says t)) → (ts : List (List ℕ)) → RefusesByForm (each says ts)
each_form says h [] = tt
each_form says h (t ∷ ts) =
    then_form (says t) (λ x. each says ts >>= λ xs. Ok (x ∷ xs)) (h t)
    (λ x. then_form (each says ts) (λ xs. Ok (x ∷ xs)) (each_form says h ts) (λ xs. tt))

within_form : (low high : ℕ) (o : Option ℕ) → RefusesByForm (number_within low high o)
within_form low high None = tt
within_form low high (Some n) = if_form (leb low n && leb n high) (Ok n) (Err kind.OutOfRange) tt tt

number_form : (low high : ℕ) (t : List ℕ) → RefusesByForm (number_in low high t)
number_form low high t = within_form low high (decimal_of t)

word_within_form : (short : Bool) (o : Option ℕ) → RefusesByForm (word_within short o)
word_within_form short None = tt
word_within_form short (Some n) = if_form short (Ok n) (Err kind.OutOfRange) tt tt

word_form : (t : List ℕ) → RefusesByForm (word_of t)
word_form t = word_within_form (leb (length (without_0x t)) 8) (hex_of (without_0x t))

run_form : (o : Option (ℕ × ℕ)) → RefusesByForm (run_within o)
run_form None = tt
run_form (Some run) =
    if_form (leb run.0 7 && (leb 1 run.1 && leb run.1 1048576)) (Ok (record { hart = run.0; times = run.1 })) (Err kind.OutOfRange) tt tt

order_form : (t : List ℕ) → RefusesByForm (order_operand t)
order_form t = run_form (run_of t)

with_event_form : (event : ℕ → Event) (r : Result OrderRun BundleKind) → RefusesByForm r → RefusesByForm (event_with event r)
with_event_form event (Ok run) h = tt
with_event_form event (Err k) h = h

event_form : (t : List ℕ) → RefusesByForm (event_operand t)
event_form [] = tt
event_form (letter ∷ t) =
    if_form (eqb letter 0x67) (event_with (λ hart. Go hart) (order_operand t))
    (cond (eqb letter 0x74) (event_with (λ hart. Tick hart) (order_operand t)) (Err kind.BadNumber))
    (with_event_form (λ hart. Go hart) (order_operand t) (order_form t))
    (if_form (eqb letter 0x74) (event_with (λ hart. Tick hart) (order_operand t)) (Err kind.BadNumber)
    (with_event_form (λ hart. Tick hart) (order_operand t) (order_form t)) tt)

one_form : (low high : ℕ) (ts : List (List ℕ)) → RefusesByForm (one_number low high ts)
one_form low high [] = tt
one_form low high (t ∷ []) = number_form low high t
one_form low high (t ∷ u ∷ ts) = tt

limits_form : (fuel out count : List ℕ) (o : Option (List ℕ)) → RefusesByForm (limits_of fuel out count o)
limits_form fuel out count None = tt
limits_form fuel out count (Some band) =
    then_form (number_in 1 100000 fuel) (λ f. number_in 0 4096 out >>= λ o. number_in 0 1024 count >>= λ d. number_in 0 1 band >>= λ b. Ok (f, o, d, b)) (number_form 1 100000 fuel)
    (λ f. then_form (number_in 0 4096 out) (λ o. number_in 0 1024 count >>= λ d. number_in 0 1 band >>= λ b. Ok (f, o, d, b)) (number_form 0 4096 out)
    (λ o. then_form (number_in 0 1024 count) (λ d. number_in 0 1 band >>= λ b. Ok (f, o, d, b)) (number_form 0 1024 count)
    (λ d. then_form (number_in 0 1 band) (λ b. Ok (f, o, d, b)) (number_form 0 1 band) (λ b. tt))))

task_form : (has_bands : Bool) (ts : List (List ℕ)) → RefusesByForm (task_operands has_bands ts)
task_form has_bands (fuel_word ∷ fuel ∷ out_word ∷ out ∷ data_word ∷ data_len ∷ rest) =
    if_form (are_limit_words fuel_word out_word data_word) (limits_of fuel out data_len (band_token has_bands rest)) (Err kind.Operands)
    (limits_form fuel out data_len (band_token has_bands rest)) tt
task_form has_bands _ = tt

plan_of_form : (hart tail : List ℕ) (o : Option (List (List ℕ))) → RefusesByForm (plan_of hart tail o)
plan_of_form hart tail None = tt
plan_of_form hart tail (Some ts) =
    then_form (number_in 0 7 hart) (λ h. number_in 1 4096 tail >>= λ t. each (number_in 0 4096) ts >>= λ q.
    Ok (record { hart = h; plan = record { quanta = q; tail = t } })) (number_form 0 7 hart)
    (λ h. then_form (number_in 1 4096 tail) (λ t. each (number_in 0 4096) ts >>= λ q.
    Ok (record { hart = h; plan = record { quanta = q; tail = t } })) (number_form 1 4096 tail)
    (λ t. then_form (each (number_in 0 4096) ts) (λ q. Ok (record { hart = h; plan = record { quanta = q; tail = t } }))
    (each_form (number_in 0 4096) (number_form 0 4096) ts) (λ q. tt)))

plan_form : (ts : List (List ℕ)) → RefusesByForm (plan_operands ts)
plan_form [] = tt
plan_form (hart ∷ []) = tt
plan_form (hart ∷ word ∷ []) = tt
plan_form (hart ∷ word ∷ tail ∷ ts) =
    if_form (bytes_eq word (codes "tail")) (plan_of hart tail (quanta_tokens ts)) (Err kind.Operands) (plan_of_form hart tail (quanta_tokens ts)) tt

world_form : (worlds : List World) (ts : List (List ℕ)) → RefusesByForm (world_operands worlds ts)
world_form worlds [] = tt
world_form worlds (secret ∷ ts) =
    if_form (is_as_long worlds (length ts)) (number_in 0 0xffffffff secret >>= λ s. each word_of ts >>= λ tape. Ok (record { secret = s; tape = tape }))
    (Err kind.Operands)
    (then_form (number_in 0 0xffffffff secret) (λ s. each word_of ts >>= λ tape. Ok (record { secret = s; tape = tape })) (number_form 0 0xffffffff secret)
    (λ s. then_form (each word_of ts) (λ tape. Ok (record { secret = s; tape = tape })) (each_form word_of word_form ts) (λ tape. tt))) tt

operands_form : (w : Word) (number : ℕ) (d : Draft) (ts : List (List ℕ)) → RefusesByForm (with_operands w number d ts)
operands_form word.Bundle number d ts = then_form (one_number 1 2 ts) (λ version. Ok (record d { has_bands = version == 2 })) (one_form 1 2 ts) (λ version. tt)
operands_form word.Slots number d ts =
    then_form (one_number 1 8 ts) (λ slots. Ok (record d { bundle = record d.bundle { slots = slots } })) (one_form 1 8 ts) (λ slots. tt)
operands_form word.Plan number d ts =
    then_form (plan_operands ts) (λ plan. with_plan d.bundle.plans plan >>= λ plans. Ok (record d { bundle = record d.bundle { plans = plans } })) (plan_form ts)
    (λ plan. then_form (with_plan d.bundle.plans plan) (λ plans. Ok (record d { bundle = record d.bundle { plans = plans } }))
    (if_form (has_plan plan.hart d.bundle.plans) (Err kind.Repeated) (Ok (d.bundle.plans ++ plan ∷ [])) tt tt) (λ plans. tt))
operands_form word.Task number d ts =
    then_form (task_operands d.has_bands ts) (λ limits. Ok (record d { task = task_with limits.0 limits.1 limits.2 limits.3 })) (task_form d.has_bands ts)
    (λ limits. tt)
operands_form word.Tape number d ts =
    then_form (each word_of ts) (λ words. Ok (record d { task = record d.task { tape = d.task.tape ++ words } })) (each_form word_of word_form ts) (λ words. tt)
operands_form word.Words number d ts =
    then_form (each word_of ts) (λ words. Ok (record d { task = record d.task { code = with_words d.task.code words } })) (each_form word_of word_form ts)
    (λ words. tt)
operands_form word.Code number d ts = if_form (no_operands ts) _ (Err kind.Operands) tt tt
operands_form word.EndCode number d ts = tt
operands_form word.EndTask number d ts = if_form (no_operands ts) (Ok (with_task_ended d)) (Err kind.Operands) tt tt
operands_form word.World number d ts =
    then_form (world_operands d.bundle.worlds ts) (λ world. Ok (record d { bundle = record d.bundle { worlds = d.bundle.worlds ++ world ∷ [] } }))
    (world_form d.bundle.worlds ts) (λ world. tt)
operands_form word.Events number d ts =
    then_form (each event_operand ts) (λ runs. Ok (record d { bundle = record d.bundle { events = d.bundle.events ++ runs } }))
    (each_form event_operand event_form ts) (λ runs. tt)
operands_form word.Order number d ts =
    then_form (each order_operand ts) (λ runs. Ok (record d { bundle = record d.bundle { order = d.bundle.order ++ runs } }))
    (each_form order_operand order_form ts) (λ runs. tt)

placed_form : (w : Word) (o : Option Place) (number : ℕ) (d : Draft) (ts : List (List ℕ)) → RefusesByForm (placed_line w o number d ts)
placed_form w None number d ts = tt
placed_form w (Some place) number d ts = operands_form w number (record d { place = place }) ts

named_form : (o : Option Word) (number : ℕ) (d : Draft) (ts : List (List ℕ)) → RefusesByForm (line_of_word o number d ts)
named_form None number d ts = tt
named_form (Some w) number d ts = placed_form w (place_after d.place w) number d ts

tokens_form : (number : ℕ) (d : Draft) (ts : List (List ℕ)) → RefusesByForm (line_of_tokens number d ts)
tokens_form number d [] = tt
tokens_form number d (first ∷ ts) =
    if_form (is_comment first) (Ok d) (line_of_word (word_named first) number d ts) tt (named_form (word_named first) number d ts)

line_form : (number : ℕ) (d : Draft) (line : List ℕ) → RefusesByForm (with_line number d line)
unfolding with_line
line_form number d line =
    if_form (is_text line) (cond (is_in_code d.place) (Ok (line_of_code d line)) (line_of_tokens number d (tokens line))) (Err kind.NotText)
    (if_form (is_in_code d.place) (Ok (line_of_code d line)) (line_of_tokens number d (tokens line)) tt (tokens_form number d (tokens line))) tt

-- ---- faults

-- A fault by its form, at a line from this number to that.
pub record IsFaultOf (low high : ℕ) (fault : BundleFault) : Type 0 where
  pub line_low : low ≤ fault.line
  pub line_high : fault.line ≤ high
  pub of_form : IsOfForm fault.kind

abbrev FaultOf : {A : Type 0} → ℕ → ℕ → Result A BundleFault → Type 0
FaultOf low high (Ok x) = Unit {0}
FaultOf low high (Err fault) = IsFaultOf low high fault

later : (number high : ℕ) (r : Result Bundle BundleFault) → FaultOf (number + 1) high r → FaultOf number high r
later number high (Ok b) h = tt
later number high (Err fault) h = let low = h.line_low in record { line_low = omega arith; line_high = h.line_high; of_form = h.of_form }

wider : (number high : ℕ) (r : Result Bundle BundleFault) → number + 0 ≤ high → FaultOf number number r → FaultOf number high r
wider number high (Ok b) le h = tt
wider number high (Err fault) le h = let top = h.line_high in record { line_low = h.line_low; line_high = omega arith; of_form = h.of_form }

line_fault : (number high : ℕ) (r : Result Draft BundleKind) (f : Draft → Result Bundle BundleFault) → number ≤ high → RefusesByForm r
    → ((d : Draft) → FaultOf (number + 1) high (f d)) → FaultOf number high (at_line number r >>= f)
line_fault number high (Ok d) f le h more = later number high (f d) (more d)
line_fault number high (Err k) f le h more = record { line_low = omega arith; line_high = le; of_form = h }

end_fault : (t : Bool) (number : ℕ) (b : Bundle) → FaultOf number number (cond t (Ok b) (Err (record { line = number; kind = kind.Missing })))
end_fault true number b = tt
end_fault false number b = record { line_low = omega arith; line_high = omega arith; of_form = tt }

lines_fault : (ls : List (List ℕ)) (number high : ℕ) (d : Draft) → number + length ls ≤ high → FaultOf number high (with_lines number d ls)
lines_fault [] number high d le = wider number high (at_end number d) le (end_fault (may_end d.place) number d.bundle)
lines_fault (line ∷ others) number high d le =
    line_fault number high (with_line number d line) (λ next. with_lines (number + 1) next others) (omega arith) (line_form number d line)
    (λ next. lines_fault others (number + 1) high next (omega arith))

fault_at : (low high : ℕ) (r : Result Bundle BundleFault) (fault : BundleFault) → r ≡ Err fault → FaultOf low high r → IsFaultOf low high fault
fault_at low high (Ok b) fault e h = absurd (err_ok b fault (sym e))
fault_at low high (Err f) fault e h = let same : f ≡ fault = cc in rw (← same) h

pub fault_of_lines : (ls : List (List ℕ)) (d : Draft) (fault : BundleFault) → with_lines 1 d ls ≡ Err fault → IsFaultOf 1 (1 + length ls) fault
fault_of_lines ls d fault e = fault_at 1 (1 + length ls) (with_lines 1 d ls) fault e (lines_fault ls 1 (1 + length ls) d (omega arith))

pub not_memory : (k : BundleKind) → IsOfForm k → k ≢ kind.Memory
not_memory k h e = subst (λ x. IsOfForm x) e h
