-- At most one answer is right for the same words.
use Rattle.std.proofs.Common.{◌≡◌, ℕ, ◌+◌, ◌<◌, ◌⊎◌, inl, inr, List, length, refl, sym, ap, subst, ◌∙◌, arith}
use Rattle.routine_laws.specs.Contents.{Contents}
use Rattle.routine_laws.specs.Rules.{Rule as WordRule, Form as FormRule, Base as BaseRule, NotZero as NotZeroRule, Meets as MeetsRule, Outcome, Ends, Fails, outcome_of}
use Rattle.routine_laws.specs.Accepted.{at_save, at_restore, AreWordsSaved, IsSavedEnd, IsRestoredEnd}
use Rattle.scrub_rules.specs.declared.rule.Rule.{Rule}
use Rattle.scrub_rules.specs.declared.rule.Rule.TheVariants.{Divide, Length, Form, Base, NotZero, Meets, Slot, Left, Restored, Memory}
use Rattle.scrub_rules.specs.Division.{IsDivision, IsSecondBreak, save_part, restore_part}
use Rattle.scrub_rules.specs.Broken.{IsAccepted, IsDivideBroken, IsSaveLong, IsRestoreLong, IsLengthBroken, AreShortParts, IsSaveWordBroken, IsRestoreWordBroken, IsFormBroken, IsCleared, AreRegistersRestored, AreOthersCleared, IsSaveEndBroken, IsRestoreEndBroken, IsEndBroken, IsFirstBroken}
use Rattle.scrub_rules.proofs.FailingWords.{fails_of}

-- Divisions.
pub same_division : (words : List ℕ) (at other : ℕ) → IsDivision words at → IsDivision words other → at ≡ other
same_division words at other d e = e.alone at d.here

not-divided : (words : List ℕ) (at place : ℕ) → IsDivideBroken words at → IsDivision words place → ⊥
not-divided words at place (inl (none, end)) d = none place d.here
not-divided words at place (inr s) d =
    let first : s.first ≡ place = d.alone s.first s.first_is in
    let second : at ≡ place = d.alone at s.here in
    absurd (omega (arith, s.before, first, second))

pub order : (m n : ℕ) → (m ≡ n) ⊎ ((m < n) ⊎ (n < m))
order m n = grind arith

seconds : (words : List ℕ) (at place : ℕ) (s : IsSecondBreak words at) (t : IsSecondBreak words place)
    → (at ≡ place) ⊎ ((at < place) ⊎ (place < at)) → at ≡ place
seconds words at place s t (inl same) = same
seconds words at place s t (inr (inl low)) =
    let second : at ≡ t.first = t.between at low s.here in
    let first : s.first ≡ t.first = t.between s.first (omega (arith, low, s.before)) s.first_is in
    absurd (omega (arith, s.before, first, second))
seconds words at place s t (inr (inr low)) =
    let second : place ≡ s.first = s.between place low t.here in
    let first : t.first ≡ s.first = s.between t.first (omega (arith, low, t.before)) t.first_is in
    absurd (omega (arith, t.before, first, second))

one-divide : (words : List ℕ) (at place : ℕ) → IsDivideBroken words at → IsDivideBroken words place → at ≡ place
one-divide words at place (inl (none, end)) (inl (also, there)) = end ∙ sym there
one-divide words at place (inl (none, end)) (inr s) = absurd (none place s.here)
one-divide words at place (inr s) (inl (none, end)) = absurd (none at s.here)
one-divide words at place (inr s) (inr t) = seconds words at place s t (order at place)

-- Lengths.
no-long-part : (words : List ℕ) (at place : ℕ) → AreShortParts words place → IsSaveLong words place at ⊎ IsRestoreLong words place at → ⊥
no-long-part words at place short (inl (long, is)) = absurd (omega (arith, short.save, long))
no-long-part words at place short (inr (first, long, is)) = absurd (omega (arith, short.restore, long))

long-not-short : (words : List ℕ) (at place : ℕ) → IsLengthBroken words at → AreShortParts words place → ⊥
long-not-short words at place b short =
    let same : b.place ≡ place = same_division words b.place place b.division short.division in
    no-long-part words at place short (subst (λ (p : ℕ). IsSaveLong words p at ⊎ IsRestoreLong words p at) same b.long)

one-long : (words : List ℕ) (at other place : ℕ) → IsSaveLong words place at ⊎ IsRestoreLong words place at
    → IsSaveLong words place other ⊎ IsRestoreLong words place other → at ≡ other
one-long words at other place (inl (long, is)) (inl (also, there)) = is ∙ sym there
one-long words at other place (inl (long, is)) (inr (few, also, there)) = absurd (omega (arith, long, few))
one-long words at other place (inr (few, long, is)) (inl (also, there)) = absurd (omega (arith, also, few))
one-long words at other place (inr (few, long, is)) (inr (too, also, there)) = is ∙ sym there

one-length : (words : List ℕ) (at other : ℕ) → IsLengthBroken words at → IsLengthBroken words other → at ≡ other
one-length words at other b d =
    let same : d.place ≡ b.place = same_division words d.place b.place d.division b.division in
    one-long words at other b.place b.long (subst (λ (p : ℕ). IsSaveLong words p other ⊎ IsRestoreLong words p other) same d.long)

-- What all words come to, of both parts.
abbrev both : Outcome → Outcome → Outcome
both (Ends c) more = more
both (Fails at rule) more = Fails at rule

abbrev whole : List ℕ → ℕ → Outcome
whole words place = both (outcome_of 0 at_save (save_part words place)) (outcome_of (place + 1) at_restore (restore_part words place))

form-whole : (words : List ℕ) (at place : ℕ) (rule : WordRule) → IsSaveWordBroken words place at rule ⊎ IsRestoreWordBroken words place at rule
    → whole words place ≡ Fails at rule
form-whole words at place rule (inl b) =
    ap (λ (o : Outcome). both o (outcome_of (place + 1) at_restore (restore_part words place))) (fails_of 0 at_save (save_part words place) at rule b)
form-whole words at place rule (inr (f, b)) =
    ap (λ (o : Outcome). both o (outcome_of (place + 1) at_restore (restore_part words place))) f.leaves
    ∙ fails_of (place + 1) at_restore (restore_part words place) at rule b

ends-whole : (words : List ℕ) (place : ℕ) (c d : Contents) → outcome_of 0 at_save (save_part words place) ≡ Ends c
    → outcome_of (place + 1) at_restore (restore_part words place) ≡ Ends d → whole words place ≡ Ends d
ends-whole words place c d saved restored =
    ap (λ (o : Outcome). both o (outcome_of (place + 1) at_restore (restore_part words place))) saved ∙ restored

fails-same : (o : Outcome) (at other : ℕ) (rule broken : WordRule) → o ≡ Fails at rule → o ≡ Fails other broken → (at ≡ other) × (rule ≡ broken)
fails-same o at other rule broken e f =
    let both_are : Fails at rule ≡ Fails other broken = sym e ∙ f in
    (cc both_are, cc both_are)

fails-not-ends : (o : Outcome) (at : ℕ) (rule : WordRule) (c : Contents) → o ≡ Fails at rule → o ≡ Ends c → ⊥
fails-not-ends o at rule c e f =
    let both_are : Fails at rule ≡ Ends c = sym e ∙ f in
    absurd (cc both_are)

ends-same : (o : Outcome) (c d : Contents) → o ≡ Ends c → o ≡ Ends d → c ≡ d
ends-same o c d e f =
    let both_are : Ends c ≡ Ends d = sym e ∙ f in
    cc both_are

one-form : (words : List ℕ) (at other : ℕ) (rule broken : WordRule) → IsFormBroken words at rule → IsFormBroken words other broken
    → (at ≡ other) × (rule ≡ broken)
one-form words at other rule broken b d =
    let same : b.place ≡ d.place = same_division words b.place d.place b.short.division d.short.division in
    let e : whole words d.place ≡ Fails at rule =
    subst (λ (p : ℕ). whole words p ≡ Fails at rule) same (form-whole words at b.place rule b.broken) in
    fails-same (whole words d.place) at other rule broken e (form-whole words other d.place broken d.broken)

form-not-ends : (words : List ℕ) (at place : ℕ) (rule : WordRule) (c d : Contents) → IsFormBroken words at rule → IsDivision words place
    → outcome_of 0 at_save (save_part words place) ≡ Ends c → outcome_of (place + 1) at_restore (restore_part words place) ≡ Ends d → ⊥
form-not-ends words at place rule c d b division saved restored =
    let same : b.place ≡ place = same_division words b.place place b.short.division division in
    let e : whole words place ≡ Fails at rule =
    subst (λ (p : ℕ). whole words p ≡ Fails at rule) same (form-whole words at b.place rule b.broken) in
    fails-not-ends (whole words place) at rule d e (ends-whole words place c d saved restored)

-- The ends.
data AtSaveEnd (c : Contents) (rule : Rule) : Type 0 where
  BySlot : (rule ≡ Slot) → (AreWordsSaved c → ⊥) → AtSaveEnd c rule
  ByLeft : (rule ≡ Left) → AreWordsSaved c → (IsCleared c → ⊥) → AtSaveEnd c rule

at-save-end : (c : Contents) (rule : Rule) → IsSaveEndBroken c rule → AtSaveEnd c rule
at-save-end c Divide b = absurd b
at-save-end c Length b = absurd b
at-save-end c Form b = absurd b
at-save-end c Base b = absurd b
at-save-end c NotZero b = absurd b
at-save-end c Meets b = absurd b
at-save-end c Slot b = BySlot refl b
at-save-end c Left (saved, b) = ByLeft refl saved b
at-save-end c Restored b = absurd b
at-save-end c Memory b = absurd b

one-save-end : (c : Contents) (rule other : Rule) → AtSaveEnd c rule → AtSaveEnd c other → rule ≡ other
one-save-end c rule other (BySlot is b) (BySlot also d) = is ∙ sym also
one-save-end c rule other (BySlot is b) (ByLeft also saved d) = absurd (b saved)
one-save-end c rule other (ByLeft is saved b) (BySlot also d) = absurd (d saved)
one-save-end c rule other (ByLeft is saved b) (ByLeft also too d) = is ∙ sym also

save-end-sound : (c : Contents) (rule : Rule) → AtSaveEnd c rule → IsSavedEnd c → ⊥
save-end-sound c rule (BySlot is b) end = b end.saved
save-end-sound c rule (ByLeft is saved b) end =
    b (record { registers = end.registers; latches = end.latches; x5 = end.x5; scratch = end.scratch })

data AtRestoreEnd (c : Contents) (rule : Rule) : Type 0 where
  ByRegisters : (rule ≡ Restored) → (AreRegistersRestored c → ⊥) → AtRestoreEnd c rule
  ByOthers : (rule ≡ Left) → AreRegistersRestored c → (AreOthersCleared c → ⊥) → AtRestoreEnd c rule
  ByWords : (rule ≡ Slot) → AreRegistersRestored c → AreOthersCleared c → (AreWordsSaved c → ⊥) → AtRestoreEnd c rule

at-restore-end : (c : Contents) (rule : Rule) → IsRestoreEndBroken c rule → AtRestoreEnd c rule
at-restore-end c Divide b = absurd b
at-restore-end c Length b = absurd b
at-restore-end c Form b = absurd b
at-restore-end c Base b = absurd b
at-restore-end c NotZero b = absurd b
at-restore-end c Meets b = absurd b
at-restore-end c Slot (registers, others, b) = ByWords refl registers others b
at-restore-end c Left (registers, b) = ByOthers refl registers b
at-restore-end c Restored b = ByRegisters refl b
at-restore-end c Memory b = absurd b

one-restore-end : (c : Contents) (rule other : Rule) → AtRestoreEnd c rule → AtRestoreEnd c other → rule ≡ other
one-restore-end c rule other (ByRegisters is b) (ByRegisters also d) = is ∙ sym also
one-restore-end c rule other (ByRegisters is b) (ByOthers also registers d) = absurd (b registers)
one-restore-end c rule other (ByRegisters is b) (ByWords also registers others d) = absurd (b registers)
one-restore-end c rule other (ByOthers is registers b) (ByRegisters also d) = absurd (d registers)
one-restore-end c rule other (ByOthers is registers b) (ByOthers also too d) = is ∙ sym also
one-restore-end c rule other (ByOthers is registers b) (ByWords also too others d) = absurd (b others)
one-restore-end c rule other (ByWords is registers others b) (ByRegisters also d) = absurd (d registers)
one-restore-end c rule other (ByWords is registers others b) (ByOthers also too d) = absurd (d others)
one-restore-end c rule other (ByWords is registers others b) (ByWords also too these d) = is ∙ sym also

restore-end-sound : (c : Contents) (rule : Rule) → AtRestoreEnd c rule → IsRestoredEnd c → ⊥
restore-end-sound c rule (ByRegisters is b) end = b end.registers
restore-end-sound c rule (ByOthers is registers b) end = b (record { latches = end.latches; scratch = end.scratch })
restore-end-sound c rule (ByWords is registers others b) end = b end.saved

-- two faults at the ends of the same parts
abbrev EndFault : List ℕ → ℕ → ℕ → Contents → Contents → Rule → Type 0
EndFault words place at c d rule =
    ((at ≡ place) × IsSaveEndBroken c rule) ⊎ ((at ≡ length words) × IsSavedEnd c × IsRestoreEndBroken d rule)

one-end-fault : (words : List ℕ) (place at other : ℕ) (c d : Contents) (rule broken : Rule) → EndFault words place at c d rule
    → EndFault words place other c d broken → (at ≡ other) × (rule ≡ broken)
one-end-fault words place at other c d rule broken (inl (is, b)) (inl (also, e)) =
    (is ∙ sym also, one-save-end c rule broken (at-save-end c rule b) (at-save-end c broken e))
one-end-fault words place at other c d rule broken (inl (is, b)) (inr (also, end, e)) =
    absurd (save-end-sound c rule (at-save-end c rule b) end)
one-end-fault words place at other c d rule broken (inr (is, end, b)) (inl (also, e)) =
    absurd (save-end-sound c broken (at-save-end c broken e) end)
one-end-fault words place at other c d rule broken (inr (is, end, b)) (inr (also, too, e)) =
    (is ∙ sym also, one-restore-end d rule broken (at-restore-end d rule b) (at-restore-end d broken e))

-- a fault at the ends, at the place of a division and with what its parts leave
end-fault : (words : List ℕ) (place at : ℕ) (c d : Contents) (rule : Rule) → IsDivision words place
    → outcome_of 0 at_save (save_part words place) ≡ Ends c → outcome_of (place + 1) at_restore (restore_part words place) ≡ Ends d
    → IsEndBroken words at rule → EndFault words place at c d rule
end-fault words place at c d rule division saved restored b =
    let same : b.place ≡ place = same_division words b.place place b.short.division division in
    let s : outcome_of 0 at_save (save_part words place) ≡ Ends b.saved.left =
    subst (λ (p : ℕ). outcome_of 0 at_save (save_part words p) ≡ Ends b.saved.left) same b.saved.leaves in
    let r : outcome_of (place + 1) at_restore (restore_part words place) ≡ Ends b.restored.left =
    subst (λ (p : ℕ). outcome_of (p + 1) at_restore (restore_part words p) ≡ Ends b.restored.left) same b.restored.leaves in
    let c_is : b.saved.left ≡ c = ends-same (outcome_of 0 at_save (save_part words place)) b.saved.left c s saved in
    let d_is : b.restored.left ≡ d = ends-same (outcome_of (place + 1) at_restore (restore_part words place)) b.restored.left d r restored in
    subst (λ (p : ℕ). EndFault words p at c d rule) same
    (subst (λ (k : Contents). EndFault words b.place at k d rule) c_is
    (subst (λ (k : Contents). EndFault words b.place at b.saved.left k rule) d_is b.broken))

one-end : (words : List ℕ) (at other : ℕ) (rule broken : Rule) → IsEndBroken words at rule → IsEndBroken words other broken
    → (at ≡ other) × (rule ≡ broken)
one-end words at other rule broken b e =
    one-end-fault words b.place at other b.saved.left b.restored.left rule broken b.broken
    (end-fault words b.place other b.saved.left b.restored.left broken b.short.division b.saved.leaves b.restored.leaves e)

-- What kind of rule it is.
abbrev rule_for : WordRule → Rule
rule_for FormRule = Form
rule_for BaseRule = Base
rule_for NotZeroRule = NotZero
rule_for MeetsRule = Meets

data Kind (words : List ℕ) (at : ℕ) (rule : Rule) : Type 0 where
  OfDivision : (rule ≡ Divide) → IsDivideBroken words at → Kind words at rule
  OfLength : (rule ≡ Length) → IsLengthBroken words at → Kind words at rule
  OfWord : (broken : WordRule) → (rule ≡ rule_for broken) → IsFormBroken words at broken → Kind words at rule
  OfEnd : IsEndBroken words at rule → Kind words at rule

kind-of : (words : List ℕ) (at : ℕ) (rule : Rule) → IsFirstBroken words at rule → Kind words at rule
kind-of words at Divide b = OfDivision refl b
kind-of words at Length b = OfLength refl b
kind-of words at Form b = OfWord FormRule refl b
kind-of words at Base b = OfWord BaseRule refl b
kind-of words at NotZero b = OfWord NotZeroRule refl b
kind-of words at Meets b = OfWord MeetsRule refl b
kind-of words at Slot b = OfEnd b
kind-of words at Left b = OfEnd b
kind-of words at Restored b = OfEnd b
kind-of words at Memory b = absurd b

one-kind : (words : List ℕ) (at other : ℕ) (rule broken : Rule) → Kind words at rule → Kind words other broken → (at ≡ other) × (rule ≡ broken)
one-kind words at other rule broken (OfDivision is b) (OfDivision also e) = (one-divide words at other b e, is ∙ sym also)
one-kind words at other rule broken (OfDivision is b) (OfLength also e) = absurd (not-divided words at e.place b e.division)
one-kind words at other rule broken (OfDivision is b) (OfWord r also e) = absurd (not-divided words at e.place b e.short.division)
one-kind words at other rule broken (OfDivision is b) (OfEnd e) = absurd (not-divided words at e.place b e.short.division)
one-kind words at other rule broken (OfLength is b) (OfDivision also e) = absurd (not-divided words other b.place e b.division)
one-kind words at other rule broken (OfLength is b) (OfLength also e) = (one-length words at other b e, is ∙ sym also)
one-kind words at other rule broken (OfLength is b) (OfWord r also e) = absurd (long-not-short words at e.place b e.short)
one-kind words at other rule broken (OfLength is b) (OfEnd e) = absurd (long-not-short words at e.place b e.short)
one-kind words at other rule broken (OfWord r is b) (OfDivision also e) = absurd (not-divided words other b.place e b.short.division)
one-kind words at other rule broken (OfWord r is b) (OfLength also e) = absurd (long-not-short words other b.place e b.short)
one-kind words at other rule broken (OfWord r is b) (OfWord s also e) =
    let same = one-form words at other r s b e in
    (same.0, is ∙ (ap rule_for same.1 ∙ sym also))
one-kind words at other rule broken (OfWord r is b) (OfEnd e) =
    absurd (form-not-ends words at e.place r e.saved.left e.restored.left b e.short.division e.saved.leaves e.restored.leaves)
one-kind words at other rule broken (OfEnd b) (OfDivision also e) = absurd (not-divided words other b.place e b.short.division)
one-kind words at other rule broken (OfEnd b) (OfLength also e) = absurd (long-not-short words other b.place e b.short)
one-kind words at other rule broken (OfEnd b) (OfWord r also e) =
    absurd (form-not-ends words other b.place r b.saved.left b.restored.left e b.short.division b.saved.leaves b.restored.leaves)
one-kind words at other rule broken (OfEnd b) (OfEnd e) = one-end words at other rule broken b e

pub one_fault : (words : List ℕ) (at place : ℕ) (rule other : Rule) → IsFirstBroken words at rule → IsFirstBroken words place other
    → (at ≡ place) × (rule ≡ other)
one_fault words at place rule other b d = one-kind words at place rule other (kind-of words at rule b) (kind-of words place other d)

-- Accepted words break no rule.
accepted-short : (words : List ℕ) (place : ℕ) → IsAccepted words place → AreShortParts words place
accepted-short words place a = record { division = a.division; save = a.save.few; restore = a.restore.few }

no-end-fault : (words : List ℕ) (place at : ℕ) (c d : Contents) (rule : Rule) → IsSavedEnd c → IsRestoredEnd d → EndFault words place at c d rule → ⊥
no-end-fault words place at c d rule saved restored (inl (is, b)) = save-end-sound c rule (at-save-end c rule b) saved
no-end-fault words place at c d rule saved restored (inr (is, end, b)) = restore-end-sound d rule (at-restore-end d rule b) restored

no-kind : (words : List ℕ) (place at : ℕ) (rule : Rule) → IsAccepted words place → Kind words at rule → ⊥
no-kind words place at rule a (OfDivision is b) = not-divided words at place b a.division
no-kind words place at rule a (OfLength is b) = long-not-short words at place b (accepted-short words place a)
no-kind words place at rule a (OfWord r is b) =
    form-not-ends words at place r a.save.left a.restore.left b a.division a.save.leaves a.restore.leaves
no-kind words place at rule a (OfEnd b) =
    no-end-fault words place at a.save.left a.restore.left rule a.save.end a.restore.end
    (end-fault words place at a.save.left a.restore.left rule a.division a.save.leaves a.restore.leaves b)

pub never_both : (words : List ℕ) (place at : ℕ) (rule : Rule) → IsAccepted words place → IsFirstBroken words at rule → ⊥
never_both words place at rule a b = no-kind words place at rule a (kind-of words at rule b)

pub one_division : (words : List ℕ) (at other : ℕ) → IsAccepted words at → IsAccepted words other → at ≡ other
one_division words at other a b = same_division words at other a.division b.division
