-- Ports of harts that are alike answer alike: they let cells pass that are alike, with one side effect, ask the queue, or refuse.
use Rattle.std.proofs.Common.{◌≡◌, ℕ, zero, suc, ◌==◌, Bool, true, false, ◌&&◌, List, [], ◌∷◌, length, slice_get, Option, Some, None, option_map, is_none, is_some, nat_lt, refl, subst, ap, arith, if◌then◌else◌}
use Rattle.std.proofs.lemmas.Bool.{eqb-true}
use Rattle.isa_model.specs.Control.{kind_of}
use Rattle.isa_model.specs.declared.ends.End.{End}
use Rattle.isa_model.specs.declared.ends.End.TheVariants.{Faulted, BadCall, TapeEnd, OutFull, OutOfSteps}
use Rattle.isa_model.specs.declared.ends.EndKind.{EndKind}
use Rattle.isa_model.specs.declared.ends.EndKind.TheVariants as kinds
use Rattle.hart_model.specs.declared.port.Port.{Port}
use Rattle.hart_model.specs.declared.port.Port.TheVariants.{Take, Give, Out, Tape, TapeLeft, Exit, Fault, Ack, OutLeft}
use Rattle.hart_model.specs.declared.tag.Cell.{Cell}
use Rattle.hart_model.specs.declared.tag.Tag.{Tag}
use Rattle.hart_model.specs.declared.tag.Tag.TheVariants.{Public, Of, Many}
use Rattle.hart_model.specs.Taint.{is_public}
use Rattle.hart_model.specs.Traps.{fuel_cause}
use Rattle.hart_model.specs.Context.{ContextState, slot_word, pc_word}
use Rattle.hart_model.specs.Ports.{SideEffect, Nothing, Outputs, AdvancesTape, Ends, ClearsTimer, PortAnswer, Passes, AsksQueue, Refuses, port_load, port_store, tape_answer, give_answer, end_of_code, fault_answer}
use Rattle.core_model.specs.AlikeHarts.{AreCellsAlike, AreContextsAlike, AreHeldAlike}
use Rattle.noninterference.specs.AlikeSteps.{SameNumber}
use Rattle.noninterference.proofs.CellsAlike.{public-cells}

-- two side effects do the same, but for the values that go out and into ends
abbrev pub AreSidesAlike : SideEffect → SideEffect → Type 0
AreSidesAlike Nothing Nothing = Unit {0}
AreSidesAlike (Outputs word) (Outputs other) = Unit {0}
AreSidesAlike AdvancesTape AdvancesTape = Unit {0}
AreSidesAlike (Ends end) (Ends other) = kind_of end ≡ kind_of other
AreSidesAlike ClearsTimer ClearsTimer = Unit {0}
AreSidesAlike side other = ⊥

abbrev pub AreBothAnswers : PortAnswer → PortAnswer → Type 0
AreBothAnswers (Passes cell side) (Passes passed other) = AreCellsAlike cell passed × AreSidesAlike side other
AreBothAnswers (AsksQueue call) (AsksQueue wanted) = call ≡ wanted
AreBothAnswers Refuses Refuses = Unit {0}
AreBothAnswers answer other = ⊥

pub record AreAnswersAlike (x y : PortAnswer) : Type 0 where
  pub both : AreBothAnswers x y

refused : AreAnswersAlike Refuses Refuses
refused = record { both = tt }

-- whether two ends of one kind stand
pub none-alike : (x y : Option End) → option_map kind_of x ≡ option_map kind_of y → is_none x ≡ is_none y
none-alike None None e = refl
none-alike None (Some b) e = absurd (cc e)
none-alike (Some a) None e = absurd (cc e)
none-alike (Some a) (Some b) e = refl

some-alike : (x y : Option End) → option_map kind_of x ≡ option_map kind_of y → is_some x ≡ is_some y
some-alike None None e = refl
some-alike None (Some b) e = absurd (cc e)
some-alike (Some a) None e = absurd (cc e)
some-alike (Some a) (Some b) e = refl

-- what stands at one place of two tapes of one length
tape-alike : (xs ys : List ℕ) (i : ℕ) (c d : ContextState) → length xs ≡ length ys → AreContextsAlike c d
    → AreAnswersAlike (tape_answer c (slice_get xs i)) (tape_answer d (slice_get ys i))
tape-alike [] [] i c d l a = refused
tape-alike [] (v ∷ ys) i c d l a = absurd (omega arith)
tape-alike (u ∷ xs) [] i c d l a = absurd (omega arith)
tape-alike (u ∷ xs) (v ∷ ys) zero c d l a =
    let task = a.body.task_no in
    let count = a.body.count in
    record { both = (record { tag = rw (task, count) refl; value = λ e. absurd (cc e) }, tt) }
tape-alike (u ∷ xs) (v ∷ ys) (suc i) c d l a = tape-alike xs ys i c d (omega arith) a

-- loads
held-load-alike : (port : Port) (c d : ContextState) → AreContextsAlike c d → AreAnswersAlike (port_load port (Some c)) (port_load port (Some d))
held-load-alike Tape c d a =
    let P : ℕ → Type 0 = λ i. AreAnswersAlike (port_load Tape (Some c)) (tape_answer d (slice_get d.body.tape i)) in
    subst P a.body.tape_at (tape-alike c.body.tape d.body.tape c.body.tape_at c d a.body.tape a)
held-load-alike TapeLeft c d a =
    let tape = a.body.tape in
    let at = a.body.tape_at in
    record { both = (public-cells _ _ (rw (tape, at) refl), tt) }
held-load-alike OutLeft c d a =
    let output = a.body.output in
    let most = a.body.out_max in
    record { both = (public-cells _ _ (rw (output, most) refl), tt) }
held-load-alike _ c d a = refused

free-load-alike : (port : Port) → AreAnswersAlike (port_load port None) (port_load port None)
free-load-alike Take = record { both = refl }
free-load-alike _ = refused

pub port-load-alike : (port : Port) (x y : Option ContextState) → AreHeldAlike x y → AreAnswersAlike (port_load port x) (port_load port y)
port-load-alike port None None a = free-load-alike port
port-load-alike port None (Some d) a = absurd a
port-load-alike port (Some c) None a = absurd a
port-load-alike port (Some c) (Some d) a = held-load-alike port c d a

-- stores: one of two answers, by one test; the first matters only where the test holds
if-alike : (t s : Bool) (x y : PortAnswer) → t ≡ s → (t ≡ true → AreAnswersAlike x y) → AreAnswersAlike (if t then x else Refuses) (if s then y else Refuses)
if-alike true true x y e f = f refl
if-alike true false x y e f = absurd (cc e)
if-alike false true x y e f = absurd (cc e)
if-alike false false x y e f = refused

pub public-tag : (t : Tag) → is_public t ≡ true → t ≡ Public
public-tag Public e = refl
public-tag (Of task n l) e = absurd (cc e)
public-tag Many e = absurd (cc e)

and-first : (s t : Bool) → (s && t) ≡ true → s ≡ true
and-first true t e = refl
and-first false t e = absurd (cc e)

give-alike : (v : ℕ) (s t : Bool) → s ≡ t → AreAnswersAlike (give_answer v s) (give_answer v t)
give-alike v s t e = let P : Bool → Type 0 = λ z. AreAnswersAlike (give_answer v s) (give_answer v z) in subst P e (go v s)
  where
    go : (k : ℕ) (b : Bool) → AreAnswersAlike (give_answer k b) (give_answer k b)
    go zero true = refused
    go zero false = record { both = refl }
    go (suc zero) true = record { both = refl }
    go (suc zero) false = refused
    go (suc (suc k)) b = refused

-- the ends of one code are of one kind
code-alike : (c d : ContextState) (code : ℕ) → (code ≡ 0x102 → (slot_word c 17).value ≡ (slot_word d 17).value)
    → option_map kind_of (end_of_code c code) ≡ option_map kind_of (end_of_code d code)
code-alike c d code f = go (nat_lt code 8) (code == 0x100) (code == 0x101) (code == 0x102) (code == fuel_cause) (λ e. f (eqb-true code 0x102 e))
  where
    go : (s t u v w : Bool) → (v ≡ true → (slot_word c 17).value ≡ (slot_word d 17).value)
        → option_map kind_of (if s then Some (Faulted code (slot_word c pc_word).value) else if t then Some TapeEnd else if u then Some OutFull
        else if v then Some (BadCall (slot_word c 17).value) else if w then Some OutOfSteps else None)
        ≡ option_map kind_of (if s then Some (Faulted code (slot_word d pc_word).value) else if t then Some TapeEnd else if u then Some OutFull
        else if v then Some (BadCall (slot_word d 17).value) else if w then Some OutOfSteps else None)
    go true t u v w f = refl
    go false true u v w f = refl
    go false false true v w f = refl
    go false false false true w f = ap (λ (n : ℕ). Some (kinds.BadCall n)) (f refl)
    go false false false false true f = refl
    go false false false false false f = refl

some-kinds : (a b : EndKind) → Some a ≡ Some b → a ≡ b
some-kinds a b e = cc e

fault-alike : (b d : Cell) (x y : Option End) → AreCellsAlike b d → option_map kind_of x ≡ option_map kind_of y
    → AreAnswersAlike (fault_answer b x) (fault_answer d y)
fault-alike b d None None s e = refused
fault-alike b d None (Some y) s e = absurd (cc e)
fault-alike b d (Some x) None s e = absurd (cc e)
fault-alike b d (Some x) (Some y) s e = record { both = (s, some-kinds (kind_of x) (kind_of y) e) }

held-store-alike : (port : Port) (b d : Cell) (x y : ContextState) → AreContextsAlike x y → AreCellsAlike b d
    → (port ≡ Fault → b.value ≡ 0x102 → (slot_word x 17).value ≡ (slot_word y 17).value)
    → AreAnswersAlike (port_store port b (Some x)) (port_store port d (Some y))
held-store-alike Ack b d x y a s f = if-alike _ _ _ _ (ap is_public s.tag) (λ p. record { both = (s, tt) })
held-store-alike Give b d x y a s f = if-alike _ _ _ _ (ap is_public s.tag)
    (λ p. let P : ℕ → Type 0 = λ z. AreAnswersAlike (give_answer b.value (is_some x.end)) (give_answer z (is_some y.end)) in
    subst P (s.value (public-tag b.tag p)) (give-alike b.value (is_some x.end) (is_some y.end) (some-alike x.end y.end a.end)))
held-store-alike Out b d x y a s f =
    let output = a.body.output in
    let most = a.body.out_max in
    let test : nat_lt (length x.body.output) x.body.out_max ≡ nat_lt (length y.body.output) y.body.out_max = rw (output, most) refl in
    if-alike _ _ _ _ test (λ p. record { both = (s, tt) })
held-store-alike Exit b d x y a s f = if-alike _ _ _ _ (none-alike x.end y.end a.end) (λ p. record { both = (s, refl) })
held-store-alike Fault b d x y a s f =
    let tags = ap is_public s.tag in
    let ends = none-alike x.end y.end a.end in
    let test : (is_public b.tag && is_none x.end) ≡ (is_public d.tag && is_none y.end) = rw (tags, ends) refl in
    if-alike _ _ _ _ test
    (λ p. let P : ℕ → Type 0 = λ z. AreAnswersAlike (fault_answer b (end_of_code x b.value)) (fault_answer d (end_of_code y z)) in
    subst P (s.value (public-tag b.tag (and-first (is_public b.tag) (is_none x.end) p)))
    (fault-alike b d (end_of_code x b.value) (end_of_code y b.value) s (code-alike x y b.value (f refl))))
held-store-alike _ b d x y a s f = refused

free-store-alike : (port : Port) (b d : Cell) → AreCellsAlike b d → AreAnswersAlike (port_store port b None) (port_store port d None)
free-store-alike Ack b d s = if-alike _ _ _ _ (ap is_public s.tag) (λ p. record { both = (s, tt) })
free-store-alike _ b d s = refused

pub port-store-alike : (port : Port) (b d : Cell) (x y : Option ContextState) → AreHeldAlike x y → AreCellsAlike b d
    → (port ≡ Fault → b.value ≡ 0x102 → SameNumber x y) → AreAnswersAlike (port_store port b x) (port_store port d y)
port-store-alike port b d None None a s f = free-store-alike port b d s
port-store-alike port b d None (Some y) a s f = absurd a
port-store-alike port b d (Some x) None a s f = absurd a
port-store-alike port b d (Some x) (Some y) a s f = held-store-alike port b d x y a s f
