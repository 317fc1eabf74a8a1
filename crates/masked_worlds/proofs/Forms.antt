-- The rule on leaves and forms.
use Rattle.std.proofs.Common.{◌≡◌, ◌≢◌, ℕ, inr, true, List, [], ◌∷◌, ◌++◌, map, length, get_or, set, take, drop, All, refl, ap, sym, ◌∙◌, true≢false}
use Rattle.std.specs.Prelude.{bit_xor}
use Rattle.std.proofs.Math.Seq.{take-append_seam, drop-append_seam}
use Rattle.std.proofs.lemmas.List.{get_or-set_other, length-map, map-append}
use Rattle.std.proofs.lemmas.List.Elements.{All-head, All-tail}
use Rattle.masked_worlds.specs.declared.pivot.Pivot.{Pivot}
use Rattle.masked_worlds.specs.declared.pivot.Pivot.TheVariants.{AtMask, AtShares}
use Rattle.masked_worlds.specs.Tapes.{is_tape}
use Rattle.masked_worlds.specs.Changes.{word_at, IsApart, place_of, IsApartFrom, OthersAreApart}
use Rattle.masked_worlds.specs.Places.{shown}
use Rattle.masked_worlds.specs.Forms.{values, shows, IsOff, FormsAreDetermined, FormIsReplaced, FormIsTurned, FormIsCut, FormIsShifted, FormsLeaveOut, FormsAreSilent, FormsAreSilentTogether}
use Rattle.masked_worlds.proofs.Silent.{determined, carried, apart-hidden}
use Rattle.masked_worlds.proofs.Sums.{added-is-turn}
use Rattle.masked_worlds.proofs.Turns.{turn_at, differs, turn_by, turn_again, turned-change, word-turned, turned-keeps}

pub forms-are-determined : FormsAreDetermined
forms-are-determined roles words leaves forms others from is hidden =
    determined roles words (shows leaves forms) (shows leaves others) (λ (p : List ℕ × List ℕ). (p.0, from p.0 p.1))
    (λ t good. ap (λ (xs : List ℕ). (map (λ leaf. word_at t leaf) leaves, xs)) (is t good)) hidden

-- the values of some forms and of the others
seam : (f g : List (List ℕ → ℕ)) (t : List ℕ)
    → (take (length f) (values (f ++ g) t) ≡ values f t) × (drop (length f) (values (f ++ g) t) ≡ values g t)
seam f g t =
    let both : values (f ++ g) t ≡ values f t ++ values g t = map-append (λ (h : List ℕ → ℕ). h t) f g in
    let many : length (values f t) ≡ length f = length-map f (λ (h : List ℕ → ℕ). h t) in (
      ap (λ (xs : List ℕ). take (length f) xs) both ∙ ap (λ (n : ℕ). take n (values f t ++ values g t)) (sym many)
          ∙ take-append_seam (values f t) (values g t),
      ap (λ (xs : List ℕ). drop (length f) xs) both ∙ ap (λ (n : ℕ). drop n (values f t ++ values g t)) (sym many)
          ∙ drop-append_seam (values f t) (values g t),
    )

pub form-is-replaced : FormIsReplaced
form-is-replaced roles words leaves front new back form from is hidden =
    forms-are-determined roles words leaves (front ++ form ∷ back) (front ++ (new ++ back)) whole parts hidden
  where
    whole : List ℕ → List ℕ → List ℕ
    whole seen all =
        take (length front) all ++ from seen (take (length front) all) (take (length new) (drop (length front) all)) (drop (length new) (drop (length front) all))
        ∷ drop (length new) (drop (length front) all)

    parts : (t : List ℕ) → is_tape roles words t ≡ true
        → values (front ++ form ∷ back) t ≡ whole (map (λ leaf. word_at t leaf) leaves) (values (front ++ (new ++ back)) t)
    parts t good =
        let all = values (front ++ (new ++ back)) t in
        let seen = map (λ (leaf : ℕ). word_at t leaf) leaves in
        let cut = seam front (new ++ back) t in
        let rest = seam new back t in
        let one : values front t ≡ take (length front) all = sym cut.0 in
        let two : values new t ≡ take (length new) (drop (length front) all) =
        sym (ap (λ (xs : List ℕ). take (length new) xs) cut.1 ∙ rest.0) in
        let three : values back t ≡ drop (length new) (drop (length front) all) =
        sym (ap (λ (xs : List ℕ). drop (length new) xs) cut.1 ∙ rest.1) in
        let here : form t ≡ from seen (take (length front) all) (take (length new) (drop (length front) all)) (drop (length new) (drop (length front) all)) =
        is t good ∙ (λ i. from seen (one i) (two i) (three i)) in
        let split : values (front ++ form ∷ back) t ≡ values front t ++ form t ∷ values back t = map-append (λ (f : List ℕ → ℕ). f t) front (form ∷ back) in
        split ∙ (λ i. one i ++ here i ∷ three i)

-- words at other places stay where a word is turned at a pivot
module _ (turn back : List ℕ → ℕ → ℕ) where
  leaf_off : (pivot : Pivot) (leaf : ℕ) → IsOff pivot leaf → (t : List ℕ) → word_at (turn_by pivot turn back t) leaf ≡ word_at t leaf
  leaf_off (AtMask place) leaf off t = get_or-set_other t place leaf (turn t (word_at t place)) 0 off
  leaf_off (AtShares place partner) leaf off t =
      let u = turn_at place turn t in
      get_or-set_other u partner leaf (bit_xor (word_at u partner) (differs place back u)) 0 off.1
      ∙ get_or-set_other t place leaf (turn t (word_at t place)) 0 off.0

  leaves_off : (pivot : Pivot) (leaves : List ℕ) → All (IsOff pivot) leaves → (t : List ℕ)
      → map (λ leaf. word_at (turn_by pivot turn back t) leaf) leaves ≡ map (λ leaf. word_at t leaf) leaves
  leaves_off pivot [] off t = refl
  leaves_off pivot (leaf ∷ leaves) off t =
      let first = leaf_off pivot leaf (All-head (IsOff pivot) leaf leaves off) t in
      let rest = leaves_off pivot leaves (All-tail (IsOff pivot) leaf leaves off) t in
      λ i. first i ∷ rest i

  form_off : (pivot : Pivot) (form : List ℕ → ℕ) → IsApartFrom pivot form → (t : List ℕ) → form (turn_by pivot turn back t) ≡ form t
  form_off (AtMask place) form apart t = apart t (turn t (word_at t place))
  form_off (AtShares place partner) form apart t =
      let u = turn_at place turn t in
      apart.1 u (bit_xor (word_at u partner) (differs place back u)) ∙ apart.0 t (turn t (word_at t place))

  forms_off : (pivot : Pivot) (forms : List (List ℕ → ℕ)) → All (IsApartFrom pivot) forms → (t : List ℕ)
      → values forms (turn_by pivot turn back t) ≡ values forms t
  forms_off pivot [] off t = refl
  forms_off pivot (form ∷ forms) off t =
      let first = form_off pivot form (All-head (IsApartFrom pivot) form forms off) t in
      let rest = forms_off pivot forms (All-tail (IsApartFrom pivot) form forms off) t in
      λ i. first i ∷ rest i

pub form-is-turned : FormIsTurned
form-is-turned roles words same pivot is leaves off front back first_off last_off form turn turn_back image turns is_form hidden =
    carried roles words (turn_by pivot turn turn_back) (turn_again pivot turn turn_back) (turned-change roles words same turn turn_back pivot is turns)
    (turned-keeps roles words same turn turn_back pivot is turns) (shows leaves (front ++ form ∷ back)) other changed
    (determined roles words other (shows (place_of pivot ∷ leaves) (front ++ back)) from parts hidden)
  where
    other : List ℕ → List ℕ × List ℕ
    other t = (map (λ leaf. word_at t leaf) leaves, values front t ++ image (word_at t (place_of pivot)) ∷ values back t)

    from : List ℕ × List ℕ → List ℕ × List ℕ
    from p = (drop 1 p.0, take (length front) p.1 ++ image (get_or p.0 0 0) ∷ drop (length front) p.1)

    parts : (t : List ℕ) → is_tape roles words t ≡ true → other t ≡ from (shows (place_of pivot ∷ leaves) (front ++ back) t)
    parts t good =
        let cut = seam front back t in
        let one : take (length front) (values (front ++ back) t) ≡ values front t = cut.0 in
        let two : drop (length front) (values (front ++ back) t) ≡ values back t = cut.1 in
        let joined : values front t ++ image (word_at t (place_of pivot)) ∷ values back t
        ≡ take (length front) (values (front ++ back) t) ++ image (word_at t (place_of pivot)) ∷ drop (length front) (values (front ++ back) t) =
        λ i. sym one i ++ image (word_at t (place_of pivot)) ∷ sym two i in
        ap (λ (xs : List ℕ). (map (λ leaf. word_at t leaf) leaves, xs)) joined

    changed : (t : List ℕ) → is_tape roles words t ≡ true → shows leaves (front ++ form ∷ back) t ≡ other (turn_by pivot turn turn_back t)
    changed t good =
        let u = turn_by pivot turn turn_back t in
        let all : values (front ++ form ∷ back) t ≡ values front t ++ form t ∷ values back t = map-append (λ (f : List ℕ → ℕ). f t) front (form ∷ back) in
        let words_there : map (λ leaf. word_at t leaf) leaves ≡ map (λ leaf. word_at u leaf) leaves = sym (leaves_off turn turn_back pivot leaves off t) in
        let one : values front t ≡ values front u = sym (forms_off turn turn_back pivot front first_off t) in
        let two : values back t ≡ values back u = sym (forms_off turn turn_back pivot back last_off t) in
        let here : form t ≡ image (word_at u (place_of pivot)) = is_form t good ∙ ap image (sym (word-turned roles words same turn turn_back pivot is t good)) in
        let joined : values (front ++ form ∷ back) t ≡ values front u ++ image (word_at u (place_of pivot)) ∷ values back u =
        all ∙ (λ i. one i ++ here i ∷ two i) in
        λ i. (words_there i, joined i)

-- a word added at a pivot is a turn
pub form-is-shifted : FormIsShifted
form-is-shifted roles words same pivot is leaves off front back first_off last_off form d image is_form low apart hidden =
    form-is-turned roles words same pivot is leaves off front back first_off last_off form (λ t x. bit_xor x (d t)) (λ t x. bit_xor x (d t)) image
    (added-is-turn roles words pivot d low apart) is_form hidden

pub form-is-cut : FormIsCut
form-is-cut roles words same pivot is leaves off front back first_off last_off form e is_form low apart hidden =
    form-is-shifted roles words same pivot is leaves off front back first_off last_off form e (λ x. x) is_form low apart hidden

leaves_left : (place : ℕ) (leaves : List ℕ) → All (λ leaf. leaf ≢ place) leaves → (t : List ℕ) (x : ℕ)
    → map (λ leaf. word_at (set t place x) leaf) leaves ≡ map (λ leaf. word_at t leaf) leaves
leaves_left place [] off t x = refl
leaves_left place (leaf ∷ leaves) off t x =
    let first = get_or-set_other t place leaf x 0 (All-head (λ (l : ℕ). l ≢ place) leaf leaves off) in
    let rest = leaves_left place leaves (All-tail (λ (l : ℕ). l ≢ place) leaf leaves off) t x in
    λ i. first i ∷ rest i

forms_left : (place : ℕ) (forms : List (List ℕ → ℕ)) → All (λ form. IsApart place form) forms → (t : List ℕ) (x : ℕ)
    → values forms (set t place x) ≡ values forms t
forms_left place [] off t x = refl
forms_left place (form ∷ forms) off t x =
    let first = All-head (λ (f : List ℕ → ℕ). IsApart place f) form forms off t x in
    let rest = forms_left place forms (All-tail (λ (f : List ℕ → ℕ). IsApart place f) form forms off) t x in
    λ i. first i ∷ rest i

pub forms-leave-out : FormsLeaveOut
forms-leave-out roles words same left_out have leaves leaves_apart forms forms_apart =
    apart-hidden roles words same left_out have (shows leaves forms) (λ k low t x.
    let one = leaves_left (left_out k) leaves (leaves_apart k low) t x in
    let two = forms_left (left_out k) forms (forms_apart k low) t x in
    λ i. (one i, two i))

pub forms-are-silent : FormsAreSilent
forms-are-silent T roles n l was now is_was is_now hidden =
    inr (determined roles T.tape (shown T n l) (shows [] (was ∷ now ∷ [])) (λ (p : List ℕ × List ℕ). p.1)
    (λ t good.
    let one = is_was t good in
    let two = is_now t good in
    λ i. one i ∷ two i ∷ []) hidden)

pub forms-are-silent-together : FormsAreSilentTogether
forms-are-silent-together T roles n l m k was now was_too now_too one two three four hidden =
    determined roles T.tape (λ t. shown T n l t ++ shown T m k t) (shows [] (was ∷ now ∷ was_too ∷ now_too ∷ [])) (λ (p : List ℕ × List ℕ). p.1)
    (λ t good.
    let first = one t good in
    let second = two t good in
    let third = three t good in
    let fourth = four t good in
    λ i. first i ∷ second i ∷ third i ∷ fourth i ∷ []) hidden

pub others-are-apart : OthersAreApart
others-are-apart support f hangs place off t x =
    hangs (set t place x) t (λ other on. get_or-set_other t place other x 0 (λ e. true≢false (sym on ∙ ap support e ∙ off)))
