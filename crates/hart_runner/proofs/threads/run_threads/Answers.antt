-- Each place is ready before the threads, and served after them.
use Rattle.std.proofs.Common.{◌≡◌, ℕ, ◌<◌, List, [], length, Some, slice_get, get_or, drop, sym, ap, ◌∙◌, subst, rules, arith}
use Rattle.std.proofs.lemmas.Option.{slice_get-get_or, get_or_from_slice_get, slice_get_within}
use Rattle.core_model.specs.declared.loaded.Loaded.{Loaded}
use Rattle.core_model.specs.Loaded.{IsLoaded}
use Rattle.hart_runner.specs.declared.place.Place.{Place}
use Rattle.hart_runner.specs.CoreBoards.{IsBoardOf}
use Rattle.hart_runner.specs.Places.{IsServedPlace, bundle_of}
use Rattle.hart_runner.proofs.Booted.{board-boots}
use Rattle.hart_runner.proofs.Lookups.{front-at}
use Rattle.hart_runner.proofs.threads.run_threads.Goals as goal

pub new-requires-clause-value : goal.new-requires-clause-value
new-requires-clause-value g c κs =
    let P : Loaded → Type 0 = λ l. IsBoardOf l c.in_ok-board_at_boot.field-0 [] in
    let same : c.of.result.value ≡ c.args.loaded.now = search rules in
    subst P (sym same) (board-boots c.args.loaded.now c.in_ok-board_at_boot.field-0 c.in_ok-board_at_boot.ensures.lists)

pub for_each_mut-requires-clause-accepts : goal.for_each_mut-requires-clause-accepts
for_each_mut-requires-clause-accepts g c κs within = λ i p low same. (
  (let frame : bundle_of c.in_ok-turns.turns ≡ c.args.loaded.now = search rules in
      let places : List Place = c.in_ok-places.places.items in
      let now : c.as_mut_slice.result.now ≡ places = c.as_mut_slice.ensures.value in
      let at : slice_get places i ≡ Some p.now =
      ap (λ (ps : List Place). slice_get ps i) (sym now) ∙ slice_get-get_or c.as_mut_slice.result.now i p.now low ∙ ap (λ (x : Place). Some x) (sym same) in
      let ready = c.in_ok-places.ensures.ready i p.now at in
      let L : Loaded → Type 0 = λ l. IsLoaded l in
      let N : Loaded → Type 0 = λ l. p.now.number < l.harts in
      let within_places : i < length c.as_mut_slice.result.now = low in
      let count = c.as_mut_slice.ensures.len in
      let harts = c.in_ok-places.ensures.count in
      let number = ready.0 in
      let below : p.now.number < c.args.loaded.now.harts = omega (arith, within_places, count, harts, number) in
      (c.in_ok-kernel.ensures.code, (subst L (sym frame) c.requires.loaded, subst N (sym frame) below), ready.1)),
  search rules,
)

pub close-requires-clause-served : goal.close-requires-clause-served
close-requires-clause-served g c i place at =
    let lock = c.in_ok-turns.turns in
    let before : List Place = c.as_mut_slice.result.now in
    let after : List Place = c.for_each_mut.new.s in
    let places : List Place = c.in_ok-places.places.items in
    let count : c.in_ok-places.places.len ≡ length after = omega arith in
    let here : slice_get after i ≡ Some place = front-at after (drop (length after) places) c.in_ok-places.places.len i place count at in
    let low : i < length after = slice_get_within after i place here in
    let there : i < length before = omega (arith, low) in
    let change = (c.for_each_mut.ensures i place there).1 in
    let now : before ≡ places = c.as_mut_slice.ensures.value in
    let first = get_or before i place in
    let was : slice_get places i ≡ Some first = ap (λ (ps : List Place). slice_get ps i) (sym now) ∙ slice_get-get_or before i place there in
    let number : change.argument.now.number ≡ i = ap (λ (p : Place). p.number) change.argument_is ∙ (c.in_ok-places.ensures.ready i first was).0 in
    let left : change.after_call.now ≡ place = change.left ∙ get_or_from_slice_get after i place place here in
    let served : IsServedPlace lock change.argument.now.number change.after_call.now = change.call in
    subst (λ (p : Place). IsServedPlace lock i p) left (subst (λ (n : ℕ). IsServedPlace lock n change.after_call.now) number served)
