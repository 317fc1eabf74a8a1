-- A core over right parts was told them, and goes by the plans.
use Rattle.std.proofs.Common.{ℕ, ◌+◌, List, length, refl, sym, ap, subst, ◌∙◌, arith}
use Rattle.core_model.specs.declared.plan.Plan.{Plan}
use Rattle.core_model.specs.Board.{BoardWithSpare}
use Rattle.hart_model.specs.HartState.{HartState}
use Rattle.kernel_core.specs.Running.{IsRunKept}
use Rattle.kernel_core.specs.Parts.{AreSeatsOver, paced_over}
use Rattle.kernel_core.proofs.PartsOver.{run-over, told-over, paced-over}
use Rattle.kernel_core.proofs.whole_core.Core.over.Goals as goal

pub invariant_of-result-2 : goal.invariant_of-result-2
invariant_of-result-2 g c =
    let loaded = c.args.loaded.now in
    let lists = c.in_ok-reserve.ensures.lists in
    let spare = c.in_ok-reserve.ensures.ok in
    let made = ap (λ (order : List ℕ). length order) c.order.ensures.order in
    let same = ap (λ b. length b.order) lists in
    let R : BoardWithSpare → Type 0 = λ b. IsRunKept loaded (record {
      board = b;
      harts = c.into_vec.result.items;
      kernel = c.in_ok-emitted.field-0;
      actions = length c.order.result.now + c.args.actions;
    }) in (
      loaded,
      subst R (sym c.board-2.view_is)
          (run-over loaded c.requires.within c.args.parts.board.lists c.args.parts.harts c.requires.parts c.in_ok-emitted.field-0 c.in_ok-emitted.ensures.kernel
          c.reserve.new.self c.into_vec.result.items _ lists c.into_vec.ensures.items (omega (arith, spare, made, same))),
    )

pub returns-clause-told : goal.returns-clause-told
returns-clause-told g c =
    told-over c.args.loaded.now c.requires.within c.args.parts.board.lists c.args.parts.harts c.requires.parts _ c.in_ok-emitted.ensures.kernel
    c.len.ensures.length (ap (λ (b : BoardWithSpare). b.lists) c.board-2.view_is ∙ c.in_ok-reserve.ensures.lists) c.into_vec.ensures.items c.new.ensures.tally

pub returns-clause-paced : goal.returns-clause-paced
returns-clause-paced g c =
    let P : List Plan → Type 0 = λ plans. AreSeatsOver plans c.args.parts.paces c.args.parts.harts c.in_ok-seats.seats.items in
    let H : List HartState → Type 0 = λ hs. AreSeatsOver c.as_slice.result.now c.args.parts.paces hs c.in_ok-seats.seats.items in
    let seats = subst P c.as_slice.ensures.items (subst H c.as_slice-2.ensures.items c.in_ok-seats.ensures.seats) in
    paced-over c.args.loaded.now c.requires.within c.args.parts.board.lists c.args.parts.harts c.requires.parts _ c.in_ok-emitted.ensures.kernel
    c.len.ensures.length (ap (λ (b : BoardWithSpare). b.lists) c.board-2.view_is ∙ c.in_ok-reserve.ensures.lists) c.into_vec.ensures.items c.new.ensures.tally
    c.args.parts.paces c.requires.paces seats refl

pub invariant_of-result-3 : goal.invariant_of-result-3
invariant_of-result-3 g c is_paced =
    let P : List Plan → Type 0 = λ plans. AreSeatsOver plans c.args.parts.paces c.args.parts.harts c.in_ok-seats.seats.items in
    let H : List HartState → Type 0 = λ hs. AreSeatsOver c.as_slice.result.now c.args.parts.paces hs c.in_ok-seats.seats.items in
    let seats = subst P c.as_slice.ensures.items (subst H c.as_slice-2.ensures.items c.in_ok-seats.ensures.seats) in (
      paced_over c.args.loaded.now c.args.parts.board.lists c.args.parts.harts c.args.parts.paces,
      paced-over c.args.loaded.now c.requires.within c.args.parts.board.lists c.args.parts.harts c.requires.parts _ c.in_ok-emitted.ensures.kernel
          c.len.ensures.length (ap (λ (b : BoardWithSpare). b.lists) c.board-2.view_is ∙ c.in_ok-reserve.ensures.lists) c.into_vec.ensures.items c.new.ensures.tally
          c.args.parts.paces c.requires.paces seats refl,
    )
