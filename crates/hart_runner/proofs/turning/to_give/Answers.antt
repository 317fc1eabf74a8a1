-- The hart comes to its give.
use Rattle.std.proofs.Common.{◌≡◌, ◌∙◌, Option, Some, None, option_map, is_some, true, sym}
use Rattle.hart_runner.proofs.Turned.{may-advance, reaches, at-action, holds-so-gives, ready-so, done-so}
use Rattle.hart_runner.proofs.turning.to_give.Goals as goal

some-of : {X Y : Type 0} (f : X → Y) (o : Option X) (held : Option Y) → option_map f o ≡ held → is_some o ≡ true → (y : Y) × (held ≡ Some y)
some-of f None held same some = absurd (cc some)
some-of f (Some x) held same some = (f x, sym same)

pub advance-requires-clause-kernel : goal.advance-requires-clause-kernel
advance-requires-clause-kernel c =
    let t = c.requires.turning in (may-advance t.0 t.1 t.2 c.args.own.now t.3 c.args.code.now c.requires.code).0

pub advance-requires-clause-can : goal.advance-requires-clause-can
advance-requires-clause-can c =
    let t = c.requires.turning in (may-advance t.0 t.1 t.2 c.args.own.now t.3 c.args.code.now c.requires.code).1

pub unreachable-requires : goal.unreachable-requires
unreachable-requires c =
    let t = c.requires.turning in
    let held = some-of _ c.held.result c.args.own.now.hart.held c.held.ensures.held c.if-is_none.ensures in
    let call = c.advance.ensures.call _ _ _ _ (reaches t.0 t.1 t.2 c.args.own.now t.3 c.args.code.now c.requires.code) in
    holds-so-gives t.0 t.1 t.2 c.args.own.now t.3 c.args.code.now c.requires.code held.0 held.1 (sym call ∙ c.in-Take.is)

pub returns-in-GiveReady-clause-gives : goal.returns-in-GiveReady-clause-gives
returns-in-GiveReady-clause-gives c loaded number order t =
    let r = reaches loaded number order c.args.own.now t c.args.code.now c.requires.code in
    let hart = c.advance.ensures.hart _ _ _ _ r in
    record {
      at_action = at-action loaded number order c.args.own.now t c.args.code.now c.requires.code _ hart (c.advance.ensures.pace _ _ r.is_pace)
          (c.advance.ensures.log _ _ _ _ r t.share.entries t.counts);
      gives = ready-so loaded number order c.args.own.now t c.args.code.now c.requires.code (sym (c.advance.ensures.call _ _ _ _ r) ∙ c.in-GiveReady.is) _ hart;
    }

pub returns-in-GiveDone-clause-gives : goal.returns-in-GiveDone-clause-gives
returns-in-GiveDone-clause-gives c loaded number order t =
    let r = reaches loaded number order c.args.own.now t c.args.code.now c.requires.code in
    let hart = c.advance.ensures.hart _ _ _ _ r in
    record {
      at_action = at-action loaded number order c.args.own.now t c.args.code.now c.requires.code _ hart (c.advance.ensures.pace _ _ r.is_pace)
          (c.advance.ensures.log _ _ _ _ r t.share.entries t.counts);
      gives = done-so loaded number order c.args.own.now t c.args.code.now c.requires.code (sym (c.advance.ensures.call _ _ _ _ r) ∙ c.in-GiveDone.is) _ hart;
    }
