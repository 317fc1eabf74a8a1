-- The piece is the next bytes, and only at the end it is empty.
use Rattle.std.proofs.Common.{ap, arith, ◌∙◌, sym, ◌≡◌, ◌+◌, ◌-◌, ◌≤◌, ◌++◌, take, drop, length-append, length-drop, length-take, length, refl}
use Rattle.std.proofs.Math.ListN.{drop_of_length-le}
use Rattle.std.proofs.Math.Seq.{take-add}
use Rattle.std.proofs.lemmas.List.{drop-drop}
use Rattle.io_edge.proofs.Fronts.{next_bytes, longer_front}
use Rattle.io_edge.proofs.memory.MemSourceSource.read.Goals as goal

pub returns-clause-bytes : goal.returns-clause-bytes
returns-clause-bytes c =
    let s = c.self.inside in
    let n = c.min-count.result in
    let piece : c.copy_from_slice.new.self ≡ take (s.at + n - s.at) (drop s.at s.bytes.items) =
    c.copy_from_slice.ensures.after ∙ ap (λ l. take (s.at + n - s.at) (drop s.at l)) c.deref-2.ensures.value in
    let within : s.at + n ≤ length s.bytes.items = omega arith in (
      ap (λ v. v.left) (sym c.self.view_is) ∙ next_bytes s.bytes.items (drop n c.args.buf.now) _ s.at n piece within,
      λ none room. drop_of_length-le s.bytes.items (omega (arith, length-append c.copy_from_slice.new.self (drop n c.args.buf.now), ap length piece, length-take (s.at + n - s.at) (drop s.at s.bytes.items), length-drop s.at s.bytes.items, length-drop n c.args.buf.now)),
    )

pub returns-clause-past : goal.returns-clause-past
returns-clause-past c =
    let s = c.self.inside in
    let n = c.min-count.result in
    let piece : c.copy_from_slice.new.self ≡ take (s.at + n - s.at) (drop s.at s.bytes.items) =
    c.copy_from_slice.ensures.after ∙ ap (λ l. take (s.at + n - s.at) (drop s.at l)) c.deref-2.ensures.value in
    let within : s.at + n ≤ length s.bytes.items = omega arith in
    longer_front s.bytes.items (drop n c.args.buf.now) _ s.at n piece within
    ∙ ap (λ v. v.given ++ take n (c.copy_from_slice.new.self ++ drop n c.args.buf.now)) c.self.view_is

pub returns-clause-after : goal.returns-clause-after
returns-clause-after c =
    let s = c.self.inside in
    let n = c.min-count.result in
    rw (← c.self.view_is, take-add s.at n s.bytes.items, ← drop-drop n s.at s.bytes.items, c.is_end-self-inside.ensures.end, c.saturating_add-self-inside.ensures) refl
