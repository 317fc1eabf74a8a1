-- What is read is the next entry of each log that the reader is in.
use Rattle.std.proofs.Common.{◌≡◌, ◌↔◌, ℕ, ◌+◌, ◌%◌, Bool, true, false, List, [], Some, None, refl, sym, ap, ◌∙◌, subst}
use Rattle.std.specs.Prelude.{IsTrue}
use Rattle.hart_model.specs.declared.probe.Probe.{Probe}
use Rattle.probe_log.specs.Packing.{in_block}
use Rattle.probe_log.specs.Unpacking.{entry_in}
use Rattle.probe_log.specs.Reading.{Reading, IsAt}
use Rattle.probe_log.proofs.AtEntries.{past-end, reads-entry}
use Rattle.probe_log.proofs.reader.Reader.next.Goals as goal

some_left : (b : Bool) (words : List ℕ) → (IsTrue b ↔ (words ≡ [])) → b ≡ false → words ≡ [] → ⊥
some_left true words h e none = absurd (cc)
some_left false words h e none = let same = h.1 none in absurd (cc)

none_left : (b : Bool) (words : List ℕ) → (IsTrue b ↔ (words ≡ [])) → b ≡ true → words ≡ []
none_left true words h e = h.0 refl
none_left false words h e = absurd (cc)

pub returns-then-is_empty : goal.returns-then-is_empty
returns-then-is_empty c =
    let none = none_left c.is_empty.result c.self.inside.words c.is_empty.ensures.test c.if-is_empty.true in
    record {
      entry = λ log n at.
          let now : Reading = c.args.self.now in
          let words : now.words ≡ [] = ap (λ (r : Reading). r.words) (sym c.self.view_is) ∙ none in
          past-end now log n at words;
    }

pub returns-in_err-probe : goal.returns-in_err-probe
returns-in_err-probe c =
    let some = some_left c.is_empty.result c.self.inside.words c.is_empty.ensures.test c.if-is_empty.false in
    record {
      entry = λ log n at.
          let r : Reading = record { place = c.self.inside.place; before = c.self.inside.before; words = c.self.inside.words } in
          let at_r : IsAt r log n = subst (λ (x : Reading). IsAt x log n) (sym c.self.view_is) at in
          let before : c.before_in_block-before.result ≡ in_block r.place r.before =
          c.before_in_block-before.ensures.before ∙ ap (λ (x : Reading). in_block x.place x.before) (sym c.self.view_is) in
          let read = reads-entry r log n c.entry.result c.entry.new.self at_r some (c.entry.ensures.read ∙ ap (λ b. entry_in b r.words) before) in
          let is : c.entry.result ≡ Some read.p = read.found_is in
          let none : c.entry.result ≡ None = c.in_err-probe.was in
          absurd (cc);
    }

pub returns : goal.returns
returns c =
    let some = some_left c.is_empty.result c.self.inside.words c.is_empty.ensures.test c.if-is_empty.false in
    record {
      entry = λ log n at.
          let r : Reading = record { place = c.self.inside.place; before = c.self.inside.before; words = c.self.inside.words } in
          let at_r : IsAt r log n = subst (λ (x : Reading). IsAt x log n) (sym c.self.view_is) at in
          let before : c.before_in_block-before.result ≡ in_block r.place r.before =
          c.before_in_block-before.ensures.before ∙ ap (λ (x : Reading). in_block x.place x.before) (sym c.self.view_is) in
          let read = reads-entry r log n c.entry.result c.entry.new.self at_r some (c.entry.ensures.read ∙ ap (λ b. entry_in b r.words) before) in
          let is : c.entry.result ≡ Some read.p = read.found_is in
          let found : c.entry.result ≡ Some c.in_ok-probe.probe = c.in_ok-probe.was in
          let same : read.p ≡ c.in_ok-probe.probe = cc in (
            ap Some (sym same) ∙ sym read.entry,
            subst (λ (p : Probe). IsAt (record { place = (r.place + 1) % 64; before = Some p; words = c.entry.new.self }) log (n + 1)) same read.at,
          );
    }
