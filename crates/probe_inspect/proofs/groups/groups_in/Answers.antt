-- One run more.
use Rattle.std.proofs.Common.{◌≡◌, ◌+◌, ℕ, List, length, get_or, sym, ap, ◌∙◌, subst}
use Rattle.std.proofs.lemmas.List.{get_or_default}
use Rattle.probe_inspect.specs.declared.groups.Group.{Group}
use Rattle.probe_inspect.specs.Groups.{IsRunFrom, AreGroupsTo}
use Rattle.probe_inspect.proofs.Grouping.{groups-more}
use Rattle.probe_inspect.proofs.groups.groups_in.Goals as goal

pub loop-from-preserved : goal.loop-from-preserved
loop-from-preserved c =
    let order = c.args.order.now in
    let from = c.loop-from.from in
    let groups = c.loop-from.groups.items in
    let low = c.loop-from-test.true in
    let x : Group = record { secret = (get_or order from (0, 0)).0; members = c.new.result } in
    let first = λ (d : ℕ × ℕ). ap (λ (p : ℕ × ℕ). p.0) (get_or_default order from d (0, 0) low) in
    let words : c.new.result ≡ c.in_ok-members.members.items = c.new.ensures.words in
    let run : IsRunFrom order from x.secret x.members =
    subst (λ (ms : List ℕ). IsRunFrom order from x.secret ms) (sym words) c.in_ok-members.ensures.run in
    let more = groups-more order c.requires.sorted from groups x low c.loop-from.invariant first run in
    let len : c.len-from.result ≡ length c.new.result =
    c.len-from.ensures ∙ c.in_ok-members.members.ok.0 ∙ sym (ap (λ (ms : List ℕ). length ms) words) in
    let there : AreGroupsTo order (from + length c.new.result) c.push.new.self.items =
    subst (λ (gs : List Group). AreGroupsTo order (from + length c.new.result) gs) (sym c.in_ok-push.ensures.items) more in
    subst (λ (k : ℕ). AreGroupsTo order (from + k) c.push.new.self.items) (sym len) there
