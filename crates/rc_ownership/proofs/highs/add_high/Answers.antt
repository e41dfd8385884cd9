use Rattle.std.proofs.Common.{◌≡◌, rules, sym}
use Rattle.rc_ownership.specs.declared.highs.Slot.{Slot}
use Rattle.rc_ownership.specs.Slots.{highs_in}
use Rattle.rc_ownership.proofs.HighTables.{added-new, written-same}
use Rattle.rc_ownership.proofs.highs.add_high.Goals as goal

pub returns-in_err-push-in-Some-clause-err : goal.returns-in_err-push-in-Some-clause-err
returns-in_err-push-in-Some-clause-err c =
    let kept : (other : Slot) → highs_in (c.get_mut.follows.lender c.push.new.self) other ≡ highs_in c.args.highs.now
    other = written-same c.args.highs.now (c.get_mut.follows.lender c.push.new.self) c.args.slot c.in-Some.list.now
    c.push.new.self
    (sym c.in-Some.ensures.value) (c.get_mut.follows.holds c.push.new.self).3 c.in_err-push-in-Some.ensures.items in
    search (rules, kept)

pub returns-in_ok-insert-in-None-clause-ok : goal.returns-in_ok-insert-in-None-clause-ok
returns-in_ok-insert-in-None-clause-ok c =
    added-new c.args.highs.now c.get_mut.follows.lender-at-none c.insert.new.self c.args.slot c.in_ok-list-in-None.list
    c.args.place c.args.version
    c.get_mut.follows.holds-at-none (sym c.in-None.ensures.value) c.in_ok-insert-in-None.ensures.updates
    c.in_ok-list-in-None.ensures.items
