use Rattle.std.proofs.Common.{◌∙◌, sym}
use Rattle.rc_runs.proofs.Waitings.{found_at, not_at}
use Rattle.rc_runs.proofs.marks.Marks.next_new.Goals as goal

pub returns-then-is_due : goal.returns-then-is_due
returns-then-is_due c =
    let due = found_at c.args.passing.now c.args.self.now.delivered.items c.args.sent.now c.loop-number.number
    (sym c.is_due.ensures ∙ c.if-is_due.true) in
    sym (c.loop-number.invariant ∙ due)

pub loop-number-preserved : goal.loop-number-preserved
loop-number-preserved c =
    c.loop-number.invariant ∙ not_at c.args.passing.now c.args.self.now.delivered.items c.args.sent.now
    c.loop-number.number (sym c.is_due.ensures ∙ c.if-is_due.false)
