use Rattle.std.proofs.Common.{Some, sym}
use Rattle.rc_runs.proofs.Waitings.{near_due}
use Rattle.rc_runs.proofs.marks.Marks.next_due.Goals as goal

pub returns-then-sent-saturating_add : goal.returns-then-sent-saturating_add
returns-then-sent-saturating_add c events fits =
    let marks = c.args.self.now in
    near_due events c.args.sent.now marks.delivered.items marks.lines.items c.args.passing.now c.args.from
    c.next_new.result fits (sym c.next_new.ensures)

pub returns-in-Some : goal.returns-in-Some
returns-in-Some c events fits =
    let marks = c.args.self.now in
    near_due events c.args.sent.now marks.delivered.items marks.lines.items c.args.passing.now c.args.from
    (Some c.in-Some.number) fits c.in-Some.ensures
