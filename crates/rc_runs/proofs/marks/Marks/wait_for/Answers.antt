use Rattle.std.proofs.Common.{false, ◌++◌, ◌∷◌, [], refl}
use Rattle.rc_runs.proofs.Waitings.{noted_waiting, noted_outside}
use Rattle.rc_runs.proofs.marks.Marks.wait_for.Goals as goal

pub returns-in-Outside-clause-kept : goal.returns-in-Outside-clause-kept
returns-in-Outside-clause-kept c events sent at fits =
    let marks = c.args.self.now.delivered.items in
    noted_outside events sent marks (marks ++ false ∷ []) c.args.self.now.lines.items c.args.self.now.lines.items
    c.args.message.now at c.in-Outside.is refl refl fits

pub returns-clause-kept : goal.returns-clause-kept
returns-clause-kept c events sent at fits =
    let marks = c.args.self.now.delivered.items in
    noted_waiting events sent marks (marks ++ false ∷ []) c.args.self.now.lines.items c.line_up.new.self.lines.items
    c.args.message.now c.of.result at c.of.ensures refl c.in_ok-line_up.ensures.ok fits
