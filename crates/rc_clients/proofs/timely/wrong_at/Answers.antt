use Rattle.std.proofs.Common.{sym}
use Rattle.rc_clients.proofs.TimeLemmas.{begun_later, begun_none, begun_nothing, not_begun}
use Rattle.rc_clients.proofs.timely.wrong_at.Goals as goal

pub returns-in_default : goal.returns-in_default
returns-in_default c = begun_none (sym c.in_default.ensures)

pub returns-then-operation-ne0 : goal.returns-then-operation-ne0
returns-then-operation-ne0 c = begun_later (sym c.in-Some.ensures) c.if-operation-ne0.true

pub returns-then-shows_nothing : goal.returns-then-shows_nothing
returns-then-shows_nothing c = begun_nothing (sym c.in-Some.ensures) c.if-shows_nothing.ensures

pub returns : goal.returns
returns c = not_begun c.args.history.now c.args.moment (sym c.in-Some.ensures)
    c.if-operation-ne0.false c.if-shows_nothing.ensures
