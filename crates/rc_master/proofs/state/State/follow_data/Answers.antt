use Rattle.std.proofs.Common.{sym, ◌∙◌}
use Rattle.rc_master.proofs.Handing.{notes-handed, handed-first}
use Rattle.rc_master.proofs.state.State.follow_data.Goals as goal

pub append-requires-clause-noted : goal.append-requires-clause-noted
append-requires-clause-noted c = rw c.in_ok-entry.ensures.rest (notes-handed c.requires.noted)

pub append-requires-clause-handed : goal.append-requires-clause-handed
append-requires-clause-handed c =
    rw c.in_ok-entry.ensures.rest
    (handed-first c.args.self.now.ownership.own.replay c.args.self.now.ownership.handed c.in-Some.entry
    (sym c.in-Some.is ∙ c.in_ok-entry.ensures.first))
