use Rattle.std.proofs.Common.{◌<◌, true, false, not, ap, ◌∙◌}
use Rattle.rc_headroll.specs.LogData.{log_of}
use Rattle.rc_ownership.specs.Owner.{was_handed}
use Rattle.rc_master.proofs.Notes.{notes-appended, possible-writes}
use Rattle.rc_master.proofs.state.State.append.Goals as goal

pub returns-in-Ok-clause-noted : goal.returns-in-Ok-clause-noted
returns-in-Ok-clause-noted c =
    let some : 0 < (log_of c.args.self.now.log).head =
    c.requires.noted.opened (possible-writes (log_of c.args.self.now.log) c.requires.possible) in
    rw (c.in-Ok.ensures.state, c.in_ok-note.ensures.ok)
    (notes-appended (log_of c.args.self.now.log) c.args.self.now.ownership.noted c.args.self.now.ownership.replayed
    c.args.self.now.ownership.durable c.args.entry true
    (was_handed c.args.self.now.ownership.handed c.args.entry.term) some (c.requires.handed ∙ ap not c.if-client.true) c.requires.noted)

pub returns-in-Ok-append-clause-noted : goal.returns-in-Ok-append-clause-noted
returns-in-Ok-append-clause-noted c =
    let some : 0 < (log_of c.args.self.now.log).head =
    c.requires.noted.opened (possible-writes (log_of c.args.self.now.log) c.requires.possible) in
    rw (c.in-Ok-append.ensures.state, c.in_ok-note.ensures.ok)
    (notes-appended (log_of c.args.self.now.log) c.args.self.now.ownership.noted c.args.self.now.ownership.replayed
    c.args.self.now.ownership.durable c.args.entry false
    (was_handed c.args.self.now.ownership.handed c.args.entry.term) some (c.requires.handed ∙ ap not c.if-client.false) c.requires.noted)
