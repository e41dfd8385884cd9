use Rattle.std.proofs.Common.{◌∙◌}
use Rattle.rc_replica.proofs.HeldLemmas.{held_without-removed, remove_entry-replica, insert_key-number}
use Rattle.rc_replica.proofs.held.Held.free.Goals as goal

pub returns-clause-ok : goal.returns-clause-ok
returns-clause-ok c =
    let h = c.self.inside in
    held_without-removed c.args.self.now h.fenced h.replicas.entries c.remove.new.self.entries h.freed.keys
    c.insert.new.self.keys c.args.seg c.self.view_is c.if-self.false
    (remove_entry-replica c.args.seg h.replicas.entries c.remove.new.self.entries c.remove.ensures.entries c.remove.ensures.updates.1)
    (c.in_ok-insert.ensures.keys ∙ insert_key-number c.args.seg h.freed.keys)
