use Rattle.std.proofs.Common.{sym}
use Rattle.rc_world.specs.HostParts.{HostParts}
use Rattle.rc_keeping.proofs.SaveLaws.{is_saved_host}
use Rattle.rc_keeping.proofs.saves.save_into.Goals as goal

pub returns-in-Ok-clause-ok : goal.returns-in-Ok-clause-ok
returns-in-Ok-clause-ok g c =
    let parts : HostParts = record { head = c.in-Some.head; backup = c.in-Some.backup.now } in
    is_saved_host c.args.node.now parts c.args.out.now.items c.save_parts.new.out.items (sym c.in-Some.ensures.parts)
    c.in-Some.ensures.limits c.in-Ok.ensures.ordered c.in-Ok.ensures.written
