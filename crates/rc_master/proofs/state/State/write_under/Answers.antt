use Rattle.std.proofs.Common.{refl}
use Rattle.rc_master.proofs.Handing.{notes-handed}
use Rattle.rc_master.proofs.VersionRoom.{next-fits}
use Rattle.rc_master.proofs.state.State.write_under.Goals as goal

pub new_entry-requires : goal.new_entry-requires
new_entry-requires c = next-fits c.args.term c.args.table c.args.key _ c.args.self.now.ownership.noted
    c.requires.noted.entries c.requires.versions

pub append-requires-clause-noted : goal.append-requires-clause-noted
append-requires-clause-noted c = notes-handed c.requires.noted

pub append-requires-clause-handed : goal.append-requires-clause-handed
append-requires-clause-handed c = rw c.requires.noted.none_handed refl
