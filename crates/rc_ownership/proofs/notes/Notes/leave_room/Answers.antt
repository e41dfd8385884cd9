use Rattle.std.proofs.Common.{arith}
use Rattle.rc_ownership.proofs.GreatestVersions.{leaves-room}
use Rattle.rc_ownership.proofs.notes.Notes.leave_room.Goals as goal

pub returns : goal.returns
returns c = leaves-room 18446744073709551615 c.greatest.result c.args.self.now.noted (omega arith) c.greatest.ensures
