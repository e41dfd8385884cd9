use Rattle.std.proofs.Common.{length}
use Rattle.rc_reading.proofs.Loops.{SaySo}
use Rattle.rc_reading.proofs.objects.read_members.Given as goal

-- the fields are those of the members so far
abbrev pub invariant-members : goal.invariant-members
invariant-members g l = SaySo g.F.Object.of l.fields l.depth l.initial.reader l.reader

abbrev pub decreases-members : goal.decreases-members
decreases-members g l = length l.reader
