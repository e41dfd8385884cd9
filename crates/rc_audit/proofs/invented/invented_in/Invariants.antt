use Rattle.std.proofs.Common.{◌≡◌, List}
use Rattle.rc_model.specs.Model.{Message, ascending, first_invented, segments_of}
use Rattle.rc_audit.specs.Recoveries.{accepted_of}
use Rattle.rc_audit.specs.Runs.{AreRuns}
use Rattle.rc_audit.proofs.invented.invented_in.Given as goal

-- the segments so far have no invented place
abbrev pub invariant-loop-seg : goal.invariant-loop-seg
invariant-loop-seg l =
    (sent : List Message) → AreRuns l.runs sent →
    first_invented sent (accepted_of l.recovery) (ascending (segments_of l.recovery.rows.now)) ≡ first_invented sent
    (accepted_of l.recovery) l.seg-iterator
