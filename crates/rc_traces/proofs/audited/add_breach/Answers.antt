use Rattle.std.proofs.Common.{codes}
use Rattle.std.proofs.lemmas.Result.{on_ok_weaker}
use Rattle.rc_traces.proofs.Joined.{six_after}
use Rattle.rc_traces.proofs.audited.add_breach.Goals as goal

pub returns-in_ok-write-in-Version : goal.returns-in_ok-write-in-Version
returns-in_ok-write-in-Version c =
    rw c.in-Version.is
    (on_ok_weaker c.write-in-Version.result
    (six_after _ _ _ (codes "breach version") (codes " table ") _ (codes " key ") _ (codes " term ") _
    (codes " version ") _ (codes " term ") _ (codes " version ") _
    c.in_ok-write-in-Version.ensures.bytes)
    c.write-in-Version.ensures.bytes)
