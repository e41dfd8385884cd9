use Rattle.std.proofs.Common.{codes}
use Rattle.std.proofs.lemmas.Result.{on_ok_weaker}
use Rattle.rc_model.specs.Report.{line_feed}
use Rattle.rc_traces.proofs.Joined.{pair_line, seven_line}
use Rattle.rc_traces.proofs.lines.add_line.Goals as goal

pub returns-in-SplitOk : goal.returns-in-SplitOk
returns-in-SplitOk c =
    rw c.in-SplitOk.is
    (on_ok_weaker c.write-in-SplitOk.result (pair_line _ _ (codes "split table ") _ (codes " at ") _ line_feed)
    c.write-in-SplitOk.ensures.bytes)

pub returns-in_ok-write-in-WriteOk : goal.returns-in_ok-write-in-WriteOk
returns-in_ok-write-in-WriteOk c =
    rw c.in-WriteOk.is
    (on_ok_weaker c.write-in-WriteOk.result
    (seven_line _ _ _ (codes "ack ") _ (codes " seg ") _ (codes " at ") _ (codes " term ") _ (codes " table ") _
    (codes " key ") _ (codes " version ") _ line_feed
    c.in_ok-write-in-WriteOk.ensures.bytes)
    c.write-in-WriteOk.ensures.bytes)
