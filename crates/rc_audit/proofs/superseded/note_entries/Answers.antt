use Rattle.std.proofs.Common.{◌+◌, ◌-◌, ◌^◌, arith}
use Rattle.rc_audit.proofs.SupersededLemmas.{entries_noted, below_saturated}
use Rattle.rc_audit.proofs.superseded.note_entries.Goals as goal

pub loop-index-preserved : goal.loop-index-preserved
loop-index-preserved c =
    let at = below_saturated c.saturating_add.result (c.args.start + c.loop-index.index) c.args.reach (2 ^ 64 - 1)
    (omega arith) c.saturating_add.ensures in
    entries_noted c.args.highs.now c.loop-index.highs c.note_entry.new.highs c.args.reach c.args.start
    c.saturating_add.result c.loop-index.index c.args.entries.now c.index-entries-index.result
    (omega arith) c.index-entries-index.is at c.loop-index.invariant c.in_ok-note_entry.ensures
