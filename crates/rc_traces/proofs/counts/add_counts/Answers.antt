use Rattle.std.proofs.lemmas.Result.{on_ok_weaker}
use Rattle.rc_traces.proofs.Joined.{five}
use Rattle.rc_traces.proofs.counts.add_counts.Goals as goal

pub returns : goal.returns
returns c =
    rw (
      ← c.counts_of-counts.ensures.acknowledged,
      ← c.counts_of-counts.ensures.refused,
      ← c.counts_of-counts.ensures.plans,
      ← c.counts_of-counts.ensures.grants,
    )
    (on_ok_weaker c.add_count-5.result
    (five _ _ _ _ _ _ _ _ _ _ _ c.in_ok-add_count.ensures c.in_ok-add_count-2.ensures c.in_ok-add_count-3.ensures
    c.in_ok-add_count-4.ensures)
    c.add_count-5.ensures)
