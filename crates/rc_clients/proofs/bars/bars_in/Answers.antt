use Rattle.rc_clients.proofs.TopLemmas.{bars_begin, bars_more, tops_begin}
use Rattle.rc_clients.proofs.bars.bars_in.Goals as goal

pub loop-moment-init : goal.loop-moment-init
loop-moment-init c = (
  tops_begin c.new-tops.ensures.empty,
  bars_begin c.new-bars.ensures.items,
)

pub newest_bar-requires : goal.newest_bar-requires
newest_bar-requires c = c.loop-moment.invariant.0

pub loop-moment-preserved : goal.loop-moment-preserved
loop-moment-preserved c = (
  c.in_ok-note_top.ensures,
  bars_more c.newest_bar.result c.in_ok-push.ensures.items c.newest_bar.ensures c.loop-moment.invariant.1,
)
