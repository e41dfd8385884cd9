use Rattle.std.proofs.Common.{sym, ◌∙◌}
use Rattle.rc_headroll.specs.LogData.{log_of}
use Rattle.rc_headroll.proofs.Beginnings.{none-out}
use Rattle.rc_headroll.proofs.log.LogHead.begin_roll.Goals as goal

pub open_head-requires-clause-none_out : goal.open_head-requires-clause-none_out
open_head-requires-clause-none_out c = λ none.
    none-out (log_of c.args.self.now) c.args.dead.now _ c.in_ok-digest.ensures.digest
    (sym c.is_empty.ensures ∙ none)
