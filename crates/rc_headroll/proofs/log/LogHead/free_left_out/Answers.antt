use Rattle.std.proofs.Common.{ℕ, List, ap, sym}
use Rattle.rc_model.specs.Model.{with_freed}
use Rattle.rc_headroll.specs.LogData.{log_of}
use Rattle.rc_headroll.specs.contracts.log.LogHead.{the_view}
use Rattle.rc_headroll.proofs.log.LogHead.free_left_out.Goals as goal

pub returns-then-self-clause-freed : goal.returns-then-self-clause-freed
returns-then-self-clause-freed c =
    rw (← c.self.view_is) (sym (ap (λ (segs : List ℕ). with_freed segs (log_of (the_view c.self.inside)))
    (c.self.invariant.4.none_out c.if-self.true)))
