use Rattle.std.proofs.Common.{◌≡◌, true}
use Rattle.rc_model.specs.Model.{Writing, may_write}
use Rattle.rc_headroll.specs.LogData.{log_of}
use Rattle.rc_headroll.specs.contracts.log.LogHead.{the_view}
use Rattle.rc_headroll.proofs.LogSteps.{sound-writing}
use Rattle.rc_headroll.proofs.StillBefore.{sound_log-same}
use Rattle.rc_headroll.proofs.WatchLemmas.{watched-durable}
use Rattle.rc_headroll.proofs.log.LogHead.begin_writing.Goals as goal

pub invariant_of-self : goal.invariant_of-self
invariant_of-self c =
    let may : may_write (log_of c.args.self.now) ≡ true = c.requires in
    let may' = rw (← c.self.view_is) at may in (
      sound_log-same (the_view c.self.inside) Writing c.self.inside.durable c.self.inside.passed c.self.inside.passed_entries
          c.self.inside.passed c.self.inside.passed_entries c.self.invariant.0
          (sound-writing (log_of (the_view c.self.inside)) c.self.inside.passed c.self.inside.passed_entries
          c.self.invariant.0.now may'),
      watched-durable (the_view c.self.inside) Writing c.self.inside.durable c.self.invariant.1,
      c.self.invariant.2,
      c.self.invariant.3,
      c.self.invariant.4,
    )
