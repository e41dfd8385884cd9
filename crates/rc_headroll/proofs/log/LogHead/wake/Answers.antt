use Rattle.rc_headroll.specs.contracts.log.LogHead.{the_view}
use Rattle.rc_headroll.proofs.WatchLemmas.{sound-watch, more-awake, watched-woken}
use Rattle.rc_headroll.proofs.log.LogHead.wake.Goals as goal

pub invariant_of-self : goal.invariant_of-self
invariant_of-self c = (
  sound-watch (the_view c.self.inside) c.self.inside.passed c.self.inside.passed_entries c.wake.new.self c.self.invariant.0,
  watched-woken (the_view c.self.inside) c.wake.new.self c.self.invariant.1
      (more-awake c.self.inside.watch c.wake.new.self c.wake.ensures.filed c.wake.ensures.stuck c.wake.ensures.others),
  c.self.invariant.2,
  c.self.invariant.3,
  c.self.invariant.4,
)
