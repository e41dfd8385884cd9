use Rattle.std.proofs.Common.{ap}
use Rattle.rc_world.specs.contracts.host.Host.{the_view}
use Rattle.rc_world.proofs.HostSteps.{ticked, idle, left, never}
use Rattle.rc_world.proofs.host.Host.tick.Goals.{in-Some, in-None}
use Rattle.rc_world.proofs.host.Host.tick.Goals as goal

pub returns-clause-state : goal.returns-clause-state
returns-clause-state c = elim c.match-self.branch [
  | in-Some w ↦ ticked c.match-self.result w.tick.result (the_view c.self.inside) c.args.self.now (the_view c.match-self.self-inside)
      w.in-Some.master w.tick.new.self w.result-is c.self.view_is (ap the_view w.self-inside-is) w.in-Some.is w.tick.ensures.state
  | in-None w ↦ idle c.match-self.result _ (the_view c.self.inside) c.args.self.now (the_view c.match-self.self-inside)
      w.result-is c.self.view_is (ap the_view w.self-inside-is) w.in-None.is
]

pub returns-clause-err : goal.returns-clause-err
returns-clause-err c = elim c.match-self.branch [
  | in-Some w ↦ left c.match-self.result w.tick.result (the_view c.self.inside) c.args.self.now (the_view c.match-self.self-inside)
      w.in-Some.master w.tick.new.self w.result-is c.self.view_is (ap the_view w.self-inside-is) w.in-Some.is w.tick.ensures.err
  | in-None w ↦ never _ c.match-self.result _ w.result-is
]
