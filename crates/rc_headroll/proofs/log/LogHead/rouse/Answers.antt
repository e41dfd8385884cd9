use Rattle.std.proofs.Common.{length}
use Rattle.rc_config.specs.Lists.{segment_at}
use Rattle.rc_headroll.specs.contracts.log.LogHead.{the_view}
use Rattle.rc_headroll.proofs.StuckLemmas.{on-both}
use Rattle.rc_headroll.proofs.WatchLemmas.{IsMore, sound-watch, watched-woken, roused-from}
use Rattle.rc_headroll.proofs.log.LogHead.rouse.Goals as goal

pub invariant_of-self : goal.invariant_of-self
invariant_of-self c =
    let more : IsMore c.self.inside.watch c.wake_crashed.new.self = record {
      awake = c.wake_crashed.ensures.others;
      filed = c.wake_crashed.ensures.filed;
      stuck = c.wake_crashed.ensures.stuck;
    } in (
      sound-watch (the_view c.self.inside) c.self.inside.passed c.self.inside.passed_entries c.wake_crashed.new.self c.self.invariant.0,
      watched-woken (the_view c.self.inside) c.wake_crashed.new.self c.self.invariant.1 more,
      c.self.invariant.2,
      c.self.invariant.3,
      c.self.invariant.4,
    )

pub returns-clause-roused : goal.returns-clause-roused
returns-clause-roused c =
    let more : IsMore c.self.inside.watch c.wake_crashed.new.self = record {
      awake = c.wake_crashed.ensures.others;
      filed = c.wake_crashed.ensures.filed;
      stuck = c.wake_crashed.ensures.stuck;
    } in
    on-both c.wake_crashed.result
    (λ crashed listed. roused-from c.self.inside.own c.args.servers.now c.wake_crashed.new.self (length c.self.inside.segments.items)
    (segment_at c.self.inside.segments.items)
    (watched-woken (the_view c.self.inside) c.wake_crashed.new.self c.self.invariant.1 more).now
    (λ id seg is. (crashed id seg is).0) listed)
    c.wake_crashed.ensures.crashed c.wake_crashed.ensures.listed
