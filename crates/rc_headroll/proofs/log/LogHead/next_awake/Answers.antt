use Rattle.std.proofs.Common.{◌≡◌, false, length, arith}
use Rattle.rc_model.specs.Log.{has_segment}
use Rattle.rc_config.specs.Lists.{segment_at}
use Rattle.rc_headroll.specs.LogData.{log_of}
use Rattle.rc_headroll.specs.contracts.log.LogHead.{the_view}
use Rattle.rc_headroll.proofs.WatchLemmas.{asleep-nothing, not-has-past}
use Rattle.rc_headroll.proofs.log.LogHead.next_awake.Goals as goal

pub returns-then-not-has-clause-others : goal.returns-then-not-has-clause-others
returns-then-not-has-clause-others c =
    let none : false ≡ has_segment (log_of c.args.self.now) c.in_ok-seg.seg = c.if-not-has.ensures in
    let past = not-has-past (log_of (the_view c.self.inside)) c.in_ok-seg.seg (omega (arith, c.in_ok-seg.ensures.later))
    (rw (← c.self.view_is) at none) in
    rw (← c.self.view_is)
    (λ other above within _. asleep-nothing c.self.inside.own c.self.inside.watch (length c.self.inside.segments.items)
    (segment_at c.self.inside.segments.items) c.self.invariant.1.now other (omega (arith, above)) within
    (c.in_ok-seg.ensures.others other above (omega (arith, past, within))))

pub returns-then-not-has-clause-asleep : goal.returns-then-not-has-clause-asleep
returns-then-not-has-clause-asleep c =
    let none : false ≡ has_segment (log_of c.args.self.now) c.in_ok-seg.seg = c.if-not-has.ensures in
    let past = not-has-past (log_of (the_view c.self.inside)) c.in_ok-seg.seg (omega (arith, c.in_ok-seg.ensures.later))
    (rw (← c.self.view_is) at none) in
    rw (← c.self.view_is)
    (λ other above within _. c.in_ok-seg.ensures.others other above (omega (arith, past, within)))

pub returns-clause-others : goal.returns-clause-others
returns-clause-others c =
    rw (← c.self.view_is)
    (λ other above within below. asleep-nothing c.self.inside.own c.self.inside.watch (length c.self.inside.segments.items)
    (segment_at c.self.inside.segments.items) c.self.invariant.1.now other (omega (arith, above)) within
    (c.in_ok-seg.ensures.others other above below))
