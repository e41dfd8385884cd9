use Rattle.rc_runs.specs.declared.cutting.Keeping.TheVariants.{OddSegments, Nothing}
use Rattle.rc_runs.proofs.CutWorlds.{counted_alike, counted_all}
use Rattle.rc_runs.proofs.stopping.breaches_after.Goals as goal

pub breaks_unless-requires-clause-alike : goal.breaks_unless-requires-clause-alike
breaks_unless-requires-clause-alike c whole =
    counted_alike c.args.setup.now c.args.hosts OddSegments c.args.events.now c.args.run.now c.world.result.now c.in_ok-all.all
    c.requires.taken c.world.ensures.world (c.in_ok-odd_is_all.ensures whole) c.in_ok-all.ensures.ok

pub breaks_unless-requires-2-clause-alike : goal.breaks_unless-requires-2-clause-alike
breaks_unless-requires-2-clause-alike c whole =
    counted_alike c.args.setup.now c.args.hosts Nothing c.args.events.now c.args.run.now c.world-2.result.now c.in_ok-all.all
    c.requires.taken c.world-2.ensures.world (c.in_ok-nothing_is_all.ensures whole) c.in_ok-all.ensures.ok

pub returns-clause-ok : goal.returns-clause-ok
returns-clause-ok c =
    counted_all c.args.setup.now c.args.hosts c.args.events.now c.in_ok-all.all c.in_ok-odd.odd c.in_ok-nothing.nothing
    c.in_ok-all.ensures.ok c.in_ok-odd.ensures.ok c.in_ok-nothing.ensures.ok
