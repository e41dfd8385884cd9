use Rattle.std.proofs.Common.{◌≡◌, Err, ap, subst, sym}
use Rattle.rc_world.specs.Happened.{Happened, replayed}
use Rattle.rc_runs.proofs.Played.{happened_tried, passed_tried}
use Rattle.rc_runs.proofs.Steppings.{taken_then}
use Rattle.rc_runs.proofs.drawing.try_event.Goals as goal

pub returns-in-Ok-clause-made : goal.returns-in-Ok-clause-made
returns-in-Ok-clause-made c =
    happened_tried c.args.world.now c.take.new.self c.args.event.now c.requires c.in-Ok.ensures.possible c.in-Ok.ensures.ok

pub returns-in-Ok-clause-taken : goal.returns-in-Ok-clause-taken
returns-in-Ok-clause-taken c =
    taken_then c.args.world.now c.take.new.self c.args.event.now c.requires c.in-Ok.ensures.ok c.in-Ok.ensures.possible

pub returns-in-Err-BadEvent-clause-made : goal.returns-in-Err-BadEvent-clause-made
returns-in-Err-BadEvent-clause-made c =
    passed_tried c.args.world.now c.take.new.self c.args.event.now c.requires c.in-Err-BadEvent.ensures.err
    (c.in-Err-BadEvent.ensures.bad.0 (ap Err c.in-Err-BadEvent.field-0-is))

pub returns-in-Err-BadEvent-clause-taken : goal.returns-in-Err-BadEvent-clause-taken
returns-in-Err-BadEvent-clause-taken c =
    subst (λ (w : Happened). (replayed w).events ≡ w.events) (sym c.in-Err-BadEvent.ensures.err) c.requires
