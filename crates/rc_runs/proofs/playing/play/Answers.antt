use Rattle.rc_runs.proofs.Played.{ends_played, stops_played}
use Rattle.rc_runs.proofs.playing.play.Goals as goal

pub returns-in-Ok : goal.returns-in-Ok
returns-in-Ok c =
    ends_played c.args.run.now c.play_all.new.self c.args.events.now c.world-world.ensures.few c.in-Ok.ensures.ok

pub returns-in-Err-default-BadEvent : goal.returns-in-Err-default-BadEvent
returns-in-Err-default-BadEvent c =
    stops_played c.args.run.now c.play_all.new.self c.args.events.now c.in-Err-default-BadEvent.field-0-0
    c.in-Err-default-BadEvent.field-0-1 c.in-Err-default-BadEvent.field-0-1-is c.in-Err-default-BadEvent.ensures.err
