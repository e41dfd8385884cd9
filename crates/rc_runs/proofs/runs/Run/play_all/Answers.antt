use Rattle.std.proofs.Common.{◌<◌, ◌+◌, ◌∙◌, length, drop, arith}
use Rattle.rc_world.specs.Happened.{replayed}
use Rattle.rc_runs.specs.Steps.{room_at}
use Rattle.rc_runs.proofs.Passes.{room_enough}
use Rattle.rc_runs.proofs.Scenes.{scene_stops, dropped_at}
use Rattle.rc_runs.proofs.runs.Run.play_all.Goals as goal

pub returns-in-Err-clause-err : goal.returns-in-Err-clause-err
returns-in-Err-clause-err g c =
    let place = c.loop-place.place in
    let events = c.args.events.now in
    let within : place < length events = omega arith in
    let made = c.in-Err.ensures in
    let most = room_at c.in-Err.fault c.play.new.self in
    let room = room_enough c.in-Err.fault c.play.new.self made.fault c.play.ensures.few in
    c.loop-place.invariant.reached most (omega (arith, room, c.play.ensures.more))
    ∙ scene_stops most place (replayed c.loop-place.self) (replayed c.play.new.self) c.index-events-place.result
    (drop place events) (drop (place + 1) events)
    (dropped_at events place c.index-events-place.result within c.index-events-place.is) c.in-Err.ensures.err
