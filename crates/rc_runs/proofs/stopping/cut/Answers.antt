use Rattle.std.proofs.Common.{◌≡◌, ◌≤◌, ◌-◌, rules, length, ◌∙◌, arith}
use Rattle.std.proofs.lemmas.Result.{IfOk-weaker}
use Rattle.rc_world.specs.Happened.{replayed, with_events, AllHappen}
use Rattle.rc_world.specs.Stops.{stops_below}
use Rattle.rc_runs.proofs.CutWorlds.{cut_anew, cut_on}
use Rattle.rc_runs.proofs.StoppedWorlds.{stops_counted, stops_within, cut_stopped}
use Rattle.rc_runs.proofs.stopping.cut.Goals as goal

pub after_stops-requires : goal.after_stops-requires
after_stops-requires c =
    let run = c.args.run.now in
    let stops = stops_below (replayed run).hosts c.args.hosts in
    let gone_on : c.in-Some.stopped ≡ with_events run stops = search rules in
    let whole : length stops ≤ length c.as_slice.result.now =
    stops_within c.args.hosts c.args.keeping run c.world.result.now c.as_slice.result.now c.world.ensures.world
    (c.as_slice.ensures.value ∙ c.in_ok-scene.ensures) in
    let counted : length c.in-Some.stopped.events - length run.events ≡ length stops = stops_counted run c.in-Some.stopped stops gone_on in
    let many : length c.events.result.now ≡ length c.in-Some.stopped.events = search rules in
    let few : length c.events-in-Some.result.now ≡ length run.events = search rules in
    omega (arith, whole, counted, many, few)

pub returns-in-Some : goal.returns-in-Some
returns-in-Some c =
    let run = c.args.run.now in
    let stops = stops_below (replayed run).hosts c.args.hosts in
    let gone_on : c.in-Some.stopped ≡ with_events run stops = search rules in
    let happen : AllHappen run stops = search rules in
    let counted : length c.in-Some.stopped.events - length run.events ≡ length stops = stops_counted run c.in-Some.stopped stops gone_on in
    let many : length c.events.result.now ≡ length c.in-Some.stopped.events = search rules in
    let few : length c.events-in-Some.result.now ≡ length run.events = search rules in
    let count : length c.events.result.now - length c.events-in-Some.result.now ≡ length stops = omega (arith, counted, many, few) in
    IfOk-weaker c.play_on.result _ _
    (λ cut made. cut_on c.args.setup.now c.args.hosts c.args.keeping c.args.events.now run cut c.requires.taken
    (cut_stopped c.args.hosts c.args.keeping run c.world.result.now c.in-Some.stopped cut c.as_slice.result.now c.after_stops.result.now
    (length c.events.result.now - length c.events-in-Some.result.now) c.in_ok-stopped.ensures.taken c.world.ensures.world
    (c.as_slice.ensures.value ∙ c.in_ok-scene.ensures) gone_on happen count c.after_stops.ensures made))
    c.play_on.ensures

pub returns : goal.returns
returns c =
    IfOk-weaker c.play_on-in-None.result _ _
    (λ cut made. cut_anew c.args.setup.now c.args.hosts c.args.keeping c.args.events.now c.args.run.now c.world.result.now
    c.in_ok-again-in-None.again cut c.as_slice-in-None.result.now c.requires.taken c.world.ensures.world
    (c.as_slice-in-None.ensures.value ∙ c.in_ok-scene.ensures) c.in_ok-again-in-None.ensures made)
    c.play_on-in-None.ensures
