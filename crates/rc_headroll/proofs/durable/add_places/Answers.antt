use Rattle.std.proofs.Common.{◌<◌, map, length, ap, ◌∙◌, arith}
use Rattle.std.proofs.lemmas.List.{map_push}
use Rattle.rc_headroll.specs.Places.{log_place}
use Rattle.rc_headroll.proofs.PlaceLemmas.{add-step}
use Rattle.rc_headroll.proofs.durable.add_places.Goals as goal

pub loop-entry-preserved : goal.loop-entry-preserved
loop-entry-preserved c =
    let inside : c.loop-entry.entry-index < length c.args.entries.now = omega arith in
    record {
      at = omega (arith, c.loop-entry.invariant.at);
      added =
          ap (map log_place) c.in_ok-push.ensures.items
          ∙ map_push log_place c.loop-entry.places.items _
          ∙ add-step (map log_place c.args.places.now.items) (map log_place c.loop-entry.places.items) c.args.seg
          c.args.offset c.loop-entry.entry-index c.loop-entry.at
          c.args.entries.now c.loop-entry-item.result inside c.loop-entry.invariant.at c.loop-entry-item.is c.loop-entry.invariant.added;
    }
