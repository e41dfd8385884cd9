use Rattle.std.proofs.Common.{◌<◌, length, ap, ◌∙◌, arith}
use Rattle.rc_model.specs.Model.{Log, old_head_of}
use Rattle.rc_headroll.specs.LogData.{log_of}
use Rattle.rc_headroll.proofs.LogSteps.{left_to, freed-heads, freed-previous, freed-more, freed-not}
use Rattle.rc_headroll.proofs.log.LogHead.free_each.Goals as goal
use Rattle.rc_headroll.proofs.log.LogHead.free_each.Goals.{then-stands, else-stands}

pub stands-requires-clause-more : goal.stands-requires-clause-more
stands-requires-clause-more c =
    let head = freed-heads (left_to (log_of c.args.self.now) c.loop-index.index) (log_of c.args.self.now)
    (log_of c.loop-index.self) c.loop-index.invariant.freed in
    let more : 1 < length c.args.self.now.segments = c.requires in
    omega (arith, head, more)

pub stands-requires-clause-within : goal.stands-requires-clause-within
stands-requires-clause-within c =
    let digest = freed-previous (left_to (log_of c.args.self.now) c.loop-index.index) (log_of c.args.self.now)
    (log_of c.loop-index.self) c.loop-index.invariant.freed in
    omega (arith, ap length digest, c.loop-index.invariant.all, c.loop-index-test.true)

pub free_if_left_out-requires-clause-more : goal.free_if_left_out-requires-clause-more
free_if_left_out-requires-clause-more c =
    let head = freed-heads (left_to (log_of c.args.self.now) c.loop-index.index) (log_of c.args.self.now)
    (log_of c.loop-index.self) c.loop-index.invariant.freed in
    let more : 1 < length c.args.self.now.segments = c.requires in
    omega (arith, head, more)

pub free_if_left_out-requires-clause-within : goal.free_if_left_out-requires-clause-within
free_if_left_out-requires-clause-within c =
    let digest = freed-previous (left_to (log_of c.args.self.now) c.loop-index.index) (log_of c.args.self.now)
    (log_of c.loop-index.self) c.loop-index.invariant.freed in
    omega (arith, ap length digest, c.loop-index.invariant.all, c.loop-index-test.true)

pub loop-index-preserved : goal.loop-index-preserved
loop-index-preserved c =
    let log : Log = log_of c.args.self.now in
    let now : Log = log_of c.loop-index.self in
    let inside : c.loop-index.index < length (old_head_of (log_of c.args.self.now)).digest =
    omega (arith, c.loop-index.invariant.all, c.loop-index-test.true) in
    elim c.if-stands.branch [
      | then-stands w ↦ record {
        freed = ap log_of w.self-is ∙ freed-not log now c.loop-index.index c.loop-index.invariant.freed inside
            (c.stands.ensures.among w.if-stands.true);
        before = rw w.self-is c.loop-index.invariant.before;
        counted = rw w.self-is c.loop-index.invariant.counted;
        all = c.loop-index.invariant.all;
        place = omega (arith, w.place-is, c.loop-index.invariant.place);
      }
      | else-stands w ↦ record {
        freed = ap log_of w.self-is ∙ freed-more log now (log_of w.free_if_left_out.new.self) c.loop-index.index
            c.loop-index.invariant.freed inside w.free_if_left_out.ensures.freed;
        before = rw w.self-is (w.free_if_left_out.ensures.before ∙ c.loop-index.invariant.before);
        counted = rw w.self-is (w.free_if_left_out.ensures.counted ∙ c.loop-index.invariant.counted);
        all = c.loop-index.invariant.all;
        place = omega (arith, w.place-is, c.loop-index.invariant.place);
      }
    ]
