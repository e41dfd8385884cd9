use Rattle.std.proofs.Common.{◌∙◌, arith}
use Rattle.std.proofs.lemmas.List.{length-drop}
use Rattle.rc_sim.proofs.Written.{written_more, rest_of, some_taken}
use Rattle.rc_sim.proofs.outlets.write_all.Goals as goal

pub loop-written-preserved : goal.loop-written-preserved
loop-written-preserved g c =
    let text = c.args.text.now in
    let written = c.loop-written.written in
    let count = c.in-Ok.count in
    record {
      within = omega (arith, c.in-Ok.ensures.bound, length-drop written text);
      taken = written_more _ _ _ text _ written count c.loop-written.invariant.taken (rest_of written text) c.in-Ok.ensures.bytes;
      counted = c.write.ensures.failures ∙ some_taken c.write.result count c.loop-written.writer.failures c.in-Ok.is
          (grind arith) ∙ c.loop-written.invariant.counted;
    }
