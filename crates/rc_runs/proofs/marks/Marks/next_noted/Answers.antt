use Rattle.std.proofs.Common.{take, arith}
use Rattle.std.proofs.lemmas.Option.{slice_get_read}
use Rattle.rc_runs.specs.Waiting.{is_due_by}
use Rattle.rc_runs.proofs.LaneLemmas.{ascends_at, least_next, least_all}
use Rattle.rc_runs.proofs.marks.Marks.next_noted.Goals as goal

pub loop-place-preserved : goal.loop-place-preserved
loop-place-preserved c high rise =
    let lines = c.args.self.now.lines.items in
    let line = c.index.result.now in
    let at = slice_get_read lines c.len-place-end.result c.loop-place.place line (omega arith) c.loop-place-test.true
    c.index.ensures in
    least_next (is_due_by c.args.passing.now c.args.self.now.delivered.items c.args.sent.now) c.args.from c.args.passing.now
    lines c.loop-place.place line c.or_in-least.result at
    (c.or_in-least.ensures high (take c.loop-place.place lines) (ascends_at high lines c.loop-place.place line rise at)
    (c.loop-place.invariant high rise))

pub returns : goal.returns
returns c high rise =
    least_all (is_due_by c.args.passing.now c.args.self.now.delivered.items c.args.sent.now) c.args.from c.args.passing.now
    c.args.self.now.lines.items c.loop-place.place c.loop-place.least (omega arith) (c.loop-place.invariant high rise)
