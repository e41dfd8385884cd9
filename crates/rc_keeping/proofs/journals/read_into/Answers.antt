use Rattle.std.proofs.Common.{arith}
use Rattle.rc_keeping.proofs.JournalLaws.{rest-fits, one-record-more, less-is-left, are-read}
use Rattle.rc_keeping.proofs.journals.read_into.Goals as goal

pub loop-work-smaller : goal.loop-work-smaller
loop-work-smaller c =
    less-is-left c.loop-work.rest.now c.in-Ok.work c.in-Ok.after.now
    (rest-fits c.args.journal.now c.loop-work.works.items c.loop-work.rest.now c.loop-work.invariant
    (λ i. omega (arith, c.type_inv.journal i))) c.in-Ok.ensures

pub loop-work-preserved : goal.loop-work-preserved
loop-work-preserved c =
    rw c.in_ok-push-in-Ok.ensures.items
    (one-record-more c.args.journal.now c.loop-work.works.items c.loop-work.rest.now c.in-Ok.work c.in-Ok.after.now c.loop-work.invariant
    (rest-fits c.args.journal.now c.loop-work.works.items c.loop-work.rest.now c.loop-work.invariant
    (λ i. omega (arith, c.type_inv.journal i))) c.in-Ok.ensures)

pub returns-in-Err-Malformed : goal.returns-in-Err-Malformed
returns-in-Err-Malformed c =
    are-read c.args.journal.now c.loop-work.works.items c.loop-work.rest.now c.loop-work.invariant
    (rw c.in-Err-Malformed.field-0-is at c.in-Err-Malformed.ensures)
