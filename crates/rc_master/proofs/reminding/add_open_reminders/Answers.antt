use Rattle.std.proofs.Common.{◌≤◌, ◌++◌, sym, ap, ◌∙◌, arith}
use Rattle.std.proofs.lemmas.Grind.{common_steps}
use Rattle.rc_model.specs.Model.{Log, numbers_to, reminds_open}
use Rattle.rc_headroll.specs.LogData.{log_of, before_of}
use Rattle.rc_master.specs.Reminders.{reminds_if_open}
use Rattle.rc_headroll.proofs.LogTables.{has-parts}
use Rattle.rc_master.proofs.SegmentLists.{adds-more, skips, skips-to, open-more, open-none}
use Rattle.rc_master.proofs.reminding.add_open_reminders.Goals as goal

pub loop-seg-preserved : goal.loop-seg-preserved
loop-seg-preserved c =
    let log : Log = log_of c.args.log.now in
    let before : Log = before_of c.args.log.now in
    let within : c.in-Some.seg ≤ log.head = (has-parts log c.in-Some.seg c.in-Some.ensures.known).1 in
    record {
      known = within;
      so_far =
          adds-more _ _ _ _ _ _ c.loop-seg.invariant.so_far c.in_ok-add_if_open.ensures.ok
          (skips-to (λ n. reminds_open before log (numbers_to n)) (reminds_if_open before log)
          (open-more before log) c.loop-seg.done c.in-Some.seg c.in-Some.ensures.later
          (λ o above below. open-none before log o (c.in-Some.ensures.others o above (omega (arith, below, within)) below)));
      begun = grind (arith, common_steps);
    }

pub returns-clause-ok : goal.returns-clause-ok
returns-clause-ok c =
    let log : Log = log_of c.args.log.now in
    let before : Log = before_of c.args.log.now in
    c.loop-seg.invariant.so_far ∙ ap (λ messages. c.args.sent.now.items ++ messages)
    (sym (skips (λ n. reminds_open before log (numbers_to n)) (reminds_if_open before log) (open-more before log) c.loop-seg.done
    log.head c.loop-seg.invariant.known
    (λ o above within. open-none before log o (c.in_default.ensures.others o above within tt))))
