use Rattle.std.proofs.Common.{length, ap, arith}
use Rattle.rc_headroll.specs.Before.{Mark}
use Rattle.rc_headroll.specs.Counts.{counted_anew}
use Rattle.rc_headroll.proofs.LogTables.{log_of-nil}
use Rattle.rc_headroll.proofs.AliveLemmas.{found-none}
use Rattle.rc_headroll.proofs.SoundBefore.{before_of-nil, sound_log-new}
use Rattle.rc_headroll.proofs.WatchLemmas.{watched-none}
use Rattle.rc_headroll.proofs.WholeLemmas.{whole-unknown}
use Rattle.rc_headroll.proofs.log.LogHead.new.Goals as goal

pub invariant_of-result : goal.invariant_of-result
invariant_of-result c = (
  rw (c.new-2.ensures, c.new.ensures.items)
      (sound_log-new c.args.own c.args.factor c.args.size (counted_anew 0) c.new-3.result c.requires.factor c.requires.size),
  watched-none _ (ap length c.new.ensures.items) (ap (λ (m : Mark). m.head) c.new-2.ensures),
  omega (arith, ap length c.new.ensures.items),
  found-none _ _ c.new-4.ensures.items,
  whole-unknown _,
)

pub returns-clause-log : goal.returns-clause-log
returns-clause-log c = rw c.new.ensures.items (log_of-nil c.args.own c.args.factor c.args.size (counted_anew 0) c.new-3.result)

pub returns-clause-before : goal.returns-clause-before
returns-clause-before c =
    rw (c.new-2.ensures, c.new.ensures.items) (before_of-nil c.args.own c.args.factor c.args.size (counted_anew 0) c.new-3.result)
