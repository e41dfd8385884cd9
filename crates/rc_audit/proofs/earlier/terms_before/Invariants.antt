use Rattle.std.proofs.Common.{◌+◌, length}
use Rattle.rc_audit.specs.Earlier.{unseen}
use Rattle.rc_audit.proofs.EarlierLemmas.{Searches, all_in}
use Rattle.rc_audit.proofs.earlier.terms_before.Given as goal

abbrev pub invariant-loop-later : goal.invariant-loop-later
invariant-loop-later l = Searches l.grants l.table l.key l.term l.before l.waiting.items

-- the terms that are not noted yet, and those that wait
abbrev pub decreases-loop-later : goal.decreases-loop-later
decreases-loop-later l = unseen l.before (all_in l.grants.entries) + length l.waiting.items
