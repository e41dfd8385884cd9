use Rattle.std.proofs.Common.{◌≡◌}
use Rattle.rc_serverlist.proofs.RowLemmas.{crashed_below}
use Rattle.rc_serverlist.proofs.marks.mark_index_crashed.Given as goal

-- the rows before this place are marked
abbrev pub invariant-loop-place : goal.invariant-loop-place
invariant-loop-place l = l.rows.entries ≡ crashed_below l.index l.place l.initial.rows.entries
