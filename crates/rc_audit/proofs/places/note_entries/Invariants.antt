use Rattle.std.proofs.Common.{◌+◌}
use Rattle.rc_audit.specs.Places.{NotesSent, entry_of_run}
use Rattle.rc_audit.proofs.PlaceLemmas.{sent_below}
use Rattle.rc_audit.proofs.places.note_entries.Given as goal

-- what was noted so far
abbrev pub invariant-loop-index : goal.invariant-loop-index
invariant-loop-index l = NotesSent l.initial.made l.made (sent_below (l.start + l.index) (entry_of_run l.master l.seg l.start l.entries))
