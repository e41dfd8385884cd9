use Rattle.std.proofs.Common.{◌≡◌, List, length}
use Rattle.rc_types.specs.declared.events.Event.{Event}
use Rattle.rc_runs.specs.Waiting.{Fits}
use Rattle.rc_runs.proofs.marks.Marks.note.Given as goal

-- those before this number are noted
abbrev pub invariant-loop-number : goal.invariant-loop-number
invariant-loop-number l = record {
  noted : length l.self.delivered.items ≡ l.number;
  kept : (events : List Event) → Fits events l.sent l.initial.self.delivered.items l.initial.self.lines.items →
      Fits events l.sent l.self.delivered.items l.self.lines.items;
}
