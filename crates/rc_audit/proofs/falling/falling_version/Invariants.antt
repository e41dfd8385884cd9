use Rattle.std.proofs.Common.{◌≡◌, drop}
use Rattle.rc_model.specs.Model.{all_acknowledged, falls_of}
use Rattle.rc_audit.specs.Bars.{AreBars}
use Rattle.rc_audit.proofs.falling.falling_version.Given as goal

-- none falls so far
abbrev pub invariant-loop-message : goal.invariant-loop-message
invariant-loop-message l = record {
  bars : AreBars l.bars l.messages;
  so_far : falls_of l.messages (all_acknowledged l.messages) ≡ falls_of l.messages (all_acknowledged (drop l.message-index l.messages));
}
