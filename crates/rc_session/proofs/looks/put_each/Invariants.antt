use Rattle.std.proofs.Common.{◌≡◌, ◌++◌, take}
use Rattle.std.specs.List.{flat_map}
use Rattle.rc_codec.specs.Fields.{tablet_code}
use Rattle.rc_session.proofs.looks.put_each.Given as goal

abbrev pub invariant-loop-tablet : goal.invariant-loop-tablet
invariant-loop-tablet l = l.out.items ≡ l.fn.out.items ++ flat_map tablet_code (take l.tablet-index l.tablets)
