use Rattle.std.proofs.Common.{◌≡◌, ◌++◌, take}
use Rattle.std.specs.List.{flat_map}
use Rattle.rc_session.specs.Looks.{due_code}
use Rattle.rc_session.proofs.dues.put_dues.Given as goal

abbrev pub invariant-loop-due : goal.invariant-loop-due
invariant-loop-due l = l.out.items ≡ l.fn.out.items ++ flat_map due_code (take l.due-index l.list)
