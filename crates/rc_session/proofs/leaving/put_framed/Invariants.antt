use Rattle.std.proofs.Common.{◌≡◌, ◌++◌, take}
use Rattle.std.specs.List.{flat_map}
use Rattle.rc_session.specs.View.{framed}
use Rattle.rc_session.proofs.leaving.put_framed.Given as goal

abbrev pub invariant-loop-message : goal.invariant-loop-message
invariant-loop-message l = l.out.items ≡ l.fn.out.items ++ flat_map framed (take l.message-index l.messages)
