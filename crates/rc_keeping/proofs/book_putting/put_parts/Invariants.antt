use Rattle.std.proofs.Common.{◌≡◌, ◌++◌, take}
use Rattle.std.specs.List.{flat_map}
use Rattle.rc_keeping.specs.Saved.{given_code}
use Rattle.rc_keeping.proofs.book_putting.put_parts.Given as goal

abbrev pub invariant-loop-given : goal.invariant-loop-given
invariant-loop-given l = l.out.items ≡ l.fn.out.items ++ flat_map given_code (take l.given-index l.parts)
