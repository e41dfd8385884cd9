use Rattle.std.proofs.Common.{◌≡◌, not, nat_eq, filter, take}
use Rattle.std.specs.List.{list_any}
use Rattle.rc_headroll.proofs.going_on.lacking.Given as goal

-- of the numbers so far those that the others lack
abbrev pub invariant-loop-number : goal.invariant-loop-number
invariant-loop-number l =
    l.rest.items ≡ filter (λ seg. not (list_any (nat_eq seg) l.others)) (take l.number-index l.numbers)
