use Rattle.std.proofs.Common.{◌≡◌, [], map, replicate}
use Rattle.rc_wire.proofs.index.Index.new.Given as goal

-- so many lists, of no number each
abbrev pub invariant-loop : goal.invariant-loop
invariant-loop l = map (λ list. list.items) l.lists.items ≡ replicate l.counter []
