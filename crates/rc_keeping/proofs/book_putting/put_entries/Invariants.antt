use Rattle.std.proofs.Common.{◌≡◌, ◌++◌}
use Rattle.std.specs.List.{flat_map}
use Rattle.rc_codec.specs.Fields.{id_code}
use Rattle.rc_keeping.proofs.book_putting.put_entries.Given as goal

-- what stands there so far, and then what is left
abbrev pub invariant-loop-id : goal.invariant-loop-id
invariant-loop-id g l =
    l.out.items ++ flat_map (λ e. id_code e.0 ++ g.V.Put.code e.1) l.id-iterator ≡
    l.initial.out.items ++ flat_map (λ e. id_code e.0 ++ g.V.Put.code e.1) l.map.entries
