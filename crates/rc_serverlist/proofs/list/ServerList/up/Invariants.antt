use Rattle.std.proofs.Common.{◌≡◌, Bool, List, ◌++◌}
use Rattle.rc_model.specs.Model.{ServerId, ids_in_order, up_rows}
use Rattle.rc_serverlist.proofs.list.ServerList.up.Given as goal

-- the ids that are up among the last rows, which were gone over
abbrev pub invariant-loop-id : goal.invariant-loop-id
invariant-loop-id l =
    (last : List (ServerId × Bool)) × (l.id-iterator.iter ++ last ≡ l.self.rows) × (l.ids.items ≡ ids_in_order (up_rows last))
