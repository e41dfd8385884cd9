use Rattle.std.proofs.Common.{◌≡◌, [], drop}
use Rattle.rc_model.specs.ServerList.{first_rows}
use Rattle.rc_serverlist.proofs.list.ServerList.from_rows.Given as goal

-- the rows so far, and then the first of the others
abbrev pub invariant-loop-id : goal.invariant-loop-id
invariant-loop-id l = first_rows l.first.entries (drop l.id-index l.rows) ≡ first_rows [] l.rows
