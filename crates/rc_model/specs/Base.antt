-- What a new owner starts from: the recovered entries of its range under the term before, carried over to its own.
use Rattle.std.specs.Prelude.{ℕ, nat_eq, ◌&&◌, Bool, List, [], ◌∷◌, ◌++◌, map, filter, zero, suc}
use Rattle.rc_types.specs.declared.ids.ServerId.{ServerId}
use Rattle.rc_types.specs.declared.entries.Entry.{Entry}
use Rattle.rc_types.specs.declared.rows.PlanRow.{PlanRow}
use Rattle.rc_types.specs.declared.messages.Message.{Message}
use Rattle.rc_model.specs.Ownership.{under_term}
use Rattle.rc_model.specs.Made.{made}
use Rattle.rc_model.specs.Recovered.{Accepted}
use Rattle.rc_model.specs.Owners.{Granted, covers}

-- the entry alone, where any was made: a master sends one entry for a place, however often
abbrev pub one_of : List Entry → List Entry
one_of [] = []
one_of (entry ∷ entries) = entry ∷ []

-- the entries of a master's segment at the places below a length, in order of offset
abbrev pub made_below : List Message → ServerId → ℕ → ℕ → List Entry
made_below sent m s zero = []
made_below sent m s (suc len) = made_below sent m s len ++ one_of (made sent m s len)

-- the entries of a recovered log, in order of segment and offset: a plan's rows ascend
abbrev pub recovered_entries : List Message → ServerId → List PlanRow → List Entry
recovered_entries sent m [] = []
recovered_entries sent m (row ∷ rows) = made_below sent m row.seg row.len ++ recovered_entries sent m rows

-- the entry is in the grant's range, under the term before it
abbrev pub is_carried : Granted → Entry → Bool
is_carried grant entry = nat_eq entry.term grant.previous && covers entry.table entry.key grant

-- the base of a grant of an accepted recovery: what its owner starts from
abbrev pub base : List Message → Accepted → Granted → List Entry
base sent plan grant =
    map (under_term grant.term) (filter (is_carried grant) (recovered_entries sent plan.master plan.rows))
