-- A replica: what one backup keeps of one segment. Its entries only grow, and it closes only where it
-- has exactly the stated number of them.
use Rattle.std.specs.Prelude.{ℕ, ◌-◌, Bool, true, not, nat_eq, nat_lt, nat_le, ◌&&◌, if◌then◌else◌, List, ◌++◌}
use Rattle.std.specs.Prelude.{length, drop}
use Rattle.rc_types.specs.declared.entries.Entry.{Entry}

pub record Replica : Type 0 where
  pub epoch : ℕ
  pub closed : Bool
  pub digest : List ℕ
  pub entries : List Entry

-- the entries past the replica's length are added, where `offset` is the place of the first one sent
abbrev pub grown : List Entry → ℕ → List Entry → List Entry
grown entries offset sent = entries ++ drop (length entries - offset) sent

-- a Place on an open replica, under an epoch not below its own
abbrev pub placed_open : Replica → ℕ → List Entry → Bool → Replica
placed_open replica epoch sent closed =
    let entries = grown replica.entries 0 sent in
    record replica { epoch = epoch; entries = entries; closed = closed && nat_eq (length entries) (length sent) }

-- a Place on a replica that is there: a closed one only takes a greater epoch, and an open one nothing of a lower
abbrev pub placed : Replica → ℕ → List Entry → Bool → Replica
placed replica epoch sent closed =
    if nat_lt epoch replica.epoch then replica
    else (if replica.closed then record replica { epoch = epoch } else placed_open replica epoch sent closed)

-- an Append: an open replica takes it where no place is left out
abbrev pub appended : Replica → ℕ → List Entry → Replica
appended replica offset sent =
    if not replica.closed && nat_le offset (length replica.entries)
    then record replica { entries = grown replica.entries offset sent } else replica

-- a Close at this length closes it
abbrev pub closes : Replica → ℕ → Bool
closes replica len = not replica.closed && nat_eq (length replica.entries) len

abbrev pub closed_at : Replica → ℕ → Replica
closed_at replica len = if closes replica len then record replica { closed = true } else replica
