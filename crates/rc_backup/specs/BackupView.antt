-- How the definitions see a backup's fields.
use Rattle.std.specs.Prelude.{ℕ, List, Option, Some, None, unwrap_or}
use Rattle.std.specs.declared.cmp.Ordering.{Ordering}
use Rattle.std.specs.Ordering.{nat_cmp, ordering_then}
use Rattle.std.specs.BTreeMap.{insert_entry}
use Rattle.std.specs.Map.{keys_of, lookup}
use Rattle.rc_types.specs.declared.ids.ServerId.{ServerId}
use Rattle.rc_model.specs.Ids.{same_id}
use Rattle.rc_model.specs.Replica.{Replica}
use Rattle.rc_model.specs.Backup.{Held, Backup, nothing_held}
use Rattle.rc_replica.specs.HeldAfter.{with_replica}

-- of each master what the table has, and nothing of a master that is not in it
abbrev pub held_in : List (ServerId × Held) → ServerId → Held
held_in table master = unwrap_or (lookup (same_id master) table) nothing_held

-- what a contract sees of a backup: its id, and its table, in order of master; a function cannot be the value of a type
pub record Holdings : Type 0 where
  pub own : ServerId
  pub table : List (ServerId × Held)

-- as the definitions see it
abbrev pub backup_of : Holdings → Backup
backup_of holdings = record { own = holdings.own; held = held_in holdings.table; masters = keys_of holdings.table }

-- the order of the table
abbrev pub id_order : ServerId → ServerId → Ordering
id_order a b = ordering_then (nat_cmp a.index b.index) (nat_cmp a.generation b.generation)

-- the table with the first replica of a master of whom it has nothing, where there is one
abbrev pub put_first : List (ServerId × Held) → ServerId → ℕ → Option Replica → List (ServerId × Held)
put_first table master seg None = table
put_first table master seg (Some replica) =
    insert_entry id_order table master (with_replica nothing_held seg (Some replica))
