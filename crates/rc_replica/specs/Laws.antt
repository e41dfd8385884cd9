-- What holds of a replica whatever it is told: laws of the definitions.
use Rattle.std.specs.Prelude.{◌≡◌, ℕ, Bool, true, false, List, ◌++◌, length}
use Rattle.rc_types.specs.declared.entries.Entry.{Entry}
use Rattle.rc_model.specs.Replica.{Replica, placed, appended, closed_at}

-- the new entries begin with the old ones
abbrev pub IsBeginning : List Entry → List Entry → Type 0
IsBeginning old new = (rest : List Entry) × (old ++ rest ≡ new)

-- no Place takes an entry away or changes one
abbrev pub PlacedOnlyGrows : Type 0
PlacedOnlyGrows = (replica : Replica) (epoch : ℕ) (sent : List Entry) (closed : Bool) →
    IsBeginning replica.entries (placed replica epoch sent closed).entries

-- nor does an Append
abbrev pub AppendedOnlyGrows : Type 0
AppendedOnlyGrows = (replica : Replica) (offset : ℕ) (sent : List Entry) →
    IsBeginning replica.entries (appended replica offset sent).entries

-- a Close leaves the entries
abbrev pub ClosedAtKeepsEntries : Type 0
ClosedAtKeepsEntries = (replica : Replica) (len : ℕ) → (closed_at replica len).entries ≡ replica.entries

-- a Place gives a closed replica no entry, and it stays closed
abbrev pub PlacedLeavesClosed : Type 0
PlacedLeavesClosed = (replica : Replica) (epoch : ℕ) (sent : List Entry) (closed : Bool) → replica.closed ≡ true →
    ((placed replica epoch sent closed).entries ≡ replica.entries) × ((placed replica epoch sent closed).closed ≡ true)

-- an Append changes nothing of a closed replica
abbrev pub AppendedLeavesClosed : Type 0
AppendedLeavesClosed = (replica : Replica) (offset : ℕ) (sent : List Entry) → replica.closed ≡ true →
    appended replica offset sent ≡ replica

-- nor does a Close
abbrev pub ClosedAtLeavesClosed : Type 0
ClosedAtLeavesClosed = (replica : Replica) (len : ℕ) → replica.closed ≡ true → closed_at replica len ≡ replica

-- where a Place closes a replica, it was sent as closed, and the replica has as many entries as were sent
abbrev pub PlacedClosesAtLength : Type 0
PlacedClosesAtLength = (replica : Replica) (epoch : ℕ) (sent : List Entry) (closed : Bool) → replica.closed ≡ false →
    (placed replica epoch sent closed).closed ≡ true →
    (closed ≡ true) × (length (placed replica epoch sent closed).entries ≡ length sent)

-- an Append closes nothing
abbrev pub AppendedClosesNothing : Type 0
AppendedClosesNothing = (replica : Replica) (offset : ℕ) (sent : List Entry) →
    (appended replica offset sent).closed ≡ replica.closed

-- a Close closes an open replica exactly where it has the stated number of entries
abbrev pub ClosedAtClosesAtLength : Type 0
ClosedAtClosesAtLength = (replica : Replica) (len : ℕ) → replica.closed ≡ false →
    (((closed_at replica len).closed ≡ true → length replica.entries ≡ len) × (length replica.entries ≡ len →
    (closed_at replica len).closed ≡ true))
