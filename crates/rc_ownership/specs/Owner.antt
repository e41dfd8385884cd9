-- An owner: what it owns and replays, and the notes of its log.
use Rattle.std.specs.Prelude.{ℕ, Bool, false, nat_eq, List, [], ◌∷◌, ◌++◌, take, Option, Some, None}
use Rattle.std.specs.Option.{option_map_or}
use Rattle.rc_types.specs.declared.entries.Entry.{Entry}
use Rattle.rc_model.specs.Ownership.{Ownership, owns_nothing, after_replay}
use Rattle.rc_ownership.specs.Marks.{marked}

-- what an owner owns and notes at one moment
pub record Kept : Type 0 where
  pub own : Ownership
  pub handed : Option ℕ
  pub noted : List Entry
  pub replayed : List Bool
  pub durable : ℕ

pub record Owner : Type 0 where
  pub own : Ownership
  -- the term of the entry that the replay handed out last, until an entry is noted
  pub handed : Option ℕ
  -- the entries of the log that were noted, of each whether the replay had handed it out, and how many of them, from
  -- the first on, are durable
  pub noted : List Entry
  pub replayed : List Bool
  pub durable : ℕ
  -- what `restore` goes back to
  pub before : Kept

-- who owns and notes nothing
abbrev pub kept_nothing : Kept
kept_nothing = record { own = owns_nothing; handed = None; noted = []; replayed = []; durable = 0 }

-- what an owner owns and notes now
abbrev pub kept_now : Owner → Kept
kept_now owner = record {
  own = owner.own;
  handed = owner.handed;
  noted = owner.noted;
  replayed = owner.replayed;
  durable = owner.durable;
}

-- the entries that are durable
abbrev pub durable_of : Owner → List Entry
durable_of owner = take owner.durable owner.noted

-- those of them that the replay had handed out: the parts' own
abbrev pub replayed_of : Owner → List Entry
replayed_of owner = marked (take owner.durable owner.replayed) (take owner.durable owner.noted)

-- the entry that was handed out last is of this term, and none was noted since
abbrev pub was_handed : Option ℕ → ℕ → Bool
was_handed handed term = option_map_or (nat_eq term) handed false

-- an entry is noted: it is what the replay handed out, if that was the last thing that was done and is of its term
abbrev pub after_note : Entry → Owner → Owner
after_note entry owner = record owner {
  noted = owner.noted ++ entry ∷ [];
  replayed = owner.replayed ++ was_handed owner.handed entry.term ∷ [];
  handed = None;
}

-- the term of the first of these entries, or else the one that was handed out before
abbrev pub handed_of : List Entry → Option ℕ → Option ℕ
handed_of [] handed = handed
handed_of (entry ∷ entries) handed = Some entry.term

-- the first entry that waits is handed out
abbrev pub after_handing : Owner → Owner
after_handing owner = record owner { own = after_replay owner.own; handed = handed_of owner.own.replay owner.handed }
