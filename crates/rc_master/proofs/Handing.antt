-- What the replay hands out is noted next.
use Rattle.std.proofs.Common.{◌≡◌, ℕ, true, Bool, nat_eq, List, [], ◌∷◌, Option, Some, None, slice_get, refl, arith}
use Rattle.std.proofs.lemmas.Bool.Decides.{nat_tests}
use Rattle.rc_model.specs.Model.{Entry, Log, PartState, Task}
use Rattle.rc_ownership.specs.Owner.{was_handed, handed_of}
use Rattle.rc_master.specs.Notes.{AreNotes}

-- the notes, but for what was handed out
pub notes-handed : {log : Log} {notes : List Entry} {replayed : List Bool} {handed : Option ℕ} {durable : ℕ}
    {parts : List PartState} {tasks : List Task} →
    AreNotes log notes replayed handed durable parts tasks → AreNotes log notes replayed None durable parts tasks
notes-handed held = record {
  entries = held.entries;
  replays = held.replays;
  none_handed = refl;
  durable_are = held.durable_are;
  opened = held.opened;
  replicas = held.replicas;
  tasks_are = held.tasks_are;
}

-- the first entry that waits is the one that is handed out
pub handed-first : (replay : List Entry) (handed : Option ℕ) (entry : Entry) → Some entry ≡ slice_get replay 0 →
    was_handed (handed_of replay handed) entry.term ≡ true
handed-first [] handed entry is = absurd cc
handed-first (first ∷ rest) handed entry is = same entry.term first.term it
  where
    it : entry.term ≡ first.term
    it = cc

    same : (one other : ℕ) → one ≡ other → nat_eq one other ≡ true
    same one other e = grind (arith, nat_tests)
