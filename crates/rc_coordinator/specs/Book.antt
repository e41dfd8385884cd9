-- What a contract sees of a coordinator: its tables as the lists of their entries, since a function cannot be the
-- value of a type.
use Rattle.std.specs.Prelude.{ℕ, ◌^◌, ◌<◌, List, length, unwrap_or}
use Rattle.std.specs.List.{list_any, IsDistinct}
use Rattle.std.specs.Map.{keys_of, lookup}
use Rattle.rc_types.specs.declared.ids.ServerId.{ServerId}
use Rattle.rc_types.specs.declared.ids.Pair.{Pair}
use Rattle.rc_types.specs.declared.rows.Tablet.{Tablet}
use Rattle.rc_types.specs.declared.kept.Grant.{Grant}
use Rattle.rc_model.specs.Ids.{same_id}
use Rattle.rc_model.specs.ServerList.{ServerList}
use Rattle.rc_model.specs.Attempts.{Attempt}
use Rattle.rc_model.specs.Coordinator.{Coordinator}
use Rattle.rc_rangetree.specs.Ranges.{AreTablets}

pub record Book : Type 0 where
  pub servers : ServerList
  pub ready : List ServerId
  pub tablets : List Tablet
  pub least : List (ServerId × Pair)
  pub attempts : List Attempt
  pub current : List (ServerId × ℕ)
  pub grants : List Grant
  pub last_term : ℕ

-- as the definitions see it: who isn't in a table isn't ready, has the least of all pairs, and has no attempt
abbrev pub coordinator_of : Book → Coordinator
coordinator_of book = record {
  servers = book.servers;
  ready = λ id. list_any (same_id id) book.ready;
  tablets = book.tablets;
  least = λ master. unwrap_or (lookup (same_id master) book.least) (record { seg = 0; epoch = 0 });
  attempts = book.attempts;
  current = λ master. unwrap_or (lookup (same_id master) book.current) 0;
  grants = book.grants;
  last_term = book.last_term;
}

-- what every coordinator's book is like, and each book that is like this is a coordinator's: no id stands twice in a
-- table, the tablets are those of a tree, and the numbers of attempts have four bytes
pub record IsBook (book : Book) : Type 0 where
  pub servers : IsDistinct same_id (keys_of book.servers.rows)
  pub ready : IsDistinct same_id book.ready
  pub tablets : AreTablets book.tablets
  pub least : IsDistinct same_id (keys_of book.least)
  pub attempts : length book.attempts < 2 ^ 32
  pub current : IsDistinct same_id (keys_of book.current)
