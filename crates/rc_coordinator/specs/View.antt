-- How contracts and the definitions see the coordinator's fields.
use Rattle.std.specs.Prelude.{Bool, List}
use Rattle.std.specs.List.{list_any}
use Rattle.rc_types.specs.declared.ids.ServerId.{ServerId}
use Rattle.rc_model.specs.Ids.{same_id}
use Rattle.rc_model.specs.Coordinator.{Coordinator as Node}
use Rattle.rc_attempts.specs.Lookups.{pair_in, number_of}
use Rattle.rc_coordinator.specs.declared.state.State.{State}
use Rattle.rc_coordinator.specs.Book.{Book}

-- whether the id is one of these
abbrev pub is_among : List ServerId → ServerId → Bool
is_among ids id = list_any (same_id id) ids

abbrev pub state_view : {A : _} → State A → Node
state_view c =
    record {
      servers = c.servers;
      ready = is_among c.ready;
      tablets = c.tablets.tablets;
      least = pair_in c.least;
      attempts = c.recoveries.attempts;
      current = number_of c.recoveries.current;
      grants = c.recoveries.grants;
      last_term = c.last_term;
    }

abbrev pub book_of : {A : _} → State A → Book
book_of c =
    record {
      servers = c.servers;
      ready = c.ready;
      tablets = c.tablets.tablets;
      least = c.least.entries;
      attempts = c.recoveries.attempts;
      current = c.recoveries.current;
      grants = c.recoveries.grants;
      last_term = c.last_term;
    }
