-- Reading of what nodes are saved as.
use Rattle.std.specs.Prelude.{ℕ, Bool, nat_eq, if◌then◌else◌, List, [], ◌∷◌, Option, None}
use Rattle.rc_types.specs.declared.ids.ServerId.{ServerId}
use Rattle.rc_types.specs.declared.ids.Pair.{Pair}
use Rattle.rc_types.specs.declared.kept.Grant.{Grant}
use Rattle.rc_types.specs.declared.rows.Row.{Row}
use Rattle.rc_types.specs.declared.rows.Tablet.{Tablet}
use Rattle.rc_model.specs.Attempts.{GivenPart, Decision, Attempt}
use Rattle.rc_model.specs.Replica.{Replica}
use Rattle.rc_model.specs.Backup.{Held}
use Rattle.rc_codec.specs.Reading.{◌>>=◌, Reader, made, ◌⊗◌, three, four, five, flag_at, optional_at, listed_at}
use Rattle.rc_codec.specs.Fields.{u8_at, u16_at, u32_at, id_at, entry_at, row_at, plan_row_at, part_at, pair_at}
use Rattle.rc_codec.specs.Fields.{tablet_at, grant_at, up_at, setup_at, versioned_at}
use Rattle.rc_coordinator.specs.Book.{Book}
use Rattle.rc_world.specs.declared.head.HostHead.{HostHead}
use Rattle.rc_world.specs.HostParts.{HostParts}
use Rattle.rc_keeping.specs.Readers.{alone}
use Rattle.rc_keeping.specs.Saved.{Saved, HostSave, CoordinatorSave}

abbrev pub replica_at : Reader (ℕ × Replica)
replica_at = made (five u16_at u16_at flag_at (listed_at u16_at) (listed_at entry_at))
    (λ p. (p.0, record { epoch = p.1; closed = p.2; digest = p.3; entries = p.4 }))

abbrev pub held_at : Reader (ServerId × Held)
held_at = made (four id_at flag_at (listed_at replica_at) (listed_at u16_at))
    (λ p. (p.0, record { fenced = p.1; replicas = p.2; freed = p.3 }))

abbrev pub head_at : Reader HostHead
head_at = made (four u8_at setup_at u32_at flag_at)
    (λ p. record { index = p.0; setup = p.1; generation = p.2; runs = p.3 })

-- what stands behind the version and the kind
abbrev pub host_at : Reader HostParts
host_at = made (three head_at id_at (listed_at held_at))
    (λ p. record { head = p.0; backup = record { own = p.1; table = p.2 } })

abbrev pub reply_at : Reader (ServerId × List Row)
reply_at = id_at ⊗ listed_at row_at

abbrev pub given_at : Reader GivenPart
given_at = made (id_at ⊗ part_at) (λ p. record { to = p.0; part = p.1 })

abbrev pub decision_at : Reader Decision
decision_at = made (three u16_at (listed_at plan_row_at) (listed_at given_at))
    (λ p. record { plan = record { head = p.0; rows = p.1 }; parts = p.2 })

abbrev pub attempt_at : Reader Attempt
attempt_at = made (three id_at (listed_at reply_at) (optional_at decision_at))
    (λ p. record { master = p.0; replies = p.1; decided = p.2 })

abbrev pub known_at : Reader (ℕ × List (ServerId × Bool) × List ServerId × List Tablet × List (ServerId × Pair))
known_at = five u32_at (listed_at up_at) (listed_at id_at) (listed_at tablet_at) (listed_at (id_at ⊗ pair_at))

abbrev pub begun_at : Reader (List Attempt × List (ServerId × ℕ) × List Grant × ℕ)
begun_at = four (listed_at attempt_at) (listed_at (id_at ⊗ u32_at)) (listed_at grant_at) u32_at

abbrev pub book_at : Reader Book
book_at = made (known_at ⊗ begun_at) (λ p. record {
  servers = record { version = p.0.0; rows = p.0.1 };
  ready = p.0.2;
  tablets = p.0.3;
  least = p.0.4;
  attempts = p.1.0;
  current = p.1.1;
  grants = p.1.2;
  last_term = p.1.3;
})

-- by the kind
abbrev pub kind_at : Reader Saved
kind_at [] = None
kind_at (kind ∷ rest) =
    if nat_eq kind 9 then made host_at HostSave rest
    else (if nat_eq kind 10 then made book_at CoordinatorSave rest else None)

abbrev pub coded_at : Reader Saved
coded_at = versioned_at kind_at

-- what these bytes are and no more
unfoldable pub alone_at : List ℕ → Option Saved
alone_at code = coded_at code >>= alone
