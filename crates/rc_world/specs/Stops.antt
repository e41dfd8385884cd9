-- A power failure: the servers of hosts stop, one after another.
use Rattle.std.specs.Prelude.{◌≡◌, ℕ, zero, suc, ◌<◌, Bool, true, if◌then◌else◌, List, [], ◌∷◌, ◌++◌, None}
use Rattle.rc_types.specs.declared.ids.ServerId.{ServerId}
use Rattle.rc_types.specs.declared.ids.Addr.TheVariants.{Server}
use Rattle.rc_types.specs.declared.events.Event.{Event}
use Rattle.rc_types.specs.declared.events.Event.TheVariants.{Stop}
use Rattle.rc_model.specs.Nodes.{HostNode, runs, is_running_at}
use Rattle.rc_history.specs.Remade.{stopped}
use Rattle.rc_world.specs.HostView.{HostData}

-- the newest server of the host
abbrev pub newest_at : (ℕ → HostNode) → ℕ → ServerId
newest_at hosts host = record { index = host; generation = (hosts host).generation }

-- it runs
abbrev pub runs_at : (ℕ → HostNode) → ℕ → Bool
runs_at hosts host = is_running_at (hosts host) (Server (newest_at hosts host))

-- it stops, where it runs
abbrev pub stop_at : (ℕ → HostNode) → ℕ → List Event
stop_at hosts host = if runs_at hosts host then Stop (newest_at hosts host) ∷ [] else []

-- and so does that of each host below this one
unfoldable pub stops_below : (ℕ → HostNode) → ℕ → List Event
stops_below hosts zero = []
stops_below hosts (suc host) = stops_below hosts host ++ stop_at hosts host

-- all hosts without their masters
abbrev pub all_stopped : (ℕ → HostNode) → ℕ → HostNode
all_stopped hosts host = stopped (hosts host)

-- the same of what contracts see of one
abbrev pub halted : HostData → HostData
halted host = record host { master = None }

abbrev pub halted_entry : ℕ × HostData → ℕ × HostData
halted_entry e = (e.0, halted e.1)

-- where a server runs on the host of this index, that is below this one, and it is the newest of that index
abbrev pub IsBelow : ℕ → ℕ → HostNode → Type 0
IsBelow hosts index host = runs host ≡ true →
    (index < hosts) × (is_running_at host (Server (record { index = index; generation = host.generation })) ≡ true)
