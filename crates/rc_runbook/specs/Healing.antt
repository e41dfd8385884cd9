-- What is claimed of a world that was healed.
use Rattle.std.specs.Prelude.{ℕ, Bool, false, nat_eq, ◌&&◌, List, Option, Some, slice_get, not}
use Rattle.std.specs.List.{list_all, list_any}
use Rattle.rc_types.specs.declared.ids.Addr.{Addr}
use Rattle.rc_types.specs.declared.ids.ServerId.{ServerId}
use Rattle.rc_types.specs.declared.messages.Message.{Message}
use Rattle.rc_types.specs.declared.messages.Body.{Body}
use Rattle.rc_types.specs.declared.messages.Body.TheVariants.{WriteOk, ReadOk}
use Rattle.rc_types.specs.declared.events.Event.{Event}
use Rattle.rc_types.specs.declared.events.Event.TheVariants.{Start}
use Rattle.rc_model.specs.Ids.{is_server}
use Rattle.rc_model.specs.Backup.{is_kept}
use Rattle.rc_runbook.specs.declared.deeds.Served.{Served}
use Rattle.rc_runbook.specs.declared.deeds.Gone.{Gone}
use Rattle.rc_runbook.specs.declared.deeds.Dropped.{Dropped}

-- it is the first key of the tablet, and its version
abbrev pub is_first : Served → ℕ → ℕ → ℕ → Bool
is_first served table key version =
    nat_eq table served.tablet.range.table && (nat_eq key served.tablet.range.lo && nat_eq version served.version)

abbrev pub acknowledges_in : Served → Addr → Body → Bool
acknowledges_in served from (WriteOk seg offset term table key version) =
    is_server served.tablet.owner from && is_first served table key version
acknowledges_in served from _ = false

-- the tablet's owner acknowledges a write of its first key with the version
abbrev pub acknowledges : Served → Message → Bool
acknowledges served message = acknowledges_in served message.from message.body

abbrev pub shows_in : Served → Addr → Body → Bool
shows_in served from (ReadOk table key version value) =
    is_server served.tablet.owner from && is_first served table key version
shows_in served from _ = false

-- a read at the tablet's owner shows that version
abbrev pub shows : Served → Message → Bool
shows served message = shows_in served message.from message.body

-- one of these messages acknowledges it
abbrev pub is_acknowledged : List Message → Served → Bool
is_acknowledged messages served = list_any (acknowledges served) messages

-- one of them shows it
abbrev pub is_read : List Message → Served → Bool
is_read messages served = list_any (shows served) messages

-- both
abbrev pub is_shown : List Message → Served → Bool
is_shown messages served = is_acknowledged messages served && is_read messages served

-- so is each of these
abbrev pub are_shown : List Message → List Served → Bool
are_shown messages served = list_all (is_shown messages) served

abbrev pub is_named : List (ServerId × ℕ) → ServerId → ℕ → Bool
is_named = is_kept

abbrev pub is_drop_in : ServerId → ℕ → ℕ → Option Event → Bool
is_drop_in master seg host (Some (Start index kept)) = nat_eq index host && not (is_named kept master seg)
is_drop_in master seg host _ = false

-- the event is a start of the member's host that does not name the segment
abbrev pub is_drop : List Event → ServerId → ℕ → Dropped → Bool
is_drop events master seg dropped = is_drop_in master seg dropped.member.index (slice_get events dropped.start)

-- so is each that is named
abbrev pub are_drops : List Event → Gone → Bool
are_drops events gone = list_all (is_drop events gone.master gone.seg) gone.drops.items

abbrev pub are_all_drops : List Event → List Gone → Bool
are_all_drops events gone = list_all (are_drops events) gone
