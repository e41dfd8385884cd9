-- What a master has sent for the places of its log, by its messages alone. A place is a segment and an offset in it.
use Rattle.std.specs.Prelude.{ℕ, ◌-◌, not, nat_eq, nat_le, ◌&&◌, if◌then◌else◌, List, [], ◌∷◌, ◌++◌, Option}
use Rattle.std.specs.Prelude.{None, slice_get}
use Rattle.std.specs.Option.{option_to_list}
use Rattle.rc_types.specs.declared.ids.ServerId.{ServerId}
use Rattle.rc_types.specs.declared.ids.Addr.{Addr}
use Rattle.rc_types.specs.declared.ids.Addr.TheVariants.{Server}
use Rattle.rc_types.specs.declared.entries.Entry.{Entry}
use Rattle.rc_types.specs.declared.messages.Message.{Message}
use Rattle.rc_types.specs.declared.messages.Body.{Body}
use Rattle.rc_types.specs.declared.messages.Body.TheVariants.{Place, Append}
use Rattle.rc_model.specs.Ids.{is_server}

-- the entry that a Place or an Append holds at a place
abbrev pub entry_at : Body → ℕ → ℕ → Option Entry
entry_at (Place seg epoch digest entries closed) s o = if nat_eq seg s then slice_get entries o else None
entry_at (Append seg offset entries) s o =
    if nat_eq seg s && nat_le offset o then slice_get entries (o - offset) else None
entry_at _ s o = None

-- the entries that a master has sent for a place, one for each message that holds it
abbrev pub made : List Message → ServerId → ℕ → ℕ → List Entry
made [] m s o = []
made (message ∷ sent) m s o =
    if is_server m message.from then option_to_list (entry_at message.body s o) ++ made sent m s o else made sent m s o

-- to whom a proper Place, one that doesn't close, of a segment under an epoch goes
abbrev pub placed_to : Addr → Body → ℕ → ℕ → List ServerId
placed_to (Server id) (Place seg epoch digest entries closed) s e =
    if nat_eq seg s && (nat_eq epoch e && not closed) then id ∷ [] else []
placed_to _ _ s e = []

-- the members of a segment under an epoch: to whom its master has sent a proper Place of it
abbrev pub members_of : List Message → ServerId → ℕ → ℕ → List ServerId
members_of [] m s e = []
members_of (message ∷ sent) m s e =
    if is_server m message.from then placed_to message.to message.body s e ++ members_of sent m s e
    else members_of sent m s e
