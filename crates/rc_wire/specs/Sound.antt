-- What is true of a journal's fields whenever nobody is at it.
use Rattle.std.specs.Prelude.{◌≡◌, ℕ, ◌≤◌, true, List, [], length}
use Rattle.rc_types.specs.declared.events.Setup.{Setup}
use Rattle.rc_types.specs.declared.events.Event.{Event}
use Rattle.rc_types.specs.declared.messages.Message.{Message}
use Rattle.rc_types.specs.declared.limits.TheConstants.{MAX_EVENTS}
use Rattle.rc_model.specs.World.{replay}
use Rattle.rc_history.specs.Events.{is_legal, events_of}
use Rattle.rc_wire.specs.declared.ledger.Ledger.{Ledger}
use Rattle.rc_wire.specs.declared.view.Desk.{Desk}
use Rattle.rc_wire.specs.Views.{name_at, at_desk}
use Rattle.rc_wire.specs.Passes.{Pass, view, IsPassOf}
use Rattle.rc_wire.specs.Names.{WireName}
use Rattle.rc_wire.specs.Index.{IsIndex}

-- what the keeper knows of these events
abbrev pub desk_of : WireName → List Event → Desk
desk_of name events = record { setup = name.setup; history = events; next = name.nodes }

-- what is true of a history of this wire
pub record IsHistory (name : WireName) (events : List Event) : Type 0 where
  pub few : length events ≤ MAX_EVENTS
  pub legal : is_legal name.setup events ≡ true
  -- nodes without a seat have done nothing
  pub others : (number : ℕ) → name.nodes ≤ number → events_of name.setup (name_at number) events ≡ []

-- the keeper's token is one of the wire's own ledger, and knows these events
pub record IsKept (name : WireName) (ledger : Ledger) (keeper : Pass) (events : List Event) : Type 0 where
  pub table : ledger.table.shared.table_id ≡ name.table
  pub pass : IsPassOf ledger keeper
  pub desk : view keeper ≡ at_desk (desk_of name events)

-- the messages are those that the events send, and stand in the index
pub record IsSent (name : WireName) (events : List Event) (messages : List Message) (lists : List (List ℕ)) :
    Type 0 where
  pub sent : messages ≡ (replay name.setup events).sent
  pub index : IsIndex lists messages

pub record Sound (name : WireName) (ledger : Ledger) (keeper : Pass) (setup : Setup) (events : List Event)
    (messages : List Message) (lists : List (List ℕ)) : Type 0 where
  pub opened : setup ≡ name.setup
  pub history : IsHistory name events
  pub kept : IsKept name ledger keeper events
  pub sends : IsSent name events messages lists
