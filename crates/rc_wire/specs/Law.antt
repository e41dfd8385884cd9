-- The rule of the ledger: there is one history, of which every token knows only what is true.
use Rattle.std.specs.Prelude.{◌≡◌, ℕ, ◌<◌, ◌≤◌, List, [], Some}
use mathlib.Core.Option.{some}
use lib.ListN.{get_elem?}
use Rattle.rc_types.specs.declared.events.Setup.{Setup}
use Rattle.rc_types.specs.declared.events.Event.{Event}
use Rattle.rc_history.specs.Events.{events_of, StartsWith}
use Rattle.rc_wire.specs.declared.view.Desk.{Desk}
use Rattle.rc_wire.specs.declared.view.Place.{Place}
use Rattle.rc_wire.specs.declared.view.View.{View}
use Rattle.rc_wire.specs.Views.{name_at}

-- a seat has seen a beginning of the history, and its node's events in the whole of it are those that it made
pub record Knows (setup : Setup) (log : List Event) (place : Place) : Type 0 where
  pub seen : StartsWith log place.seen
  pub mine : events_of setup (name_at place.node) log ≡ place.mine

-- what the token of this number knows: one keeps the history, at most, and one sits for each node
pub record Fits (setup : Setup) (log : List Event) (next keeper : ℕ) (seat : ℕ → ℕ) (by : ℕ) (v : View) : Type 0 where
  pub keeps : (desk : Desk) → v.desk ≡ Some desk →
      (by ≡ keeper) × (desk ≡ record { setup = setup; history = log; next = next })
  pub sits : (place : Place) → v.place ≡ Some place →
      (by ≡ seat place.node) × (place.node < next) × Knows setup log place

-- the rule, over the views of all tokens: there is a history, a number of seats, and an owner of each part
pub record Kept (setup : Setup) (views : List View) : Type 0 where
  pub log : List Event
  pub next : ℕ
  pub keeper : ℕ
  pub seat : ℕ → ℕ
  -- nodes without a seat have done nothing
  pub unseated : (node : ℕ) → next ≤ node → events_of setup (name_at node) log ≡ []
  pub each : (by : ℕ) (view : View) → get_elem? views by ≡ some view → Fits setup log next keeper seat by view
