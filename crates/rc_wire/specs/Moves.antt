-- What the steps on a ledger tell.
use Rattle.std.specs.Prelude.{◌≡◌, ℕ, ◌<◌, true}
use mathlib.Core.Option.{some}
use Rattle.atomic_table.specs.Table.{Me, Step}
use Rattle.rc_types.specs.declared.events.Event.{Event}
use Rattle.rc_model.specs.World.{replay, is_possible, job_of}
use Rattle.rc_history.specs.Events.{is_for}
use Rattle.rc_wire.specs.declared.view.Desk.{Desk}
use Rattle.rc_wire.specs.declared.view.Place.{Place}
use Rattle.rc_wire.specs.declared.view.View.{View}
use Rattle.rc_wire.specs.Views.{hosting, looked, with_event, with_own, name_at}
use Rattle.rc_wire.specs.Law.{Knows}

-- a look: the guest has seen the whole history, and is told that it begins with what the guest has seen before
pub record Looks (desk : Desk) (place : Place) (after : View) : Type 0 where
  pub view : after ≡ hosting desk (looked desk place)
  pub seated : place.node < desk.next
  pub knows : Knows desk.setup desk.history place

abbrev pub tells_look : Step Event → Me Event View → ℕ → Me Event View → Type 0
tells_look step before found after =
    (after.1 ≡ before.1) × ((desk : Desk) (place : Place) → before.0 ≡ hosting desk place → Looks desk place after.0)

-- the event can be added: it is possible, and the guest's own
pub record CanAdd (desk : Desk) (place : Place) (event : Event) : Type 0 where
  pub possible : is_possible (replay desk.setup desk.history) event ≡ true
  pub own : is_for (name_at place.node) (job_of (replay desk.setup desk.history).sent event) ≡ true

-- the event that the step names is added
abbrev pub tells_add : Step Event → Me Event View → ℕ → Me Event View → Type 0
tells_add step before found after =
    (after.1 ≡ before.1)
    × ((desk : Desk) (place : Place) (event : Event) → before.0 ≡ hosting desk place → step.said ≡ some event →
    after.0 ≡ hosting (with_event desk event) (with_own desk place event))
