-- Tokens: that of a seat, as clauses see it, and the keeper's of a new ledger.
use Rattle.std.specs.Prelude.{◌≡◌, [], Option, Some, None}
use Rattle.atomic_table.specs.Seated.{TableId}
use Rattle.rc_types.specs.declared.events.Setup.{Setup}
use Rattle.rc_wire.specs.declared.ledger.Ledger.{Ledger}
use Rattle.rc_wire.specs.declared.view.Place.{Place}
use Rattle.rc_wire.specs.Views.{at_desk, at_place, new_desk, new_place}
use Rattle.rc_wire.specs.Passes.{Pass, view, IsPassOf}

abbrev pub place_if : Option Place → Place
place_if None = new_place 0
place_if (Some place) = place

-- the node that the token sits for, what it has seen, and the node's events in it
abbrev pub place_in : Pass → Place
place_in pass = place_if (view pass).place

-- it sits for a node, in this table, and holds nothing of it
pub record SitsIn (table : TableId) (pass : Pass) : Type 0 where
  pub same : pass.table_id ≡ table
  pub empty : pass.me.1 ≡ []
  pub sits : view pass ≡ at_place (place_in pass)

-- it keeps this ledger, in which nothing has happened
pub record IsNew (ledger : Ledger) (keeper : Pass) (setup : Setup) : Type 0 where
  pub pass : IsPassOf ledger keeper
  pub desk : view keeper ≡ at_desk (new_desk setup)
