-- When no plan is pickable.
use Rattle.std.specs.Prelude.{◌≡◌, ◌≢◌, ℕ, ◌<◌, false, List, All, Contains, Some, IsSome}
use Rattle.rc_types.specs.declared.ids.ServerId.{ServerId}
use Rattle.rc_types.specs.declared.ids.Pair.{Pair}
use Rattle.rc_types.specs.declared.rows.Row.{Row}
use Rattle.rc_model.specs.Pick.{HeldRow, held_rows, is_open_valid, is_valid_of, head_row, taken_row}

-- no row is open and valid
abbrev pub HasNoHead : Pair → List (ServerId × List Row) → Type 0
HasNoHead min replies = All (λ held. is_open_valid min held ≡ false) (held_rows replies)

-- a head row exists, and this is the least segment of its digest that has no valid row
pub record IsLeastMissing (min : Pair) (replies : List (ServerId × List Row)) (seg : ℕ) : Type 0 where
  pub head : HeldRow
  pub head_is : head_row min replies ≡ Some head
  -- it is a segment of the digest, and not the head's own
  pub listed : Contains head.row.digest seg
  pub other : seg ≢ head.row.seg
  -- none of its rows is valid
  pub none : All (λ held. is_valid_of min seg held ≡ false) (held_rows replies)
  -- and of each lower segment of the digest a row is taken
  pub below : (lower : ℕ) → lower < seg → Contains head.row.digest lower → IsSome (taken_row min replies head lower)
