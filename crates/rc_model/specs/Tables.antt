-- Tables are functions, and `put` changes one at one key.
use Rattle.std.specs.Prelude.{ℕ, nat_eq, if◌then◌else◌}
use Rattle.rc_types.specs.declared.ids.ServerId.{ServerId}
use Rattle.rc_model.specs.Ids.{same_id}

-- the table with this value at this number
abbrev pub put : {V : Type 0} → (ℕ → V) → ℕ → V → ℕ → V
put table key value other = if nat_eq key other then value else table other

-- the table with this value at this id
abbrev pub put_id : {V : Type 0} → (ServerId → V) → ServerId → V → ServerId → V
put_id table key value other = if same_id key other then value else table other
