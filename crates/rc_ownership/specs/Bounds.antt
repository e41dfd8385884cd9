-- Points of all tables in one order, and the terms that are granted there: each bound in the table says what
-- holds from its point on, up to the next bound.
use Rattle.std.specs.Prelude.{◌≡◌, ℕ, ◌+◌, ◌*◌, ◌/◌, ◌%◌, ◌^◌, ◌<◌, ◌≤◌, ◌⊎◌, Bool, nat_le, nat_lt, ◌&&◌, List}
use Rattle.std.specs.Prelude.{Option, Some, None}
use Rattle.rc_types.specs.declared.kept.GrantedRange.{GrantedRange}
use Rattle.rc_model.specs.Ownership.{term_of}
use Rattle.rc_ownership.specs.Grants.{owner_of}

-- how many keys a table has
abbrev pub key_count : ℕ
key_count = 2 ^ 64

-- the number of a point among those of all tables
abbrev pub point_of : ℕ → ℕ → ℕ
point_of table key = table * key_count + key

-- bounds as a function: at a point no bound, or one with what it says
abbrev pub Bounds : Type 0
Bounds = ℕ → Option (Option ℕ)

-- no bound stands above one point and up to another
abbrev pub NoneBetween : Bounds → ℕ → ℕ → Type 0
NoneBetween bounds low high = (at : ℕ) → low < at → at ≤ high → bounds at ≡ None

-- no bound stands up to a point
abbrev pub NoneUpTo : Bounds → ℕ → Type 0
NoneUpTo bounds high = (at : ℕ) → at ≤ high → bounds at ≡ None

-- the last bound up to a point says this; or there is none, and this is no term
abbrev pub IsSaid : Bounds → ℕ → Option ℕ → Type 0
IsSaid bounds point term =
    ((bound : ℕ) × (bound ≤ point) × (bounds bound ≡ Some term) × NoneBetween bounds bound point) ⊎
    (NoneUpTo bounds point × (term ≡ None))

-- at each point the bounds say what the terms are
abbrev pub Say : Bounds → (ℕ → Option ℕ) → Type 0
Say bounds terms = (point : ℕ) (term : Option ℕ) → IsSaid bounds point term → term ≡ terms point

-- the terms that are granted, by the number of a point
abbrev pub terms_of : List GrantedRange → ℕ → Option ℕ
terms_of grants point = term_of (owner_of grants) (point / key_count) (point % key_count)

-- a term where there is none yet
abbrev pub or_term : ℕ → Option ℕ → Option ℕ
or_term term None = Some term
or_term term (Some held) = Some held

-- the point is at or above the first and below the end
abbrev pub is_within : ℕ → ℕ → ℕ → Bool
is_within first end point = nat_le first point && nat_lt point end
