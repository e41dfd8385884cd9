-- Parts by their terms.
use Rattle.std.specs.Prelude.{ℕ, nat_lt, nat_eq, Bool, true, ◌&&◌, if◌then◌else◌, List, [], ◌∷◌, Option, Some, None}
use Rattle.rc_types.specs.declared.ids.ServerId.{ServerId}
use Rattle.rc_types.specs.declared.rows.Part.{Part}
use Rattle.rc_model.specs.Ids.{same_id}
use Rattle.rc_model.specs.Attempts.{GivenPart}

-- each part has a greater term than the one before it
abbrev pub terms_rise : List GivenPart → Bool
terms_rise [] = true
terms_rise (one ∷ []) = true
terms_rise (one ∷ next ∷ others) = nat_lt one.part.term next.part.term && terms_rise (next ∷ others)

-- the part, if it was given to this id under this term
abbrev pub part_if : ServerId → ℕ → Option GivenPart → Option Part
part_if id term None = None
part_if id term (Some given) = if same_id id given.to && nat_eq given.part.term term then Some given.part else None
