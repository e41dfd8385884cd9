-- The places of the parts that may be unfinished.
use Rattle.std.specs.Prelude.{◌≡◌, ◌⊎◌, ℕ, ◌+◌, Bool, true, false, not, nat_eq, ◌&&◌, if◌then◌else◌, List, [], ◌∷◌}
use Rattle.std.specs.Prelude.{length, slice_get, Option, Some, None}
use Rattle.std.specs.Option.{option_map_or}
use Rattle.rc_types.specs.declared.ids.ServerId.{ServerId}
use Rattle.rc_types.specs.declared.entries.Entry.{Entry}
use Rattle.rc_types.specs.declared.kept.GrantedRange.{GrantedRange}
use Rattle.rc_model.specs.Ownership.{Ownership, PartState, awaits_data, is_complete, is_to_answer, owns_term}
use Rattle.rc_ownership.specs.Grants.{owner_of}

-- parts stand from a place on: these are places of them, in order, and of each part that is at none of them this holds
abbrev pub HoldOthers : (PartState → Type 0) → ℕ → List ℕ → List PartState → Type 0
HoldOthers P at places [] = places ≡ []
HoldOthers P at places (state ∷ states) =
    (P state × HoldOthers P (at + 1) places states) ⊎
    ((rest : List ℕ) × (places ≡ at ∷ rest) × HoldOthers P (at + 1) rest states)

-- a part is finished: it waits for no row, its end was told, and its term is granted
abbrev pub is_finished : List GrantedRange → PartState → Bool
is_finished grants state =
    nat_eq (length state.rows) 0 && (state.answered && owns_term (owner_of grants) state.part.term)

-- each part that is at none of these places is finished
abbrev pub HoldUnfinished : List GrantedRange → List ℕ → List PartState → Type 0
HoldUnfinished grants places parts = HoldOthers (λ state. is_finished grants state ≡ true) 0 places parts

-- of each part that is at none of these places the end was told
abbrev pub HoldUntold : List ℕ → List PartState → Type 0
HoldUntold places parts = HoldOthers (λ state. state.answered ≡ true) 0 places parts

-- what whoever owns it has done with a part: its end was told, its term is granted, and no row is awaited under it
pub record IsDone (own : Ownership) (state : PartState) : Type 0 where
  pub told : state.answered ≡ true
  pub granted : owns_term own state.part.term ≡ true
  pub awaits_none : (seg : ℕ) (from : ServerId) → awaits_data state.part.term seg from own ≡ false

-- the part at a place of a table is there and isn't finished
abbrev pub is_unfinished : List GrantedRange → List (ℕ × PartState) → ℕ → Bool
is_unfinished grants entries place =
    option_map_or (λ entry. not (is_finished grants entry.1)) (slice_get entries place) false

-- it is there, and its end wasn't told
abbrev pub is_untold : List (ℕ × PartState) → ℕ → Bool
is_untold entries place = option_map_or (λ entry. not entry.1.answered) (slice_get entries place) false

-- it is there and complete, and its end wasn't told
abbrev pub is_due : List Entry → List (ℕ × PartState) → ℕ → Bool
is_due durable entries place = option_map_or (λ entry. is_to_answer durable entry.1) (slice_get entries place) false

-- a part that is complete and isn't granted yet
abbrev pub is_awaiting : List Entry → List GrantedRange → PartState → Bool
is_awaiting durable grants state = is_complete durable state && not (owns_term (owner_of grants) state.part.term)

-- the term of the part at a place of a table, if it is one
abbrev pub awaiting_at : List Entry → List GrantedRange → List (ℕ × PartState) → ℕ → Option ℕ
awaiting_at durable grants entries place =
    option_map_or (λ entry. if is_awaiting durable grants entry.1 then Some entry.1.part.term else None)
    (slice_get entries place) None
