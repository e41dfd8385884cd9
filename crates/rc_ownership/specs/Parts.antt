-- The table of parts as it is kept, and how changes of it are undone.
use Rattle.std.specs.Prelude.{◌≡◌, ℕ, ◌+◌, ◌≤◌, nat_eq, false, not, ◌&&◌, if◌then◌else◌}
use Rattle.std.specs.Prelude.{List, [], ◌∷◌, length, map}
use Rattle.std.specs.Prelude.{filter, take}
use Rattle.rc_types.specs.declared.entries.Entry.{Entry}
use Rattle.rc_types.specs.declared.kept.GrantedRange.{GrantedRange}
use Rattle.rc_model.specs.Ownership.{Ownership, PartState, is_complete, owns_term}
use Rattle.rc_ownership.specs.declared.part.Before.{Before}
use Rattle.rc_ownership.specs.declared.part.Before.TheVariants.{Awaited, Whole, Unanswered}
use Rattle.rc_ownership.specs.Rows.{awaited_again}
use Rattle.rc_ownership.specs.Unfinished.{HoldUnfinished, HoldUntold}

-- no entry of a table has this key
abbrev pub HasNone : ℕ → List (ℕ × PartState) → Type 0
HasNone key [] = Unit {0}
HasNone key (entry ∷ entries) = (nat_eq key entry.0 ≡ false) × HasNone key entries

-- each part stands in the table under its own term, and no two have one term
abbrev pub AreUnderTheirTerms : List (ℕ × PartState) → Type 0
AreUnderTheirTerms [] = Unit {0}
AreUnderTheirTerms (entry ∷ entries) =
    (entry.0 ≡ entry.1.part.term) × HasNone entry.0 entries × AreUnderTheirTerms entries

-- the parts of a table's entries
abbrev pub parts_in : List (ℕ × PartState) → List PartState
parts_in entries = map (λ entry. entry.1) entries

-- what a part was before a change
abbrev pub part_before : Before → PartState → PartState
part_before (Awaited place) state = record state { rows = awaited_again place state.rows }
part_before (Whole part) state = part
part_before Unanswered state = record state { answered = false }

-- the part under the term of a change is what it was before
abbrev pub undo_in : ℕ × Before → List (ℕ × PartState) → List (ℕ × PartState)
undo_in change [] = []
undo_in change (entry ∷ entries) =
    if nat_eq change.0 entry.0 then (entry.0, part_before change.1 entry.1) ∷ entries
    else entry ∷ undo_in change entries

-- and so before each of several changes, the last one first
abbrev pub undone : List (ℕ × Before) → List (ℕ × PartState) → List (ℕ × PartState)
undone [] entries = entries
undone (change ∷ changes) entries = undo_in change (undone changes entries)

-- a part that comes back is of this term
abbrev pub IsOfTerm : ℕ → Before → Type 0
IsOfTerm term (Awaited place) = Unit {0}
IsOfTerm term (Whole part) = term ≡ part.part.term
IsOfTerm term Unanswered = Unit {0}

abbrev pub AreOfTheirTerms : List (ℕ × Before) → Type 0
AreOfTheirTerms [] = Unit {0}
AreOfTheirTerms (change ∷ changes) = IsOfTerm change.0 change.1 × AreOfTheirTerms changes

-- what was granted; the parts that were begun, and the entries that wait to be appended; and the latter two as
-- `restore` lets them be again
pub record Fetched : Type 0 where
  pub grants : List GrantedRange
  pub parts : List PartState
  pub replay : List Entry
  pub parts_before : List PartState
  pub replay_before : List Entry

-- who was granted these, and has begun these
abbrev pub who_fetched : Fetched → Ownership
who_fetched fetched = record { grants = fetched.grants; parts = fetched.parts; replay = fetched.replay }

-- a table of parts, their changes, and how many parts there were before; what is granted, and of the parts that may be
-- unfinished the places, and how many of these there were
pub record IsPartTable (entries : List (ℕ × PartState)) (changes : List (ℕ × Before)) (kept : ℕ)
    (grants : List GrantedRange) (places : List ℕ) (kept_places : ℕ) : Type 0 where
  pub under_terms : AreUnderTheirTerms entries
  pub of_terms : AreOfTheirTerms changes
  pub within : kept ≤ length entries
  pub places_now : HoldUnfinished grants places (parts_in entries)
  pub places_before :
      HoldUnfinished grants (take kept_places places) (parts_in (undone changes (take kept entries)))
  pub places_within : kept_places ≤ length places

-- a part whose end wasn't told counts as one
abbrev pub untold : PartState → ℕ
untold state = if state.answered then 0 else 1

-- how many parts there are whose end wasn't told
abbrev pub count_untold : List PartState → ℕ
count_untold [] = 0
count_untold (state ∷ states) = untold state + count_untold states

-- of the parts whose end may be untold the places, and how many of these there were
pub record HasUntold (entries : List (ℕ × PartState)) (changes : List (ℕ × Before)) (kept : ℕ)
    (places : List ℕ) (kept_places : ℕ) : Type 0 where
  pub places_now : HoldUntold places (parts_in entries)
  pub places_before : HoldUntold (take kept_places places) (parts_in (undone changes (take kept entries)))
  pub places_within : kept_places ≤ length places

-- such a table, with such places, and for its changes room: also to note of each part whose end wasn't told that it is
pub record AreParts (entries : List (ℕ × PartState)) (changes : List (ℕ × Before)) (kept : ℕ)
    (grants : List GrantedRange) (places : List ℕ) (kept_places : ℕ) (end_places : List ℕ) (kept_ends room : ℕ) :
    Type 0 where
  pub table : IsPartTable entries changes kept grants places kept_places
  pub ends : HasUntold entries changes kept end_places kept_ends
  pub room_to_tell : length changes + count_untold (parts_in entries) ≤ room

-- the terms of the complete parts that aren't granted yet
abbrev pub awaiting_grant : List Entry → Ownership → List PartState → List ℕ
awaiting_grant durable own parts =
    map (λ state. state.part.term) (filter (λ state. is_complete durable state && not (owns_term own state.part.term))
    parts)
