-- Who was granted what, and which of two ownerships of a point is the earlier one, by the messages sent alone.
use Rattle.std.specs.Prelude.{◌≡◌, ℕ, nat_eq, ◌&&◌, ◌||◌, Bool, false, List, [], ◌∷◌, filter, Some, slice_get}
use Rattle.std.specs.List.{flat_map}
use Rattle.rc_types.specs.Ranges.{in_range}
use Rattle.rc_types.specs.declared.ids.Addr.{Addr}
use Rattle.rc_types.specs.declared.rows.KeyRange.{KeyRange}
use Rattle.rc_types.specs.declared.messages.Message.{Message}
use Rattle.rc_types.specs.declared.messages.Body.{Body}
use Rattle.rc_types.specs.declared.messages.Body.TheVariants.{Own}

-- a grant as it was sent: to whom, which keys, under which term, after which term, in which attempt
pub record Granted : Type 0 where
  pub owner : Addr
  pub range : KeyRange
  pub term : ℕ
  pub previous : ℕ
  pub attempt : ℕ

abbrev pub grant_in : Addr → Body → List Granted
grant_in to (Own range term previous attempt) =
    record { owner = to; range = range; term = term; previous = previous; attempt = attempt } ∷ []
grant_in to _ = []

-- the grants, in order
abbrev pub granted : List Message → List Granted
granted sent = flat_map (λ message. grant_in message.to message.body) sent

-- the grant was sent
abbrev pub IsGranted : List Message → Granted → Type 0
IsGranted sent grant = (k : ℕ) × (slice_get (granted sent) k ≡ Some grant)

-- the grant's range holds the point (table, key)
abbrev pub covers : ℕ → ℕ → Granted → Bool
covers table key grant = in_range grant.range table key

-- the grants of a point, in order
abbrev pub grants_of : List Message → ℕ → ℕ → List Granted
grants_of sent table key = filter (covers table key) (granted sent)

-- By these grants the first term comes before the second: it is the second's previous term, or comes before that.
pub data IsBefore (grants : List Granted) : (earlier later : ℕ) → Type 0 where
  previous : (k : ℕ) → (grant : Granted) → slice_get grants k ≡ Some grant → IsBefore grants grant.previous grant.term
  onward : (earlier : ℕ) → (k : ℕ) → (grant : Granted) → slice_get grants k ≡ Some grant →
      IsBefore grants earlier grant.previous → IsBefore grants earlier grant.term

-- of two terms the first is the earlier one at a point
abbrev pub IsEarlier : List Message → ℕ → ℕ → ℕ → ℕ → Type 0
IsEarlier sent table key earlier later = IsBefore (grants_of sent table key) earlier later

-- The same as a test that ends, also where previous terms go in a circle: a way from the later term back to the
-- earlier one does without the first of the grants, or takes it once, between two ways that do without it.
abbrev pub is_before : List Granted → ℕ → ℕ → Bool
is_before [] earlier later = false
is_before (grant ∷ grants) earlier later =
    is_before grants earlier later
    || ((nat_eq later grant.term || is_before grants grant.term later)
    && (nat_eq earlier grant.previous || is_before grants earlier grant.previous))

abbrev pub is_earlier : List Message → ℕ → ℕ → ℕ → ℕ → Bool
is_earlier sent table key earlier later = is_before (grants_of sent table key) earlier later
