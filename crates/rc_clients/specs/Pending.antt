-- Writes without a response, by what they are to write.
use Rattle.std.specs.Prelude.{◌≡◌, ◌+◌, ◌<◌, ◌≤◌, ℕ, List, Option, Some, None, option_and_then, option_map, slice_get}
use Rattle.std.specs.declared.cmp.Ordering.{Ordering}
use Rattle.std.specs.Ordering.{nat_cmp, ordering_then}
use Rattle.std.specs.Option.{option_cmp}
use Rattle.std.specs.Cmp.Lexicographic.{slice_cmp}
use Rattle.std.specs.BTreeMap.{BTreeMap, get}
use Rattle.rc_clients.specs.declared.events.ClientEvent.{ClientEvent}
use Rattle.rc_clients.specs.declared.events.ClientEvent.TheVariants.{Invoked}
use Rattle.rc_clients.specs.declared.events.Request.TheVariants as request
use Rattle.rc_clients.specs.declared.pending.ValueName.{ValueName}
use Rattle.rc_clients.specs.Linearizable.{IsUnanswered}

abbrev pub bytes_in : ValueName → Option (List ℕ)
bytes_in name = option_map (λ s. s.now) name.value

-- the invocation of a write of this value
abbrev pub IsWriteOf : List ClientEvent → ValueName → ℕ → Type 0
IsWriteOf history name moment =
    slice_get history moment ≡ Some (Invoked name.table name.key (request.Write (bytes_in name)))

-- which was never answered
pub record IsPendingOf (history : List ClientEvent) (name : ValueName) (moment : ℕ) : Type 0 where
  pub invoked : IsWriteOf history name moment
  pub unanswered : IsUnanswered history moment

abbrev pub value_order : ValueName → ValueName → Ordering
value_order a b = ordering_then (nat_cmp a.table b.table) (ordering_then (nat_cmp a.key b.key)
    (option_cmp (λ x y. slice_cmp nat_cmp x.now y.now) a.value b.value))

-- of each value the first of those that were invoked before this moment
pub record ArePending (history : List ClientEvent) (moment : ℕ) (pending : BTreeMap ValueName ℕ) : Type 0 where
  pub found : (q : ValueName) (i : ℕ) → get value_order pending q ≡ Some i → IsPendingOf history q i × (i < moment)
  pub kept : (q : ValueName) (i : ℕ) → i < moment → IsPendingOf history q i →
      (j : ℕ) × (get value_order pending q ≡ Some j) × (j ≤ i)

-- the first of this value that was invoked at this moment or later, if there is one
abbrev pub IsFirst : List ClientEvent → ValueName → ℕ → Option ℕ → Type 0
IsFirst history name from None = (k : ℕ) → IsPendingOf history name k → from ≤ k → ⊥
IsFirst history name from (Some first) = IsPendingOf history name first × (from ≤ first) ×
    ((k : ℕ) → IsPendingOf history name k → from ≤ k → first ≤ k)

-- of those that were invoked at this moment or later: of each value the first, and behind each the next of its value
pub record AreChains (history : List ClientEvent) (from : ℕ) (heads : BTreeMap ValueName ℕ)
    (nexts : BTreeMap ℕ (Option ℕ)) : Type 0 where
  pub first : (q : ValueName) → IsFirst history q from (get value_order heads q)
  pub next : (q : ValueName) (i : ℕ) → from ≤ i → IsPendingOf history q i →
      (o : Option ℕ) × (get nat_cmp nexts i ≡ Some o) × IsFirst history q (i + 1) o

-- the next behind this one
abbrev pub next_at : BTreeMap ℕ (Option ℕ) → ℕ → Option ℕ
next_at nexts moment = option_and_then (λ o. o) (get nat_cmp nexts moment)
