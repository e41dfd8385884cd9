-- The groups' bounds stay such while the notes change.
use Rattle.std.proofs.Common.{◌≡◌, ◌⊎◌, inl, inr, ℕ, ◌+◌, ◌-◌, ◌<◌, ◌≤◌, Bool, true, false, nat_lt, ◌&&◌, List, [], ◌∷◌, ◌++◌, length}
use Rattle.std.proofs.Common.{take, drop, slice_get, Some, refl, sym, ap, subst, ◌∙◌, arith}
use Rattle.std.proofs.lemmas.Bool.Decides.{nat_tests}
use Rattle.rc_types.specs.declared.entries.Entry.{Entry}
use Rattle.rc_model.specs.Versions.{is_of}
use Rattle.rc_ownership.specs.Groups.{group_of, AreBounds, IsQuiet}
use Rattle.rc_ownership.specs.Slots.{slot_of}
use Rattle.rc_ownership.proofs.Bounding.{among-first, among-first-back, in-middle, none-passes, below-taken}

-- one more entry
pub bounds-push : (noted : List Entry) (entry : Entry) (durable : ℕ) (bounds : List ℕ) →
    durable ≤ length noted → AreBounds noted durable bounds → AreBounds (noted ++ entry ∷ []) durable bounds
bounds-push noted entry durable bounds within are place other bound below at there =
    are place other bound below (among-first-back noted (entry ∷ []) place other (omega (arith, below, within)) at) there

-- the last entry is dropped
pub bounds-drop : (noted rest : List Entry) (entry : Entry) (durable : ℕ) (bounds : List ℕ) →
    noted ≡ rest ++ entry ∷ [] → AreBounds noted durable bounds → AreBounds rest durable bounds
bounds-drop noted rest entry durable bounds is are place other bound below at there =
    are place other bound below
    (subst (λ entries. slice_get entries place ≡ Some other) (sym is) (among-first rest (entry ∷ []) place other at)) there

-- fewer durable entries
pub bounds-undurable : (noted : List Entry) (durable count : ℕ) (bounds : List ℕ) →
    count ≤ durable → AreBounds noted durable bounds → AreBounds noted count bounds
bounds-undurable noted durable count bounds fallen are place other bound below at there =
    are place other bound (omega (arith, below, fallen)) at there

-- more durable entries, with bounds that were raised
pub bounds-durable : (noted : List Entry) (durable count : ℕ) (bounds raised : List ℕ) →
    AreBounds noted durable bounds →
    ((place : ℕ) (entry : Entry) (bound : ℕ) → slice_get (take (count - durable) (drop durable noted)) place ≡ Some entry →
    slice_get raised (group_of (slot_of entry)) ≡ Some bound → bound ≡ count) →
    ((group bound : ℕ) → slice_get raised group ≡ Some bound → (bound ≡ count) ⊎ (slice_get bounds group ≡ Some bound)) →
    AreBounds noted count raised
bounds-durable noted durable count bounds raised are newly others place entry bound below at there =
    by (nat_lt place durable) refl
  where
    by : (b : Bool) → nat_lt place durable ≡ b → place < bound
    by true e =
        let before : place < durable = grind (arith, nat_tests) in
        elim (others (group_of (slot_of entry)) bound there) [
          | inl same ↦ omega (arith, same, below)
          | inr same ↦ are place entry bound before at same
        ]
    by false e =
        let after : durable ≤ place = grind (arith, nat_tests) in
        let sum : durable + (place - durable) ≡ place = omega (arith, after) in
        let same = newly (place - durable) entry bound
        (in-middle noted durable (count - durable) (place - durable) entry (omega (arith, after, below))
        (subst (λ n. slice_get noted n ≡ Some entry) (sym sum) at)) there in
        omega (arith, same, below)

-- an entry that outdates another is of its slot
same-slot : (entry other : Entry) →
    (is_of entry.term entry.table entry.key other && nat_lt entry.version other.version) ≡ true → slot_of other ≡ slot_of entry
same-slot entry other e =
    let term : other.term ≡ entry.term = grind (arith, nat_tests) in
    let table : other.table ≡ entry.table = grind (arith, nat_tests) in
    let key : other.key ≡ entry.key = grind (arith, nat_tests) in
    cc

-- a group is quiet since so many entries were durable, where its bound is no greater
pub still-quiet : (noted : List Entry) (durable : ℕ) (bounds : List ℕ) (group bound count : ℕ) →
    AreBounds noted durable bounds → slice_get bounds group ≡ Some bound → bound ≤ count → IsQuiet (take durable noted) group count
still-quiet noted durable bounds group bound count are there low entry grouped before =
    none-passes test (take durable noted) count before (λ place other above here. by place other above here (test other) refl)
  where
    test : Entry → Bool
    test other = is_of entry.term entry.table entry.key other && nat_lt entry.version other.version

    by : (place : ℕ) (other : Entry) → count ≤ place → slice_get (take durable noted) place ≡ Some other → (b : Bool) →
        test other ≡ b → b ≡ false
    by place other above here true e =
        let taken = below-taken noted durable place other here in
        let same : group_of (slot_of other) ≡ group = ap group_of (same-slot entry other e) ∙ grouped in
        let below = are place other bound taken.0 taken.1 (ap (slice_get bounds) same ∙ there) in
        absurd (omega (arith, below, low, above))
    by place other above here false e = refl
