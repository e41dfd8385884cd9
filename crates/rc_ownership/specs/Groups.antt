-- Groups of keys, and of each below which place its durable entries stand.
use Rattle.std.specs.Prelude.{◌≡◌, ℕ, ◌+◌, ◌*◌, ◌/◌, ◌%◌, ◌<◌, false, Bool, List, length, take, slice_get, Some}
use Rattle.rc_types.specs.declared.entries.Entry.{Entry}
use Rattle.rc_model.specs.Versions.{is_outdated}
use Rattle.rc_ownership.specs.declared.highs.Slot.{Slot}
use Rattle.rc_ownership.specs.declared.groups.TheConstants.{FACTOR}
use Rattle.rc_ownership.specs.Slots.{slot_of}

-- the group of a slot: of a product of 64 bits the upper ten, so a quotient by 2^54
abbrev pub group_of : Slot → ℕ
group_of slot =
    let numbers : ℕ = slot.key + (slot.table * 31 + slot.term * 997) in
    numbers % 18446744073709551616 * FACTOR % 18446744073709551616 / 18014398509481984

-- each durable entry stands below the bound of its group, where there are bounds
abbrev pub AreBounds : List Entry → ℕ → List ℕ → Type 0
AreBounds noted durable bounds = (place : ℕ) (entry : Entry) (bound : ℕ) → place < durable →
    slice_get noted place ≡ Some entry → slice_get bounds (group_of (slot_of entry)) ≡ Some bound → place < bound

-- at this offset of a segment's entries stands one that isn't outdated
abbrev pub IsAliveAt : List Entry → List (Entry × Bool) → ℕ → Type 0
IsAliveAt durable entries offset = (offset < length entries) ×
    ((one : Entry × Bool) → slice_get entries offset ≡ Some one → is_outdated durable one.0 ≡ false)

-- none of the group that wasn't outdated by the first so many durable entries is outdated
abbrev pub IsQuiet : List Entry → ℕ → ℕ → Type 0
IsQuiet durable group count = (entry : Entry) → group_of (slot_of entry) ≡ group →
    is_outdated (take count durable) entry ≡ false → is_outdated durable entry ≡ false
