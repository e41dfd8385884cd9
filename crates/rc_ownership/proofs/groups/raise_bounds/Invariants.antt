use Rattle.std.proofs.Common.{◌≡◌, ◌⊎◌, ℕ, Some, take, slice_get}
use Rattle.rc_types.specs.declared.entries.Entry.{Entry}
use Rattle.rc_ownership.specs.Groups.{group_of}
use Rattle.rc_ownership.specs.Slots.{slot_of}
use Rattle.rc_ownership.proofs.groups.raise_bounds.Given as goal

abbrev pub invariant-loop-entry : goal.invariant-loop-entry
invariant-loop-entry l = record {
  raised : (place : ℕ) (entry : Entry) (bound : ℕ) → slice_get (take l.entry-index l.newly) place ≡ Some entry →
      slice_get l.bounds.items (group_of (slot_of entry)) ≡ Some bound → bound ≡ l.durable;
  others : (group bound : ℕ) → slice_get l.bounds.items group ≡ Some bound →
      (bound ≡ l.durable) ⊎ (slice_get l.initial.bounds.items group ≡ Some bound);
}
