use Rattle.std.proofs.Common.{◌≡◌, length, vec_capacity}
use Rattle.rc_ownership.specs.Parts.{undone}
use Rattle.rc_ownership.proofs.touched.undo.Given as goal

abbrev pub invariant-loop-term : goal.invariant-loop-term
invariant-loop-term l =
    (undone l.touched.items l.begun.entries ≡ undone l.fn.touched.items l.fn.begun.entries)
    × (vec_capacity l.touched ≡ vec_capacity l.fn.touched)

abbrev pub decreases-loop-term : goal.decreases-loop-term
decreases-loop-term l = length l.touched.items
