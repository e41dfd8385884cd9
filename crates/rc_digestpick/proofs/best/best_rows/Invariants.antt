use Rattle.std.proofs.Common.{◌≡◌, ℕ, take}
use Rattle.std.specs.Option.{option_map}
use Rattle.std.specs.BTreeMap.{get}
use Rattle.std.specs.Ordering.{nat_cmp}
use Rattle.rc_model.specs.Pick.{row_of}
use Rattle.rc_digestpick.specs.Held.{held_row}
use Rattle.rc_digestpick.proofs.best.best_rows.Given as goal

-- the first of each segment so far
abbrev pub invariant-loop-holder : goal.invariant-loop-holder
invariant-loop-holder l = (seg : ℕ) → option_map held_row (get nat_cmp l.best seg) ≡ row_of l.min (take l.holder-index l.replies) seg
