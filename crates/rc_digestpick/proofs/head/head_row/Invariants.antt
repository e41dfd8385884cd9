use Rattle.std.proofs.Common.{◌≡◌, take}
use Rattle.std.specs.Option.{option_map}
use Rattle.rc_model.specs.Pick.{head_row}
use Rattle.rc_digestpick.specs.Held.{held_row}
use Rattle.rc_digestpick.proofs.head.head_row.Given as goal

-- the first so far
abbrev pub invariant-loop-holder : goal.invariant-loop-holder
invariant-loop-holder l = option_map held_row l.best ≡ head_row l.min (take l.holder-index l.replies)
