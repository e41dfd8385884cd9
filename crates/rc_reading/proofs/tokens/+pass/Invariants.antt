use Rattle.std.proofs.Common.{◌≡◌, ◌+◌, ◌*◌, ◌≤◌, length}
use Rattle.serde_json.specs.Data.{no_members}
use Rattle.rc_reading.specs.Ahead.{items_at, members_at, rest}
use Rattle.rc_reading.proofs.tokens.+pass.Given as goal

abbrev pub decreases-pass : goal.decreases-pass
decreases-pass l = 3 * l.depth + 1

abbrev pub decreases-pass_rest : goal.decreases-pass_rest
decreases-pass_rest l = 3 * l.depth

abbrev pub decreases-pass_items : goal.decreases-pass_items
decreases-pass_items l = 3 * l.depth + 2

abbrev pub decreases-pass_members : goal.decreases-pass_members
decreases-pass_members l = 3 * l.depth + 2

abbrev pub invariant-pass_items-items : goal.invariant-pass_items-items
invariant-pass_items-items l = (rest (items_at l.depth l.initial.reader) ≡ rest (items_at l.depth l.reader)) ×
    (length l.reader ≤ length l.initial.reader)

abbrev pub decreases-pass_items-items : goal.decreases-pass_items-items
decreases-pass_items-items l = length l.reader

abbrev pub invariant-pass_members-members : goal.invariant-pass_members-members
invariant-pass_members-members l =
    (rest (members_at no_members l.depth l.initial.reader) ≡ rest (members_at no_members l.depth l.reader)) ×
    (length l.reader ≤ length l.initial.reader)

abbrev pub decreases-pass_members-members : goal.decreases-pass_members-members
decreases-pass_members-members l = length l.reader
