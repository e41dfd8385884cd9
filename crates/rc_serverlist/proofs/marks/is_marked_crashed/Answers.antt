use Rattle.std.proofs.Common.{◌≡◌, Bool, true, false, not, if◌then◌else◌, refl, ◌∙◌}
use Rattle.rc_serverlist.proofs.RowLemmas.{crashed-lookup}
use Rattle.rc_serverlist.proofs.marks.is_marked_crashed.Goals as goal

not-if : (mark : Bool) → not mark ≡ (if mark then false else true)
not-if true = refl
not-if false = refl

pub returns-in-Some : goal.returns-in-Some
returns-in-Some c =
    not-if c.in-Some.up.now ∙ crashed-lookup c.args.rows.now.entries c.args.id _ c.in-Some.ensures.value

pub returns-in-None : goal.returns-in-None
returns-in-None c = crashed-lookup c.args.rows.now.entries c.args.id _ c.in-None.ensures.value
