use Rattle.std.proofs.Common.{◌<◌, ◌≤◌, length, Some, take, sym, ap, subst, ◌∙◌, arith}
use Rattle.std.proofs.lemmas.Bool.Decides.{nat_tests}
use Rattle.std.proofs.lemmas.Option.{slice_get-get_or}
use Rattle.std.proofs.lemmas.Grind.{common_steps}
use Rattle.rc_ownership.specs.Groups.{IsQuiet}
use Rattle.rc_ownership.proofs.GroupBounds.{still-quiet}
use Rattle.rc_ownership.proofs.notes.Notes.is_quiet.Goals as goal

pub returns-then-group-len : goal.returns-then-group-len
returns-then-group-len c low entry grouped before =
    let within : c.args.group < length c.self.inside.bounds.items = grind (arith, common_steps) in
    let bound_is =
    slice_get-get_or c.self.inside.bounds.items c.args.group _ within ∙ ap Some (sym c.index.ensures) in
    let below : c.index.result.now ≤ c.args.count = grind (arith, nat_tests) in
    subst (λ durable. IsQuiet durable c.args.group c.args.count) (ap (λ notes. take notes.durable notes.noted) c.self.view_is)
    (still-quiet c.self.inside.noted.items c.self.inside.durable c.self.inside.bounds.items c.args.group c.index.result.now
    c.args.count c.self.invariant.bounds_are bound_is below)
    entry grouped before
