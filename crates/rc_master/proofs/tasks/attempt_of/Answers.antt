use Rattle.std.proofs.Common.{ap, sym, ◌∙◌}
use Rattle.std.specs.Prelude.{slice_get}
use Rattle.std.specs.Option.{option_map_or}
use Rattle.rc_model.specs.Model.{Task}
use Rattle.rc_master.proofs.TaskPlaces.{attempt-placed}
use Rattle.rc_master.proofs.tasks.attempt_of.Goals as goal

pub returns-in-Some : goal.returns-in-Some
returns-in-Some c =
    let tasks = c.args.tasks.now in
    c.attempt_at.ensures
    ∙ ap (λ found. option_map_or (λ place. option_map_or (λ (task : Task). task.attempt) (slice_get tasks place) 0) found 0)
    (sym c.in-Some.is ∙ c.place_of.ensures)
    ∙ attempt-placed c.args.term c.args.ownership.now.own.parts tasks c.requires

pub returns-in-None : goal.returns-in-None
returns-in-None c =
    let tasks = c.args.tasks.now in
    ap (λ found. option_map_or (λ place. option_map_or (λ (task : Task). task.attempt) (slice_get tasks place) 0) found 0)
    (sym c.in-None.is ∙ c.place_of.ensures)
    ∙ attempt-placed c.args.term c.args.ownership.now.own.parts tasks c.requires
