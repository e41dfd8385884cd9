use Rattle.std.proofs.Common.{option_map, slice_get, ap, ◌∙◌}
use Rattle.rc_model.specs.Master.{Master, durable_replayed}
use Rattle.rc_ownership.specs.Looks.{progress_of}
use Rattle.rc_master.proofs.Outer.{viewed, durable-noted}
use Rattle.rc_master.proofs.master.Master.part.Goals as goal

pub returns : goal.returns
returns c =
    c.part.ensures
    ∙ ap (λ entries. option_map (progress_of entries) (slice_get c.self.inside.state.ownership.own.parts c.args.number))
    (durable-noted c.self.inside.state c.self.invariant.noted)
    ∙ ap (λ (m : Master). option_map (progress_of (durable_replayed m)) (slice_get m.ownership.parts c.args.number))
    (viewed c.self.inside.state c.args.self.now c.self.view_is)
