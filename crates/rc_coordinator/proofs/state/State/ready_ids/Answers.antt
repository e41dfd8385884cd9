use Rattle.std.proofs.Common.{filter, rules, tests, ap, ◌∙◌}
use Rattle.std.proofs.lemmas.Fn.{filter_same}
use Rattle.rc_coordinator.specs.View.{is_among}
use Rattle.rc_coordinator.proofs.state.State.ready_ids.Goals as goal

pub returns : goal.returns
returns g c =
    filter_same _ (is_among c.args.self.now.ready) _ (λ x b f k. search (rules, tests)) _ _ c.retain.ensures.filtered
    ∙ ap (filter (is_among c.args.self.now.ready)) c.in_ok-ids.ensures
