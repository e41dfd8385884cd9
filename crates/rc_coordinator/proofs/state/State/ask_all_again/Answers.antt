use Rattle.std.proofs.Common.{◌++◌, refl, ap, ◌∙◌}
use Rattle.std.proofs.lemmas.Result.{on_ok_weaker}
use Rattle.rc_coordinator.specs.View.{state_view}
use Rattle.rc_coordinator.proofs.AskedLemmas.{asks-of_asked}
use Rattle.rc_coordinator.proofs.state.State.ask_all_again.Goals as goal

pub returns : goal.returns
returns g c =
    on_ok_weaker c.ask_each.result (λ asked. asked ∙ ap (λ those. c.args.messages.now.items ++ those)
    (asks-of_asked (state_view c.args.self.now) c.args.self.now.recoveries.current c.asked.result.now refl c.asked.ensures))
    c.ask_each.ensures
