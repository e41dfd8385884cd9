use Rattle.std.proofs.Common.{◌≡◌, List, sym, ap, ◌∙◌, subst}
use Rattle.rc_model.specs.Model.{Message, Master}
use Rattle.rc_model.proofs.Measures.{goes_on-up}
use Rattle.rc_master.specs.Rules.{settled}
use Rattle.rc_master.specs.Quiet.{IsQuiet}
use Rattle.rc_master.specs.View.{state_view}
use Rattle.rc_master.proofs.Quiet.{quiet-after, on_ok-then}
use Rattle.rc_master.proofs.state.State.go_on.Goals as goal

pub returns-clause-quiet : goal.returns-clause-quiet
returns-clause-quiet c =
    let old : Master = state_view c.args.self.now in
    on_ok-then c.settle.result
    (λ (e : state_view c.settle.new.self ≡ (settled old).0).
    subst IsQuiet (sym (e ∙ ap (λ (r : Master × List Message). r.0) (sym (goes_on-up old c.if-self.false))))
    (quiet-after old c.requires.noted.replicas))
    c.settle.ensures.state
