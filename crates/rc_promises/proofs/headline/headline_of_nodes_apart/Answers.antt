use Rattle.std.proofs.Common.{sym, ap, ◌∙◌, subst}
use Rattle.rc_model.specs.Breach.{breach}
use Rattle.rc_model.specs.Headline.{NothingIsDropped}
use Rattle.rc_history.specs.Apart.{events_by}
use Rattle.rc_history.proofs.Apart.{apart-history}
use Rattle.rc_step_laws.proofs.KeptWorlds.{nothing-is-dropped}
use Rattle.rc_owner_laws.proofs.VersionReplays.{there-is-no-breach}
use Rattle.rc_promises.proofs.headline.headline_of_nodes_apart.Goals as goal

pub returns-clause-no_breach : goal.returns-clause-no_breach
returns-clause-no_breach c setup steps apart =
    ap breach (sym (apart-history apart).sent) ∙ there-is-no-breach setup (events_by steps)

pub returns-clause-strong : goal.returns-clause-strong
returns-clause-strong c setup steps apart free =
    subst NothingIsDropped (apart-history apart).sent (nothing-is-dropped setup (events_by steps) free)
