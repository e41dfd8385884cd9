use Rattle.rc_wire.specs.Views.{looked}
use Rattle.rc_wire.proofs.ledger.Ledger.see.Goals as goal

pub look-requires-clause-guest : goal.look-requires-clause-guest
look-requires-clause-guest c =
    let keeps = c.requires.keeps in
    let sits = c.requires.sits in
    (keeps.0, sits.0, c.host.ensures.hosts keeps.0 sits.0 keeps.1 sits.1)

pub part-requires-clause-guest : goal.part-requires-clause-guest
part-requires-clause-guest c =
    let keeps = c.requires.keeps in
    let sits = c.requires.sits in
    (keeps.0, looked keeps.0 sits.0, (c.look.ensures.looks keeps.0 sits.0 (c.host.ensures.hosts keeps.0 sits.0 keeps.1 sits.1)).view)

pub returns-clause-sees : goal.returns-clause-sees
returns-clause-sees c desk place keeps sits =
    let looks = c.look.ensures.looks desk place (c.host.ensures.hosts desk place keeps sits) in
    let parts = c.part.ensures.parts desk (looked desk place) looks.view in
    record { kept = parts.0; sees = parts.1; seated = looks.seated; knows = looks.knows }
