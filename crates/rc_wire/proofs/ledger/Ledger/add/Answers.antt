use Rattle.std.proofs.Common.{sym, ◌∙◌}
use Rattle.rc_wire.specs.Views.{looked, with_event, with_own}
use Rattle.rc_wire.proofs.LedgerSteps.{can-looked}
use Rattle.rc_wire.proofs.ledger.Ledger.add.Goals as goal

pub look-requires-clause-guest : goal.look-requires-clause-guest
look-requires-clause-guest c =
    let keeps = c.requires.keeps in
    let sits = c.requires.sits in
    (keeps.0, sits.0, c.host.ensures.hosts keeps.0 sits.0 keeps.1 sits.1)

pub write-requires-clause-guest : goal.write-requires-clause-guest
write-requires-clause-guest c =
    let keeps = c.requires.keeps in
    let sits = c.requires.sits in
    (keeps.0, looked keeps.0 sits.0, (c.look.ensures.looks keeps.0 sits.0 (c.host.ensures.hosts keeps.0 sits.0 keeps.1 sits.1)).view)

pub write-requires-clause-event : goal.write-requires-clause-event
write-requires-clause-event c desk place is =
    let keeps = c.requires.keeps in
    let sits = c.requires.sits in
    let looks = c.look.ensures.looks keeps.0 sits.0 (c.host.ensures.hosts keeps.0 sits.0 keeps.1 sits.1) in
    can-looked keeps.0 desk sits.0 place c.args.event.now (c.requires.event keeps.0 sits.0 keeps.1 sits.1) (sym looks.view ∙ is)

pub part-requires-clause-guest : goal.part-requires-clause-guest
part-requires-clause-guest c =
    let keeps = c.requires.keeps in
    let sits = c.requires.sits in
    let looks = c.look.ensures.looks keeps.0 sits.0 (c.host.ensures.hosts keeps.0 sits.0 keeps.1 sits.1) in (
      with_event keeps.0 c.args.event.now,
      with_own keeps.0 sits.0 c.args.event.now,
      c.write.ensures.writes keeps.0 (looked keeps.0 sits.0) looks.view,
    )

pub returns-clause-adds : goal.returns-clause-adds
returns-clause-adds c desk place keeps sits =
    let looks = c.look.ensures.looks desk place (c.host.ensures.hosts desk place keeps sits) in
    let writes = c.write.ensures.writes desk (looked desk place) looks.view in
    let parts = c.part.ensures.parts (with_event desk c.args.event.now) (with_own desk place c.args.event.now) writes in
    record { kept = parts.0; sees = parts.1; seated = looks.seated; knows = looks.knows }
