use Rattle.std.proofs.Common.{rules, ap, ◌∙◌}
use Rattle.rc_wire.proofs.LedgerSteps.{splits-leave, joins-host}
use Rattle.rc_wire.proofs.ledger.Ledger.host.Goals as goal

pub split_seat-guest-requires : goal.split_seat-guest-requires
split_seat-guest-requires c =
    let seat = c.args.seat.now in
    (search rules, search rules, splits-leave c.args.self.now.table.shared.key seat.id seat.me.0 c.requires.sits)

pub join_seat-requires : goal.join_seat-requires
join_seat-requires c =
    let keeper = c.args.keeper.now in
    let guest = c.split_seat-guest.result in
    let sits = c.requires.sits in (
      search rules,
      search rules,
      search rules,
      search rules,
      joins-host c.args.self.now.table.shared.key keeper.id keeper.me.0 guest.id guest.me.0 c.requires.keeps
          (sits.0, ap (λ m. m.0) c.split_seat-guest.ensures.4 ∙ sits.1),
    )
