use Rattle.std.proofs.Common.{rules}
use Rattle.rc_wire.proofs.LedgerSteps.{splits-deal}
use Rattle.rc_wire.proofs.ledger.Ledger.deal.Goals as goal

pub split_seat-requires : goal.split_seat-requires
split_seat-requires c =
    let keeper = c.args.keeper.now in
    (search rules, search rules, splits-deal c.args.self.now.table.shared.key keeper.id keeper.me.0 c.requires.keeps)
