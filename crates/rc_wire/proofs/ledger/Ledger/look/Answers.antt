use Rattle.std.proofs.Common.{rules}
use Rattle.rc_wire.proofs.LedgerSteps.{allows-look}
use Rattle.rc_wire.proofs.ledger.Ledger.look.Goals as goal

pub load-requires : goal.load-requires
load-requires c =
    let table = c.args.self.now.table.shared in
    let keeper = c.args.keeper.now in
    (search rules, search rules, allows-look table.key table.table_id.slots keeper.id keeper.me 0 c.requires.guest)
