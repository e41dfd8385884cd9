use Rattle.std.proofs.Common.{rules}
use Rattle.rc_wire.proofs.LedgerSteps.{allows-add}
use Rattle.rc_wire.proofs.ledger.Ledger.write.Goals as goal

pub compare_exchange_with-requires : goal.compare_exchange_with-requires
compare_exchange_with-requires c =
    let table = c.args.self.now.table.shared in
    let keeper = c.args.keeper.now in (
      search rules,
      search rules,
      allows-add table.key table.table_id.slots keeper.id keeper.me 0 c.args.event.now c.requires.guest c.requires.event,
    )
