use Rattle.rc_wire.proofs.Rule.{kept-new}
use Rattle.rc_wire.proofs.ledger.Ledger.new.Goals as goal

pub of_words-requires : goal.of_words-requires
of_words-requires c = kept-new c.args.setup.now
