use Rattle.std.proofs.Common.{◌∙◌, ap}
use Rattle.std.specs.Map.{keys_of}
use Rattle.rc_audit.proofs.RecoveryLemmas.{keys_of-insert_entry}
use Rattle.rc_audit.proofs.recoveries.raise.Goals as goal

pub returns-clause-keys : goal.returns-clause-keys
returns-clause-keys c = ap (λ x. keys_of x) c.in_ok-insert.ensures.entries ∙ keys_of-insert_entry c.args.seg _ c.args.numbers.now.entries
