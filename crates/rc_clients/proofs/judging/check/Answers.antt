use Rattle.std.proofs.Common.{subst}
use Rattle.std.proofs.lemmas.Result.{IfOk-weaker}
use Rattle.rc_clients.specs.Evidence.{ElseTwoValues, ElseTwoWrites}
use Rattle.rc_clients.proofs.JudgeLemmas.{all_found}
use Rattle.rc_clients.proofs.judging.check.Goals as goal

pub returns : goal.returns
returns c =
    let writes = subst (ElseTwoWrites c.args.history.now) c.in-Ok.is c.in_ok-writes.ensures in
    let firsts = subst (ElseTwoValues c.args.history.now) c.in-Ok-2.is c.in_ok-firsts.ensures in
    IfOk-weaker c.unmatched_version.result _ _ (λ found h. all_found found c.in_default.ensures
    c.in_default-wrong_beginning.ensures writes firsts h)
    c.unmatched_version.ensures
