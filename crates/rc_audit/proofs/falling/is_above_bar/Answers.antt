use Rattle.std.proofs.Common.{◌≡◌, Bool, true, not, subst, rules}
use Rattle.rc_audit.specs.Writes.{ack_of}
use Rattle.rc_audit.proofs.FallingLemmas.{above_found}
use Rattle.rc_audit.proofs.falling.is_above_bar.Goals as goal

pub returns-in-Some : goal.returns-in-Some
returns-in-Some c above sent are =
    above_found c.args.bars.now sent (ack_of c.args.later.now) c.term_key.result c.in-Some.bar are c.term_key.ensures
    (search rules) (subst (λ (b : Bool). not b ≡ true) c.is_level.ensures above)
