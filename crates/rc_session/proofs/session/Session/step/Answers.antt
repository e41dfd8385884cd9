use Rattle.std.proofs.Common.{⊎_elim}
use Rattle.rc_session.proofs.Wholes.{takes_work, can_take}
use Rattle.rc_session.proofs.session.Session.step.Goals as goal

pub returns-in-Ok-clause-taken : goal.returns-in-Ok-clause-taken
returns-in-Ok-clause-taken c =
    takes_work _ c.in-Ok.work c.args.bytes.now _ _ c.give.ensures.taken
    (λ work is. ⊎_elim (λ e. cc) (λ e. absurd cc) (c.in-Ok.ensures.found work is))

pub returns-in-Ok-clause-possible : goal.returns-in-Ok-clause-possible
returns-in-Ok-clause-possible c =
    can_take _ c.in-Ok.work c.args.bytes.now _ c.give.ensures.possible
    (λ work is. ⊎_elim (λ e. cc) (λ e. absurd cc) (c.in-Ok.ensures.found work is))
