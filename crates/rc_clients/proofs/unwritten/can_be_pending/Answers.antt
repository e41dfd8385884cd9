use Rattle.std.proofs.Common.{◌∙◌, ap, not, sym, refl}
use Rattle.rc_clients.specs.Evidence.{is_at_least}
use Rattle.rc_clients.proofs.PendingLemmas.{can_be_so, can_not}
use Rattle.rc_clients.proofs.unwritten.can_be_pending.Goals as goal

pub returns-in-Some : goal.returns-in-Some
returns-in-Some c = can_be_so c.args.operation.now _
    c.requires.bars c.requires.pending refl refl c.value_of.ensures (sym (c.in-Some.ensures ∙ c.get.ensures.value))
    (c.is_below.ensures ∙ ap (λ o. not (is_at_least o c.args.operation.now.version)) c.bar_at.ensures)

pub returns-in-None : goal.returns-in-None
returns-in-None c = can_not _ c.requires.pending refl refl c.value_of.ensures
    (sym (c.in-None.ensures ∙ c.get.ensures.value))
