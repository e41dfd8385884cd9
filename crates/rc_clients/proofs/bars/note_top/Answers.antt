use Rattle.std.proofs.Common.{◌∙◌, ap, sym, refl}
use Rattle.rc_clients.specs.Evidence.{is_at_least}
use Rattle.rc_clients.proofs.TopLemmas.{tops_low, tops_more, tops_none}
use Rattle.rc_clients.proofs.bars.note_top.Goals as goal

pub returns-in_default : goal.returns-in_default
returns-in_default c = tops_none (sym c.in_default.ensures) c.requires

pub returns-then-is_at_least : goal.returns-then-is_at_least
returns-then-is_at_least c = tops_low (sym c.in-Some.ensures) c.key_name-name.ensures
    (ap (λ o. is_at_least o c.in-Some.operation.version) (sym (c.copied.ensures ∙ c.get.ensures.value)) ∙ sym c.if-is_at_least.ensures)
    c.requires

pub returns : goal.returns
returns c = tops_more (sym c.in-Some.ensures) c.key_name-name.ensures refl refl
    (ap (λ o. is_at_least o c.in-Some.operation.version) (sym (c.copied.ensures ∙ c.get.ensures.value)) ∙ sym c.if-is_at_least.ensures)
    c.requires c.in_ok-insert.ensures.updates.0
