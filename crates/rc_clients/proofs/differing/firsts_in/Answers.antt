use Rattle.std.proofs.Common.{◌∙◌, sym}
use Rattle.rc_clients.proofs.VersionLemmas.{firsts_begin, firsts_more, firsts_none, firsts_same, two_values}
use Rattle.rc_clients.proofs.differing.firsts_in.Goals as goal

pub loop-moment-init : goal.loop-moment-init
loop-moment-init c = firsts_begin c.new-firsts.ensures.empty

pub loop-moment-preserved-in_default : goal.loop-moment-preserved-in_default
loop-moment-preserved-in_default c = firsts_none (sym c.in_default.ensures) c.loop-moment.invariant

pub loop-moment-preserved-then-is_like : goal.loop-moment-preserved-then-is_like
loop-moment-preserved-then-is_like c = firsts_same (sym c.in-Some.ensures) c.version_name-name.ensures
    (sym (c.in-Some-copied.ensures ∙ c.get.ensures.value)) c.if-is_like.ensures c.loop-moment.invariant

pub returns-in-Some-copied : goal.returns-in-Some-copied
returns-in-Some-copied c = two_values (sym c.in-Some.ensures) c.version_name-name.ensures
    (sym (c.in-Some-copied.ensures ∙ c.get.ensures.value)) c.if-is_like.ensures c.loop-moment.invariant

pub loop-moment-preserved : goal.loop-moment-preserved
loop-moment-preserved c = firsts_more (sym c.in-Some.ensures) c.version_name-name.ensures
    (sym (c.in_default-copied.ensures ∙ c.get.ensures.value)) c.loop-moment.invariant c.in_ok-insert.ensures.updates.0
