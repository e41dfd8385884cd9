use Rattle.std.proofs.Common.{◌∙◌, sym}
use Rattle.rc_clients.proofs.VersionLemmas.{two_writes, writes_begin, writes_more, writes_none}
use Rattle.rc_clients.proofs.doubled.writes_in.Goals as goal

pub loop-moment-init : goal.loop-moment-init
loop-moment-init c = writes_begin c.new-writes.ensures.empty

pub loop-moment-preserved-in_default : goal.loop-moment-preserved-in_default
loop-moment-preserved-in_default c = writes_none (sym c.in_default.ensures) c.loop-moment.invariant

pub returns-in-Some-copied : goal.returns-in-Some-copied
returns-in-Some-copied c = two_writes (sym c.in-Some.ensures)
    c.version_name-name.ensures (sym (c.in-Some-copied.ensures ∙ c.get.ensures.value)) c.loop-moment.invariant

pub loop-moment-preserved : goal.loop-moment-preserved
loop-moment-preserved c = writes_more (sym c.in-Some.ensures) c.version_name-name.ensures
    (sym (c.in_default-copied.ensures ∙ c.get.ensures.value)) c.loop-moment.invariant c.in_ok-insert.ensures.updates.0
