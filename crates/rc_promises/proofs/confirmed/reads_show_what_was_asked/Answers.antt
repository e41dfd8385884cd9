use Rattle.rc_promises.proofs.Following.{reads-show-one-value, what-reads-show-was-asked}
use Rattle.rc_promises.proofs.confirmed.reads_show_what_was_asked.Goals as goal

pub returns : goal.returns
returns c = record { one_value = reads-show-one-value; asked = what-reads-show-was-asked }
