use Rattle.std.proofs.Common.{sym}
use Rattle.rc_clients.proofs.TimeLemmas.{late_found, timely_behind, timely_none, timely_untold}
use Rattle.rc_clients.proofs.timely.late_at.Goals as goal

pub returns-in_default : goal.returns-in_default
returns-in_default c = timely_none (sym c.in_default.ensures)

pub returns-in_default-bar_at : goal.returns-in_default-bar_at
returns-in_default-bar_at c = timely_untold c.requires (sym c.in-Some.ensures) (sym c.in_default-bar_at.ensures)

pub returns-then-stands_behind : goal.returns-then-stands_behind
returns-then-stands_behind c = timely_behind c.requires (sym c.in-Some.ensures) (sym c.in-Some-bar_at.ensures) c.if-stands_behind.ensures

pub returns : goal.returns
returns c = late_found c.requires (sym c.in-Some.ensures) (sym c.in-Some-bar_at.ensures) c.if-stands_behind.ensures
