use Rattle.std.proofs.Common.{◌∙◌, None, sym}
use Rattle.rc_clients.proofs.TopLemmas.{bar_none, bar_noted}
use Rattle.rc_clients.proofs.bars.newest_bar.Goals as goal

pub returns-in-Some : goal.returns-in-Some
returns-in-Some c = bar_noted c.requires (sym c.in-Some.ensures) (c.copied.ensures ∙ c.get.ensures.value)

pub returns-in-None : goal.returns-in-None
returns-in-None c = bar_none c.args.history.now c.args.moment None (sym c.in-None.ensures)
