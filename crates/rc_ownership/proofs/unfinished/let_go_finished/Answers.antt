use Rattle.std.proofs.Common.{sym, subst}
use Rattle.rc_ownership.specs.Parts.{parts_in}
use Rattle.rc_ownership.specs.Unfinished.{HoldUnfinished}
use Rattle.rc_ownership.proofs.Places.{stand-all, places-filter}
use Rattle.rc_ownership.proofs.unfinished.let_go_finished.Goals as goal

pub returns : goal.returns
returns c = λ held.
    subst (λ ps. HoldUnfinished c.args.grants.now ps (parts_in c.args.begun.now.entries)) (sym c.keep_unfinished.ensures)
    (places-filter c.args.grants.now c.args.begun.now.entries 0 c.args.places.now.items c.args.begun.now.entries
    (stand-all c.args.begun.now.entries) held)
