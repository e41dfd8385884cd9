use Rattle.std.proofs.Common.{sym, subst}
use Rattle.rc_ownership.specs.Parts.{parts_in}
use Rattle.rc_ownership.specs.Unfinished.{HoldUntold}
use Rattle.rc_ownership.proofs.Places.{stand-all, untold-filter}
use Rattle.rc_ownership.proofs.unfinished.let_go_told.Goals as goal

pub returns : goal.returns
returns c = λ held.
    subst (λ ps. HoldUntold ps (parts_in c.args.begun.now.entries)) (sym c.keep_untold.ensures)
    (untold-filter c.args.begun.now.entries 0 c.args.places.now.items c.args.begun.now.entries
    (stand-all c.args.begun.now.entries) held)
