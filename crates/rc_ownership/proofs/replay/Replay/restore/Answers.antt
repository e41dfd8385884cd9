use Rattle.std.proofs.Common.{sym, subst}
use Rattle.rc_ownership.specs.Replay.{IsReplay}
use Rattle.rc_ownership.proofs.Waiting.{replay-restored}
use Rattle.rc_ownership.proofs.replay.Replay.restore.Goals as goal

pub invariant_of-self : goal.invariant_of-self
invariant_of-self c =
    subst (λ rows. IsReplay rows c.self.inside.kept c.self.inside.first 0 c.self.inside.first) (sym c.truncate.ensures.items)
    (replay-restored c.self.inside.rows.items c.self.inside.kept c.self.inside.first c.self.inside.row c.self.inside.place c.self.invariant)
