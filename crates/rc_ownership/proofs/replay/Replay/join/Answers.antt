use Rattle.std.proofs.Common.{◌≡◌, ◌++◌, sym, subst, arith}
use Rattle.std.proofs.lemmas.Grind.{common_steps}
use Rattle.rc_ownership.specs.Replay.{IsReplay}
use Rattle.rc_ownership.proofs.Waiting.{replay-joined}
use Rattle.rc_ownership.proofs.replay.Replay.join.Goals as goal

pub invariant_of-self-2 : goal.invariant_of-self-2
invariant_of-self-2 c =
    let appended : c.append.new.self.items ≡ c.self.inside.rows.items ++ c.in_ok-joined.joined.items = grind (arith, common_steps) in
    subst (λ rows. IsReplay rows c.self.inside.kept c.self.inside.first c.self.inside.row c.self.inside.place) (sym appended)
    (replay-joined c.self.inside.rows.items c.in_ok-joined.joined.items c.self.inside.kept c.self.inside.first
    c.self.inside.row c.self.inside.place
    c.self.invariant c.in_ok-joined.ensures.none_empty)
