use Rattle.std.proofs.Common.{◌≡◌, length, nat_lt, ap, ◌∙◌, arith}
use Rattle.std.proofs.lemmas.Grind.{common_steps}
use Rattle.rc_ownership.proofs.Waiting.{waits}
use Rattle.rc_ownership.proofs.replay.Replay.is_waiting.Goals as goal

pub returns : goal.returns
returns c =
    let count : c.len.result ≡ length c.self.inside.rows.items = grind (arith, common_steps) in
    ap (nat_lt c.self.inside.row) count
    ∙ waits c.self.inside.rows.items c.self.inside.row c.self.inside.place c.self.invariant.row_within c.self.invariant.place_now
    ∙ ap (λ waiting. nat_lt 0 (length waiting.entries)) c.self.view_is
