use Rattle.std.proofs.Common.{◌+◌, ◌-◌, ◌<◌, length, drop, sum_by, ap, sym, ◌∙◌, arith}
use Rattle.std.proofs.lemmas.Grind.{common_steps}
use Rattle.rc_ownership.proofs.Waiting.{IsRowAt}
use Rattle.rc_ownership.proofs.ShownParts.{count_waiting, cut-twice}
use Rattle.rc_ownership.proofs.replay.Replay.count.Goals as goal

pub returns-in-Some : goal.returns-in-Some
returns-in-Some c =
    let rows = c.self.inside.rows.items in
    let within : c.self.inside.row < length rows = grind (arith, common_steps) in
    let at : IsRowAt rows c.self.inside.row c.self.inside.place c.in-Some.first.now =
    record { within = within; is = c.in-Some.ensures.lookup; place_now = c.self.invariant.place_now } in
    cut-twice (c.len.result - c.self.inside.place) (sum_by length (drop (c.self.inside.row + 1) rows))
    (length c.args.self.now.entries) c.saturating_add.result c.count_from-others.result c.saturating_add.ensures
    c.count_from-others.ensures
    (sym (ap (λ waiting. length waiting.entries) c.self.view_is)
    ∙ count_waiting rows c.self.inside.row c.self.inside.place c.in-Some.first.now at
    ∙ ap (λ len. len - c.self.inside.place + sum_by length (drop (c.self.inside.row + 1) rows)) (sym c.len.ensures))
