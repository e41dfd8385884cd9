use Rattle.std.proofs.Common.{◌+◌, ◌<◌, ◌≤◌, length, take, ap, ◌∙◌, arith}
use Rattle.std.proofs.lemmas.Grind.{common_steps}
use Rattle.std.specs.Prelude.{slice_get, drop}
use Rattle.rc_ownership.specs.Replay.{Waiting, waiting_from}
use Rattle.rc_ownership.proofs.Waiting.{IsRowAt, first_waiting, next_place, next_row, replay-next_row}
use Rattle.rc_ownership.proofs.replay.Replay.next.Goals as goal

pub returns-then-self-count-clause-first : goal.returns-then-self-count-clause-first
returns-then-self-count-clause-first c =
    let within : c.self.inside.row < length c.self.inside.rows.items = grind (arith, common_steps) in
    let at : IsRowAt c.self.inside.rows.items c.self.inside.row c.self.inside.place c.in-Some.row.now =
    record { within = within; is = c.in-Some.ensures.lookup; place_now = c.self.invariant.place_now } in
    c.in_ok-entry.ensures
    ∙ first_waiting c.self.inside.rows.items c.self.inside.row c.self.inside.place c.in-Some.row.now at
    ∙ ap (λ waiting. slice_get waiting.entries 0) c.self.view_is

pub returns-then-self-count-clause-rest : goal.returns-then-self-count-clause-rest
returns-then-self-count-clause-rest c =
    ap (λ entries. let waiting : Waiting = record {
      entries = entries;
      before = waiting_from c.self.inside.first
          (take c.self.inside.kept c.self.inside.rows.items);
    } in waiting)
    (next_place c.self.inside.rows.items c.self.inside.row c.self.inside.place)
    ∙ ap (λ view. let waiting : Waiting = record { entries = drop 1 view.entries; before = view.before } in waiting) c.self.view_is

pub invariant_of-self-2 : goal.invariant_of-self-2
invariant_of-self-2 c =
    let within : c.self.inside.row < length c.self.inside.rows.items = grind (arith, common_steps) in
    replay-next_row c.self.inside.rows.items c.self.inside.kept c.self.inside.first c.self.inside.row
    c.self.inside.place c.self.invariant within

pub returns-clause-first : goal.returns-clause-first
returns-clause-first c =
    let within : c.self.inside.row < length c.self.inside.rows.items = grind (arith, common_steps) in
    let at : IsRowAt c.self.inside.rows.items c.self.inside.row c.self.inside.place c.in-Some.row.now =
    record { within = within; is = c.in-Some.ensures.lookup; place_now = c.self.invariant.place_now } in
    c.in_ok-entry.ensures
    ∙ first_waiting c.self.inside.rows.items c.self.inside.row c.self.inside.place c.in-Some.row.now at
    ∙ ap (λ waiting. slice_get waiting.entries 0) c.self.view_is

pub returns-clause-rest : goal.returns-clause-rest
returns-clause-rest c =
    let within : c.self.inside.row < length c.self.inside.rows.items = grind (arith, common_steps) in
    let at : IsRowAt c.self.inside.rows.items c.self.inside.row c.self.inside.place c.in-Some.row.now =
    record { within = within; is = c.in-Some.ensures.lookup; place_now = c.self.invariant.place_now } in
    let last : length c.in-Some.row.now ≤ c.self.inside.place + 1 = omega (arith, c.len-count.ensures, c.if-self-count.false) in
    ap (λ entries. let waiting : Waiting = record {
      entries = entries;
      before = waiting_from c.self.inside.first
          (take c.self.inside.kept c.self.inside.rows.items);
    } in waiting)
    (next_row c.self.inside.rows.items c.self.inside.row c.self.inside.place c.in-Some.row.now at last)
    ∙ ap (λ view. let waiting : Waiting = record { entries = drop 1 view.entries; before = view.before } in waiting) c.self.view_is
