use Rattle.std.proofs.Common.{◌≡◌, ◌+◌, ◌≤◌, ℕ, true, false, length, ap, sym, ◌∙◌, refl, subst, arith}
use Rattle.rc_history.specs.Lives.{is_masters}
use Rattle.rc_world.specs.NodeView.{node_seen}
use Rattle.rc_process.specs.View.{ProcessData, process_seen, written_down}
use Rattle.rc_process.proofs.Waiting.{masters_pushed, others_pushed, masters_held, others_held, started_between, is_given}
use Rattle.rc_process.proofs.process.Process.step.Goals as goal

pub invariant_of-self-then-is_masters : goal.invariant_of-self-then-is_masters
invariant_of-self-then-is_masters g c =
    let grows : c.self.inside.written ≤ c.in-Some.written = omega (arith, c.in-Some.ensures) in
    let on : (c.self.inside.started ≤ c.started_next-started.result) × (c.started_next-started.result ≤ c.in-Some.written) =
    started_between (record (process_seen c.args.self.now) { started = c.self.inside.started }) c.args.work.now c.self.inside.started
    c.in-Some.written c.started_next-started.result c.started_next-started.ensures refl
    (omega (arith, c.self.invariant.early, grows)) in
    masters_pushed _ _ _ _ _ _ _ _ _ _ _ _ _ c.self.invariant c.in-Some-checked_add.ensures.1 grows on.0 on.1 c.reserve.ensures.items
    c.reserve-2.ensures.items c.new.ensures c.push_back_reserved.ensures.items

pub invariant_of-self-else-is_masters : goal.invariant_of-self-else-is_masters
invariant_of-self-else-is_masters g c =
    let grows : c.self.inside.written ≤ c.in-Some.written = omega (arith, c.in-Some.ensures) in
    let on : (c.self.inside.started ≤ c.started_next-started.result) × (c.started_next-started.result ≤ c.in-Some.written) =
    started_between (record (process_seen c.args.self.now) { started = c.self.inside.started }) c.args.work.now c.self.inside.started
    c.in-Some.written c.started_next-started.result c.started_next-started.ensures refl
    (omega (arith, c.self.invariant.early, grows)) in
    others_pushed _ _ _ _ _ _ _ _ _ _ _ _ _ c.self.invariant c.in-Some-checked_add.ensures.1 grows on.0 on.1 c.reserve-2.ensures.items
    c.reserve.ensures.items c.new-else-is_masters.ensures c.push_back_reserved-else-is_masters.ensures.items

pub returns-then-is_masters-clause-taken : goal.returns-then-is_masters-clause-taken
returns-then-is_masters-clause-taken g c =
    let down : c.args.more ≡ length (written_down (node_seen c.self.inside.node) c.args.work.now) =
    subst (λ (v : ProcessData). c.args.more ≡ length (written_down (node_seen v.node) c.args.work.now)) (sym c.self.view_is)
    c.requires.down in
    let its : is_masters (node_seen c.self.inside.node) c.args.work.now ≡ true =
    sym c.is_masters-is_masters.ensures ∙ c.if-is_masters.true in
    rw (← c.self.view_is)
    (is_given _ c.args.work.now _ _ _ _ c.in_default-step_into.ensures.state
    (c.in-Some.ensures.1 ∙ ap (λ (n : ℕ). c.self.inside.written + n) down)
    c.started_next-started.ensures
    (rw its (masters_held _ _ _ _ _ _ _ _ _ _ _ _ _ c.self.invariant c.in-Some-checked_add.ensures.1 c.reserve.ensures.items
    c.reserve-2.ensures.items c.new.ensures c.push_back_reserved.ensures.items c.new-messages.ensures.items
    c.in_default-step_into.ensures.sends)))

pub returns-else-is_masters-clause-taken : goal.returns-else-is_masters-clause-taken
returns-else-is_masters-clause-taken g c =
    let down : c.args.more ≡ length (written_down (node_seen c.self.inside.node) c.args.work.now) =
    subst (λ (v : ProcessData). c.args.more ≡ length (written_down (node_seen v.node) c.args.work.now)) (sym c.self.view_is)
    c.requires.down in
    let its : is_masters (node_seen c.self.inside.node) c.args.work.now ≡ false =
    sym c.is_masters-is_masters.ensures ∙ c.if-is_masters.false in
    let written : c.in-Some.written
    ≡ c.self.inside.written + length (written_down (node_seen c.self.inside.node) c.args.work.now) =
    c.in-Some.ensures.1 ∙ ap (λ (n : ℕ). c.self.inside.written + n) down in
    rw (← c.self.view_is)
    (is_given _ c.args.work.now _ _ _ _ c.in_default-step_into.ensures.state written
    c.started_next-started.ensures
    (rw (its, ← written) (others_held _ _ _ _ _ _ _ _ _ _ _ _ _ _ c.self.invariant c.in-Some-checked_add.ensures.1
    c.reserve-2.ensures.items c.reserve.ensures.items c.new-else-is_masters.ensures c.push_back_reserved-else-is_masters.ensures.items
    c.new-messages.ensures.items c.in_default-step_into.ensures.sends)))
