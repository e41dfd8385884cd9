use Rattle.std.proofs.Common.{◌≡◌, ◌+◌, ℕ, true, false, List, subst, ◌∙◌}
use Rattle.std.specs.Prelude.{IfOk}
use Rattle.rc_model.specs.Model.{Setup}
use Rattle.rc_wire.specs.declared.steps.Step.{Step}
use Rattle.rc_wire.specs.Worked.{AllHaveWorked, SomeWasStuck}
use Rattle.rc_wire.specs.Workload.{workload}
use Rattle.rc_wire.proofs.Fetching.{steps-none}
use Rattle.rc_wire.proofs.world.world_of_threads.Goals as goal

pub run-requires-clause-works : goal.run-requires-clause-works
run-requires-clause-works g c κs within =
    steps-none c.args.hosts c.args.writes c.in_ok-steps.steps.items c.as_slice.result.now c.in_ok-steps.ensures c.as_slice.ensures.value

pub returns-clause-works : goal.returns-clause-works
returns-clause-works g c =
    let hosts = c.args.hosts in
    let all = workload hosts c.args.writes in
    let opening = c.in_ok-opening.opening in
    subst (λ (s : Setup). IfOk c.run.result (λ made. made.1 ≡ true → AllHaveWorked s made.0.events all (hosts + 2)))
    c.in_ok-opening.ensures.setup
    (subst (λ (n : ℕ). IfOk c.run.result (λ made. made.1 ≡ true → AllHaveWorked opening.setup made.0.events all n))
    c.in_ok-opening.ensures.nodes
    (subst (λ (l : List Step). IfOk c.run.result (λ made. made.1 ≡ true →
    AllHaveWorked opening.setup made.0.events l opening.nodes)) (c.as_slice.ensures.value ∙ c.in_ok-steps.ensures)
    c.run.ensures.works))

pub returns-clause-stuck : goal.returns-clause-stuck
returns-clause-stuck g c =
    let hosts = c.args.hosts in
    let all = workload hosts c.args.writes in
    let opening = c.in_ok-opening.opening in
    subst (λ (s : Setup). IfOk c.run.result (λ made. made.1 ≡ false → SomeWasStuck s made.0.events all (hosts + 2)))
    c.in_ok-opening.ensures.setup
    (subst (λ (n : ℕ). IfOk c.run.result (λ made. made.1 ≡ false → SomeWasStuck opening.setup made.0.events all n))
    c.in_ok-opening.ensures.nodes
    (subst (λ (l : List Step). IfOk c.run.result (λ made. made.1 ≡ false →
    SomeWasStuck opening.setup made.0.events l opening.nodes)) (c.as_slice.ensures.value ∙ c.in_ok-steps.ensures)
    c.run.ensures.stuck))
