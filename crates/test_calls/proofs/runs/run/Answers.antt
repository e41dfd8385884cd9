use Rattle.test_calls.proofs.Fetching.{idle_opened}
use Rattle.test_calls.proofs.runs.run.Goals as goal

pub run_nodes-requires-clause-idle : goal.run_nodes-requires-clause-idle
run_nodes-requires-clause-idle g c κs within =
    idle_opened g.N.Naming.wire.nodes c.in_ok-wire.seats.items c.in_ok-wire.ensures
