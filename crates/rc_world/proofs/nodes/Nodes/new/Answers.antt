use Rattle.std.proofs.Common.{ℕ, [], nat_eq, ap, ◌∙◌}
use Rattle.std.proofs.Math.Path.{fun_ext}
use Rattle.std.specs.Map.{lookup}
use Rattle.rc_model.specs.Coordinator.{Coordinator}
use Rattle.rc_model.specs.Model.{HostNode, World, opening}
use Rattle.rc_coordinator.specs.Book.{coordinator_of}
use Rattle.rc_world.specs.WorldView.{host_at}
use Rattle.rc_world.proofs.nodes.Nodes.new.Goals as goal

pub returns-clause-world : goal.returns-clause-world
returns-clause-world g c =
    let with_nodes : (ℕ → HostNode) → Coordinator → World =
    λ hosts coordinator. record (opening c.args.setup) { sent = []; hosts = hosts; coordinator = coordinator } in
    ap (λ hosts. with_nodes hosts (coordinator_of c.new-2.result))
    (fun_ext (λ index. ap (λ entries. host_at c.args.setup index (lookup (nat_eq index) entries)) c.new.ensures.empty))
    ∙ ap (with_nodes (opening c.args.setup).hosts) c.new-2.ensures
