use Rattle.std.proofs.Common.{ap}
use Rattle.std.proofs.lemmas.Result.{on_ok_weaker}
use Rattle.rc_rangetree.specs.Nodes.{leaves}
use Rattle.rc_rangetree.proofs.Forks.{owned_both}
use Rattle.rc_rangetree.proofs.nodes.Node.+list_owned_into.Goals as goal

pub returns-in_ok-list_owned_into-in-Fork : goal.returns-in_ok-list_owned_into-in-Fork
returns-in_ok-list_owned_into-in-Fork g t c =
    on_ok_weaker c.list_owned_into-in-Fork.result
    (owned_both c.args.owner _ c.list_owned_into.new.tablets.items _ _ (leaves c.in-Fork.left.value)
    (leaves c.in-Fork.right.value) (ap leaves c.in-Fork.is)
    (rw c.deref.ensures at c.in_ok-list_owned_into-in-Fork.ensures))
    (rw c.deref-in-Fork.ensures at c.list_owned_into-in-Fork.ensures)
