use Rattle.std.proofs.Common.{◌≡◌, ◌+◌, ◌≤◌, ap, rules, arith}
use Rattle.rc_model.specs.Tablets.{count_to_mark}
use Rattle.rc_rangetree.specs.Nodes.{leaves}
use Rattle.rc_rangetree.proofs.Forks.{counts_within}
use Rattle.rc_rangetree.proofs.nodes.Node.+mark_crashed.Goals as goal

pub overflow_add-result : goal.overflow_add-result
overflow_add-result g t c =
    let within = counts_within c.args.owner (leaves c.args.self.now) (leaves c.in-Fork.left.value)
    (leaves c.in-Fork.right.value) (ap leaves c.in-Fork.is) in
    let left : c.mark_crashed.result ≡ count_to_mark c.args.owner (leaves c.in-Fork.left.value) = cc in
    let right : c.mark_crashed-in-Fork.result ≡ count_to_mark c.args.owner (leaves c.in-Fork.right.value) = cc in
    let few : c.mark_crashed.result + c.mark_crashed-in-Fork.result ≤ 1024 = omega (arith, within, c.requires.few) in
    search rules
