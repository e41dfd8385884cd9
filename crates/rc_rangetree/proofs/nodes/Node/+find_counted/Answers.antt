use Rattle.std.proofs.Common.{◌≤◌, ap, rules, arith}
use Rattle.rc_rangetree.specs.declared.limits.TheConstants.{MAX_FORKS}
use Rattle.rc_rangetree.specs.declared.nodes.Node.{the_lemmas}
use Rattle.rc_rangetree.specs.Nodes.{node_depth, IsSearchTree}
use Rattle.rc_rangetree.proofs.Forks.{is_fork, left_tree, right_tree, find_left, find_right}
use Rattle.rc_rangetree.proofs.Depths.{passed_left, passed_right}
use Rattle.rc_rangetree.proofs.nodes.Node.+find_counted.Goals as goal
use Rattle.rc_rangetree.proofs.nodes.Node.+find_counted.Goals.{then-is_before, else-is_before}

pub find_counted-requires : goal.find_counted-requires
find_counted-requires g t c κs within =
    let tree : IsSearchTree c.deref.result.now = left_tree c.requires.tree c.in-Fork.is _ c.deref.ensures in
    let shallow : node_depth c.deref.result.now ≤ MAX_FORKS =
    omega (arith, c.requires.shallow, ap node_depth c.in-Fork.is, ap node_depth c.deref.ensures) in
    search (rules, the_lemmas)

pub find_counted-requires-else-is_before : goal.find_counted-requires-else-is_before
find_counted-requires-else-is_before g t c κs within =
    let tree : IsSearchTree c.deref-else-is_before.result.now = right_tree c.requires.tree c.in-Fork.is _ c.deref-else-is_before.ensures in
    let shallow : node_depth c.deref-else-is_before.result.now ≤ MAX_FORKS =
    omega (arith, c.requires.shallow, ap node_depth c.in-Fork.is, ap node_depth c.deref-else-is_before.ensures) in
    search (rules, the_lemmas)

pub returns-after-is_before-clause-found : goal.returns-after-is_before-clause-found
returns-after-is_before-clause-found g t c =
    let f = is_fork c.requires.tree c.in-Fork.is in
    elim c.if-is_before.branch [
      | then-is_before w ↦ cc (find_left f w.if-is_before.ensures, w.find_counted.ensures.found)
      | else-is_before w ↦ cc (find_right f w.if-is_before.ensures, w.find_counted-else-is_before.ensures.found)
    ]

pub returns-after-is_before-clause-counted : goal.returns-after-is_before-clause-counted
returns-after-is_before-clause-counted g t c =
    elim c.if-is_before.branch [
      | then-is_before w ↦
          cc (passed_left c.requires.tree c.in-Fork.is w.if-is_before.ensures _ w.deref.ensures, w.find_counted.ensures.counted)
      | else-is_before w ↦
          cc (
            passed_right c.requires.tree c.in-Fork.is w.if-is_before.ensures _ w.deref-else-is_before.ensures,
            w.find_counted-else-is_before.ensures.counted,
          )
    ]
