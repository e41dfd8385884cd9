use Rattle.std.proofs.Common.{arith, length-take, length-drop}
use Rattle.std.proofs.lemmas.Result.{IfOk-weaker}
use Rattle.rc_types.specs.declared.rows.Tablet.{Tablet}
use Rattle.rc_rangetree.proofs.Depths.{depth_of_halves}
use Rattle.rc_rangetree.proofs.nodes.+balanced.Goals as goal

pub returns-in_ok-right-in_default-clause-depth : goal.returns-in_ok-right-in_default-clause-depth
returns-in_ok-right-in_default-clause-depth g t c =
    IfOk-weaker c.fork.result _ _ (λ node depth forks few.
    let halves = depth_of_halves _ _ _ _ _ forks c.in_default.len_at_least (omega (arith, length-take {A = Tablet}))
    (omega (arith, length-drop {A = Tablet})) c.in_ok-left-in_default.ensures.depth c.in_ok-right-in_default.ensures.depth
    few in omega (arith, halves, depth)) c.fork.ensures.depth
