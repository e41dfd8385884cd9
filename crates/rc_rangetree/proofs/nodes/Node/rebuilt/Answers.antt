use Rattle.std.proofs.Common.{◌≡◌, ◌^◌, ◌≤◌, ◌++◌, length, ap, ◌∙◌, arith}
use Rattle.std.proofs.lemmas.Result.{IfOk-weaker}
use Rattle.rc_rangetree.specs.Nodes.{leaves}
use Rattle.rc_rangetree.proofs.Depths.{within_room}
use Rattle.rc_rangetree.proofs.nodes.Node.rebuilt.Goals as goal

pub returns-clause-depth : goal.returns-clause-depth
returns-clause-depth g c =
    let all : c.list_into.new.tablets.items ≡ leaves c.args.self.now =
    c.in_ok-list_into.ensures ∙ ap (λ tablets. tablets ++ leaves c.args.self.now) c.in_ok-tablets.ensures.items in
    let few : length c.as_slice.result.now ≤ 2 ^ 10 =
    omega (arith, c.requires.counted, c.requires.few, ap length c.as_slice.ensures.value, ap length all) in
    IfOk-weaker c.balanced.result _ _ (λ node depth. within_room (depth 10 few)) c.balanced.ensures.depth
