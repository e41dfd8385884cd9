use Rattle.std.proofs.Common.{◌≤◌, ◌^◌, length, sym, ap, subst, arith}
use Rattle.rc_rangetree.specs.Ranges.{AreTablets}
use Rattle.rc_rangetree.proofs.Depths.{within_room}
use Rattle.rc_rangetree.proofs.trees.RangeTree.from_tablets.Goals as goal

pub invariant_of-result : goal.invariant_of-result
invariant_of-result g c =
    let few : length c.args.tablets.now ≤ 2 ^ 10 = omega (arith, c.requires.few) in
    record {
      tablets = subst AreTablets (sym c.in_ok-root.ensures.list) c.requires;
      bounds = c.in_ok-root.ensures.bounds;
      shallow = omega (arith, within_room (c.in_ok-root.ensures.depth 10 few));
      counted = ap length (sym c.in_ok-root.ensures.list);
    }
