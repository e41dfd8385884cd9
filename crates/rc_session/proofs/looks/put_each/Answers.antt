use Rattle.std.proofs.Common.{◌≡◌, ◌++◌, ◌+◌, ◌<◌, ℕ, List, length, take, get_or, arith}
use Rattle.std.proofs.lemmas.Grind.{common_steps}
use Rattle.std.specs.List.{flat_map}
use Rattle.rc_codec.specs.Fields.{tablet_code}
use Rattle.rc_session.proofs.looks.put_each.Goals as goal

one_more : {X A : Type 0} (f : X → List A) (xs : List X) (i : ℕ) (d : X) (before now after : List A) →
    i < length xs → now ≡ before ++ flat_map f (take i xs) → after ≡ now ++ f (get_or xs i d) →
    after ≡ before ++ flat_map f (take (i + 1) xs)
one_more f xs i d before now after below is more = grind (arith, common_steps)

pub loop-tablet-preserved : goal.loop-tablet-preserved
loop-tablet-preserved c =
    one_more tablet_code c.args.tablets.now c.loop-tablet.tablet-index _ _ _ _ (omega arith) c.loop-tablet.invariant
    c.in_ok-put_tablet.ensures
