use Rattle.std.proofs.Common.{◌≡◌, ◌<◌, ◌-◌, length, drop, sym, ap, subst, ◌∙◌, arith}
use Rattle.std.proofs.lemmas.List.{length-drop}
use Rattle.rc_ownership.specs.Replay.{waiting_from, NoneIsEmpty, IsPlace}
use Rattle.rc_ownership.proofs.Waiting.{passed, none_empty-drop}
use Rattle.rc_ownership.proofs.replay.Replay.begin.Goals as goal

pub loop-self-preserved : goal.loop-self-preserved
loop-self-preserved c =
    let rows = c.loop-self.self-inside.rows.items in
    let row = c.loop-self.self-inside.row in
    let place = c.loop-self.self-inside.place in
    let there : 0 < row = omega (arith, c.loop-self-test.true) in
    let same : drop (row - 1) c.pop_front.new.self.items ≡ drop row rows =
    ap (drop (row - 1)) c.pop_front.ensures.rest ∙ passed rows row there in
    record {
      entries = ap (waiting_from place) same ∙ c.loop-self.invariant.entries;
      none_empty = subst NoneIsEmpty (sym c.pop_front.ensures.rest) (none_empty-drop rows 1 c.loop-self.invariant.none_empty);
      within = omega (arith, there, c.loop-self.invariant.within, ap length c.pop_front.ensures.rest, length-drop 1 rows);
      place = subst (IsPlace place) (sym same) c.loop-self.invariant.place;
    }
