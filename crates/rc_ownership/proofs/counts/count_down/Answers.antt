use Rattle.std.proofs.Common.{nat_eq, ap, subst, sym, ◌∙◌, arith}
use Rattle.std.specs.Option.{IsSome}
use Rattle.indexmap.specs.IndexMap.{get}
use Rattle.rc_ownership.specs.Counts.{count_in}
use Rattle.rc_ownership.proofs.Marking.{marked-some, marked-none}
use Rattle.rc_ownership.proofs.counts.count_down.Goals as goal
use Rattle.rc_ownership.proofs.counts.count_down.Goals.{then-marks-place, else-marks-place}

pub loop-place-preserved : goal.loop-place-preserved
loop-place-preserved c = record {
  counted = λ term. elim c.if-marks-place.branch [
    | then-marks-place w ↦
        ap (λ counts. count_in counts term) w.counts-is ∙ omega (
          arith,
          (w.lower.ensures.counted term),
          c.loop-place.invariant.counted term,
          marked-some term c.loop-place.place c.args.marks.now c.args.entries.now w.index-entries-place.result c.requires
              c.loop-place-test.true w.if-marks-place.true,
        )
    | else-marks-place w ↦
        ap (λ counts. count_in counts term) w.counts-is ∙ omega (
          arith,
          c.loop-place.invariant.counted term,
          marked-none term c.loop-place.place c.args.marks.now c.args.entries.now c.requires c.loop-place-test.true
              w.if-marks-place.false,
        )
  ];
  kept = λ term was. elim c.if-marks-place.branch [
    | then-marks-place w ↦
        subst (λ counts. IsSome (get nat_eq counts term)) (sym w.counts-is)
        (w.lower.ensures.kept term (c.loop-place.invariant.kept term was))
    | else-marks-place w ↦
        subst (λ counts. IsSome (get nat_eq counts term)) (sym w.counts-is) (c.loop-place.invariant.kept term was)
  ];
}
