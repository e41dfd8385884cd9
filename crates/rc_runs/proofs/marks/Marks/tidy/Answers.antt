use Rattle.std.proofs.Common.{◌≡◌, ◌⊎◌, ◌∙◌, not, ℕ, List, Bool, filter, subst, length-set, arith}
use Rattle.std.proofs.lemmas.Option.{slice_get_read}
use Rattle.rc_runs.specs.Lanes.{marked}
use Rattle.rc_runs.proofs.LaneLemmas.{tidied_at}
use Rattle.rc_runs.proofs.marks.Marks.tidy.Goals as goal

pub loop-place-preserved : goal.loop-place-preserved
loop-place-preserved c =
    let lines = c.loop-place.self.lines.items in
    let old = c.index_mut.result.now in
    let new = c.tidy.new.self in
    let at = slice_get_read lines c.len-place-end.result c.loop-place.place old (omega (arith, c.loop-place.invariant.long))
    c.loop-place-test.true c.index_mut.ensures.value in
    record {
      marks = c.loop-place.invariant.marks;
      long = length-set lines c.loop-place.place new ∙ c.loop-place.invariant.long;
      tidied = tidied_at c.args.self.now.delivered.items c.loop-place.place old new c.args.self.now.lines.items lines at
          c.tidy.ensures.kind c.tidy.ensures.to
          (subst (λ (marks : List Bool). (new.numbers ≡ old.numbers) ⊎
          (new.numbers ≡ filter (λ (n : ℕ). not (marked marks n)) old.numbers))
          (c.deref.ensures.value ∙ c.loop-place.invariant.marks) c.tidy.ensures.numbers)
          c.loop-place.invariant.tidied;
    }
