use Rattle.std.proofs.Common.{[], ◌∷◌, ◌++◌, ◌∙◌, ap, sym, append_assoc}
use Rattle.std.specs.Slice.Iter.{iter_rest}
use Rattle.std.proofs.lemmas.List.{append-nil}
use Rattle.rc_audit.proofs.RecoveryLemmas.{has_reaches_none, has_reaches_more, has_reaches_all}
use Rattle.rc_audit.proofs.recoveries.reaches.Goals as goal

pub loop-row-init : goal.loop-row-init
loop-row-init c = (
  [],
  append-nil _ ∙ ap (λ x. iter_rest x.iter) c.into_iter-row-iterator.ensures.into_iter_gives ∙
      ap (λ x. iter_rest x) c.rev-row-items.ensures.source ∙ c.iter.ensures.rest,
  has_reaches_none _ c.new-reaches.ensures.empty,
)

pub loop-row-preserved : goal.loop-row-preserved
loop-row-preserved c =
    let so_far = c.loop-row.invariant in (
      c.in-Some.row.now ∷ so_far.0,
      sym (append_assoc (iter_rest c.next.new.self.iter) (c.in-Some.row.now ∷ []) so_far.0) ∙
          ap (λ x. x ++ so_far.0) (sym c.in-Some.ensures.steps) ∙ so_far.1,
      has_reaches_more _ _ _ so_far.0 so_far.2 c.in_ok-raise.ensures.keys c.in_ok-raise.ensures.raised.each,
    )

pub returns : goal.returns
returns c = let so_far = c.loop-row.invariant in has_reaches_all _ _ so_far.0 _ c.in-None.ensures.steps.0 so_far.1 so_far.2
