use Rattle.std.proofs.Common.{◌≡◌, ◌+◌, suc, inl, inr, take, take_all, slice_get, Some, sym, ap, subst, ◌∙◌, arith}
use Rattle.std.proofs.lemmas.Option.{slice_get-get_or}
use Rattle.rc_ownership.specs.Groups.{group_of}
use Rattle.rc_ownership.specs.Slots.{slot_of}
use Rattle.rc_ownership.proofs.Bounding.{set-there, set-here, taken-more}
use Rattle.rc_ownership.proofs.groups.raise_bounds.Goals as goal

pub loop-entry-preserved : goal.loop-entry-preserved
loop-entry-preserved c =
    let here : slice_get c.args.newly.now c.loop-entry.entry-index ≡ Some c.entry-item.result =
    slice_get-get_or c.args.newly.now c.loop-entry.entry-index _ c.loop-entry-test.true ∙ ap Some (sym c.entry-item.is) in
    let one_more : c.loop-entry.entry-index + 1 ≡ suc c.loop-entry.entry-index = omega arith in
    record {
      raised = λ place entry bound at there.
          let group = group_of (slot_of entry) in
          let there_then = subst (λ bounds. slice_get bounds group ≡ Some bound) c.raise_bound.ensures there in
          let among = subst (λ n. slice_get (take n c.args.newly.now) place ≡ Some entry) one_more at in
          elim (taken-more c.args.newly.now c.loop-entry.entry-index place entry c.entry-item.result among here) [
            | inl earlier ↦ elim (set-there c.loop-entry.bounds.items c.group_of.result group c.args.durable bound there_then) [
              | inl same ↦ same
              | inr before ↦ c.loop-entry.invariant.raised place entry bound earlier before
            ]
            | inr last ↦ set-here c.loop-entry.bounds.items c.group_of.result c.args.durable bound
                (ap (slice_get _) (c.group_of.ensures ∙ ap (λ e. group_of (slot_of e)) (sym last)) ∙ there_then)
          ];
      others = λ group bound there.
          let there_then = subst (λ bounds. slice_get bounds group ≡ Some bound) c.raise_bound.ensures there in
          elim (set-there c.loop-entry.bounds.items c.group_of.result group c.args.durable bound there_then) [
            | inl same ↦ inl same
            | inr before ↦ c.loop-entry.invariant.others group bound before
          ];
    }

pub returns-clause-raised : goal.returns-clause-raised
returns-clause-raised c place entry bound at there =
    c.loop-entry.invariant.raised place entry bound
    (subst (λ newly. slice_get newly place ≡ Some entry)
    (sym (take_all c.loop-entry.entry-index c.args.newly.now (omega (arith, c.loop-entry-test.false)))) at)
    there
