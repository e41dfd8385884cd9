use Rattle.std.proofs.Common.{◌≤◌, subst, sym, unwrap_or, refl}
use Rattle.std.specs.Ordering.{nat_cmp}
use Rattle.std.specs.BTreeMap.{get}
use Rattle.rc_audit.proofs.MissingLemmas.{AllBelow, AllFound, below_from_all, found_from_all, not_covered}
use Rattle.rc_audit.proofs.missing.is_covered.Goals as goal

pub loop-seg-init : goal.loop-seg-init
loop-seg-init c =
    let gives = c.into_iter-seg-iterator.ensures.into_iter_gives in
    record {
      covered = λ all. subst (AllBelow (λ s. unwrap_or (get nat_cmp c.args.reaches.now s) 0)) gives.0 all;
      found =
          subst (AllFound (get nat_cmp c.args.tops.now)) (sym gives.0)
          (found_from_all (get nat_cmp c.args.tops.now) c.args.tops.now.entries gives.6);
    }

pub returns-then-number_of-top : goal.returns-then-number_of-top
returns-then-number_of-top c =
    let found = (subst (AllFound (get nat_cmp c.args.tops.now)) c.in-Some.ensures.steps c.loop-seg.invariant.found).0 in
    let limit = unwrap_or (get nat_cmp c.args.reaches.now c.in-Some.seg.now) 0 in (
      λ no s. cc,
      λ all.
          absurd (not_covered (get nat_cmp c.args.tops.now c.in-Some.seg.now) c.in-Some.top.now limit found
          (subst (λ n. n ≤ c.in-Some.top.now) c.number_of.ensures c.if-number_of-top.true) (all c.in-Some.seg.now)),
    )

pub returns : goal.returns
returns c = (
  λ is s.
      below_from_all (λ q. unwrap_or (get nat_cmp c.args.reaches.now q) 0) c.args.tops.now.entries s
      (c.loop-seg.invariant.covered (subst (λ x. AllBelow (λ q. unwrap_or (get nat_cmp c.args.reaches.now q) 0) x)
      (sym c.in-None.ensures.steps.0) tt)),
  λ all. refl,
)
