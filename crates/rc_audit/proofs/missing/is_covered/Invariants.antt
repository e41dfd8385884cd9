use Rattle.std.proofs.Common.{unwrap_or}
use Rattle.std.specs.Ordering.{nat_cmp}
use Rattle.std.specs.BTreeMap.{get}
use Rattle.rc_audit.proofs.MissingLemmas.{AllBelow, AllFound}
use Rattle.rc_audit.proofs.missing.is_covered.Given as goal

-- once the rest is covered, all is; and a look-up finds each of the rest
abbrev pub invariant-loop-seg : goal.invariant-loop-seg
invariant-loop-seg l = record {
  covered :
      AllBelow (λ s. unwrap_or (get nat_cmp l.reaches s) 0) l.seg-iterator →
      AllBelow (λ s. unwrap_or (get nat_cmp l.reaches s) 0) l.tops.entries;
  found : AllFound (get nat_cmp l.tops) l.seg-iterator;
}
