use Rattle.std.proofs.Common.{◌≡◌, ◌∙◌, ap, rules}
use Rattle.std.proofs.lemmas.List.Filters.{dedup_is}
use Rattle.rc_model.specs.Ascending.{ascending}
use Rattle.rc_model.proofs.Ascending.{ascending-sorted}
use Rattle.rc_digestpick.proofs.segments.ascending.Goals as goal

pub returns-clause-ok : goal.returns-clause-ok
returns-clause-ok c =
    let copy : c.in_ok-segs.segs.items ≡ c.args.digest.now = search rules in
    dedup_is _ _ _ c.dedup.ensures.filtered ∙ ascending-sorted c.sort_unstable.ensures.permutation
    c.sort_unstable.ensures.sorted ∙ ap ascending copy
