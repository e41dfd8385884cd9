use Rattle.rc_headroll.proofs.AliveLemmas.{found-kept}
use Rattle.rc_headroll.proofs.log.LogHead.set_found.Goals as goal

pub invariant_of-self : goal.invariant_of-self
invariant_of-self c = (
  c.self.invariant.0,
  c.self.invariant.1,
  c.self.invariant.2,
  rw c.from-place.ensures (found-kept _ _ c.args.seg c.args.found c.self.invariant.3 (rw (← c.self.view_is) at c.requires)),
  c.self.invariant.4,
)
