use Rattle.std.proofs.Common.{◌≡◌, ◌+◌, take, take_all, arith}
use Rattle.rc_headroll.proofs.AliveLemmas.{found-roomier}
use Rattle.rc_headroll.proofs.log.LogHead.make_room.Goals as goal

pub invariant_of-self : goal.invariant_of-self
invariant_of-self c =
    let all : take (c.from-place.result + 1) c.self.inside.alive.items ≡ c.self.inside.alive.items =
    take_all (c.from-place.result + 1) c.self.inside.alive.items
    (omega (arith, c.if-len-place.true, c.len.ensures, c.self.inside.alive.ok.0)) in (
      c.self.invariant.0,
      c.self.invariant.1,
      c.self.invariant.2,
      rw (c.in_ok-resize.ensures.items, all) (found-roomier _ _ _ c.self.invariant.3),
      c.self.invariant.4,
    )
