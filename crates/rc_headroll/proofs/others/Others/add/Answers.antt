use Rattle.std.proofs.Common.{◌≡◌, ◌<◌, ◌∷◌, ◌++◌, [], None, length, ◌∙◌, arith}
use Rattle.std.proofs.lemmas.List.{length-set}
use Rattle.rc_headroll.specs.Before.{other_of}
use Rattle.rc_headroll.proofs.OthersLemmas.{placed-push, room-left, pushed-ok}
use Rattle.rc_headroll.proofs.others.Others.add.Goals as goal

pub unwrap-requires : goal.unwrap-requires
unwrap-requires c =
    let none : other_of c.args.self.now.kept c.args.seg ≡ None = c.requires.new in
    let inside : c.args.seg < c.args.self.now.room = c.requires.room in
    let left = room-left c.self.inside.places.items c.self.inside.kept.items c.self.invariant.0 c.args.seg c.args.state
    (rw (← c.self.view_is) at none) (rw (← c.self.view_is) at inside) in
    c.push.ensures.succeeds (omega (arith, left, c.self.inside.kept.ok.0, c.self.invariant.1))

pub invariant_of-self : goal.invariant_of-self
invariant_of-self c =
    let none : other_of c.args.self.now.kept c.args.seg ≡ None = c.requires.new in
    let inside : c.args.seg < c.args.self.now.room = c.requires.room in
    let left = room-left c.self.inside.places.items c.self.inside.kept.items c.self.invariant.0 c.args.seg c.args.state
    (rw (← c.self.view_is) at none) (rw (← c.self.view_is) at inside) in
    let pushed : c.push.new.self.items ≡ c.self.inside.kept.items ++ (c.args.seg, c.args.state) ∷ [] =
    pushed-ok c.push.result c.push.new.self.items c.self.inside.kept.items _
    (c.push.ensures.succeeds (omega (arith, left, c.self.inside.kept.ok.0, c.self.invariant.1))) c.push.ensures.items in
    let place : c.len.result ≡ length c.self.inside.kept.items = c.len.ensures ∙ c.self.inside.kept.ok.0 in (
      rw (pushed, place, c.from.ensures)
          (placed-push c.self.inside.places.items c.self.inside.kept.items c.self.invariant.0 c.args.seg c.args.state
          (rw (← c.self.view_is) at none) (rw (← c.self.view_is) at inside)),
      omega (
        arith,
        c.self.invariant.1,
        c.push.ensures.capacity,
        length-set c.self.inside.places.items c.from.result c.len.result,
      ),
    )
