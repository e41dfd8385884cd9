use Rattle.std.proofs.Common.{◌≡◌, false, sym, ◌∙◌}
use Rattle.rc_wire.specs.SeatCalls.{has_delivered}
use Rattle.rc_wire.proofs.Seeing.{sees-held}
use Rattle.rc_wire.proofs.wire.fetch_next_at.Goals as goal

pub returns-clause-some : goal.returns-clause-some
returns-clause-some g c =
    let looked = c.next_at.new.seat in
    let fresh : has_delivered looked c.in-Some.number ≡ false = sym c.has_delivered.ensures ∙ c.if-has_delivered.false in
    sees-held g.N.Naming.wire.setup c.args.seat.now looked c.hold.new.self c.args.from c.in-Some.number c.in_ok-hold.field-0
    c.next_at.ensures.later (sym c.next_at.ensures.least ∙ c.in-Some.is) fresh
    (c.in_ok-hold.ensures.seen ∙ (c.next_at.ensures.journal ∙ sym c.next_at.ensures.seen)) c.in_ok-hold.ensures.ok
