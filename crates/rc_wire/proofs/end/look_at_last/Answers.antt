use Rattle.std.proofs.Common.{All, List, sym, ◌∙◌, subst}
use Rattle.std.proofs.lemmas.List.Elements.{All-push}
use Rattle.rc_types.specs.declared.events.Event.{Event}
use Rattle.rc_wire.specs.SeatCalls.{IsSeat, Covers}
use Rattle.rc_wire.proofs.end.look_at_last.Goals as goal

pub loop-seat-preserved : goal.loop-seat-preserved
loop-seat-preserved g c =
    let setup = g.N.Naming.wire.setup in
    let covers : Covers setup c.args.journal.now c.in-Some.seat =
    subst (λ (l : List Event). Covers setup l c.in-Some.seat) c.loop-seat.invariant.same c.look.ensures.covers in
    record {
      same = c.look.ensures.journal ∙ c.loop-seat.invariant.same;
      covers = λ rest. c.loop-seat.invariant.covers
          (subst (All (Covers setup c.args.journal.now)) (sym c.in-Some.ensures.items)
          (All-push (Covers setup c.args.journal.now) c.pop.new.self.items c.in-Some.seat rest covers));
      whole = λ rest. c.loop-seat.invariant.whole
          (subst (All (IsSeat setup)) (sym c.in-Some.ensures.items)
          (All-push (IsSeat setup) c.pop.new.self.items c.in-Some.seat rest c.look.ensures.whole));
    }
