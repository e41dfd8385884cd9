use Rattle.std.proofs.Common.{ap, ◌∙◌, subst, List}
use Rattle.rc_types.specs.declared.events.Event.{Event}
use Rattle.rc_wire.specs.declared.view.Place.{Place}
use Rattle.rc_wire.specs.Views.{looked}
use Rattle.rc_wire.specs.Tokens.{place_in}
use Rattle.rc_wire.specs.Sound.{desk_of}
use Rattle.rc_wire.specs.JournalCalls.{Tells, having_seen}
use Rattle.rc_wire.proofs.Numbered.{place-as, sits-as}
use Rattle.rc_wire.proofs.journal.Journal.look.Goals as goal

pub invariant_of-self : goal.invariant_of-self
invariant_of-self g c =
    let sound = c.self.invariant in
    let desk = desk_of g.N.Naming.wire c.self.inside.pages.events.items in
    let seen = c.see.ensures.sees desk (place_in c.seat.inside.pass) sound.kept.desk c.seat.invariant.sits in
    record {
      opened = sound.opened;
      history = sound.history;
      kept = record { table = sound.kept.table; pass = c.see.ensures.keeper; desk = seen.kept };
      sends = sound.sends;
    }

pub invariant_of-seat : goal.invariant_of-seat
invariant_of-seat g c =
    let sound = c.self.invariant in
    let desk = desk_of g.N.Naming.wire c.self.inside.pages.events.items in
    let place = place_in c.seat.inside.pass in
    let seen = c.see.ensures.sees desk place sound.kept.desk c.seat.invariant.sits in
    record {
      same = c.see.ensures.seat.0 ∙ sound.kept.table;
      empty = c.see.ensures.seat.1;
      sits = sits-as c.see.new.seat (looked desk place) seen.sees;
    }

pub returns-clause-seat : goal.returns-clause-seat
returns-clause-seat g c =
    let desk = desk_of g.N.Naming.wire c.self.inside.pages.events.items in
    let place = place_in c.seat.inside.pass in
    let seen = c.see.ensures.sees desk place c.self.invariant.kept.desk c.seat.invariant.sits in
    place-as c.see.new.seat (looked desk place) seen.sees
    ∙ (ap (λ (p : Place). having_seen p c.self.inside.pages.events.items) c.seat.view_is
    ∙ ap (having_seen c.args.seat.now) c.self.view_is)

pub returns-clause-tells : goal.returns-clause-tells
returns-clause-tells g c =
    let name = g.N.Naming.wire in
    let events = c.self.inside.pages.events.items in
    let place = place_in c.seat.inside.pass in
    let seen = c.see.ensures.sees (desk_of name events) place c.self.invariant.kept.desk c.seat.invariant.sits in
    let tells : Tells name events place = record { history = c.self.invariant.history; seated = seen.seated; knows = seen.knows } in
    subst (λ (l : List Event). Tells name l c.args.seat.now) c.self.view_is
    (subst (λ (p : Place). Tells name events p) c.seat.view_is tells)
