use Rattle.std.proofs.Common.{◌<◌, length, sym, ap, ◌∙◌, ◌++◌, ◌∷◌, [], subst, List, arith}
use Rattle.rc_model.specs.Model.{Event, MAX_EVENTS}
use Rattle.rc_wire.specs.declared.view.Place.{Place}
use Rattle.rc_wire.specs.Views.{with_own}
use Rattle.rc_wire.specs.Tokens.{place_in}
use Rattle.rc_wire.specs.Index.{lists_of}
use Rattle.rc_wire.specs.Sound.{desk_of, IsHistory}
use Rattle.rc_wire.specs.JournalCalls.{IsStep, Adds}
use Rattle.rc_wire.proofs.Numbered.{place-as, sits-as, sound-push, history-push}
use Rattle.rc_wire.proofs.journal.Journal.push.Goals as goal

pub invariant_of-self-2 : goal.invariant_of-self-2
invariant_of-self-2 g c =
    let name = g.N.Naming.wire in
    let pages = c.self.inside.pages in
    let events = pages.events.items in
    let place = place_in c.seat.inside.pass in
    let sound = c.self.invariant in
    let event = c.args.event in
    let more = c.args.messages.items in
    let step : IsStep name events place event more =
    subst (λ (l : List Event). IsStep name l place event more) (sym c.self.view_is)
    (subst (λ (p : Place). IsStep name c.args.self.now p event more) (sym c.seat.view_is) c.requires) in
    let few : length events < MAX_EVENTS = omega (arith, c.len.ensures, c.if-len-ge-MAX_EVENTS.false, pages.events.ok.0) in
    sound-push name c.self.inside.ledger c.self.inside.keeper c.add.new.keeper c.self.inside.setup events c.add-2.new.self.events.items
    pages.messages.items c.add-2.new.self.messages.items more (lists_of pages.index) (lists_of c.add-2.new.self.index) place event _
    sound step few
    (c.add.ensures.adds (desk_of name events) place sound.kept.desk c.seat.invariant.sits) c.add.ensures.keeper
    (c.add-2.ensures.events ∙ ap (λ l. l ++ event ∷ []) c.reserve.ensures.events)
    (c.add-2.ensures.messages ∙ ap (λ l. l ++ more) c.reserve.ensures.messages) c.add-2.ensures.index

pub invariant_of-seat : goal.invariant_of-seat
invariant_of-seat g c =
    let desk = desk_of g.N.Naming.wire c.self.inside.pages.events.items in
    let place = place_in c.seat.inside.pass in
    let added = c.add.ensures.adds desk place c.self.invariant.kept.desk c.seat.invariant.sits in
    record {
      same = c.add.ensures.seat.0 ∙ c.self.invariant.kept.table;
      empty = c.add.ensures.seat.1;
      sits = sits-as c.add.new.seat (with_own desk place c.args.event) added.sees;
    }

pub returns-clause-ok : goal.returns-clause-ok
returns-clause-ok g c =
    let name = g.N.Naming.wire in
    let pages = c.self.inside.pages in
    let events = pages.events.items in
    let place = place_in c.seat.inside.pass in
    let event = c.args.event in
    let more = c.args.messages.items in
    let desk = desk_of name events in
    let sound = c.self.invariant in
    let added = c.add.ensures.adds desk place sound.kept.desk c.seat.invariant.sits in
    let step : IsStep name events place event more =
    subst (λ (l : List Event). IsStep name l place event more) (sym c.self.view_is)
    (subst (λ (p : Place). IsStep name c.args.self.now p event more) (sym c.seat.view_is) c.requires) in
    let few : length events < MAX_EVENTS = omega (arith, c.len.ensures, c.if-len-ge-MAX_EVENTS.false, pages.events.ok.0) in
    let longer = c.add-2.ensures.events ∙ ap (λ l. l ++ event ∷ []) c.reserve.ensures.events in
    let after = c.add-2.new.self.events.items in
    let place_after = place_in c.add.new.seat in
    let adds : Adds name events place event c.add-2.result after place_after = record {
      number = c.add-2.ensures.number ∙ ap length c.reserve.ensures.events;
      longer = longer;
      seat = place-as c.add.new.seat (with_own desk place event) added.sees;
      tells = record { history = sound.history; seated = added.seated; knows = added.knows };
      history = subst (IsHistory name) (sym longer) (history-push name events place event more sound.history step added.seated few);
    } in
    subst (λ (l : List Event). Adds name l c.args.seat.now event c.add-2.result after place_after) c.self.view_is
    (subst (λ (p : Place). Adds name events p event c.add-2.result after place_after) c.seat.view_is adds)
