use Rattle.std.proofs.Common.{sym, ap, ◌∙◌, ◌++◌, ◌∷◌, []}
use Rattle.rc_wire.specs.Views.{new_place}
use Rattle.rc_wire.specs.JournalCalls.{seated, new_places}
use Rattle.rc_wire.proofs.Numbered.{place-as, sits-as, places-push}
use Rattle.rc_wire.proofs.journal.deal.Goals as goal

pub new-requires : goal.new-requires
new-requires g c =
    let deals = c.deal.ensures.deals (seated g.N.Naming.wire.setup c.loop.counter) c.loop.invariant.desk in record {
      same = c.deal.ensures.seat.0 ∙ c.requires.table;
      empty = c.deal.ensures.seat.1;
      sits = sits-as c.deal.result (new_place c.loop.counter) deals.1;
    }

pub loop-preserved : goal.loop-preserved
loop-preserved g c =
    let deals = c.deal.ensures.deals (seated g.N.Naming.wire.setup c.loop.counter) c.loop.invariant.desk in
    let dealt_is = c.new.ensures ∙ place-as c.deal.result (new_place c.loop.counter) deals.1 in record {
      token = c.deal.ensures.keeper;
      desk = deals.0;
      tokens =
          c.in_ok-push.ensures.items
          ∙ (ap (λ l. l ++ c.new.result ∷ []) c.loop.invariant.tokens
          ∙ (ap (λ p. new_places c.loop.counter ++ p ∷ []) dealt_is ∙ sym (places-push c.loop.counter)));
    }
