use Rattle.std.proofs.Common.{◌∷◌, [], map, ap, sym, ◌∙◌}
use Rattle.std.proofs.lemmas.List.{map-append}
use Rattle.rc_model.specs.Ownership.{under_term, entries_that_came}
use Rattle.rc_ownership.proofs.Waiting.{joined-push}
use Rattle.rc_ownership.proofs.replay.joined_rows.Goals as goal

pub loop-row-preserved : goal.loop-row-preserved
loop-row-preserved c =
    record {
      entries =
          joined-push c.args.term c.loop-row.joined.items c.push_row.new.joined.items
          (map (λ row. row.now) c.loop-row.yielded) c.in-Some.row.now
          c.loop-row.invariant.entries c.in_ok-push_row.ensures.entries
          ∙ ap (λ rows. map (under_term c.args.term) (entries_that_came rows))
          (sym (map-append (λ row. row.now) c.loop-row.yielded (c.in-Some.row ∷ [])));
      none_empty = c.push_row.ensures.none_empty c.loop-row.invariant.none_empty;
    }
