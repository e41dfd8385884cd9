use Rattle.std.proofs.Common.{◌≡◌, ◌++◌, ◌∷◌, [], length, take, vec_capacity, ap, sym, subst, ◌∙◌, arith}
use Rattle.std.proofs.lemmas.Grind.{common_steps}
use Rattle.rc_model.specs.Ownership.{has_part, new_part}
use Rattle.rc_ownership.specs.Parts.{who_fetched, parts_in, undone, IsPartTable, HasUntold}
use Rattle.rc_ownership.proofs.PartTables.{parts_in-insert, inserted-last}
use Rattle.rc_ownership.proofs.Room.{room-push}
use Rattle.rc_ownership.proofs.Undone.{same_fetched, table-insert, untold-insert, undone-insert}
use Rattle.rc_ownership.proofs.parts.Parts.begin_part.Goals as goal

pub invariant_of-self-2 : goal.invariant_of-self-2
invariant_of-self-2 c =
    let fresh = ap (λ fetched. has_part (who_fetched fetched) c.args.part.term) c.self.view_is ∙ c.requires in
    let pushed : c.push.new.self.items ≡ c.self.inside.unfinished.items ++ length c.self.inside.begun.entries ∷ [] =
    grind (arith, common_steps) in
    let pushed_end : c.push-2.new.self.items ≡ c.self.inside.untold.items ++ length c.self.inside.begun.entries ∷ [] =
    grind (arith, common_steps) in
    let entries = c.insert.new.self.entries in
    let last = inserted-last c.self.inside.begun c.insert.new.self c.args.part.term c.in_ok-begun.begun
    c.self.invariant.table.under_terms fresh c.in_ok-insert.ensures.entries in
    let long = ap length c.reserve-3.ensures.items in
    record {
      table = subst (λ touched. IsPartTable entries touched c.self.inside.kept c.self.inside.grants c.push.new.self.items
          c.self.inside.kept_unfinished) (sym c.reserve-3.ensures.items)
          (table-insert c.self.inside.begun c.insert.new.self c.args.part.term c.in_ok-begun.begun c.self.inside.touched.items
          c.self.inside.kept c.self.inside.grants c.self.inside.unfinished.items c.push.new.self.items
          c.self.inside.kept_unfinished c.self.invariant.table fresh c.in_ok-insert.ensures.entries
          (ap (λ state. state.part.term) (sym c.in_ok-begun.ensures)) pushed);
      ends = subst (λ touched. HasUntold entries touched c.self.inside.kept c.push-2.new.self.items c.self.inside.kept_untold)
          (sym c.reserve-3.ensures.items)
          (untold-insert c.self.inside.begun c.insert.new.self c.args.part.term c.in_ok-begun.begun c.self.inside.touched.items
          c.self.inside.kept c.self.inside.untold.items c.push-2.new.self.items c.self.inside.kept_untold
          c.self.invariant.table.under_terms c.self.invariant.table.within c.self.invariant.ends fresh
          c.in_ok-insert.ensures.entries pushed_end);
      room_to_tell = room-push c.self.inside.begun.entries entries (c.args.part.term, c.in_ok-begun.begun)
          c.reserve-3.new.self.items c.self.inside.grants c.self.inside.unfinished.items (vec_capacity c.reserve-3.new.self)
          c.self.invariant.table.places_now last
          (omega (
            arith,
            long,
            c.in_ok-reserve-3.ensures.ok,
            c.reserve-3.ensures.len,
            c.self.inside.touched.ok.0,
            c.len.ensures,
            c.reserve.ensures.len,
            c.self.inside.unfinished.ok.0,
          ));
    }

pub returns-clause-ok : goal.returns-clause-ok
returns-clause-ok c =
    let begun = c.self.inside.begun in
    let fresh = ap (λ fetched. has_part (who_fetched fetched) c.args.part.term) c.self.view_is ∙ c.requires in
    same_fetched _ _
    (ap (λ fetched. fetched.grants) c.self.view_is)
    (parts_in-insert begun c.insert.new.self c.args.part.term c.in_ok-begun.begun c.self.invariant.table.under_terms fresh
    c.in_ok-insert.ensures.entries
    ∙ ap (λ state. parts_in begun.entries ++ state ∷ []) c.in_ok-begun.ensures
    ∙ ap (λ fetched. fetched.parts ++ new_part c.args.part c.args.rows.now ∷ []) c.self.view_is)
    (ap (λ fetched. fetched.replay) c.self.view_is)
    (ap (λ touched. parts_in (undone touched (take c.self.inside.kept c.insert.new.self.entries))) c.reserve-3.ensures.items
    ∙ undone-insert begun c.insert.new.self c.args.part.term c.in_ok-begun.begun c.self.inside.touched.items c.self.inside.kept
    c.self.invariant.table.under_terms c.self.invariant.table.within fresh c.in_ok-insert.ensures.entries
    ∙ ap (λ fetched. fetched.parts_before) c.self.view_is)
    (ap (λ fetched. fetched.replay_before) c.self.view_is)
