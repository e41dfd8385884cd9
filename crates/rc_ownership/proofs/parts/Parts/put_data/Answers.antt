use Rattle.std.proofs.Common.{◌≡◌, ◌++◌, ◌∷◌, [], length, vec_capacity, nat_eq, take, ap, subst, sym, ◌∙◌, arith}
use Rattle.std.proofs.lemmas.Grind.{common_steps}
use Rattle.std.proofs.lemmas.Map.Steps.{set_value_same}
use Rattle.std.specs.Map.{set_value}
use Rattle.rc_model.specs.Ownership.{awaits_data, part_with_row, data_in, replay_in}
use Rattle.rc_ownership.specs.Parts.{who_fetched, parts_in, undone, IsPartTable, HasUntold, count_untold}
use Rattle.rc_ownership.proofs.PartTables.{none-awaited, some-awaited, replay_in-set, data-changed, joined-named}
use Rattle.rc_ownership.proofs.Places.{finished-awaits}
use Rattle.rc_ownership.proofs.Room.{room-change, joined-answered}
use Rattle.rc_ownership.proofs.Undone.{same_fetched, IsChange, table-change, untold-change, undone-noted, on_err}
use Rattle.rc_ownership.proofs.parts.Parts.put_data.Goals as goal

pub unreachable-requires : goal.unreachable-requires
unreachable-requires c =
    none-awaited c.self.inside.begun.entries c.args.term c.args.seg c.args.from c.self.invariant.table.under_terms
    (sym c.in_default.ensures.value)
    (ap (λ fetched. awaits_data c.args.term c.args.seg c.args.from (who_fetched fetched)) c.self.view_is ∙ c.requires)

pub take_row-requires : goal.take_row-requires
take_row-requires c =
    some-awaited c.self.inside.begun.entries c.args.term c.args.seg c.args.from c.in-Some.part.now
    c.self.invariant.table.under_terms (sym c.in-Some.ensures.value)
    (ap (λ fetched. awaits_data c.args.term c.args.seg c.args.from (who_fetched fetched)) c.self.view_is ∙ c.requires)

pub invariant_of-self-in_err-before : goal.invariant_of-self-in_err-before
invariant_of-self-in_err-before c =
    let entries = c.self.inside.begun.entries in
    let changed = (c.get_mut.follows.lender c.take_row.new.part).entries in
    let same : changed ≡ entries = (c.get_mut.follows.holds c.take_row.new.part).0
    ∙ ap (set_value (nat_eq c.args.term) entries) c.in_err-before.ensures.same_part
    ∙ set_value_same (nat_eq c.args.term) entries c.in-Some.part.now (sym c.in-Some.ensures.value) in
    let long = ap length c.reserve.ensures.items in
    let ends = ap (λ es. count_untold (parts_in es)) same in
    record {
      table = subst (λ es. IsPartTable es c.reserve.new.self.items c.self.inside.kept c.self.inside.grants
          c.self.inside.unfinished.items c.self.inside.kept_unfinished) (sym same)
          (subst (λ touched. IsPartTable entries touched c.self.inside.kept c.self.inside.grants c.self.inside.unfinished.items
          c.self.inside.kept_unfinished) (sym c.reserve.ensures.items) c.self.invariant.table);
      ends = subst (λ es. HasUntold es c.reserve.new.self.items c.self.inside.kept c.self.inside.untold.items
          c.self.inside.kept_untold) (sym same)
          (subst (λ touched. HasUntold entries touched c.self.inside.kept c.self.inside.untold.items
          c.self.inside.kept_untold) (sym c.reserve.ensures.items) c.self.invariant.ends);
      room_to_tell = omega (arith, c.self.invariant.room_to_tell, long, ends, c.reserve.ensures.capacity);
    }

pub returns-in_err-before-clause-err : goal.returns-in_err-before-clause-err
returns-in_err-before-clause-err c =
    let entries = c.self.inside.begun.entries in
    let changed = (c.get_mut.follows.lender c.take_row.new.part).entries in
    let same : changed ≡ entries = (c.get_mut.follows.holds c.take_row.new.part).0
    ∙ ap (set_value (nat_eq c.args.term) entries) c.in_err-before.ensures.same_part
    ∙ set_value_same (nat_eq c.args.term) entries c.in-Some.part.now (sym c.in-Some.ensures.value) in
    on_err _ _
    (same_fetched _ _
    (ap (λ fetched. fetched.grants) c.self.view_is)
    (ap parts_in same ∙ ap (λ fetched. fetched.parts) c.self.view_is)
    (ap (λ waiting. waiting.entries) c.in_err-before.ensures.same_replay ∙ ap (λ fetched. fetched.replay) c.self.view_is)
    (ap (λ es. parts_in (undone c.reserve.new.self.items (take c.self.inside.kept es))) same
    ∙ ap (λ touched. parts_in (undone touched (take c.self.inside.kept entries))) c.reserve.ensures.items
    ∙ ap (λ fetched. fetched.parts_before) c.self.view_is)
    (ap (λ waiting. waiting.before) c.in_err-before.ensures.same_replay ∙ ap (λ fetched. fetched.replay_before) c.self.view_is))

pub invariant_of-self-2 : goal.invariant_of-self-2
invariant_of-self-2 c =
    let entries = c.self.inside.begun.entries in
    let changed = (c.get_mut.follows.lender c.take_row.new.part).entries in
    let part = c.in-Some.part.now in
    let came = part_with_row c.args.seg c.args.from c.args.entries.now part in
    let found = sym c.in-Some.ensures.value in
    let some = some-awaited entries c.args.term c.args.seg c.args.from part c.self.invariant.table.under_terms found
    (ap (λ fetched. awaits_data c.args.term c.args.seg c.args.from (who_fetched fetched)) c.self.view_is ∙ c.requires) in
    let pushed : c.push.new.self.items ≡ c.self.inside.touched.items ++ (c.args.term, c.in_ok-before.before) ∷ [] =
    grind (arith, common_steps) in
    let it : IsChange c.self.inside.grants entries changed c.self.inside.touched.items c.push.new.self.items c.args.term
    c.in_ok-before.before part c.take_row.new.part = record {
      found = found;
      written = (c.get_mut.follows.holds c.take_row.new.part).0;
      noted = pushed;
      back = c.in_ok-before.ensures.before;
      finished = λ is. absurd (finished-awaits c.self.inside.grants part c.args.seg c.args.from is some);
      named = ap (λ state. state.part.term) c.in_ok-before.ensures.part ∙ joined-named came;
    } in
    let told = ap (λ state. state.answered) c.in_ok-before.ensures.part ∙ joined-answered came in
    let within = room-change entries changed c.self.inside.touched.items c.push.new.self.items
    (c.args.term, c.in_ok-before.before) c.args.term part c.take_row.new.part c.self.inside.grants
    c.self.inside.unfinished.items (vec_capacity c.reserve.new.self) c.self.invariant.table.places_now found it.written pushed
    told
    (omega (
      arith,
      c.in_ok-reserve.ensures.ok,
      c.reserve.ensures.len,
      c.self.inside.touched.ok.0,
      c.len.ensures,
      c.self.inside.unfinished.ok.0,
    )) in
    record {
      table = table-change entries changed c.self.inside.touched.items c.push.new.self.items c.args.term c.in_ok-before.before part
          c.take_row.new.part c.self.inside.kept c.self.inside.grants c.self.inside.unfinished.items c.self.inside.kept_unfinished
          c.self.invariant.table it;
      ends = untold-change entries changed c.self.inside.touched.items c.push.new.self.items c.args.term c.in_ok-before.before part
          c.take_row.new.part c.self.inside.kept c.self.inside.grants c.self.inside.untold.items c.self.inside.kept_untold
          c.self.invariant.ends it (λ is. told ∙ is);
      room_to_tell = omega (arith, within, c.push.ensures.capacity);
    }

pub returns-clause-ok : goal.returns-clause-ok
returns-clause-ok c =
    let entries = c.self.inside.begun.entries in
    let changed = (c.get_mut.follows.lender c.take_row.new.part).entries in
    let part = c.in-Some.part.now in
    let came = part_with_row c.args.seg c.args.from c.args.entries.now part in
    let found = sym c.in-Some.ensures.value in
    let some = some-awaited entries c.args.term c.args.seg c.args.from part c.self.invariant.table.under_terms found
    (ap (λ fetched. awaits_data c.args.term c.args.seg c.args.from (who_fetched fetched)) c.self.view_is ∙ c.requires) in
    let pushed : c.push.new.self.items ≡ c.self.inside.touched.items ++ (c.args.term, c.in_ok-before.before) ∷ [] =
    grind (arith, common_steps) in
    let it : IsChange c.self.inside.grants entries changed c.self.inside.touched.items c.push.new.self.items c.args.term
    c.in_ok-before.before part c.take_row.new.part = record {
      found = found;
      written = (c.get_mut.follows.holds c.take_row.new.part).0;
      noted = pushed;
      back = c.in_ok-before.ensures.before;
      finished = λ is. absurd (finished-awaits c.self.inside.grants part c.args.seg c.args.from is some);
      named = ap (λ state. state.part.term) c.in_ok-before.ensures.part ∙ joined-named came;
    } in
    same_fetched _ _
    (ap (λ fetched. fetched.grants) c.self.view_is)
    (data-changed entries changed c.args.term c.args.seg c.args.from c.args.entries.now part c.take_row.new.part
    c.self.invariant.table.under_terms found some c.in_ok-before.ensures.part it.written
    ∙ ap (λ fetched. data_in c.args.term c.args.seg c.args.from c.args.entries.now fetched.parts) c.self.view_is)
    (ap (λ waiting. waiting.entries) c.in_ok-before.ensures.replay
    ∙ ap (λ more. c.self.inside.replay.entries ++ more) (replay_in-set entries c.args.term c.args.seg c.args.from c.args.entries.now
    part c.self.invariant.table.under_terms found some)
    ∙ ap (λ fetched. fetched.replay ++ replay_in c.args.term c.args.seg c.args.from c.args.entries.now fetched.parts) c.self.view_is)
    (ap parts_in (undone-noted entries changed c.self.inside.touched.items c.push.new.self.items c.args.term c.in_ok-before.before part
    c.take_row.new.part c.self.inside.kept c.self.inside.grants it)
    ∙ ap (λ fetched. fetched.parts_before) c.self.view_is)
    (ap (λ waiting. waiting.before) c.in_ok-before.ensures.replay ∙ ap (λ fetched. fetched.replay_before) c.self.view_is)
