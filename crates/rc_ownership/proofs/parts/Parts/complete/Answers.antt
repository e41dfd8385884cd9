use Rattle.std.proofs.Common.{◌≡◌, ◌++◌, ◌∷◌, [], vec_capacity, nat_eq, find, option_map, ap, sym, ◌∙◌, arith}
use Rattle.std.proofs.lemmas.Grind.{common_steps}
use Rattle.std.specs.Map.{set_value}
use Rattle.rc_model.specs.Ownership.{is_to_answer, answered_in}
use Rattle.rc_ownership.specs.Notes.{replayed_in}
use Rattle.rc_ownership.specs.declared.part.Before.TheVariants.{Unanswered}
use Rattle.rc_ownership.specs.Parts.{Fetched, parts_in}
use Rattle.rc_ownership.proofs.PartTables.{answered_in-none, not_told, told, told-first, unmapped}
use Rattle.rc_ownership.proofs.Places.{finished-answered}
use Rattle.rc_ownership.proofs.Room.{room-there, room-told}
use Rattle.rc_ownership.proofs.Undone.{same_fetched, IsChange, answered-back, table-change, untold-change, undone-noted}
use Rattle.rc_ownership.proofs.parts.Parts.complete.Goals as goal

pub returns-in_default-clause-answered : goal.returns-in_default-clause-answered
returns-in_default-clause-answered c =
    ap (λ parts. let fetched : Fetched = record c.args.self.now { parts = parts } in fetched)
    (sym (answered_in-none (replayed_in c.args.notes.now) c.args.self.now.parts
    (unmapped (find (is_to_answer (replayed_in c.args.notes.now)) c.args.self.now.parts)
    (sym c.to_answer.ensures ∙ c.in_default.is))))

pub unreachable-requires : goal.unreachable-requires
unreachable-requires c =
    let durable = replayed_in c.args.notes.now in
    not_told durable c.self.inside.begun.entries c.in-Some.term c.self.invariant.table.under_terms
    (ap (λ fetched. option_map (λ state. state.part.term) (find (is_to_answer durable) fetched.parts)) c.self.view_is ∙
    sym c.to_answer.ensures ∙ c.in-Some.is)
    (sym c.in_default-get_mut.ensures.value)

pub unwrap-requires : goal.unwrap-requires
unwrap-requires c =
    let durable = replayed_in c.args.notes.now in
    let entries = c.self.inside.begun.entries in
    let part = c.in-Some-get_mut.part.now in
    let asked = ap (λ fetched. option_map (λ state. state.part.term) (find (is_to_answer durable) fetched.parts)) c.self.view_is ∙
    sym c.to_answer.ensures ∙ c.in-Some.is in
    let found = sym c.in-Some-get_mut.ensures.value in
    let there = room-there entries c.self.inside.touched.items c.in-Some.term part c.answer.new.self
    (vec_capacity c.self.inside.touched) c.self.invariant.room_to_tell found
    (told-first durable entries c.in-Some.term part c.self.invariant.table.under_terms asked found)
    (ap (λ state. state.answered) c.answer.ensures) in
    c.push.ensures.succeeds (omega (arith, there, c.self.inside.touched.ok.0))

pub invariant_of-self : goal.invariant_of-self
invariant_of-self c =
    let durable = replayed_in c.args.notes.now in
    let entries = c.self.inside.begun.entries in
    let changed = (c.get_mut.follows.lender c.answer.new.self).entries in
    let part = c.in-Some-get_mut.part.now in
    let asked = ap (λ fetched. option_map (λ state. state.part.term) (find (is_to_answer durable) fetched.parts)) c.self.view_is ∙
    sym c.to_answer.ensures ∙ c.in-Some.is in
    let found = sym c.in-Some-get_mut.ensures.value in
    let pushed : c.push.new.self.items ≡ c.self.inside.touched.items ++ (c.in-Some.term, Unanswered) ∷ [] =
    grind (arith, common_steps) in
    let it : IsChange c.self.inside.grants entries changed c.self.inside.touched.items c.push.new.self.items c.in-Some.term Unanswered part
    c.answer.new.self = record {
      found = found;
      written = (c.get_mut.follows.holds c.answer.new.self).0;
      noted = pushed;
      back = answered-back part c.answer.new.self c.answer.ensures
          (told-first durable entries c.in-Some.term part c.self.invariant.table.under_terms asked found);
      finished = λ is. finished-answered c.self.inside.grants part c.answer.new.self c.answer.ensures is;
      named = ap (λ state. state.part.term) c.answer.ensures;
    } in
    record {
      table = table-change entries changed c.self.inside.touched.items c.push.new.self.items c.in-Some.term Unanswered part
          c.answer.new.self c.self.inside.kept c.self.inside.grants c.self.inside.unfinished.items c.self.inside.kept_unfinished
          c.self.invariant.table it;
      ends = untold-change entries changed c.self.inside.touched.items c.push.new.self.items c.in-Some.term Unanswered part
          c.answer.new.self c.self.inside.kept c.self.inside.grants c.self.inside.untold.items c.self.inside.kept_untold
          c.self.invariant.ends it (λ is. ap (λ state. state.answered) c.answer.ensures);
      room_to_tell = room-told entries changed c.self.inside.touched.items c.push.new.self.items (c.in-Some.term, Unanswered)
          c.in-Some.term part c.answer.new.self (vec_capacity c.self.inside.touched) (vec_capacity c.push.new.self)
          c.self.invariant.room_to_tell found it.written pushed
          (told-first durable entries c.in-Some.term part c.self.invariant.table.under_terms asked found)
          (ap (λ state. state.answered) c.answer.ensures) c.push.ensures.capacity;
    }

pub returns-clause-answered : goal.returns-clause-answered
returns-clause-answered c =
    let durable = replayed_in c.args.notes.now in
    let entries = c.self.inside.begun.entries in
    let changed = (c.get_mut.follows.lender c.answer.new.self).entries in
    let part = c.in-Some-get_mut.part.now in
    let asked = ap (λ fetched. option_map (λ state. state.part.term) (find (is_to_answer durable) fetched.parts)) c.self.view_is ∙
    sym c.to_answer.ensures ∙ c.in-Some.is in
    let found = sym c.in-Some-get_mut.ensures.value in
    let pushed : c.push.new.self.items ≡ c.self.inside.touched.items ++ (c.in-Some.term, Unanswered) ∷ [] =
    grind (arith, common_steps) in
    let it : IsChange c.self.inside.grants entries changed c.self.inside.touched.items c.push.new.self.items c.in-Some.term Unanswered part
    c.answer.new.self = record {
      found = found;
      written = (c.get_mut.follows.holds c.answer.new.self).0;
      noted = pushed;
      back = answered-back part c.answer.new.self c.answer.ensures
          (told-first durable entries c.in-Some.term part c.self.invariant.table.under_terms asked found);
      finished = λ is. finished-answered c.self.inside.grants part c.answer.new.self c.answer.ensures is;
      named = ap (λ state. state.part.term) c.answer.ensures;
    } in
    same_fetched _ _
    (ap (λ fetched. fetched.grants) c.self.view_is)
    (ap parts_in (it.written ∙ ap (set_value (nat_eq c.in-Some.term) entries) c.answer.ensures)
    ∙ told durable entries c.in-Some.term part c.self.invariant.table.under_terms asked found
    ∙ ap (λ fetched. answered_in durable fetched.parts) c.self.view_is)
    (ap (λ fetched. fetched.replay) c.self.view_is)
    (ap parts_in (undone-noted entries changed c.self.inside.touched.items c.push.new.self.items c.in-Some.term Unanswered part
    c.answer.new.self c.self.inside.kept c.self.inside.grants it)
    ∙ ap (λ fetched. fetched.parts_before) c.self.view_is)
    (ap (λ fetched. fetched.replay_before) c.self.view_is)
