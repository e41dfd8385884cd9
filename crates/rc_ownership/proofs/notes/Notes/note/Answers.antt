use Rattle.std.proofs.Common.{◌≡◌, ◌+◌, cond, ◌∷◌, [], ◌++◌, length, length-append, subst, sym, ap, ◌∙◌, arith}
use Rattle.std.proofs.lemmas.Grind.{common_steps}
use Rattle.rc_ownership.specs.Highs.{with_high}
use Rattle.rc_ownership.specs.Notes.{AreTablesOf}
use Rattle.rc_ownership.specs.Slots.{highs_in, same_slot, slot_of}
use Rattle.rc_ownership.specs.Tops.{top_or, tops_of}
use Rattle.rc_ownership.specs.Groups.{AreBounds}
use Rattle.rc_ownership.proofs.GroupBounds.{bounds-push}
use Rattle.rc_ownership.proofs.NoteTables.{tables-push}
use Rattle.rc_ownership.proofs.GreatestVersions.{tops-pushed}
use Rattle.rc_ownership.proofs.notes.Notes.note.Goals as goal

pub invariant_of-self-2 : goal.invariant_of-self-2
invariant_of-self-2 c =
    let entry = c.args.entry.now in
    let before = c.self.inside in
    let after_is : c.push-3.new.self.items ≡ before.noted.items ++ entry ∷ [] = grind (arith, common_steps) in
    let marks_are : c.push-2.new.self.items ≡ before.replayed.items ++ c.args.replayed ∷ [] = grind (arith, common_steps) in
    let place_is : c.len.result ≡ length before.noted.items = grind (arith, common_steps) in
    let tables = subst (λ items. AreTablesOf items c.push-2.new.self.items before.durable c.add_high.new.highs c.know_term.new.counts)
    (sym after_is)
    (subst (λ marks. AreTablesOf (before.noted.items ++ entry ∷ []) marks before.durable c.add_high.new.highs c.know_term.new.counts)
    (sym marks_are)
    (tables-push before.noted.items before.durable before.highs c.add_high.new.highs before.counts
    c.know_term.new.counts entry before.replayed.items c.args.replayed c.self.invariant.tables
    (λ other. c.in_ok-add_high.ensures.ok other
    ∙ ap (λ slot. cond (same_slot slot other) (with_high c.len.result entry.version (highs_in before.highs other))
    (highs_in before.highs other)) c.slot_of-slot.ensures
    ∙ ap (λ place. cond (same_slot (slot_of entry) other) (with_high place entry.version (highs_in before.highs other))
    (highs_in before.highs other)) place_is)
    c.in_ok-know_term.ensures.known c.know_term.ensures.same c.know_term.ensures.kept)) in
    let counted : length c.push-3.new.self.items ≡ length before.noted.items + 1 =
    ap length after_is ∙ length-append before.noted.items (entry ∷ []) in
    record {
      tables = tables;
      kept_within = omega (arith, counted, c.self.invariant.kept_within);
      durable_within = c.self.invariant.durable_within;
      tops_are =
          tops-pushed before.noted.items c.push-3.new.self.items entry before.tops.items c.push.new.self.items
          c.higher-top.result c.greatest.result c.self.invariant.tops_are after_is (grind (arith, common_steps))
          c.higher-top.ensures (c.greatest.ensures ∙ ap (λ notes. top_or 0 (tops_of notes.noted)) (sym c.self.view_is));
      bounds_are =
          subst (λ noted. AreBounds noted before.durable before.bounds.items) (sym after_is)
          (bounds-push before.noted.items entry before.durable before.bounds.items c.self.invariant.tables.within
          c.self.invariant.bounds_are);
    }
