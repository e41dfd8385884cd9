use Rattle.std.proofs.Common.{◌≡◌, ◌<◌, ◌++◌, ◌∷◌, [], cond, nat_lt, filter, length, length-append, ap, subst, sym, take, ◌∙◌, arith}
use Rattle.std.proofs.lemmas.Grind.{common_steps}
use Rattle.std.proofs.lemmas.List.{length-take-le}
use Rattle.rc_ownership.specs.Notes.{AreTablesOf}
use Rattle.rc_ownership.specs.Slots.{highs_in, same_slot, slot_of}
use Rattle.rc_ownership.proofs.GroupBounds.{bounds-drop}
use Rattle.rc_ownership.proofs.NoteTables.{tables-drop, highs_rise}
use Rattle.rc_ownership.proofs.GreatestVersions.{tops-drop}
use Rattle.rc_ownership.proofs.notes.Notes.drop_last.Goals as goal

pub drop_from-requires : goal.drop_from-requires
drop_from-requires c = highs_rise c.self.inside.noted.items c.self.inside.replayed.items c.self.inside.durable c.self.inside.highs
    c.self.inside.counts c.slot_of-slot.result c.self.invariant.tables

pub invariant_of-self-2 : goal.invariant_of-self-2
invariant_of-self-2 c =
    let before = c.self.inside in
    let rest = c.pop.new.self.items in
    let popped : before.noted.items ≡ rest ++ c.in-Some.entry ∷ [] = grind (arith, common_steps) in
    let count : c.len.result ≡ length rest = grind (arith, common_steps) in
    let marks_are : c.truncate.new.self.items ≡ take (length rest) before.replayed.items = grind (arith, common_steps) in
    let there : before.durable < length before.noted.items =
    omega (arith, c.requires.undurable, ap (λ notes. notes.durable) c.self.view_is, ap (λ notes. length notes.noted) c.self.view_is) in
    record {
      tables =
          subst (λ marks. AreTablesOf rest marks before.durable c.drop_from.new.highs before.counts) (sym marks_are)
          (tables-drop before.noted.items rest c.in-Some.entry before.replayed.items before.durable before.highs c.drop_from.new.highs
          before.counts c.self.invariant.tables popped there
          (λ other. c.drop_from.ensures other
          ∙ ap (λ slot. cond (same_slot slot other)
          (filter (λ high. nat_lt high.0 c.len.result) (highs_in before.highs other)) (highs_in before.highs other))
          c.slot_of-slot.ensures
          ∙ ap (λ n. cond (same_slot (slot_of c.in-Some.entry) other)
          (filter (λ high. nat_lt high.0 n) (highs_in before.highs other)) (highs_in before.highs other)) count));
      kept_within = omega (
        arith,
        c.requires.noted,
        ap (λ notes. length notes.noted_before) c.self.view_is,
        ap (λ notes. length notes.noted) c.self.view_is,
        length-take-le before.kept before.noted.items c.self.invariant.kept_within,
        ap length popped,
        length-append rest (c.in-Some.entry ∷ []),
      );
      durable_within = c.self.invariant.durable_within;
      tops_are =
          grind (arith, common_steps)
          ∙ ap (λ tops. take (length rest) tops) c.self.invariant.tops_are
          ∙ tops-drop before.noted.items rest c.in-Some.entry popped;
      bounds_are =
          bounds-drop before.noted.items rest c.in-Some.entry before.durable before.bounds.items popped c.self.invariant.bounds_are;
    }
