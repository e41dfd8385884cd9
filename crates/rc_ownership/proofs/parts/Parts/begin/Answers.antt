use Rattle.std.proofs.Common.{length, ap, arith}
use Rattle.std.proofs.lemmas.Grind.{common_steps}
use Rattle.rc_ownership.proofs.Undone.{table-begun, untold-begun}
use Rattle.rc_ownership.proofs.parts.Parts.begin.Goals as goal

pub invariant_of-self : goal.invariant_of-self
invariant_of-self c =
    let entries = c.self.inside.begun.entries in
    let ends = c.let_go_told.ensures c.self.invariant.ends.places_now in
    record {
      table = table-begun entries c.clear.new.self.items c.len-self-inside.result c.self.inside.grants
          c.let_go_finished.new.places.items c.len-self-inside-2.result c.self.invariant.table.under_terms
          (c.let_go_finished.ensures c.self.invariant.table.places_now) c.clear.ensures.items (grind (arith, common_steps))
          (grind (arith, common_steps));
      ends = untold-begun entries c.clear.new.self.items c.len-self-inside.result c.let_go_told.new.places.items
          c.len-self-inside-3.result ends c.clear.ensures.items (grind (arith, common_steps)) (grind (arith, common_steps));
      room_to_tell = omega (arith, c.self.invariant.room_to_tell, ap length c.clear.ensures.items, c.clear.ensures.capacity);
    }
