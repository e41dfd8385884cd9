use Rattle.rc_ownership.proofs.Undone.{table-granted}
use Rattle.rc_ownership.proofs.parts.Parts.grant.Goals as goal

pub invariant_of-self-2 : goal.invariant_of-self-2
invariant_of-self-2 c =
    record {
      table = table-granted c.self.inside.begun.entries c.self.inside.touched.items c.self.inside.kept c.self.inside.grants c.grant.new.self
          c.self.inside.unfinished.items c.self.inside.kept_unfinished (record { range = c.args.range; term = c.args.term })
          c.self.invariant.table c.in_ok-grant.ensures.ok;
      ends = c.self.invariant.ends;
      room_to_tell = c.self.invariant.room_to_tell;
    }
