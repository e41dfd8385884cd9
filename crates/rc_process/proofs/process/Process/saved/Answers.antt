use Rattle.rc_process.proofs.Waiting.{moved_order, in_turn_moved, is_moved}
use Rattle.rc_process.proofs.process.Process.saved.Goals as goal

pub invariant_of-self : goal.invariant_of-self
invariant_of-self g c =
    rw (c.moved-self-inside.ensures, c.moved-self-inside-2.ensures, c.move_queue.ensures, c.move_queue-2.ensures)
    (moved_order c.in-Some.saving _ _ _ _ _ c.self.invariant)

pub returns : goal.returns
returns g c =
    rw (
      c.moved-self-inside.ensures,
      c.moved-self-inside-2.ensures,
      c.moved-self-inside-3.ensures,
      c.move_queue.ensures,
      c.move_queue-2.ensures,
      in_turn_moved c.in-Some.saving c.self.inside.masters.items c.self.inside.others.items,
    )
    (is_moved c.args.self.now c.in-Some.saving _ _ _ _ _ _ c.self.view_is c.in-Some.is)
