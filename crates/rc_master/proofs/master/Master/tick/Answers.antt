use Rattle.rc_master.specs.Data.{master_of}
use Rattle.rc_master.specs.View.{state_view}
use Rattle.rc_master.proofs.Outer.{viewed, ticked-state, ticked-sends}
use Rattle.rc_master.proofs.master.Master.tick.Goals as goal

pub returns-clause-state : goal.returns-clause-state
returns-clause-state c =
    ticked-state c.tick.result (state_view c.self.inside.state) (master_of c.args.self.now) (state_view c.tick.new.self)
    (viewed c.self.inside.state c.args.self.now c.self.view_is) c.tick.ensures.state

pub returns-clause-sends : goal.returns-clause-sends
returns-clause-sends c =
    ticked-sends c.tick.result (state_view c.self.inside.state) (master_of c.args.self.now) c.args.sent.now.items c.tick.new.sent.items
    (viewed c.self.inside.state c.args.self.now c.self.view_is) c.tick.ensures.sends
