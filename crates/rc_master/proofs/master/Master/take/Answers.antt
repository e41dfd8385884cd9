use Rattle.rc_master.specs.Data.{master_of}
use Rattle.rc_master.specs.View.{state_view}
use Rattle.rc_master.proofs.Outer.{viewed, taken-state, taken-sends}
use Rattle.rc_master.proofs.master.Master.take.Goals as goal

pub returns-clause-state : goal.returns-clause-state
returns-clause-state c =
    taken-state c.take.result (state_view c.self.inside.state) (master_of c.args.self.now) (state_view c.take.new.self)
    c.args.from c.args.body.now
    (viewed c.self.inside.state c.args.self.now c.self.view_is) c.take.ensures.state

pub returns-clause-sends : goal.returns-clause-sends
returns-clause-sends c =
    taken-sends c.take.result (state_view c.self.inside.state) (master_of c.args.self.now) c.args.sent.now.items
    c.take.new.sent.items c.args.from c.args.body.now
    (viewed c.self.inside.state c.args.self.now c.self.view_is) c.take.ensures.sends
