use Rattle.std.proofs.Common.{◌≡◌, ◌++◌, ◌∙◌, ap, subst, OnOk}
use Rattle.rc_types.specs.declared.events.NodeWork.{NodeWork}
use Rattle.rc_world.specs.NodeView.{NodeData, node_seen}
use Rattle.rc_process.specs.View.{process_seen, given, written_down, whole_start}
use Rattle.rc_process.proofs.process.Process.start.Goals as goal

pub returns-in-Ok-clause-taken : goal.returns-in-Ok-clause-taken
returns-in-Ok-clause-taken g c =
    subst (λ (w : NodeWork). OnOk c.give.result (process_seen c.give.new.self ≡ given (process_seen c.args.self.now) w))
    (c.in-Ok.ensures ∙ ap (λ (n : NodeData). whole_start (node_seen n)) c.node-2.ensures) c.give.ensures.taken

pub returns-in-Ok-clause-written : goal.returns-in-Ok-clause-written
returns-in-Ok-clause-written g c =
    subst (λ (w : NodeWork). OnOk c.give.result (c.give.new.out.items
    ≡ c.args.out.now.items ++ written_down (node_seen c.args.self.now.node) w))
    (c.in-Ok.ensures ∙ ap (λ (n : NodeData). whole_start (node_seen n)) c.node-2.ensures) c.give.ensures.written
