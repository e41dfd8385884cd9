use Rattle.std.proofs.Common.{◌≡◌, ◌++◌, sym, subst, Result, Ok, Err, IfOk, OnOk}
use Rattle.rc_types.specs.declared.events.NodeWork.TheVariants.{Deliver}
use Rattle.rc_types.specs.declared.messages.Message.{Message}
use Rattle.rc_world.specs.NodeView.{node_seen}
use Rattle.rc_process.specs.View.{written_down}
use Rattle.rc_process.proofs.process.Process.give_message.Goals as goal

-- what is said of a message is said of the same one that was given back
of_same : {E : Type 0} (P : Message → Type 0) (answer : Result Message E) (x : Message) → IfOk answer (λ y. y ≡ x) →
    OnOk answer (P x) → IfOk answer P
of_same P (Ok y) x e p = subst P (sym e) p
of_same P (Err f) x e p = p

pub returns-in-Ok-clause-written : goal.returns-in-Ok-clause-written
returns-in-Ok-clause-written g c =
    of_same (λ (m : Message). c.deliver.new.out.items
    ≡ c.args.out.now.items ++ written_down (node_seen c.args.self.now.node) (Deliver m)) c.deliver.result c.in-Ok.message
    c.deliver.ensures.same c.deliver.ensures.written
