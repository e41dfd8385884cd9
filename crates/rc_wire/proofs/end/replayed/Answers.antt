use Rattle.std.proofs.Common.{◌≡◌, take, ⊎_elim, ap, ◌∙◌}
use Rattle.rc_types.specs.declared.faults.Fault.TheVariants.{OutOfMemory, BadEvent}
use Rattle.rc_world.specs.Happened.{opened, with_events}
use Rattle.rc_wire.proofs.Replaying.{not-refused}
use Rattle.rc_wire.proofs.end.replayed.Goals as goal

pub only_memory-requires : goal.only_memory-requires
only_memory-requires g c =
    let events = c.events.result.now in
    let stopped = c.in-Err.ensures.stopped in
    let opened_is = c.new.ensures ∙ ap opened (c.in_ok-setup.ensures ∙ c.setup.ensures) in
    ⊎_elim (λ (e : c.in-Err.fault ≡ OutOfMemory). e)
    (λ (e : c.in-Err.fault ≡ BadEvent).
    absurd (not-refused g.N.Naming.wire events c.in-Err.field-0-1 c.in-Err.field-0-0 c.events.ensures.history stopped.0
    (stopped.1 ∙ ap (λ w. with_events w (take c.in-Err.field-0-1 events)) opened_is) (c.in-Err.ensures.bad.0 e)))
    c.in-Err.ensures.fault
