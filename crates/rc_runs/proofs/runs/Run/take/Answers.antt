use Rattle.std.proofs.Common.{refl}
use Rattle.rc_runs.specs.RunHolds.{RunHolds}
use Rattle.rc_runs.proofs.Steppings.{delivered_within, holds_delivered, holds_other, holds_noted, still_fits}
use Rattle.rc_runs.proofs.runs.Run.take.Goals as goal

pub invariant_of-self : goal.invariant_of-self
invariant_of-self g c =
    let holds : RunHolds c.self.inside.world c.self.inside.mail = c.self.invariant in
    holds_noted c.self.inside.world c.self.inside.world c.sent.result.now c.self.inside.mail c.note.new.self holds refl
    c.sent.ensures.messages c.note.ensures.kept

pub invariant_of-self-in_err-take : goal.invariant_of-self-in_err-take
invariant_of-self-in_err-take g c =
    let holds : RunHolds c.self.inside.world c.self.inside.mail = c.self.invariant in
    holds_noted c.self.inside.world c.take.new.self c.sent.result.now c.self.inside.mail c.note.new.self holds
    c.in_err-take.ensures.err c.sent.ensures.messages c.note.ensures.kept

pub deliver-requires : goal.deliver-requires
deliver-requires g c =
    delivered_within c.self.inside.world c.args.event.now c.in-Deliver.number c.sent.result.now c.note.new.self c.in-Deliver.is
    c.in_ok-take.ensures.possible c.sent.ensures.messages c.in_ok-note.ensures.all

pub invariant_of-self-in-Deliver : goal.invariant_of-self-in-Deliver
invariant_of-self-in-Deliver g c =
    let holds : RunHolds c.self.inside.world c.self.inside.mail = c.self.invariant in
    holds_delivered c.self.inside.world c.take.new.self c.args.event.now c.in-Deliver.number c.deliver.new.self
    c.note.new.self c.self.invariant.taken
    c.in_ok-take.ensures.ok c.in_ok-take.ensures.possible c.in-Deliver.is
    (still_fits c.self.inside.world c.sent.result.now c.self.inside.mail c.note.new.self holds c.sent.ensures.messages
    c.note.ensures.kept) c.deliver.ensures

pub invariant_of-self-in_default : goal.invariant_of-self-in_default
invariant_of-self-in_default g c =
    let holds : RunHolds c.self.inside.world c.self.inside.mail = c.self.invariant in
    holds_other c.self.inside.world c.take.new.self c.args.event.now c.note.new.self c.self.invariant.taken
    c.in_ok-take.ensures.ok c.in_ok-take.ensures.possible c.in_default.not-Deliver
    (still_fits c.self.inside.world c.sent.result.now c.self.inside.mail c.note.new.self holds c.sent.ensures.messages c.note.ensures.kept)
