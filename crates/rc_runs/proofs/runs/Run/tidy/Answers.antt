use Rattle.rc_world.specs.Happened.{replayed}
use Rattle.rc_runs.proofs.runs.Run.tidy.Goals as goal

pub invariant_of-self : goal.invariant_of-self
invariant_of-self g c =
    let world = replayed c.self.inside.world in
    record {
      taken = c.self.invariant.taken;
      few = c.self.invariant.few;
      waits = c.tidy.ensures world.events world.sent c.self.invariant.waits;
    }
