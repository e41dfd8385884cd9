use Rattle.std.proofs.Common.{◌≡◌, ◌-◌}
use Rattle.rc_world.specs.Happened.{replayed}
use Rattle.rc_runs.specs.Draw.{drawn_from}
use Rattle.rc_runs.specs.Generator.{generator}
use Rattle.rc_runs.proofs.drawing.draw_steps.Given as goal

-- the steps that are left lead to the end
abbrev pub invariant-loop-number : goal.invariant-loop-number
invariant-loop-number l = record {
  left : drawn_from (l.steps - l.number) l.number l.generator (replayed l.world)
      ≡ drawn_from l.steps 0 (generator l.seed) (replayed l.initial.world);
  taken : (replayed l.world).events ≡ l.world.events;
}
