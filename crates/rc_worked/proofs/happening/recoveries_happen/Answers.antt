use Rattle.std.proofs.Common.{ℕ, ◌≤◌, length, refl, arith}
use Rattle.rc_worked.specs.Freeing.{freed}
use Rattle.rc_worked.specs.Happening.{rolled_events, sent_by_lines, freeing}
use Rattle.rc_worked.proofs.Dropping.{first-dropped}
use Rattle.rc_worked.proofs.happening.recoveries_happen.Goals as goal

-- the definitions compute it
pub returns-clause-acknowledged : goal.returns-clause-acknowledged
returns-clause-acknowledged c = refl

pub returns-clause-changed : goal.returns-clause-changed
returns-clause-changed c = refl

pub returns-clause-recovered : goal.returns-clause-recovered
returns-clause-recovered c = refl

pub returns-clause-head : goal.returns-clause-head
returns-clause-head c = refl

pub returns-clause-covered : goal.returns-clause-covered
returns-clause-covered c = refl

itself : (n : ℕ) → n ≤ n
itself n = omega arith

-- at the end of the run; no segment comes before the first
pub returns-clause-durable : goal.returns-clause-durable
returns-clause-durable c = record {
  moment = length rolled_events;
  happened = itself (length rolled_events);
  stored = refl;
  earlier = λ t o above below among. absurd (omega (arith, above, below));
}

pub returns-clause-freed_acknowledged : goal.returns-clause-freed_acknowledged
returns-clause-freed_acknowledged c = refl

pub returns-clause-freed_recovered : goal.returns-clause-freed_recovered
returns-clause-freed_recovered c = refl

pub returns-clause-freed_left_out : goal.returns-clause-freed_left_out
returns-clause-freed_left_out c = refl

pub returns-clause-freed_superseded : goal.returns-clause-freed_superseded
returns-clause-freed_superseded c = refl

pub returns-clause-freed_dropped : goal.returns-clause-freed_dropped
returns-clause-freed_dropped c = first-dropped (sent_by_lines freeing freed) refl refl
