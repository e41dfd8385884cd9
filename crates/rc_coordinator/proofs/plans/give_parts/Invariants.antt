use Rattle.std.proofs.Common.{◌≡◌, ◌+◌, ◌++◌, length, drop}
use Rattle.rc_model.specs.Attempts.{gives_parts}
use Rattle.rc_coordinator.proofs.plans.give_parts.Given as goal

-- the parts so far, and then those of the tablets that are left
abbrev pub invariant-loop-count : goal.invariant-loop-count
invariant-loop-count l = record {
  given :
      l.parts.items ++ gives_parts l.ids (l.first + l.count) (l.term + l.count) (drop l.count l.tablets)
      ≡ gives_parts l.ids l.first l.term l.tablets;
  few : length l.parts.items ≡ l.count;
}
