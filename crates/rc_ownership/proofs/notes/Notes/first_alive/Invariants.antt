use Rattle.std.proofs.Common.{◌≡◌, map, take, drop}
use Rattle.rc_model.specs.Versions.{is_dead}
use Rattle.rc_ownership.proofs.notes.Notes.first_alive.Given as goal

abbrev pub invariant-loop-place : goal.invariant-loop-place
invariant-loop-place l = is_dead (take l.self.durable l.self.noted) (map (λ one. one.0) (drop l.place l.entries)) ≡ is_dead
    (take l.self.durable l.self.noted) (map (λ one. one.0) l.entries)
