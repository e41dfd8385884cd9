use Rattle.std.proofs.Common.{◌≡◌, nat_eq, find, drop}
use Rattle.rc_model.specs.Attempts.{parts_of}
use Rattle.rc_attempts.proofs.attempts.first_part.Given as goal

-- the part is the first among those that are left
abbrev pub invariant-loop-given : goal.invariant-loop-given
invariant-loop-given l =
    find (λ part. nat_eq part.term l.term) (parts_of l.id (drop l.given-index l.parts)) ≡ find
    (λ part. nat_eq part.term l.term) (parts_of l.id l.parts)
