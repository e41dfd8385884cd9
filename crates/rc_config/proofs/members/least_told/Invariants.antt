use Rattle.std.proofs.Common.{◌≡◌, ◌∷◌, take}
use Rattle.rc_model.specs.Model.{Member, least_told}
use Rattle.rc_config.proofs.members.least_told.Given as goal

-- the least of the first member and the others so far
abbrev pub invariant-loop-member : goal.invariant-loop-member
invariant-loop-member l =
    (first : Member) × (l.fn.members ≡ first ∷ l.others) × (l.least ≡ least_told (first ∷ take l.member-index l.others))
