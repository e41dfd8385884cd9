use Rattle.std.proofs.Common.{◌≡◌, ◌++◌, drop}
use Rattle.std.specs.Option.{option_map}
use Rattle.rc_model.specs.Config.{staying, substitutes}
use Rattle.rc_config.proofs.replacing.substitutes.Given as goal

-- those chosen so far, and then those that the other members find
abbrev pub invariant-loop-member : goal.invariant-loop-member
invariant-loop-member l = substitutes l.ids (staying l.members) l.members ≡ option_map (λ rest. l.chosen.items ++ rest)
    (substitutes l.ids l.taken.items (drop l.member-index l.members))
