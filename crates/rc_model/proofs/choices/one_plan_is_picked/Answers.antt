use Rattle.std.proofs.Common.{◌≡◌, Ok}
use Rattle.rc_model.specs.Pick.{pick}
use Rattle.rc_model.proofs.Pickable.{picked-from_pickable, pickable-from_picked}
use Rattle.rc_model.proofs.choices.one_plan_is_picked.Goals as goal

pub returns-clause-picked : goal.returns-clause-picked
returns-clause-picked c = λ min replies plan. (picked-from_pickable min replies, pickable-from_picked min replies)

pub returns-clause-one : goal.returns-clause-one
returns-clause-one c = λ min replies plan other is also.
    let first : pick min replies ≡ Ok plan = picked-from_pickable min replies is in
    let second : pick min replies ≡ Ok other = picked-from_pickable min replies also in
    cc
