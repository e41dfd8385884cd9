use Rattle.std.proofs.Common.{◌≡◌, ◌||◌, List, [], ◌∷◌, refl, ap, ◌∙◌}
use Rattle.std.specs.List.{list_any}
use Rattle.rc_model.specs.Model.{ServerId, same_id, has_id}
use Rattle.rc_config.proofs.ids.MemberIds.has.Goals as goal

has_id-any : (id : ServerId) (ids : List ServerId) → list_any (same_id id) ids ≡ has_id id ids
has_id-any id [] = refl
has_id-any id (other ∷ ids) = ap (λ b. same_id id other || b) (has_id-any id ids)

pub returns : goal.returns
returns c = rw (← c.self.view_is) (c.is_among.ensures ∙ has_id-any c.args.id _)
