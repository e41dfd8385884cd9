use Rattle.std.proofs.Common.{unwrap_or, ap}
use Rattle.std.specs.List.{list_any}
use Rattle.std.specs.Map.{lookup}
use Rattle.rc_model.specs.Ids.{same_id}
use Rattle.rc_attempts.specs.Lookups.{pair_in, number_of}
use Rattle.rc_coordinator.specs.View.{is_among}
use Rattle.rc_coordinator.proofs.NewLemmas.{new-is}
use Rattle.rc_coordinator.proofs.state.State.new.Goals as goal

pub returns : goal.returns
returns g c =
    new-is c.new.result (is_among c.new-2.result) c.new_in.result.tablets (pair_in c.new-3.result)
    c.new-4.result.attempts (number_of c.new-4.result.current) c.new-4.result.grants c.new.ensures
    (λ id. ap (list_any (same_id id)) c.new-2.ensures)
    (ap (λ t. t.tablets) c.new_in.ensures)
    (λ master. ap (λ entries. unwrap_or (lookup (same_id master) entries) (record { seg = 0; epoch = 0 })) c.new-3.ensures.empty)
    c.new-4.ensures.attempts
    (λ master. ap (λ entries. number_of entries master) c.new-4.ensures.current)
    c.new-4.ensures.grants
