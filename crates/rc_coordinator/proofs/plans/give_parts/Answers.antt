use Rattle.std.proofs.Common.{◌≡◌, ℕ, ◌+◌, ◌%◌, ◌++◌, [], ◌∷◌, false, Some, List, length, get_or, drop, slice_get, sym, ap, ◌∙◌, arith}
use Rattle.std.proofs.lemmas.List.{at_drop_more, length_push}
use Rattle.std.proofs.lemmas.Option.{slice_get-get_or}
use Rattle.rc_model.specs.Model.{ServerId, Part, Tablet, GivenPart, part_of, gives_parts}
use Rattle.rc_coordinator.proofs.PlanLemmas.{given-next}
use Rattle.rc_coordinator.proofs.plans.give_parts.Goals as goal

no_id : ServerId
no_id = record { index = 0; generation = 0 }

no_tablet : Tablet
no_tablet = record { range = record { table = 0; lo = 0; hi = 0 }; owner = record { index = 0; generation = 0 }; term = 0; crashed = false }

pub loop-count-preserved : goal.loop-count-preserved
unfolding no_id no_tablet
loop-count-preserved c =
    let ids : List ServerId = c.args.ids.now in
    let parts : List GivenPart = c.loop-count.parts.items in
    let place : ℕ = c.loop-count.count in
    let rest : List Tablet = drop (place + 1) c.args.tablets.now in
    let tablet : Tablet = get_or c.args.tablets.now place no_tablet in
    let to : ServerId = get_or ids ((c.args.first + place) % length ids) no_id in
    let before = at_drop_more (λ l. parts ++ gives_parts ids (c.args.first + place) (c.args.term + place) l)
    c.args.tablets.now place no_tablet c.loop-count-test.true in
    let found : slice_get ids ((c.args.first + place) % length ids) ≡ Some to = slice_get-get_or ids _ no_id (omega arith) in
    let one : GivenPart = record { to = to; part = part_of tablet (c.args.term + place) } in
    let next : c.push.new.self.items ≡ parts ++ one ∷ [] =
    c.in_ok-push.ensures.items ∙ ap (λ (part : Part). parts ++ (record { to = to; part = part }) ∷ []) c.part_of-part.ensures in
    record {
      given = given-next ids (c.args.first + place) (c.args.term + place) _ _ parts c.push.new.self.items tablet rest to
          found next (omega arith) (omega arith) ∙ sym before ∙ c.loop-count.invariant.given;
      few = omega (arith, ap length next, length_push parts one, c.loop-count.invariant.few);
    }
