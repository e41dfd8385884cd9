-- The rules of the coordinator, case by case.
use Rattle.std.proofs.Common.{◌≡◌, ℕ, ◌+◌, ◌-◌, ◌<◌, ◌≤◌, Bool, true, false, cond, nat_eq, nat_lt, ◌&&◌, List, [], ◌∷◌}
use Rattle.std.proofs.Common.{◌++◌, length, get_or, slice_get, Option, Some, None, refl, sym, ap, ◌∙◌, arith, option_and_then}
use Rattle.std.proofs.lemmas.Bool.Decides.{nat_tests}
use Rattle.std.proofs.lemmas.Option.{slice_get-get_or}
use Rattle.rc_model.specs.Model.{ServerId, Message, Gather, put_id, to_each, ServerList, has_crashed, up, marked_crashed, Attempt}
use Rattle.rc_model.specs.Model.{new_attempt, spreads_list, has_tablets, begins_attempt, begins_if_needed, spreads_then_begins}
use Rattle.rc_model.specs.Model.{attempt_at, part_in, is_current}
use Rattle.rc_model.specs.Coordinator.{Coordinator}
use Rattle.rc_coordinator.proofs.TabletLemmas.{tablets_of-marked}

-- with a new list, in which an id has crashed
abbrev pub with_gone : Coordinator → ServerList → ServerId → Coordinator
with_gone c servers gone = record c { servers = servers; tablets = marked_crashed gone c.tablets }

begins-gone : (c : Coordinator) (servers : ServerList) (gone : ServerId) (b : Bool) → b ≡ (has_crashed servers gone && has_tablets c gone)
    → (has_crashed servers gone && has_tablets (with_gone c servers gone) gone) ≡ b
begins-gone c servers gone b e = ap (λ n. has_crashed servers gone && nat_lt 0 n) (tablets_of-marked gone c.tablets) ∙ sym e

-- no attempt begins, or one does
pub follows-quietly : (c : Coordinator) (servers : ServerList) (gone : ServerId) → false ≡ (has_crashed servers gone && has_tablets c gone)
    → spreads_then_begins (with_gone c servers gone) gone ≡ (with_gone c servers gone, spreads_list servers ++ [])
follows-quietly c servers gone e =
    let after : Coordinator = with_gone c servers gone in
    let begun : begins_if_needed after gone ≡ (after, []) =
    ap (λ b. cond b (begins_attempt after gone) (after, [])) (begins-gone c servers gone false e) in
    ap (λ (r : Coordinator × List Message). (r.0, spreads_list servers ++ r.1)) begun

abbrev pub begun_at : Coordinator → ServerList → ServerId → Coordinator
begun_at c servers gone = record c {
  servers = servers;
  tablets = marked_crashed gone c.tablets;
  attempts = c.attempts ++ new_attempt gone ∷ [];
  current = put_id c.current gone (length c.attempts + 1);
}

pub follows-beginning : (c : Coordinator) (servers : ServerList) (gone : ServerId) → true ≡ (has_crashed servers gone && has_tablets c gone)
    → spreads_then_begins (with_gone c servers gone) gone ≡ (
      begun_at c servers gone,
      spreads_list servers ++
          to_each (up servers) (Gather (length c.attempts + 1) gone),
    )
follows-beginning c servers gone e =
    let after : Coordinator = with_gone c servers gone in
    let begun : begins_if_needed after gone ≡ begins_attempt after gone =
    ap (λ b. cond b (begins_attempt after gone) (after, [])) (begins-gone c servers gone true e) in
    ap (λ (r : Coordinator × List Message). (r.0, spreads_list servers ++ r.1)) begun

-- a part of a sender goes by the attempts and the current numbers alone
pub part-by_numbers : (c one : Coordinator) → c.current ≡ one.current → (id : ServerId) (number term : ℕ)
    (found : Option Attempt) →
    option_and_then (λ attempt. cond (is_current c number attempt) (part_in id term attempt.decided) None) found ≡
    option_and_then (λ attempt. cond (is_current one number attempt) (part_in id term attempt.decided) None) found
part-by_numbers c one same id number term None = refl
part-by_numbers c one same id number term (Some attempt) =
    ap (λ f. cond (nat_eq (f attempt.master) number) (part_in id term attempt.decided) None) same

-- there is an attempt of each number from 1 to their count
pub attempt-there : (c : Coordinator) (number : ℕ) → 0 < number → number ≤ length c.attempts →
    (attempt : Attempt) × (attempt_at c number ≡ Some attempt)
attempt-there c number above within =
    let d : Attempt = record { master = record { index = 0; generation = 0 }; replies = []; decided = None } in
    let other : nat_eq number 0 ≡ false = grind (arith, nat_tests) in
    let there : slice_get c.attempts (number - 1) ≡ Some (get_or c.attempts (number - 1) d) =
    slice_get-get_or c.attempts (number - 1) d (omega arith) in
    (get_or c.attempts (number - 1) d, ap (λ b. cond b None (slice_get c.attempts (number - 1))) other ∙ there)
