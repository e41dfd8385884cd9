-- What a master says again on its timer claims what holds.
use Rattle.std.proofs.Common.{◌≡◌, ◌⊎◌, ℕ, ◌<◌, true, cond, not, nat_lt, ◌&&◌, List, [], ◌∷◌, map, filter}
use Rattle.std.proofs.Common.{Option, Some, None, is_some, refl, sym, subst, inl, inr, arith}
use Rattle.std.proofs.lemmas.Bool.{and_parts, eqb-true}
use Rattle.rc_model.specs.Model.{ServerId, Member, Told, Phase, Opening, Closing, Writing, Message}
use Rattle.rc_model.specs.Model.{between, Log, numbers_to, is_closing, is_writing, Master, Task, place_of}
use Rattle.rc_model.specs.Model.{lacking}
use Rattle.rc_model.specs.Model.{reminds_member, reminds_members, reminds_open, reminds_shut, reminds_shut_members, standing, to_remind}
use Rattle.rc_model.specs.Model.{commits_again, fetch_of, fetches_again, has_not_come, recovered_again}
use Rattle.rc_model.specs.Model.{ready_again, reminds}
use Rattle.rc_model.proofs.Tests.{true_false, either}
use Rattle.rc_model.proofs.Sending.{Each, each-none, each-one, each-both, each-map, each-if, each-commits}
use Rattle.rc_owner_laws.proofs.Placings.{IsNext, Some_placed, Claims, AllClaim, Placings}

module _ (f : ℕ) (W : ℕ → ℕ → Type 0) (sent : List Message) (m : ServerId) (log : Log) (p : Placings f W sent m log) where
  abbrev Holds : Message → Type 0
  Holds message = Claims (IsNext f log.head log.phase) (Some_placed W 1) W message.body

  -- the first head was placed, where the log has left its first phase
  pub first-placed : (log.phase ≡ Opening → ⊥) → Some_placed W 1
  first-placed not_opening = by (p.head_placed not_opening).0 (p.head_placed not_opening).1 (one log.head (p.head_placed not_opening).0)
    where
      one : (n : ℕ) → 0 < n → (n ≡ 1) ⊎ (1 < n)
      one n above = grind arith

      by : 0 < log.head → Some_placed W log.head → (log.head ≡ 1) ⊎ (1 < log.head) → Some_placed W 1
      by above placed (inl same) = subst (Some_placed W) same placed
      by above placed (inr more) = p.lower 1 (omega arith) more

  closing-not : (phase : Phase) → is_closing phase ≡ true → phase ≡ Opening → ⊥
  closing-not Opening e same = true_false (sym e)
  closing-not Closing e same = cc
  closing-not Writing e same = true_false (sym e)

  pub writing-not : (phase : Phase) → is_writing phase ≡ true → phase ≡ Opening → ⊥
  writing-not Opening e same = true_false (sym e)
  writing-not Closing e same = true_false (sym e)
  writing-not Writing e same = cc

  lacking-holds : (seg : ℕ) (member : Member) (told : Option Told) →
      Each Holds (map (λ body. between log.own member.id body) (lacking log seg told))
  lacking-holds seg member None = each-one Holds (λ never. true_false (sym never))
  lacking-holds seg member (Some told) = search (arith, nat_lt, each-one, each-none, and_parts, eqb-true, closing-not)

  members-hold : (seg : ℕ) (members : List Member) → Each Holds (reminds_members log seg members)
  members-hold seg [] = each-none Holds
  members-hold seg (member ∷ members) =
      each-both Holds (reminds_member log seg member) (reminds_members log seg members) (lacking-holds seg member member.told)
      (members-hold seg members)

  open-holds : (before : Log) (segs : List ℕ) → Each Holds (reminds_open before log segs)
  open-holds before [] = each-none Holds
  open-holds before (seg ∷ segs) =
      each-both Holds (cond (log.segments seg).shut [] (reminds_members log seg (to_remind before log seg))) (reminds_open before log segs)
      (either (Each Holds) (log.segments seg).shut [] (reminds_members log seg (to_remind before log seg)) (λ _. each-none Holds)
      (λ _. members-hold seg (to_remind before log seg))) (open-holds before segs)

  shut-holds : (before : Log) (segs : List ℕ) → Each Holds (reminds_shut before log segs)
  shut-holds before [] = each-none Holds
  shut-holds before (seg ∷ segs) = each-both Holds
      (cond ((log.segments seg).shut && not (log.segments seg).freed) (reminds_shut_members log seg (standing before log seg)) [])
      (reminds_shut before log segs) (each-if Holds (reminds_shut_members log seg (standing before log seg))
      (λ e. each-map Holds (λ (member : Member). between log.own member.id (place_of log seg true))
      (filter (λ (member : Member). not (is_some member.told)) (standing before log seg))
      (λ member among _. (p.each seg).next (and_parts (log.segments seg).shut (not (log.segments seg).freed) e).0)))
      (shut-holds before segs)

  fetches-hold : (own : ServerId) (master : Master) (tasks : List Task) → Each Holds (fetches_again master tasks)
  fetches-hold own master [] = each-none Holds
  fetches-hold own master (task ∷ tasks) =
      each-both Holds (map (fetch_of master.log.own task) (filter (has_not_come master.ownership task) task.rows))
      (fetches_again master tasks)
      (each-map Holds (fetch_of master.log.own task) (filter (has_not_come master.ownership task) task.rows) (λ row _. tt))
      (fetches-hold own master tasks)

  recovered-holds : (master : Master) → Each Holds (recovered_again master)
  recovered-holds master = search (arith, each-map)

  ready-holds : (master : Master) → master.log.phase ≡ log.phase → Each Holds (ready_again master)
  ready-holds master same = search (arith, each-if, each-one, first-placed, writing-not, and_parts)

pub reminds-hold : {f : ℕ} (W : ℕ → ℕ → Type 0) {sent : List Message} {m : ServerId} (before : Log) (master : Master) →
    Placings f W sent m master.log → AllClaim f W master.log (reminds before master).1
reminds-hold {f} W {sent} {m} before master p =
    each-both P _ (ready_again master) (each-both P _ (recovered_again master) (each-both P _ (fetches_again master master.tasks)
    (each-both P _ (commits_again log)
    (each-both P (reminds_open before log (numbers_to log.head)) (reminds_shut before log (numbers_to log.head))
    (open-holds f W sent m log p before (numbers_to log.head)) (shut-holds f W sent m log p before (numbers_to log.head)))
    (each-commits P log (λ seg awaits. (p.each seg).asked (and_parts (log.segments seg).commit_sent _ awaits).0)))
    (fetches-hold f W sent m log p log.own master master.tasks)) (recovered-holds f W sent m log p master))
    (ready-holds f W sent m log p master refl)
  where
    log : Log
    log = master.log

    P : Message → Type 0
    P message = Claims (IsNext f log.head log.phase) (Some_placed W 1) W message.body
