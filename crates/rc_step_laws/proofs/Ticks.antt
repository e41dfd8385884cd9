-- A master's timer: what it says again was right before and is now.
use Rattle.std.proofs.Common.{◌≡◌, ℕ, ◌+◌, Bool, true, false, List, [], ◌∷◌, ◌++◌, length, drop, map, refl, ap, subst}
use Rattle.std.proofs.Common.{arith}
use Rattle.std.proofs.lemmas.List.{length-map}
use Rattle.rc_types.specs.declared.ids.Addr.TheVariants.{Coordinator}
use Rattle.rc_model.specs.Model.{ServerId, Server, Entry, PlanRow, Member, Message, Body, Place, Append, Close, Enlist, between}
use Rattle.rc_model.specs.Model.{to_coordinator, is_up, Log, numbers_to, Master, Task, ids_of, place_of, then_does, obeys_list, fetch_of}
use Rattle.rc_model.specs.Model.{reminds, ticks, In}
use Rattle.rc_model.proofs.Members.{map-In}
use Rattle.rc_step_laws.specs.All.{Stands, IsOpened, IsMember, MasterSays, body_said}
use Rattle.rc_model.proofs.Sending.{Each, Copied, each-map, each-reminds}
use Rattle.rc_step_laws.proofs.Lists.{get-drop}
use Rattle.rc_step_laws.proofs.Tests.{get-map, map-get}
use Rattle.rc_step_laws.proofs.LogMoves.{GoodLog}
use Rattle.rc_step_laws.proofs.Places.{numbers-In}
use Rattle.rc_step_laws.proofs.Views.{GoodView, Moved, moved-then_does, moved-quiet, same-moved, AllQuiet, IsQuiet}
use Rattle.rc_step_laws.proofs.Views.{IsQuietOf, quiet-one, quiet-says}
use Rattle.rc_step_laws.proofs.ListRules.{place-whole, moved-obeys}
use Rattle.rc_model.proofs.Tests.{true_false, either}

-- Messages that may be said again: a proper Place among them goes to a member

pub record Again (sent sent_now : List Message) (m : ServerId) (log : Log) (message : Message) : Type 0 where
  pub says : MasterSays sent sent_now m log log message
  pub news : (x : ServerId) (s e : ℕ) (digest : List ℕ) (entries : List Entry) →
      message ≡ between m x (Place s e digest entries false) → IsMember sent m s e x

again-quiet : {sent sent_now : List Message} {m : ServerId} {log : Log} {message : Message} → IsQuietOf m message →
    Again sent sent_now m log message
again-quiet {m} {log} is = record {
  says = quiet-says is;
  news = λ x s e digest entries same. absurd (subst (λ (one : Message). IsQuiet one.body) same is.quiet [] [] m log log Coordinator);
}

-- what goes to one member
record BodyAgain (sent sent_now : List Message) (m : ServerId) (log : Log) (x : ServerId) (body : Body) : Type 0 where
  says : body_said sent sent_now m log log (Server x) body
  news : (s e : ℕ) (digest : List ℕ) (entries : List Entry) → body ≡ Place s e digest entries false → IsMember sent m s e x

again-to : {sent sent_now : List Message} {m : ServerId} {log : Log} {x : ServerId} {body : Body} → log.own ≡ m →
    BodyAgain sent sent_now m log x body → Again sent sent_now m log (between log.own x body)
again-to {sent} {m} {x} {body} own p = search arith

-- an open segment whole, to a member
again-place : (sent sent_now : List Message) (m : ServerId) (log : Log) (x : ServerId) (s : ℕ) → GoodLog sent m log →
    IsOpened log s → (log.segments s).shut ≡ false → In x (ids_of (log.segments s).config.members)
    → BodyAgain sent sent_now m log x (place_of log s false)
again-place sent sent_now m log x s good opened open_now at = record {
  says = (
    place-whole opened open_now (λ _. at),
    record { long = omega arith; known = λ is upto under. member },
  );
  news = λ t e digest entries same. (
      let seg : s ≡ t = cc in
      let epoch : (log.segments s).config.epoch ≡ e = cc in
      subst (λ n. IsMember sent m n e x) seg (subst (λ n. IsMember sent m s n x) epoch member));
}
  where
    member : IsMember sent m s (log.segments s).config.epoch x
    member = (good.each s).complete x opened.above opened.below open_now at

-- a shut one whole, closed
again-closed : {sent sent_now : List Message} {m : ServerId} {log : Log} {x : ServerId} {s : ℕ} → IsOpened log s →
    (log.segments s).shut ≡ true → BodyAgain sent sent_now m log x (place_of log s true)
again-closed opened shut = record {
  says = (
    place-whole opened shut (λ e. true_false e),
    record { long = omega arith; known = λ is upto under. true_false is },
  );
  news = λ t e digest entries same. (let ends : true ≡ false = cc in true_false ends);
}

-- what the member lacks
stands-lacking : (entries : List (Entry × Bool)) (n : ℕ) →
    Stands (map (λ (one : Entry × Bool). one.0) (drop n entries)) n (map (λ (one : Entry × Bool). one.0) entries)
stands-lacking entries n k entry at = search (arith, get-map, map-get, get-drop)

again-append : {sent sent_now : List Message} {m : ServerId} {log : Log} {x : ServerId} {s n : ℕ} → IsOpened log s
    → BodyAgain sent sent_now m log x (Append s n (map (λ (one : Entry × Bool). one.0) (drop n (log.segments s).entries)))
again-append {log} {s} {n} opened = search (arith, stands-lacking)

again-close : {sent sent_now : List Message} {m : ServerId} {log : Log} {x : ServerId} {s : ℕ} → IsOpened log s →
    s + 1 ≡ log.head → BodyAgain sent sent_now m log x (Close s (length (log.segments s).entries))
again-close {log} {s} opened old = search (arith, length-map)

again-copied : {sent sent_now : List Message} {m : ServerId} {log : Log} → GoodLog sent m log → Copied (Again sent sent_now m log) log
again-copied {sent} {sent_now} {m} {log} good = record {
  place = λ member s closed at shut among. place member s closed (opened s at) shut among;
  append = λ member s len at. again-to good.own (again-append (opened s at));
  close = λ member s at old. again-to good.own (again-close (opened s at) old);
}
  where
    opened : (s : ℕ) → In s (numbers_to log.head) → IsOpened log s
    opened s at = let p = numbers-In s log.head at in record { above = p.0; below = p.1 }

    place : (member : Member) (s : ℕ) (closed : Bool) → IsOpened log s → (log.segments s).shut ≡ closed →
        In member (log.segments s).config.members → Again sent sent_now m log (between log.own member.id (place_of log s closed))
    place member s false is open_now among = again-to good.own
        (again-place sent sent_now m log member.id s good is open_now
        (map-In (λ (one : Member). one.id) member (log.segments s).config.members among))
    place member s true is shut among = again-to good.own (again-closed is shut)

pub fetches-quiet : {m own : ServerId} (task : Task) (rows : List PlanRow) → own ≡ m → AllQuiet m (map (fetch_of own task) rows)
fetches-quiet {m} {own} task rows is =
    each-map (IsQuietOf m) (fetch_of own task) rows (λ row at. record { from = ap Server is; quiet = λ _ _ _ _ _ _. tt })

-- All of it

moved-reminds : {sent : List Message} {m : ServerId} (before : Log) {master : Master} → GoodView sent m master →
    Moved sent m master (reminds before master)
moved-reminds {sent} {m} before {master} view = record {
  log = same-moved view.log view.fine (λ message at. (again message at).says)
      (λ x s e digest entries at. (again (between m x (Place s e digest entries false)) at).news x s e digest entries refl);
  known = view.known;
}
  where
    quiet : {message : Message} → IsQuietOf m message → Again sent (sent ++ (reminds before master).1) m master.log message
    quiet {message} is = again-quiet is

    again : Each (Again sent (sent ++ (reminds before master).1) m master.log) (reminds before master).1
    again = search (arith, each-reminds, again-copied, quiet)

pub moved-ticks : {sent : List Message} {m : ServerId} {master : Master} → GoodView sent m master → Moved sent m master (ticks master)
moved-ticks {sent} {m} {master} view = either (λ after. Moved sent m master after) (is_up master.known master.log.own)
    (then_does (obeys_list master) (reminds master.log)) (master, to_coordinator master.log.own Enlist ∷ [])
    (λ _. moved-then_does (reminds master.log) view (moved-obeys view) (λ now. moved-reminds master.log now))
    (λ _. moved-quiet view refl refl (quiet-one (record { from = ap Server view.log.own; quiet = λ _ _ _ _ _ _. tt })))
