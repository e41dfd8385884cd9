-- What is said of reads makes the test of a run true; so a run whose test fails refutes it.
use Rattle.std.proofs.Common.{◌≡◌, ◌⊎◌, ◌<◌, Bool, true, false, not, ◌&&◌, ◌||◌, nat_eq}
use Rattle.std.proofs.Common.{List, [], ◌∷◌, ◌++◌, length, refl, sym, ap, ◌∙◌, subst, inl, inr, append_assoc, arith}
use Rattle.std.specs.List.{list_any, list_all}
use Rattle.std.proofs.lemmas.Bool.{eqb-true, lt-ltb, le-leb, and_parts, and_from}
use Rattle.std.proofs.lemmas.List.{length-append}
use Rattle.rc_model.specs.Model.{ServerId, Addr, Server, Entry, Setup, Event, Message, Body, ReadOk, Ack, made, same_id}
use Rattle.rc_model.specs.Model.{World, opening, replay, In, HasAcknowledged}
use Rattle.rc_model.proofs.Members.{In-append}
use Rattle.rc_model.proofs.Said.{HasMade-in}
use Rattle.rc_model.proofs.Ids.{same_id-true}
use Rattle.rc_model.proofs.Tests.{true_false}
use Rattle.rc_worked.specs.Sentences.{Run, acks_of, is_of_key, is_no_more, whole_world}
use Rattle.rc_worked.specs.Ordered.{is_some_entry, has_begun, Shown, shown_by, shown_of, is_same_key, is_followed, is_no_less}
use Rattle.rc_worked.specs.Ordered.{is_alike, is_in_order, answered_in_order, keeps_order_from, keeps_order, order_of}
use Rattle.rc_worked.proofs.Scenarios.{scenarios-are-replays, runs-append}
use Rattle.rc_step_laws.specs.WordClaims.{sent_after}
use Rattle.rc_promises.specs.Service.{Answer, HasRead}
use Rattle.rc_promises.proofs.Tested.{all-from, where-from, else-from, same_value-from, acks-say, of-key, no-more}
use Rattle.rc_promises.specs.Confirmed.{HasSentFor, IsConfirmed, MissesNothing, ConfirmedReadsMissNothing}
use Rattle.rc_promises.specs.Confirmed.{ReadsFollowTime, WritesFollowReads}
use Rattle.rc_promises.specs.Confirmed.{ReadsShowOneValue}
use Rattle.rc_promises.specs.Linearizable.{HasReplicas}
use Rattle.rc_promises.specs.OrderedRuns.{BrokenOrderRefutes, NoRunBreaksTheOrder}
use Rattle.rc_promises.proofs.NoneLater.{confirmed-reads-miss-nothing}
use Rattle.rc_promises.proofs.Following.{reads-follow-time, writes-follow-reads, reads-show-one-value}

-- Tests of lists

any-in : {X : Type 0} {test : X → Bool} (xs : List X) → list_any test xs ≡ true → (x : X) × In x xs × (test x ≡ true)
any-in [] e = true_false (sym e)
any-in {X} {test} (y ∷ xs) e = by (test y) refl (any-in xs) e
  where
    by : (b : Bool) → test y ≡ b → (list_any test xs ≡ true → (x : X) × In x xs × (test x ≡ true)) →
        (b || list_any test xs) ≡ true → (x : X) × ((x ≡ y) ⊎ In x xs) × (test x ≡ true)
    by true is rec e = (y, inl refl, is)
    by false isn't rec e = (let found = rec e in (found.0, inr found.1, found.2))

none-is : (b : Bool) → not b ≡ true → b ≡ false
none-is true e = true_false (sym e)
none-is false e = refl

-- What was begun

begun-false : {before : List Message} {x : ServerId} (ack : Ack) → has_begun before (x, ack) ≡ false →
    HasSentFor before x ack.seg ack.offset → ⊥
begun-false {before} {x} ack none (entry, was) = by (made before x ack.seg ack.offset)
    (HasMade-in before x ack.seg ack.offset entry was) none
  where
    by : (entries : List Entry) → In entry entries → is_some_entry entries ≡ false → ⊥
    by [] at e = at
    by (first ∷ rest) at e = true_false e

-- What was shown

record WasShown (sent : List Message) (one : Shown) : Type 0 where
  m : ServerId
  before : List Message
  message : Message
  after : List Message
  whole : sent ≡ before ++ message ∷ after
  from : message.from ≡ Server m
  says : message.body ≡ ReadOk one.table one.key one.version one.value

shown-is : (from : Addr) (body : Body) (one : Shown) → In one (shown_by from body) →
    (m : ServerId) × (from ≡ Server m) × (body ≡ ReadOk one.table one.key one.version one.value)
shown-is (Server m) (ReadOk table key version value) one (inl e) =
    (m, refl, ap (λ (it : Shown). ReadOk it.table it.key it.version it.value) (sym e))
shown-is (Server m) (ReadOk table key version value) one (inr rest) = absurd rest
shown-is (Server m) _ one at = absurd at
shown-is _ _ one at = absurd at

was-shown : (sent : List Message) (one : Shown) → In one (shown_of sent) → WasShown sent one
was-shown [] one at = absurd at
was-shown (first ∷ sent) one at = by (was-shown sent one) (In-append one (shown_by first.from first.body) (shown_of sent) at)
  where
    by : (In one (shown_of sent) → WasShown sent one) → In one (shown_by first.from first.body) ⊎ In one (shown_of sent) →
        WasShown (first ∷ sent) one
    by later (inl here) = (let is = shown-is first.from first.body one here in
        record { m = is.0; before = []; message = first; after = sent; whole = refl; from = is.1; says = is.2 })
    by later (inr there) = (let p : WasShown sent one = later there in record {
      m = p.m;
      before = first ∷ p.before;
      message = p.message;
      after = p.after;
      whole = ap (λ l. first ∷ l) p.whole;
      from = p.from;
      says = p.says;
    })

abbrev answer-of : Shown → Answer
answer-of one = record { table = one.table; key = one.key; version = one.version; value = one.value }

-- A read in a list

module _ (setup : Setup) (events : List Event) (some : HasReplicas setup) (misses : ConfirmedReadsMissNothing) (follow : ReadsFollowTime)
    (writes : WritesFollowReads) (values : ReadsShowOneValue) where
  abbrev sent : List Message
  sent = sent_after setup events

  module _ (m : ServerId) (before : List Message) (one : Shown) (read : HasRead sent m before (answer-of one)) where
    -- what was shown before it was a read, answered before it
    earlier : {other : Shown} (p : WasShown before other) → HasRead sent p.m p.before (answer-of other) × (length p.before < length before)
    earlier p = search (arith, append_assoc, length-append)

    followed : list_all (is_followed before one) (acks_of sent) ≡ true
    followed = all-from (acks_of sent) each
      where
        each : (it : ServerId × Ack) → In it (acks_of sent) → is_followed before one it ≡ true
        each (x, ack) at = where-from (is_of_key one.table one.key ack) (λ of. else-from (has_begun before (x, ack))
            (λ none. lt-ltb one.version ack.version
            (writes setup events m x before (answer-of one) ack (some m.index) (some x.index) read (acks-say sent x ack at)
            (of-key of) (begun-false ack none))))

    same-key : (other : Shown) → is_same_key other one ≡ true → (other.table ≡ one.table) × (other.key ≡ one.key)
    same-key other e = (let both = and_parts (nat_eq other.table one.table) (nat_eq other.key one.key) e in
        (eqb-true other.table one.table both.0, eqb-true other.key one.key both.1))

    alike : list_all (is_alike one) (shown_of before) ≡ true
    alike = all-from (shown_of before) (λ other at.
        where-from (is_same_key other one && nat_eq other.version one.version)
        (λ e. let both = and_parts (is_same_key other one) (nat_eq other.version one.version) e in
        let keys = same-key other both.0 in
        let p : WasShown before other = was-shown before other at in
        same_value-from
        (values setup events p.m m p.before before (answer-of other) (answer-of one) (some p.m.index) (some m.index)
        (earlier p).0 read keys.0 keys.1 (eqb-true other.version one.version both.1))))

    -- where it is confirmed
    module _ (found : (it : ServerId × Ack) × In it (acks_of sent) × ((same_id m it.0 && not (has_begun before it)) ≡ true)) where
      confirmed : IsConfirmed sent m before
      confirmed = by found
        where
          by : (it : ServerId × Ack) × In it (acks_of sent) × ((same_id m it.0 && not (has_begun before it)) ≡ true) →
              IsConfirmed sent m before
          by ((x, ack), at, e) =
              let both = and_parts (same_id m x) (not (has_begun before (x, ack))) e in
              let here : m ≡ x = same_id-true both.0 in
              record {
                ack = ack;
                acknowledged = subst (λ (y : ServerId). HasAcknowledged sent y ack) (sym here) (acks-say sent x ack at);
                unsent = subst (λ (y : ServerId). HasSentFor before y ack.seg ack.offset → ⊥) (sym here)
                    (begun-false ack (none-is (has_begun before (x, ack)) both.1));
              }

      no-acks-missed : list_all (λ ack. is_no_more one.table one.key one.version ack.1) (acks_of before) ≡ true
      no-acks-missed = all-from (acks_of before) each
        where
          seen : MissesNothing m before (answer-of one)
          seen = misses setup events m before (answer-of one) (some m.index) read confirmed

          each : (it : ServerId × Ack) → In it (acks_of before) → is_no_more one.table one.key one.version it.1 ≡ true
          each (x, ack) at = no-more (λ of. seen.all x ack (acks-say before x ack at) of)

      no-reads-missed : list_all (is_no_less one) (shown_of before) ≡ true
      no-reads-missed = all-from (shown_of before) (λ other at.
          where-from (is_same_key other one) (λ e. let keys = same-key other e in
          let p : WasShown before other = was-shown before other at in
          le-leb other.version one.version
          (follow setup events p.m m p.before before (answer-of other) (answer-of one) (some p.m.index) (some m.index)
          (earlier p).0 read confirmed keys.0 keys.1 (earlier p).1)))

    in-order : is_in_order sent before m one ≡ true
    in-order = search (arith, and_from, followed, alike, where-from, any-in, no-acks-missed, no-reads-missed)

  message-in-order : (before after : List Message) (message : Message) (from : Addr) (body : Body) →
      sent ≡ before ++ message ∷ after → message.from ≡ from → message.body ≡ body → answered_in_order sent before from body ≡ true
  message-in-order before after message (Server m) (ReadOk table key version value) whole from says =
      search (arith, in-order)
  message-in-order before after message (Server m) _ whole from says = refl
  message-in-order before after message _ _ whole from says = refl

  from-in-order : (before rest : List Message) → sent ≡ before ++ rest → keeps_order_from sent before rest ≡ true
  from-in-order before [] whole = refl
  from-in-order before (message ∷ rest) whole =
      and_from (answered_in_order sent before message.from message.body) (keeps_order_from sent (before ++ message ∷ []) rest)
      (message-in-order before rest message message.from message.body whole refl refl)
      (from-in-order (before ++ message ∷ []) rest (whole ∙ sym (append_assoc before (message ∷ []) rest)))

  pub order-kept : keeps_order (sent_after setup events) ≡ true
  order-kept = from-in-order [] (sent_after setup events) refl

-- Runs

pub order-holds : (run : Run) → HasReplicas run.setup → ConfirmedReadsMissNothing → ReadsFollowTime → WritesFollowReads →
    ReadsShowOneValue → order_of run ≡ true
order-holds run some misses follow writes values = subst (λ l. keeps_order l ≡ true) whole-sent
    (order-kept run.setup (whole_world run).events some misses follow writes values)
  where
    whole-sent : sent_after run.setup (whole_world run).events ≡ (whole_world run).sent
    whole-sent = ap (λ (world : World). world.sent)
        (subst (λ (world : World). replay run.setup world.events ≡ world) (runs-append (opening run.setup) run.early run.more)
        (scenarios-are-replays run.setup (run.early ++ run.more)))

pub broken-order-refutes : BrokenOrderRefutes
broken-order-refutes run some broken misses follow writes values =
    true_false (sym (order-holds run some misses follow writes values) ∙ broken)

pub no-run-breaks-the-order : NoRunBreaksTheOrder
no-run-breaks-the-order run some =
    order-holds run some confirmed-reads-miss-nothing reads-follow-time writes-follow-reads reads-show-one-value
