-- Reads follow time, and show what was asked.
use Rattle.std.proofs.Common.{◌≡◌, ◌⊎◌, ◌<◌, ◌≤◌, List, ◌++◌, None, sym, ◌∙◌}
use Rattle.std.proofs.Common.{subst, inl, inr, arith}
use Rattle.rc_model.specs.Model.{ServerId, Server, Outside, Setup, Event, Message, Write, replay, In, HasAcknowledged}
use Rattle.rc_model.proofs.Members.{In-get}
use Rattle.rc_owner_laws.proofs.VersionReplays.{all-world}
use Rattle.rc_promises.specs.Service.{HasAsked, Answer, HasRead}
use Rattle.rc_promises.proofs.Asked.{versions-begin-at-one}
use Rattle.rc_promises.proofs.News.{WasRead, clients-are-heard}
use Rattle.rc_promises.specs.Confirmed.{HasSentFor, ReadsFollowTime, WritesFollowReads, ReadsShowOneValue, WhatReadsShowWasAsked}
use Rattle.rc_promises.proofs.Above.{above-acked}
use Rattle.rc_promises.proofs.Fresh.{IsAskedFor, all-asked-for}
use Rattle.rc_promises.proofs.Origin.{Origin, origin}
use Rattle.rc_promises.proofs.Shown.{Finds, zero-or-more, reads-rise, reads-alike}
use Rattle.rc_promises.proofs.StandingReads.{which-begins, first-events}
use Rattle.rc_promises.proofs.Stood.{IsShowing, shown-stood}
use Rattle.rc_promises.proofs.Zero.{shows-none}

-- what the master of a read found, and when
record IsReadAt (setup : Setup) (events : List Event) (m : ServerId) (before : List Message) (answer : Answer) : Type 0 where
  past : List Event
  rest : List Event
  whole : past ++ rest ≡ events
  sent_is : before ≡ (replay setup past).sent
  finds : Finds setup past m answer.table answer.key answer.version answer.value

read-found : {setup : Setup} {events : List Event} {m : ServerId} {before : List Message} {answer : Answer} →
    HasRead (replay setup events).sent m before answer → IsReadAt setup events m before answer
read-found {setup} {events} {m} {before} {answer} read = record {
  past = was.past;
  rest = was.rest;
  whole = was.whole;
  sent_is = was.sent_is;
  finds = record { term = was.term; owns = was.owned; found = was.found };
}
  where
    was : WasRead setup events m before answer.table answer.key answer.version answer.value
    was = (clients-are-heard setup events).reads m before read.message read.after read.whole read.from
        answer.table answer.key answer.version answer.value read.says

of-key : {setup : Setup} {past : List Event} {m : ServerId} (one other : Answer) → one.table ≡ other.table → one.key ≡ other.key →
    Finds setup past m one.table one.key one.version one.value → Finds setup past m other.table other.key one.version one.value
of-key {setup} {past} {m} one other table key finds = subst (λ k. Finds setup past m other.table k one.version one.value) key
    (subst (λ t. Finds setup past m t one.key one.version one.value) table finds)

pub reads-follow-time : ReadsFollowTime
reads-follow-time setup events m x before since first later some_m some_x read_first read_later confirmed table key less =
    by (which-begins a.past a.rest b.past b.rest (a.whole ∙ sym b.whole))
  where
    a : IsReadAt setup events m before first
    a = read-found read_first

    b : IsReadAt setup events x since later
    b = read-found read_later

    acked : HasAcknowledged (replay setup (b.past ++ b.rest)).sent x confirmed.ack
    acked = subst (λ (l : List Event). HasAcknowledged (replay setup l).sent x confirmed.ack) (sym b.whole) confirmed.acknowledged

    unsent : HasSentFor (replay setup b.past).sent x confirmed.ack.seg confirmed.ack.offset → ⊥
    unsent = subst (λ (l : List Message). HasSentFor l x confirmed.ack.seg confirmed.ack.offset → ⊥) b.sent_is confirmed.unsent

    by : ((gap : List Event) × (a.past ++ gap ≡ b.past)) ⊎ ((gap : List Event) × (b.past ++ gap ≡ a.past)) →
        first.version ≤ later.version
    by (inl (gap, is)) =
        reads-rise setup a.past gap b.rest m x later.table later.key some_m some_x first.version later.version first.value later.value
        (of-key first later table key a.finds)
        (subst (λ (l : List Event). Finds setup l x later.table later.key later.version later.value) (sym is) b.finds) confirmed.ack
        (subst (λ (l : List Event). HasAcknowledged (replay setup (l ++ b.rest)).sent x confirmed.ack) (sym is) acked)
        (subst (λ (l : List Event). HasSentFor (replay setup l).sent x confirmed.ack.seg confirmed.ack.offset → ⊥) (sym is) unsent)
    by (inr (gap, is)) = search (arith, first-events, b, a)

pub writes-follow-reads : WritesFollowReads
writes-follow-reads setup events m x before answer later some_m some_x read acked of unsent = by (zero-or-more answer.version)
  where
    a : IsReadAt setup events m before answer
    a = read-found read

    by : (answer.version ≡ 0) ⊎ (answer.version ≡ 0 → ⊥) → answer.version < later.version
    by (inl none) = (let more : 0 < later.version = versions-begin-at-one setup events acked in omega (arith, more, none))
    by (inr above) =
        let is : IsShowing setup a.past a.rest m some_m a.finds.term answer.table answer.key answer.version answer.value a.finds.owns
        a.finds.found = shown-stood setup a.past a.rest m some_m a.finds.term answer.table answer.key answer.version answer.value
        a.finds.owns a.finds.found above in
        subst (λ n. n < later.version) is.version_is
        (above-acked setup a.past a.rest m x some_x is.entry is.stood later
        (subst (λ (l : List Event). HasAcknowledged (replay setup l).sent x later) (sym a.whole) acked)
        (subst (λ (l : List Message). HasSentFor l x later.seg later.offset → ⊥) a.sent_is unsent)
        (of.table_is ∙ sym is.table_is) (of.key_is ∙ sym is.key_is))

pub reads-show-one-value : ReadsShowOneValue
reads-show-one-value setup events m x before since one other some_m some_x read_one read_other table key same =
    by (zero-or-more other.version)
  where
    a : IsReadAt setup events m before one
    a = read-found read_one

    b : IsReadAt setup events x since other
    b = read-found read_other

    by : (other.version ≡ 0) ⊎ (other.version ≡ 0 → ⊥) → one.value ≡ other.value
    by (inl none) =
        shows-none setup a.past a.rest m some_m a.finds.term one.table one.key one.version one.value a.finds.owns a.finds.found
        (same ∙ none)
        ∙ sym (shows-none setup b.past b.rest x some_x b.finds.term other.table other.key other.version other.value b.finds.owns
        b.finds.found none)
    by (inr above) = reads-alike b.rest a.rest (a.whole ∙ sym b.whole) some_m some_x
        (subst (λ n. Finds setup a.past m other.table other.key n one.value) same (of-key one other table key a.finds))
        b.finds above

pub what-reads-show-was-asked : WhatReadsShowWasAsked
what-reads-show-was-asked setup events m before answer some read = by (zero-or-more answer.version)
  where
    a : IsReadAt setup events m before answer
    a = read-found read

    by : (answer.version ≡ 0) ⊎ (answer.version ≡ 0 → ⊥) → ((answer.version ≡ 0) × (answer.value ≡ None))
        ⊎ ((x : ServerId) × HasAsked before x answer.table answer.key answer.value)
    by (inl none) = inl (
      none,
      shows-none setup a.past a.rest m some a.finds.term answer.table answer.key answer.version answer.value
          a.finds.owns a.finds.found none,
    )
    by (inr above) = inr (
      came.x,
      subst (λ (l : List Message). HasAsked l came.x answer.table answer.key answer.value) (sym a.sent_is)
          (subst (λ (message : Message). In message (replay setup a.past).sent) same
          (In-get (replay setup a.past).sent asked.number _ asked.asked)),
    )
      where
        is : IsShowing setup a.past a.rest m some a.finds.term answer.table answer.key answer.version answer.value a.finds.owns
            a.finds.found
        is = shown-stood setup a.past a.rest m some a.finds.term answer.table answer.key answer.version answer.value a.finds.owns
            a.finds.found above

        came : Origin (replay setup a.past).sent (replay setup a.past).masters (replay setup a.past).hosts
            (replay setup a.past).coordinator (all-world setup a.past) m is.stood.seg is.stood.offset is.entry
        came = origin (replay setup a.past).sent (replay setup a.past).masters (replay setup a.past).hosts
            (replay setup a.past).coordinator (all-world setup a.past) is.stood.holds
            is.stood.owned.grant is.stood.owned.among is.stood.owned.owner_is is.stood.owned.term_is is.stood.owned.holds

        asked : IsAskedFor (replay setup a.past).sent came.x came.place
        asked = all-asked-for setup a.past came.x came.place came.among came.client

        same : ◌≡◌ {A = Message} (record {
          from = Outside;
          to = Server came.x;
          body = Write came.place.entry.table came.place.entry.key came.place.entry.value;
        }) (record { from = Outside; to = Server came.x; body = Write answer.table answer.key answer.value })
        same = λ i. record {
          from = Outside;
          to = Server came.x;
          body = Write ((came.table_is ∙ is.table_is) i) ((came.key_is ∙ is.key_is) i) ((came.value_is ∙ is.value_is) i);
        }
