-- What processes that end at any moment do is linearizable: its history is, and each operation stands in it between the
-- steps that were done before its invocation and what had left by its response.
use Rattle.std.proofs.Common.{◌≡◌, ◌⊎◌, ℕ, zero, suc, ◌+◌, ◌<◌, ◌≤◌, true, List, [], ◌∷◌, ◌++◌, length, filter, take, Some, None}
use Rattle.std.proofs.Common.{◌&&◌, nat_eq, slice_get, refl, sym, ap, ◌∙◌, subst, inl, inr, arith, append_assoc}
use Rattle.std.proofs.lemmas.List.{take-append-le}
use Rattle.std.proofs.lemmas.Bool.{eq-eqb}
use Rattle.std.proofs.lemmas.Grind.{flat_map-append}
use Rattle.rc_types.specs.declared.events.Setup.{Setup}
use Rattle.rc_model.specs.Model.{ServerId, Addr, Server, Entry, Event, Message, Body, Write, WriteOk, ReadOk, Ack, to_outside, replay}
use Rattle.rc_model.specs.Model.{In, HasAcknowledged}
use Rattle.rc_model.proofs.Ids.{same_id-refl}
use Rattle.rc_model.proofs.Members.{In-get, In-left, In-right, place_of, filter-In}
use Rattle.rc_step_laws.proofs.Lists.{get-left, get-within}
use Rattle.rc_history.specs.Processes.{Deed, Processes, new_processes, Happening, Takes, Leaves, MayAll, MayLeave, after_all, safe_at}
use Rattle.rc_history.proofs.Global.{Goes, goes-all, goes-new}
use Rattle.rc_history.proofs.Telling.{in-said}
use Rattle.rc_owner_laws.specs.AckClaims.{acks_place}
use Rattle.rc_owner_laws.proofs.Once.{acknowledged-once}
use Rattle.rc_promises.specs.Service.{IsWritten, IsOneWrite, IsOfKey, Answer, HasRead, MissesOnlyLater}
use Rattle.rc_promises.proofs.Once.{three, one-version-is-one-write}
use Rattle.rc_promises.proofs.Reading.{reads-see-acknowledged-writes}
use Rattle.rc_promises.specs.Confirmed.{HasSentFor}
use Rattle.rc_promises.specs.Linearizable.{AWrite, ARead, Operation, IsWrite, IsRead, IsOn, StandsBefore, WasAskedFor}
use Rattle.rc_promises.specs.Linearizable.{IsLinearizable, HasReplicas, IsResponseOf}
use Rattle.rc_promises.specs.Linearized.{AreLinearized, SaysTheSame}
use Rattle.rc_promises.specs.LinearProcesses.{at_moment, sent_by_deeds, IsDone, IsUnsent, request_to, asked, LinearizableOfProcesses}
use Rattle.rc_promises.specs.LinearProcesses.{EachWriteOfProcesses, WhatLeavesWasDone, ConditionalWritesOfProcesses}
use Rattle.rc_promises.specs.LinearProcesses as lived
use Rattle.rc_promises.proofs.Stood.{Stood, acked-stood}
use Rattle.rc_promises.proofs.Above.{above-acked}
use Rattle.rc_promises.proofs.Following.{writes-follow-reads}
use Rattle.rc_promises.proofs.Fresh.{sent-of-take}
use Rattle.rc_promises.proofs.StandingReads.{read-at}
use Rattle.rc_promises.proofs.Linear.{linearized, sees, rises-from, each-write}
use Rattle.rc_promises.proofs.Conditions.{takes-effect}
use Rattle.rc_promises.proofs.LastingDeeds.{before, before-rest, done-lasts, deed-stands, is-done, done-from, Found, find, left-by, left-in}
use Rattle.rc_promises.proofs.LastingDeeds.{left-was-sent, FirstLeft, first-left}
use Rattle.rc_promises.proofs.Cuts.{Cut, cut}

-- Numbers

under : (a b c : ℕ) → a < b → a < b + c
under a b c less = omega (arith, less)

under-place : {a b : ℕ} (c : ℕ) {i : ℕ} → a < b → i ≡ b + c → a < i
under-place c less is = omega (arith, less, is)

-- Lists

get-behind : {X : Type 0} (xs ys : List X) (j : ℕ) {x : X} → slice_get ys j ≡ Some x → slice_get (xs ++ ys) (length xs + j) ≡ Some x
get-behind [] ys j {x} e = subst (λ k. slice_get ys k ≡ Some x) (let none : j ≡ 0 + j = omega arith in none) e
get-behind (y ∷ xs) ys j {x} e = subst (λ k. slice_get (y ∷ (xs ++ ys)) k ≡ Some x)
    (let one : suc (length xs + j) ≡ suc (length xs) + j = omega arith in one) (get-behind xs ys j e)

In-take-first : {X : Type 0} (xs ys : List X) (n : ℕ) (x : X) → length xs ≤ n → In x xs → In x (take n (xs ++ ys))
In-take-first [] ys n x less at = absurd at
In-take-first (y ∷ xs) ys zero x less at = absurd (omega (arith, less))
In-take-first (y ∷ xs) ys (suc n) x less (inl e) = inl e
In-take-first (y ∷ xs) ys (suc n) x less (inr at) = inr (In-take-first xs ys n x (omega (arith, less)) at)

only-one : {X : Type 0} (xs : List X) {x y : X} → length xs ≤ 1 → In x xs → In y xs → x ≡ y
only-one [] few one other = absurd one
only-one (z ∷ xs) few (inl e) (inl f) = e ∙ sym f
only-one {X} (z ∷ xs) {y} few (inl e) (inr other) = absurd (some xs other few)
  where
    some : (l : List X) → In y l → suc (length l) ≤ 1 → ⊥
    some [] at p = at
    some (u ∷ l) at p = absurd (omega (arith, p))
only-one {X} (z ∷ xs) {x} few (inr one) other = absurd (some xs one few)
  where
    some : (l : List X) → In x l → suc (length l) ≤ 1 → ⊥
    some [] at p = at
    some (u ∷ l) at p = absurd (omega (arith, p))

-- an acknowledgement of a place
names : (m : ServerId) (s o term table key version : ℕ) →
    acks_place m s o (to_outside m (WriteOk s o term table key version)) ≡ true
names m s o term table key version = ap (λ b. b && (nat_eq s s && nat_eq o o)) (same_id-refl m)
    ∙ (ap (λ b. b && nat_eq o o) (eq-eqb s s refl) ∙ eq-eqb o o refl)

passes : {m : ServerId} (ack : Ack) (message : Message) → message.from ≡ Server m →
    message.body ≡ WriteOk ack.seg ack.offset ack.term ack.table ack.key ack.version → acks_place m ack.seg ack.offset message ≡ true
passes {m} ack message from says =
    ap (λ (a : Addr). acks_place m ack.seg ack.offset (record { from = a; to = message.to; body = message.body })) from
    ∙ (ap (λ (b : Body). acks_place m ack.seg ack.offset (record { from = Server m; to = message.to; body = b })) says
    ∙ names m ack.seg ack.offset ack.term ack.table ack.key ack.version)

-- The order

less-or-same : {a b : ℕ} → a ≤ b → (a < b) ⊎ (a ≡ b)
less-or-same p = grind arith

read-after : (a b : Operation) → a.version ≤ b.version → b.kind ≡ ARead → (a.kind ≡ AWrite) ⊎ (a.response < b.response) →
    StandsBefore a b
read-after a b less reads how = by (less-or-same less)
  where
    by : (a.version < b.version) ⊎ (a.version ≡ b.version) → StandsBefore a b
    by (inl under) = inl under
    by (inr same) = inr (same, reads, how)

pub says-the-same : SaysTheSame
says-the-same sent table key = (
  λ is. record {
    in_time = is.in_time;
    total = is.total;
    begins = is.begins;
    written = is.written;
    one_value = is.one_value;
  },
  λ is. record {
    in_time = is.in_time;
    total = is.total;
    begins = is.begins;
    written = is.written;
    one_value = is.one_value;
  },
)

module _ (setup : Setup) (happenings : List Happening) (may : MayAll setup (new_processes setup) happenings) (some : HasReplicas setup)
  where
    abbrev all : Processes
    all = after_all setup (new_processes setup) happenings

    abbrev sent : List Message
    sent = sent_by_deeds all.done

    -- what was sent, and lasts, of the steps that were done before this moment
    abbrev upto : ℕ → List Message
    upto n = sent_by_deeds (before setup (new_processes setup) happenings n)

    goes : Goes setup all
    goes = goes-all setup (new_processes setup) happenings goes-new may

    rest-of : (n : ℕ) → (rest : List Deed) × (all.done ≡ before setup (new_processes setup) happenings n ++ rest)
    rest-of n = let more = before-rest setup (new_processes setup) happenings n in
        (more.0, sym (done-lasts setup (new_processes setup) happenings) ∙ more.1)

    sent-is : (n : ℕ) → (rest : List Message) × (sent ≡ upto n ++ rest)
    sent-is n = let more = rest-of n in (
      sent_by_deeds more.0,
      ap sent_by_deeds more.1
          ∙ flat_map-append (λ (d : Deed). d.sent) (before setup (new_processes setup) happenings n) more.0,
    )

    within : (n : ℕ) (message : Message) → In message (upto n) → In message sent
    within n message at = let more = sent-is n in subst (In message) (sym more.1) (In-left message (upto n) more.0 at)

    cut-at : (n : ℕ) → Cut setup (upto n) sent
    cut-at n = let more = rest-of n in cut (before setup (new_processes setup) happenings n) more.0 goes more.1

    -- what holds after all lists of events holds of what was sent
    law : (P : List Message → Type 0) → ((events : List Event) → P (replay setup events).sent) → P sent
    law P always = subst P (cut-at 0).whole_is (always ((cut-at 0).early ++ (cut-at 0).gap))

    linear : IsLinearizable sent
    linear = law IsLinearizable (λ events. linearized setup events some)

    one-write : (m : ServerId) (ack : Ack) → HasAcknowledged sent m ack → IsOneWrite sent m ack
    one-write = law (λ (l : List Message). (m : ServerId) (ack : Ack) → HasAcknowledged l m ack → IsOneWrite l m ack)
        (λ events. one-version-is-one-write setup events)

    each : (m : ServerId) (ack : Ack) (p : HasAcknowledged sent m ack) → IsResponseOf sent m ack p.message
    each = law (λ (l : List Message). (m : ServerId) (ack : Ack) (p : HasAcknowledged l m ack) → IsResponseOf l m ack p.message)
        (λ events m ack p. each-write setup events m ack some p)

    read-sees : (r w : Operation) → IsRead sent r → IsWrite sent w → w.table ≡ r.table → w.key ≡ r.key → w.response < r.response →
        w.version ≤ r.version
    read-sees = law (λ (l : List Message). (r w : Operation) → IsRead l r → IsWrite l w → w.table ≡ r.table → w.key ≡ r.key →
        w.response < r.response → w.version ≤ r.version)
        (λ events r w read write table key less. sees setup events some r read write table key less)

    read-rises : (r a : Operation) → IsRead sent r → IsRead sent a → a.table ≡ r.table → a.key ≡ r.key → a.response < r.response →
        a.version ≤ r.version
    read-rises = law (λ (l : List Message). (r a : Operation) → IsRead l r → IsRead l a → a.table ≡ r.table → a.key ≡ r.key →
        a.response < r.response → a.version ≤ r.version)
        (λ events r a read other table key less. rises-from setup events some r read other table key less)

    write-follows : (m x : ServerId) (before : List Message) (answer : Answer) (later : Ack) → HasRead sent m before answer →
        HasAcknowledged sent x later → IsOfKey answer.table answer.key later → (HasSentFor before x later.seg later.offset → ⊥) →
        answer.version < later.version
    write-follows = law (λ (l : List Message). (m x : ServerId) (before : List Message) (answer : Answer) (later : Ack) →
        HasRead l m before answer → HasAcknowledged l x later → IsOfKey answer.table answer.key later →
        (HasSentFor before x later.seg later.offset → ⊥) → answer.version < later.version)
        (λ events m x before answer later read acked of unsent. writes-follow-reads setup events m x before answer later (some m.index)
        (some x.index) read acked of unsent)

    once : (m : ServerId) (s o : ℕ) → length (filter (acks_place m s o) sent) ≤ 1
    once = law (λ (l : List Message). (m : ServerId) (s o : ℕ) → length (filter (acks_place m s o) l) ≤ 1)
        (λ events. acknowledged-once setup events)

    never-first : (m : ServerId) (answer : Answer) → HasRead sent m [] answer → ⊥
    never-first = law (λ (l : List Message). (m : ServerId) (answer : Answer) → HasRead l m [] answer → ⊥)
        (λ events m answer read. none events m answer (reads-see-acknowledged-writes setup events m [] answer read))
      where
        none : (events : List Event) (m : ServerId) (answer : Answer) → MissesOnlyLater setup events m [] answer → ⊥
        none events m answer seen = (let never : slice_get [] seen.owned.granted.0 ≡ Some seen.owned.grant = seen.owned.granted.1 in cc)

    -- the value of one version
    same-value : {m x : ServerId} {ack other : Ack} {one two : Entry} → IsWritten sent m ack one → IsWritten sent x other two →
        ack.table ≡ other.table → ack.key ≡ other.key → ack.version ≡ other.version → one.value ≡ two.value
    same-value {m} {x} {ack} {other} {one} {two} p q table key version = is.one_value one p ∙ sym (is.one_value two
        (subst (λ (k : Ack). IsWritten sent m k two) only.1 (subst (λ (k : ServerId). IsWritten sent k other two) only.0 q)))
      where
        is : IsOneWrite sent m ack
        is = one-write m ack p.acknowledged

        only : (x ≡ m) × (other ≡ ack)
        only = is.only x other q.acknowledged (record { table_is = sym table; key_is = sym key }) (sym version)

    -- Steps

    find-at : {n i : ℕ} {message : Message} → slice_get (upto n) i ≡ Some message →
        Found setup (new_processes setup) happenings n i message
    find-at {n} e = find happenings n e

    find-sent : {i : ℕ} {message : Message} → slice_get sent i ≡ Some message →
        Found setup (new_processes setup) happenings (length happenings) i message
    find-sent {i} {message} e = find-at
        (subst (λ (deeds : List Deed). slice_get (sent_by_deeds deeds) i ≡ Some message)
        (sym (done-lasts setup (new_processes setup) happenings)) e)

    not-sent : {n : ℕ} {m : ServerId} {s o : ℕ} → IsUnsent setup happenings n m s o → HasSentFor (upto n) m s o → ⊥
    not-sent {n} unsent (entry, made) = unsent found.moment found.deed found.below (is-done found.done) (
      entry,
      record {
        message = made.message;
        among = In-get found.deed.sent found.number made.message found.at;
        from = made.from;
        holds = made.holds;
      },
    )
      where
        at : (k : ℕ) × (slice_get (upto n) k ≡ Some made.message)
        at = place_of (upto n) made.message made.among

        found : Found setup (new_processes setup) happenings n at.0 made.message
        found = find-at at.1

    -- what a step sends stands behind what was sent before, and before what is sent later
    stands-at : {k n : ℕ} {deed : Deed} → k < n → IsDone setup happenings k deed →
        (rest : List Message) × (upto n ≡ (upto k ++ deed.sent) ++ rest)
    stands-at {k} {n} {deed} less done =
        let it = deed-stands setup (new_processes setup) happenings k n deed less (done-from done) in (
          sent_by_deeds it.0,
          ap sent_by_deeds it.1
              ∙ (flat_map-append (λ (d : Deed). d.sent) (before setup (new_processes setup) happenings k) (deed ∷ it.0)
              ∙ sym (append_assoc (upto k) deed.sent (sent_by_deeds it.0))),
        )

    left-sent : (message : Message) → In message all.left → In message sent
    left-sent message at = in-said message leaves.deed all.done leaves.done_before leaves.its
      where
        leaves : MayLeave (safe_at all) all.done message
        leaves = goes.left message at

    -- A write

    module _ (w : Operation) (is : lived.IsWrite setup happenings w) where
      abbrev acks : Message
      acks = to_outside w.master (WriteOk is.seg is.offset is.term w.table w.key w.version)

      abbrev ack : Ack
      ack = record { seg = is.seg; offset = is.offset; term = is.term; table = w.table; key = w.key; version = w.version }

      abbrev entry : Entry
      entry = record { term = is.term; table = w.table; key = w.key; version = w.version; value = w.value }

      left-before : {n : ℕ} → w.response < n → In acks (upto n)
      left-before {n} less = left-was-sent setup happenings n acks may
          (left-by setup (new_processes setup) happenings is.response less)

      abbrev acked : (l : List Message) → In acks l → HasAcknowledged l w.master ack
      acked l at = record { message = acks; among = at; from = refl; says = refl }

      abbrev acked-sent : HasAcknowledged sent w.master ack
      acked-sent = acked sent (left-sent acks (left-in setup (new_processes setup) happenings w.response is.response))

      written : IsWritten sent w.master ack entry
      written = record { acknowledged = acked-sent; made = is.made }

      above-zero : 0 < w.version
      above-zero = (one-write w.master ack acked-sent).above

      -- a write in the history, whose response stands before what is sent from the moment on
      record WriteSent (n : ℕ) : Type 0 where
        it : Operation
        sent_is : IsWrite sent it
        kind_is : w.kind ≡ it.kind
        table_is : w.table ≡ it.table
        key_is : w.key ≡ it.key
        version_is : w.version ≡ it.version
        value_is : w.value ≡ it.value
        below : it.response < length (upto n)

      write-sent : {n : ℕ} → w.response < n → WriteSent n
      write-sent {n} less = record {
        it = record found.op { response = at.0 };
        sent_is = record {
          kind = found.is.kind;
          seg = found.is.seg;
          offset = found.is.offset;
          term = found.is.term;
          request = found.is.request;
          response = here ∙ sym found.response_is ∙ found.is.response;
          made = found.is.made;
          fresh = found.is.fresh;
        };
        kind_is = is.kind ∙ sym found.is.kind;
        table_is = sym found.table_is;
        key_is = sym found.key_is;
        version_is = sym found.version_is;
        value_is = same-value written
            (record {
              acknowledged = record {
                message = to_outside found.op.master (WriteOk found.is.seg found.is.offset found.is.term found.op.table found.op.key
                    found.op.version);
                among = In-get sent found.op.response _ found.is.response;
                from = refl;
                says = refl;
              };
              made = found.is.made;
            }) (sym found.table_is) (sym found.key_is) (sym found.version_is);
        below = get-within (upto n) at.0 at.1;
      }
        where
          at : (k : ℕ) × (slice_get (upto n) k ≡ Some acks)
          at = place_of (upto n) acks (left-before less)

          found : IsResponseOf sent w.master ack acks
          found = each w.master ack acked-sent

          here : slice_get sent at.0 ≡ Some acks
          here = let more = sent-is n in
              subst (λ l. slice_get l at.0 ≡ Some acks) (sym more.1) (get-left (upto n) more.0 at.0 at.1)

      -- what was asked for had not been begun
      unbegun : HasSentFor (upto w.invocation) w.master is.seg is.offset → ⊥
      unbegun = not-sent is.fresh

    above-write : {a w : Operation} (first : lived.IsWrite setup happenings a) (is : lived.IsWrite setup happenings w) →
        a.table ≡ w.table → a.key ≡ w.key → a.response < w.invocation → a.version < w.version
    above-write {a} {w} first is table key less = by stood
      where
        c : Cut setup (upto w.invocation) sent
        c = cut-at w.invocation

        stood : (one : Entry) × Stood setup c.early c.gap a.master one × (one.table ≡ a.table) × (one.key ≡ a.key)
            × (one.version ≡ a.version)
        stood = acked-stood setup c.early c.gap a.master (some a.master.index)
            (acked a first (replay setup c.early).sent
            (subst (In (acks a first)) (sym c.early_is) (left-before a first less)))

        by : (one : Entry) × Stood setup c.early c.gap a.master one × (one.table ≡ a.table) × (one.key ≡ a.key)
            × (one.version ≡ a.version) → a.version < w.version
        by (one, stands, tables, keys, versions) = subst (λ n. n < w.version) versions
            (above-acked setup c.early c.gap a.master w.master (some w.master.index) one stands (ack w is)
            (subst (λ (l : List Message). HasAcknowledged l w.master (ack w is)) (sym c.whole_is) (acked-sent w is))
            (λ was. unbegun w is (subst (λ (l : List Message). HasSentFor l w.master is.seg is.offset) c.early_is was))
            (sym table ∙ sym tables) (sym key ∙ sym keys))

    -- A read

    module _ (r : Operation) (is : lived.IsRead setup happenings r) where
      abbrev shows : Message
      shows = to_outside r.master (ReadOk r.table r.key r.version r.value)

      its : (j : ℕ) × (slice_get is.deed.sent j ≡ Some shows)
      its = place_of is.deed.sent shows is.answers

      abbrev number : ℕ
      number = length (upto is.moment) + its.0

      -- the read in the history
      abbrev it : Operation
      it = record {
        kind = r.kind;
        master = r.master;
        table = r.table;
        key = r.key;
        value = r.value;
        version = r.version;
        invocation = 0;
        response = number;
      }

      in-step : slice_get (upto is.moment ++ is.deed.sent) number ≡ Some shows
      in-step = get-behind (upto is.moment) is.deed.sent its.0 its.1

      upto-here : {n : ℕ} → is.moment < n → slice_get (upto n) number ≡ Some shows
      upto-here less = let more = stands-at less is.done in
          subst (λ l. slice_get l number ≡ Some shows) (sym more.1)
          (get-left (upto is.moment ++ is.deed.sent) more.0 number in-step)

      number-below : {n : ℕ} → is.moment < n → number < length (upto n)
      number-below {n} less = get-within (upto n) number (upto-here less)

      shown : slice_get sent number ≡ Some shows
      shown = let more = sent-is (suc is.moment) in
          subst (λ l. slice_get l number ≡ Some shows) (sym more.1)
          (get-left (upto (suc is.moment)) more.0 number {x = shows} (upto-here {n = (suc is.moment)} (omega arith)))

      -- what was sent before the answer was sent before any later moment
      sent-first : {n : ℕ} → is.moment < n → {m : ServerId} {s o : ℕ} → HasSentFor (take number sent) m s o → HasSentFor (upto n) m s o
      sent-first {n} less {m} {s} {o} was = sent-of-take number
          (subst (λ l. HasSentFor l m s o) (ap (take number) more.1 ∙ take-append-le number (upto n) more.0
          (let below = number-below less in omega (arith, below))) was)
        where
          more : (rest : List Message) × (sent ≡ upto n ++ rest)
          more = sent-is n

      positive : (n : ℕ) → slice_get sent n ≡ Some shows → 0 < n
      positive (suc n) e = omega arith
      positive zero e = absurd (never-first r.master
          (record { table = r.table; key = r.key; version = r.version; value = r.value })
          (read-at (record {
            kind = r.kind;
            master = r.master;
            table = r.table;
            key = r.key;
            value = r.value;
            version = r.version;
            invocation = 0;
            response = 0;
          }) e))

      sent-read : IsRead sent it
      sent-read = record {
        kind = is.kind;
        response = shown;
        after = positive number shown;
        confirmed = record {
          ack = is.ack;
          acknowledged = record {
            message = is.acknowledged.message;
            among = left-sent is.acknowledged.message is.acknowledged.among;
            from = is.acknowledged.from;
            says = is.acknowledged.says;
          };
          unsent = λ was. not-sent is.unsent (sent-first (omega arith) was);
        };
      }

    above-read : {a w : Operation} (first : lived.IsRead setup happenings a) (is : lived.IsWrite setup happenings w) →
        a.table ≡ w.table → a.key ≡ w.key → a.response < w.invocation → a.version < w.version
    above-read {a} {w} first is table key less = write-follows a.master w.master (take (number a first) sent)
        (record { table = a.table; key = a.key; version = a.version; value = a.value }) (ack w is)
        (read-at (it a first) (shown a first)) (acked-sent w is) (record { table_is = sym table; key_is = sym key })
        (λ was. unbegun w is (sent-first a first (let after = first.leaves_after in omega (arith, after, less)) was))

    -- In time

    above-asked : {a w : Operation} → lived.IsWrite setup happenings a ⊎ lived.IsRead setup happenings a →
        (is : lived.IsWrite setup happenings w) → a.table ≡ w.table → a.key ≡ w.key → a.response < w.invocation → a.version < w.version
    above-asked (inl first) is table key less = above-write first is table key less
    above-asked (inr first) is table key less = above-read first is table key less

    -- a read shows no less than what had left when its step was done
    sees-left : {a r : Operation} → lived.IsWrite setup happenings a ⊎ lived.IsRead setup happenings a →
        (is : lived.IsRead setup happenings r) → a.table ≡ r.table → a.key ≡ r.key → a.response < is.moment → a.version ≤ r.version
    sees-left {a} {r} (inl first) is table key less = subst (λ n. n ≤ r.version) (sym w.version_is)
        (read-sees (it r is) w.it (sent-read r is) w.sent_is (sym w.table_is ∙ table) (sym w.key_is ∙ key)
        (under w.it.response (length (upto is.moment)) (its r is).0 w.below))
      where
        w : WriteSent a first is.moment
        w = write-sent a first less
    sees-left {a} {r} (inr first) is table key less =
        read-rises (it r is) (it a first) (sent-read r is) (sent-read a first) table key
        (under (number a first) (length (upto is.moment)) (its r is).0
        (number-below a first (let after = first.leaves_after in omega (arith, after, less))))

    in-time : {a b : Operation} → lived.IsWrite setup happenings a ⊎ lived.IsRead setup happenings a →
        lived.IsWrite setup happenings b ⊎ lived.IsRead setup happenings b → a.table ≡ b.table → a.key ≡ b.key →
        a.response < b.invocation → StandsBefore a b
    in-time one (inl w) table key less = inl (above-asked one w table key less)
    in-time {a} {b} one (inr r) table key less =
        read-after a b (sees-left one r table key (let early = r.asked_before in omega (arith, early, less))) r.kind (how one)
      where
        how : lived.IsWrite setup happenings a ⊎ lived.IsRead setup happenings a → (a.kind ≡ AWrite) ⊎ (a.response < b.response)
        how (inl w) = inl w.kind
        how (inr q) = inr (let early = r.asked_before in let late = r.leaves_after in omega (arith, early, late, less))

    -- One order

    -- of one version there is one acknowledgement, which leaves first once
    not-later : {a b : Operation} (w : lived.IsWrite setup happenings a) (v : lived.IsWrite setup happenings b) →
        acks b v ≡ acks a w → a.response < b.response → ⊥
    not-later {b} w v same less =
        v.first (subst (λ (m : Message). In m (at_moment setup happenings b.response).left) (sym same)
        (left-by setup (new_processes setup) happenings w.response less))

    one-response : {a b : Operation} → lived.IsWrite setup happenings a → lived.IsWrite setup happenings b → a.table ≡ b.table →
        a.key ≡ b.key → a.version ≡ b.version → a.response ≡ b.response
    one-response {a} {b} w v table key version = by three
      where
        one : (b.master ≡ a.master) × (ack b v ≡ ack a w)
        one = (one-write a.master (ack a w) (acked-sent a w)).only b.master (ack b v) (acked-sent b v)
            (record { table_is = sym table; key_is = sym key }) (sym version)

        same : acks b v ≡ acks a w
        same = λ i. to_outside (one.0 i)
            (WriteOk (one.1 i).seg (one.1 i).offset (one.1 i).term (one.1 i).table (one.1 i).key (one.1 i).version)

        by : (a.response < b.response) ⊎ ((a.response ≡ b.response) ⊎ (b.response < a.response)) → a.response ≡ b.response
        by (inl less) = absurd (not-later w v same less)
        by (inr (inl e)) = e
        by (inr (inr more)) = absurd (not-later v w (sym same) more)

    total : (a b : Operation) → lived.IsWrite setup happenings a ⊎ lived.IsRead setup happenings a →
        lived.IsWrite setup happenings b ⊎ lived.IsRead setup happenings b → a.table ≡ b.table → a.key ≡ b.key →
        StandsBefore a b ⊎ (StandsBefore b a ⊎ (a.response ≡ b.response))
    total a b one other table key = by three
      where
        alike : lived.IsWrite setup happenings a ⊎ lived.IsRead setup happenings a →
            lived.IsWrite setup happenings b ⊎ lived.IsRead setup happenings b → a.version ≡ b.version →
            StandsBefore a b ⊎ (StandsBefore b a ⊎ (a.response ≡ b.response))
        alike (inl w) (inl v) e = inr (inr (one-response w v table key e))
        alike (inl w) (inr r) e = inl (inr (e, r.kind, inl w.kind))
        alike (inr q) (inl v) e = inr (inl (inr (sym e, q.kind, inl v.kind)))
        alike (inr q) (inr r) e = reads three
          where
            reads : (a.response < b.response) ⊎ ((a.response ≡ b.response) ⊎ (b.response < a.response)) →
                StandsBefore a b ⊎ (StandsBefore b a ⊎ (a.response ≡ b.response))
            reads (inl less) = inl (inr (e, r.kind, inr less))
            reads (inr (inl equal)) = inr (inr equal)
            reads (inr (inr more)) = inr (inl (inr (sym e, q.kind, inr more)))

        by : (a.version < b.version) ⊎ ((a.version ≡ b.version) ⊎ (b.version < a.version)) →
            StandsBefore a b ⊎ (StandsBefore b a ⊎ (a.response ≡ b.response))
        by (inl less) = inl (inl less)
        by (inr (inl e)) = alike one other e
        by (inr (inr more)) = inr (inl (inl more))

    -- The register

    read-on : {r : Operation} (is : lived.IsRead setup happenings r) → IsOn sent r.table r.key (it r is)
    read-on {r} is = record { is = inr (sent-read r is); table_is = refl; key_is = refl }

    begins : (a : Operation) → lived.IsWrite setup happenings a ⊎ lived.IsRead setup happenings a → a.version ≡ 0 →
        (a.kind ≡ ARead) × (a.value ≡ None)
    begins a (inl w) none = absurd (let more = above-zero a w in omega (arith, more, none))
    begins a (inr r) none = (linear a.table a.key).begins (it a r) (read-on r) none

    -- the operation in the history
    record Sent (a : Operation) : Type 0 where
      other : Operation
      on : IsOn sent a.table a.key other
      version_is : a.version ≡ other.version
      value_is : a.value ≡ other.value

    as-sent : {a : Operation} → lived.IsWrite setup happenings a ⊎ lived.IsRead setup happenings a → Sent a
    as-sent {a} (inl w) = record {
      other = s.it;
      on = record { is = inl s.sent_is; table_is = sym s.table_is; key_is = sym s.key_is };
      version_is = s.version_is;
      value_is = s.value_is;
    }
      where
        s : WriteSent a w (suc a.response)
        s = write-sent a w (omega arith)
    as-sent {a} (inr r) = record { other = it a r; on = read-on r; version_is = refl; value_is = refl }

    one-value : {a b : Operation} → lived.IsWrite setup happenings a ⊎ lived.IsRead setup happenings a →
        lived.IsWrite setup happenings b ⊎ lived.IsRead setup happenings b → a.table ≡ b.table → a.key ≡ b.key →
        a.version ≡ b.version → a.value ≡ b.value
    one-value {a} {b} one two table key same =
        first.value_is ∙ ((linear b.table b.key).one_value first.other second.other
        (record { is = first.on.is; table_is = first.on.table_is ∙ table; key_is = first.on.key_is ∙ key }) second.on
        (sym first.version_is ∙ (same ∙ second.version_is)) ∙ sym second.value_is)
      where
        first : Sent a
        first = as-sent one

        second : Sent b
        second = as-sent two

    -- What a read shows was asked for

    module _ (r : Operation) (is : lived.IsRead setup happenings r) (above : r.version ≡ 0 → ⊥) where
      was-asked : WasAskedFor sent (it r is)
      was-asked = (linear r.table r.key).written (it r is) (read-on is) above

      step : Found setup (new_processes setup) happenings (length happenings) was-asked.invocation
          (request_to was-asked.master (Write r.table r.key r.value))
      step = find-sent was-asked.request

      -- whatever had left by then has a lower version
      below-shown : {a : Operation} → lived.IsWrite setup happenings a ⊎ lived.IsRead setup happenings a → a.table ≡ r.table →
          a.key ≡ r.key → a.response < step.moment → a.version < r.version
      below-shown {a} (inl first) table key less = subst (λ n. n < r.version) (sym w.version_is)
          (was-asked.in_time w.it (record { is = inl w.sent_is; table_is = sym w.table_is ∙ table; key_is = sym w.key_is ∙ key })
          (under-place step.number w.below step.place))
        where
          w : WriteSent a first step.moment
          w = write-sent a first less
      below-shown {a} (inr first) table key less =
          was-asked.in_time (it a first) (record { is = inr (sent-read a first); table_is = table; key_is = key })
          (under-place step.number
          (number-below a first (let after = first.leaves_after in omega (arith, after, less))) step.place)

      read-asked : lived.WasAskedFor setup happenings r
      read-asked = record {
        master = was-asked.master;
        invocation = step.moment;
        request = asked step.deed (is-done step.done) (In-get step.deed.sent step.number _ step.at);
        in_time = λ a on less. below-shown on.is on.table_is on.key_is less;
      }

    asked-for : {a : Operation} → lived.IsWrite setup happenings a ⊎ lived.IsRead setup happenings a → (a.version ≡ 0 → ⊥) →
        lived.WasAskedFor setup happenings a
    asked-for {a} (inr r) above = read-asked a r above
    asked-for {a} (inl w) above = record {
      master = a.master;
      invocation = a.invocation;
      request = w.request;
      in_time = λ other on less. above-asked on.is w on.table_is on.key_is less;
    }

    pub lives-linearized : {table key : ℕ} →
        AreLinearized (lived.IsOn setup happenings table key) (lived.WasAskedFor setup happenings)
    lives-linearized = record {
      in_time = λ a b p q before. in-time p.is q.is (p.table_is ∙ sym q.table_is) (p.key_is ∙ sym q.key_is) before;
      total = λ a b p q. total a b p.is q.is (p.table_is ∙ sym q.table_is) (p.key_is ∙ sym q.key_is);
      begins = λ a p none. begins a p.is none;
      written = λ a p above. asked-for p.is above;
      one_value = λ a b p q same. one-value p.is q.is (p.table_is ∙ sym q.table_is) (p.key_is ∙ sym q.key_is) same;
    }

    -- Nothing is left out

    module _ (m : ServerId) (ack : Ack) (p : HasAcknowledged all.left m ack) where
      abbrev acknowledged : HasAcknowledged sent m ack
      acknowledged = record { message = p.message; among = left-sent p.message p.among; from = p.from; says = p.says }

      response : IsResponseOf sent m ack p.message
      response = each m ack acknowledged

      passing : acks_place m ack.seg ack.offset p.message ≡ true
      passing = passes ack p.message p.from p.says

      leaving : FirstLeft setup (new_processes setup) happenings (acks_place m ack.seg ack.offset)
      leaving = first-left setup (new_processes setup) happenings (acks_place m ack.seg ack.offset) p.message p.among passing
          (λ one at test. at)

      same-message : leaving.message ≡ p.message
      same-message = only-one (filter (acks_place m ack.seg ack.offset) sent) (once m ack.seg ack.offset)
          (filter-In (acks_place m ack.seg ack.offset) leaving.message sent (left-sent leaving.message
          (left-in setup (new_processes setup) happenings leaving.number leaving.leaves)) leaving.passes)
          (filter-In (acks_place m ack.seg ack.offset) p.message sent (left-sent p.message p.among) passing)

      leaves-first : slice_get happenings leaving.number ≡ Some (Leaves p.message)
      leaves-first = leaving.leaves ∙ ap (λ (message : Message). Some (Leaves message)) same-message

      says-so : ◌≡◌ {A = Message} p.message (to_outside response.op.master (WriteOk response.is.seg response.is.offset response.is.term
          response.op.table response.op.key response.op.version))
      says-so = (let e : Some p.message ≡ Some (to_outside response.op.master (WriteOk response.is.seg response.is.offset
          response.is.term response.op.table response.op.key response.op.version)) = sym response.response_is ∙ response.is.response in cc)

      step-of : Found setup (new_processes setup) happenings (length happenings) response.op.invocation
          (request_to response.op.master (Write response.op.table response.op.key response.op.value))
      step-of = find-sent response.is.request

      still-fresh : IsUnsent setup happenings step-of.moment response.op.master response.is.seg response.is.offset
      still-fresh k deed less done (entry, made) = response.is.fresh (
        entry,
        record {
          message = made.message;
          among = subst (λ l. In made.message (take response.op.invocation l)) (sym (sent-is step-of.moment).1)
              (In-take-first (upto step-of.moment) (sent-is step-of.moment).0 response.op.invocation made.message
              (let place = step-of.place in omega (arith, place)) (let more = stands-at less done in
              subst (In made.message) (sym more.1) (In-left made.message (upto k ++ deed.sent) more.0
              (In-right made.message (upto k) deed.sent made.among))));
          from = made.from;
          holds = made.holds;
        },
      )

      pub each-lived : lived.IsResponseOf setup happenings m ack p.message
      each-lived = record {
        op = record {
          kind = response.op.kind;
          master = response.op.master;
          table = response.op.table;
          key = response.op.key;
          value = response.op.value;
          version = response.op.version;
          invocation = step-of.moment;
          response = leaving.number;
        };
        is = record {
          kind = response.is.kind;
          seg = response.is.seg;
          offset = response.is.offset;
          term = response.is.term;
          request = asked step-of.deed (is-done step-of.done) (In-get step-of.deed.sent step-of.number _ step-of.at);
          response = leaves-first ∙ ap (λ (message : Message). Some (Leaves message)) says-so;
          first = λ at. leaving.none p.message
              (subst (λ (message : Message). In message (at_moment setup happenings leaving.number).left) (sym says-so) at) passing;
          made = response.is.made;
          fresh = still-fresh;
        };
        master_is = response.master_is;
        table_is = response.table_is;
        key_is = response.key_is;
        version_is = response.version_is;
        response_is = leaves-first;
      }

pub linearizable-of-processes : LinearizableOfProcesses
linearizable-of-processes setup happenings may some table key = lives-linearized setup happenings may some

pub conditional-writes-of-processes : ConditionalWritesOfProcesses
conditional-writes-of-processes setup happenings may some table key expected op done =
    takes-effect (lived.IsOn setup happenings table key)
    (linearizable-of-processes setup happenings may some table key).total expected op done

pub each-write-of-processes : EachWriteOfProcesses
each-write-of-processes setup happenings may some m ack p = each-lived setup happenings may some m ack p

pub what-leaves-was-done : WhatLeavesWasDone
what-leaves-was-done setup happenings may number message e = record {
  moment = found.moment;
  deed = found.deed;
  done = is-done {setup = setup} {happenings = happenings} {k = found.moment} {deed = found.deed} found.done;
  before = (let below = found.below in other (less-or-same {a = found.moment} {b = number} (omega (arith, below))));
  sends = In-get found.deed.sent found.number message found.at;
}
  where
    at : (k : ℕ) × (slice_get (sent_by_deeds (before setup (new_processes setup) happenings (suc number))) k ≡ Some message)
    at = place_of (sent_by_deeds (before setup (new_processes setup) happenings (suc number))) message
        (left-was-sent setup happenings (suc number) message may
        (left-by setup (new_processes setup) happenings {r = number} {n = (suc number)} {message = message} e (omega arith)))

    found : Found setup (new_processes setup) happenings (suc number) at.0 message
    found = find {setup = setup} {all = (new_processes setup)} happenings (suc number) {i = at.0} {message = message} at.1

    other : (found.moment < number) ⊎ (found.moment ≡ number) → found.moment < number
    other (inl less) = less
    other (inr same) = (let takes : slice_get happenings number ≡ Some (Takes found.deed.node found.deed.work) =
        subst (λ k. slice_get happenings k ≡ Some (Takes found.deed.node found.deed.work)) same found.done.takes in
        let both : Some (Leaves message) ≡ Some (Takes found.deed.node found.deed.work) = sym e ∙ takes in cc)
