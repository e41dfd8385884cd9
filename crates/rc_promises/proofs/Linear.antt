-- The operations on a key, ordered by their versions, are a linearization.
use Rattle.std.proofs.Common.{◌≡◌, ◌⊎◌, ℕ, zero, suc, ◌<◌, ◌≤◌, true, Bool, List, [], ◌∷◌, ◌++◌, length, filter, take, Some, None}
use Rattle.std.proofs.Common.{nat_eq, ◌&&◌, slice_get, refl, sym, ap, ◌∙◌, subst, inl, inr, arith}
use Rattle.std.proofs.lemmas.Bool.{eq-eqb}
use Rattle.rc_types.specs.declared.events.Setup.{Setup}
use Rattle.rc_model.specs.Model.{ServerId, Entry, Event, Message, Write, WriteOk, Ack, LogPlace, places_of, Found}
use Rattle.rc_model.specs.Model.{read_of, term_of, durable_entries, to_outside, replay, In, HasMade, HasAcknowledged}
use Rattle.rc_model.proofs.Members.{In-get, place_of, filter-In}
use Rattle.rc_model.proofs.Tests.{true_false, either}
use Rattle.rc_model.proofs.Ids.{same_id-refl}
use Rattle.rc_step_laws.specs.All.{log_in}
use Rattle.rc_step_laws.proofs.Lists.{get-take, get-within}
use Rattle.rc_step_laws.proofs.Places.{place-logged, places_to-are}
use Rattle.rc_step_laws.proofs.Tests.{In-take}
use Rattle.rc_history.specs.Apart.{events_by}
use Rattle.rc_owner_laws.specs.Worlds.{AllHold}
use Rattle.rc_owner_laws.proofs.VersionReplays.{all-world}
use Rattle.rc_owner_laws.specs.AckClaims.{acks_place, is_ack_of, counted_places}
use Rattle.rc_owner_laws.proofs.Asking.{oks-of}
use Rattle.rc_owner_laws.proofs.Counting.{filter-in, counted-is-acknowledged}
use Rattle.rc_owner_laws.proofs.Settling.{ok_of}
use Rattle.rc_owner_laws.proofs.WriteWorlds.{counted-is-durable}
use Rattle.rc_owner_laws.proofs.Handing.{durable-is-made}
use Rattle.rc_owner_laws.proofs.Once.{acknowledged-once}
use Rattle.rc_promises.specs.Service.{IsWritten, IsOneWrite, MissesOnlyLater}
use Rattle.rc_promises.proofs.Asked.{versions-begin-at-one}
use Rattle.rc_promises.proofs.Once.{three, one-version-is-one-write}
use Rattle.rc_promises.proofs.Reading.{reads-see-acknowledged-writes, is-ack}
use Rattle.rc_promises.proofs.ServiceApart.{sent-apart}
use Rattle.rc_promises.specs.Confirmed.{HasSentFor, MissesNothing}
use Rattle.rc_promises.specs.Linearizable.{Kind, OrderIsStrict, AWrite, ARead, Operation, IsRequest}
use Rattle.rc_promises.specs.Linearizable.{IsWrite, IsRead, Precedes, StandsBefore, WasAskedFor}
use Rattle.rc_promises.specs.Linearizable.{IsLinearizable, HasReplicas, Linearizable, LinearizableApart}
use Rattle.rc_promises.specs.Linearizable.{IsResponseOf, EachWriteIsAnOperation, EachWriteIsAnOperationApart}
use Rattle.rc_promises.proofs.NoneLater.{confirmed-reads-miss-nothing}
use Rattle.rc_promises.proofs.Stood.{Stood, IsShowing, shown-stood}
use Rattle.rc_promises.proofs.Zero.{shows-none}
use Rattle.rc_promises.proofs.Above.{above-acked}
use Rattle.rc_promises.proofs.Shown.{Finds, zero-or-more, reads-rise, reads-alike}
use Rattle.rc_promises.proofs.Fresh.{IsAskedFor, all-asked-for, In-taken-from}
use Rattle.rc_promises.proofs.Origin.{Origin, origin}
use Rattle.rc_promises.proofs.Pending.{below-at}
use Rattle.rc_promises.proofs.StandingReads.{take-get, take-length, which-begins, first-events, IsAnswered, is-answered}
use Rattle.rc_promises.proofs.StandingReads.{answered-first, acknowledged-at, read-at, IsFoundAt, found-at, HadStood, had-stood}

fewer : {X : Type 0} (test : X → Bool) (xs : List X) (z : X) → length (filter test (z ∷ xs)) ≤ 1 → length (filter test xs) ≤ 1
fewer {X} test xs z few = search arith

no-more : {X : Type 0} (test : X → Bool) (xs : List X) (z : X) → length (filter test (z ∷ xs)) ≤ 1 → test z ≡ true →
    (y : X) → In y xs → test y ≡ true → ⊥
no-more {X} test xs z few passes y at too =
    either (λ (l : List X). length l ≤ 1 → ⊥) (test z) (z ∷ filter test xs) (filter test xs)
    (λ _ p. some (filter test xs) (filter-In test y xs at too) p) (λ fails p. true_false (sym passes ∙ fails)) few
  where
    some : (l : List X) → In y l → suc (length l) ≤ 1 → ⊥
    some [] inside p = inside
    some (one ∷ l) inside p = absurd (omega (arith, p))

-- an acknowledgement of a place
names : (m : ServerId) (s o term table key version : ℕ) →
    acks_place m s o (to_outside m (WriteOk s o term table key version)) ≡ true
names m s o term table key version = ap (λ b. b && (nat_eq s s && nat_eq o o)) (same_id-refl m)
    ∙ (ap (λ b. b && nat_eq o o) (eq-eqb s s refl) ∙ eq-eqb o o refl)

-- of two members that pass a test that one passes, each is the other
at-most-one : {X : Type 0} (test : X → Bool) (xs : List X) → length (filter test xs) ≤ 1 → (i j : ℕ) {x y : X} →
    slice_get xs i ≡ Some x → slice_get xs j ≡ Some y → test x ≡ true → test y ≡ true → i ≡ j
at-most-one test [] few i j p q t u = cc
at-most-one test (z ∷ xs) few zero zero p q t u = refl
at-most-one {X} test (z ∷ xs) few zero (suc j) {x} {y} p q t u =
    absurd (no-more test xs z few (let same : z ≡ x = cc in ap test same ∙ t) y (In-get xs j y q) u)
at-most-one {X} test (z ∷ xs) few (suc i) zero {x} {y} p q t u =
    absurd (no-more test xs z few (let same : z ≡ y = cc in ap test same ∙ u) x (In-get xs i x p) t)
at-most-one test (z ∷ xs) few (suc i) (suc j) p q t u =
    (let rest : i ≡ j = at-most-one test xs (fewer test xs z few) i j p q t u in omega (arith, rest))

less-or-same : {a b : ℕ} → a ≤ b → (a < b) ⊎ (a ≡ b)
less-or-same p = grind arith

-- The order

other-kind : (a : Operation) → a.kind ≡ AWrite → a.kind ≡ ARead → ⊥
other-kind a writes reads = (let e : ◌≡◌ {A = Kind} AWrite ARead = sym writes ∙ reads in cc)

never-itself : (a : Operation) → StandsBefore a a → ⊥
never-itself a (inl less) = absurd (omega (arith, less))
never-itself a (inr (same, reads, inl writes)) = other-kind a writes reads
never-itself a (inr (same, reads, inr less)) = absurd (omega (arith, less))

goes-onward : (a b c : Operation) → StandsBefore a b → StandsBefore b c → StandsBefore a c
goes-onward a b c (inl less) (inl more) = inl (omega (arith, less, more))
goes-onward a b c (inl less) (inr (same, reads, how)) = inl (omega (arith, less, same))
goes-onward a b c (inr (same, reads, how)) (inl more) = inl (omega (arith, same, more))
goes-onward a b c (inr (same, reads, inl writes)) (inr (equal, last, how)) = inr (same ∙ equal, last, inl writes)
goes-onward a b c (inr (same, reads, inr less)) (inr (equal, last, inl writes)) = absurd (other-kind b writes reads)
goes-onward a b c (inr (same, reads, inr less)) (inr (equal, last, inr more)) =
    inr (same ∙ equal, last, inr (omega (arith, less, more)))

pub order-is-strict : OrderIsStrict
order-is-strict = record { never = never-itself; onward = goes-onward }

module _ (setup : Setup) (events : List Event) (some : HasReplicas setup) where
  abbrev sent : List Message
  sent = (replay setup events).sent

  -- A write

  module _ (w : Operation) (is : IsWrite sent w) where
    abbrev ack : Ack
    ack = record { seg = is.seg; offset = is.offset; term = is.term; table = w.table; key = w.key; version = w.version }

    abbrev entry : Entry
    entry = record { term = is.term; table = w.table; key = w.key; version = w.version; value = w.value }

    pub acknowledged : HasAcknowledged sent w.master ack
    acknowledged = acknowledged-at w is.response

    pub written : IsWritten sent w.master ack entry
    written = record { acknowledged = acknowledged; made = is.made }

    pub above-zero : 0 < w.version
    above-zero = versions-begin-at-one setup events acknowledged

    -- whatever was answered before it was asked for has a lower version
    pub above-answered : {a : Operation} → IsAnswered sent a → a.table ≡ w.table → a.key ≡ w.key → a.response < w.invocation →
        a.version < w.version
    above-answered {a} answered table key less = by had.stands
      where
        had : HadStood setup events w.invocation a
        had = had-stood some is.request less answered

        by : (a.version ≡ 0) ⊎ ((one : Entry) × Stood setup had.early had.gap a.master one × (one.table ≡ a.table) × (one.key ≡ a.key)
            × (one.version ≡ a.version)) → a.version < w.version
        by (inl none) = (let more = above-zero in omega (arith, none, more))
        by (inr (one, stood, tables, keys, versions)) = subst (λ n. n < w.version) versions
            (above-acked setup had.early had.gap a.master w.master (some w.master.index) one stood ack
            (subst (λ (l : List Event). HasAcknowledged (replay setup l).sent w.master ack) (sym had.whole) acknowledged)
            (λ was. is.fresh (had.within w.master is.seg is.offset was)) (sym table ∙ sym tables) (sym key ∙ sym keys))

  -- A read

  module _ (r : Operation) (is : IsRead sent r) where
    pub at : IsFoundAt setup events r
    at = found-at is.response

    pub number : r.response < length sent
    number = get-within sent r.response is.response

    pub sent_first : length (replay setup at.past).sent ≡ r.response
    sent_first = ap length at.sent_is ∙ take-length r.response sent (let n = number in omega (arith, n))

    pub acked_since : HasAcknowledged (replay setup (at.past ++ at.rest)).sent r.master is.confirmed.ack
    acked_since = subst (λ (l : List Event). HasAcknowledged (replay setup l).sent r.master is.confirmed.ack) (sym at.whole)
        is.confirmed.acknowledged

    pub unsent_then : HasSentFor (replay setup at.past).sent r.master is.confirmed.ack.seg is.confirmed.ack.offset → ⊥
    unsent_then was = is.confirmed.unsent
        (subst (λ l. HasSentFor l r.master is.confirmed.ack.seg is.confirmed.ack.offset) at.sent_is was)

    -- it misses no write that was acknowledged before its answer
    pub sees : {w : Operation} (write : IsWrite sent w) → w.table ≡ r.table → w.key ≡ r.key → w.response < r.response →
        w.version ≤ r.version
    sees {w} write table key less = misses.all w.master (ack w write) (acknowledged-at w
        (take-get r.response w.response sent less write.response)) (record { table_is = table; key_is = key })
      where
        misses : MissesNothing r.master (take r.response sent)
            (record { table = r.table; key = r.key; version = r.version; value = r.value })
        misses = search (arith, confirmed-reads-miss-nothing, read-at)

    -- and shows the value of the one of its version
    pub shows : {w : Operation} (write : IsWrite sent w) → w.table ≡ r.table → w.key ≡ r.key → w.version ≡ r.version →
        w.value ≡ r.value
    shows {w} write table key same = seen.written w.master (ack w write) (entry w write) (written w write)
        (record { table_is = table; key_is = key }) same
      where
        seen : MissesOnlyLater setup events r.master (take r.response sent)
            (record { table = r.table; key = r.key; version = r.version; value = r.value })
        seen = reads-see-acknowledged-writes setup events r.master (take r.response sent)
            (record { table = r.table; key = r.key; version = r.version; value = r.value }) (read-at r is.response)

    pub none-at-zero : r.version ≡ 0 → r.value ≡ None
    none-at-zero = shows-none setup at.past at.rest r.master (some r.master.index) at.finds.term r.table r.key r.version r.value
        at.finds.owns at.finds.found

    -- it shows no less than a read that was answered before
    pub rises-from : {a : Operation} (before : IsRead sent a) → a.table ≡ r.table → a.key ≡ r.key → a.response < r.response →
        a.version ≤ r.version
    rises-from {a} before table key less = by (which-begins was.past was.rest at.past at.rest (was.whole ∙ sym at.whole))
      where
        was : IsFoundAt setup events a
        was = found-at before.response

        was_first : length (replay setup was.past).sent ≡ a.response
        was_first = ap length was.sent_is ∙ take-length a.response sent (let n = number in omega (arith, n, less))

        finds : Finds setup was.past a.master r.table r.key a.version a.value
        finds = subst (λ k. Finds setup was.past a.master r.table k a.version a.value) key
            (subst (λ t. Finds setup was.past a.master t a.key a.version a.value) table was.finds)

        by : ((gap : List Event) × (was.past ++ gap ≡ at.past)) ⊎ ((gap : List Event) × (at.past ++ gap ≡ was.past)) →
            a.version ≤ r.version
        by (inl (gap, is_past)) =
            reads-rise setup was.past gap at.rest a.master r.master r.table r.key (some a.master.index) (some r.master.index)
            a.version r.version a.value r.value finds
            (subst (λ (l : List Event). Finds setup l r.master r.table r.key r.version r.value) (sym is_past) at.finds)
            is.confirmed.ack
            (subst (λ (l : List Event). HasAcknowledged (replay setup (l ++ at.rest)).sent r.master is.confirmed.ack) (sym is_past)
            acked_since)
            (subst (λ (l : List Event). HasSentFor (replay setup l).sent r.master is.confirmed.ack.seg is.confirmed.ack.offset → ⊥)
            (sym is_past) unsent_then)
        by (inr (gap, is_past)) = search (arith, first-events, at, was, was_first, sent_first)

    pub alike : {a : Operation} (other : IsRead sent a) → a.table ≡ r.table → a.key ≡ r.key → a.version ≡ r.version →
        (r.version ≡ 0 → ⊥) → a.value ≡ r.value
    alike {a} other table key same above = reads-alike at.rest was.rest (was.whole ∙ sym at.whole)
        (some a.master.index) (some r.master.index)
        (subst (λ n. Finds setup was.past a.master r.table r.key n a.value) same
        (subst (λ k. Finds setup was.past a.master r.table k a.version a.value) key
        (subst (λ t. Finds setup was.past a.master t a.key a.version a.value) table was.finds))) at.finds above
      where
        was : IsFoundAt setup events a
        was = found-at other.response

    -- Where it shows something, a client had asked for it

    module _ (above : r.version ≡ 0 → ⊥) where
      showing : IsShowing setup at.past at.rest r.master (some r.master.index) at.finds.term r.table r.key r.version r.value
          at.finds.owns at.finds.found
      showing = shown-stood setup at.past at.rest r.master (some r.master.index) at.finds.term r.table r.key r.version r.value
          at.finds.owns at.finds.found above

      abbrev then_all : AllHold (replay setup at.past).sent (replay setup at.past).masters (replay setup at.past).hosts
          (replay setup at.past).coordinator
      then_all = all-world setup at.past

      came : Origin (replay setup at.past).sent (replay setup at.past).masters (replay setup at.past).hosts
          (replay setup at.past).coordinator (all-world setup at.past) r.master showing.stood.seg showing.stood.offset showing.entry
      came = search (arith, origin, all-world, showing)

      asked : IsAskedFor (replay setup at.past).sent came.x came.place
      asked = all-asked-for setup at.past came.x came.place came.among came.client

      first : (replay setup at.past).sent ≡ take r.response sent
      first = at.sent_is

      asked_number : asked.number < r.response
      asked_number = (let less = get-within (replay setup at.past).sent asked.number asked.asked in
          let same = sent_first in omega (arith, less, same))

      requested : IsRequest sent asked.number came.x (Write r.table r.key r.value)
      requested = search (arith, get-take, asked, came, showing)

      -- and whatever was answered before it was asked for stands lower
      below : {a : Operation} → IsAnswered sent a → a.table ≡ r.table → a.key ≡ r.key → a.response < asked.number →
          a.version < r.version
      below {a} answered table key less = by had.stands
        where
          had : HadStood setup at.past asked.number a
          had = had-stood some asked.asked less (subst (λ l. IsAnswered l a) (sym at.sent_is)
              (answered-first (let n = asked_number in omega (arith, n, less)) answered))

          by : (a.version ≡ 0) ⊎ ((one : Entry) × Stood setup had.early had.gap a.master one × (one.table ≡ a.table) × (one.key ≡ a.key)
              × (one.version ≡ a.version)) → a.version < r.version
          by (inl none) = search (arith, zero-or-more)
          by (inr (one, stood, tables, keys, versions)) =
              let less_one : one.version < showing.entry.version =
              below-at setup had.early had.gap at.rest a.master r.master some one stood at.finds.term r.version r.value is.confirmed.ack
              showing.stood.seg showing.stood.offset showing.entry had.whole
              (subst (λ k. term_of ((replay setup at.past).masters r.master).ownership one.table k ≡ Some at.finds.term) (sym (keys ∙ key))
              (subst (λ t. term_of ((replay setup at.past).masters r.master).ownership t r.key ≡ Some at.finds.term)
              (sym (tables ∙ table)) at.finds.owns))
              (subst (λ k. ◌≡◌ {A = Found} (read_of at.finds.term one.table k (durable_entries ((replay setup at.past).masters r.master)))
              (record { version = r.version; value = r.value })) (sym (keys ∙ key))
              (subst (λ t. ◌≡◌ {A = Found} (read_of at.finds.term t r.key (durable_entries ((replay setup at.past).masters r.master)))
              (record { version = r.version; value = r.value })) (sym (tables ∙ table)) at.finds.found))
              acked_since unsent_then showing.term_is (showing.table_is ∙ sym (tables ∙ table)) (showing.key_is ∙ sym (keys ∙ key))
              came (λ was. asked.fresh (had.within came.x came.place.seg came.place.offset was)) in
              omega (arith, less_one, versions, showing.version_is)

  -- The order

  read-after : (a b : Operation) → a.version ≤ b.version → b.kind ≡ ARead → (a.kind ≡ AWrite) ⊎ (a.response < b.response) →
      StandsBefore a b
  read-after a b less reads how = search (arith, less-or-same)

  module _ (a b : Operation) (table : a.table ≡ b.table) (key : a.key ≡ b.key) where
    in-time : IsWrite sent a ⊎ IsRead sent a → IsWrite sent b ⊎ IsRead sent b → Precedes a b → StandsBefore a b
    in-time one (inl w) less = inl (above-answered b w (is-answered one) table key less)
    in-time (inl w) (inr r) less =
        read-after a b (sees b r w table key (let n = r.after in omega (arith, n, less))) r.kind (inl w.kind)
    in-time (inr q) (inr r) less =
        let before : a.response < b.response = (let n = r.after in omega (arith, n, less)) in
        read-after a b (rises-from b r q table key before) r.kind (inr before)

    one-write : (w : IsWrite sent a) (v : IsWrite sent b) → a.version ≡ b.version →
        (b.master ≡ a.master) × (ack b v ≡ ack a w)
    one-write w v same = (one-version-is-one-write setup events a.master (ack a w) (acknowledged a w)).only b.master (ack b v)
        (acknowledged b v) (record { table_is = sym table; key_is = sym key }) (sym same)

    write-value : (w : IsWrite sent a) (v : IsWrite sent b) → a.version ≡ b.version → a.value ≡ b.value
    write-value w v same = one.one_value (entry a w) (written a w) ∙ sym (one.one_value (entry b v)
        (subst (λ (ack : Ack). IsWritten sent a.master ack (entry b v)) (one-write w v same).1
        (subst (λ (k : ServerId). IsWritten sent k (ack b v) (entry b v)) (one-write w v same).0 (written b v))))
      where
        one : IsOneWrite sent a.master (ack a w)
        one = one-version-is-one-write setup events a.master (ack a w) (acknowledged a w)

    one-value : IsWrite sent a ⊎ IsRead sent a → IsWrite sent b ⊎ IsRead sent b → a.version ≡ b.version → a.value ≡ b.value
    one-value (inl w) (inl v) same = write-value w v same
    one-value (inl w) (inr r) same = shows b r w table key same
    one-value (inr q) (inl v) same = sym (shows a q v (sym table) (sym key) (sym same))
    one-value (inr q) (inr r) same = by (zero-or-more b.version)
      where
        by : (b.version ≡ 0) ⊎ (b.version ≡ 0 → ⊥) → a.value ≡ b.value
        by (inl none) = none-at-zero a q (same ∙ none) ∙ sym (none-at-zero b r none)
        by (inr above) = alike b r q table key same above

    -- two acknowledgements of one version are one message
    one-response : IsWrite sent a → IsWrite sent b → a.version ≡ b.version → a.response ≡ b.response
    one-response w v same = at-most-one (acks_place a.master w.seg w.offset) sent (acknowledged-once setup events a.master w.seg w.offset)
        a.response b.response w.response v.response (names a.master w.seg w.offset w.term a.table a.key a.version)
        (subst (λ (k : ServerId). acks_place k w.seg w.offset
        (to_outside b.master (WriteOk v.seg v.offset v.term b.table b.key b.version)) ≡ true) one.0
        (subst (λ n. acks_place b.master n w.offset (to_outside b.master (WriteOk v.seg v.offset v.term b.table b.key b.version)) ≡ true)
        (ap (λ (it : Ack). it.seg) one.1)
        (subst (λ n. acks_place b.master v.seg n (to_outside b.master (WriteOk v.seg v.offset v.term b.table b.key b.version)) ≡ true)
        (ap (λ (it : Ack). it.offset) one.1) (names b.master v.seg v.offset v.term b.table b.key b.version))))
      where
        one : (b.master ≡ a.master) × (ack b v ≡ ack a w)
        one = one-write w v same

    total : IsWrite sent a ⊎ IsRead sent a → IsWrite sent b ⊎ IsRead sent b →
        StandsBefore a b ⊎ (StandsBefore b a ⊎ (a.response ≡ b.response))
    total one other = search (arith, three, one-response)

  begins-with-none : {a : Operation} → IsWrite sent a ⊎ IsRead sent a → a.version ≡ 0 → (a.kind ≡ ARead) × (a.value ≡ None)
  begins-with-none {a} (inl w) none = absurd (let more = above-zero a w in omega (arith, more, none))
  begins-with-none {a} (inr r) none = (r.kind, none-at-zero a r none)

  asked-for : {a : Operation} → IsWrite sent a ⊎ IsRead sent a → (a.version ≡ 0 → ⊥) → WasAskedFor sent a
  asked-for {a} (inl w) above = record {
    master = a.master;
    invocation = a.invocation;
    request = w.request;
    in_time = λ other on less. above-answered a w (is-answered on.is) on.table_is on.key_is less;
  }
  asked-for {a} (inr r) above = record {
    master = (came a r above).x;
    invocation = (asked a r above).number;
    request = requested a r above;
    in_time = λ other on less. below a r above (is-answered on.is) on.table_is on.key_is less;
  }

  pub linearized : IsLinearizable sent
  linearized table key = record {
    in_time = λ a b p q before. in-time a b (p.table_is ∙ sym q.table_is) (p.key_is ∙ sym q.key_is) p.is q.is before;
    total = λ a b p q. total a b (p.table_is ∙ sym q.table_is) (p.key_is ∙ sym q.key_is) p.is q.is;
    begins = λ a p none. begins-with-none p.is none;
    written = λ a p above. asked-for p.is above;
    one_value = λ a b p q same. one-value a b (p.table_is ∙ sym q.table_is) (p.key_is ∙ sym q.key_is) p.is q.is same;
  }

pub linearizable-always : Linearizable
linearizable-always setup events some = linearized setup events some

pub linearizable-apart : LinearizableApart
linearizable-apart setup steps apart some =
    subst IsLinearizable (sent-apart apart) (linearized setup (events_by steps) some)

-- Each acknowledgement is the response of a write

pub each-write : EachWriteIsAnOperation
each-write setup events m ack some p = by (oks-of m (counted_places ((replay setup events).masters m).log) p.message
    (subst (In p.message) (counted-is-acknowledged setup events m)
    (filter-in (is_ack_of m) (replay setup events).sent p.message p.among (is-ack ack p.message p.from p.says))))
  where
    by : (place : LogPlace) × In place (counted_places ((replay setup events).masters m).log) × (place.client ≡ true) ×
        (p.message ≡ ok_of m place) → IsResponseOf (replay setup events).sent m ack p.message
    by (place, among, client, is) = record {
      op = op;
      is = record {
        kind = refl;
        seg = place.seg;
        offset = place.offset;
        term = place.entry.term;
        request = asked.asked;
        response = got.1 ∙ ap Some is;
        made = subst (HasMade (replay setup events).sent m place.seg place.offset) same made.2;
        fresh = asked.fresh;
      };
      master_is = refl;
      table_is = sym says.0;
      key_is = sym says.1;
      version_is = sym says.2;
      response_is = got.1;
    }
      where
        asked : IsAskedFor (replay setup events).sent m place
        asked = all-asked-for setup events m place
            (In-taken-from ((replay setup events).masters m).log.durable (places_of ((replay setup events).masters m).log) place among)
            client

        got : (k : ℕ) × (slice_get (replay setup events).sent k ≡ Some p.message)
        got = place_of (replay setup events).sent p.message p.among

        op : Operation
        op = record {
          kind = AWrite;
          master = m;
          table = place.entry.table;
          key = place.entry.key;
          value = place.entry.value;
          version = place.entry.version;
          invocation = asked.number;
          response = got.0;
        }

        same-ok : (a b c d f g h i j k l n : ℕ) → WriteOk a b c d f g ≡ WriteOk h i j k l n → (d ≡ k) × (f ≡ l) × (g ≡ n)
        same-ok a b c d f g h i j k l n e = (cc, cc, cc)

        says : (ack.table ≡ place.entry.table) × (ack.key ≡ place.entry.key) × (ack.version ≡ place.entry.version)
        says = search (arith, same-ok)

        counted : (k : ℕ) × (k < ((replay setup events).masters m).log.durable)
            × (slice_get (places_of ((replay setup events).masters m).log) k ≡ Some place)
        counted = In-take ((replay setup events).masters m).log.durable (places_of ((replay setup events).masters m).log) place among

        made : (entry : Entry) × (slice_get (log_in ((replay setup events).masters m).log place.seg) place.offset ≡ Some entry)
            × HasMade (replay setup events).sent m place.seg place.offset entry
        made = durable-is-made setup events m place.seg place.offset
            (counted-is-durable setup events m counted.0 place (some m.index) counted.1 counted.2)

        same : made.0 ≡ place.entry
        same = search (arith, made, place-logged, places_to-are, counted)

pub each-write-apart : EachWriteIsAnOperationApart
each-write-apart setup steps m ack apart some =
    subst (λ (sent : List Message). (p : HasAcknowledged sent m ack) → IsResponseOf sent m ack p.message) (sent-apart apart)
    (λ p. each-write setup (events_by steps) m ack some p)
