-- A read misses no write that was acknowledged under an earlier term, or before it under its own.
use Rattle.std.proofs.Common.{◌≡◌, ◌⊎◌, ◌≢◌, ℕ, zero, suc, ◌<◌, ◌≤◌, true, ◌&&◌, IsTrue, List, [], ◌∷◌, ◌++◌, length}
use Rattle.std.proofs.Common.{map, filter, take, Option, Some, slice_get, refl, sym, ap, ◌∙◌, subst, inl, inr, arith}
use Rattle.std.proofs.lemmas.List.{take-append-le, length-append}
use Rattle.rc_model.specs.Model.{ServerId, Addr, Server, Entry, PlanRow, Setup, Event, Grant, Message, Body, WriteOk, made, Ack, Accepted}
use Rattle.rc_model.specs.Model.{Granted, granted, covers, grants_of, IsBefore, previous, onward, IsEarlier, one_of, made_below}
use Rattle.rc_model.specs.Model.{recovered_entries, base, is_carried, is_stored_on_all, IsDurable, Log, LogPlace, places_of, entries_of}
use Rattle.rc_model.specs.Model.{Found, read_of, in_range, term_of, under_term, Master, durable_entries, factor_of, World}
use Rattle.rc_model.specs.Model.{replay, master_of, In, HasMade, HasAcknowledged, WasAccepted, IsHeld}
use Rattle.rc_model.proofs.Members.{In-left, In-get, place_of, filter-In}
use Rattle.rc_step_laws.specs.All.{Begins, log_in, IsSafe, IsWriteOk}
use Rattle.rc_step_laws.proofs.LogViews.{get-log}
use Rattle.rc_step_laws.proofs.Places.{IsOf, places_to-are, place-logged}
use Rattle.rc_step_laws.proofs.Tests.{In-take, get-map}
use Rattle.rc_step_laws.proofs.Clauses.{made-is}
use Rattle.rc_step_laws.proofs.Replays.{good-world}
use Rattle.rc_step_laws.proofs.Growing.{recovered-is-made}
use Rattle.rc_step_laws.proofs.Since.{Since, since-more}
use Rattle.rc_owner_laws.proofs.OwnersOrdered.{one-chain}
use Rattle.rc_owner_laws.specs.Terms.{IsGivenBy}
use Rattle.rc_owner_laws.specs.Parts.{logged, under}
use Rattle.rc_owner_laws.proofs.Appending.{OwnsPoint, owns-point}
use Rattle.rc_owner_laws.proofs.PartLists.{under-In}
use Rattle.rc_owner_laws.specs.AckClaims.{is_ack_of, counted_places}
use Rattle.rc_owner_laws.proofs.Counting.{filter-in, counted-is-acknowledged}
use Rattle.rc_owner_laws.proofs.Settling.{ok_of}
use Rattle.rc_owner_laws.specs.Worlds.{AllHold}
use Rattle.rc_owner_laws.specs.Words.{IsKeptBy}
use Rattle.rc_owner_laws.specs.VersionClaims.{MayFree}
use Rattle.rc_owner_laws.proofs.Bases.{task-of, IsStarted, started, joined-begins}
use Rattle.rc_owner_laws.proofs.VersionCuts.{one-plan, one-made, plan-of, base-is}
use Rattle.rc_owner_laws.proofs.Rising.{granted_of, covers-anyhow, at-point, term-started, StartsWith, GoesTo}
use Rattle.rc_owner_laws.proofs.Rising.{acked, IsOwned, owner, owned}
use Rattle.rc_owner_laws.proofs.Kept.{was-granted}
use Rattle.rc_owner_laws.proofs.VersionReplays.{all-world}
use Rattle.rc_owner_laws.proofs.WriteWorlds.{counted-is-durable}
use Rattle.rc_owner_laws.proofs.Handing.{durable-is-made}
use Rattle.rc_promises.specs.Service.{IsWritten, IsOfKey, IsShown, MissesOnlyLater, ReadsSeeAcknowledgedWrites}
use Rattle.rc_promises.proofs.Asked.{versions-begin-at-one}
use Rattle.rc_promises.proofs.Once.{granted-to}
use Rattle.rc_promises.proofs.Time.{still-granted}
use Rattle.rc_promises.proofs.News.{WasRead, clients-are-heard}
use Rattle.rc_owner_laws.proofs.Asking.{oks-of}
use Rattle.rc_promises.proofs.Found.{IsFound, read-above, read-is}
use Rattle.rc_promises.proofs.Standing.{one-a-version, goes-from, above-safe}
use Rattle.rc_model.proofs.Ids.{same_id-refl}

-- Acknowledgements, by the places that were counted then

pub In-take_map : {X Y : Type 0} (f : X → Y) (n : ℕ) (xs : List X) (x : X) → In x (take n xs) → In (f x) (take n (map f xs))
In-take_map f zero xs x at = absurd at
In-take_map f (suc n) [] x at = absurd at
In-take_map f (suc n) (y ∷ xs) x (inl e) = inl (ap f e)
In-take_map f (suc n) (y ∷ xs) x (inr rest) = inr (In-take_map f n xs x rest)

-- what a master has acknowledged is among what it counts
record IsAmongDurable (master : Master) (ack : Ack) : Type 0 where
  entry : Entry
  among : In entry (durable_entries master)
  term_is : entry.term ≡ ack.term
  table_is : entry.table ≡ ack.table
  key_is : entry.key ≡ ack.key
  version_is : entry.version ≡ ack.version

pub is-ack : {m : ServerId} (ack : Ack) (message : Message) → message.from ≡ Server m →
    message.body ≡ WriteOk ack.seg ack.offset ack.term ack.table ack.key ack.version → is_ack_of m message ≡ true
is-ack {m} ack message from says = ap (λ (a : Addr). is_ack_of m (record { from = a; to = message.to; body = message.body })) from
    ∙ (ap (λ (b : Body). is_ack_of m (record { from = Server m; to = message.to; body = b })) says ∙ ap (λ b. b && true) (same_id-refl m))

among-durable : (setup : Setup) (events : List Event) {m : ServerId} {ack : Ack} → HasAcknowledged (replay setup events).sent m ack →
    IsAmongDurable ((replay setup events).masters m) ack
among-durable setup events {m} {ack} p = by (oks-of m (counted_places ((replay setup events).masters m).log) p.message
    (subst (In p.message) (counted-is-acknowledged setup events m)
    (filter-in (is_ack_of m) (replay setup events).sent p.message p.among (is-ack ack p.message p.from p.says))))
  where
    by : (place : LogPlace) × In place (counted_places ((replay setup events).masters m).log) × (place.client ≡ true) ×
        (p.message ≡ ok_of m place) → IsAmongDurable ((replay setup events).masters m) ack
    by (place, among, client, is) = record {
      entry = place.entry;
      among = In-take_map (λ (one : LogPlace). one.entry) ((replay setup events).masters m).log.durable
          (places_of ((replay setup events).masters m).log) place among;
      term_is = sym says.0;
      table_is = sym says.1;
      key_is = sym says.2;
      version_is = sym says.3;
    }
      where
        same-ok : (a b c d f g h i j k l n : ℕ) → WriteOk a b c d f g ≡ WriteOk h i j k l n → (c ≡ j) × (d ≡ k) × (f ≡ l) × (g ≡ n)
        same-ok a b c d f g h i j k l n e = (cc, cc, cc, cc)

        says : (ack.term ≡ place.entry.term) × (ack.table ≡ place.entry.table) × (ack.key ≡ place.entry.key)
            × (ack.version ≡ place.entry.version)
        says = search (arith, same-ok)

-- what a master counts stands at a place of its log
pub record IsPlaced (log : Log) (entry : Entry) : Type 0 where
  pub index : ℕ
  pub place : LogPlace
  pub below : index < log.durable
  pub at : slice_get (places_of log) index ≡ Some place
  pub entry_is : place.entry ≡ entry
  pub holds : slice_get (log_in log place.seg) place.offset ≡ Some entry

pub placed : (master : Master) (entry : Entry) → In entry (durable_entries master) → IsPlaced master.log entry
placed master entry at =
    let found = In-take master.log.durable (entries_of master.log) entry at in
    let place = get-map (places_of master.log) found.0 found.2 in
    let is : IsOf master.log.segments master.log.head place.0 = places_to-are master.log.head found.0 place.1 in
    record {
      index = found.0;
      place = place.0;
      below = found.1;
      at = place.1;
      entry_is = place.2;
      holds = place-logged master.log is ∙ ap Some place.2;
    }

-- durable for good
durable-later : {setup : Setup} {past : List Event} (rest : List Event) {m : ServerId} {s o : ℕ} → IsDurable setup past m s o →
    IsDurable setup (past ++ rest) m s o
durable-later {setup} {past} rest {m} {s} {o} p = record {
  moment = p.moment;
  happened = omega (arith, p.happened, length-append past rest);
  stored = subst (λ (events : List Event). IsTrue (is_stored_on_all (master_of (replay setup events) m).log s o)) (same p.moment p.happened)
      p.stored;
  earlier = λ t k above below less. by t k (p.earlier t k above below
      (subst (λ (events : List Event). k < length ((master_of (replay setup events) m).log.segments t).entries)
      (sym (same p.moment p.happened)) less));
}
  where
    same : (n : ℕ) → n ≤ length past → take n past ≡ take n (past ++ rest)
    same n less = sym (take-append-le n past rest less)

    by : (t k : ℕ) → (j : ℕ) × (j ≤ p.moment) × IsTrue (is_stored_on_all (master_of (replay setup (take j past)) m).log t k) →
        (j : ℕ) × (j ≤ p.moment) × IsTrue (is_stored_on_all (master_of (replay setup (take j (past ++ rest))) m).log t k)
    by t k (j, upto, stored) = search (arith, same)

-- The base of a grant stays as it was

module _ (setup : Setup) (past rest : List Event) where
  abbrev old : World
  old = replay setup past

  abbrev new : World
  new = replay setup (past ++ rest)

  pub all_old : AllHold old.sent old.masters old.hosts old.coordinator
  all_old = all-world setup past

  pub all_new : AllHold new.sent new.masters new.hosts new.coordinator
  all_new = all-world setup (past ++ rest)

  later-of : {m : ServerId} → Since m old new
  later-of = since-more setup past rest

  same-below : {plan : Accepted} → WasAccepted old.sent plan → {s : ℕ} (len : ℕ) → ((o : ℕ) → o < len → IsHeld plan.rows s o) →
      made_below old.sent plan.master s len ≡ made_below new.sent plan.master s len
  same-below was zero held = refl
  same-below {plan} was {s} (suc len) held =
      ap (λ l. l ++ one_of (made old.sent plan.master s len)) (same-below was len (λ o less. held o (omega arith)))
      ∙ ap (λ l. made_below new.sent plan.master s len ++ l)
      (one-made old.sent old.masters old.hosts old.coordinator (good-world setup past) one.1 one.2
      ∙ sym (one-made new.sent new.masters new.hosts new.coordinator (good-world setup (past ++ rest))
      (get-log new.sent plan.master (old.masters plan.master).log (new.masters plan.master).log
      (later-of {m = plan.master}).later s len one.0
      one.1)
      (record {
        message = one.2.message;
        among = (later-of {m = plan.master}).more one.2.message one.2.among;
        from = one.2.from;
        holds = one.2.holds;
      })))
    where
      one : (entry : Entry) × (slice_get (log_in (old.masters plan.master).log s) len ≡ Some entry)
          × HasMade old.sent plan.master s len entry
      one = recovered-is-made setup past plan s len was (held len (omega arith))

  same-recovered : {plan : Accepted} → WasAccepted old.sent plan → (rows : List PlanRow) →
      ((row : PlanRow) → In row rows → In row plan.rows) →
      recovered_entries old.sent plan.master rows ≡ recovered_entries new.sent plan.master rows
  same-recovered was [] among = refl
  same-recovered {plan} was (row ∷ rows) among = ap (λ l. l ++ recovered_entries old.sent plan.master rows)
      (same-below was row.len (λ o less. record { row = row; among = among row (inl refl); seg = refl; below = less }))
      ∙ ap (λ l. made_below new.sent plan.master row.seg row.len ++ l) (same-recovered was rows (λ other at. among other (inr at)))

  -- what an owner started with it counted when it was granted its term
  counted-then : {grant : Grant} → In grant old.coordinator.grants → {was : Entry} →
      (p : StartsWith new.sent new.masters new.hosts new.coordinator all_new MayFree
      (covers-anyhow new.sent new.masters new.hosts new.coordinator all_new) grant was) →
      In p.entry (durable_entries (old.masters grant.owner)) × (p.entry.term ≡ grant.term)
  counted-then {grant} among p = by (all_old.terms.origin grant among)
    where
      new_start : IsStarted new.sent new.masters new.hosts new.coordinator all_new grant p.given
      new_start = started new.sent new.masters new.hosts new.coordinator all_new grant p.given

      in_base : In p.entry (base new.sent (plan-of new.sent new.masters new.hosts new.coordinator all_new grant p.given) (granted_of grant))
      in_base = subst (In p.entry) (base-is new.sent new.masters new.hosts new.coordinator all_new {grant = grant} p.given) p.among

      by : ((grant.attempt ≡ 0) × (grant.previous ≡ 0)) ⊎ IsGivenBy old.sent old.coordinator grant →
          In p.entry (durable_entries (old.masters grant.owner)) × (p.entry.term ≡ grant.term)
      by (inl created) = (let n = p.given.decided.numbered.number_is in let z = created.0 in absurd (omega arith))
      by (inr given) = (there.0, there.1 ∙ term-started old.sent old.masters old.hosts old.coordinator all_old grant given)
        where
          s : IsStarted old.sent old.masters old.hosts old.coordinator all_old grant given
          s = started old.sent old.masters old.hosts old.coordinator all_old grant given

          plan : Accepted
          plan = plan-of old.sent old.masters old.hosts old.coordinator all_old grant given

          was_accepted : WasAccepted old.sent (plan-of old.sent old.masters old.hosts old.coordinator all_old grant given)
          was_accepted = (task-of old.sent old.masters old.hosts old.coordinator all_old grant.owner s.task s.task_among).accepted

          plans : plan-of new.sent new.masters new.hosts new.coordinator all_new grant p.given
              ≡ plan-of old.sent old.masters old.hosts old.coordinator all_old grant given
          plans = one-plan {sent = new.sent} {masters = new.masters} {hosts = new.hosts} {c = new.coordinator} all_new.good
              {one = (plan-of new.sent new.masters new.hosts new.coordinator all_new grant p.given)}
              {other = (plan-of old.sent old.masters old.hosts old.coordinator all_old grant given)}
              (task-of new.sent new.masters new.hosts new.coordinator all_new grant.owner new_start.task new_start.task_among).accepted
              (record {
                message = was_accepted.message;
                among = (later-of {m = grant.owner}).more was_accepted.message was_accepted.among;
                head = was_accepted.head;
                parts = was_accepted.parts;
                says = was_accepted.says;
              }) (new_start.attempt_is ∙ sym s.attempt_is)

          then_in : In p.entry (map (under_term s.state.part.term) s.joined.entries)
          then_in = subst (In p.entry) (sym (base-is old.sent old.masters old.hosts old.coordinator all_old {grant = grant} given))
              (subst (λ l. In p.entry (map (under_term grant.term) (filter (is_carried (granted_of grant)) l)))
              (sym (same-recovered {plan = (plan-of old.sent old.masters old.hosts old.coordinator all_old grant given)} was_accepted
              s.task.rows (λ row at. at)))
              (subst (λ (one : Accepted). In p.entry (base new.sent one (granted_of grant))) plans in_base))

          begins : Begins (map (under_term s.state.part.term) s.joined.entries)
              (under s.state.part.term (take (old.masters grant.owner).log.durable (logged (places_of (old.masters grant.owner).log))))
          begins = joined-begins old.sent old.masters old.hosts old.coordinator all_old grant.owner s.task s.state s.joined s.durable

          there : In p.entry (take (old.masters grant.owner).log.durable (logged (places_of (old.masters grant.owner).log)))
              × (p.entry.term ≡ s.state.part.term)
          there = under-In s.state.part.term p.entry
              (take (old.masters grant.owner).log.durable (logged (places_of (old.masters grant.owner).log)))
              (subst (In p.entry) begins.1 (In-left p.entry (map (under_term s.state.part.term) s.joined.entries) begins.0 then_in))

  -- An earlier term stays the earlier one

  still-sent : (table key k : ℕ) {one : Granted} → slice_get (grants_of old.sent table key) k ≡ Some one →
      (j : ℕ) × (slice_get (grants_of new.sent table key) j ≡ Some one)
  still-sent table key k {one} e =
      let p = at-point old.sent old.masters old.hosts old.coordinator all_old MayFree
      (covers-anyhow old.sent old.masters old.hosts old.coordinator all_old) table key k e in
      let was = was-granted new.sent new.masters new.hosts new.coordinator all_new p.0 (still-granted setup past rest p.0 p.1) in
      let at : In (granted_of p.0) (grants_of new.sent table key) = filter-In (covers table key) (granted_of p.0) (granted new.sent)
      (In-get (granted new.sent) was.0 (granted_of p.0) was.1) p.3 in
      place_of (grants_of new.sent table key) one (subst (λ (g : Granted). In g (grants_of new.sent table key)) (sym p.2) at)

  pub earlier-still : (table key : ℕ) {earlier last : ℕ} → IsBefore (grants_of old.sent table key) earlier last →
      IsBefore (grants_of new.sent table key) earlier last
  earlier-still table key (previous k one e) = let found = still-sent table key k e in previous found.0 one found.1
  earlier-still table key (onward from k one e way) =
      let found = still-sent table key k e in
      onward from found.0 one found.1 (earlier-still table key way)

  -- A read at that moment

  module _ (m : ServerId) (term table key version : ℕ) (value : Option (List ℕ))
      (owns : term_of (old.masters m).ownership table key ≡ Some term)
      (found : ◌≡◌ {A = Found} (read_of term table key (durable_entries (old.masters m))) (record { version = version; value = value }))
    where
      pub own : IsOwned old.sent old.masters old.hosts old.coordinator all_old m term table key
      own = let point : OwnsPoint (old.masters m).ownership term table key = owns-point owns in
          subst (λ n. IsOwned old.sent old.masters old.hosts old.coordinator all_old m n table key) point.term_is
          (owned old.sent old.masters old.hosts old.coordinator all_old m point.grant table key point.among point.holds)

      still_own : In own.grant new.coordinator.grants
      still_own = still-granted setup past rest own.grant own.among

      pub not-above : (entry : Entry) → In entry (durable_entries (old.masters m)) → entry.term ≡ term → entry.table ≡ table →
          entry.key ≡ key → entry.version ≤ version
      not-above entry at a b c = subst (λ (one : Found). entry.version ≤ one.version) found
          (read-above term table key (durable_entries (old.masters m)) entry at a b c)

      -- it misses nothing that its master had acknowledged under its term
      own-acks : (ack : Ack) → HasAcknowledged old.sent m ack → IsOfKey table key ack → ack.term ≡ term → ack.version ≤ version
      own-acks ack p of same =
          let d : IsAmongDurable (old.masters m) ack = among-durable setup past p in
          subst (λ n. n ≤ version) d.version_is
          (not-above d.entry d.among (d.term_is ∙ same) (d.table_is ∙ of.table_is) (d.key_is ∙ of.key_is))

      -- and what stands at a safe place under an earlier term, its master had counted
      pub record IsKeptThen (was : Entry) : Type 0 where
        pub entry : Entry
        pub among : In entry (durable_entries (old.masters m))
        pub term_is : entry.term ≡ term
        pub keeps : IsKeptBy MayFree was entry

      pub kept-then : {x : ServerId} {s o : ℕ} {was : Entry} → IsSafe new.sent x (new.masters x).log s o →
          slice_get (log_in (new.masters x).log s) o ≡ Some was →
          was.table ≡ table → was.key ≡ key → IsEarlier new.sent table key was.term term → IsKeptThen was
      kept-then {was} safe holds tables keys way = record {
        entry = p.entry;
        among = subst (λ (y : ServerId). In p.entry (durable_entries (old.masters y))) (sym own.owner_is) there.0;
        term_is = there.1 ∙ own.term_is;
        keeps = p.keeps;
      }
        where
          goes : GoesTo new.sent new.masters new.hosts new.coordinator all_new MayFree
              (covers-anyhow new.sent new.masters new.hosts new.coordinator all_new) term was
          goes = goes-from new.sent new.masters new.hosts new.coordinator all_new safe holds
              (subst (λ k. IsEarlier new.sent was.table k was.term term) (sym keys)
              (subst (λ t. IsEarlier new.sent t key was.term term) (sym tables) way))

          p : StartsWith new.sent new.masters new.hosts new.coordinator all_new MayFree
              (covers-anyhow new.sent new.masters new.hosts new.coordinator all_new) own.grant was
          p = subst (λ (g : Grant). StartsWith new.sent new.masters new.hosts new.coordinator all_new MayFree
              (covers-anyhow new.sent new.masters new.hosts new.coordinator all_new) g was)
              (all_new.terms.grant_once goes.grant own.grant goes.among still_own (goes.term_is ∙ sym own.term_is)) goes.starts

          there : In p.entry (durable_entries (old.masters own.grant.owner)) × (p.entry.term ≡ own.grant.term)
          there = counted-then own.among p

      write-of : {x : ServerId} {ack : Ack} → HasAcknowledged new.sent x ack →
          IsWriteOk new.sent x (new.masters x).log ack.seg ack.offset ack.term ack.table ack.key ack.version
      write-of p = (acked new.sent new.masters new.hosts new.coordinator all_new p).write

      kept-ack : (x : ServerId) (ack : Ack) (p : HasAcknowledged new.sent x ack) → IsOfKey table key ack →
          IsEarlier new.sent table key ack.term term → IsKeptThen (write-of p).entry
      kept-ack x ack p of way =
          let w : IsWriteOk new.sent x (new.masters x).log ack.seg ack.offset ack.term ack.table ack.key ack.version = write-of p in
          kept-then (write-of p).safe (write-of p).holds (w.table_is ∙ of.table_is) (w.key_is ∙ of.key_is)
          (subst (λ n. IsEarlier new.sent table key n term) (sym w.term_is) way)

      earlier-acks : (x : ServerId) (ack : Ack) → HasAcknowledged new.sent x ack → IsOfKey table key ack →
          IsEarlier new.sent table key ack.term term → ack.version ≤ version
      earlier-acks x ack p of way = by k.keeps.kept
        where
          w : IsWriteOk new.sent x (new.masters x).log ack.seg ack.offset ack.term ack.table ack.key ack.version
          w = write-of p

          k : IsKeptThen (write-of p).entry
          k = kept-ack x ack p of way

          upto : k.entry.version ≤ version
          upto = not-above k.entry k.among k.term_is (k.keeps.table_is ∙ (write-of p).table_is ∙ of.table_is)
              (k.keeps.key_is ∙ (write-of p).key_is ∙ of.key_is)

          is_version : (write-of p).entry.version ≡ ack.version
          is_version = (write-of p).version_is

          by : ((k.entry.version ≡ (write-of p).entry.version) × (k.entry.value ≡ (write-of p).entry.value))
              ⊎ (MayFree × ((write-of p).entry.version < k.entry.version)) → ack.version ≤ version
          by (inl same) = (let e = same.0 in omega (arith, e, upto, is_version))
          by (inr (_, less)) = omega (arith, less, upto, is_version)

      -- nor anything that anyone had acknowledged, but under a later term
      acks-by-then : (x : ServerId) (ack : Ack) → HasAcknowledged old.sent x ack → IsOfKey table key ack →
          (IsEarlier old.sent table key term ack.term → ⊥) → ack.version ≤ version
      acks-by-then x ack p of none =
          by (one-chain old.sent old.coordinator all_old.grants all_old.kept table key (granted_of its.grant) (granted_of own.grant)
          (was-granted old.sent old.masters old.hosts old.coordinator all_old its.grant its.among)
          (subst (λ k. in_range its.grant.range table k ≡ true) of.key_is
          (subst (λ t. in_range its.grant.range t ack.key ≡ true) of.table_is its.holds))
          (was-granted old.sent old.masters old.hosts old.coordinator all_old own.grant own.among) own.holds)
        where
          its : IsOwned old.sent old.masters old.hosts old.coordinator all_old x ack.term ack.table ack.key
          its = owner old.sent old.masters old.hosts old.coordinator all_old x ack
              (acked old.sent old.masters old.hosts old.coordinator all_old {m = x} {ack = ack} p)

          by : (its.grant.term ≡ own.grant.term) ⊎ (IsEarlier old.sent table key its.grant.term own.grant.term
              ⊎ IsEarlier old.sent table key own.grant.term its.grant.term) → ack.version ≤ version
          by (inl same) =
              let here : x ≡ m = its.owner_is
              ∙ ap (λ (g : Grant). g.owner) (all_old.terms.grant_once its.grant own.grant its.among own.among same) ∙ sym own.owner_is in
              own-acks ack (subst (λ (y : ServerId). HasAcknowledged old.sent y ack) here p) of (sym its.term_is ∙ same ∙ own.term_is)
          by (inr (inl way)) = earlier-acks x ack
              (record { message = p.message; among = (later-of {m = x}).more p.message p.among; from = p.from; says = p.says }) of
              (earlier-still table key {earlier = ack.term} {last = term} (subst (λ n. IsEarlier old.sent table key n term) its.term_is
              (subst (λ n. IsEarlier old.sent table key its.grant.term n) own.term_is way)))
          by (inr (inr way)) = absurd (none (subst (λ n. IsEarlier old.sent table key n ack.term) own.term_is
              (subst (λ n. IsEarlier old.sent table key own.grant.term n) its.term_is way)))

      -- Above 0 it shows an entry that its master had counted

      module _ (above : version ≡ 0 → ⊥) where
        is_found : IsFound term table key (durable_entries (old.masters m)) (read_of term table key (durable_entries (old.masters m)))
        is_found = read-is term table key (λ e. above (sym (ap (λ (one : Found). one.version) found) ∙ e))

        version_is : is_found.entry.version ≡ version
        version_is = sym is_found.version_is ∙ ap (λ (one : Found). one.version) found

        value_is : is_found.entry.value ≡ value
        value_is = sym is_found.value_is ∙ ap (λ (one : Found). one.value) found

        at_place : IsPlaced (old.masters m).log is_found.entry
        at_place = placed (old.masters m) is_found.entry is_found.among

        stands-now : {entry : Entry} (p : IsPlaced (old.masters m).log entry) →
            slice_get (log_in (new.masters m).log p.place.seg) p.place.offset ≡ Some entry
        stands-now {entry} p =
            get-log new.sent m (old.masters m).log (new.masters m).log (later-of).later p.place.seg p.place.offset entry p.holds

        shows : factor_of setup m.index ≢ 0 →
            IsShown setup (past ++ rest) m term (record { table = table; key = key; version = version; value = value })
        shows some = record {
          seg = at_place.place.seg;
          offset = at_place.place.offset;
          durable = durable;
          made = subst (HasMade new.sent m at_place.place.seg at_place.place.offset)
              (same ∙ joined is_found.entry is_found.term_is is_found.table_is is_found.key_is version_is value_is) made_there.2;
        }
          where
            durable : IsDurable setup (past ++ rest) m at_place.place.seg at_place.place.offset
            durable = durable-later rest
                (counted-is-durable setup past m at_place.index at_place.place some at_place.below at_place.at)

            made_there : (entry : Entry) × (slice_get (log_in (new.masters m).log at_place.place.seg) at_place.place.offset ≡ Some entry)
                × HasMade new.sent m at_place.place.seg at_place.place.offset entry
            made_there = durable-is-made setup (past ++ rest) m at_place.place.seg at_place.place.offset durable

            same : made_there.0 ≡ is_found.entry
            same =
                let one : slice_get (log_in (new.masters m).log at_place.place.seg) at_place.place.offset ≡ Some made_there.0 = made_there.1
                in
                let other : slice_get (log_in (new.masters m).log at_place.place.seg) at_place.place.offset ≡ Some is_found.entry
                = stands-now at_place in
                cc

            joined : (entry : Entry) → entry.term ≡ term → entry.table ≡ table → entry.key ≡ key → entry.version ≡ version →
                entry.value ≡ value →
                ◌≡◌ {A = Entry} entry (record { term = term; table = table; key = key; version = version; value = value })
            joined entry a b c d e = λ i. record { term = a i; table = b i; key = c i; version = d i; value = e i }

        -- of the one write of that version
        module _ (x : ServerId) (ack : Ack) (p : HasAcknowledged new.sent x ack) (of : IsOfKey table key ack)
            (versions : ack.version ≡ version) where
          abbrev was : Entry
          was = (write-of p).entry

          owns_x : IsOwned new.sent new.masters new.hosts new.coordinator all_new x ack.term ack.table ack.key
          owns_x = owner new.sent new.masters new.hosts new.coordinator all_new x ack
              (acked new.sent new.masters new.hosts new.coordinator all_new p)

          under-one-term : owns_x.grant.term ≡ own.grant.term → was.value ≡ value
          under-one-term same = ap (λ (one : Entry). one.value) is ∙ value_is
            where
              here : x ≡ m
              here = owns_x.owner_is
                  ∙ ap (λ (g : Grant). g.owner) (all_new.terms.grant_once owns_x.grant own.grant owns_x.among still_own same)
                  ∙ sym own.owner_is

              is : (write-of p).entry ≡ is_found.entry
              is = one-a-version new.sent new.masters new.hosts new.coordinator all_new m ack.seg ack.offset at_place.place.seg
                  at_place.place.offset
                  (subst (λ (y : ServerId). slice_get (log_in (new.masters y).log ack.seg) ack.offset ≡ Some (write-of p).entry) here
                  (write-of p).holds) (stands-now at_place)
                  ((write-of p).term_is ∙ sym owns_x.term_is ∙ same ∙ own.term_is ∙ sym is_found.term_is)
                  ((write-of p).table_is ∙ of.table_is ∙ sym is_found.table_is)
                  ((write-of p).key_is ∙ of.key_is ∙ sym is_found.key_is)
                  ((write-of p).version_is ∙ versions ∙ sym version_is)

          under-earlier-term : IsEarlier new.sent table key ack.term term → was.value ≡ value
          under-earlier-term way = by k.keeps.kept
            where
              k : IsKeptThen (write-of p).entry
              k = kept-ack x ack p of way

              tables : k.entry.table ≡ table
              tables = k.keeps.table_is ∙ (write-of p).table_is ∙ of.table_is

              keys : k.entry.key ≡ key
              keys = k.keeps.key_is ∙ (write-of p).key_is ∙ of.key_is

              upto : k.entry.version ≤ version
              upto = not-above k.entry k.among k.term_is tables keys

              is_version : (write-of p).entry.version ≡ version
              is_version = (write-of p).version_is ∙ versions

              k_place : IsPlaced (old.masters m).log k.entry
              k_place = placed (old.masters m) k.entry k.among

              by : ((k.entry.version ≡ (write-of p).entry.version) × (k.entry.value ≡ (write-of p).entry.value))
                  ⊎ (MayFree × ((write-of p).entry.version < k.entry.version)) → (write-of p).entry.value ≡ value
              by (inr (_, less)) = absurd (omega (arith, less, upto, is_version))
              by (inl same) =
                  let is : k.entry ≡ is_found.entry = one-a-version new.sent new.masters new.hosts new.coordinator all_new m
                  k_place.place.seg k_place.place.offset at_place.place.seg at_place.place.offset
                  (stands-now k_place) (stands-now at_place)
                  (k.term_is ∙ sym is_found.term_is) (tables ∙ sym is_found.table_is) (keys ∙ sym is_found.key_is)
                  (same.0 ∙ is_version ∙ sym version_is) in
                  sym same.1 ∙ ap (λ (one : Entry). one.value) is ∙ value_is

          under-later-term : IsEarlier new.sent table key term ack.term → ⊥
          under-later-term way =
              let less : is_found.entry.version < ack.version = above-safe new.sent new.masters new.hosts new.coordinator all_new
              ((later-of).safe at_place.place.seg at_place.place.offset
              ((all_old.good.masters_are m).counted at_place.index at_place.place at_place.below at_place.at))
              (stands-now at_place) p (of.table_is ∙ sym is_found.table_is) (of.key_is ∙ sym is_found.key_is)
              (subst (λ n. IsEarlier new.sent is_found.entry.table is_found.entry.key n ack.term) (sym is_found.term_is)
              (subst (λ k. IsEarlier new.sent is_found.entry.table k term ack.term) (sym is_found.key_is)
              (subst (λ t. IsEarlier new.sent t key term ack.term) (sym is_found.table_is) way))) in
              absurd (omega (arith, less, version_is, versions))

          its-value : was.value ≡ value
          its-value = by (one-chain new.sent new.coordinator all_new.grants all_new.kept table key (granted_of owns_x.grant)
              (granted_of own.grant)
              (was-granted new.sent new.masters new.hosts new.coordinator all_new owns_x.grant owns_x.among)
              (subst (λ k. in_range owns_x.grant.range table k ≡ true) of.key_is
              (subst (λ t. in_range owns_x.grant.range t ack.key ≡ true) of.table_is owns_x.holds))
              (was-granted new.sent new.masters new.hosts new.coordinator all_new own.grant still_own) own.holds)
            where
              by : (owns_x.grant.term ≡ own.grant.term)
                  ⊎ (IsEarlier new.sent table key owns_x.grant.term own.grant.term
                  ⊎ IsEarlier new.sent table key own.grant.term owns_x.grant.term) → (write-of p).entry.value ≡ value
              by (inl same) = under-one-term same
              by (inr (inl way)) = under-earlier-term (subst (λ n. IsEarlier new.sent table key n term) owns_x.term_is
                  (subst (λ n. IsEarlier new.sent table key owns_x.grant.term n) own.term_is way))
              by (inr (inr way)) = absurd (under-later-term (subst (λ n. IsEarlier new.sent table key n ack.term) own.term_is
                  (subst (λ n. IsEarlier new.sent table key own.grant.term n) owns_x.term_is way)))

      written-value : (x : ServerId) (ack : Ack) (entry : Entry) → IsWritten new.sent x ack entry → IsOfKey table key ack →
          ack.version ≡ version → entry.value ≡ value
      written-value x ack entry w of versions = ap (λ (one : Entry). one.value) same ∙ its-value above x ack w.acknowledged of versions
        where
          above : version ≡ 0 → ⊥
          above none = (let more : 0 < ack.version = versions-begin-at-one setup (past ++ rest) w.acknowledged in omega
              (arith, more, none, versions))

          same : entry ≡ (write-of w.acknowledged).entry
          same =
              let here : slice_get (log_in (new.masters x).log ack.seg) ack.offset ≡ Some entry =
              made-is (good-world setup (past ++ rest)) w.made in
              let there : slice_get (log_in (new.masters x).log ack.seg) ack.offset ≡ Some (write-of w.acknowledged).entry
              = (write-of w.acknowledged).holds in
              cc

      pub sees : MissesOnlyLater setup (past ++ rest) m old.sent (record { table = table; key = key; version = version; value = value })
      sees = record {
        term = term;
        owned = granted-to old.sent old.masters old.hosts old.coordinator all_old own;
        earlier = earlier-acks;
        own = own-acks;
        by_then = acks-by-then;
        shown = λ above some. shows above some;
        written = written-value;
      }

pub reads-see-acknowledged-writes : ReadsSeeAcknowledgedWrites
reads-see-acknowledged-writes setup events m before answer read =
    subst (λ (all : List Event). MissesOnlyLater setup all m before answer) was.whole
    (subst (λ (then_sent : List Message). MissesOnlyLater setup (was.past ++ was.rest) m then_sent answer) (sym was.sent_is)
    (sees setup was.past was.rest m was.term answer.table answer.key answer.version answer.value was.owned was.found))
  where
    was : WasRead setup events m before answer.table answer.key answer.version answer.value
    was = (clients-are-heard setup events).reads m before read.message read.after read.whole read.from
        answer.table answer.key answer.version answer.value read.says
