-- A place for which nothing had been sent stands behind all that was sent, durable or recovered by then.
use Rattle.std.proofs.Common.{◌≡◌, ◌⊎◌, ◌≢◌, ℕ, ◌<◌, ◌≤◌, Bool, true, nat_lt, List, [], ◌++◌, length, Some, slice_get}
use Rattle.std.proofs.Common.{refl, sym, ap, ◌∙◌, subst, inl, inr, arith}
use Rattle.std.proofs.lemmas.Bool.{and_parts, and_from, ltb-true}
use Rattle.std.proofs.lemmas.List.{length-map}
use Rattle.rc_model.specs.Model.{ServerId, Entry, Setup, Event, Ack, Accepted, Log, is_stored_on_all}
use Rattle.rc_model.specs.Model.{IsDurable, factor_of, World, replay, WasAccepted}
use Rattle.rc_model.specs.Model.{IsHeld, HasAcknowledged, Master}
use Rattle.rc_model.specs.Durable.{log_after}
use Rattle.rc_step_laws.specs.All.{log_in, GoodMaster, IsWriteOk}
use Rattle.rc_step_laws.proofs.Lists.{get-within}
use Rattle.rc_step_laws.proofs.Clauses.{accepted-is}
use Rattle.rc_step_laws.proofs.Covers.{IsCovered, PlanIs, covered}
use Rattle.rc_step_laws.proofs.Growing.{recovered-is-made}
use Rattle.rc_step_laws.proofs.Since.{Since, since-more}
use Rattle.rc_owner_laws.specs.Worlds.{AllHold}
use Rattle.rc_owner_laws.proofs.VersionsOrdered.{opened, logs-rise}
use Rattle.rc_owner_laws.proofs.VersionReplays.{all-world}
use Rattle.rc_owner_laws.proofs.Rising.{acked}
use Rattle.rc_owner_laws.proofs.WriteWorlds.{once-durable}
use Rattle.rc_owner_laws.proofs.WriteWorlds as worlds
use Rattle.rc_owner_laws.proofs.Handing.{durable-is-made}
use Rattle.rc_promises.proofs.Once.{three}
use Rattle.rc_promises.specs.Confirmed.{HasSentFor}

-- One log

-- each segment before one that has an entry is shut
shut-before : {sent : List _} {m : ServerId} {master : Master} → GoodMaster sent m master → {t s : ℕ} → 0 < t → t < s →
    s ≤ master.log.head → (log_in master.log s ≡ [] → ⊥) → (master.log.segments t).shut ≡ true
shut-before {master} good {t} {s} above less upto some = search arith

-- a lower place of a segment is stored on all, too
stored-lower : (log : Log) (s : ℕ) {o k : ℕ} → k ≤ o → is_stored_on_all log s o ≡ true → is_stored_on_all log s k ≡ true
stored-lower log s {o} {k} upto stored = search (arith, and_parts, nat_lt, and_from, ltb-true)

module _ (setup : Setup) (past rest : List Event) where
  abbrev pub old : World
  old = replay setup past

  abbrev pub new : World
  new = replay setup (past ++ rest)

  abbrev pub all_old : AllHold old.sent old.masters old.hosts old.coordinator
  all_old = all-world setup past

  abbrev pub all_new : AllHold new.sent new.masters new.hosts new.coordinator
  all_new = all-world setup (past ++ rest)

  pub later-of : {m : ServerId} → Since m old new
  later-of = since-more setup past rest

  -- all places of the segment up to this one had been sent
  abbrev pub IsSentTo : ServerId → ℕ → ℕ → Type 0
  IsSentTo m s o = (k : ℕ) → k ≤ o → HasSentFor old.sent m s k

  -- as those up to a durable one
  pub durable-sent_to : {m : ServerId} {s o : ℕ} → IsDurable setup past m s o → IsSentTo m s o
  durable-sent_to {m} {s} durable k upto =
      let made = durable-is-made setup past m s k (record {
        moment = durable.moment;
        happened = durable.happened;
        stored = stored-lower (log_after setup past m durable.moment) s upto durable.stored;
        earlier = durable.earlier;
      }) in
      (made.0, made.2)

  -- and those up to one that a recovery holds
  pub held-sent_to : {plan : Accepted} → WasAccepted old.sent plan → {s o : ℕ} → IsHeld plan.rows s o → IsSentTo plan.master s o
  held-sent_to {plan} accepted {s} held k upto =
      let made = recovered-is-made setup past plan s k accepted
      (record { row = held.row; among = held.among; seg = held.seg; below = omega (arith, upto, held.below) }) in
      (made.0, made.2)

  module _ (m : ServerId) (some : factor_of setup m.index ≢ 0) where
    -- what stands in a shut segment had been sent
    shut-sent : (t k : ℕ) (other : Entry) → (((replay setup past).masters m).log.segments t).shut ≡ true →
        slice_get (log_in ((replay setup past).masters m).log t) k ≡ Some other → HasSentFor old.sent m t k
    shut-sent t k other shut holds =
        let durable : IsDurable setup past m t k = once-durable {setup = setup} {events = past} {m = m} {s = t} {o = k} some
        ((worlds.all-world some).shut t k shut less) in
        let made = durable-is-made setup past m t k durable in
        (made.0, made.2)
      where
        less : k < length (((replay setup past).masters m).log.segments t).entries
        less = search (arith, get-within, length-map)

    -- so what stands now where nothing had been sent stands behind
    pub behind : {s o t k : ℕ} {one other : Entry} → slice_get (log_in (old.masters m).log s) o ≡ Some one → IsSentTo m s o →
        slice_get (log_in (new.masters m).log t) k ≡ Some other → (HasSentFor old.sent m t k → ⊥) →
        (s < t) ⊎ ((s ≡ t) × (o < k))
    behind {s} {o} {t} {k} {one} {other} here sent there unsent = by three three
      where
        at : (0 < s) × (s ≤ (old.masters m).log.head)
        at = opened old.sent old.masters old.hosts old.coordinator all_old o here

        at_new : (0 < t) × (t ≤ (new.masters m).log.head)
        at_new = opened new.sent new.masters new.hosts new.coordinator all_new k there

        -- an earlier segment was shut
        earlier : t < s → (s < t) ⊎ ((s ≡ t) × (o < k))
        earlier less = absurd (unsent (shut-sent t k other
            (shut-before (all_old.good.masters_are m) at_new.0 less at.1 has)
            (subst (λ l. slice_get l k ≡ Some other) same there)))
          where
            same : log_in (new.masters m).log t ≡ log_in (old.masters m).log t
            same = ap (λ entries. Rattle.std.specs.Prelude.map (λ (it : Entry × Bool). it.0) entries)
                ((later-of).later.final t (omega (arith, less, at.1)))

            has : log_in (old.masters m).log s ≡ [] → ⊥
            has none = (let never : slice_get [] o ≡ Some one = ap (λ l. slice_get l o) (sym none) ∙ here in cc)

        by : (s < t) ⊎ ((s ≡ t) ⊎ (t < s)) → (o < k) ⊎ ((o ≡ k) ⊎ (k < o)) → (s < t) ⊎ ((s ≡ t) × (o < k))
        by (inl less) q = inl less
        by (inr (inr less)) q = earlier less
        by (inr (inl e)) (inl less) = inr (e, less)
        by (inr (inl e)) (inr (inl f)) = absurd (unsent (subst (λ n. HasSentFor old.sent m n k) e (sent k (omega (arith, f)))))
        by (inr (inl e)) (inr (inr less)) = absurd (unsent (subst (λ n. HasSentFor old.sent m n k) e (sent k (omega (arith, less)))))

    -- No recovery of its master was accepted by then

    pub no-plan : {ack : Ack} → HasAcknowledged new.sent m ack → (HasSentFor old.sent m ack.seg ack.offset → ⊥) → {plan : Accepted} →
        WasAccepted old.sent plan → plan.master ≡ m → ⊥
    no-plan {ack} p unsent {plan} was of_m = by there.is_it
      where
        accepted : WasAccepted new.sent plan
        accepted = record {
          message = was.message;
          among = (later-of {m = m}).more was.message was.among;
          head = was.head;
          parts = was.parts;
          says = was.says;
        }

        w : IsWriteOk new.sent m (new.masters m).log ack.seg ack.offset ack.term ack.table ack.key ack.version
        w = (acked new.sent new.masters new.hosts new.coordinator all_new {m = m} {ack = ack} p).write

        there : IsCovered m (new.masters m).log plan.rows ack.seg ack.offset w.entry
        there = covered new.sent new.masters new.hosts new.coordinator all_new.good m plan.rows
            (subst (λ (k : ServerId). PlanIs new.sent new.masters new.coordinator k plan.rows) of_m
            (accepted-is {sent = new.sent} {masters = new.masters} {hosts = new.hosts} {c = new.coordinator}
            all_new.good {plan = plan} accepted))
            ack.seg ack.offset w.entry w.safe w.holds

        stood : (one : Entry) × (slice_get (log_in (old.masters m).log there.seg) there.offset ≡ Some one)
        stood = subst (λ (k : ServerId). (one : Entry) × (slice_get (log_in (old.masters k).log there.seg) there.offset ≡ Some one)) of_m
            (let made = recovered-is-made setup past plan there.seg there.offset was there.held in (made.0, made.1))

        sent : IsSentTo m there.seg there.offset
        sent = subst (λ (k : ServerId). IsSentTo k there.seg there.offset) of_m
            (held-sent_to {plan = plan} was {s = there.seg} {o = there.offset} there.held)

        before : (there.seg < ack.seg) ⊎ ((there.seg ≡ ack.seg) × (there.offset < ack.offset))
        before = behind {s = there.seg} {o = there.offset} {t = ack.seg} {k = ack.offset} {one = stood.0}
            {other = w.entry} stood.1 sent w.holds unsent

        by : ((there.seg ≡ ack.seg) × (there.offset ≡ ack.offset)) ⊎ (w.entry.version < there.other.version) → ⊥
        by (inl (segs, offsets)) = unsent (subst (λ o. HasSentFor old.sent m ack.seg o) offsets
            (subst (λ n. HasSentFor old.sent m n there.offset) segs (sent there.offset (omega arith))))
        by (inr more) =
            let less : there.other.version < w.entry.version =
            logs-rise new.sent new.masters new.hosts new.coordinator all_new m {term = w.entry.term} ack.seg ack.offset
            there.seg there.offset
            w.entry there.other w.holds there.holds before
            (record { term_one = there.term; term_other = refl; table = there.table; key = there.key }) in
            absurd (omega (arith, less, more))
