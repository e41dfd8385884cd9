-- What a read shows, a client asked for; and whatever had stood before it was asked for has a lower version.
use Rattle.std.proofs.Common.{◌≡◌, ◌⊎◌, ◌≢◌, ℕ, ◌<◌, ◌≤◌, true, List, ◌++◌, Option}
use Rattle.std.proofs.Common.{Some, slice_get, refl, sym, ap, ◌∙◌, subst, inl, inr, arith}
use Rattle.rc_model.specs.Model.{ServerId, Entry, Setup, Event, Grant, Message, Ack, Accepted, Granted, grants_of, IsBefore, previous}
use Rattle.rc_model.specs.Model.{onward, IsEarlier, Found, read_of, LogPlace}
use Rattle.rc_model.specs.Model.{places_of, in_range, term_of, durable_entries, Master, HostNode}
use Rattle.rc_model.specs.Model.{factor_of, World, replay, In, HasAcknowledged, WasAccepted}
use Rattle.rc_model.specs.Coordinator.{Coordinator}
use Rattle.rc_owner_laws.specs.Terms.{IsGivenBy}
use Rattle.rc_owner_laws.specs.Worlds.{AllHold}
use Rattle.rc_owner_laws.specs.VersionClaims.{MayFree}
use Rattle.rc_owner_laws.proofs.OwnersOrdered.{one-chain, earlier-less}
use Rattle.rc_owner_laws.proofs.Bases.{task-of, IsStarted, started}
use Rattle.rc_owner_laws.proofs.VersionCuts.{one-plan}
use Rattle.rc_owner_laws.proofs.Kept.{was-granted, term-above, previous-earlier}
use Rattle.rc_owner_laws.proofs.Rising.{granted_of, covers-anyhow, at-point, IsOwned}
use Rattle.rc_owner_laws.proofs.VersionReplays.{all-world}
use Rattle.rc_promises.proofs.Time.{IsLeft, left, still-granted}
use Rattle.rc_promises.specs.Confirmed.{HasSentFor}
use Rattle.rc_promises.proofs.Behind.{all_old, all_new, later-of, held-sent_to}
use Rattle.rc_promises.proofs.NoneLater.{none-later}
use Rattle.rc_promises.proofs.Stood.{Stood, reader-owned}
use Rattle.rc_promises.proofs.Origin.{IsAtHome, IsHandedOn, Origin}
use Rattle.rc_promises.proofs.Above.{above}

-- Ways from term to term

-- the first grant on the way, and what is left of the way
record FirstStep (grants : List Granted) (earlier later : ℕ) : Type 0 where
  index : ℕ
  one : Granted
  at : slice_get grants index ≡ Some one
  previous_is : one.previous ≡ earlier
  rest : (one.term ≡ later) ⊎ IsBefore grants one.term later

first-step : {grants : List Granted} {earlier later : ℕ} → IsBefore grants earlier later → FirstStep grants earlier later
first-step (previous k one e) = record { index = k; one = one; at = e; previous_is = refl; rest = inl refl }
first-step {grants} (onward from k one e way) = further (first-step way)
  where
    further : FirstStep grants from one.previous → FirstStep grants from one.term
    further p = record { index = p.index; one = p.one; at = p.at; previous_is = p.previous_is; rest = by p.rest }
      where
        by : (p.one.term ≡ one.previous) ⊎ IsBefore grants p.one.term one.previous →
            (p.one.term ≡ one.term) ⊎ IsBefore grants p.one.term one.term
        by (inl same) = inr (subst (λ n. IsBefore grants n one.term) (sym same) (previous k one e))
        by (inr more) = inr (onward p.one.term k one e more)

module _ (sent : List Message) (masters : ServerId → Master) (hosts : ℕ → HostNode) (c : Coordinator) (all : AllHold sent masters hosts c)
    (table key : ℕ) where
  -- the last grant on the way
  record LastStep (earlier later : ℕ) : Type 0 where
    grant : Grant
    among : In grant c.grants
    term_is : grant.term ≡ later
    upto : earlier ≤ grant.previous

  last-step : {earlier later : ℕ} → IsEarlier sent table key earlier later → LastStep earlier later
  last-step (previous k one e) =
      let p = at-point sent masters hosts c all MayFree (covers-anyhow sent masters hosts c all) table key k e in
      let same : one.previous ≡ p.0.previous = ap (λ (g : Granted). g.previous) p.2 in
      record { grant = p.0; among = p.1; term_is = sym (ap (λ (g : Granted). g.term) p.2); upto = omega (arith, same) }
  last-step (onward from k one e way) =
      let p = at-point sent masters hosts c all MayFree (covers-anyhow sent masters hosts c all) table key k e in
      let same : one.previous ≡ p.0.previous = ap (λ (g : Granted). g.previous) p.2 in
      let less : from < one.previous = earlier-less sent c all.grants all.kept table key from one.previous way in
      record { grant = p.0; among = p.1; term_is = sym (ap (λ (g : Granted). g.term) p.2); upto = omega (arith, same, less) }

  rises : (grant : Grant) → In grant c.grants → in_range grant.range table key ≡ true → grant.previous < grant.term
  rises grant among holds = earlier-less sent c all.grants all.kept table key grant.previous grant.term
      (previous-earlier sent (granted_of grant) table key (was-granted sent masters hosts c all grant among) holds)

  not-both : (one other : Grant) → In one c.grants → In other c.grants → in_range one.range table key ≡ true →
      one.previous ≡ other.previous → IsEarlier sent table key one.term other.term → ⊥
  not-both one other in_one in_other holds same way =
      let last : LastStep one.term other.term = last-step way in
      let is : last.grant.previous ≡ other.previous = ap (λ (g : Grant). g.previous)
      (all.terms.grant_once last.grant other last.among in_other last.term_is) in
      let less : one.previous < one.term = rises one in_one holds in
      absurd (omega (arith, last.upto, is, same, less))

  -- after one term comes one grant
  pub one-after : {one other : Grant} → In one c.grants → In other c.grants → in_range one.range table key ≡ true →
      in_range other.range table key ≡ true → one.previous ≡ other.previous → one ≡ other
  one-after {one} {other} in_one in_other one_holds other_holds same =
      by (one-chain sent c all.grants all.kept table key (granted_of one) (granted_of other)
      (was-granted sent masters hosts c all one in_one) one_holds (was-granted sent masters hosts c all other in_other) other_holds)
    where
      by : (one.term ≡ other.term) ⊎ (IsEarlier sent table key one.term other.term ⊎ IsEarlier sent table key other.term one.term) →
          one ≡ other
      by (inl e) = all.terms.grant_once one other in_one in_other e
      by (inr (inl way)) = absurd (not-both one other in_one in_other one_holds same way)
      by (inr (inr way)) = absurd (not-both other one in_other in_one other_holds (sym same) way)

-- From the first events to the read

module _ (setup : Setup) (early gap rest : List Event) (m x : ServerId) (some_x : factor_of setup x.index ≢ 0) (one : Entry)
    (s : Stood setup early gap m one)
    -- a read of x at the end of the gap, which is confirmed
    (term version : ℕ) (value : Option (List ℕ))
    (owns : term_of ((replay setup (early ++ gap)).masters x).ownership one.table one.key ≡ Some term)
    (found : ◌≡◌ {A = Found} (read_of term one.table one.key (durable_entries ((replay setup (early ++ gap)).masters x)))
    (record { version = version; value = value })) (ack : Ack)
    (p : HasAcknowledged (replay setup ((early ++ gap) ++ rest)).sent x ack)
    (unsent_ack : HasSentFor (replay setup (early ++ gap)).sent x ack.seg ack.offset → ⊥) where
  abbrev new : World
  new = replay setup (early ++ gap)

  all : AllHold new.sent new.masters new.hosts new.coordinator
  all = all_new setup early gap

  own : IsOwned new.sent new.masters new.hosts new.coordinator (all_old setup (early ++ gap) rest) x term one.table one.key
  own = reader-owned setup (early ++ gap) rest x some_x term one.table one.key version value owns found

  still : In s.owned.grant new.coordinator.grants
  still = still-granted setup early gap s.owned.grant s.owned.among

  -- what it shows comes from a place for which nothing had been sent within the first events
  module _ (seg offset : ℕ) (entry : Entry) (term_is : entry.term ≡ term) (tables : entry.table ≡ one.table) (keys : entry.key ≡ one.key)
      (o : Origin new.sent new.masters new.hosts new.coordinator (all_new setup early gap) x seg offset entry)
      (unsent : HasSentFor (replay setup early).sent o.x o.place.seg o.place.offset → ⊥) where
    -- at home: then a later term than the reader's had been granted
    not-home : IsAtHome o.x x o.place seg offset entry.term → IsEarlier new.sent one.table one.key o.place.entry.term one.term → ⊥
    not-home home way = none-later setup (early ++ gap) rest x some_x ack p unsent_ack term one.table one.key own
        (granted_of s.owned.grant)
        (was-granted new.sent new.masters new.hosts new.coordinator (all_new setup early gap) s.owned.grant still) s.owned.holds
        (subst (λ n. IsEarlier new.sent one.table one.key n s.owned.grant.term) (home.term_is ∙ term_is)
        (subst (λ n. IsEarlier new.sent one.table one.key o.place.entry.term n) (sym s.owned.term_is) way))

    -- handed on: then the recovery was accepted by then, and holds the place
    not-handed : IsHandedOn new.sent new.masters new.hosts new.coordinator (all_new setup early gap) o.x o.place entry.table entry.key →
        IsEarlier new.sent one.table one.key o.place.entry.term one.term → ⊥
    not-handed h way = from_origin ((all_old setup early gap).terms.origin then.0 then.1)
      where
        f : FirstStep (grants_of new.sent one.table one.key) o.place.entry.term one.term
        f = first-step {grants = (grants_of new.sent one.table one.key)} {earlier = o.place.entry.term} {later = one.term} way

        at : (grant : Grant) × (In grant new.coordinator.grants) × (f.one ≡ granted_of grant)
            × (in_range grant.range one.table one.key ≡ true)
        at = at-point new.sent new.masters new.hosts new.coordinator (all_new setup early gap) MayFree
            (covers-anyhow new.sent new.masters new.hosts new.coordinator (all_new setup early gap)) one.table one.key
            f.index {one = f.one} f.at

        h_holds : in_range h.grant.range one.table one.key ≡ true
        h_holds = subst (λ k. in_range h.grant.range one.table k ≡ true) keys
            (subst (λ t. in_range h.grant.range t entry.key ≡ true) tables h.holds)

        is : at.0 ≡ h.grant
        is = one-after new.sent new.masters new.hosts new.coordinator (all_new setup early gap) one.table one.key
            {one = at.0} {other = h.grant} at.1 h.among
            at.3 h_holds (sym (ap (λ (g : Granted). g.previous) at.2) ∙ f.previous_is ∙ sym h.previous)

        above_zero : 0 < o.place.entry.term
        above_zero = term-above new.sent new.masters new.hosts new.coordinator (all_new setup early gap) o.x o.place.entry
            (Rattle.rc_model.proofs.Members.map-In (λ (place : LogPlace). place.entry) o.place (places_of (new.masters o.x).log) o.among)

        term_of_first : f.one.term ≡ h.grant.term
        term_of_first = ap (λ (g : Granted). g.term) at.2 ∙ ap (λ (g : Grant). g.term) is

        -- its grant was sent by then
        then : (grant : Grant) × (In grant (replay setup early).coordinator.grants) × (grant.term ≡ h.grant.term)
        then = by f.rest
          where
            by : (f.one.term ≡ one.term) ⊎ IsBefore (grants_of new.sent one.table one.key) f.one.term one.term →
                (grant : Grant) × (In grant (replay setup early).coordinator.grants) × (grant.term ≡ h.grant.term)
            by (inl same) = (s.owned.grant, s.owned.among, s.owned.term_is ∙ sym same ∙ term_of_first)
            by (inr more) =
                let gone : IsLeft setup early gap f.one.term one.table one.key =
                left setup early gap {table = one.table} {key = one.key} {earlier = f.one.term} {last = one.term} more
                (subst (λ n. 0 < n) (sym term_of_first) ((all_new setup early gap).terms.issued h.grant h.among).0)
                s.owned.grant s.owned.among s.owned.term_is s.owned.holds in
                (gone.granted.grant, gone.granted.among, gone.granted.term_is ∙ term_of_first)

        same_grant : then.0 ≡ h.grant
        same_grant = (all_new setup early gap).terms.grant_once then.0 h.grant (still-granted setup early gap then.0 then.1) h.among then.2

        from_origin : ((then.0.attempt ≡ 0) × (then.0.previous ≡ 0))
            ⊎ IsGivenBy (replay setup early).sent (replay setup early).coordinator then.0 → ⊥
        from_origin (inl created) = search (arith, same_grant, above_zero)
        from_origin (inr given) = unsent (subst (λ k. HasSentFor (replay setup early).sent k o.place.seg o.place.offset)
            (ap (λ (plan : Accepted). plan.master) (sym same_plan) ∙ h.master)
            (held-sent_to setup early gap {plan = plan} accepted {s = o.place.seg} {o = o.place.offset}
            (subst (λ (one : Accepted). Rattle.rc_model.specs.Headline.IsHeld one.rows o.place.seg o.place.offset) same_plan h.held)
            o.place.offset (omega arith)))
          where
            st : IsStarted (replay setup early).sent (replay setup early).masters (replay setup early).hosts
                (replay setup early).coordinator (all_old setup early gap) then.0 given
            st = started (replay setup early).sent (replay setup early).masters (replay setup early).hosts
                (replay setup early).coordinator (all_old setup early gap) then.0 given

            plan : Accepted
            plan = record { attempt = st.task.attempt; master = st.task.master; rows = st.task.rows }

            accepted : WasAccepted (replay setup early).sent (record {
              attempt = st.task.attempt;
              master = st.task.master;
              rows = st.task.rows;
            })
            accepted = (task-of (replay setup early).sent (replay setup early).masters (replay setup early).hosts
                (replay setup early).coordinator (all_old setup early gap) then.0.owner st.task st.task_among).accepted

            same_plan : h.plan ≡ record { attempt = st.task.attempt; master = st.task.master; rows = st.task.rows }
            same_plan = one-plan {sent = new.sent} {masters = new.masters} {hosts = new.hosts} {c = new.coordinator}
                (all_new setup early gap).good {one = h.plan}
                {other = (record { attempt = st.task.attempt; master = st.task.master; rows = st.task.rows })} h.accepted
                (record {
                  message = accepted.message;
                  among = (later-of setup early gap {m = m}).more accepted.message accepted.among;
                  head = accepted.head;
                  parts = accepted.parts;
                  says = accepted.says;
                }) (h.attempt ∙ ap (λ (g : Grant). g.attempt) (sym same_grant) ∙ sym st.attempt_is)

    pub below-shown : factor_of setup o.x.index ≢ 0 → one.version < entry.version
    below-shown some = subst (λ n. one.version < n) o.version_is
        (above setup early gap m o.x some one s o.place o.among o.client unsent (o.table_is ∙ tables) (o.key_is ∙ keys)
        (λ way. not o.link way))
      where
        not : IsAtHome o.x x o.place seg offset entry.term
            ⊎ IsHandedOn new.sent new.masters new.hosts new.coordinator (all_new setup early gap) o.x o.place entry.table entry.key →
            IsEarlier new.sent one.table one.key o.place.entry.term one.term → ⊥
        not (inl home) = not-home home
        not (inr on) = not-handed on

-- The same, where the end of the gap has a name of its own

module _ (setup : Setup) (early gap rest : List Event) (m x : ServerId) (some : (host : ℕ) → factor_of setup host ≢ 0) (one : Entry)
    (s : Stood setup early gap m one) (term version : ℕ) (value : Option (List ℕ)) (ack : Ack) (seg offset : ℕ) (entry : Entry) where
  abbrev Claim : List Event → Type 0
  Claim past = term_of ((replay setup past).masters x).ownership one.table one.key ≡ Some term →
      ◌≡◌ {A = Found} (read_of term one.table one.key (durable_entries ((replay setup past).masters x)))
      (record { version = version; value = value }) →
      HasAcknowledged (replay setup (past ++ rest)).sent x ack →
      (HasSentFor (replay setup past).sent x ack.seg ack.offset → ⊥) →
      entry.term ≡ term → entry.table ≡ one.table → entry.key ≡ one.key →
      (o : Origin (replay setup past).sent (replay setup past).masters (replay setup past).hosts (replay setup past).coordinator
      (all-world setup past) x seg offset entry) →
      (HasSentFor (replay setup early).sent o.x o.place.seg o.place.offset → ⊥) → one.version < entry.version

  pub below-at : {past : List Event} → early ++ gap ≡ past → Claim past
  below-at whole = subst Claim whole
      (λ owns found p unsent_ack term_is tables keys o unsent. below-shown setup early gap rest m x (some x.index) one s term version value
      owns found ack p unsent_ack seg offset entry term_is tables keys o unsent (some o.x.index))
