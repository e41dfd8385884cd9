-- Later owners keep what was acknowledged, and what is durable.
use Rattle.std.proofs.Common.{◌≡◌, ◌⊎◌, ℕ, zero, suc, ◌+◌, ◌<◌, ◌≤◌, Bool, true, false, ◌||◌, List, [], ◌∷◌, ◌++◌, map}
use Rattle.std.proofs.Common.{slice_get, Some, refl, sym, ap, ◌∙◌, subst, inl, inr, arith}
use Rattle.std.proofs.lemmas.Bool.{eqb-true}
use Rattle.rc_model.specs.Model.{ServerId, Addr, Server, Entry, Part, Grant, GrantedRange, Message, Ack, Granted, grant_in, granted}
use Rattle.rc_model.specs.Model.{IsGranted, covers, grants_of, previous, IsEarlier, Segment, from_coordinator, places_in, places_to}
use Rattle.rc_model.specs.Model.{places_of, PartState, in_range, has_part, owns_term, Master, GivenPart, own_body, HostNode, In}
use Rattle.rc_model.specs.Model.{HasAcknowledged}
use Rattle.rc_types.specs.declared.messages.Body.TheVariants as body
use Rattle.rc_model.specs.Coordinator.{Coordinator}
use Rattle.rc_model.proofs.Members.{In-left, In-right, In-get, place_of, filter-In}
use Rattle.rc_step_laws.specs.All.{log_in, IsSafe, IsWriteOk}
use Rattle.rc_step_laws.proofs.Tests.{any-one}
use Rattle.rc_owner_laws.proofs.OwnersOrdered.{one-chain}
use Rattle.rc_owner_laws.specs.Grants.{IsOwn, own_said}
use Rattle.rc_owner_laws.specs.Terms.{IsGivenBy}
use Rattle.rc_owner_laws.specs.Parts.{part_view, logged, RangeWasGranted, IsPart}
use Rattle.rc_owner_laws.proofs.PartLists.{logged-append}
use Rattle.rc_owner_laws.specs.Worlds.{AllHold}
use Rattle.rc_owner_laws.specs.Words.{Keeps, IsCarriedOn}
use Rattle.rc_owner_laws.specs.VersionClaims.{NoVersionTwice}
use Rattle.rc_owner_laws.proofs.Bases.{IsTaskOf, task-of}
use Rattle.rc_owner_laws.proofs.Rising.{granted_of, IsRemembered, remembered, Has, has-itself, Covers, starts-keeps, GoesTo, goes-on}
use Rattle.rc_owner_laws.proofs.Rising.{acked, acknowledger, IsOwned, owner, versions-rise}
use Rattle.rc_model.proofs.Tests.{true_false}

-- What stands in a segment is among the entries of the log's places

logged-in : (seg offset : ℕ) (entries : List (Entry × Bool)) → logged (places_in seg offset entries) ≡ map (λ one. one.0) entries
logged-in seg offset [] = refl
logged-in seg offset (one ∷ entries) = ap (λ l. one.0 ∷ l) (logged-in seg (offset + 1) entries)

pub In-places : (segments : ℕ → Segment) (n s : ℕ) (entry : Entry) → 0 < s → s ≤ n →
    In entry (map (λ one. one.0) (segments s).entries) → In entry (logged (places_to segments n))
In-places segments zero s entry above upto at = absurd (omega arith)
In-places segments (suc n) s entry above upto at =
    subst (In entry) (sym (logged-append (places_to segments n) (places_in (suc n) 0 (segments (suc n)).entries)))
    (by (last-or s n upto) (λ less. In-places segments n s entry above less at))
  where
    last-or : (s n : ℕ) → s ≤ suc n → (s ≡ suc n) ⊎ (s ≤ n)
    last-or s n less = grind arith

    by : (s ≡ suc n) ⊎ (s ≤ n) → (s ≤ n → In entry (logged (places_to segments n))) →
        In entry (logged (places_to segments n) ++ logged (places_in (suc n) 0 (segments (suc n)).entries))
    by (inl same) rec = In-right entry (logged (places_to segments n)) (logged (places_in (suc n) 0 (segments (suc n)).entries))
        (subst (In entry) (sym (logged-in (suc n) 0 (segments (suc n)).entries))
        (subst (λ k. In entry (map (λ (one : Entry × Bool). one.0) (segments k).entries)) same at))
    by (inr less) rec = In-left entry (logged (places_to segments n)) (logged (places_in (suc n) 0 (segments (suc n)).entries)) (rec less)

module _ (sent : List Message) (masters : ServerId → Master) (hosts : ℕ → HostNode) (c : Coordinator)
    (all : AllHold sent masters hosts c) where
  -- Terms are issued to the log's master

  owner-of : (m : ServerId) (one : GrantedRange) → In one (masters m).ownership.grants →
      (grant : Grant) × (In grant c.grants) × (m ≡ grant.owner) × (grant.term ≡ one.term)
  owner-of m one at = (own.grant, own.among, owner own.to_is, sym (terms own.body_is))
    where
      was : RangeWasGranted sent m one
      was = (all.parts.each m).granted one at

      own : IsOwn c (Server m) (body.Own one.range one.term was.previous was.attempt)
      own = subst (λ (to : Addr). own_said c to (body.Own one.range one.term was.previous was.attempt)) was.to
          (subst (own_said c was.message.to) was.says (all.kept.known was.message was.among))

      owner : ◌≡◌ {A = Addr} (Server m) (Server own.grant.owner) → m ≡ own.grant.owner
      owner e = cc

      terms : body.Own one.range one.term was.previous was.attempt ≡ own_body own.grant → one.term ≡ own.grant.term
      terms e = cc

  -- who has an entry under a term that was granted is its owner
  pub issued-here : (m : ServerId) (entry : Entry) → In entry (logged (places_of (masters m).log)) → (grant : Grant) →
      In grant c.grants → grant.term ≡ entry.term → m ≡ grant.owner
  issued-here m entry at grant among e = by (has_part (masters m).ownership entry.term) refl
      (owns_term (masters m).ownership entry.term) refl ((all.parts.each m).logged_known entry at)
    where
      in_part : (state : PartState) → In state (masters m).ownership.parts → state.part.term ≡ entry.term → m ≡ grant.owner
      in_part state there same = which (all.terms.origin grant among)
        where
          part : IsPart sent m (part_view (masters m)) state
          part = (all.parts.each m).parts_are state there

          task : IsTaskOf sent c m part.task
          task = task-of sent masters hosts c all m part.task part.among

          term : part.task.part.term ≡ grant.term
          term = ap (λ (one : Part). one.term) part.part_is ∙ same ∙ sym e

          which : ((grant.attempt ≡ 0) × (grant.previous ≡ 0)) ⊎ IsGivenBy sent c grant → m ≡ grant.owner
          which (inl created) =
              absurd (all.terms.created_apart grant among created.0 part.task.attempt part.task.master task.decision
              task.decided (record { to = m; part = part.task.part }) task.given term)
          which (inr given) = ap (λ (one : GivenPart). one.to)
              (all.terms.part_once part.task.attempt grant.attempt part.task.master given.master task.decision
              given.decision (record { to = m; part = part.task.part })
              (record { to = grant.owner; part = given.part })
              task.decided task.given given.decided given.among (term ∙ given.term_is)).1

      in_grants : (one : GrantedRange) → In one (masters m).ownership.grants → one.term ≡ entry.term → m ≡ grant.owner
      in_grants one there same =
          let p = owner-of m one there in
          p.2 ∙ ap (λ (g : Grant). g.owner) (all.terms.grant_once p.0 grant p.1 among (p.3 ∙ same ∙ sym e))

      by : (a : Bool) → has_part (masters m).ownership entry.term ≡ a → (b : Bool) →
          owns_term (masters m).ownership entry.term ≡ b → (a || b) ≡ true → m ≡ grant.owner
      by true is b has known = (let found = any-one
          (masters m).ownership.parts is in in_part found.0 found.1 (eqb-true found.0.part.term entry.term found.2))
      by false is true has known = (let found = any-one (masters m).ownership.grants has in
          in_grants found.0 found.1 (eqb-true found.0.term entry.term found.2))
      by false is false has known = true_false (sym known)

  -- no entry is under term 0
  pub term-above : (m : ServerId) (entry : Entry) → In entry (logged (places_of (masters m).log)) → 0 < entry.term
  term-above m entry at = by (has_part (masters m).ownership entry.term) refl
      (owns_term (masters m).ownership entry.term) refl ((all.parts.each m).logged_known entry at)
    where
      in_part : (state : PartState) → In state (masters m).ownership.parts → state.part.term ≡ entry.term → 0 < entry.term
      in_part state there same =
          let part : IsPart sent m (part_view (masters m)) state = (all.parts.each m).parts_are state there in
          let task : IsTaskOf sent c m part.task = task-of sent masters hosts c all m part.task part.among in
          subst (λ n. 0 < n) (ap (λ (one : Part). one.term) part.part_is ∙ same)
          (all.terms.part_issued part.task.attempt part.task.master task.decision task.decided
          (record { to = m; part = part.task.part }) task.given)

      in_grants : (one : GrantedRange) → In one (masters m).ownership.grants → one.term ≡ entry.term → 0 < entry.term
      in_grants one there same = (let p = owner-of m one there in subst (λ n. 0 < n) (p.3 ∙ same) (all.terms.issued p.0 p.1).0)

      by : (a : Bool) → has_part (masters m).ownership entry.term ≡ a → (b : Bool) →
          owns_term (masters m).ownership entry.term ≡ b → (a || b) ≡ true → 0 < entry.term
      by true is b has known = (let found = any-one
          (masters m).ownership.parts is in in_part found.0 found.1 (eqb-true found.0.part.term entry.term found.2))
      by false is true has known = (let found = any-one (masters m).ownership.grants has in
          in_grants found.0 found.1 (eqb-true found.0.term entry.term found.2))
      by false is false has known = true_false (sym known)

  -- what stands at a safe place is among the entries of the log
  pub safe-logged : (m : ServerId) (s o : ℕ) (entry : Entry) → IsSafe sent m (masters m).log s o →
      slice_get (log_in (masters m).log s) o ≡ Some entry → In entry (logged (places_of (masters m).log))
  safe-logged m s o entry safe at =
      In-places (masters m).log.segments (masters m).log.head s entry safe.opened.above safe.opened.below
      (In-get (log_in (masters m).log s) o entry at)

  -- Who is granted the point later

  -- a grant that was sent is the one that is remembered under its term
  of-grant : {grant : Granted} {x : ServerId} → IsGranted sent grant → grant.owner ≡ Server x → (one : Grant) →
      In one c.grants → one.term ≡ grant.term → one.owner ≡ x
  of-grant {grant} {x} was to one among e = ap (λ (g : Grant). g.owner) same ∙ owner
    where
      r : IsRemembered c grant
      r = remembered c sent all.kept.known grant (In-get (granted sent) was.0 grant was.1)

      same : one ≡ r.grant
      same = all.terms.grant_once one r.grant among r.among (e ∙ ap (λ (g : Granted). g.term) r.is)

      owner : r.grant.owner ≡ x
      owner = server (sym (ap (λ (g : Granted). g.owner) r.is) ∙ to)
        where
          server : ◌≡◌ {A = Addr} (Server r.grant.owner) (Server x) → r.grant.owner ≡ x
          server e = cc

  -- what a master has at a safe place under a term, each later owner of its point has, or a greater version
  pub later-keeps : (Freed : Type 0) → Covers sent masters hosts c all Freed →
      (m : ServerId) (s o : ℕ) (entry : Entry) → IsSafe sent m (masters m).log s o →
      slice_get (log_in (masters m).log s) o ≡ Some entry →
      (grant : Granted) (x : ServerId) → IsGranted sent grant → grant.owner ≡ Server x →
      IsEarlier sent entry.table entry.key entry.term grant.term →
      Keeps Freed sent x (masters x).log grant.term entry
  later-keeps Freed covers_it m s o entry safe at grant x was to before =
      subst (λ y. Keeps Freed sent y (masters y).log grant.term entry) (of-grant was to goes.grant goes.among goes.term_is)
      (subst (λ n. Keeps Freed sent goes.grant.owner (masters goes.grant.owner).log n entry) goes.term_is
      (starts-keeps sent masters hosts c all Freed covers_it goes.starts))
    where
      has : (old : Grant) → In old c.grants → old.term ≡ entry.term → Has Freed sent old.owner (masters old.owner).log entry.term entry
      has old among e =
          subst (λ y. Has Freed sent y (masters y).log entry.term entry) (issued-here m entry (safe-logged m s o entry safe at) old among e)
          (has-itself safe at)

      goes : GoesTo sent masters hosts c all Freed covers_it grant.term entry
      goes = goes-on sent masters hosts c all Freed covers_it before
          (term-above m entry (safe-logged m s o entry safe at)) has

  -- so it is of what was acknowledged
  pub later-keeps-acked : (Freed : Type 0) → Covers sent masters hosts c all Freed → (m : ServerId) (ack : Ack) →
      HasAcknowledged sent m ack → IsCarriedOn Freed sent masters m ack
  later-keeps-acked Freed covers_it m ack was = record {
    recorded = record {
      entry = w.entry;
      stands = w.holds;
      of_ack = record { term = w.term_is; table = w.table_is; key = w.key_is };
      version = w.version_is;
    };
    kept = λ grant x granted to before. later-keeps Freed covers_it m ack.seg ack.offset w.entry w.safe w.holds grant x
        granted to (way grant before);
  }
    where
      w : IsWriteOk sent m (masters m).log ack.seg ack.offset ack.term ack.table ack.key ack.version
      w = (acked sent masters hosts c all was).write

      way : (grant : Granted) → IsEarlier sent ack.table ack.key ack.term grant.term →
          IsEarlier sent w.entry.table w.entry.key w.entry.term grant.term
      way grant before = subst (λ n. IsEarlier sent w.entry.table w.entry.key n grant.term) (sym w.term_is)
          (subst (λ k. IsEarlier sent w.entry.table k ack.term grant.term) (sym w.key_is)
          (subst (λ t. IsEarlier sent t ack.key ack.term grant.term) (sym w.table_is) before))

  -- No two owners acknowledge one version

  granted-in : (some : List Message) (grant : Grant) → In (from_coordinator grant.owner (own_body grant)) some →
      In (granted_of grant) (granted some)
  granted-in [] grant at = absurd at
  granted-in (message ∷ some) grant (inl same) =
      In-left (granted_of grant) (grant_in message.to message.body) (granted some)
      (subst (λ (one : Message). In (granted_of grant) (grant_in one.to one.body)) same (inl refl))
  granted-in (message ∷ some) grant (inr rest) =
      In-right (granted_of grant) (grant_in message.to message.body) (granted some) (granted-in some grant rest)

  pub was-granted : (grant : Grant) → In grant c.grants → IsGranted sent (granted_of grant)
  was-granted grant at = place_of (granted sent) (granted_of grant) (granted-in sent grant (all.kept.told grant at))

  pub no-version-twice : NoVersionTwice sent
  no-version-twice one other p q tables keys differ same =
      by (one-chain sent c all.grants all.kept other.table other.key (granted_of first.grant) (granted_of second.grant)
      (was-granted first.grant first.among) covers_first (was-granted second.grant second.among) second.holds)
    where
      m : (m : ServerId) × HasAcknowledged sent m one
      m = acknowledger sent masters hosts c all p

      x : (x : ServerId) × HasAcknowledged sent x other
      x = acknowledger sent masters hosts c all q

      first : IsOwned sent masters hosts c all m.0 one.term one.table one.key
      first = owner sent masters hosts c all m.0 one (acked sent masters hosts c all m.1)

      second : IsOwned sent masters hosts c all x.0 other.term other.table other.key
      second = owner sent masters hosts c all x.0 other (acked sent masters hosts c all x.1)

      covers_first : in_range first.grant.range other.table other.key ≡ true
      covers_first = subst (λ k. in_range first.grant.range other.table k ≡ true) keys
          (subst (λ t. in_range first.grant.range t one.key ≡ true) tables first.holds)

      by : (first.grant.term ≡ second.grant.term) ⊎
          (IsEarlier sent other.table other.key first.grant.term second.grant.term ⊎ IsEarlier sent other.table
          other.key second.grant.term first.grant.term) → ⊥
      by (inl e) = differ (sym first.term_is ∙ e ∙ second.term_is)
      by (inr (inl before)) =
          let less : one.version < other.version = versions-rise sent masters hosts c all other q one p tables keys
          (subst (λ n. IsEarlier sent other.table other.key one.term n) second.term_is
          (subst (λ n. IsEarlier sent other.table other.key n second.grant.term) first.term_is before)) in
          absurd (omega arith)
      by (inr (inr before)) =
          let way : IsEarlier sent other.table other.key other.term one.term =
          subst (λ n. IsEarlier sent other.table other.key other.term n) first.term_is
          (subst (λ n. IsEarlier sent other.table other.key n first.grant.term) second.term_is before) in
          let less : other.version < one.version = versions-rise sent masters hosts c all one p other q (sym tables) (sym keys)
          (subst (λ k. IsEarlier sent one.table k other.term one.term) (sym keys)
          (subst (λ t. IsEarlier sent t other.key other.term one.term) (sym tables) way)) in
          absurd (omega arith)

-- a grant's previous term is the earlier one at each of its points
pub previous-earlier : (sent : List Message) (grant : Granted) (table key : ℕ) → IsGranted sent grant →
    covers table key grant ≡ true → IsEarlier sent table key grant.previous grant.term
previous-earlier sent grant table key was holds =
    let at : In grant (grants_of sent table key) =
    filter-In (covers table key) grant (granted sent) (In-get (granted sent) was.0 grant was.1) holds in
    let found = place_of (grants_of sent table key) grant at in
    previous found.0 grant found.1
