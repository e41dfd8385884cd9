-- What stands in logs under the terms of a key: one entry for a version, and each later owner's writes above it.
use Rattle.std.proofs.Common.{◌≡◌, ◌⊎◌, ℕ, ◌<◌, List, ◌∷◌, ◌++◌, Some, slice_get, refl, sym, ap, ◌∙◌, subst, inl, inr, arith}
use Rattle.rc_model.specs.Model.{ServerId, Entry, Grant, Message, Ack, IsEarlier, places_of, Master, HostNode, In, HasAcknowledged}
use Rattle.rc_model.specs.Coordinator.{Coordinator}
use Rattle.rc_step_laws.specs.All.{log_in, IsSafe}
use Rattle.rc_owner_laws.specs.Parts.{logged}
use Rattle.rc_owner_laws.specs.Worlds.{AllHold}
use Rattle.rc_owner_laws.specs.VersionClaims.{MayFree}
use Rattle.rc_owner_laws.proofs.Rising.{Stands, Has, has-itself, covers-anyhow, GoesTo, goes-on, above-base}
use Rattle.rc_owner_laws.proofs.Rising.{IsAcked, acked, written-at, IsOwned, owner}
use Rattle.rc_owner_laws.proofs.Kept.{safe-logged, term-above, issued-here}
use Rattle.rc_owner_laws.proofs.VersionsOrdered.{logs-rise}
use Rattle.rc_promises.proofs.Once.{three}

module _ (sent : List Message) (masters : ServerId → Master) (hosts : ℕ → HostNode) (c : Coordinator) (all : AllHold sent masters hosts c)
  where
    -- in one log, under one term, a version of a key is at one place
    pub one-a-version : (m : ServerId) (s o t k : ℕ) {one other : Entry} → slice_get (log_in (masters m).log s) o ≡ Some one →
        slice_get (log_in (masters m).log t) k ≡ Some other →
        one.term ≡ other.term → one.table ≡ other.table → one.key ≡ other.key → one.version ≡ other.version → one ≡ other
    one-a-version m s o t k {one} {other} here there terms tables keys versions = by three three
      where
        less : (t < s) ⊎ ((t ≡ s) × (k < o)) → one ≡ other
        less before =
            let e : other.version < one.version = logs-rise sent masters hosts c all m s o t k one other here there before
            (record { term_one = sym terms; term_other = refl; table = sym tables; key = sym keys }) in
            absurd (omega (arith, e, versions))

        more : (s < t) ⊎ ((s ≡ t) × (o < k)) → one ≡ other
        more before =
            let e : one.version < other.version = logs-rise sent masters hosts c all m t k s o other one there here before
            (record { term_one = terms; term_other = refl; table = tables; key = keys }) in
            absurd (omega (arith, e, versions))

        by : (s < t) ⊎ ((s ≡ t) ⊎ (t < s)) → (o < k) ⊎ ((o ≡ k) ⊎ (k < o)) → one ≡ other
        by (inl a) q = more (inl a)
        by (inr (inr a)) q = less (inl a)
        by (inr (inl e)) (inl b) = more (inr (e, b))
        by (inr (inl e)) (inr (inr b)) = less (inr (sym e, b))
        by (inr (inl e)) (inr (inl f)) = search arith

    -- what stands at a safe place, each later owner of its point has from the start, or a greater version
    pub goes-from : {m : ServerId} {s o : ℕ} {entry : Entry} → IsSafe sent m (masters m).log s o →
        slice_get (log_in (masters m).log s) o ≡ Some entry → {later : ℕ} → IsEarlier sent entry.table entry.key entry.term later →
        GoesTo sent masters hosts c all MayFree (covers-anyhow sent masters hosts c all) later entry
    goes-from {m} {s} {o} {entry} safe holds way =
        goes-on sent masters hosts c all MayFree (covers-anyhow sent masters hosts c all) way
        (term-above sent masters hosts c all m entry there) has
      where
        there : In entry (logged (places_of (masters m).log))
        there = safe-logged sent masters hosts c all m s o entry safe holds

        has : (old : Grant) → In old c.grants → old.term ≡ entry.term → Has MayFree sent old.owner (masters old.owner).log entry.term entry
        has old among same = subst (λ y. Has MayFree sent y (masters y).log entry.term entry)
            (issued-here sent masters hosts c all m entry there old among same) (has-itself safe holds)

    -- so what is acknowledged under a later term has a greater version
    pub above-safe : {m : ServerId} {s o : ℕ} {entry : Entry} → IsSafe sent m (masters m).log s o →
        slice_get (log_in (masters m).log s) o ≡ Some entry → {x : ServerId} {ack : Ack} → HasAcknowledged sent x ack →
        ack.table ≡ entry.table → ack.key ≡ entry.key → IsEarlier sent entry.table entry.key entry.term ack.term →
        entry.version < ack.version
    above-safe {entry} safe holds {x} {ack} p tables keys way = subst (λ n. entry.version < n) is.written.version_is
        (above-base sent masters hosts c all MayFree (covers-anyhow sent masters hosts c all) goes.starts at.before
        at.after
        is.written.place whole is.written.client
        (is.written.term_is ∙ sym goes.term_is) (is.written.table_is ∙ tables) (is.written.key_is ∙ keys))
      where
        is : IsAcked sent masters hosts c all x ack
        is = acked sent masters hosts c all p

        at : Stands is.written.place (places_of (masters x).log)
        at = written-at sent masters hosts c all is

        goes : GoesTo sent masters hosts c all MayFree (covers-anyhow sent masters hosts c all) ack.term entry
        goes = goes-from safe holds way

        new : IsOwned sent masters hosts c all x ack.term ack.table ack.key
        new = owner sent masters hosts c all x ack is

        same_owner : x ≡ goes.grant.owner
        same_owner = new.owner_is
            ∙ ap (λ (g : Grant). g.owner) (all.terms.grant_once new.grant goes.grant new.among goes.among (new.term_is ∙ sym goes.term_is))

        whole : places_of (masters goes.grant.owner).log ≡ at.before ++ is.written.place ∷ at.after
        whole = ap (λ (y : ServerId). places_of (masters y).log) (sym same_owner) ∙ at.whole
