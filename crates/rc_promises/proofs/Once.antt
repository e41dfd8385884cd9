-- One version is one write.
use Rattle.std.proofs.Common.{◌≡◌, ◌⊎◌, ℕ, ◌<◌, nat_eq, List, Some, slice_get, sym, ap, ◌∙◌}
use Rattle.std.proofs.Common.{subst, inl, inr, arith}
use Rattle.std.proofs.lemmas.Bool.{eqb-true, eq-eqb}
use Rattle.rc_model.specs.Model.{ServerId, Server, Entry, Grant, Message, Ack, Master, HostNode, replay, HasAcknowledged, WasAcknowledged}
use Rattle.rc_model.specs.Model.{HasMade}
use Rattle.rc_model.specs.Coordinator.{Coordinator}
use Rattle.rc_step_laws.specs.All.{log_in, IsWriteOk}
use Rattle.rc_step_laws.proofs.Clauses.{made-is}
use Rattle.rc_step_laws.proofs.Replays.{good-world}
use Rattle.rc_owner_laws.specs.AckClaims.{IsAsked}
use Rattle.rc_owner_laws.proofs.Asking.{acknowledged-was-asked}
use Rattle.rc_owner_laws.specs.Worlds.{AllHold}
use Rattle.rc_owner_laws.proofs.Rising.{granted_of, acked, IsOwned, owner}
use Rattle.rc_owner_laws.proofs.Kept.{was-granted, no-version-twice}
use Rattle.rc_owner_laws.proofs.VersionsOrdered.{logs-rise}
use Rattle.rc_owner_laws.proofs.VersionReplays.{all-world}
use Rattle.rc_owner_laws.specs.DurableHandovers.{IsHandedOn}
use Rattle.rc_owner_laws.proofs.Handing.{acknowledged-is-handed-on}
use Rattle.rc_promises.proofs.Asked.{client-asked, versions-begin-at-one}
use Rattle.rc_promises.specs.Service.{WasGranted, IsOfKey, OneVersionIsOneWrite, AcknowledgedIsWritten}
use Rattle.rc_model.proofs.Tests.{true_false}
use Rattle.rc_step_laws.proofs.Copies.{split}

-- three ways
pub three : {a b : ℕ} → (a < b) ⊎ ((a ≡ b) ⊎ (b < a))
three = grind arith

pub by-anyone : {sent : List Message} {m : ServerId} {ack : Ack} → HasAcknowledged sent m ack → WasAcknowledged sent ack
by-anyone p = record { message = p.message; among = p.among; says = p.says }

same-ack : {one other : Ack} → one.seg ≡ other.seg → one.offset ≡ other.offset → one.term ≡ other.term → one.table ≡ other.table →
    one.key ≡ other.key → one.version ≡ other.version → one ≡ other
same-ack a b c d e f = λ i. record { seg = a i; offset = b i; term = c i; table = d i; key = e i; version = f i }

module _ (sent : List Message) (masters : ServerId → Master) (hosts : ℕ → HostNode) (c : Coordinator) (all : AllHold sent masters hosts c)
  where
    -- a grant that is remembered was sent
    pub granted-to : {m : ServerId} {term table key : ℕ} → IsOwned sent masters hosts c all m term table key →
        WasGranted sent m term table key
    granted-to p = record {
      grant = granted_of p.grant;
      granted = was-granted sent masters hosts c all p.grant p.among;
      owner_is = ap Server (sym p.owner_is);
      term_is = p.term_is;
      holds = p.holds;
    }

    -- whose term it is
    pub one-owner : {m x : ServerId} {ack other : Ack} → HasAcknowledged sent m ack → HasAcknowledged sent x other → other.term ≡ ack.term →
        x ≡ m
    one-owner {m} {x} {ack} {other} p q same = two.owner_is
        ∙ ap (λ (g : Grant). g.owner) (all.terms.grant_once two.grant one.grant two.among one.among (two.term_is ∙ same ∙ sym one.term_is))
        ∙ sym one.owner_is
      where
        one : IsOwned sent masters hosts c all m ack.term ack.table ack.key
        one = owner sent masters hosts c all m ack (acked sent masters hosts c all p)

        two : IsOwned sent masters hosts c all x other.term other.table other.key
        two = owner sent masters hosts c all x other (acked sent masters hosts c all q)

    one-term : {ack other : Ack} → WasAcknowledged sent ack → WasAcknowledged sent other → IsOfKey ack.table ack.key other →
        other.version ≡ ack.version → other.term ≡ ack.term
    one-term {ack} {other} p q keys versions = split (nat_eq other.term ack.term) (λ e. eqb-true other.term ack.term e)
        (λ e. absurd (no-version-twice sent masters hosts c all other ack q p keys.table_is keys.key_is
        (λ same. true_false (sym (eq-eqb other.term ack.term same) ∙ e)) versions))

    -- of one master's writes under one term, the one at the earlier place has the lower version
    pub earlier-is-less : {m : ServerId} {ack other : Ack} → HasAcknowledged sent m ack → HasAcknowledged sent m other →
        IsOfKey ack.table ack.key other → other.term ≡ ack.term →
        (other.seg < ack.seg) ⊎ ((other.seg ≡ ack.seg) × (other.offset < ack.offset)) → other.version < ack.version
    earlier-is-less {m} {ack} {other} p q keys same before =
        subst (λ n. n < ack.version) w.version_is (subst (λ n. w.entry.version < n) v.version_is
        (logs-rise sent masters hosts c all m ack.seg ack.offset other.seg other.offset v.entry w.entry v.holds w.holds before
        (record {
          term_one = w.term_is ∙ same;
          term_other = v.term_is;
          table = w.table_is ∙ keys.table_is ∙ sym v.table_is;
          key = w.key_is ∙ keys.key_is ∙ sym v.key_is;
        })))
      where
        v : IsWriteOk sent m (masters m).log ack.seg ack.offset ack.term ack.table ack.key ack.version
        v = (acked sent masters hosts c all p).write

        w : IsWriteOk sent m (masters m).log other.seg other.offset other.term other.table other.key other.version
        w = (acked sent masters hosts c all q).write

    one-place : {m : ServerId} {ack other : Ack} → HasAcknowledged sent m ack → HasAcknowledged sent m other →
        IsOfKey ack.table ack.key other → other.term ≡ ack.term → other.version ≡ ack.version → other ≡ ack
    one-place {ack} {other} p q keys same versions = by three three
      where
        back : IsOfKey other.table other.key ack
        back = record { table_is = sym keys.table_is; key_is = sym keys.key_is }

        less : (other.seg < ack.seg) ⊎ ((other.seg ≡ ack.seg) × (other.offset < ack.offset)) → other ≡ ack
        less before = (let e = earlier-is-less p q keys same before in absurd (omega arith))

        more : (ack.seg < other.seg) ⊎ ((ack.seg ≡ other.seg) × (ack.offset < other.offset)) → other ≡ ack
        more before = (let e = earlier-is-less q p back (sym same) before in absurd (omega arith))

        by : (other.seg < ack.seg) ⊎ ((other.seg ≡ ack.seg) ⊎ (ack.seg < other.seg)) → (other.offset < ack.offset)
            ⊎ ((other.offset ≡ ack.offset) ⊎ (ack.offset < other.offset)) → other ≡ ack
        by (inl a) offsets = less (inl a)
        by (inr (inr a)) offsets = more (inl a)
        by (inr (inl e)) (inl b) = less (inr (e, b))
        by (inr (inl e)) (inr (inr b)) = more (inr (sym e, b))
        by (inr (inl e)) (inr (inl f)) = same-ack e f same keys.table_is keys.key_is versions

    pub one-write : {m x : ServerId} {ack other : Ack} → HasAcknowledged sent m ack → HasAcknowledged sent x other →
        IsOfKey ack.table ack.key other → other.version ≡ ack.version → (x ≡ m) × (other ≡ ack)
    one-write {m} {x} {ack} {other} p q keys versions
        = (here, one-place p (subst (λ (k : ServerId). HasAcknowledged sent k other) here q) keys same versions)
      where
        same : other.term ≡ ack.term
        same = one-term (by-anyone p) (by-anyone q) keys versions

        here : x ≡ m
        here = one-owner p q same

-- In every world

pub one-version-is-one-write : OneVersionIsOneWrite
one-version-is-one-write setup events m ack p = record {
  owned = granted-to (replay setup events).sent (replay setup events).masters (replay setup events).hosts (replay setup events).coordinator
      all
      (owner (replay setup events).sent (replay setup events).masters (replay setup events).hosts (replay setup events).coordinator all m
      ack
      (acked (replay setup events).sent (replay setup events).masters (replay setup events).hosts (replay setup events).coordinator all p));
  above = versions-begin-at-one setup events p;
  only = λ x other q keys versions. one-write (replay setup events).sent (replay setup events).masters (replay setup events).hosts
      (replay setup events).coordinator all p q keys versions;
  value = asked.entry.value;
  asked = client-asked setup events m ack.table ack.key asked.entry.value asked.asked;
  one_value = λ entry written. ap (λ (one : Entry). one.value) (same entry written.made);
}
  where
    all : AllHold (replay setup events).sent (replay setup events).masters (replay setup events).hosts (replay setup events).coordinator
    all = all-world setup events

    asked : IsAsked (replay setup events).sent m ((replay setup events).masters m).log ack
    asked = acknowledged-was-asked setup events m ack p

    same : (entry : Entry) → HasMade (replay setup events).sent m ack.seg ack.offset entry → entry ≡ asked.entry
    same entry made =
        let one : slice_get (log_in ((replay setup events).masters m).log ack.seg) ack.offset ≡ Some entry =
        made-is (good-world setup events) made in
        let other : slice_get (log_in ((replay setup events).masters m).log ack.seg) ack.offset ≡ Some asked.entry = asked.stands in
        cc

pub acknowledged-is-written : AcknowledgedIsWritten
acknowledged-is-written setup events m ack some p =
    let handed : IsHandedOn setup events m ack = acknowledged-is-handed-on setup events m ack p in
    (handed.recorded.entry, record { acknowledged = p; made = handed.made some })
