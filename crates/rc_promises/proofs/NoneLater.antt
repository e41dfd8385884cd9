-- A confirmed read misses nothing.
use Rattle.std.proofs.Common.{◌≡◌, ◌≢◌, ℕ, ◌<◌, true, List, ◌++◌, sym, ap, ◌∙◌, subst}
use Rattle.rc_model.specs.Model.{ServerId, Addr, Server, Setup, Event, Grant, Message, Ack, Granted, IsGranted, granted, covers, IsEarlier}
use Rattle.rc_model.specs.Model.{in_range, factor_of, replay, HasAcknowledged}
use Rattle.rc_model.proofs.Members.{In-get}
use Rattle.rc_owner_laws.proofs.Rising.{granted_of, IsRemembered, remembered, IsOwned, acked, owner}
use Rattle.rc_owner_laws.proofs.Kept.{was-granted}
use Rattle.rc_promises.specs.Service.{WasGranted, IsOfKey, MissesOnlyLater}
use Rattle.rc_promises.proofs.News.{WasRead, clients-are-heard}
use Rattle.rc_promises.proofs.Reading.{earlier-still, sees}
use Rattle.rc_promises.proofs.Time.{IsLeft, left}
use Rattle.rc_promises.specs.Confirmed.{HasSentFor, MissesNothing, ConfirmedReadsMissNothing}
use Rattle.rc_promises.proofs.Behind.{all_old, no-plan}

module _ (setup : Setup) (past rest : List Event) where
  -- a grant that was sent is remembered
  pub owned-by : {m : ServerId} {term table key : ℕ} → WasGranted (replay setup past).sent m term table key →
      IsOwned (replay setup past).sent (replay setup past).masters (replay setup past).hosts (replay setup past).coordinator
      (all_old setup past rest) m term table key
  owned-by {m} {term} {table} {key} p = record {
    grant = r.grant;
    among = r.among;
    owner_is = same r.grant p.grant r.is p.owner_is;
    term_is = ap (λ (g : Granted). g.term) (sym r.is) ∙ p.term_is;
    holds = ap (covers table key) (sym r.is) ∙ p.holds;
  }
    where
      r : IsRemembered (replay setup past).coordinator p.grant
      r = remembered (replay setup past).coordinator (replay setup past).sent (all_old setup past rest).kept.known p.grant
          (In-get (granted (replay setup past).sent) p.granted.0 p.grant p.granted.1)

      same : (grant : Grant) (one : Granted) → one ≡ granted_of grant → one.owner ≡ Server m → m ≡ grant.owner
      same grant one is owned = (let e : ◌≡◌ {A = Addr} (Server m) (Server grant.owner) =
          sym owned ∙ ap (λ (g : Granted). g.owner) is in cc)

  -- Where a master acknowledges since what it had not begun to send, no term later than its own had been granted

  module _ (m : ServerId) (some : factor_of setup m.index ≢ 0) (ack : Ack) (p : HasAcknowledged (replay setup (past ++ rest)).sent m ack)
      (unsent : HasSentFor (replay setup past).sent m ack.seg ack.offset → ⊥) (term table key : ℕ)
      (own : IsOwned (replay setup past).sent (replay setup past).masters (replay setup past).hosts (replay setup past).coordinator
      (all_old setup past rest) m term table key) where
    pub none-later : (grant : Granted) → IsGranted (replay setup past).sent grant → covers table key grant ≡ true →
        IsEarlier (replay setup past).sent table key term grant.term → ⊥
    none-later grant was holds way = no-plan setup past rest m some p unsent gone.accepted of_m
      where
        r : IsRemembered (replay setup past).coordinator grant
        r = remembered (replay setup past).coordinator (replay setup past).sent (all_old setup past rest).kept.known grant
            (In-get (granted (replay setup past).sent) was.0 grant was.1)

        gone : IsLeft setup past rest term table key
        gone = left setup past rest (earlier-still setup past rest table key way)
            (subst (λ n. 0 < n) own.term_is ((all_old setup past rest).terms.issued own.grant own.among).0) r.grant r.among
            (ap (λ (g : Granted). g.term) (sym r.is)) (ap (covers table key) (sym r.is) ∙ holds)

        of_m : gone.plan.master ≡ m
        of_m = gone.of_owner ∙ sym gone.granted.owner_is
            ∙ ap (λ (g : Grant). g.owner) ((all_old setup past rest).terms.grant_once gone.granted.grant own.grant gone.granted.among
            own.among (gone.granted.term_is ∙ sym own.term_is)) ∙ sym own.owner_is

pub confirmed-reads-miss-nothing : ConfirmedReadsMissNothing
confirmed-reads-miss-nothing setup events m before answer some read confirmed =
    subst (λ (then_sent : List Message). MissesNothing m then_sent answer) (sym was.sent_is) at_past
  where
    was : WasRead setup events m before answer.table answer.key answer.version answer.value
    was = (clients-are-heard setup events).reads m before read.message read.after read.whole read.from
        answer.table answer.key answer.version answer.value read.says

    seen : MissesOnlyLater setup (was.past ++ was.rest) m (replay setup was.past).sent answer
    seen = sees setup was.past was.rest m was.term answer.table answer.key answer.version answer.value was.owned was.found

    own : IsOwned (replay setup was.past).sent (replay setup was.past).masters (replay setup was.past).hosts
        (replay setup was.past).coordinator (all_old setup was.past was.rest) m seen.term answer.table answer.key
    own = owned-by setup was.past was.rest seen.owned

    acknowledged : HasAcknowledged (replay setup (was.past ++ was.rest)).sent m confirmed.ack
    acknowledged = subst (λ (all : List Event). HasAcknowledged (replay setup all).sent m confirmed.ack) (sym was.whole)
        confirmed.acknowledged

    unsent : HasSentFor (replay setup was.past).sent m confirmed.ack.seg confirmed.ack.offset → ⊥
    unsent = subst (λ (then_sent : List Message). HasSentFor then_sent m confirmed.ack.seg confirmed.ack.offset → ⊥) was.sent_is
        confirmed.unsent

    last : (grant : Granted) → IsGranted (replay setup was.past).sent grant → covers answer.table answer.key grant ≡ true →
        IsEarlier (replay setup was.past).sent answer.table answer.key seen.term grant.term → ⊥
    last = none-later setup was.past was.rest m some confirmed.ack acknowledged unsent seen.term answer.table answer.key own

    at_past : MissesNothing m (replay setup was.past).sent answer
    at_past = record {
      term = seen.term;
      owned = seen.owned;
      last = last;
      all = λ x ack p of. seen.by_then x ack p of (λ way. later x ack p of way);
    }
      where
        later : (x : ServerId) (ack : Ack) → HasAcknowledged (replay setup was.past).sent x ack → IsOfKey answer.table answer.key ack →
            IsEarlier (replay setup was.past).sent answer.table answer.key seen.term ack.term → ⊥
        later x ack p of way = last (granted_of its.grant)
            (was-granted (replay setup was.past).sent (replay setup was.past).masters (replay setup was.past).hosts
            (replay setup was.past).coordinator (all_old setup was.past was.rest) its.grant its.among)
            (subst (λ k. in_range its.grant.range answer.table k ≡ true) of.key_is
            (subst (λ t. in_range its.grant.range t ack.key ≡ true) of.table_is its.holds))
            (subst (λ n. IsEarlier (replay setup was.past).sent answer.table answer.key seen.term n) (sym its.term_is) way)
          where
            its : IsOwned (replay setup was.past).sent (replay setup was.past).masters (replay setup was.past).hosts
                (replay setup was.past).coordinator (all_old setup was.past was.rest) x ack.term ack.table ack.key
            its = owner (replay setup was.past).sent (replay setup was.past).masters (replay setup was.past).hosts
                (replay setup was.past).coordinator (all_old setup was.past was.rest) x ack
                (acked (replay setup was.past).sent (replay setup was.past).masters (replay setup was.past).hosts
                (replay setup was.past).coordinator (all_old setup was.past was.rest) p)
