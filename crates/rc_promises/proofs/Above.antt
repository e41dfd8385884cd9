-- What a client asked for only afterwards stands above all that had stood.
use Rattle.std.proofs.Common.{arith}
use Rattle.std.proofs.Common.{◌≡◌, ◌⊎◌, ◌≢◌, ◌<◌, true, List, ◌∷◌, ◌++◌, Some, slice_get, refl, sym, ap, ◌∙◌, subst, inl, inr}
use Rattle.rc_model.specs.Model.{ServerId, Entry, Setup, Event, Grant, Ack, IsEarlier, LogPlace, places_of, in_range, factor_of, replay}
use Rattle.rc_model.specs.Model.{HasAcknowledged, In}
use Rattle.rc_model.proofs.Members.{place_of}
use Rattle.rc_step_laws.specs.All.{log_in}
use Rattle.rc_step_laws.proofs.LogViews.{get-log}
use Rattle.rc_step_laws.proofs.Places.{places_to-are, place-logged}
use Rattle.rc_owner_laws.specs.Parts.{part_view, IsClients}
use Rattle.rc_owner_laws.specs.VersionClaims.{MayFree}
use Rattle.rc_owner_laws.proofs.OwnersOrdered.{one-chain}
use Rattle.rc_owner_laws.proofs.Kept.{was-granted}
use Rattle.rc_owner_laws.proofs.VersionsOrdered.{logs-rise}
use Rattle.rc_owner_laws.proofs.Rising.{Stands, stands, granted_of, covers-anyhow, GoesTo}
use Rattle.rc_owner_laws.proofs.Rising.{above-base, IsAcked, acked, IsOwned, owned, owner}
use Rattle.rc_promises.proofs.Standing.{goes-from}
use Rattle.rc_promises.proofs.Time.{IsLeft, left, still-granted}
use Rattle.rc_promises.specs.Confirmed.{HasSentFor}
use Rattle.rc_promises.proofs.Behind.{all_new, later-of, IsSentTo, behind, no-plan}
use Rattle.rc_promises.proofs.Stood.{Stood}

module _ (setup : Setup) (past rest : List Event) (m x : ServerId) (some : factor_of setup x.index ≢ 0) (one : Entry)
    (s : Stood setup past rest m one) where
  -- A client's place for which nothing had been sent

  module _ (place : LogPlace) (among : In place (places_of ((replay setup (past ++ rest)).masters x).log)) (client : place.client ≡ true)
      (unsent : HasSentFor (replay setup past).sent x place.seg place.offset → ⊥) (tables : place.entry.table ≡ one.table)
      (keys : place.entry.key ≡ one.key)
      (not_before : IsEarlier (replay setup (past ++ rest)).sent one.table one.key place.entry.term one.term → ⊥) where
    at : Stands place (places_of ((replay setup (past ++ rest)).masters x).log)
    at = stands place (places_of ((replay setup (past ++ rest)).masters x).log) among

    written : IsClients (part_view ((replay setup (past ++ rest)).masters x)) at.before place.entry
    written = ((all_new setup past rest).parts.each x).clients at.before at.after place at.whole client

    its : IsOwned (replay setup (past ++ rest)).sent (replay setup (past ++ rest)).masters (replay setup (past ++ rest)).hosts
        (replay setup (past ++ rest)).coordinator (all_new setup past rest) x written.grant.term place.entry.table place.entry.key
    its = search (arith, owned, all_new, written)

    its_term : its.grant.term ≡ place.entry.term
    its_term = its.term_is ∙ written.term_is

    its_holds : in_range its.grant.range one.table one.key ≡ true
    its_holds = subst (λ k. in_range its.grant.range one.table k ≡ true) keys
        (subst (λ t. in_range its.grant.range t place.entry.key ≡ true) tables its.holds)

    still : In s.owned.grant (replay setup (past ++ rest)).coordinator.grants
    still = still-granted setup past rest s.owned.grant s.owned.among

    holds_now : slice_get (log_in ((replay setup (past ++ rest)).masters m).log s.seg) s.offset ≡ Some one
    holds_now = get-log (replay setup (past ++ rest)).sent m ((replay setup past).masters m).log
        ((replay setup (past ++ rest)).masters m).log (later-of setup past rest).later s.seg s.offset one s.holds

    here : slice_get (log_in ((replay setup (past ++ rest)).masters x).log place.seg) place.offset ≡ Some place.entry
    here = search (arith, place-logged, place_of, places_to-are)

    under-one-term : s.owned.grant.term ≡ its.grant.term → one.version < place.entry.version
    under-one-term same =
        logs-rise (replay setup (past ++ rest)).sent (replay setup (past ++ rest)).masters (replay setup (past ++ rest)).hosts
        (replay setup (past ++ rest)).coordinator (all_new setup past rest) x place.seg place.offset s.seg s.offset
        place.entry one here (subst (λ (k : ServerId). slice_get (log_in ((replay setup (past ++ rest)).masters k).log s.seg) s.offset
        ≡ Some one) own holds_now) (behind setup past rest x some
        (subst (λ (k : ServerId). slice_get (log_in ((replay setup past).masters k).log s.seg) s.offset ≡ Some one) own s.holds)
        (subst (λ (k : ServerId). IsSentTo setup past rest k s.seg s.offset) own s.sent_to) here unsent)
        (record { term_one = sym s.owned.term_is ∙ same ∙ its_term; term_other = refl; table = sym tables; key = sym keys })
      where
        own : m ≡ x
        own = s.owned.owner_is
            ∙ ap (λ (g : Grant). g.owner) ((all_new setup past rest).terms.grant_once s.owned.grant its.grant still its.among same)
            ∙ sym its.owner_is

    under-later-term : IsEarlier (replay setup (past ++ rest)).sent one.table one.key one.term place.entry.term →
        one.version < place.entry.version
    under-later-term way =
        above-base (replay setup (past ++ rest)).sent (replay setup (past ++ rest)).masters (replay setup (past ++ rest)).hosts
        (replay setup (past ++ rest)).coordinator (all_new setup past rest) MayFree
        (covers-anyhow (replay setup (past ++ rest)).sent (replay setup (past ++ rest)).masters (replay setup (past ++ rest)).hosts
        (replay setup (past ++ rest)).coordinator (all_new setup past rest)) goes.starts at.before at.after place
        whole client (sym goes.term_is) tables keys
      where
        goes : GoesTo (replay setup (past ++ rest)).sent (replay setup (past ++ rest)).masters (replay setup (past ++ rest)).hosts
            (replay setup (past ++ rest)).coordinator (all_new setup past rest) MayFree
            (covers-anyhow (replay setup (past ++ rest)).sent (replay setup (past ++ rest)).masters (replay setup (past ++ rest)).hosts
            (replay setup (past ++ rest)).coordinator (all_new setup past rest)) place.entry.term one
        goes = goes-from (replay setup (past ++ rest)).sent (replay setup (past ++ rest)).masters (replay setup (past ++ rest)).hosts
            (replay setup (past ++ rest)).coordinator (all_new setup past rest)
            ((later-of setup past rest).safe s.seg s.offset s.safe) holds_now way

        own : x ≡ goes.grant.owner
        own = its.owner_is
            ∙ ap (λ (g : Grant). g.owner) ((all_new setup past rest).terms.grant_once its.grant goes.grant its.among goes.among
            (its_term ∙ sym goes.term_is))

        whole : places_of ((replay setup (past ++ rest)).masters goes.grant.owner).log ≡ at.before ++ place ∷ at.after
        whole = ap (λ (y : ServerId). places_of ((replay setup (past ++ rest)).masters y).log) (sym own) ∙ at.whole

    pub above : one.version < place.entry.version
    above = by (one-chain (replay setup (past ++ rest)).sent (replay setup (past ++ rest)).coordinator (all_new setup past rest).grants
        (all_new setup past rest).kept one.table one.key (granted_of s.owned.grant) (granted_of its.grant)
        (was-granted (replay setup (past ++ rest)).sent (replay setup (past ++ rest)).masters (replay setup (past ++ rest)).hosts
        (replay setup (past ++ rest)).coordinator (all_new setup past rest) s.owned.grant still) s.owned.holds
        (was-granted (replay setup (past ++ rest)).sent (replay setup (past ++ rest)).masters (replay setup (past ++ rest)).hosts
        (replay setup (past ++ rest)).coordinator (all_new setup past rest) its.grant its.among) its_holds)
      where
        by : (s.owned.grant.term ≡ its.grant.term)
            ⊎ (IsEarlier (replay setup (past ++ rest)).sent one.table one.key s.owned.grant.term its.grant.term
            ⊎ IsEarlier (replay setup (past ++ rest)).sent one.table one.key its.grant.term s.owned.grant.term) →
            one.version < place.entry.version
        by (inl same) = under-one-term same
        by (inr (inl way)) = search (arith, under-later-term, its_term)
        by (inr (inr way)) = absurd (not_before (subst (λ n. IsEarlier (replay setup (past ++ rest)).sent one.table one.key n one.term)
            its_term (subst (λ n. IsEarlier (replay setup (past ++ rest)).sent one.table one.key its.grant.term n) s.owned.term_is way)))

  -- So what is acknowledged

  module _ (later : Ack) (p : HasAcknowledged (replay setup (past ++ rest)).sent x later)
      (unsent : HasSentFor (replay setup past).sent x later.seg later.offset → ⊥) (tables : later.table ≡ one.table)
      (keys : later.key ≡ one.key) where
    is : IsAcked (replay setup (past ++ rest)).sent (replay setup (past ++ rest)).masters (replay setup (past ++ rest)).hosts
        (replay setup (past ++ rest)).coordinator (all_new setup past rest) x later
    is = acked (replay setup (past ++ rest)).sent (replay setup (past ++ rest)).masters (replay setup (past ++ rest)).hosts
        (replay setup (past ++ rest)).coordinator (all_new setup past rest) p

    own_later : IsOwned (replay setup (past ++ rest)).sent (replay setup (past ++ rest)).masters (replay setup (past ++ rest)).hosts
        (replay setup (past ++ rest)).coordinator (all_new setup past rest) x later.term later.table later.key
    own_later = owner (replay setup (past ++ rest)).sent (replay setup (past ++ rest)).masters (replay setup (past ++ rest)).hosts
        (replay setup (past ++ rest)).coordinator (all_new setup past rest) x later is

    -- its owner was not left by then
    stayed : IsEarlier (replay setup (past ++ rest)).sent one.table one.key later.term one.term → ⊥
    stayed way = no-plan setup past rest x some p unsent gone.accepted
        (gone.of_owner ∙ sym gone.granted.owner_is ∙ ap (λ (g : Grant). g.owner)
        ((all_new setup past rest).terms.grant_once gone.granted.grant own_later.grant
        (still-granted setup past rest gone.granted.grant gone.granted.among) own_later.among
        (gone.granted.term_is ∙ sym own_later.term_is)) ∙ sym own_later.owner_is)
      where
        gone : IsLeft setup past rest later.term one.table one.key
        gone = left setup past rest way
            (subst (λ n. 0 < n) own_later.term_is ((all_new setup past rest).terms.issued own_later.grant own_later.among).0)
            s.owned.grant s.owned.among s.owned.term_is s.owned.holds

    pub above-acked : one.version < later.version
    above-acked = subst (λ n. one.version < n) is.written.version_is
        (above is.written.place is.written.among is.written.client
        (λ sent. unsent (subst (λ o. HasSentFor (replay setup past).sent x later.seg o) is.written.offset_is
        (subst (λ n. HasSentFor (replay setup past).sent x n is.written.place.offset) is.written.seg_is sent)))
        (is.written.table_is ∙ tables) (is.written.key_is ∙ keys)
        (λ way. stayed (subst (λ n. IsEarlier (replay setup (past ++ rest)).sent one.table one.key n one.term) is.written.term_is way)))
