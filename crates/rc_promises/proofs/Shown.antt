-- Of two reads of a key the one that is answered later shows no smaller version, and of one version they show one value.
use Rattle.std.proofs.Common.{◌≡◌, ◌⊎◌, ◌≢◌, ℕ, zero, suc, ◌<◌, ◌≤◌, true, List}
use Rattle.std.proofs.Common.{◌++◌, Option, Some, slice_get, refl, sym, ap, ◌∙◌, subst, inl, inr}
use Rattle.std.proofs.Common.{arith}
use Rattle.rc_model.specs.Model.{ServerId, Entry, Setup, Event, Grant, Ack, IsEarlier, Found, read_of, in_range, term_of, durable_entries}
use Rattle.rc_model.specs.Model.{factor_of, World, replay, HasAcknowledged, In}
use Rattle.rc_step_laws.specs.All.{log_in, IsSafe}
use Rattle.rc_step_laws.proofs.LogViews.{get-log}
use Rattle.rc_owner_laws.specs.Worlds.{AllHold}
use Rattle.rc_owner_laws.specs.VersionClaims.{MayFree}
use Rattle.rc_owner_laws.proofs.OwnersOrdered.{one-chain}
use Rattle.rc_owner_laws.proofs.Kept.{was-granted}
use Rattle.rc_owner_laws.proofs.VersionReplays.{all-world}
use Rattle.rc_owner_laws.proofs.Rising.{granted_of, IsOwned}
use Rattle.rc_promises.proofs.Reading.{earlier-still, not-above, IsKeptThen, kept-then, IsPlaced, placed}
use Rattle.rc_promises.proofs.Standing.{one-a-version}
use Rattle.rc_promises.proofs.Time.{still-granted}
use Rattle.rc_promises.specs.Confirmed.{HasSentFor}
use Rattle.rc_promises.proofs.Behind.{all_old, later-of}
use Rattle.rc_promises.proofs.NoneLater.{none-later}
use Rattle.rc_promises.proofs.Stood.{IsShowing, shown-stood, reader-owned}

-- what a master finds after these events
pub record Finds (setup : Setup) (past : List Event) (m : ServerId) (table key version : ℕ) (value : Option (List ℕ)) : Type 0 where
  pub term : ℕ
  pub owns : term_of ((replay setup past).masters m).ownership table key ≡ Some term
  pub found : ◌≡◌ {A = Found} (read_of term table key (durable_entries ((replay setup past).masters m)))
      (record { version = version; value = value })

pub zero-or-more : (n : ℕ) → (n ≡ 0) ⊎ (n ≡ 0 → ⊥)
zero-or-more zero = inl refl
zero-or-more (suc n) = inr (λ e. omega (arith, e))

-- The later one, which is confirmed, shows no smaller version

module _ (setup : Setup) (past gap rest : List Event) (m x : ServerId) (table key : ℕ) (some_m : factor_of setup m.index ≢ 0)
    (some_x : factor_of setup x.index ≢ 0) (low high : ℕ) (value other : Option (List ℕ)) (one : Finds setup past m table key low value)
    (two : Finds setup (past ++ gap) x table key high other) (ack : Ack)
    (p : HasAcknowledged (replay setup ((past ++ gap) ++ rest)).sent x ack)
    (unsent : HasSentFor (replay setup (past ++ gap)).sent x ack.seg ack.offset → ⊥) where
  abbrev then : World
  then = replay setup (past ++ gap)

  abbrev now : World
  now = replay setup ((past ++ gap) ++ rest)

  own_two : IsOwned then.sent then.masters then.hosts then.coordinator (all_old setup (past ++ gap) rest) x two.term table key
  own_two = reader-owned setup (past ++ gap) rest x some_x two.term table key high other two.owns two.found

  module _ (above : low ≡ 0 → ⊥) where
    shown : IsShowing setup past gap m some_m one.term table key low value one.owns one.found
    shown = shown-stood setup past gap m some_m one.term table key low value one.owns one.found above

    grant : Grant
    grant = shown.stood.owned.grant

    still : In shown.stood.owned.grant then.coordinator.grants
    still = still-granted setup past gap shown.stood.owned.grant shown.stood.owned.among

    term_is : shown.stood.owned.grant.term ≡ one.term
    term_is = shown.stood.owned.term_is ∙ shown.term_is

    holds : in_range shown.stood.owned.grant.range table key ≡ true
    holds = subst (λ k. in_range shown.stood.owned.grant.range table k ≡ true) shown.key_is
        (subst (λ t. in_range shown.stood.owned.grant.range t shown.entry.key ≡ true) shown.table_is shown.stood.owned.holds)

    upto : (entry : Entry) → In entry (durable_entries (then.masters x)) → entry.term ≡ two.term → entry.table ≡ table → entry.key ≡ key →
        entry.version ≤ high
    upto = not-above setup (past ++ gap) rest x two.term table key high other two.owns two.found

    under-one-term : shown.stood.owned.grant.term ≡ own_two.grant.term → low ≤ high
    under-one-term same = subst (λ n. n ≤ high) shown.version_is
        (upto shown.entry (subst (λ (k : ServerId). In shown.entry (durable_entries (then.masters k))) own (shown.among gap))
        (shown.term_is ∙ sym term_is ∙ same ∙ own_two.term_is) shown.table_is shown.key_is)
      where
        own : m ≡ x
        own = shown.stood.owned.owner_is ∙ ap (λ (g : Grant). g.owner)
            ((all_old setup (past ++ gap) rest).terms.grant_once shown.stood.owned.grant own_two.grant still own_two.among same)
            ∙ sym own_two.owner_is

    under-later-term : IsEarlier then.sent table key one.term two.term → low ≤ high
    under-later-term way = by k.keeps.kept
      where
        k : IsKeptThen setup (past ++ gap) rest x two.term table key high other two.owns two.found shown.entry
        k = kept-then setup (past ++ gap) rest x two.term table key high other two.owns two.found
            ((later-of setup (past ++ gap) rest).safe shown.stood.seg shown.stood.offset
            ((later-of setup past gap).safe shown.stood.seg shown.stood.offset shown.stood.safe))
            (get-log now.sent m (then.masters m).log (now.masters m).log (later-of setup (past ++ gap) rest).later
            shown.stood.seg shown.stood.offset shown.entry
            (get-log then.sent m ((replay setup past).masters m).log (then.masters m).log (later-of setup past gap).later
            shown.stood.seg shown.stood.offset shown.entry shown.stood.holds))
            shown.table_is shown.key_is (earlier-still setup (past ++ gap) rest table key
            (subst (λ n. IsEarlier then.sent table key n two.term) (sym shown.term_is) way))

        enough : k.entry.version ≤ high
        enough = upto k.entry k.among k.term_is (k.keeps.table_is ∙ shown.table_is) (k.keeps.key_is ∙ shown.key_is)

        by : ((k.entry.version ≡ shown.entry.version) × (k.entry.value ≡ shown.entry.value))
            ⊎ (MayFree × (shown.entry.version < k.entry.version)) → low ≤ high
        by (inl same) = (let e = same.0 in omega (arith, e, enough, shown.version_is))
        by (inr (_, less)) = omega (arith, less, enough, shown.version_is)

    no-earlier-term : IsEarlier then.sent table key two.term shown.stood.owned.grant.term → ⊥
    no-earlier-term = none-later setup (past ++ gap) rest x some_x ack p unsent two.term table key own_two
        (granted_of shown.stood.owned.grant)
        (was-granted then.sent then.masters then.hosts then.coordinator (all_old setup (past ++ gap) rest) shown.stood.owned.grant still)
        holds

    rises : low ≤ high
    rises = by (one-chain then.sent then.coordinator (all_old setup (past ++ gap) rest).grants (all_old setup (past ++ gap) rest).kept
        table key (granted_of shown.stood.owned.grant) (granted_of own_two.grant)
        (was-granted then.sent then.masters then.hosts then.coordinator (all_old setup (past ++ gap) rest) shown.stood.owned.grant still)
        holds
        (was-granted then.sent then.masters then.hosts then.coordinator (all_old setup (past ++ gap) rest) own_two.grant own_two.among)
        own_two.holds)
      where
        by : (shown.stood.owned.grant.term ≡ own_two.grant.term)
            ⊎ (IsEarlier then.sent table key shown.stood.owned.grant.term own_two.grant.term
            ⊎ IsEarlier then.sent table key own_two.grant.term shown.stood.owned.grant.term) → low ≤ high
        by (inl same) = under-one-term same
        by (inr (inl way)) = under-later-term (subst (λ n. IsEarlier then.sent table key n two.term) term_is
            (subst (λ n. IsEarlier then.sent table key shown.stood.owned.grant.term n) own_two.term_is way))
        by (inr (inr way)) = absurd (no-earlier-term
            (subst (λ n. IsEarlier then.sent table key n shown.stood.owned.grant.term) own_two.term_is way))

  pub reads-rise : low ≤ high
  reads-rise = search (arith, zero-or-more, rises)

-- Of one version they show one value

module _ (setup : Setup) (past rest early since : List Event) (whole : early ++ since ≡ past ++ rest) (m x : ServerId)
    (table key version : ℕ) (some_m : factor_of setup m.index ≢ 0) (some_x : factor_of setup x.index ≢ 0)
    (value other : Option (List ℕ)) (one : Finds setup early m table key version value) (two : Finds setup past x table key version other)
    (above : version ≡ 0 → ⊥) where
  abbrev world : World
  world = replay setup (past ++ rest)

  all : AllHold world.sent world.masters world.hosts world.coordinator
  all = all-world setup (past ++ rest)

  first : IsShowing setup early since m some_m one.term table key version value one.owns one.found
  first = shown-stood setup early since m some_m one.term table key version value one.owns one.found above

  second : IsShowing setup past rest x some_x two.term table key version other two.owns two.found
  second = shown-stood setup past rest x some_x two.term table key version other two.owns two.found above

  first_safe : IsSafe world.sent m (world.masters m).log first.stood.seg first.stood.offset
  first_safe = subst (λ (l : List Event). IsSafe (replay setup l).sent m ((replay setup l).masters m).log first.stood.seg
      first.stood.offset) whole ((later-of setup early since).safe first.stood.seg first.stood.offset first.stood.safe)

  first_holds : slice_get (log_in (world.masters m).log first.stood.seg) first.stood.offset ≡ Some first.entry
  first_holds = subst (λ (l : List Event). slice_get (log_in ((replay setup l).masters m).log first.stood.seg) first.stood.offset
      ≡ Some first.entry) whole
      (get-log (replay setup (early ++ since)).sent m ((replay setup early).masters m).log ((replay setup (early ++ since)).masters m).log
      (later-of setup early since).later first.stood.seg first.stood.offset first.entry first.stood.holds)

  second_holds : (seg offset : ℕ) {entry : Entry} → slice_get (log_in ((replay setup past).masters x).log seg) offset ≡ Some entry →
      slice_get (log_in (world.masters x).log seg) offset ≡ Some entry
  second_holds seg offset {entry} = get-log world.sent x ((replay setup past).masters x).log (world.masters x).log
      (later-of setup past rest).later seg offset entry

  first_granted : In first.stood.owned.grant world.coordinator.grants
  first_granted = subst (λ (l : List Event). In first.stood.owned.grant (replay setup l).coordinator.grants) whole
      (still-granted setup early since first.stood.owned.grant first.stood.owned.among)

  second_granted : In second.stood.owned.grant world.coordinator.grants
  second_granted = still-granted setup past rest second.stood.owned.grant second.stood.owned.among

  -- where the first one's term is the earlier one
  pub alike-over : IsEarlier world.sent table key one.term two.term → value ≡ other
  alike-over way = by k.keeps.kept
    where
      k : IsKeptThen setup past rest x two.term table key version other two.owns two.found first.entry
      k = kept-then setup past rest x two.term table key version other two.owns two.found first_safe first_holds first.table_is first.key_is
          (subst (λ n. IsEarlier world.sent table key n two.term) (sym first.term_is) way)

      enough : k.entry.version ≤ version
      enough = not-above setup past rest x two.term table key version other two.owns two.found k.entry k.among k.term_is
          (k.keeps.table_is ∙ first.table_is) (k.keeps.key_is ∙ first.key_is)

      at : IsPlaced ((replay setup past).masters x).log k.entry
      at = placed ((replay setup past).masters x) k.entry k.among

      by : ((k.entry.version ≡ first.entry.version) × (k.entry.value ≡ first.entry.value))
          ⊎ (MayFree × (first.entry.version < k.entry.version)) → value ≡ other
      by (inr (_, less)) = absurd (omega (arith, less, enough, first.version_is))
      by (inl same) =
          let is : k.entry ≡ second.entry = one-a-version world.sent world.masters world.hosts world.coordinator all x
          at.place.seg at.place.offset second.stood.seg second.stood.offset
          (second_holds at.place.seg at.place.offset at.holds)
          (second_holds second.stood.seg second.stood.offset second.stood.holds)
          (k.term_is ∙ sym second.term_is) (k.keeps.table_is ∙ first.table_is ∙ sym second.table_is)
          (k.keeps.key_is ∙ first.key_is ∙ sym second.key_is) (same.0 ∙ first.version_is ∙ sym second.version_is) in
          sym first.value_is ∙ sym same.1 ∙ ap (λ (entry : Entry). entry.value) is ∙ second.value_is

  alike-under-one : first.stood.owned.grant.term ≡ second.stood.owned.grant.term → value ≡ other
  alike-under-one same =
      let own : m ≡ x = first.stood.owned.owner_is ∙ ap (λ (g : Grant). g.owner)
      (all.terms.grant_once first.stood.owned.grant second.stood.owned.grant first_granted second_granted same)
      ∙ sym second.stood.owned.owner_is in
      let is : first.entry ≡ second.entry = one-a-version world.sent world.masters world.hosts world.coordinator all x
      first.stood.seg first.stood.offset second.stood.seg second.stood.offset
      (subst (λ (k : ServerId). slice_get (log_in (world.masters k).log first.stood.seg) first.stood.offset ≡ Some first.entry) own
      first_holds) (second_holds second.stood.seg second.stood.offset second.stood.holds)
      (sym first.stood.owned.term_is ∙ same ∙ second.stood.owned.term_is) (first.table_is ∙ sym second.table_is)
      (first.key_is ∙ sym second.key_is) (first.version_is ∙ sym second.version_is) in
      sym first.value_is ∙ ap (λ (entry : Entry). entry.value) is ∙ second.value_is

  pub alike-or : (IsEarlier world.sent table key two.term one.term → value ≡ other) → value ≡ other
  alike-or later = by (one-chain world.sent world.coordinator all.grants all.kept table key (granted_of first.stood.owned.grant)
      (granted_of second.stood.owned.grant)
      (was-granted world.sent world.masters world.hosts world.coordinator all first.stood.owned.grant first_granted) first_has
      (was-granted world.sent world.masters world.hosts world.coordinator all second.stood.owned.grant second_granted) second_has)
    where
      first_has : in_range first.stood.owned.grant.range table key ≡ true
      first_has = subst (λ k. in_range first.stood.owned.grant.range table k ≡ true) first.key_is
          (subst (λ t. in_range first.stood.owned.grant.range t first.entry.key ≡ true) first.table_is first.stood.owned.holds)

      second_has : in_range second.stood.owned.grant.range table key ≡ true
      second_has = subst (λ k. in_range second.stood.owned.grant.range table k ≡ true) second.key_is
          (subst (λ t. in_range second.stood.owned.grant.range t second.entry.key ≡ true) second.table_is second.stood.owned.holds)

      by : (first.stood.owned.grant.term ≡ second.stood.owned.grant.term)
          ⊎ (IsEarlier world.sent table key first.stood.owned.grant.term second.stood.owned.grant.term
          ⊎ IsEarlier world.sent table key second.stood.owned.grant.term first.stood.owned.grant.term) → value ≡ other
      by (inl same) = alike-under-one same
      by (inr (inl way)) = alike-over (subst (λ n. IsEarlier world.sent table key n two.term) (first.stood.owned.term_is ∙ first.term_is)
          (subst (λ n. IsEarlier world.sent table key first.stood.owned.grant.term n) (second.stood.owned.term_is ∙ second.term_is) way))
      by (inr (inr way)) = later (subst (λ n. IsEarlier world.sent table key n one.term) (second.stood.owned.term_is ∙ second.term_is)
          (subst (λ n. IsEarlier world.sent table key second.stood.owned.grant.term n) (first.stood.owned.term_is ∙ first.term_is) way))

pub reads-alike : {setup : Setup} {past : List Event} (rest : List Event) {early : List Event} (since : List Event)
    → early ++ since ≡ past ++ rest → {m x : ServerId} →
    {table key version : ℕ} → factor_of setup m.index ≢ 0 → factor_of setup x.index ≢ 0 → {value other : Option (List ℕ)} →
    Finds setup early m table key version value → Finds setup past x table key version other → (version ≡ 0 → ⊥) → value ≡ other
reads-alike {setup} {past} rest {early} since whole {m} {x} {table} {key} {version} some_m some_x {value} {other} one two above =
    alike-or setup past rest early since whole m x table key version some_m some_x value other one two above
    (λ way. sym (alike-over setup early since past rest (sym whole) x m table key version some_x some_m other value two one
    above (subst (λ (l : List Event). IsEarlier (replay setup l).sent table key two.term one.term) (sym whole) way)))
