-- What had stood durably under a term of its owner, and that acknowledged writes and what reads show had.
use Rattle.std.proofs.Common.{◌≡◌, ◌≢◌, ℕ, zero, suc, ◌<◌, ◌≤◌, List, [], ◌∷◌, ◌++◌, take, Option, Some, slice_get, sym, ap, ◌∙◌, subst}
use Rattle.std.proofs.Common.{inl, inr, arith}
use Rattle.rc_model.specs.Model.{ServerId, Entry, Setup, Event, Ack, LogPlace, places_of, Found}
use Rattle.rc_model.specs.Model.{read_of, term_of, durable_entries, factor_of, World, step, replay_from, replay, HasAcknowledged, In}
use Rattle.rc_step_laws.specs.All.{log_in, IsSafe, IsWriteOk}
use Rattle.rc_step_laws.proofs.Lists.{get-begins}
use Rattle.rc_step_laws.proofs.Places.{places-later}
use Rattle.rc_step_laws.proofs.Replays.{GoodWorld, led-step, good-world}
use Rattle.rc_step_laws.proofs.Since.{since-more, replay_from-append}
use Rattle.rc_owner_laws.proofs.Rising.{IsOwned, acked, owner}
use Rattle.rc_owner_laws.proofs.Moments.{Counts, counts-on}
use Rattle.rc_owner_laws.proofs.WriteWorlds.{counted-is-durable, acknowledged-is-durable}
use Rattle.rc_promises.proofs.Found.{IsFound, read-is}
use Rattle.rc_promises.proofs.Once.{granted-to}
use Rattle.rc_promises.proofs.Reading.{IsPlaced, placed, In-take_map}
use Rattle.rc_promises.proofs.Reading as reading
use Rattle.rc_promises.proofs.Behind.{all_old, IsSentTo, durable-sent_to}
use Rattle.rc_promises.proofs.NoneLater.{owned-by}

-- Counts only rise

rises-from : {m : ServerId} (world : World) (events : List Event) → GoodWorld world →
    (world.masters m).log.durable ≤ ((replay_from world events).masters m).log.durable
rises-from world [] good = omega arith
rises-from {m} world (one ∷ events) good =
    let now : Counts (world.masters m).log ((step world one).masters m).log = counts-on world one good {m = m} in
    let rest : ((step world one).masters m).log.durable ≤ ((replay_from (step world one) events).masters m).log.durable =
    rises-from {m = m} (step world one) events (led-step world one good).good in
    omega (arith, now.rises, rest)

count-rises : (setup : Setup) (past more : List Event) (m : ServerId) →
    ((replay setup past).masters m).log.durable ≤ ((replay setup (past ++ more)).masters m).log.durable
count-rises setup past more m = search (arith, replay_from-append, rises-from, good-world)

In-taken : {X : Type 0} (n : ℕ) (xs : List X) (k : ℕ) (x : X) → k < n → slice_get xs k ≡ Some x → In x (take n xs)
In-taken zero xs k x less e = absurd (omega arith)
In-taken (suc n) [] k x less e = cc
In-taken (suc n) (y ∷ xs) zero x less e = (let same : y ≡ x = cc in inl (sym same))
In-taken (suc n) (y ∷ xs) (suc k) x less e = inr (In-taken n xs k x (omega arith) e)

-- Entries that stood

-- an entry at a durable place under a term that was granted to the master for its point
pub record Stood (setup : Setup) (past rest : List Event) (m : ServerId) (one : Entry) : Type 0 where
  pub seg : ℕ
  pub offset : ℕ
  pub safe : IsSafe (replay setup past).sent m ((replay setup past).masters m).log seg offset
  pub holds : slice_get (log_in ((replay setup past).masters m).log seg) offset ≡ Some one
  pub sent_to : IsSentTo setup past rest m seg offset
  pub owned : IsOwned (replay setup past).sent (replay setup past).masters (replay setup past).hosts (replay setup past).coordinator
      (all_old setup past rest) m one.term one.table one.key

module _ (setup : Setup) (past rest : List Event) (m : ServerId) (some : factor_of setup m.index ≢ 0) where
  abbrev Owned : ℕ → ℕ → ℕ → Type 0
  Owned term table key = IsOwned (replay setup past).sent (replay setup past).masters (replay setup past).hosts
      (replay setup past).coordinator (all_old setup past rest) m term table key

  -- as what is acknowledged
  pub acked-stood : {ack : Ack} → (p : HasAcknowledged (replay setup past).sent m ack) →
      (one : Entry) × Stood setup past rest m one × (one.table ≡ ack.table) × (one.key ≡ ack.key) × (one.version ≡ ack.version)
  acked-stood {ack} p = (
    w.entry,
    record {
      seg = ack.seg;
      offset = ack.offset;
      safe = w.safe;
      holds = w.holds;
      sent_to = durable-sent_to setup past rest (acknowledged-is-durable setup past m ack some p);
      owned = subst (λ k. Owned w.entry.term w.entry.table k) (sym w.key_is)
          (subst (λ t. Owned w.entry.term t ack.key) (sym w.table_is) (subst (λ n. Owned n ack.table ack.key) (sym w.term_is)
          (owner (replay setup past).sent (replay setup past).masters (replay setup past).hosts (replay setup past).coordinator
          (all_old setup past rest) m ack (acked (replay setup past).sent (replay setup past).masters (replay setup past).hosts
          (replay setup past).coordinator (all_old setup past rest) p))));
    },
    w.table_is,
    w.key_is,
    w.version_is,
  )
    where
      w : IsWriteOk (replay setup past).sent m ((replay setup past).masters m).log ack.seg ack.offset ack.term ack.table ack.key ack.version
      w = (acked (replay setup past).sent (replay setup past).masters (replay setup past).hosts (replay setup past).coordinator
          (all_old setup past rest) p).write

  -- A read at that moment
  module _ (term table key version : ℕ) (value : Option (List ℕ))
      (owns : term_of ((replay setup past).masters m).ownership table key ≡ Some term)
      (found : ◌≡◌ {A = Found} (read_of term table key (durable_entries ((replay setup past).masters m)))
      (record { version = version; value = value })) where
    pub reader-owned : IsOwned (replay setup past).sent (replay setup past).masters (replay setup past).hosts
        (replay setup past).coordinator (all_old setup past rest) m term table key
    reader-owned = owned-by setup past rest (granted-to (replay setup past).sent (replay setup past).masters
        (replay setup past).hosts (replay setup past).coordinator (reading.all_old setup past rest)
        (reading.own setup past rest m term table key version value owns found))

    -- what it shows had stood, and had been counted
    pub record IsShowing : Type 0 where
      pub entry : Entry
      pub stood : Stood setup past rest m entry
      pub term_is : entry.term ≡ term
      pub table_is : entry.table ≡ table
      pub key_is : entry.key ≡ key
      pub version_is : entry.version ≡ version
      pub value_is : entry.value ≡ value
      pub among : (more : List Event) → In entry (durable_entries ((replay setup (past ++ more)).masters m))

    -- an entry that it finds had stood
    pub found-stood : IsFound term table key (durable_entries ((replay setup past).masters m))
        (read_of term table key (durable_entries ((replay setup past).masters m))) → IsShowing
    found-stood is = record {
      entry = is.entry;
      stood = record {
        seg = at.place.seg;
        offset = at.place.offset;
        safe = ((all_old setup past rest).good.masters_are m).counted at.index at.place at.below at.at;
        holds = at.holds;
        sent_to = durable-sent_to setup past rest
            (counted-is-durable setup past m at.index at.place some at.below at.at);
        owned = subst (λ k. Owned is.entry.term is.entry.table k) (sym is.key_is)
            (subst (λ t. Owned is.entry.term t key) (sym is.table_is) (subst (λ n. Owned n table key) (sym is.term_is) reader-owned));
      };
      term_is = is.term_is;
      table_is = is.table_is;
      key_is = is.key_is;
      version_is = sym is.version_is ∙ ap (λ (one : Found). one.version) found;
      value_is = sym is.value_is ∙ ap (λ (one : Found). one.value) found;
      among = λ more. still more;
    }
      where
        at : IsPlaced ((replay setup past).masters m).log is.entry
        at = placed ((replay setup past).masters m) is.entry is.among

        still : (more : List Event) → In is.entry (durable_entries ((replay setup (past ++ more)).masters m))
        still more = subst (λ (one : Entry). In one (durable_entries ((replay setup (past ++ more)).masters m))) at.entry_is
            (In-take_map (λ (one : LogPlace). one.entry) ((replay setup (past ++ more)).masters m).log.durable
            (places_of ((replay setup (past ++ more)).masters m).log) at.place
            (In-taken ((replay setup (past ++ more)).masters m).log.durable (places_of ((replay setup (past ++ more)).masters m).log)
            at.index at.place (omega (arith, at.below, count-rises setup past more m))
            (get-begins (places_of ((replay setup past).masters m).log)
            (places-later (since-more setup past more).later) at.index at.at)))

    -- and what it shows above version 0
    pub shown-stood : (version ≡ 0 → ⊥) → IsShowing
    shown-stood above = found-stood (read-is term table key
        (λ e. above (sym (ap (λ (one : Found). one.version) found) ∙ e)))
