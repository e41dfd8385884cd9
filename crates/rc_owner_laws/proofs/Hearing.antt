-- What a master has noted of a member was told: a Stored of that segment, under that epoch.
use Rattle.std.proofs.Common.{arith}
use Rattle.std.proofs.Common.{◌≡◌, ◌⊎◌, ℕ, ◌+◌, Bool, true, false, cond, nat_eq, nat_lt, not, List, [], ◌∷◌, ◌++◌, map, Option}
use Rattle.std.proofs.Common.{Some, None, is_some, Result, Ok, Err, refl, sym, ap, ◌∙◌, subst, inl, inr}
use Rattle.std.proofs.lemmas.Bool.{and_parts, eqb-true}
use Rattle.rc_model.specs.Model.{ServerId, Addr, Server, Setup, Event, Fault, Message, Body, Stored}
use Rattle.rc_model.specs.Model.{Member, between, ServerList, has_crashed, Config, new_member, new_config, is_heard, told_if_heard}
use Rattle.rc_model.specs.Model.{told_with, noted}
use Rattle.rc_model.specs.Model.{committed_at, is_placed, all_placed, lost_if_crashed, with_lost, substitutes_for, replaced}
use Rattle.rc_model.specs.Model.{changes_to, lose, refills_with, refill, Segment, new_segment, under_new_epoch}
use Rattle.rc_model.specs.Model.{Log, with_segment, has_segment, opens_head, with_config}
use Rattle.rc_model.specs.Model.{opens_change, refills, loses, with_freed, Master, master_takes}
use Rattle.rc_model.specs.Model.{master_ticks, In, same_id}
use Rattle.rc_model.proofs.Tests.{either, true_false}
use Rattle.rc_model.proofs.Tables.{put_each}
use Rattle.rc_model.proofs.Ids.{same_id-true}
use Rattle.rc_model.proofs.Members.{In-left, In-map}
use Rattle.rc_model.proofs.Walk.{OfLog, LogJoined, LogListed, LogWritten, LogFollowed, of_log-joined, of_log-listed, of_log-taken}
use Rattle.rc_model.proofs.Walk.{of_log-ticked, of_log-followed, kept-takes, kept-ticks}
use Rattle.rc_step_laws.specs.Words.{IsMember}
use Rattle.rc_step_laws.specs.Facts.{IsPlace}
use Rattle.rc_step_laws.proofs.Tests.{all-each}
use Rattle.rc_step_laws.specs.WordClaims.{sent_after, log_of}
use Rattle.rc_step_laws.proofs.Replays.{good-world}
use Rattle.rc_step_laws.proofs.EachMaster.{IsKeptByAll, kept-replay}
use Rattle.rc_owner_laws.specs.CommitClaims.{HasToldOf}

-- One segment's members: what holds of each id that has told under the epoch

module _ (P : ServerId → ℕ → Type 0) where
  abbrev Heard : Config → Type 0
  Heard config = (member : Member) → In member config.members → is_some member.told ≡ true → P member.id config.epoch

  heard-lost : (servers : ServerList) (config : Config) → Heard config → Heard (with_lost servers config)
  heard-lost servers config heard member at told = by (In-map (lost_if_crashed servers) member config.members at)
    where
      same : (one : Member) → ((lost_if_crashed servers one).id ≡ one.id) × ((lost_if_crashed servers one).told ≡ one.told)
      same one = either (λ (now : Member). (now.id ≡ one.id) × (now.told ≡ one.told)) (has_crashed servers one.id)
          (record one { lost = true }) one (λ _. (refl, refl)) (λ _. (refl, refl))

      by : (was : Member) × (In was config.members) × (member ≡ lost_if_crashed servers was) → P member.id config.epoch
      by (was, there, is) = search (arith, same, is_some)

  -- who is new has told nothing
  heard-fresh : (members : List Member) (member : Member) → In member (map (λ (one : Member). new_member one.id) members) →
      is_some member.told ≡ false
  heard-fresh members member at = let found = In-map (λ (one : Member). new_member one.id) member members at in
      ap (λ (one : Member). is_some one.told) found.2

  heard-changes : (config : Config) (ids : Option (List ServerId)) → Heard config → Heard (changes_to config ids).0
  heard-changes config None heard = heard
  heard-changes config (Some ids) heard = search (arith, nat_lt, heard-fresh)

  heard-lose : (own : ServerId) (servers : ServerList) (config : Config) → Heard config → Heard (lose own servers config).0
  heard-lose own servers config heard = search (arith, heard-changes, heard-lost)

  -- a replaced one too
  old-replaced : (members : List Member) (ids : List ServerId) (member : Member) → In member (replaced members ids) →
      is_some member.told ≡ true → In member members
  old-replaced [] ids member at told = absurd at
  old-replaced (first ∷ members) [] member at told = at
  old-replaced (first ∷ members) (id ∷ ids) member at told =
      either (λ (now : List Member). In member now → (member ≡ first) ⊎ In member members) first.lost
      (new_member id ∷ replaced members ids) (first ∷ replaced members (id ∷ ids))
      (λ _ there. fresh (λ rest. old-replaced members ids member rest told) there)
      (λ _ there. kept (λ rest. old-replaced members (id ∷ ids) member rest told) there) at
    where
      fresh : (In member (replaced members ids) → In member members) → (member ≡ new_member id) ⊎ In member (replaced members ids) →
          (member ≡ first) ⊎ In member members
      fresh rec (inl is) = true_false (sym told ∙ ap (λ (one : Member). is_some one.told) is)
      fresh rec (inr rest) = inr (rec rest)

      kept : (In member (replaced members (id ∷ ids)) → In member members) →
          (member ≡ first) ⊎ In member (replaced members (id ∷ ids)) → (member ≡ first) ⊎ In member members
      kept rec (inl is) = inl is
      kept rec (inr rest) = inr (rec rest)

  heard-refills : (config : Config) (ids : Option (List ServerId)) → Heard config → Heard (refills_with config ids).0
  heard-refills config None heard = heard
  heard-refills config (Some ids) heard = λ member at told. heard member (old-replaced config.members ids member at told) told

  heard-refill : (own : ServerId) (servers : ServerList) (config : Config) → Heard config → Heard (refill own servers config).0
  heard-refill own servers config heard =
      heard-refills (with_lost servers config) (substitutes_for own servers (with_lost servers config)) (heard-lost servers config heard)

  -- a Stored is noted
  heard-noted : {from : ServerId} {epoch : ℕ} (len : ℕ) (closed : Bool) (config : Config) → P from epoch → Heard config →
      Heard (noted from epoch len closed config)
  heard-noted {from} {epoch} len closed config said heard =
      either Heard (nat_eq epoch config.epoch) (record config { members = map (told_if_heard from len closed) config.members }) config
      (λ same member at told. by (eqb-true epoch config.epoch same) member told
      (In-map (told_if_heard from len closed) member config.members at)) (λ _. heard)
    where
      one : epoch ≡ config.epoch → (was : Member) → In was config.members → is_some (told_if_heard from len closed was).told ≡ true →
          P (told_if_heard from len closed was).id config.epoch
      one same was there =
          either (λ (now : Member). is_some now.told ≡ true → P now.id config.epoch) (is_heard from was)
          (record was { told = Some (told_with was.told len closed) }) was
          (λ is _. subst (λ (id : ServerId). P id config.epoch)
          (same_id-true (and_parts (same_id from was.id) (not was.lost) is).0) (subst (P from) same said))
          (λ _ told. heard was there told)

      by : epoch ≡ config.epoch → (member : Member) → is_some member.told ≡ true →
          (was : Member) × (In was config.members) × (member ≡ told_if_heard from len closed was) → P member.id config.epoch
      by same member told (was, there, is) =
          subst (λ (id : ServerId). P id config.epoch) (sym (ap (λ (one : Member). one.id) is))
          (one same was there (sym (ap (λ (one : Member). is_some one.told) is) ∙ told))

  heard-committed : (epoch : ℕ) (config : Config) → Heard config → Heard (committed_at epoch config)
  heard-committed epoch config heard =
      either Heard (nat_eq epoch config.epoch) (record config { committed = true }) config (λ _. heard) (λ _. heard)

  heard-new : (seg : ℕ) (ids : List ServerId) → Heard (new_config seg ids)
  heard-new seg ids member at told =
      let found = In-map new_member member ids at in
      true_false (sym told ∙ ap (λ (one : Member). is_some one.told) found.2)

-- A log

module _ (Q : ℕ → ServerId → ℕ → Type 0) where
  abbrev HeardAll : Log → Type 0
  HeardAll log = (s : ℕ) → Heard (Q s) (log.segments s).config

  abbrev Keeps : Log → Log → Type 0
  Keeps old new = HeardAll old → HeardAll new

  keeps-put : (log : Log) {seg : ℕ} (segment : Segment) → (Heard (Q seg) (log.segments seg).config → Heard (Q seg) segment.config) →
      Keeps log (with_segment seg segment log)
  keeps-put log {seg} segment keeps heard =
      put_each (λ k (one : Segment). Heard (Q k) one.config) log.segments seg segment (keeps (heard seg)) heard

  keeps-joined : LogJoined Keeps
  keeps-joined = record { still = λ log heard. heard; both = λ one two three p q heard. q (p heard) }

  keeps-change : {seg : ℕ} (log : Log) (answer : Config × Result Bool Fault) →
      (Heard (Q seg) (log.segments seg).config → Heard (Q seg) answer.0) → Keeps log (opens_change seg log answer).0
  keeps-change {seg} log (config, Ok true) keeps = keeps-put log (under_new_epoch config (log.segments seg)) keeps
  keeps-change {seg} log (config, Ok false) keeps = keeps-put log (record (log.segments seg) { config = config }) keeps
  keeps-change {seg} log (config, Err fault) keeps = keeps-put log (record (log.segments seg) { config = config }) keeps

  keeps-refills : {seg : ℕ} (log : Log) (answer : Config × Result (List ServerId) Fault) →
      (Heard (Q seg) (log.segments seg).config → Heard (Q seg) answer.0) → Keeps log (refills seg log answer).0
  keeps-refills {seg} log (config, answer) keeps = keeps-put log (record (log.segments seg) { config = config }) keeps

  keeps-loses : (servers : ServerList) (seg : ℕ) (log : Log) → Keeps log (loses servers seg log).0
  keeps-loses servers seg log =
      either (λ (after : Log × Result (List ServerId) Fault). Keeps log after.0) (log.segments seg).shut
      (refills seg log (refill log.own servers (log.segments seg).config))
      (opens_change seg log (lose log.own servers (log.segments seg).config))
      (λ _. keeps-refills log (refill log.own servers (log.segments seg).config)
      (heard-refill (Q seg) log.own servers (log.segments seg).config))
      (λ _. keeps-change log (lose log.own servers (log.segments seg).config)
      (heard-lose (Q seg) log.own servers (log.segments seg).config))

  keeps-opens : (log : Log) (digest : List ℕ) (ids : List ServerId) → Keeps log (opens_head log digest ids)
  keeps-opens log digest ids heard =
      put_each (λ k (one : Segment). Heard (Q k) one.config) log.segments (log.head + 1) (new_segment (log.head + 1) digest ids)
      (heard-new (Q (log.head + 1)) (log.head + 1) ids) heard

  keeps-if : (log : Log) (b : Bool) {seg : ℕ} (config : Config) →
      (Heard (Q seg) (log.segments seg).config → Heard (Q seg) config) → Keeps log (cond b (with_config seg config log) log)
  keeps-if log b {seg} config keeps = either (Keeps log) b (with_config seg config log) log
      (λ _. keeps-put log (record (log.segments seg) { config = config }) keeps) (λ _ heard. heard)

  keeps-freed : (segs : List ℕ) (log : Log) → Keeps log (with_freed segs log)
  keeps-freed [] log heard = heard
  keeps-freed (seg ∷ segs) log heard =
      keeps-freed segs (with_segment seg (record (log.segments seg) { freed = true }) log)
      (keeps-put log (record (log.segments seg) { freed = true }) (λ h. h) heard)

  keeps-listed : LogListed Keeps
  keeps-listed = record { replaces = keeps-loses; opens = λ servers log ids none chosen. keeps-opens log (1 ∷ []) ids }

  keeps-written : LogWritten Keeps
  keeps-written = search (arith, keeps-opens, keeps-put)

  keeps-followed : LogFollowed Keeps
  keeps-followed = search (arith, keeps-put, keeps-freed)

  takes-heard : (master : Master) {from : Addr} {body : Body} →
      ((teller : ServerId) (seg epoch len : ℕ) (closed : Bool) → from ≡ Server teller → body ≡ Stored seg epoch len closed →
      Q seg teller epoch) → HeardAll master.log → HeardAll (master_takes master from body).0.log
  takes-heard master {from} {body} said =
      kept-takes (OfLog Keeps) (of_log-joined Keeps keeps-joined) (of_log-listed Keeps keeps-joined keeps-listed)
      (of_log-followed Keeps keeps-joined keeps-written keeps-followed) (of_log-taken Keeps keeps-joined keeps-written
      (λ teller seg epoch len closed is says. keeps-if master.log (has_segment master.log seg)
      (noted teller epoch len closed (master.log.segments seg).config)
      (heard-noted (Q seg) len closed (master.log.segments seg).config (said teller seg epoch len closed is says)))
      (λ seg epoch is. keeps-if master.log (has_segment master.log seg) (committed_at epoch (master.log.segments seg).config)
      (heard-committed (Q seg) epoch (master.log.segments seg).config)))

  ticks-heard : (master : Master) → HeardAll master.log → HeardAll (master_ticks master).0.log
  ticks-heard = kept-ticks (OfLog Keeps) (of_log-joined Keeps keeps-joined) (of_log-listed Keeps keeps-joined keeps-listed)
      (of_log-followed Keeps keeps-joined keeps-written keeps-followed) (of_log-ticked Keeps keeps-joined)

-- A world

abbrev Told : List Message → ServerId → ℕ → ServerId → ℕ → Type 0
Told sent m s x e = HasToldOf sent x m s e

told-more : (sent messages : List Message) (m : ServerId) (log : Log) → HeardAll (Told sent m) log →
    HeardAll (Told (sent ++ messages) m) log
told-more sent messages m log heard s member at told =
    let was = heard s member at told in
    record { len = was.len; closed = was.closed; told = In-left (between member.id m _) sent messages was.told }

heard-all : {setup : Setup} → IsKeptByAll setup (λ sent m master. HeardAll (Told sent m) master.log)
heard-all = record {
  opened = λ m s member at told. absurd at;
  led = record {
    same = λ sent m master p. p;
    others = λ sent messages m master p others. told-more sent messages m master.log p;
    takes = λ sent m master from body good p at. takes-heard (Told (sent ++ (master_takes master from body).1) m) master
        (λ teller seg epoch len closed is says. record {
          len = len;
          closed = closed;
          told = In-left (between teller m (Stored seg epoch len closed)) sent (master_takes master from body).1
              (subst (λ (b : Body). In (record { from = Server teller; to = Server m; body = b }) sent) says
              (subst (λ (a : Addr). In (record { from = a; to = Server m; body = body }) sent) is at));
        }) (told-more sent (master_takes master from body).1 m master.log p);
    ticks = λ sent m master good p. ticks-heard (Told (sent ++ (master_ticks master).1) m) master
        (told-more sent (master_ticks master).1 m master.log p);
  };
}

-- each id that was sent a segment under its current epoch, where it is placed on all
pub members-have-told : (setup : Setup) (events : List Event) {m : ServerId} {s : ℕ} {x : ServerId} →
    all_placed ((log_of setup events m).segments s).config ≡ true →
    IsMember (sent_after setup events) m s ((log_of setup events m).segments s).config.epoch x →
    HasToldOf (sent_after setup events) x m s ((log_of setup events m).segments s).config.epoch
members-have-told setup events {m} {s} {x} placed member = by ((log_of setup events m).segments s).shut refl
  where
    segment : Segment
    segment = (log_of setup events m).segments s

    place : IsPlace (sent_after setup events) m (log_of setup events m) x s segment.config.epoch member.digest member.entries false
    place = (good-world setup events).messages _ member.placed

    noted-is : (one : Member) → In one segment.config.members → HasToldOf (sent_after setup events) one.id m s segment.config.epoch
    noted-is one at = kept-replay setup (λ sent m master. HeardAll (Told sent m) master.log) heard-all events m s one at
        (and_parts (not one.lost) (is_some one.told) (all-each is_placed one segment.config.members placed at)).1

    by : (b : Bool) → segment.shut ≡ b → HasToldOf (sent_after setup events) x m s segment.config.epoch
    by true is = let was = place.told refl refl is in record { len = was.len; closed = true; told = was.told }
    by false isn't =
        let found = In-map (λ (one : Member). one.id) x segment.config.members (place.member refl refl isn't) in
        subst (λ (id : ServerId). HasToldOf (sent_after setup events) id m s segment.config.epoch) (sym found.2)
        (noted-is found.0 found.1)
