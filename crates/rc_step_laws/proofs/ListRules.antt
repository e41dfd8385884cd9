-- Lost members are replaced, and the first head is opened.
use Rattle.std.proofs.Common.{◌≡◌, ◌⊎◌, ℕ, ◌+◌, ◌<◌, ◌≤◌, Bool, true, false, nat_eq, nat_lt, ◌&&◌, List, [], ◌∷◌, ◌++◌}
use Rattle.std.proofs.Common.{length, map, Option, Some, None, Ok, Err, refl, sym, ap, ◌∙◌, subst, inl, inr, arith}
use Rattle.std.proofs.lemmas.Bool.{and_parts, eqb-true}
use Rattle.rc_model.specs.Heads.{opened_on}
use Rattle.rc_model.specs.Model.{ServerId, Server, Entry, Member, EpochsExhausted, LAST_EPOCH, Message, Place, between, ServerList}
use Rattle.rc_model.specs.Model.{from_rows, newer_than, is_up, up_rows, Config, candidates, choose, lost_if_crashed, with_lost, any_lost}
use Rattle.rc_model.specs.Model.{substitutes_for, replaced, changed, changes_to, lose, refills_with, refill, Segment, under_new_epoch}
use Rattle.rc_model.specs.Model.{Log, with_segment, numbers_to, open_first, with_config, opens_change, refills, loses}
use Rattle.rc_model.specs.Model.{Master, with_log, to_ids, ids_of, place_of, places_segment, replaces_lost, replaces_lost_of, opens_first}
use Rattle.rc_model.specs.Model.{tries_first, obeys_list, takes_list, In}
use Rattle.rc_model.proofs.Members.{In-right, map-In}
use Rattle.rc_step_laws.specs.All.{log_in, IsOpened, OnDifferentHosts, IsPlace, OwnFine, MasterSays}
use Rattle.rc_step_laws.proofs.Lists.{begins-refl}
use Rattle.rc_step_laws.proofs.LogMoves.{GoodLog, LogMoved, IsFresh}
use Rattle.rc_step_laws.proofs.Places.{numbers-In}
use Rattle.rc_step_laws.proofs.Segments.{SegmentSteady, put-moved, steady-moved}
use Rattle.rc_step_laws.proofs.Members.{each-lost, ids-lost, each-replaced, each-new}
use Rattle.rc_step_laws.proofs.Views.{GoodView, Moved, moved-then_does, still, SamePlace, place-to_ids}
use Rattle.rc_step_laws.proofs.Openings.{opens-moved}
use Rattle.rc_step_laws.proofs.Hosts.{apart-choose, apart-substituted, apart-rows}
use Rattle.rc_step_laws.proofs.MasterTold.{each-noted, steady-members, config-moved}
use Rattle.rc_model.proofs.Tables.{put-same}
use Rattle.rc_model.proofs.Tests.{true_false, either}
use Rattle.rc_model.proofs.Sending.{each-to_ids}

-- A segment whole, closed where it is shut, is a Place of it

pub place-whole : {sent : List Message} {m : ServerId} {log : Log} {x : ServerId} {s : ℕ} {closed : Bool} →
    IsOpened log s → (log.segments s).shut ≡ closed → (closed ≡ false → In x (ids_of (log.segments s).config.members))
    → IsPlace sent m log x s (log.segments s).config.epoch (log.segments s).digest (log_in log s) closed
place-whole opened is member = search (arith, begins-refl)

-- Marks of lost members

marked-log : {sent : List Message} {m : ServerId} {log : Log} {s : ℕ} (servers : ServerList) → GoodLog sent m log →
    OwnFine sent m log → IsOpened log s
    → LogMoved sent m log (with_config s (with_lost servers (log.segments s).config) log) []
marked-log {sent} {m} {log} {s} servers good fine opened = config-moved good fine opened (steady-members (good.each s)
    (λ _. ids-lost servers (log.segments s).config.members) (each-lost servers (log.segments s).config.members
    (each-noted sent m log.phase log.head s (log.segments s) (good.each s))))

-- A shut segment is refilled

refilled-log : {sent : List Message} {m : ServerId} {log : Log} {s : ℕ} (servers : ServerList) (ids : List ServerId) →
    GoodLog sent m log → OwnFine sent m log → IsOpened log s → (log.segments s).shut ≡ true
    → LogMoved sent m log (with_config s (record (with_lost servers (log.segments s).config)
    { members = replaced (with_lost servers (log.segments s).config).members ids }) log) (to_ids log.own ids (place_of
    (with_config s (record (with_lost servers (log.segments s).config)
    { members = replaced (with_lost servers (log.segments s).config).members ids }) log) s
    ((with_config s (record (with_lost servers (log.segments s).config)
    { members = replaced (with_lost servers (log.segments s).config).members ids }) log).segments s).shut))
refilled-log {sent} {m} {log} {s} servers ids good fine opened shut = steady-moved good fine opened steady
    (each-to_ids (MasterSays sent (sent ++ messages) m log log_now) ids (λ x at. record {
      from = ap Server good.own;
      says = (
        place-whole (record { above = opened.above; below = opened.below }) refl (λ e. true_false (sym shut_now ∙ e)),
        record {
          long = (let same : length (log_in log_now s) ≡ length (log_in log s) = ap
              (λ (segment : Segment). length (map (λ (one : Entry × Bool). one.0) segment.entries)) at_new in
              omega arith);
          known = λ e upto under. true_false (sym shut_now ∙ e);
        },
      );
    })) (λ x t e digest entries at. (
    let place = place-to_ids m log.own ids x t e s (log_now.segments s).config.epoch digest (log_now.segments s).digest
    entries (log_in log_now s) false (log_now.segments s).shut at in
    true_false (sym shut_now ∙ sym place.1.closed_is)))
  where
    config : Config
    config = record (with_lost servers (log.segments s).config)
        { members = replaced (with_lost servers (log.segments s).config).members ids }

    new : Segment
    new = record (log.segments s) { config = config }

    log_now : Log
    log_now = with_config s config log

    messages : List Message
    messages = to_ids log.own ids (place_of log_now s (log_now.segments s).shut)

    at_new : log_now.segments s ≡ new
    at_new = put-same log.segments s

    shut_now : (log_now.segments s).shut ≡ true
    shut_now = ap (λ (segment : Segment). segment.shut) at_new ∙ shut

    steady : SegmentSteady sent m s (log.segments s) new
    steady = steady-members (good.each s) (λ open_now. true_false (sym shut ∙ open_now))
        (each-replaced sent m s (log.segments s).config.epoch (map (lost_if_crashed servers) (log.segments s).config.members) ids
        (each-lost servers (log.segments s).config.members
        (each-noted sent m log.phase log.head s (log.segments s) (good.each s))))

-- An open one takes a fresh epoch

changed-log : {sent : List Message} {m : ServerId} {log : Log} {s : ℕ} (servers : ServerList) {ids : List ServerId} →
    GoodLog sent m log → OwnFine sent m log → IsOpened log s → (log.segments s).shut ≡ false
    → substitutes_for log.own servers (with_lost servers (log.segments s).config) ≡ Some ids
    → LogMoved sent m log (with_segment s (under_new_epoch (changed (with_lost servers (log.segments s).config) ids) (log.segments s)) log)
    (to_ids log.own (map (λ member. member.id) (changed (with_lost servers (log.segments s).config) ids).members)
    (place_of (with_segment s (under_new_epoch (changed (with_lost servers (log.segments s).config) ids) (log.segments s)) log) s
    ((with_segment s (under_new_epoch (changed (with_lost servers (log.segments s).config) ids) (log.segments s)) log).segments s).shut))
changed-log {sent} {m} {log} {s} servers {ids} good fine opened open_now found = put-moved good fine (record {
  opened = opened;
  later = record {
    grows = begins-refl;
    final = λ below. refl;
    digest = λ upto. refl;
    epoch = λ upto. omega arith;
    shut = λ e. true_false (sym e ∙ open_now);
    joined = λ x upto shut same at. absurd (omega arith);
    shuts = λ x upto before shut same at. true_false (sym shut ∙ open_now);
  };
  good = record {
    old_shut = λ above less. (good.each s).old_shut above less;
    writing_shut = λ writing above less. (good.each s).writing_shut writing above less;
    shut_below = λ e. true_false (sym e ∙ open_now);
    shut_committed = λ e. true_false (sym e ∙ open_now);
    complete = λ x above upto is at. record {
      digest = (log_now.segments s).digest;
      entries = log_in log_now s;
      placed = In-right (between m x (Place s (old.config.epoch + 1) (log_now.segments s).digest (log_in log_now s)
          false)) sent messages (placed_it x at);
    };
    apart = λ is. apart-substituted (candidates old.config.seg log.own servers) lost_members
        (subst OnDifferentHosts (sym (ids-lost servers old.config.members)) ((good.each s).apart open_now)) found;
    noted = λ member at o less. (each-new (sent ++ messages) m s (old.config.epoch + 1) (replaced lost_members ids) member at).len o less;
    noted_closed = λ member at told.
        (each-new (sent ++ messages) m s (old.config.epoch + 1) (replaced lost_members ids) member at).closed told;
    committed = λ e. true_false (sym e);
  };
  quiet = λ _. refl;
  says = each-to_ids (MasterSays sent (sent ++ messages) m log log_now) members_now (λ x at. record {
    from = ap Server good.own;
    says = (
      place-whole (record { above = opened.above; below = opened.below }) refl
          (λ _. subst (λ (segment : Segment). In x (ids_of segment.config.members)) (sym at_new) at),
      record {
        long = (let same : length (log_in log_now s) ≡ length (log_in log s) = ap
            (λ (segment : Segment). length (map (λ (one : Entry × Bool). one.0) segment.entries)) at_new in
            omega arith);
        known = λ e upto under. (let fresh : (log_now.segments s).config.epoch ≡ old.config.epoch + 1 = ap
            (λ (segment : Segment). segment.config.epoch) at_new in absurd (omega arith));
      },
    );
  });
  news = λ x t e digest entries at. inr (fresh x t e
      (place-to_ids m log.own members_now x t e s (log_now.segments s).config.epoch digest (log_now.segments s).digest
      entries (log_in log_now s) false (log_now.segments s).shut at));
})
  where
    old : Segment
    old = log.segments s

    lost_members : List Member
    lost_members = map (lost_if_crashed servers) (log.segments s).config.members

    new : Segment
    new = under_new_epoch (changed (with_lost servers (log.segments s).config) ids) (log.segments s)

    log_now : Log
    log_now = with_segment s new log

    members_now : List ServerId
    members_now = map (λ member. member.id) (changed (with_lost servers (log.segments s).config) ids).members

    messages : List Message
    messages = to_ids log.own members_now (place_of log_now s (log_now.segments s).shut)

    at_new : log_now.segments s ≡ new
    at_new = put-same log.segments s

    placed_it : (x : ServerId) → In x members_now →
        In (between m x (Place s (old.config.epoch + 1) (log_now.segments s).digest (log_in log_now s) false)) messages
    placed_it x at = search (arith, log_now, messages, map-In, members_now, old, at_new)

    fresh : (x : ServerId) (t e : ℕ) → In x members_now × SamePlace x x t e false s (log_now.segments s).config.epoch
        (log_now.segments s).shut → IsFresh log log_now x t e
    fresh x t e p = search (arith, old, at_new, log_now)

-- One segment

moved-marked : {sent : List Message} {m : ServerId} {master : Master} {s : ℕ} (servers : ServerList) →
    GoodView sent m master → IsOpened master.log s
    → Moved sent m master (with_log master (with_config s (with_lost servers (master.log.segments s).config) master.log), [])
moved-marked servers view opened =
    record { log = marked-log servers view.log view.fine opened; known = view.known }

moved-refills : {sent : List Message} {m : ServerId} {master : Master} {s : ℕ} (servers : ServerList)
    (found : Option (List ServerId)) → GoodView sent m master → IsOpened master.log s
    → (master.log.segments s).shut ≡ true → Moved sent m master (places_segment s master
    (refills s master.log (refills_with (with_lost servers (master.log.segments s).config) found)))
moved-refills servers None view opened shut = moved-marked servers view opened
moved-refills servers (Some ids) view opened shut =
    record { log = refilled-log servers ids view.log view.fine opened shut; known = view.known }

moved-changes : {sent : List Message} {m : ServerId} {master : Master} {s : ℕ} (servers : ServerList)
    (found : Option (List ServerId)) → GoodView sent m master → IsOpened master.log s
    → (master.log.segments s).shut ≡ false →
    substitutes_for master.log.own servers (with_lost servers (master.log.segments s).config) ≡ found
    → Moved sent m master (places_segment s master
    (opens_change s master.log (changes_to (with_lost servers (master.log.segments s).config) found)))
moved-changes servers None view opened open_now e = moved-marked servers view opened
moved-changes {sent} {m} {master} {s} servers (Some ids) view opened open_now e =
    either (λ result. Moved sent m master (places_segment s master (opens_change s master.log result)))
    (nat_lt (master.log.segments s).config.epoch LAST_EPOCH)
    (changed (with_lost servers (master.log.segments s).config) ids, Ok true)
    (with_lost servers (master.log.segments s).config, Err EpochsExhausted)
    (λ _. record { log = changed-log servers view.log view.fine opened open_now e; known = view.known })
    (λ _. moved-marked servers view opened)

moved-loses : {sent : List Message} {m : ServerId} {master : Master} {s : ℕ} → GoodView sent m master →
    IsOpened master.log s → Moved sent m master (places_segment s master (loses master.known s master.log))
moved-loses {sent} {m} {master} {s} view opened =
    either (λ result. Moved sent m master (places_segment s master result)) (master.log.segments s).shut
    (refills s master.log (refill master.log.own master.known (master.log.segments s).config))
    (opens_change s master.log (lose master.log.own master.known (master.log.segments s).config))
    (λ shut. moved-refills master.known (substitutes_for master.log.own master.known marked_now) view opened shut)
    (λ open_now. either (λ result. Moved sent m master (places_segment s master (opens_change s master.log result)))
    (any_lost marked_now.members)
    (changes_to marked_now (substitutes_for master.log.own master.known marked_now)) (marked_now, Ok false)
    (λ _. moved-changes master.known (substitutes_for master.log.own master.known marked_now) view opened open_now refl)
    (λ _. moved-marked master.known view opened))
  where
    marked_now : Config
    marked_now = with_lost master.known (master.log.segments s).config

moved-replaces_lost : {sent : List Message} {m : ServerId} {master : Master} {s : ℕ} → GoodView sent m master →
    IsOpened master.log s → Moved sent m master (replaces_lost master s)
moved-replaces_lost {sent} {m} {master} {s} view opened =
    either (λ after. Moved sent m master after) (master.log.segments s).freed (master, [])
    (places_segment s master (loses master.known s master.log))
    (λ _. still sent m master view) (λ _. moved-loses view opened)

-- All of them

moved-replaces_lost_of : (sent : List Message) {m : ServerId} (segs : List ℕ) {master : Master} →
    GoodView sent m master → ((s : ℕ) → In s segs → IsOpened master.log s)
    → Moved sent m master (replaces_lost_of segs master)
moved-replaces_lost_of sent {m} [] {master} view opened = still sent m master view
moved-replaces_lost_of sent {m} (s ∷ segs) {master} view opened =
    let first : Moved sent m master (replaces_lost master s) = moved-replaces_lost view (opened s (inl refl)) in
    moved-then_does (λ after. replaces_lost_of segs after) view first
    (λ now. moved-replaces_lost_of (sent ++ (replaces_lost master s).1) segs now
    (λ t at. (let was = opened t (inr at) in record { above = was.above; below = omega (arith, was.below, first.log.later.head) })))

-- The first head

moved-opens_first : {sent : List Message} {m : ServerId} {master : Master} (found : Option (List ServerId)) →
    GoodView sent m master → master.log.head ≡ 0 → choose 1 master.log.own master.log.factor master.known ≡ found →
    Moved sent m master (opens_first master (opened_on master.log (1 ∷ []) found))
moved-opens_first {sent} {m} {master} None view none e = still sent m master view
moved-opens_first {master} (Some ids) view none e = record {
  log = opens-moved ids view.log view.fine (λ s above less. absurd (omega arith))
      (apart-choose 1 master.log.own master.log.factor master.known view.known e)
      (record { own = inl (omega arith); upto = λ t at. by t at; lacks = λ t above less. absurd (omega arith) });
  known = view.known;
}
  where
    by : (t : ℕ) → (t ≡ 1) ⊎ ⊥ → (0 < t) × (t ≤ master.log.head + 1)
    by t (inl same) = (omega arith, omega arith)
    by t (inr nothing) = absurd nothing

moved-tries_first : {sent : List Message} {m : ServerId} {master : Master} → GoodView sent m master →
    Moved sent m master (tries_first master)
moved-tries_first {sent} {m} {master} view =
    either (λ after. Moved sent m master after) (nat_eq master.log.head 0 && is_up master.known master.log.own)
    (opens_first master (open_first master.known master.log)) (master, [])
    (λ e. moved-opens_first (choose 1 master.log.own master.log.factor master.known) view
    (eqb-true master.log.head 0 (and_parts (nat_eq master.log.head 0) (is_up master.known master.log.own) e).0) refl)
    (λ _. still sent m master view)

-- The list rules

pub moved-obeys : {sent : List Message} {m : ServerId} {master : Master} → GoodView sent m master → Moved sent m master (obeys_list master)
moved-obeys {sent} {master} view = moved-then_does tries_first view
    (moved-replaces_lost_of sent (numbers_to master.log.head) view
    (λ s at. (let p = numbers-In s master.log.head at in record { above = p.0; below = p.1 })))
    (λ now. moved-tries_first now)

-- a List message, with rows of which those that are up are on different hosts
pub moved-takes_list : {sent : List Message} {m : ServerId} {master : Master} (version : ℕ)
    (rows : List (ServerId × Bool)) → GoodView sent m master → OnDifferentHosts (up_rows rows)
    → Moved sent m master (takes_list master (from_rows version rows))
moved-takes_list {sent} {m} {master} version rows view apart =
    either (λ after. Moved sent m master after) (newer_than (from_rows version rows) master.known) (obeys_list knowing) (master, [])
    (λ _. (let done = moved-obeys (record { log = view.log; fine = view.fine; known = apart-rows rows apart }) in
    record { log = done.log; known = done.known }))
    (λ _. still sent m master view)
  where
    knowing : Master
    knowing = record master { known = from_rows version rows }
