-- Writes and reads, and an entry that is appended.
use Rattle.std.proofs.Common.{◌≡◌, ℕ, zero, suc, ◌+◌, Bool, true, false, List, [], ◌∷◌, ◌++◌, length, map}
use Rattle.std.proofs.Common.{slice_get, Option, Some, refl, sym, ap, ◌∙◌, subst, arith}
use Rattle.std.proofs.lemmas.List.{map-append, length-map}
use Rattle.rc_model.specs.Model.{ServerId, Server, Entry, Fault, Phase, Writing, Message, Body, Place, Append, between}
use Rattle.rc_model.specs.Model.{Segment, with_entry, Log, head_of, appends, opens_head, next_digest, term_of, Found}
use Rattle.rc_model.specs.Model.{read_of, Master, with_log, durable_entries, to_ids, places_head, appends_entry}
use Rattle.rc_model.specs.Model.{dead_segments, refused, written, writes, reads, In}
use Rattle.rc_model.proofs.Members.{In-map}
use Rattle.rc_step_laws.specs.All.{Stands, OwnFine, MasterSays}
use Rattle.rc_step_laws.proofs.Lists.{get-end}
use Rattle.rc_step_laws.proofs.LogMoves.{GoodSegment, GoodLog, LogMoved, more-left, segment-more}
use Rattle.rc_step_laws.proofs.Segments.{put-moved}
use Rattle.rc_model.proofs.Walk.{kept-writes, kept-reads}
use Rattle.rc_step_laws.proofs.Views.{Kept, joined, GoodView, Moved, moved-quiet, quiet-one}
use Rattle.rc_step_laws.proofs.Openings.{opens-moved}
use Rattle.rc_step_laws.proofs.Rolling.{next-digest, writing-is}
use Rattle.rc_step_laws.proofs.Hosts.{apart-choose}
use Rattle.rc_model.proofs.Tables.{put-same}
use Rattle.rc_model.proofs.Tests.{true_false}
use Rattle.rc_model.proofs.Sending.{each-to_ids}

-- An entry

-- one more entry stands at the end
stands-new : (entries : List (Entry × Bool)) (entry : Entry) (client : Bool) →
    Stands (entry ∷ []) (length entries) (map (λ (one : Entry × Bool). one.0) (entries ++ (entry, client) ∷ []))
stands-new entries entry client zero other e =
    let fst : Entry × Bool → Entry = λ one. one.0 in
    let same : entry ≡ other = cc in
    let len : length (map fst entries) ≡ length entries + 0 = length-map entries fst ∙ omega arith in
    subst (λ l. slice_get l (length entries + 0) ≡ Some other) (sym (map-append fst entries ((entry, client) ∷ [])))
    (subst (λ n. slice_get (map fst entries ++ entry ∷ []) n ≡ Some other) len (get-end (map fst entries) [] ∙ ap Some same))
stands-new entries entry client (suc k) other e = cc

-- no Place is an Append
append-no_place : {P : Type 0} (m own : ServerId) (ids : List ServerId) (x : ServerId) (s e t offset : ℕ)
    (digest : List ℕ) (entries others : List Entry) (closed : Bool)
    → In (between m x (Place s e digest entries closed)) (to_ids own ids (Append t offset others)) → P
append-no_place m own ids x s e t offset digest entries others closed at =
    let found = In-map (λ (id : ServerId). between own id (Append t offset others))
    (between m x (Place s e digest entries closed)) ids at in
    let body : ◌≡◌ {A = Body} (Place s e digest entries closed) (Append t offset others) =
    ap (λ (message : Message). message.body) found.2 in cc

entry-good : {sent : List Message} {m : ServerId} {phase : Phase} {head s : ℕ} {segment : Segment} (entry : Entry)
    (client : Bool) → GoodSegment sent m phase head s segment
    → GoodSegment sent m phase head s (with_entry entry client segment)
entry-good entry client p = search arith

appends-log : {sent : List Message} {m : ServerId} {log : Log} (entry : Entry) (client : Bool) (ids : List ServerId) →
    GoodLog sent m log → OwnFine sent m log → log.phase ≡ Writing
    → LogMoved sent m log (appends entry client log) (to_ids log.own ids (Append log.head (length (head_of log).entries) (entry ∷ [])))
appends-log {sent} {m} {log} entry client ids good fine writing = put-moved good fine (record {
  opened = record { above = good.writing_opened writing; below = omega arith };
  later = record {
    grows = ((entry, client) ∷ [], refl);
    final = λ below. absurd (omega arith);
    digest = λ upto. refl;
    epoch = λ upto. omega arith;
    shut = λ e. (e, refl);
    joined = λ x upto shut same at. at;
    shuts = λ x upto before shut same at. true_false (sym shut ∙ before);
  };
  good = entry-good entry client (segment-more (more-left sent messages) (good.each h));
  quiet = λ quiet. absurd (quiet writing);
  says = each-to_ids (MasterSays sent (sent ++ messages) m log (appends entry client log)) ids (λ x at. record {
    from = ap Server good.own;
    says = record {
      opened = record { above = good.writing_opened writing; below = omega arith };
      stands = subst (λ (segment : Segment). Stands (entry ∷ []) (length (head_of log).entries)
          (map (λ (one : Entry × Bool). one.0) segment.entries)) (sym (put-same log.segments h))
          (stands-new (head_of log).entries entry client);
    };
  });
  news = λ x t e digest entries at. append-no_place m log.own ids x t e h (length (head_of log).entries) digest entries
      (entry ∷ []) false at;
})
  where
    h : ℕ
    h = log.head

    new : Segment
    new = with_entry entry client (head_of log)

    messages : List Message
    messages = to_ids log.own ids (Append h (length (head_of log).entries) (entry ∷ []))

pub moved-appends : {sent : List Message} {m : ServerId} {master : Master} (entry : Entry) (client : Bool) →
    GoodView sent m master → master.log.phase ≡ Writing → Moved sent m master (appends_entry master entry client)
moved-appends {master} entry client view writing = search (arith, appends-log)

-- Refusals and answers

pub moved-refused : {sent : List Message} {m : ServerId} {master : Master} (fault : Fault) → GoodView sent m master →
    Moved sent m master (refused master fault)
moved-refused fault view = moved-quiet view refl refl
    (quiet-one (record { from = ap Server view.log.own; quiet = λ _ _ _ _ _ _. tt }))

-- A roll

pub moved-opens_roll : {sent : List Message} {m : ServerId} {master : Master} {ids : List ServerId} →
    GoodView sent m master → master.log.phase ≡ Writing
    → Rattle.rc_model.specs.Config.choose (master.log.head + 1) master.log.own master.log.factor master.known ≡ Some ids
    → Moved sent m master (
      with_log master (opens_head master.log (next_digest master.log (dead_segments master)) ids),
      places_head (opens_head master.log (next_digest master.log (dead_segments master)) ids),
    )
moved-opens_roll {master} {ids} view writing chosen = record {
  log = opens-moved ids view.log view.fine (λ s above less. (view.log.each s).writing_shut writing above less)
      (apart-choose (master.log.head + 1) master.log.own master.log.factor master.known view.known chosen)
      (next-digest master view.log (view.log.writing_opened writing));
  known = view.known;
}

-- Writes and reads

refusing : {m : ServerId} (master : Master) (fault : Fault) → Kept m master (refused master fault)
refusing master fault sent view = moved-refused fault view

pub moved-writes : {sent : List Message} {m : ServerId} {master : Master} (table key : ℕ) (value : Option (List ℕ)) →
    GoodView sent m master → Moved sent m master (writes master table key value)
moved-writes {sent} {m} {master} table key value = kept-writes (Kept m) (joined m) refusing table key value
    (λ ids writing room chosen more view. moved-opens_roll view (writing-is master.log.phase writing) chosen)
    (λ term owned writing room more view.
    moved-appends (written master term table key value) true view (writing-is master.log.phase writing)) sent

pub moved-reads : {sent : List Message} {m : ServerId} {master : Master} (table key : ℕ) → GoodView sent m master →
    Moved sent m master (reads master table key)
moved-reads {sent} {m} {master} table key =
    kept-reads (Kept m) (joined m) refusing (term_of master.ownership table key)
    (λ term owned more view. (let found : Found = read_of term table key (durable_entries master) in
    moved-quiet view refl refl (quiet-one (record { from = ap Server view.log.own; quiet = λ _ _ _ _ _ _. tt })))) sent
