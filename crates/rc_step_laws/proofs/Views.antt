-- A master's view and its moves; messages that claim nothing.
use Rattle.std.proofs.Common.{◌≡◌, ℕ, Bool, false, List, [], ◌∷◌, ◌++◌, refl, sym, subst, inl, inr, arith}
use Rattle.rc_types.specs.declared.ids.Addr.TheVariants.{Coordinator}
use Rattle.rc_model.specs.Model.{ServerId, Addr, Server, Entry, Message, Body, Place, between, up_rows, Log, Master, to_ids, then_does, In}
use Rattle.rc_model.proofs.Members.{In-map}
use Rattle.rc_step_laws.specs.All.{IsMember, OnDifferentHosts, OwnFine, MasterSays, body_said}
use Rattle.rc_step_laws.proofs.LogViews.{log_later-refl}
use Rattle.rc_model.proofs.Walk.{Joined}
use Rattle.rc_step_laws.proofs.LogMoves.{GoodLog, LogMoved, more-left, segment-more, moved-log, log_moved-then}

-- Views

pub record GoodView (sent : List Message) (m : ServerId) (master : Master) : Type 0 where
  pub log : GoodLog sent m master.log
  pub fine : OwnFine sent m master.log
  pub known : OnDifferentHosts (up_rows master.known.rows)

pub record Moved (sent : List Message) (m : ServerId) (old : Master) (after : Master × List Message) : Type 0 where
  pub log : LogMoved sent m old.log after.0.log after.1
  pub known : OnDifferentHosts (up_rows after.0.known.rows)

pub view-after : {sent : List Message} {m : ServerId} {old : Master} {after : Master × List Message} →
    Moved sent m old after → GoodView (sent ++ after.1) m after.0
view-after moved = record { log = moved.log.good; fine = moved.log.fine; known = moved.known }

-- one rule after another
pub moved-then : {sent : List Message} {m : ServerId} {one : Master} {done after : Master × List Message} →
    GoodView sent m one → Moved sent m one done → Moved (sent ++ done.1) m done.0 after
    → Moved sent m one (after.0, done.1 ++ after.1)
moved-then view p q = search (arith, log_moved-then)

pub moved-then_does : {sent : List Message} {m : ServerId} {one : Master} {done : Master × List Message}
    (rule : Master → Master × List Message) → GoodView sent m one → Moved sent m one done
    → (GoodView (sent ++ done.1) m done.0 → Moved (sent ++ done.1) m done.0 (rule done.0)) → Moved sent m one (then_does done rule)
moved-then_does rule view p next = moved-then view p (next (view-after p))

-- The log stays

pub same-moved : {sent : List Message} {m : ServerId} {log : Log} {messages : List Message} → GoodLog sent m log → OwnFine sent m log
    → ((message : Message) → In message messages → MasterSays sent (sent ++ messages) m log log message)
    → ((x : ServerId) (s e : ℕ) (digest : List ℕ) (entries : List Entry) →
    In (between m x (Place s e digest entries false)) messages → IsMember sent m s e x)
    → LogMoved sent m log log messages
same-moved {sent} {messages} good fine says news = moved-log good fine (record {
  later = log_later-refl;
  says = says;
  own = good.own;
  none_below = good.none_below;
  none_above = good.none_above;
  writing_opened = good.writing_opened;
  empty = good.empty;
  each = λ s. segment-more (more-left sent messages) (good.each s);
  news = λ x s e digest entries at. inl (news x s e digest entries at);
  counted = good.counted;
  digests = λ s over upto. absurd (omega arith);
  durable_within = good.durable_within;
})

-- Messages that claim nothing

-- a master may say it whatever its log is
abbrev pub IsQuiet : Body → Type 0
IsQuiet body = (sent sent_now : List Message) (m : ServerId) (old new : Log) (to : Addr) → body_said sent sent_now m old new to body

pub record IsQuietOf (m : ServerId) (message : Message) : Type 0 where
  pub from : message.from ≡ Server m
  pub quiet : IsQuiet message.body

abbrev pub AllQuiet : ServerId → List Message → Type 0
AllQuiet m messages = (message : Message) → In message messages → IsQuietOf m message

pub quiet-says : {sent sent_now : List Message} {m : ServerId} {old new : Log} {message : Message} →
    IsQuietOf m message → MasterSays sent sent_now m old new message
quiet-says {sent} {sent_now} {m} {old} {new} {message} is =
    record { from = is.from; says = is.quiet sent sent_now m old new message.to }

-- no Place is among them
pub quiet-no_place : {P : Type 0} (m x : ServerId) (log : Log) (s e : ℕ) (digest : List ℕ) (entries : List Entry)
    (closed : Bool) (messages : List Message) → AllQuiet m messages
    → In (between m x (Place s e digest entries closed)) messages → P
quiet-no_place m x log s e digest entries closed messages all at =
    absurd ((all (between m x (Place s e digest entries closed)) at).quiet [] [] m log log Coordinator)

pub quiet-moved : {sent : List Message} {m : ServerId} {log : Log} {messages : List Message} → GoodLog sent m log →
    OwnFine sent m log → AllQuiet m messages → LogMoved sent m log log messages
quiet-moved {m} {log} {messages} good fine all = same-moved good fine (λ message at. quiet-says (all message at))
    (λ x s e digest entries at. quiet-no_place m x log s e digest entries false messages all at)

-- a step whose view has this log and these servers still, and that says nothing of note
pub moved-quiet : {sent : List Message} {m : ServerId} {old new : Master} {messages : List Message} →
    GoodView sent m old → new.log ≡ old.log → new.known ≡ old.known → AllQuiet m messages
    → Moved sent m old (new, messages)
moved-quiet {sent} {m} {old} {messages} view same known all = record {
  log = subst (λ log. LogMoved sent m old.log log messages) (sym same) (quiet-moved view.log view.fine all);
  known = subst (λ servers. OnDifferentHosts (up_rows servers.rows)) (sym known) view.known;
}

pub quiet-none : (m : ServerId) → AllQuiet m []
quiet-none m message at = absurd at

pub quiet-one : {m : ServerId} {one : Message} → IsQuietOf m one → AllQuiet m (one ∷ [])
quiet-one {m} is message (inl e) = subst (IsQuietOf m) (sym e) is
quiet-one is message (inr rest) = absurd rest

-- nothing happens
pub still : (sent : List Message) (m : ServerId) (master : Master) → GoodView sent m master → Moved sent m master (master, [])
still sent m master view = moved-quiet view refl refl (quiet-none m)

-- Whatever was sent

-- a good master moves, whatever was sent
abbrev pub Kept : ServerId → Master → Master × List Message → Type 0
Kept m master after = (sent : List Message) → GoodView sent m master → Moved sent m master after

pub joined : (m : ServerId) → Joined (Kept m)
joined m = record {
  still = λ master sent view. still sent m master view;
  both = λ one two first after p q sent view. moved-then view (p sent view)
      (q (sent ++ first) (view-after (p sent view)));
}

-- To several

pub record SamePlace (x id : ServerId) (s e : ℕ) (closed : Bool) (t f : ℕ) (ends : Bool) : Type 0 where
  pub to_is : x ≡ id
  pub seg_is : s ≡ t
  pub epoch_is : e ≡ f
  pub closed_is : closed ≡ ends

-- a Place among these is theirs
same-place : {m own x id : ServerId} {s e t f : ℕ} {digest other : List ℕ} {entries others : List Entry} {closed ends : Bool}
    → between m x (Place s e digest entries closed) ≡ between own id (Place t f other others ends) → SamePlace x id s e closed t f ends
same-place {x} {id} {s} {e} {t} {f} {digest} {other} {entries} {others} {closed} {ends} same = search arith

pub place-to_ids : (m own : ServerId) (ids : List ServerId) (x : ServerId) (s e t f : ℕ) (digest other : List ℕ)
    (entries others : List Entry) (closed ends : Bool)
    → In (between m x (Place s e digest entries closed)) (to_ids own ids (Place t f other others ends)) →
    In x ids × SamePlace x x s e closed t f ends
place-to_ids m own ids x s e t f digest other entries others closed ends at =
    let found = In-map (λ (id : ServerId). between own id (Place t f other others ends))
    (between m x (Place s e digest entries closed)) ids at in
    let same = same-place found.2 in (
      subst (λ id. In id ids) (sym same.to_is) found.1,
      record { to_is = refl; seg_is = same.seg_is; epoch_is = same.epoch_is; closed_is = same.closed_is },
    )
