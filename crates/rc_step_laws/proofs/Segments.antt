-- A move that changes one segment of the log.
use Rattle.std.proofs.Common.{◌≡◌, ◌⊎◌, ℕ, ◌<◌, ◌≤◌, Bool, true, false, List, ◌++◌, length, map, slice_get, Some, refl}
use Rattle.std.proofs.Common.{sym, ap, ◌∙◌, subst, arith}
use Rattle.rc_model.specs.Model.{ServerId, Entry, Member, Phase, Writing, Message, Place, between, told_len, told_closed, Segment}
use Rattle.rc_model.specs.Model.{no_segment, Log, LogPlace, places_of, with_segment, ids_of, In}
use Rattle.rc_step_laws.specs.All.{Begins, log_in, IsOpened, HasTold, HasToldClosed, IsMember, IsCommitted, OnDifferentHosts, IsSafe}
use Rattle.rc_step_laws.specs.All.{LogLater, OwnFine, MasterSays}
use Rattle.rc_step_laws.proofs.Lists.{begins-refl, begins-length}
use Rattle.rc_step_laws.proofs.Tests.{get-begins_back}
use Rattle.rc_step_laws.proofs.Copies.{More}
use Rattle.rc_step_laws.proofs.LogViews.{member-more, told-more, told_closed-more, committed-more}
use Rattle.rc_step_laws.proofs.LogMoves.{GoodSegment, GoodLog, LogMoved, IsFresh, more-left, segment-more, moved-log}
use Rattle.rc_step_laws.proofs.Places.{places-later}
use Rattle.rc_model.proofs.Tests.{true_false}
use Rattle.rc_model.proofs.Tables.{put_each}

-- what a change of one segment keeps
pub record SegmentLater (sent : List Message) (m : ServerId) (head s : ℕ) (old new : Segment) : Type 0 where
  pub grows : Begins old.entries new.entries
  pub final : s < head → new.entries ≡ old.entries
  pub digest : s ≤ head → new.digest ≡ old.digest
  pub epoch : s ≤ head → old.config.epoch ≤ new.config.epoch
  pub shut : old.shut ≡ true → (new.shut ≡ true) × (new.config.epoch ≡ old.config.epoch)
  pub joined : (x : ServerId) → s ≤ head → new.shut ≡ false → new.config.epoch ≡ old.config.epoch →
      In x (ids_of old.config.members) → In x (ids_of new.config.members)
  pub shuts : (x : ServerId) → s ≤ head → old.shut ≡ false → new.shut ≡ true → new.config.epoch ≡ old.config.epoch →
      In x (ids_of old.config.members) → HasToldClosed sent x m s new.config.epoch

-- a segment that stays
pub later-refl : {sent : List Message} {m : ServerId} {head s : ℕ} {segment : Segment} → SegmentLater sent m head s segment segment
later-refl = search (arith, begins-refl)

-- where each segment is later, the log is
pub log-later : {sent : List Message} {m : ServerId} {old new : Log} → old.head ≤ new.head →
    ((s : ℕ) → SegmentLater sent m old.head s (old.segments s) (new.segments s)) → LogLater sent m old new
log-later head each = record {
  head = head;
  grows = λ s. (each s).grows;
  final = λ s below. (each s).final below;
  digest = λ s above upto. (each s).digest upto;
  epoch = λ s upto. (each s).epoch upto;
  shut = λ s e. (each s).shut e;
  joined = λ s x upto shut same at. (each s).joined x upto shut same at;
  shuts = λ s x upto before shut same at. (each s).shuts x upto before shut same at;
}

-- the old view's count still counts safe places
pub counted-still : (sent sent_now : List Message) (m : ServerId) (old new : Log) → GoodLog sent m old →
    LogLater sent_now m old new → new.durable ≡ old.durable
    → (k : ℕ) (place : LogPlace) → k < new.durable → slice_get (places_of new) k ≡ Some place → IsSafe sent m old place.seg place.offset
counted-still sent sent_now m old new good later same k place less at = good.counted k place (omega (arith, same))
    (get-begins_back (places_of old) (places-later later) (omega (arith, same, good.durable_within)) at)

pub within-still : {sent sent_now : List Message} {m : ServerId} {old new : Log} → GoodLog sent m old →
    LogLater sent_now m old new → new.durable ≡ old.durable → new.durable ≤ length (places_of new)
within-still {old} {new} good later same =
    let longer = begins-length (places_of old) (places_of new) (places-later later) in
    omega (arith, same, good.durable_within)

-- a change of one opened segment, with these messages
pub record SegmentParts (sent : List Message) (m : ServerId) (log : Log) (s : ℕ) (new : Segment) (messages : List Message) : Type 0 where
  pub opened : IsOpened log s
  pub later : SegmentLater (sent ++ messages) m log.head s (log.segments s) new
  pub good : GoodSegment (sent ++ messages) m log.phase log.head s new
  -- only in Writing the entries change
  pub quiet : (log.phase ≡ Writing → ⊥) → new.entries ≡ (log.segments s).entries
  pub says : (message : Message) → In message messages → MasterSays sent (sent ++ messages) m log (with_segment s new log) message
  pub news : (x : ServerId) (t e : ℕ) (digest : List ℕ) (entries : List Entry) → In (between m x (Place t e digest entries false)) messages
      → IsMember sent m t e x ⊎ IsFresh log (with_segment s new log) x t e

pub put-moved : {sent : List Message} {m : ServerId} {log : Log} {s : ℕ} {new : Segment} {messages : List Message} →
    GoodLog sent m log → OwnFine sent m log → SegmentParts sent m log s new messages
    → LogMoved sent m log (with_segment s new log) messages
put-moved {sent} {m} {log} {s} {new} {messages} good fine parts = moved-log good fine (record {
  later = later;
  says = parts.says;
  own = good.own;
  none_below = put_each (λ n segment. n ≡ 0 → segment ≡ no_segment 0) log.segments s new
      (λ e. absurd (omega (arith, parts.opened.above))) (λ n e. ap log.segments e ∙ good.none_below) 0 refl;
  none_above = λ n over. put_each (λ k segment. log.head < k → segment ≡ no_segment k) log.segments s new
      (λ above. absurd (omega (arith, parts.opened.below))) (λ k above. good.none_above k above) n over;
  writing_opened = good.writing_opened;
  empty = λ quiet. put_each (λ n segment. map (λ (one : Entry × Bool). one.0) segment.entries ≡ log_in log n)
      log.segments s new (ap (map (λ (one : Entry × Bool). one.0)) (parts.quiet quiet)) (λ n. refl) log.head ∙
      good.empty quiet;
  each = put_each (λ n segment. GoodSegment (sent ++ messages) m log.phase log.head n segment) log.segments s new
      parts.good (λ n. segment-more (more-left sent messages) (good.each n));
  news = parts.news;
  counted = counted-still sent (sent ++ messages) m log (with_segment s new log) good later refl;
  digests = λ t over upto. absurd (omega arith);
  durable_within = within-still good later refl;
})
  where
    later : LogLater (sent ++ messages) m log (with_segment s new log)
    later = log-later (omega arith)
        (put_each (λ n segment. SegmentLater (sent ++ messages) m log.head n (log.segments n) segment) log.segments s
        new parts.later (λ n. later-refl))

-- A change that keeps the entries, the mark and the epoch

pub record SegmentSteady (sent : List Message) (m : ServerId) (s : ℕ) (old new : Segment) : Type 0 where
  pub entries : new.entries ≡ old.entries
  pub digest : new.digest ≡ old.digest
  pub shut : new.shut ≡ old.shut
  pub epoch : new.config.epoch ≡ old.config.epoch
  pub ids : old.shut ≡ false → ids_of new.config.members ≡ ids_of old.config.members
  pub committed : old.config.committed ≡ true → new.config.committed ≡ true
  pub granted : new.config.committed ≡ true → IsCommitted sent m s new.config.epoch
  pub noted : (member : Member) → In member new.config.members → (o : ℕ) → o < told_len member.told →
      HasTold sent member.id m s new.config.epoch o
  pub noted_closed : (member : Member) → In member new.config.members → told_closed member.told ≡ true →
      HasToldClosed sent member.id m s new.config.epoch

steady-later : {sent sent_now : List Message} {m : ServerId} {head s : ℕ} {old new : Segment} →
    SegmentSteady sent m s old new → SegmentLater sent_now m head s old new
steady-later {old} p = record {
  grows = subst (λ l. Begins old.entries l) (sym p.entries) begins-refl;
  final = λ below. p.entries;
  digest = λ upto. p.digest;
  epoch = λ upto. omega (arith, p.epoch);
  shut = λ e. (p.shut ∙ e, p.epoch);
  joined = λ x upto shut same at. subst (λ ids. In x ids) (sym (p.ids (sym p.shut ∙ shut))) at;
  shuts = λ x upto before shut same at. true_false (sym shut ∙ p.shut ∙ before);
}

steady-good : {sent sent_now : List Message} {m : ServerId} {phase : Phase} {head s : ℕ} {old new : Segment} →
    More sent sent_now → SegmentSteady sent m s old new → GoodSegment sent m phase head s old
    → GoodSegment sent_now m phase head s new
steady-good {sent} {sent_now} {m} {s} {old} more p good = record {
  old_shut = λ above less. p.shut ∙ good.old_shut above less;
  writing_shut = λ writing above less. p.shut ∙ good.writing_shut writing above less;
  shut_below = λ e. good.shut_below (sym p.shut ∙ e);
  shut_committed = λ e. p.committed (good.shut_committed (sym p.shut ∙ e));
  complete = λ x above upto open_now at. (
      let was : old.shut ≡ false = sym p.shut ∙ open_now in
      member-more more (subst (λ e. IsMember sent m s e x) (sym p.epoch)
      (good.complete x above upto was (subst (λ ids. In x ids) (p.ids was) at))));
  apart = λ open_now. (let was : old.shut ≡ false = sym p.shut ∙ open_now in subst OnDifferentHosts (sym (p.ids was)) (good.apart was));
  noted = λ member at o less. told-more more (p.noted member at o less);
  noted_closed = λ member at told. told_closed-more more (p.noted_closed member at told);
  committed = λ e. committed-more sent sent_now m s more (p.granted e);
}

pub steady-moved : {sent : List Message} {m : ServerId} {log : Log} {s : ℕ} {new : Segment} {messages : List Message} →
    GoodLog sent m log → OwnFine sent m log → IsOpened log s → SegmentSteady sent m s (log.segments s) new
    → ((message : Message) → In message messages → MasterSays sent (sent ++ messages) m log (with_segment s new log) message)
    → ((x : ServerId) (t e : ℕ) (digest : List ℕ) (entries : List Entry) →
    In (between m x (Place t e digest entries false)) messages →
    IsMember sent m t e x ⊎ IsFresh log (with_segment s new log) x t e)
    → LogMoved sent m log (with_segment s new log) messages
steady-moved {sent} {s} {messages} good fine opened steady says news = put-moved good fine (record {
  opened = opened;
  later = steady-later steady;
  good = steady-good (more-left sent messages) steady (good.each s);
  quiet = λ _. steady.entries;
  says = says;
  news = news;
})

-- the members and what they told stay, and the epoch's commit
pub record SegmentMarked (old new : Segment) : Type 0 where
  pub entries : new.entries ≡ old.entries
  pub digest : new.digest ≡ old.digest
  pub shut : new.shut ≡ old.shut
  pub config : new.config ≡ old.config

pub marked-steady : {sent : List Message} {m : ServerId} {phase : Phase} {head s : ℕ} {old new : Segment} →
    GoodSegment sent m phase head s old → SegmentMarked old new → SegmentSteady sent m s old new
marked-steady {sent} {m} {s} good p = search arith

-- a mark, with messages among which is no proper Place
pub marked-moved : {sent : List Message} {m : ServerId} {log : Log} {s : ℕ} {new : Segment} {messages : List Message} →
    GoodLog sent m log → OwnFine sent m log → IsOpened log s → SegmentMarked (log.segments s) new
    → ((message : Message) → In message messages → MasterSays sent (sent ++ messages) m log (with_segment s new log) message)
    → ((x : ServerId) (t e : ℕ) (digest : List ℕ) (entries : List Entry) →
    In (between m x (Place t e digest entries false)) messages →
    IsMember sent m t e x ⊎ IsFresh log (with_segment s new log) x t e)
    → LogMoved sent m log (with_segment s new log) messages
marked-moved {s} good fine opened marked says news =
    steady-moved good fine opened (marked-steady (good.each s) marked) says news
