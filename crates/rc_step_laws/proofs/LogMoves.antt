-- What a move of a master does to its log, and one move after another.
use Rattle.std.proofs.Common.{◌≡◌, ◌⊎◌, ℕ, ◌+◌, ◌<◌, ◌≤◌, Bool, true, false, List, [], ◌∷◌, ◌++◌, length, slice_get}
use Rattle.std.proofs.Common.{Some, refl, sym, ap, ◌∙◌, subst, inl, inr, arith}
use Rattle.std.proofs.lemmas.List.{append_assoc}
use Rattle.rc_model.specs.Model.{ServerId, Addr, Server, Outside, Entry, Member, Phase, Writing, Message, Body, Place, Append, Close}
use Rattle.rc_model.specs.Model.{WriteOk, Stored, between, told_len, told_closed, Segment, no_segment, Log, LogPlace, places_of, ids_of}
use Rattle.rc_model.specs.Model.{In}
use Rattle.rc_types.specs.declared.ids.Addr.TheVariants.{Coordinator}
use Rattle.rc_model.proofs.Members.{In-left, In-append}
use Rattle.rc_step_laws.specs.All.{log_in, IsOpened, HasTold, HasToldClosed, IsMember, IsCommitted, OnDifferentHosts, IsSafe, IsDigest}
use Rattle.rc_step_laws.specs.All.{IsPlace, LogLater, IsNewPlace, OwnFine, MasterSays, body_said}
use Rattle.rc_step_laws.proofs.Copies.{More, In-either}
use Rattle.rc_step_laws.proofs.LogViews.{Grown, member-more, told-more, told_closed-more, committed-more, length-log, log_later-trans}
use Rattle.rc_step_laws.proofs.LogViews.{safe-grown, digest-grown, place-grown, append-grown, close-grown, write_ok-grown, own_fine-grown}

-- What holds of a log

-- of one segment
pub record GoodSegment (sent : List Message) (m : ServerId) (phase : Phase) (head s : ℕ) (segment : Segment) : Type 0 where
  pub old_shut : 0 < s → s + 1 < head → segment.shut ≡ true
  pub writing_shut : phase ≡ Writing → 0 < s → s < head → segment.shut ≡ true
  pub shut_below : segment.shut ≡ true → (0 < s) × (s < head)
  pub shut_committed : segment.shut ≡ true → segment.config.committed ≡ true
  pub complete : (x : ServerId) → 0 < s → s ≤ head → segment.shut ≡ false → In x (ids_of segment.config.members) →
      IsMember sent m s segment.config.epoch x
  pub apart : segment.shut ≡ false → OnDifferentHosts (ids_of segment.config.members)
  pub noted : (member : Member) → In member segment.config.members → (o : ℕ) → o < told_len member.told →
      HasTold sent member.id m s segment.config.epoch o
  pub noted_closed : (member : Member) → In member segment.config.members → told_closed member.told ≡ true →
      HasToldClosed sent member.id m s segment.config.epoch
  pub committed : segment.config.committed ≡ true → IsCommitted sent m s segment.config.epoch

-- of all of it
pub record GoodLog (sent : List Message) (m : ServerId) (log : Log) : Type 0 where
  pub own : log.own ≡ m
  pub none_below : log.segments 0 ≡ no_segment 0
  pub none_above : (s : ℕ) → log.head < s → log.segments s ≡ no_segment s
  pub writing_opened : log.phase ≡ Writing → 0 < log.head
  pub empty : (log.phase ≡ Writing → ⊥) → log_in log log.head ≡ []
  pub each : (s : ℕ) → GoodSegment sent m log.phase log.head s (log.segments s)
  pub one_a_host : (s e : ℕ) (x y : ServerId) → IsMember sent m s e x → IsMember sent m s e y → x.index ≡ y.index → x ≡ y
  pub counted : (k : ℕ) (place : LogPlace) → k < log.durable → slice_get (places_of log) k ≡ Some place →
      IsSafe sent m log place.seg place.offset
  pub digests : (s : ℕ) → IsOpened log s → IsDigest sent m log s (log.segments s).digest
  pub durable_within : log.durable ≤ length (places_of log)

-- more that was sent changes nothing of a segment
pub segment-more : {sent sent_now : List Message} {m : ServerId} {phase : Phase} {head s : ℕ} {segment : Segment} → More sent sent_now
    → GoodSegment sent m phase head s segment → GoodSegment sent_now m phase head s segment
segment-more {sent} {sent_now} {m} {phase} {head} {s} {segment} more p = record {
  old_shut = p.old_shut;
  writing_shut = p.writing_shut;
  shut_below = p.shut_below;
  shut_committed = p.shut_committed;
  complete = λ x above upto open_now at. member-more more (p.complete x above upto open_now at);
  apart = p.apart;
  noted = λ member at o less. told-more more (p.noted member at o less);
  noted_closed = λ member at told. told_closed-more more (p.noted_closed member at told);
  committed = λ is. committed-more sent sent_now m s more (p.committed is);
}

-- A move

pub record LogMovedAt (sent sent_now : List Message) (m : ServerId) (old new : Log) (messages : List Message) : Type 0 where
  pub good : GoodLog sent_now m new
  pub fine : OwnFine sent_now m new
  pub later : LogLater sent_now m old new
  pub says : (message : Message) → In message messages → MasterSays sent sent_now m old new message

abbrev pub LogMoved : List Message → ServerId → Log → Log → List Message → Type 0
LogMoved sent m old new messages = LogMovedAt sent (sent ++ messages) m old new messages

pub more-left : (sent messages : List Message) → More sent (sent ++ messages)
more-left sent messages message at = In-left message sent messages at

-- what is new of the Places of a move
pub places-said : (sent sent_now : List Message) (m : ServerId) (old new : Log) (messages : List Message)
    → ((message : Message) → In message messages → MasterSays sent sent_now m old new message)
    → (x : ServerId) (s e : ℕ) (digest : List ℕ) (entries : List Entry) (closed : Bool) →
    In (between m x (Place s e digest entries closed)) messages
    → IsPlace sent_now m new x s e digest entries closed × IsNewPlace sent m old x s e entries closed
places-said sent sent_now m old new messages says x s e digest entries closed at =
    (says (between m x (Place s e digest entries closed)) at).says

pub new_places : (sent : List Message) (m : ServerId) (old new : Log) (messages : List Message)
    → ((message : Message) → In message messages → MasterSays sent (sent ++ messages) m old new message)
    → (x : ServerId) (s e : ℕ) (digest : List ℕ) (entries : List Entry) (closed : Bool) →
    In (between m x (Place s e digest entries closed)) (sent ++ messages)
    → In (between m x (Place s e digest entries closed)) sent ⊎ IsNewPlace sent m old x s e entries closed
new_places sent m old new messages says x s e digest entries closed at =
    In-either (between m x (Place s e digest entries closed)) sent messages at (λ there. inl there)
    (λ now. inr (places-said sent (sent ++ messages) m old new messages says x s e digest entries closed now).1)

pub grown-moved : {sent : List Message} {m : ServerId} {old new : Log} {messages : List Message} → GoodLog sent m old →
    LogMoved sent m old new messages → Grown sent (sent ++ messages) m old new
grown-moved {sent} {m} {old} {new} {messages} good moved = record {
  more = more-left sent messages;
  later = moved.later;
  places = new_places sent m old new messages moved.says;
  below = λ s is. (good.each s).shut_below is;
}

-- what was said stays right as the log goes on
body_said-grown : (sent : List Message) {one_sent two_sent : List Message} {m : ServerId} (one : Log) {two three : Log} (to : Addr)
    (body : Body) → Grown one_sent two_sent m two three
    → body_said sent one_sent m one two to body → body_said sent two_sent m one three to body
body_said-grown sent one (Server x) (Place s e digest entries closed) grown p = (place-grown grown p.0, p.1)
body_said-grown sent one Coordinator (Place s e digest entries closed) grown p = absurd p
body_said-grown sent one Outside (Place s e digest entries closed) grown p = absurd p
body_said-grown sent one to (Append s offset entries) grown p = append-grown grown p
body_said-grown sent one to (Close s len) grown p = close-grown grown p
body_said-grown sent one to (WriteOk s o term table key version) grown p = write_ok-grown grown p
body_said-grown sent one to _ grown p = p

-- what is new after two moves
place-earlier : {sent one_sent : List Message} {m : ServerId} {one two : Log} {x : ServerId} {s e : ℕ}
    {entries : List Entry} {closed : Bool} → Grown sent one_sent m one two
    → IsNewPlace one_sent m two x s e entries closed → IsNewPlace sent m one x s e entries closed
place-earlier {sent} {one_sent} {m} {one} {x} {s} {e} {entries} grown p = record {
  long = (let longer = length-log grown.later s in omega (arith, p.long));
  known = λ is upto under. by upto under
      (p.known is (omega (arith, upto, grown.later.head)) (let higher = grown.later.epoch s upto in
      omega (arith, under)));
}
  where
    either_one : (at : IsMember one_sent m s e x) → s ≤ one.head → e ≤ (one.segments s).config.epoch
        → In (between m x (Place s e at.digest at.entries false)) sent ⊎ IsNewPlace sent m one x s e at.entries false →
        IsMember sent m s e x
    either_one at upto under (inl there) = record { digest = at.digest; entries = at.entries; placed = there }
    either_one at upto under (inr new_one) = new_one.known refl upto under

    by : s ≤ one.head → e ≤ (one.segments s).config.epoch → IsMember one_sent m s e x → IsMember sent m s e x
    by upto under at = either_one at upto under (grown.places x s e at.digest at.entries false at.placed)

body_said-earlier : {sent one_sent : List Message} (two_sent : List Message) {m : ServerId} {one two : Log} (three : Log) (to : Addr)
    (body : Body) → Grown sent one_sent m one two
    → body_said one_sent two_sent m two three to body → body_said sent two_sent m one three to body
body_said-earlier two_sent three (Server x) (Place s e digest entries closed) grown p = (p.0, place-earlier grown p.1)
body_said-earlier two_sent three Coordinator (Place s e digest entries closed) grown p = absurd p
body_said-earlier two_sent three Outside (Place s e digest entries closed) grown p = absurd p
body_said-earlier two_sent three to _ grown p = p

-- two moves make one
moved-at : {sent one_sent two_sent : List Message} {m : ServerId} {one two three : Log} {first second : List Message} →
    Grown sent one_sent m one two → Grown one_sent two_sent m two three
    → LogMovedAt sent one_sent m one two first → LogMovedAt one_sent two_sent m two three second →
    LogMovedAt sent two_sent m one three (first ++ second)
moved-at {sent} {two_sent} {m} {one} {three} {first} {second} early late p q = record {
  good = q.good;
  fine = q.fine;
  later = log_later-trans late.more p.later q.later;
  says = λ message at. by message (In-append message first second at);
}
  where
    by : (message : Message) → In message first ⊎ In message second → MasterSays sent two_sent m one three message
    by message (inl at) = search (arith, body_said-grown)
    by message (inr at) = search (arith, body_said-earlier)

pub log_moved-then : {sent : List Message} {m : ServerId} {one two three : Log} {first second : List Message} → GoodLog sent m one
    → LogMoved sent m one two first → LogMoved (sent ++ first) m two three second → LogMoved sent m one three (first ++ second)
log_moved-then {sent} {m} {one} {three} {first} {second} good p q =
    subst (λ now. LogMovedAt sent now m one three (first ++ second)) (append_assoc sent first second) (moved-at
    (grown-moved good p) (grown-moved p.good q) p q)

-- A move by its parts

-- what is sent of a segment under an epoch that the old view hadn't
pub record IsFresh (old new : Log) (x : ServerId) (s e : ℕ) : Type 0 where
  pub unknown : (old.head < s) ⊎ ((old.segments s).config.epoch < e)
  pub member : In x (ids_of (new.segments s).config.members)
  pub opened : (new.segments s).shut ≡ false

pub record MoveParts (sent : List Message) (m : ServerId) (old new : Log) (messages : List Message) : Type 0 where
  pub later : LogLater (sent ++ messages) m old new
  pub says : (message : Message) → In message messages → MasterSays sent (sent ++ messages) m old new message
  pub own : new.own ≡ m
  pub none_below : new.segments 0 ≡ no_segment 0
  pub none_above : (s : ℕ) → new.head < s → new.segments s ≡ no_segment s
  pub writing_opened : new.phase ≡ Writing → 0 < new.head
  pub empty : (new.phase ≡ Writing → ⊥) → log_in new new.head ≡ []
  pub each : (s : ℕ) → GoodSegment (sent ++ messages) m new.phase new.head s (new.segments s)
  -- a proper Place goes to one who was a member before, or is one now under a fresh epoch
  pub news : (x : ServerId) (s e : ℕ) (digest : List ℕ) (entries : List Entry) →
      In (between m x (Place s e digest entries false)) messages → IsMember sent m s e x ⊎ IsFresh old new x s e
  pub counted : (k : ℕ) (place : LogPlace) → k < new.durable → slice_get (places_of new) k ≡ Some place →
      IsSafe sent m old place.seg place.offset
  pub digests : (s : ℕ) → old.head < s → s ≤ new.head → IsDigest (sent ++ messages) m new s (new.segments s).digest
  pub durable_within : new.durable ≤ length (places_of new)

-- ids on different hosts: an id and another with its index are one
pub apart-not : (x y : ServerId) (ids : List ServerId) → In y ids →
    Rattle.rc_step_laws.specs.Words.NotOnHostOf x ids → x.index ≡ y.index → ⊥
apart-not x y [] at apart same = absurd at
apart-not x y (z ∷ ids) (inl e) apart same = apart.0 (same ∙ ap (λ (id : ServerId). id.index) e)
apart-not x y (z ∷ ids) (inr rest) apart same = apart-not x y ids rest apart.1 same

pub apart-same : {x y : ServerId} (ids : List ServerId) → OnDifferentHosts ids → In x ids → In y ids → x.index ≡ y.index → x ≡ y
apart-same [] apart at_x at_y same = absurd at_x
apart-same (z ∷ ids) apart (inl p) (inl q) same = p ∙ sym q
apart-same {y} (z ∷ ids) apart (inl p) (inr q) same = absurd (apart-not z y ids q apart.0 (sym (ap (λ (id : ServerId). id.index) p) ∙ same))
apart-same {x} (z ∷ ids) apart (inr p) (inl q) same =
    absurd (apart-not z x ids p apart.0 (sym (ap (λ (id : ServerId). id.index) q) ∙ sym same))
apart-same (z ∷ ids) apart (inr p) (inr q) same = apart-same ids apart.1 p q same

pub moved-log : {sent : List Message} {m : ServerId} {old new : Log} {messages : List Message} → GoodLog sent m old →
    OwnFine sent m old → MoveParts sent m old new messages → LogMoved sent m old new messages
moved-log {sent} {m} {old} {new} {messages} good fine parts = record {
  good = record {
    own = parts.own;
    none_below = parts.none_below;
    none_above = parts.none_above;
    writing_opened = parts.writing_opened;
    empty = parts.empty;
    each = parts.each;
    one_a_host = one;
    counted = λ k place less at. safe-grown grown (parts.counted k place less at);
    digests = λ s opened. split_head s opened;
    durable_within = parts.durable_within;
  };
  fine = own_fine-grown grown fine place_of told_of;
  later = parts.later;
  says = parts.says;
}
  where
    grown : Grown sent (sent ++ messages) m old new
    grown = record {
      more = more-left sent messages;
      later = parts.later;
      places = new_places sent m old new messages parts.says;
      below = λ s is. (good.each s).shut_below is;
    }

    place_of : (x : ServerId) (s e : ℕ) (digest : List ℕ) (entries : List Entry) (closed : Bool) →
        In (between m x (Place s e digest entries closed)) (sent ++ messages) →
        In (between m x (Place s e digest entries closed)) sent ⊎ IsPlace (sent ++ messages) m new x s e digest entries closed
    place_of x s e digest entries closed at = In-either (between m x (Place s e digest entries closed)) sent messages at
        (λ there. inl there) (λ now. inr (places-said sent (sent ++ messages) m old new messages parts.says x s e digest entries closed
        now).0)

    told_of : (x : ServerId) (s e len : ℕ) (closed : Bool) →
        In (between x m (Stored s e len closed)) (sent ++ messages) → In (between x m (Stored s e len closed)) sent
    told_of x s e len closed at = In-either (between x m (Stored s e len closed)) sent messages at (λ there. there)
        (λ now. absurd (parts.says (between x m (Stored s e len closed)) now).says)

    split_head : (s : ℕ) → IsOpened new s → IsDigest (sent ++ messages) m new s (new.segments s).digest
    split_head s opened = by (below_or s old.head)
      where
        below_or : (a b : ℕ) → (a ≤ b) ⊎ (b < a)
        below_or a b = grind arith

        by : (s ≤ old.head) ⊎ (old.head < s) → IsDigest (sent ++ messages) m new s (new.segments s).digest
        by (inl upto) = subst (λ digest. IsDigest (sent ++ messages) m new s digest) (sym (parts.later.digest s opened.above upto))
            (digest-grown grown (good.digests s (record { above = opened.above; below = upto })))
        by (inr over) = parts.digests s over opened.below

    news_of : (s e : ℕ) (x : ServerId) → IsMember (sent ++ messages) m s e x → IsMember sent m s e x ⊎ IsFresh old new x s e
    news_of s e x at = In-either (between m x (Place s e at.digest at.entries false)) sent messages at.placed
        (λ there. inl (record { digest = at.digest; entries = at.entries; placed = there }))
        (λ now. parts.news x s e at.digest at.entries now)

    -- the old view knows what was sent then
    not_both : (s e : ℕ) (x y : ServerId) → IsMember sent m s e x → IsFresh old new y s e → ⊥
    not_both s e x y at fresh = search arith

    one : (s e : ℕ) (x y : ServerId) → IsMember (sent ++ messages) m s e x → IsMember (sent ++ messages) m s e y → x.index ≡ y.index → x ≡ y
    one s e x y at_x at_y same = by (news_of s e x at_x) (news_of s e y at_y)
      where
        by : IsMember sent m s e x ⊎ IsFresh old new x s e → IsMember sent m s e y ⊎ IsFresh old new y s e → x ≡ y
        by (inl p) (inl q) = good.one_a_host s e x y p q same
        by (inl p) (inr q) = absurd (not_both s e x y p q)
        by (inr p) (inl q) = absurd (not_both s e y x q p)
        by (inr p) (inr q) = apart-same (ids_of (new.segments s).config.members) ((parts.each s).apart p.opened) p.member q.member same
