-- What changes neither the places of a log nor what is counted of them, and asks for no commit.
use Rattle.std.proofs.Common.{◌≡◌, ℕ, suc, ◌+◌, ◌≤◌, Bool, true, false, cond, nat_lt, nat_eq, List, [], ◌∷◌, Option, Some}
use Rattle.std.proofs.Common.{None, Result, Ok, Err, refl, sym, subst, arith, length, map, ◌<◌, inl, inr}
use Rattle.std.specs.List.{All}
use Rattle.std.proofs.lemmas.List.Elements.{All-nil, All-cons, All-map, All-head, All-tail}
use Rattle.std.proofs.lemmas.List.{append-nil}
use Rattle.std.proofs.lemmas.Bool.{eqb-true, eq-eqb, ltb-true}
use Rattle.rc_model.specs.Model.{ServerId, Fault, LAST_SEGMENT, LAST_EPOCH, Phase, Message, Body, WriteOk, Commit}
use Rattle.rc_model.specs.Model.{between, ServerList, Config, told_if_heard, noted, committed_at}
use Rattle.rc_model.specs.Model.{changes_to, lose, refills_with, Segment, new_segment, under_new_epoch, Log}
use Rattle.rc_model.specs.Model.{places_to, places_of, with_segment, opens_head, with_config, stored, commit_noted}
use Rattle.rc_model.specs.Model.{opens_change, refills, loses, with_freed, to_ids, In}
use Rattle.rc_owner_laws.specs.LimitClaims.{LogIsWithinLimits}
use Rattle.rc_model.proofs.Tests.{true_false, either}
use Rattle.rc_model.proofs.Tables.{put_each}
use Rattle.rc_model.proofs.Sending.{Each, each-all}
use Rattle.rc_step_laws.proofs.EachMaster.{is_others}
use Rattle.rc_step_laws.proofs.Places.{places_to-same}

-- Messages

-- the message acknowledges, or asks for a commit
abbrev pub is_loud : Body → Bool
is_loud (WriteOk seg offset term table key version) = true
is_loud (Commit seg epoch) = true
is_loud _ = false

abbrev pub is_soft : Message → Type 0
is_soft message = is_loud message.body ≡ false

abbrev pub AllSoft : List Message → Type 0
AllSoft messages = All is_soft messages

pub soft-none : AllSoft []
soft-none = All-nil is_soft

pub soft-one : (message : Message) → is_loud message.body ≡ false → AllSoft (message ∷ [])
soft-one message p = All-cons is_soft message [] p soft-none

pub soft-all : (messages : List Message) → Each is_soft messages → AllSoft messages
soft-all messages each = each-all is_soft messages each

pub soft-ids : (own : ServerId) (ids : List ServerId) (body : Body) → is_loud body ≡ false → AllSoft (to_ids own ids body)
soft-ids own ids body p = All-map is_soft (λ (id : ServerId). between own id body) ids (λ k d less. p)

-- what others say in a master's name is soft
pub others-soft : (body : Body) → is_others body ≡ true → is_loud body ≡ false
others-soft (WriteOk seg offset term table key version) e = true_false (sym e)
others-soft (Commit seg epoch) e = true_false (sym e)
others-soft _ e = refl

pub All-In : {X : Type 0} (P : X → Type 0) (xs : List X) (x : X) → All P xs → In x xs → P x
All-In P [] x all at = absurd at
All-In P (y ∷ xs) x all (inl e) = subst P (sym e) (All-head P y xs all)
All-In P (y ∷ xs) x all (inr rest) = All-In P xs x (All-tail P y xs all) rest

-- Logs

pub record QuietLog (old new : Log) : Type 0 where
  pub own : new.own ≡ old.own
  pub factor : new.factor ≡ old.factor
  pub durable : new.durable ≡ old.durable
  pub size : new.size ≡ old.size
  pub limits : LogIsWithinLimits old → LogIsWithinLimits new
  pub places : places_of new ≡ places_of old
  pub head : old.head ≤ new.head
  -- shut is for good, and no further segment counts as one whose commit was asked
  pub shut : (s : ℕ) → s ≤ old.head → (old.segments s).shut ≡ true → (new.segments s).shut ≡ true
  pub asked : (s : ℕ) → (new.segments s).commit_sent ≡ true → (old.segments s).commit_sent ≡ true

pub quiet-refl : {log : Log} → QuietLog log log
quiet-refl = search arith

pub quiet-trans : {old middle new : Log} → QuietLog old middle → QuietLog middle new → QuietLog old new
quiet-trans p q = search arith

-- another phase
pub quiet-phase : {log : Log} {phase : Phase} → QuietLog log (record log { phase = phase })
quiet-phase = search arith

-- a segment within its limits is put in
pub limits-put : {log : Log} (seg : ℕ) (segment : Segment) → LogIsWithinLimits log → segment.config.epoch ≤ LAST_EPOCH →
    length segment.entries ≤ log.size → LogIsWithinLimits (with_segment seg segment log)
limits-put {log} seg segment h epoch entries = search (arith, put_each)

-- a segment is changed, but for its entries
pub quiet-put : {log : Log} (seg : ℕ) (segment : Segment) → segment.entries ≡ (log.segments seg).entries →
    ((log.segments seg).shut ≡ true → segment.shut ≡ true) →
    (segment.commit_sent ≡ true → (log.segments seg).commit_sent ≡ true) →
    ((log.segments seg).config.epoch ≤ LAST_EPOCH → segment.config.epoch ≤ LAST_EPOCH) →
    QuietLog log (with_segment seg segment log)
quiet-put {log} seg segment entries shut asked epoch = search (arith, limits-put, places_to-same, put_each)

-- a segment beside the one that is put
pub put-beside : (segments : ℕ → Segment) {key : ℕ} (segment : Segment) {s : ℕ} → (key ≡ s → ⊥) →
    cond (nat_eq key s) segment (segments s) ≡ segments s
put-beside segments {key} segment {s} differs = either (λ one. one ≡ segments s) (nat_eq key s) segment (segments s)
    (λ e. absurd (differs (eqb-true key s e))) (λ _. refl)

places-opened : (segments : ℕ → Segment) (segment : Segment) (n : ℕ) → segment.entries ≡ [] →
    places_to (λ s. cond (nat_eq (suc n) s) segment (segments s)) (suc n) ≡ places_to segments n
places-opened segments segment n none = search (arith, places_to-same, put-beside, eq-eqb, append-nil)

-- by its number
places-opened_at : (segments : ℕ → Segment) (segment : Segment) {n h : ℕ} → h ≡ suc n → segment.entries ≡ [] →
    places_to (λ s. cond (nat_eq h s) segment (segments s)) h ≡ places_to segments n
places-opened_at segments segment {n} is none =
    subst (λ k. places_to (λ s. cond (nat_eq k s) segment (segments s)) k ≡ places_to segments n) (sym is)
    (places-opened segments segment n none)

pub quiet-opens : {log : Log} (digest : List ℕ) (ids : List ServerId) → log.head < LAST_SEGMENT → QuietLog log (opens_head log digest ids)
quiet-opens {log} digest ids room = record {
  own = refl;
  factor = refl;
  durable = refl;
  size = refl;
  limits = λ h. record {
    head = omega (arith, room);
    epochs = put_each (λ k (one : Segment). one.config.epoch ≤ LAST_EPOCH) log.segments (log.head + 1)
        (new_segment (log.head + 1) digest ids) (omega arith) h.epochs;
    entries = put_each (λ k (one : Segment). length one.entries ≤ log.size) log.segments (log.head + 1)
        (new_segment (log.head + 1) digest ids) (omega arith) h.entries;
  };
  places = places-opened_at log.segments (new_segment (log.head + 1) digest ids) {n = log.head} {h = (log.head + 1)} (omega arith) refl;
  head = omega arith;
  shut = λ s upto e. subst (λ (one : Segment). one.shut ≡ true)
      (sym (put-beside log.segments {key = (log.head + 1)} (new_segment (log.head + 1) digest ids) {s = s}
      (λ same. absurd (omega (arith, same, upto))))) e;
  asked = put_each (λ k (one : Segment). one.commit_sent ≡ true → (log.segments k).commit_sent ≡ true) log.segments
      (log.head + 1) (new_segment (log.head + 1) digest ids) (λ never. true_false (sym never)) (λ k e. e);
}

-- the limit of an epoch is kept
abbrev KeepsEpoch : Config → Config → Type 0
KeepsEpoch old new = old.epoch ≤ LAST_EPOCH → new.epoch ≤ LAST_EPOCH

quiet-config : (seg : ℕ) (config : Config) {log : Log} → KeepsEpoch (log.segments seg).config config →
    QuietLog log (with_config seg config log)
quiet-config seg config {log} epoch = quiet-put seg (record (log.segments seg) { config = config }) refl (λ e. e) (λ e. e) epoch

epoch-noted : (from : ServerId) (epoch len : ℕ) (closed : Bool) (config : Config) → KeepsEpoch config (noted from epoch len closed config)
epoch-noted from epoch len closed config = either (KeepsEpoch config) (nat_eq epoch config.epoch)
    (record config { members = map (told_if_heard from len closed) config.members }) config (λ _ h. h) (λ _ h. h)

epoch-committed : (epoch : ℕ) (config : Config) → KeepsEpoch config (committed_at epoch config)
epoch-committed epoch config = either (KeepsEpoch config) (nat_eq epoch config.epoch)
    (record config { committed = true }) config (λ _ h. h) (λ _ h. h)

epoch-changes : (config : Config) (ids : Option (List ServerId)) → KeepsEpoch config (changes_to config ids).0
epoch-changes config None = λ h. h
epoch-changes config (Some ids) = search (arith, nat_lt, ltb-true)

epoch-lose : (own : ServerId) (servers : ServerList) (config : Config) → KeepsEpoch config (lose own servers config).0
epoch-lose own servers config = search (arith, epoch-changes)

epoch-refills : (config : Config) (ids : Option (List ServerId)) → KeepsEpoch config (refills_with config ids).0
epoch-refills config None h = h
epoch-refills config (Some ids) h = h

pub quiet-stored : (seg : ℕ) (from : ServerId) (epoch len : ℕ) (closed : Bool) {log : Log} →
    QuietLog log (stored seg from epoch len closed log)
quiet-stored seg from epoch len closed {log} = search (arith, quiet-config, epoch-noted, quiet-refl)

pub quiet-commit_noted : (seg epoch : ℕ) {log : Log} → QuietLog log (commit_noted seg epoch log)
quiet-commit_noted seg epoch {log} = search (arith, quiet-config, epoch-committed, quiet-refl)

quiet-change : (seg : ℕ) {log : Log} (done : Config × Result Bool Fault) → KeepsEpoch (log.segments seg).config done.0 →
    QuietLog log (opens_change seg log done).0
quiet-change seg {log} (config, Ok true) epoch =
    quiet-put seg (under_new_epoch config (log.segments seg)) refl (λ e. e) (λ never. true_false (sym never)) epoch
quiet-change seg (config, Ok false) epoch = quiet-config seg config epoch
quiet-change seg (config, Err fault) epoch = quiet-config seg config epoch

quiet-refills : (seg : ℕ) {log : Log} (done : Config × Result (List ServerId) Fault) →
    KeepsEpoch (log.segments seg).config done.0 → QuietLog log (refills seg log done).0
quiet-refills seg (config, answer) epoch = quiet-config seg config epoch

pub quiet-loses : (servers : ServerList) (seg : ℕ) {log : Log} → QuietLog log (loses servers seg log).0
quiet-loses servers seg {log} = search (arith, quiet-refills, epoch-refills, quiet-change, epoch-lose)

pub quiet-freed : (segs : List ℕ) {log : Log} → QuietLog log (with_freed segs log)
quiet-freed [] = quiet-refl
quiet-freed (seg ∷ segs) {log} =
    let next : Log = with_segment seg (record (log.segments seg) { freed = true }) log in
    quiet-trans (quiet-put seg (record (log.segments seg) { freed = true }) refl
    (λ e. e) (λ e. e) (λ e. e)) (quiet-freed segs)
