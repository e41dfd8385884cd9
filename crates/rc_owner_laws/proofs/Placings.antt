-- What holds of a master's log and of what the master has said: which segments were placed on all their members.
use Rattle.std.proofs.Common.{arith}
use Rattle.std.proofs.Common.{◌≡◌, ◌⊎◌, ℕ, ◌+◌, ◌<◌, ◌≤◌, true, List, ◌++◌, length, Option, Some, None}
use Rattle.std.proofs.Common.{is_some, ◌∙◌, inl, inr}
use Rattle.rc_model.specs.Model.{ServerId, Server, Member, Phase, Opening, Message, Body, Place, Close, Ready, Commit}
use Rattle.rc_model.specs.Model.{told_closed, all_placed, Segment, Log, with_segment, In}
use Rattle.rc_model.proofs.Members.{In-append, In-left}
use Rattle.rc_model.proofs.Tables.{put_each}
use Rattle.rc_step_laws.specs.All.{IsOpened, HasToldClosed}
use Rattle.rc_step_laws.proofs.Copies.{More}
use Rattle.rc_owner_laws.specs.Loss.{HasStored}

-- Words

-- the segment after this one was opened, and is no longer the head or was placed on all
abbrev pub IsNext : ℕ → ℕ → Phase → ℕ → Type 0
IsNext f head phase s = (s + 1 < head) ⊎ ((s + 1 ≡ head) × (0 < f → phase ≡ Opening → ⊥))

-- the segment that a message closes
abbrev pub closed_by : Body → Option ℕ
closed_by (Place s e digest entries true) = Some s
closed_by (Close s len) = Some s
closed_by _ = None

-- the master has told a backup to close the segment
pub record HasClosed (sent : List Message) (m : ServerId) (s : ℕ) : Type 0 where
  pub message : Message
  pub among : In message sent
  pub from : message.from ≡ Server m
  pub says : closed_by message.body ≡ Some s

-- what a message of a master claims: of a segment that it closes, by being Ready, and of a segment to be committed
abbrev pub Claims : (ℕ → Type 0) → Type 0 → (ℕ → ℕ → Type 0) → Body → Type 0
Claims next ready placed (Place s e digest entries closed) = closed ≡ true → next s
Claims next ready placed (Close s len) = next s
Claims next ready placed Ready = ready
Claims next ready placed (Commit s e) = placed s e
Claims next ready placed _ = Unit {0}

-- the segment was placed on all under some epoch
abbrev pub Some_placed : (ℕ → ℕ → Type 0) → ℕ → Type 0
Some_placed W s = (e : ℕ) × W s e

-- what is noted of a member was told, and if it told closed, the master had told a backup to close it
pub record IsKnown (sent : List Message) (m : ServerId) (s e : ℕ) (member : Member) : Type 0 where
  pub told : is_some member.told ≡ true → HasStored sent member.id m s e
  pub shut : told_closed member.told ≡ true → HasToldClosed sent member.id m s e
  pub closed : told_closed member.told ≡ true → HasClosed sent m s

abbrev pub AllKnown : List Message → ServerId → ℕ → ℕ → List Member → Type 0
AllKnown sent m s e members = (member : Member) → In member members → IsKnown sent m s e member

-- someone has told closed
pub record WasShut (sent : List Message) (m : ServerId) (s e : ℕ) : Type 0 where
  pub teller : ServerId
  pub told : HasToldClosed sent teller m s e

-- what holds of a segment
pub record GoodPlacing (f : ℕ) (W : ℕ → ℕ → Type 0) (sent : List Message) (m : ServerId) (head : ℕ) (phase : Phase) (s : ℕ)
    (segment : Segment) : Type 0 where
  pub many : 0 < s → s ≤ head → length segment.config.members ≡ f
  pub known : AllKnown sent m s segment.config.epoch segment.config.members
  pub next : segment.shut ≡ true → IsNext f head phase s
  pub shut : 0 < f → segment.shut ≡ true → WasShut sent m s segment.config.epoch
  pub asked : segment.commit_sent ≡ true → W s segment.config.epoch

-- what holds of a log
pub record Placings (f : ℕ) (W : ℕ → ℕ → Type 0) (sent : List Message) (m : ServerId) (log : Log) : Type 0 where
  pub own : log.own ≡ m
  pub factor : log.factor ≡ f
  pub said : (message : Message) → In message sent → message.from ≡ Server m →
      Claims (IsNext f log.head log.phase) (Some_placed W 1) W message.body
  pub lower : (s : ℕ) → 0 < s → s < log.head → Some_placed W s
  pub head_placed : (log.phase ≡ Opening → ⊥) → (0 < log.head) × Some_placed W log.head
  pub each : (s : ℕ) → GoodPlacing f W sent m log.head log.phase s (log.segments s)

-- the segment is placed on all now, under this epoch
pub record PlacedNow (log : Log) (s e : ℕ) : Type 0 where
  pub opened : IsOpened log s
  pub placed : all_placed (log.segments s).config ≡ true
  pub epoch : (log.segments s).config.epoch ≡ e

-- More was sent

pub claims-map : {next next_now : ℕ → Type 0} {ready ready_now : Type 0} {placed placed_now : ℕ → ℕ → Type 0} →
    ((s : ℕ) → next s → next_now s) → (ready → ready_now) → ((s e : ℕ) → placed s e → placed_now s e) → (body : Body) →
    Claims next ready placed body → Claims next_now ready_now placed_now body
claims-map n r p (Place s e digest entries closed) c = λ is. n s (c is)
claims-map n r p (Close s len) c = n s c
claims-map n r p Ready c = r c
claims-map n r p (Commit s e) c = p s e c
claims-map n r p _ c = tt

pub known-more : {sent sent_now : List Message} {m : ServerId} {s e : ℕ} {member : Member} → More sent sent_now →
    IsKnown sent m s e member → IsKnown sent_now m s e member
known-more more p = search arith

pub shut-more : {sent sent_now : List Message} {m : ServerId} {s e : ℕ} → More sent sent_now → WasShut sent m s e → WasShut sent_now m s e
shut-more more p =
    record { teller = p.teller; told = record { len = p.told.len; told = more _ p.told.told } }

-- a segment stays good where more is sent, more is placed, and what was next is next
pub good-later : {f : ℕ} (W V : ℕ → ℕ → Type 0) {sent sent_now : List Message} {m : ServerId} {head head_now : ℕ}
    {phase phase_now : Phase} {s : ℕ} {segment : Segment} → ((t e : ℕ) → W t e → V t e) → More sent sent_now →
    (0 < s → s ≤ head_now → s ≤ head) → (IsNext f head phase s → IsNext f head_now phase_now s) →
    GoodPlacing f W sent m head phase s segment → GoodPlacing f V sent_now m head_now phase_now s segment
good-later W V {s} {segment} w more within next p = record {
  many = λ above below. p.many above (within above below);
  known = λ member at. known-more more (p.known member at);
  next = λ is. next (p.next is);
  shut = λ some is. shut-more more (p.shut some is);
  asked = λ is. w s segment.config.epoch (p.asked is);
}

-- more is placed
pub placings-wider : {f : ℕ} (W V : ℕ → ℕ → Type 0) {sent : List Message} {m : ServerId} {log : Log} →
    ((t e : ℕ) → W t e → V t e) → Placings f W sent m log → Placings f V sent m log
placings-wider W V {log} w p = record {
  own = p.own;
  factor = p.factor;
  said = λ message at from. claims-map (λ s is. is) (some 1) w message.body (p.said message at from);
  lower = λ s above below. some s (p.lower s above below);
  head_placed = λ not_opening. (let h = p.head_placed not_opening in (h.0, some log.head h.1));
  each = λ s. good-later W V w (λ message at. at) (λ above below. below) (λ is. is) (p.each s);
}
  where
    some : (s : ℕ) → Some_placed W s → Some_placed V s
    some s q = (q.0, w s q.0 q.1)

-- messages that claim what holds
abbrev pub AllClaim : ℕ → (ℕ → ℕ → Type 0) → Log → List Message → Type 0
AllClaim f W log messages = (message : Message) → In message messages →
    Claims (IsNext f log.head log.phase) (Some_placed W 1) W message.body

-- what is said in the master's name claims what holds
pub placings-heard : {f : ℕ} (W : ℕ → ℕ → Type 0) {sent : List Message} (messages : List Message) {m : ServerId} {log : Log} →
    ((message : Message) → In message messages → message.from ≡ Server m →
    Claims (IsNext f log.head log.phase) (Some_placed W 1) W message.body) →
    Placings f W sent m log → Placings f W (sent ++ messages) m log
placings-heard {f} W {sent} messages {m} {log} claim p = record {
  own = p.own;
  factor = p.factor;
  said = λ message at from. by message from (In-append message sent messages at);
  lower = p.lower;
  head_placed = p.head_placed;
  each = λ s. good-later W W (λ t e w. w) more (λ above below. below) (λ is. is) (p.each s);
}
  where
    more : More sent (sent ++ messages)
    more message at = In-left message sent messages at

    by : (message : Message) → message.from ≡ Server m → In message sent ⊎ In message messages →
        Claims (IsNext f log.head log.phase) (Some_placed W 1) W message.body
    by message from (inl there) = p.said message there from
    by message from (inr new) = claim message new from

pub placings-say : {f : ℕ} (W : ℕ → ℕ → Type 0) {sent : List Message} (messages : List Message) {m : ServerId} {log : Log} →
    AllClaim f W log messages → Placings f W sent m log → Placings f W (sent ++ messages) m log
placings-say W messages claim p = placings-heard W messages (λ message at _. claim message at) p

-- The log changes

-- a change that keeps what is next, of a log whose new segments are good
pub placings-moved : {f : ℕ} (W : ℕ → ℕ → Type 0) {sent : List Message} {m : ServerId} {old new : Log} → new.own ≡ old.own →
    new.factor ≡ old.factor → ((s : ℕ) → IsNext f old.head old.phase s → IsNext f new.head new.phase s) →
    ((s : ℕ) → 0 < s → s < new.head → Some_placed W s) →
    ((new.phase ≡ Opening → ⊥) → (0 < new.head) × Some_placed W new.head) →
    ((s : ℕ) → GoodPlacing f W sent m new.head new.phase s (new.segments s)) → Placings f W sent m old → Placings f W sent m new
placings-moved W own factor next lower head_placed each p = record {
  own = own ∙ p.own;
  factor = factor ∙ p.factor;
  said = λ message at from. claims-map next (λ r. r) (λ s e w. w) message.body (p.said message at from);
  lower = lower;
  head_placed = head_placed;
  each = each;
}

-- one segment changes
pub placings-put : {f : ℕ} (W : ℕ → ℕ → Type 0) {sent : List Message} {m : ServerId} {log : Log} {seg : ℕ} {segment : Segment} →
    Placings f W sent m log → GoodPlacing f W sent m log.head log.phase seg segment →
    Placings f W sent m (with_segment seg segment log)
placings-put {f} W {sent} {m} {log} {seg} {segment} p good = search (arith, placings-moved, put_each)

-- another config, with as many members of which what is noted is known, under an epoch under which no commit is
-- marked that wasn't
pub good-config : {f : ℕ} (W : ℕ → ℕ → Type 0) {sent : List Message} {m : ServerId} {head : ℕ} {phase : Phase} {s : ℕ}
    {old new : Segment} → length new.config.members ≡ length old.config.members → new.shut ≡ old.shut →
    (old.shut ≡ true → new.config.epoch ≡ old.config.epoch) →
    AllKnown sent m s new.config.epoch new.config.members →
    (new.commit_sent ≡ true → (old.commit_sent ≡ true) × (new.config.epoch ≡ old.config.epoch)) →
    GoodPlacing f W sent m head phase s old → GoodPlacing f W sent m head phase s new
good-config W {sent} {m} {s} many same still known asked p = search arith

-- the same config
pub good-alike : {f : ℕ} (W : ℕ → ℕ → Type 0) {sent : List Message} {m : ServerId} {head : ℕ} {phase : Phase} {s : ℕ}
    {old new : Segment} → new.config ≡ old.config → new.shut ≡ old.shut → new.commit_sent ≡ old.commit_sent →
    GoodPlacing f W sent m head phase s old → GoodPlacing f W sent m head phase s new
good-alike W {sent} {m} {s} config same marked p = search arith
