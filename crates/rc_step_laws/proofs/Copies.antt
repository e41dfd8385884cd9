-- What holds of a copy, a replica or a row of an answer, holds of it later.
use Rattle.std.proofs.Common.{◌≡◌, ◌⊎◌, ⊎_elim, ℕ, ◌<◌, ◌≤◌, Bool, true, false, List, ◌++◌, length, map, slice_get, Some, refl, sym}
use Rattle.std.proofs.Common.{ap, ◌∙◌, subst, inl, inr, arith}
use Rattle.rc_model.specs.Model.{ServerId, Entry, Message, Place, Stored, between, Log, In, HasMade}
use Rattle.rc_model.proofs.Members.{In-append}
use Rattle.rc_step_laws.specs.All.{Begins, log_in, IsOpened, HasTold, HasToldClosed, IsMember, IsPlacedAt, IsOpenedAt, IsTold}
use Rattle.rc_step_laws.specs.All.{IsCopy, LogLater, IsNewPlace, OwnFine}
use Rattle.rc_step_laws.proofs.Lists.{begins-length, get-begins, begins-map}

-- either value of a test
pub split : {P : Type 0} (b : Bool) → (b ≡ true → P) → (b ≡ false → P) → P
split true then_ else_ = then_ refl
split false then_ else_ = else_ refl

-- among what there was, or among what is new
pub In-either : {X P : Type 0} (x : X) (xs ys : List X) → In x (xs ++ ys) → (In x xs → P) → (In x ys → P) → P
In-either x xs ys at old new = ⊎_elim old new (In-append x xs ys at)

-- a segment grows, and below the head it doesn't
pub grows-log : {sent : List Message} {m : ServerId} {old new : Log} → LogLater sent m old new → (s : ℕ) →
    Begins (log_in old s) (log_in new s)
grows-log {old} later s = begins-map (λ (one : Entry × Bool). one.0) (old.segments s).entries (later.grows s)

pub final-log : {sent : List Message} {m : ServerId} {old new : Log} → LogLater sent m old new → {s : ℕ} →
    s < old.head → log_in new s ≡ log_in old s
final-log later {s} below = ap (map (λ (one : Entry × Bool). one.0)) (later.final s below)

-- more was sent
abbrev pub More : List Message → List Message → Type 0
More sent sent_now = (message : Message) → In message sent → In message sent_now

pub told-more : {sent sent_now : List Message} → More sent sent_now → {x m : ServerId} {s e o : ℕ} →
    HasTold sent x m s e o → HasTold sent_now x m s e o
told-more more t = record { len = t.len; closed = t.closed; above = t.above; told = more _ t.told }

pub told_closed-more : {sent sent_now : List Message} → More sent sent_now → {x m : ServerId} {s e : ℕ} →
    HasToldClosed sent x m s e → HasToldClosed sent_now x m s e
told_closed-more more t = record { len = t.len; told = more _ t.told }

pub member-more : {sent sent_now : List Message} → More sent sent_now → {m : ServerId} {s e : ℕ} {x : ServerId} →
    IsMember sent m s e x → IsMember sent_now m s e x
member-more more p = record { digest = p.digest; entries = p.entries; placed = more _ p.placed }

pub placed-more : {sent sent_now : List Message} → More sent sent_now → {m : ServerId} {s e i g h : ℕ} → g ≤ h →
    IsPlacedAt sent m s e i g → IsPlacedAt sent_now m s e i h
placed-more more {g} up p = search arith

pub opened_at-more : {sent sent_now : List Message} → More sent sent_now → {m : ServerId} {s e i g h len : ℕ} → g ≤ h →
    IsOpenedAt sent m s e i g len → IsOpenedAt sent_now m s e i h len
opened_at-more more {g} up p = search arith

pub made-more : {sent sent_now : List Message} → More sent sent_now → {m : ServerId} {s o : ℕ} {entry : Entry} →
    HasMade sent m s o entry → HasMade sent_now m s o entry
made-more more p = record { message = p.message; among = more _ p.among; from = p.from; holds = p.holds }

pub opened-later : {sent : List Message} {m : ServerId} {old new : Log} → LogLater sent m old new → {s : ℕ} →
    IsOpened old s → IsOpened new s
opened-later {old} {new} later {s} p =
    record { above = p.above; below = (let one : s ≤ old.head = p.below in let two : old.head ≤ new.head = later.head in omega arith) }

-- New Places, each with what it must have
abbrev pub NewPlaces : List Message → List Message → ServerId → Log → Type 0
NewPlaces sent sent_now m old = (x : ServerId) (s e : ℕ) (digest : List ℕ) (entries : List Entry) (closed : Bool) →
    In (between m x (Place s e digest entries closed)) sent_now →
    In (between m x (Place s e digest entries closed)) sent ⊎ IsNewPlace sent m old x s e entries closed

-- no new Stored comes from an id of this host up to this generation
abbrev pub NoneNewUpTo : List Message → List Message → ServerId → ℕ → ℕ → Type 0
NoneNewUpTo sent sent_now m index generation = (x : ServerId) (s e len : ℕ) (closed : Bool) → x.index ≡ index →
    In (between x m (Stored s e len closed)) sent_now →
    In (between x m (Stored s e len closed)) sent ⊎ (x.generation ≤ generation → ⊥)

-- who was told of under an epoch that was there, and is a member, was one
pub member-before : {sent sent_now : List Message} {m : ServerId} {old : Log} → OwnFine sent m old → NewPlaces sent sent_now m old →
    {x : ServerId} (y : ServerId) {s e : ℕ} (len : ℕ) (closed : Bool) → In (between y m (Stored s e len closed)) sent →
    IsMember sent_now m s e x → IsMember sent m s e x
member-before {sent} {m} {old} fine new {x} y {s} {e} len closed told p = search arith

-- what is needed of the world in which a copy lives on
pub record CopyLives (sent sent_now : List Message) (m : ServerId) (old new : Log) (index generation : ℕ) : Type 0 where
  pub more : More sent sent_now
  pub later : LogLater sent_now m old new
  pub old_fine : OwnFine sent m old
  pub new_fine : OwnFine sent_now m new
  pub places : NewPlaces sent sent_now m old
  pub one_a_host : (s e : ℕ) (x y : ServerId) → IsMember sent_now m s e x → IsMember sent_now m s e y → x.index ≡ y.index → x ≡ y
  pub none : NoneNewUpTo sent sent_now m index generation

-- what is not above its host's copy, told before or after
above-later : {sent sent_now : List Message} {m : ServerId} {old new : Log} {index generation s e : ℕ} {closed : Bool}
    {len : ℕ} {digest : List ℕ} →
    CopyLives sent sent_now m old new index generation → IsCopy sent m old index generation s e closed len digest →
    {x : ServerId} {told_len o : ℕ} (told_mark : Bool) → x.index ≡ index → IsMember sent_now m s e x → o < told_len →
    In (between x m (Stored s e told_len told_mark)) sent_now → o < len
above-later {sent} {sent_now} {m} {old} {new} {index} {generation} {s} {e} {closed} {len} {digest} w c {x} {told_len}
    {o} told_mark on p above told =
    by (w.none x s e told_len told_mark on told)
  where
    new_told : IsTold sent_now m new x s e told_len told_mark
    new_told = w.new_fine.told x s e told_len told_mark told

    -- a closed copy is whole
    if_closed : closed ≡ true → o < len
    if_closed shut_so = search (arith, final-log, new_told)

    -- an open one was opened at the one member of its host
    if_open : (x.generation ≤ generation → ⊥) → closed ≡ false → o < len
    if_open not_upto open_so =
        let at : IsOpenedAt sent m s e index generation len = c.opened_at open_so in
        let q : IsMember sent_now m s e at.to = record { digest = at.digest; entries = at.entries; placed = w.more _ at.placed } in
        let same : at.to ≡ x = w.one_a_host s e at.to x q p (at.host ∙ sym on) in
        absurd (not_upto (subst (λ (y : ServerId). y.generation ≤ generation) same at.since))

    by : In (between x m (Stored s e told_len told_mark)) sent ⊎ (x.generation ≤ generation → ⊥) → o < len
    by (inl there) = c.above x o on (member-before w.old_fine w.places x told_len told_mark there p)
        (record { len = told_len; closed = told_mark; above = above; told = there })
    by (inr fresh) = split closed if_closed (if_open fresh)

closed-later : {sent sent_now : List Message} {m : ServerId} {old new : Log} {index generation s e : ℕ} {closed : Bool}
    {len : ℕ} {digest : List ℕ} →
    CopyLives sent sent_now m old new index generation → IsCopy sent m old index generation s e closed len digest →
    {x : ServerId} → x.index ≡ index → IsMember sent_now m s e x → HasToldClosed sent_now x m s e → closed ≡ true
closed-later {sent} {sent_now} {m} {index} {generation} {s} {e} {closed} {len} {digest} w c {x} on p t = by
    (w.none x s e t.len true on t.told)
  where
    if_open : (x.generation ≤ generation → ⊥) → closed ≡ false → closed ≡ true
    if_open not_upto open_so =
        let at : IsOpenedAt sent m s e index generation len = c.opened_at open_so in
        let q : IsMember sent_now m s e at.to = record { digest = at.digest; entries = at.entries; placed = w.more _ at.placed } in
        let same : at.to ≡ x = w.one_a_host s e at.to x q p (at.host ∙ sym on) in
        absurd (not_upto (subst (λ (y : ServerId). y.generation ≤ generation) same at.since))

    by : In (between x m (Stored s e t.len true)) sent ⊎ (x.generation ≤ generation → ⊥) → closed ≡ true
    by (inl there) = c.closed_too x on (member-before w.old_fine w.places x t.len true there p)
        (record { len = t.len; told = there })
    by (inr fresh) = split closed (λ (shut_so : closed ≡ true). shut_so) (if_open fresh)

-- a copy lives on
pub copy-later : {sent sent_now : List Message} {m : ServerId} {old new : Log} {index generation s e : ℕ}
    {closed : Bool} {len : ℕ} {digest : List ℕ} →
    CopyLives sent sent_now m old new index generation → IsCopy sent m old index generation s e closed len digest →
    IsCopy sent_now m new index generation s e closed len digest
copy-later {sent} {m} {old} {new} {s} {closed} {len} {digest} w c = record {
  opened = opened-later w.later c.opened;
  made = λ o below.
      let one : (entry : Entry) × (slice_get (log_in old s) o ≡ Some entry) × HasMade sent m s o entry = c.made o below in (
        one.0,
        get-begins (log_in old s) (grows-log w.later s) o one.1,
        made-more w.more one.2,
      );
  within = (let a : len ≤ length (log_in old s) = c.within in
      let b : length (log_in old s) ≤ length (log_in new s) =
      begins-length (log_in old s) (log_in new s) (grows-log w.later s) in
      omega arith);
  whole = λ shut_so.
      let one : (s < old.head) × (len ≡ length (log_in old s)) = c.whole shut_so in
      let up : old.head ≤ new.head = w.later.head in
      (omega arith, one.1 ∙ sym (ap length (final-log w.later one.0)));
  placed = placed-more w.more (omega arith) c.placed;
  opened_at = λ open_so. opened_at-more w.more (omega arith) (c.opened_at open_so);
  digest_is = c.digest_is ∙ sym (w.later.digest s c.opened.above c.opened.below);
  above = λ x o on p t. above-later w c t.closed on p t.above t.told;
  closed_too = λ x on p t. closed-later w c on p t;
}
