-- From one view of a master's log to a later one: what holds of the old one holds of the new.
use Rattle.std.proofs.Common.{◌≡◌, ◌⊎◌, ℕ, ◌+◌, ◌<◌, ◌≤◌, Bool, true, false, List, length, slice_get, Some, refl, sym}
use Rattle.std.proofs.Common.{ap, ◌∙◌, subst, inl, inr, arith}
use Rattle.rc_model.specs.Model.{ServerId, Entry, Message, Place, Stored, between, Log, In}
use Rattle.rc_step_laws.specs.All.{log_in, IsOpened, HasTold, HasToldClosed, IsMember, IsPlacedAt, IsCommitted, IsSafe, IsOutdated}
use Rattle.rc_step_laws.specs.All.{IsDead, IsDigest, IsPlace, IsAppend, IsClose, IsWriteOk, IsTold, LogLater, IsNewPlace, OwnFine}
use Rattle.rc_step_laws.proofs.Copies.{split, More, grows-log, final-log}
use Rattle.rc_step_laws.proofs.Lists.{begins-length, get-begins, begins-refl, begins-trans}
use Rattle.rc_model.proofs.Tests.{true_false}

-- What was told, placed or granted stays so

pub told-more : {sent sent_now : List Message} {x m : ServerId} {s e o : ℕ} → More sent sent_now →
    HasTold sent x m s e o → HasTold sent_now x m s e o
told-more more p = record { len = p.len; closed = p.closed; above = p.above; told = more _ p.told }

pub told_closed-more : {sent sent_now : List Message} {x m : ServerId} {s e : ℕ} → More sent sent_now →
    HasToldClosed sent x m s e → HasToldClosed sent_now x m s e
told_closed-more more p = record { len = p.len; told = more _ p.told }

pub member-more : {sent sent_now : List Message} {m : ServerId} {s e : ℕ} {x : ServerId} → More sent sent_now →
    IsMember sent m s e x → IsMember sent_now m s e x
member-more more p = record { digest = p.digest; entries = p.entries; placed = more _ p.placed }

pub placed_at-more : {sent sent_now : List Message} {m : ServerId} {s e index generation : ℕ} → More sent sent_now →
    IsPlacedAt sent m s e index generation → IsPlacedAt sent_now m s e index generation
placed_at-more more p = search arith

pub committed-more : (sent sent_now : List Message) (m : ServerId) (s : ℕ) {e : ℕ} → More sent sent_now →
    IsCommitted sent m s e → IsCommitted sent_now m s e
committed-more sent sent_now m s more (inl first) = inl first
committed-more sent sent_now m s more (inr granted) = inr (more _ granted)

-- The log itself

pub length-log : {sent : List Message} {m : ServerId} {old new : Log} → LogLater sent m old new → (s : ℕ) →
    length (log_in old s) ≤ length (log_in new s)
length-log {old} {new} later s = begins-length (log_in old s) (log_in new s) (grows-log later s)

pub get-log : (sent : List Message) (m : ServerId) (old new : Log) → LogLater sent m old new → (s o : ℕ) (entry : Entry)
    → slice_get (log_in old s) o ≡ Some entry → slice_get (log_in new s) o ≡ Some entry
get-log sent m old new later s o entry at = get-begins (log_in old s) (grows-log later s) o at

-- Later is reflexive and transitive, and stays true as more is sent

pub log_later-refl : {sent : List Message} {m : ServerId} {log : Log} → LogLater sent m log log
log_later-refl = search (arith, begins-refl)

-- a number between two equal ones
between_same : {a b c : ℕ} → a ≤ b → b ≤ c → c ≡ a → b ≡ a
between_same p q e = omega arith

pub log_later-trans : {sent sent_now : List Message} {m : ServerId} {one two three : Log} → More sent sent_now →
    LogLater sent m one two → LogLater sent_now m two three → LogLater sent_now m one three
log_later-trans {sent_now} {m} {one} {two} {three} more p q = record {
  head = omega (arith, p.head, q.head);
  grows = λ s. begins-trans (one.segments s).entries (p.grows s) (q.grows s);
  final = λ s below. q.final s (omega (arith, p.head)) ∙ p.final s below;
  digest = λ s above upto. q.digest s above (omega (arith, p.head)) ∙ p.digest s above upto;
  epoch = λ s upto. (let first = p.epoch s upto in let second = q.epoch s (omega (arith, p.head)) in omega arith);
  shut = λ s e. (let first = p.shut s e in let second = q.shut s first.0 in (second.0, second.1 ∙ first.1));
  joined = λ s x upto shut same at. (
      let middle : s ≤ two.head = omega (arith, p.head) in
      let here = still s upto same in
      split (two.segments s).shut (λ before. true_false (sym (q.shut s before).0 ∙ shut))
      (λ before. q.joined s x middle shut (same ∙ sym here) (p.joined s x upto before here at)));
  shuts = λ s x upto before shut same at. (
      let middle : s ≤ two.head = omega (arith, p.head) in
      let here = still s upto same in
      split (two.segments s).shut (λ now. subst (λ e. HasToldClosed sent_now x m s e) (sym (q.shut s now).1)
      (told_closed-more more (p.shuts s x upto before now here at)))
      (λ now. q.shuts s x middle now shut (same ∙ sym here) (p.joined s x upto now here at)));
}
  where
    still : (s : ℕ) → s ≤ one.head → (three.segments s).config.epoch ≡ (one.segments s).config.epoch →
        (two.segments s).config.epoch ≡ (one.segments s).config.epoch
    still s upto same = between_same (p.epoch s upto) (q.epoch s (omega (arith, p.head))) same

-- From an old view with what was sent then, to a new one with what is sent now

pub record Grown (sent sent_now : List Message) (m : ServerId) (old new : Log) : Type 0 where
  pub more : More sent sent_now
  pub later : LogLater sent_now m old new
  -- what is new of the Places
  pub places : (x : ServerId) (s e : ℕ) (digest : List ℕ) (entries : List Entry) (closed : Bool) →
      In (between m x (Place s e digest entries closed)) sent_now →
      In (between m x (Place s e digest entries closed)) sent ⊎ IsNewPlace sent m old x s e entries closed
  -- in the old view a shut segment stands below the head
  pub below : (s : ℕ) → (old.segments s).shut ≡ true → (0 < s) × (s < old.head)

opened-grown : {sent sent_now : List Message} {m : ServerId} {old new : Log} {s : ℕ} → Grown sent sent_now m old new →
    IsOpened old s → IsOpened new s
opened-grown grown p = record { above = p.above; below = omega (arith, p.below, grown.later.head) }

pub safe-grown : {sent sent_now : List Message} {m : ServerId} {old new : Log} {s o : ℕ} →
    Grown sent sent_now m old new → IsSafe sent m old s o → IsSafe sent_now m new s o
safe-grown {sent} {sent_now} {m} {old} {s} {o} grown p = record {
  opened = opened-grown grown p.opened;
  logged = (let longer = length-log grown.later s in omega (arith, p.logged));
  epoch = p.epoch;
  upto = (let higher = grown.later.epoch s p.opened.below in omega (arith, p.upto));
  granted = committed-more sent sent_now m s grown.more p.granted;
  told = λ x at. by x at (grown.places x s p.epoch at.digest at.entries false at.placed);
  later = λ x e digest entries closed above at. over x e digest entries closed above (grown.places x s e digest entries closed at);
  below = λ t above less. (grown.later.shut t (p.below t above less)).0;
}
  where
    told_by : (x : ServerId) → IsMember sent m s p.epoch x → HasTold sent_now x m s p.epoch o
    told_by x at = told-more grown.more (p.told x at)

    by : (x : ServerId) (at : IsMember sent_now m s p.epoch x) →
        In (between m x (Place s p.epoch at.digest at.entries false)) sent ⊎ IsNewPlace sent m old x s p.epoch
        at.entries false → HasTold sent_now x m s p.epoch o
    by x at (inl there) = told_by x (record { digest = at.digest; entries = at.entries; placed = there })
    by x at (inr new_one) = told_by x (new_one.known refl p.opened.below p.upto)

    over : (x : ServerId) (e : ℕ) (digest : List ℕ) (entries : List Entry) (closed : Bool) → p.epoch < e
        → In (between m x (Place s e digest entries closed)) sent ⊎ IsNewPlace sent m old x s e entries closed → o < length entries
    over x e digest entries closed above (inl there) = p.later x e digest entries closed above there
    over x e digest entries closed above (inr new_one) = omega (arith, p.logged, new_one.long)

pub outdated-grown : {sent sent_now : List Message} {m : ServerId} {old new : Log} {entry : Entry} →
    Grown sent sent_now m old new → IsOutdated sent m old entry → IsOutdated sent_now m new entry
outdated-grown {sent_now} {m} {old} {new} grown p = record {
  seg = p.seg;
  offset = p.offset;
  other = p.other;
  safe = safe-grown grown p.safe;
  holds = get-log sent_now m old new grown.later p.seg p.offset p.other p.holds;
  term = p.term;
  table = p.table;
  key = p.key;
  greater = p.greater;
}

pub dead-grown : {sent sent_now : List Message} {m : ServerId} {old new : Log} {t : ℕ} → Grown sent sent_now m old new →
    IsDead sent m old t → IsDead sent_now m new t
dead-grown {t} grown p = record {
  shut = (grown.later.shut t p.shut).0;
  outdated = λ o entry at. outdated-grown grown
      (p.outdated o entry (subst (λ entries. slice_get entries o ≡ Some entry)
      (final-log grown.later (grown.below t p.shut).1) at));
}

pub digest-grown : {sent sent_now : List Message} {m : ServerId} {old new : Log} {s : ℕ} {digest : List ℕ} →
    Grown sent sent_now m old new → IsDigest sent m old s digest → IsDigest sent_now m new s digest
digest-grown {sent} {sent_now} {m} {old} {new} {digest} grown p = record {
  own = p.own;
  upto = p.upto;
  lacks = λ t above less. by t (p.lacks t above less);
}
  where
    by : (t : ℕ) → In t digest ⊎ IsDead sent m old t → In t digest ⊎ IsDead sent_now m new t
    by t (inl there) = inl there
    by t (inr dead) = inr (dead-grown grown dead)

pub place-grown : {sent sent_now : List Message} {m : ServerId} {old new : Log} {x : ServerId} {s e : ℕ}
    {digest : List ℕ} {entries : List Entry} {closed : Bool} → Grown sent sent_now m old new
    → IsPlace sent m old x s e digest entries closed → IsPlace sent_now m new x s e digest entries closed
place-grown {sent_now} {m} {old} {new} {x} {s} {e} {digest} {entries} grown p = record {
  opened = opened-grown grown p.opened;
  epoch = (let higher = grown.later.epoch s p.opened.below in omega (arith, p.epoch));
  digest_is = p.digest_is ∙ sym (grown.later.digest s p.opened.above p.opened.below);
  begins = begins-trans entries p.begins (grows-log grown.later s);
  whole = λ is. (let was = p.whole is in
      ((grown.later.shut s was.0).0, was.1 ∙ sym (final-log grown.later (grown.below s was.0).1)));
  member = λ is same open_now. split (old.segments s).shut
      (λ was. true_false (sym (grown.later.shut s was).0 ∙ open_now))
      (λ was. grown.later.joined s x p.opened.below open_now (sym same ∙ here same) (p.member is (here same) was));
  told = λ is same shut_now. split (old.segments s).shut
      (λ was. told_closed-more grown.more (p.told is (here same) was))
      (λ was. subst (λ n. HasToldClosed sent_now x m s n) (sym same)
      (grown.later.shuts s x p.opened.below was shut_now (sym same ∙ here same) (p.member is (here same) was)));
}
  where
    squeezed : (a b c : ℕ) → c ≤ a → a ≤ b → c ≡ b → c ≡ a
    squeezed a b c p q r = omega arith

    here : e ≡ (new.segments s).config.epoch → e ≡ (old.segments s).config.epoch
    here same = squeezed _ _ _ p.epoch (grown.later.epoch s p.opened.below) same

pub append-grown : {sent sent_now : List Message} {m : ServerId} {old new : Log} {s offset : ℕ} {entries : List Entry} →
    Grown sent sent_now m old new → IsAppend old s offset entries → IsAppend new s offset entries
append-grown {sent_now} {m} {old} {new} {s} {offset} grown p = record {
  opened = opened-grown grown p.opened;
  stands = λ k entry at. get-log sent_now m old new grown.later s (offset + k) entry (p.stands k entry at);
}

pub close-grown : {sent sent_now : List Message} {m : ServerId} {old new : Log} {s len : ℕ} →
    Grown sent sent_now m old new → IsClose old s len → IsClose new s len
close-grown grown p = search (arith, final-log)

pub write_ok-grown : {sent sent_now : List Message} {m : ServerId} {old new : Log} {s o term table key version : ℕ} →
    Grown sent sent_now m old new
    → IsWriteOk sent m old s o term table key version → IsWriteOk sent_now m new s o term table key version
write_ok-grown {sent_now} {m} {old} {new} {s} {o} grown p = search (arith, safe-grown, get-log)

pub told-grown : {sent sent_now : List Message} {m : ServerId} {old new : Log} {x : ServerId} {s e len : ℕ}
    {closed : Bool} → Grown sent sent_now m old new
    → IsTold sent m old x s e len closed → IsTold sent_now m new x s e len closed
told-grown {s} grown p = record {
  opened = opened-grown grown p.opened;
  within = (let longer = length-log grown.later s in omega (arith, p.within));
  whole = λ is. (let was = p.whole is in (
    omega (arith, was.0, grown.later.head),
    was.1 ∙ ap length (sym (final-log grown.later was.0)),
  ));
  placed = placed_at-more grown.more p.placed;
}

-- the Places and what was told, given what is new of them
pub own_fine-grown : {sent sent_now : List Message} {m : ServerId} {old new : Log} → Grown sent sent_now m old new → OwnFine sent m old
    → ((x : ServerId) (s e : ℕ) (digest : List ℕ) (entries : List Entry) (closed : Bool) →
    In (between m x (Place s e digest entries closed)) sent_now →
    In (between m x (Place s e digest entries closed)) sent ⊎ IsPlace sent_now m new x s e digest entries closed)
    → ((x : ServerId) (s e len : ℕ) (closed : Bool) → In (between x m (Stored s e len closed)) sent_now →
    In (between x m (Stored s e len closed)) sent) → OwnFine sent_now m new
own_fine-grown {sent} {sent_now} {m} {new} grown fine new_places no_stored = record {
  places = λ x s e digest entries closed at. by x s e digest entries closed (new_places x s e digest entries closed at);
  told = λ x s e len closed at. told-grown grown (fine.told x s e len closed (no_stored x s e len closed at));
}
  where
    by : (x : ServerId) (s e : ℕ) (digest : List ℕ) (entries : List Entry) (closed : Bool) →
        In (between m x (Place s e digest entries closed)) sent ⊎ IsPlace sent_now m new x s e digest entries closed →
        IsPlace sent_now m new x s e digest entries closed
    by x s e digest entries closed (inl there) = place-grown grown (fine.places x s e digest entries closed there)
    by x s e digest entries closed (inr is) = is
