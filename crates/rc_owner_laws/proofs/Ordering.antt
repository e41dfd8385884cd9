-- Commits are asked in the order of segments.
use Rattle.std.proofs.Common.{◌≡◌, ◌⊎◌, ℕ, zero, suc, ◌<◌, ◌≤◌, Bool, true, false, List, [], ◌∷◌, ◌++◌}
use Rattle.std.proofs.Common.{length, filter, drop, Some, refl, sym, ap, ◌∙◌, subst, inl, inr, arith}
use Rattle.std.specs.List.{All}
use Rattle.std.proofs.lemmas.Bool.{and_parts}
use Rattle.std.proofs.lemmas.List.Elements.{All-nil, All-cons}
use Rattle.rc_model.specs.Model.{ServerId, Entry, Message, Body, Append, Commit, Setup, to_coordinator, Segment, with_entry, Log}
use Rattle.rc_model.specs.Model.{LogPlace, head_of, numbers_to, durable_now, Master, with_log, ids_of, not_lost, appends_entry, write_oks}
use Rattle.rc_model.specs.Model.{new_durable, first_open, commits, commits_again, awaits_commit, In}
use Rattle.rc_model.proofs.Members.{In-append, In-map, In-filter}
use Rattle.rc_step_laws.specs.Facts.{GoodMaster}
use Rattle.rc_owner_laws.specs.CommitClaims.{CommitsAreAskedInOrder, CommitsAreOfPlaced, CommitsAreOfTheTold}
use Rattle.rc_owner_laws.proofs.Hearing.{members-have-told}
use Rattle.rc_model.proofs.StepSends.{first-open}
use Rattle.rc_step_laws.specs.WordClaims.{sent_after}
use Rattle.rc_step_laws.proofs.InEvents.{commits-are-due-each}
use Rattle.rc_owner_laws.proofs.QuietSteps.{is_loud, AllSoft, soft-ids, QuietLog, All-In}
use Rattle.rc_owner_laws.proofs.Walk.{IsKept, takes-kept, tick-kept}
use Rattle.rc_step_laws.proofs.EachMaster.{OthersSay, IsKeptByAll, kept-replay}
use Rattle.rc_owner_laws.proofs.Settling.{ok_of}
use Rattle.rc_model.proofs.Tests.{true_false, either}
use Rattle.rc_model.proofs.Tables.{put_each}

-- the segment is one of the log, and each earlier one is shut
pub record IsNext (log : Log) (s : ℕ) : Type 0 where
  pub upto : s ≤ log.head
  pub shut : (t : ℕ) → 0 < t → t < s → (log.segments t).shut ≡ true

-- each segment whose commit was asked is such a one
abbrev Ordered : Log → Type 0
Ordered log = (s : ℕ) → (log.segments s).commit_sent ≡ true → IsNext log s

-- a later log: shut is for good
record ShutStays (old new : Log) : Type 0 where
  head : old.head ≤ new.head
  shut : (s : ℕ) → s ≤ old.head → (old.segments s).shut ≡ true → (new.segments s).shut ≡ true

next-later : {old new : Log} {s : ℕ} → ShutStays old new → IsNext old s → IsNext new s
next-later later p = search arith

-- what is said of commits in a step
abbrev Says : Log → ServerId → List Message → Type 0
Says log own messages = (s e : ℕ) → In (to_coordinator own (Commit s e)) messages → IsNext log s

record Orders (old : Master) (after : Master × List Message) : Type 0 where
  own : after.0.log.own ≡ old.log.own
  later : ShutStays old.log after.0.log
  ordered : Ordered old.log → Ordered after.0.log
  says : Ordered old.log → Says after.0.log old.log.own after.1

orders-both : (a b : Master) (first : List Message) (after : Master × List Message) → Orders a (b, first) →
    Orders b after → Orders a (after.0, first ++ after.1)
orders-both a b first after p q = record {
  own = q.own ∙ p.own;
  later = record {
    head = omega (arith, p.later.head, q.later.head);
    shut = λ s upto e. q.later.shut s (omega (arith, upto, p.later.head)) (p.later.shut s upto e);
  };
  ordered = λ h. q.ordered (p.ordered h);
  says = λ h s e at. by h s e (In-append (to_coordinator a.log.own (Commit s e)) first after.1 at);
}
  where
    by : Ordered a.log → (s e : ℕ) → In (to_coordinator a.log.own (Commit s e)) first ⊎
        In (to_coordinator a.log.own (Commit s e)) after.1 → IsNext after.0.log s
    by h s e (inl at) = next-later q.later (p.says h s e at)
    by h s e (inr at) = q.says (p.ordered h) s e (subst (λ (own : ServerId). In (to_coordinator own (Commit s e)) after.1) (sym p.own) at)

-- messages without a Commit
abbrev is_commit : Body → Bool
is_commit (Commit s e) = true
is_commit _ = false

no-commit : (log : Log) (own : ServerId) (messages : List Message) →
    All (λ message. is_commit message.body ≡ false) messages → Says log own messages
no-commit log own messages none s e at =
    true_false (All-In (λ (message : Message). is_commit message.body ≡ false) messages
    (to_coordinator own (Commit s e)) none at)

soft-commit : (body : Body) → is_loud body ≡ false → is_commit body ≡ false
soft-commit (Commit s e) soft = true_false soft
soft-commit _ soft = refl

soft-says : {log : Log} (own : ServerId) (messages : List Message) → AllSoft messages → Says log own messages
soft-says {log} own messages soft = no-commit log own messages (λ k d less. soft-commit _ (soft k d less))

-- the same marks
orders-same : {old new : Master} {messages : List Message} → new.log.own ≡ old.log.own → ShutStays old.log new.log →
    ((s : ℕ) → (new.log.segments s).commit_sent ≡ true → (old.log.segments s).commit_sent ≡ true) →
    (Ordered old.log → Says new.log old.log.own messages) → Orders old (new, messages)
orders-same own later asked says = search (arith, next-later)

orders-quiet : (old new : Master) (messages : List Message) → QuietLog old.log new.log → AllSoft messages → Orders old (new, messages)
orders-quiet old new messages q soft =
    orders-same q.own (record { head = q.head; shut = q.shut }) q.asked (λ _. soft-says old.log.own messages soft)

orders-appends : {master : Master} (entry : Entry) (client : Bool) → Orders master (appends_entry master entry client)
orders-appends {master} entry client = orders-same refl
    (record {
      head = omega arith;
      shut = λ s upto. put_each (λ k (one : Segment). (master.log.segments k).shut ≡ true → one.shut ≡ true)
          master.log.segments master.log.head (with_entry entry client (head_of master.log)) (λ e. e) (λ k e. e) s;
    }) (put_each (λ k (one : Segment). one.commit_sent ≡ true → (master.log.segments k).commit_sent ≡ true)
    master.log.segments master.log.head (with_entry entry client (head_of master.log)) (λ e. e) (λ k e. e))
    (λ _. soft-says master.log.own (appends_entry master entry client).1
    (soft-ids master.log.own (ids_of (not_lost (head_of master.log).config.members))
    (Append master.log.head (length (head_of master.log).entries) (entry ∷ [])) refl))

oks-no_commit : (own : ServerId) (places : List LogPlace) → All (λ message. is_commit message.body ≡ false) (write_oks own places)
oks-no_commit own [] = All-nil (λ message. is_commit message.body ≡ false)
oks-no_commit own (place ∷ places) =
    either (All (λ message. is_commit message.body ≡ false)) place.client (ok_of own place ∷ write_oks own places) (write_oks own places)
    (λ _. All-cons (λ message. is_commit message.body ≡ false) (ok_of own place) (write_oks own places) refl
    (oks-no_commit own places)) (λ _. oks-no_commit own places)

orders-counts : {master : Master} → Orders master (
  with_log master (record master.log { durable = durable_now master.log }),
  write_oks master.log.own (new_durable master.log),
)
orders-counts {master} = orders-same refl (record { head = omega arith; shut = λ s upto e. e }) (λ s e. e)
    (λ _. no-commit _ master.log.own (write_oks master.log.own (new_durable master.log))
    (oks-no_commit master.log.own (new_durable master.log)))

orders-commits : (master : Master) (seg : ℕ) → first_open master.log ≡ Some seg → Orders master (commits master seg)
orders-commits master seg found = search (arith, next-later, first-open, put_each)

orders-again : (master : Master) → Orders master (master, commits_again master.log)
orders-again master = orders-same refl (record { head = omega arith; shut = λ s upto e. e }) (λ s e. e) said
  where
    again : ℕ → Message
    again seg = to_coordinator master.log.own (Commit seg (master.log.segments seg).config.epoch)

    one-commit : (a b c d : ℕ) → Commit a b ≡ Commit c d → a ≡ c
    one-commit a b c d e = cc

    said : Ordered master.log → Says master.log master.log.own (commits_again master.log)
    said h s e at =
        let found = In-map (λ seg. to_coordinator master.log.own (Commit seg (master.log.segments seg).config.epoch))
        (to_coordinator master.log.own (Commit s e)) (filter (λ seg. awaits_commit (master.log.segments seg))
        (numbers_to master.log.head)) at in
        by found.0 (one-commit s e found.0 (master.log.segments found.0).config.epoch
        (ap (λ (message : Message). message.body) found.2))
        (In-filter (λ seg. awaits_commit (master.log.segments seg)) found.0 (numbers_to master.log.head) found.1).1
      where
        by : (seg : ℕ) → s ≡ seg → awaits_commit (master.log.segments seg) ≡ true → IsNext master.log s
        by seg same awaits = subst (IsNext master.log) (sym same) (h seg (and_parts (master.log.segments seg).commit_sent _ awaits).0)

orders-kept : IsKept (λ entry. Unit {0}) Orders
orders-kept = search (arith, orders-both, orders-quiet, orders-appends, orders-again, orders-counts, orders-commits)

-- A world

record InOrder (sent : List Message) (m : ServerId) (master : Master) : Type 0 where
  ordered : Ordered master.log
  said : (s e : ℕ) → In (to_coordinator m (Commit s e)) sent → IsNext master.log s

order-after : {sent : List Message} {m : ServerId} {master : Master} {after : Master × List Message} →
    GoodMaster sent m master → InOrder sent m master → Orders master after → InOrder (sent ++ after.1) m after.0
order-after {sent} {m} {after} good p step = record {
  ordered = step.ordered p.ordered;
  said = λ s e at. by s e (In-append (to_coordinator m (Commit s e)) sent after.1 at);
}
  where
    by : (s e : ℕ) → In (to_coordinator m (Commit s e)) sent ⊎ In (to_coordinator m (Commit s e)) after.1 → IsNext after.0.log s
    by s e (inl at) = next-later step.later (p.said s e at)
    by s e (inr at) = step.says p.ordered s e (subst (λ (own : ServerId). In (to_coordinator own (Commit s e)) after.1) (sym good.own) at)

order-others : (sent messages : List Message) (m : ServerId) (master : Master) → InOrder sent m master →
    OthersSay m messages → InOrder (sent ++ messages) m master
order-others sent messages m master p others = record {
  ordered = p.ordered;
  said = λ s e at. by s e (In-append (to_coordinator m (Commit s e)) sent messages at);
}
  where
    by : (s e : ℕ) → In (to_coordinator m (Commit s e)) sent ⊎ In (to_coordinator m (Commit s e)) messages → IsNext master.log s
    by s e (inl at) = p.said s e at
    by s e (inr at) = true_false (sym (others (to_coordinator m (Commit s e)) at refl))

order-kept : {setup : Setup} → IsKeptByAll setup InOrder
order-kept = record {
  opened = λ m. record { ordered = λ s never. true_false (sym never); said = λ s e at. absurd at };
  led = record {
    same = λ sent m master p. p;
    others = order-others;
    takes = λ sent m master from body good p at. order-after good p
        (takes-kept (λ entry. Unit {0}) Orders orders-kept from (λ table key value under e. tt));
    ticks = λ sent m master good p. order-after good p (tick-kept (λ entry. Unit {0}) Orders orders-kept master);
  };
}

pub commits-are-asked-in-order : CommitsAreAskedInOrder
commits-are-asked-in-order setup events m s e t at above less =
    ((kept-replay setup InOrder order-kept events m).said s e at).shut t above less

-- and of segments that are placed
in-drop : {X : Type 0} (x : X) (n : ℕ) (xs : List X) → In x (drop n xs) → In x xs
in-drop x zero xs at = at
in-drop x (suc n) [] at = absurd at
in-drop x (suc n) (y ∷ xs) at = inr (in-drop x n xs at)

pub commits-are-of-placed : CommitsAreOfPlaced
commits-are-of-placed setup events one m s e at = (
  (commits-are-due-each setup events one m (to_coordinator m (Commit s e)) at refl s e refl).placed,
  λ t above less. commits-are-asked-in-order setup (events ++ one ∷ []) m s e t
      (in-drop (to_coordinator m (Commit s e)) (length (sent_after setup events)) (sent_after setup (events ++ one ∷ [])) at) above less,
)

pub commits-are-of-the-told : CommitsAreOfTheTold
commits-are-of-the-told setup events one m s e at x member = search (arith, commits-are-of-placed, members-have-told)
