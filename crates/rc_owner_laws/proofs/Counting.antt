-- A master acknowledges exactly the clients' writes among the places that it counts as durable, each once.
use Rattle.std.proofs.Common.{◌≡◌, ℕ, zero, suc, ◌+◌, ◌<◌, ◌≤◌, Bool, true, false, cond, nat_eq, ◌&&◌, List, [], ◌∷◌}
use Rattle.std.proofs.Common.{◌++◌, length, take, drop, filter, refl, sym, ap, ◌∙◌, subst, inl, inr, arith}
use Rattle.std.specs.List.{All}
use Rattle.std.proofs.lemmas.Bool.{eqb-true}
use Rattle.std.proofs.lemmas.List.{append-nil, append_assoc, take-append-drop, take-append-le, length-append}
use Rattle.std.proofs.lemmas.List.Elements.{All-nil, All-cons, All-head, All-tail, All-map, filter-append}
use Rattle.rc_model.specs.Model.{ServerId, Addr, Server, Entry, Message, Body, Append, WriteOk, Commit, Setup, is_server, to_outside}
use Rattle.rc_model.specs.Model.{to_coordinator, Segment, with_entry, Log, LogPlace, places_in, places_to, places_of, head_of, numbers_to}
use Rattle.rc_model.specs.Model.{durable_now, appends, Master, with_log, ids_of, not_lost, appends_entry, write_oks, new_durable, commits}
use Rattle.rc_model.specs.Model.{master_takes, master_ticks, commits_again, awaits_commit, In}
use Rattle.rc_step_laws.specs.Facts.{GoodMaster}
use Rattle.rc_step_laws.proofs.Places.{durable-within, places_to-same}
use Rattle.rc_owner_laws.specs.AckClaims.{is_write_ok, is_ack_of, acks_in, counted_places, CountedIsAcknowledged}
use Rattle.rc_owner_laws.proofs.QuietSteps.{is_loud, AllSoft, soft-ids, QuietLog, put-beside, others-soft}
use Rattle.rc_owner_laws.proofs.Walk.{IsKept, takes-kept, tick-kept}
use Rattle.rc_step_laws.proofs.EachMaster.{OthersSay, IsKeptByAll, kept-replay}
use Rattle.rc_model.proofs.Tables.{put-same}
use Rattle.rc_model.proofs.Ids.{same_id-refl}
use Rattle.rc_model.proofs.Tests.{true_false, either}
use Rattle.rc_model.proofs.Said.{is_server-true}

-- Lists

filter-none : {X : Type 0} (test : X → Bool) (xs : List X) → All (λ x. test x ≡ false) xs → filter test xs ≡ []
filter-none test [] all = refl
filter-none {X} test (x ∷ xs) all =
    ap (λ b. cond b (x ∷ filter test xs) (filter test xs)) (All-head (λ (y : X). test y ≡ false) x xs all) ∙
    filter-none test xs (All-tail (λ (y : X). test y ≡ false) x xs all)

filter-all : {X : Type 0} (test : X → Bool) (xs : List X) → All (λ x. test x ≡ true) xs → filter test xs ≡ xs
filter-all test [] all = refl
filter-all {X} test (x ∷ xs) all =
    ap (λ b. cond b (x ∷ filter test xs) (filter test xs)) (All-head (λ (y : X). test y ≡ true) x xs all)
    ∙ ap (λ rest. x ∷ rest) (filter-all test xs (All-tail (λ (y : X). test y ≡ true) x xs all))

-- what passes the test is a member of what is filtered
pub filter-in : {X : Type 0} (test : X → Bool) (xs : List X) (x : X) → In x xs → test x ≡ true → In x (filter test xs)
filter-in test [] x at is = absurd at
filter-in test (y ∷ xs) x (inl same) is =
    either (In x) (test y) (y ∷ filter test xs) (filter test xs) (λ _. inl same) (λ isn't. true_false (sym is ∙ (ap test same ∙ isn't)))
filter-in test (y ∷ xs) x (inr rest) is =
    either (In x) (test y) (y ∷ filter test xs) (filter test xs) (λ _. inr (filter-in test xs x rest is)) (λ _. filter-in test xs x rest is)

All-from_In : {X : Type 0} (P : X → Type 0) (xs : List X) → ((x : X) → In x xs → P x) → All P xs
All-from_In P [] each = All-nil P
All-from_In P (x ∷ xs) each = All-cons P x xs (each x (inl refl)) (All-from_In P xs (λ y at. each y (inr at)))

take-take : {X : Type 0} (n m : ℕ) (xs : List X) → n ≤ m → take n (take m xs) ≡ take n xs
take-take zero m xs less = refl
take-take (suc n) zero xs less = absurd (omega (arith, less))
take-take (suc n) (suc m) [] less = refl
take-take (suc n) (suc m) (x ∷ xs) less = ap (λ rest. x ∷ rest) (take-take n m xs (omega (arith, less)))

-- what counts more, counts the same and then more
counted-more : {X : Type 0} {n m : ℕ} (xs : List X) → n ≤ m → take n xs ++ drop n (take m xs) ≡ take m xs
counted-more {n} {m} xs less = ap (λ l. l ++ drop n (take m xs)) (sym (take-take n m xs less)) ∙ take-append-drop n (take m xs)

-- Acknowledgements

pub and-false : (a : Bool) {b : Bool} → b ≡ false → (a && b) ≡ false
and-false true e = e
and-false false e = refl

-- what isn't loud is no acknowledgement
soft-body : (body : Body) → is_loud body ≡ false → is_write_ok body ≡ false
soft-body (WriteOk seg offset term table key version) e = true_false (sym (sym e))
soft-body _ e = refl

soft-no_acks : (own : ServerId) (messages : List Message) → AllSoft messages → acks_in own messages ≡ []
soft-no_acks own messages soft =
    filter-none (is_ack_of own) messages (λ k d less. and-false _ (soft-body _ (soft k d less)))

pub oks-append : (own : ServerId) (first second : List LogPlace) →
    write_oks own (first ++ second) ≡ write_oks own first ++ write_oks own second
oks-append own [] second = refl
oks-append own (place ∷ first) second = either (λ (messages : List Message).
    cond place.client (to_outside own (WriteOk place.seg place.offset place.entry.term place.entry.table
    place.entry.key place.entry.version) ∷ write_oks own (first ++ second)) (write_oks own (first ++ second)) ≡
    messages ++ write_oks own second) place.client
    (to_outside own (WriteOk place.seg place.offset place.entry.term place.entry.table place.entry.key
    place.entry.version) ∷ write_oks own first) (write_oks own first)
    (λ e. ap (λ b. cond b (to_outside own (WriteOk place.seg place.offset place.entry.term place.entry.table
    place.entry.key place.entry.version) ∷ write_oks own (first ++ second)) (write_oks own (first ++ second))) e
    ∙ ap (λ (rest : List Message).
    to_outside own (WriteOk place.seg place.offset place.entry.term place.entry.table place.entry.key
    place.entry.version) ∷ rest) (oks-append own first second))
    (λ e. ap (λ b. cond b (to_outside own (WriteOk place.seg place.offset place.entry.term place.entry.table
    place.entry.key place.entry.version) ∷ write_oks own (first ++ second)) (write_oks own (first ++ second))) e
    ∙ oks-append own first second)

pub server-own : (own : ServerId) → is_server own (Server own) ≡ true
server-own own = same_id-refl own

-- each is one of its own
oks-are_acks : (own : ServerId) (places : List LogPlace) → All (λ message. is_ack_of own message ≡ true) (write_oks own places)
oks-are_acks own [] = All-nil (λ message. is_ack_of own message ≡ true)
oks-are_acks own (place ∷ places) = either (All (λ message. is_ack_of own message ≡ true)) place.client
    (to_outside own (WriteOk place.seg place.offset place.entry.term place.entry.table place.entry.key
    place.entry.version) ∷ write_oks own places) (write_oks own places)
    (λ e. All-cons (λ message. is_ack_of own message ≡ true)
    (to_outside own (WriteOk place.seg place.offset place.entry.term place.entry.table place.entry.key
    place.entry.version)) (write_oks own places) (ap (λ b. b && true) (server-own own)) (oks-are_acks own places))
    (λ e. oks-are_acks own places)

-- Appending

pub places_in-more : (seg offset : ℕ) (xs more : List (Entry × Bool)) →
    places_in seg offset (xs ++ more) ≡ places_in seg offset xs ++ places_in seg (offset + length xs) more
places_in-more seg offset [] more = ap (λ n. places_in seg n more) (omega arith)
places_in-more seg offset (one ∷ xs) more =
    ap (λ (rest : List LogPlace). record { seg = seg; offset = offset; entry = one.0; client = one.1 } ∷ rest)
    (places_in-more seg (offset + 1) xs more ∙ ap (λ n. places_in seg (offset + 1) xs ++ places_in seg n more) (omega arith))

-- the place that is added: none where there is no segment
abbrev pub added : ℕ → ℕ → Entry × Bool → List LogPlace
added zero len one = []
added (suc n) len one = places_in (suc n) len (one ∷ [])

-- the places after an entry is appended to the last segment: those before, and then its place
pub places-appended : (segments : ℕ → Segment) (n : ℕ) (one : Entry × Bool) →
    places_to (λ s. cond (nat_eq n s) (with_entry one.0 one.1 (segments n)) (segments s)) n ≡ places_to segments n ++
    added n (length (segments n).entries) one
places-appended segments zero one = refl
places-appended segments (suc n) one =
    search (arith, places_to-same, put-beside, put-same, places_in-more, append_assoc)

-- A step

abbrev Within : Log → Type 0
Within log = log.durable ≤ length (places_of log)

-- what a log counts is acknowledged
abbrev acked : Log → List Message
acked log = write_oks log.own (counted_places log)

pub record Acks (old : Master) (after : Master × List Message) : Type 0 where
  pub own : after.0.log.own ≡ old.log.own
  pub factor : after.0.log.factor ≡ old.log.factor
  pub within : Within old.log → Within after.0.log
  pub acked_more : Within old.log → acked after.0.log ≡ acked old.log ++ acks_in old.log.own after.1

acks-both : (a b : Master) (first : List Message) (after : Master × List Message) → Acks a (b, first) → Acks b after →
    Acks a (after.0, first ++ after.1)
acks-both a b first after p q = search (arith, append_assoc, filter-append)

-- the same places and count, and nothing acknowledged
acks-same : {old new : Master} {messages : List Message} → new.log.own ≡ old.log.own → new.log.factor ≡ old.log.factor →
    new.log.durable ≡ old.log.durable → places_of new.log ≡ places_of old.log →
    acks_in old.log.own messages ≡ [] → Acks old (new, messages)
acks-same {old} {new} own factor durable places none = search (arith, append-nil)

acks-quiet : (old new : Master) (messages : List Message) → QuietLog old.log new.log → AllSoft messages → Acks old (new, messages)
acks-quiet old new messages q soft = acks-same q.own q.factor q.durable q.places (soft-no_acks old.log.own messages soft)

acks-appends : {master : Master} (entry : Entry) (client : Bool) → Acks master (appends_entry master entry client)
acks-appends {master} entry client = record {
  own = refl;
  factor = refl;
  within = λ h. subst (λ l. master.log.durable ≤ length l) (sym longer) (omega (arith, h, length-append (places_of master.log) more));
  acked_more = λ h. ap (λ l. write_oks master.log.own (take master.log.durable l)) longer
      ∙ (ap (write_oks master.log.own) (take-append-le master.log.durable (places_of master.log) more h)
      ∙ (sym (append-nil (acked master.log))
      ∙ ap (λ l. acked master.log ++ l) (sym (soft-no_acks master.log.own (appends_entry master entry client).1
      (soft-ids master.log.own (ids_of (not_lost (head_of master.log).config.members))
      (Append master.log.head (length (head_of master.log).entries) (entry ∷ [])) refl)))));
}
  where
    more : List LogPlace
    more = added master.log.head (length (head_of master.log).entries) (entry, client)

    longer : places_of (appends entry client master.log) ≡ places_of master.log ++ more
    longer = places-appended master.log.segments master.log.head (entry, client)

acks-counts : (master : Master) → master.log.durable < durable_now master.log → Acks master (
  with_log master (record master.log { durable = durable_now master.log }),
  write_oks master.log.own (new_durable master.log),
)
acks-counts master less = record {
  own = refl;
  factor = refl;
  within = λ h. durable-within master.log;
  acked_more = λ h. ap (write_oks master.log.own) (sym (counted-more (places_of master.log) (omega (arith, less))))
      ∙ (oks-append master.log.own (take master.log.durable (places_of master.log)) (new_durable master.log)
      ∙ ap (λ l. acked master.log ++ l)
      (sym (filter-all (is_ack_of master.log.own) (write_oks master.log.own (new_durable master.log))
      (oks-are_acks master.log.own (new_durable master.log)))));
}

-- a Commit is no acknowledgement
commit-no_ack : (own : ServerId) (s e : ℕ) → is_ack_of own (to_coordinator own (Commit s e)) ≡ false
commit-no_ack own s e = and-false (is_server own (Server own)) refl

acks-commits : {master : Master} {seg : ℕ} → Acks master (commits master seg)
acks-commits {master} {seg} = acks-same refl refl refl
    (places_to-same master.log.segments (commits master seg).0.log.segments master.log.head
    (λ s upto. either (λ (one : Segment). one.entries ≡ (master.log.segments s).entries) (nat_eq seg s)
    (record (master.log.segments seg) { commit_sent = true }) (master.log.segments s)
    (λ e. ap (λ k. (master.log.segments k).entries) (eqb-true seg s e)) (λ _. refl)))
    (filter-none (is_ack_of master.log.own) (commits master seg).1
    (All-cons (λ message. is_ack_of master.log.own message ≡ false)
    (to_coordinator master.log.own (Commit seg (master.log.segments seg).config.epoch)) []
    (commit-no_ack master.log.own seg (master.log.segments seg).config.epoch)
    (All-nil (λ message. is_ack_of master.log.own message ≡ false))))

acks-again : (master : Master) → Acks master (master, commits_again master.log)
acks-again master = acks-same refl refl refl refl (filter-none (is_ack_of master.log.own) (commits_again master.log)
    (All-map (λ message. is_ack_of master.log.own message ≡ false)
    (λ seg. to_coordinator master.log.own (Commit seg (master.log.segments seg).config.epoch))
    (filter (λ seg. awaits_commit (master.log.segments seg)) (numbers_to master.log.head))
    (λ k d less. and-false (is_server master.log.own (Server master.log.own)) refl)))

pub acks-kept : IsKept (λ entry. Unit {0}) Acks
acks-kept = search (arith, acks-both, acks-quiet, acks-appends, acks-again, acks-counts, acks-commits)

pub acks-takes : {master : Master} (from : Addr) (body : Body) → Acks master (master_takes master from body)
acks-takes from body = takes-kept (λ entry. Unit {0}) Acks acks-kept from (λ table key value under e. tt)

pub acks-ticks : (master : Master) → Acks master (master_ticks master)
acks-ticks master = tick-kept (λ entry. Unit {0}) Acks acks-kept master

-- A world

abbrev Acked : List Message → ServerId → Master → Type 0
Acked sent m master = acks_in m sent ≡ write_oks m (counted_places master.log)

acked-others : (sent messages : List Message) (m : ServerId) (master : Master) → Acked sent m master →
    OthersSay m messages → Acked (sent ++ messages) m master
acked-others sent messages m master p others = filter-append (is_ack_of m) sent messages
    ∙ (ap (λ l. acks_in m sent ++ l)
    (filter-none (is_ack_of m) messages (All-from_In (λ message. is_ack_of m message ≡ false) messages none)) ∙
    (append-nil (acks_in m sent) ∙ p))
  where
    none : (message : Message) → In message messages → is_ack_of m message ≡ false
    none message at = search (arith, soft-body, others-soft, is_server-true)

acked-after : {sent : List Message} {m : ServerId} {master : Master} {after : Master × List Message} →
    GoodMaster sent m master → Acked sent m master → Acks master after → Acked (sent ++ after.1) m after.0
acked-after {sent} {m} {master} {after} good p step = search (arith, filter-append)

acked-kept : {setup : Setup} → IsKeptByAll setup Acked
acked-kept = search (arith, acked-others, acked-after, acks-takes, acks-ticks)

pub counted-is-acknowledged : CountedIsAcknowledged
counted-is-acknowledged setup events m = kept-replay setup Acked acked-kept events m
