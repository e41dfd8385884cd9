-- What an operation that was answered had made stand, when a message of a later number was sent.
use Rattle.std.proofs.Common.{◌≡◌, ◌⊎◌, ℕ, zero, suc, ◌<◌, ◌≤◌, List, [], ◌∷◌, ◌++◌, length, take, drop, Some, slice_get}
use Rattle.std.proofs.Common.{refl, sym, ap, ◌∙◌, subst, inl, inr, arith}
use Rattle.rc_model.specs.Model.{ServerId, Server, Outside, Entry, Setup, Event, Message, Body, WriteOk, ReadOk, Ack}
use Rattle.rc_model.specs.Model.{to_outside, replay, In, HasAcknowledged}
use Rattle.rc_model.proofs.Members.{In-get}
use Rattle.rc_step_laws.proofs.Lists.{get-within}
use Rattle.rc_history.specs.Events.{StartsWith}
use Rattle.rc_history.proofs.Longer.{longer-sent}
use Rattle.rc_promises.specs.Service.{Answer, HasRead}
use Rattle.rc_promises.proofs.News.{WasRead, clients-are-heard}
use Rattle.rc_promises.specs.Confirmed.{HasSentFor}
use Rattle.rc_promises.specs.Linearizable.{Operation, IsWrite, IsRead, HasReplicas}
use Rattle.rc_promises.proofs.Senders.{IsEnd, requests-end}
use Rattle.rc_promises.proofs.Shown.{Finds, zero-or-more}
use Rattle.rc_promises.proofs.Stood.{Stood, IsShowing, acked-stood, shown-stood}

-- Lists

pub take-get : {X : Type 0} (n k : ℕ) (xs : List X) {x : X} → k < n → slice_get xs k ≡ Some x → slice_get (take n xs) k ≡ Some x
take-get zero k xs less e = absurd (omega (arith, less))
take-get (suc n) k [] less e = cc
take-get (suc n) zero (y ∷ xs) less e = e
take-get (suc n) (suc k) (y ∷ xs) less e = take-get n k xs (omega (arith, less)) e

pub take-length : {X : Type 0} (n : ℕ) (xs : List X) → n ≤ length xs → length (take n xs) ≡ n
take-length zero xs less = refl
take-length (suc n) [] less = absurd (omega (arith, less))
take-length (suc n) (y ∷ xs) less = (let rest : length (take n xs) ≡ n = take-length n xs (omega (arith, less)) in omega (arith, rest))

pub split-at : {X : Type 0} (n : ℕ) (xs : List X) {x : X} → slice_get xs n ≡ Some x → xs ≡ take n xs ++ x ∷ drop (suc n) xs
split-at n [] e = cc
split-at zero (y ∷ xs) {x} e = (let same : y ≡ x = cc in ap (λ z. z ∷ xs) same)
split-at (suc n) (y ∷ xs) e = ap (λ l. y ∷ l) (split-at n xs e)

-- of two beginnings of one list the one is a beginning of the other
pub which-begins : {X : Type 0} (xs r ys s : List X) → xs ++ r ≡ ys ++ s →
    ((more : List X) × (xs ++ more ≡ ys)) ⊎ ((more : List X) × (ys ++ more ≡ xs))
which-begins [] r ys s e = inl (ys, refl)
which-begins (x ∷ xs) r [] s e = inr (x ∷ xs, refl)
which-begins {X} (x ∷ xs) r (y ∷ ys) s e = by (which-begins xs r ys s (let tails : xs ++ r ≡ ys ++ s = cc in tails))
  where
    heads : x ≡ y
    heads = cc

    by : ((more : List X) × (xs ++ more ≡ ys)) ⊎ ((more : List X) × (ys ++ more ≡ xs)) →
        ((more : List X) × ((x ∷ xs) ++ more ≡ y ∷ ys)) ⊎ ((more : List X) × ((y ∷ ys) ++ more ≡ x ∷ xs))
    by (inl (more, is)) = inl (more, ap (λ l. x ∷ l) is ∙ ap (λ z. z ∷ ys) heads)
    by (inr (more, is)) = inr (more, ap (λ l. y ∷ l) is ∙ ap (λ z. z ∷ xs) (sym heads))

-- what was sent first for a place was sent
In-take-more : {X : Type 0} (n k : ℕ) (xs : List X) (x : X) → n ≤ k → In x (take n xs) → In x (take k xs)
In-take-more zero k xs x less at = absurd at
In-take-more (suc n) zero xs x less at = absurd (omega (arith, less))
In-take-more (suc n) (suc k) [] x less at = at
In-take-more (suc n) (suc k) (y ∷ xs) x less (inl e) = inl e
In-take-more (suc n) (suc k) (y ∷ xs) x less (inr rest) = inr (In-take-more n k xs x (omega (arith, less)) rest)

pub sent-more : {n k : ℕ} (sent : List Message) {m : ServerId} {s o : ℕ} → n ≤ k → HasSentFor (take n sent) m s o →
    HasSentFor (take k sent) m s o
sent-more {n} {k} sent less (entry, made) = (
  entry,
  record {
    message = made.message;
    among = In-take-more n k sent made.message less made.among;
    from = made.from;
    holds = made.holds;
  },
)

pub first-events : (setup : Setup) (early more : List Event) → length (replay setup early).sent ≤ length (replay setup (early ++ more)).sent
first-events setup early more =
    let starts : StartsWith (replay setup (early ++ more)).sent (replay setup early).sent =
    longer-sent setup (early ++ more) early (record { rest = more; same = refl }) in
    let long : length (replay setup (early ++ more)).sent ≡ length ((replay setup early).sent ++ starts.rest) = ap length starts.same in
    let both = Rattle.std.proofs.lemmas.List.length-append (replay setup early).sent starts.rest in
    omega (arith, long, both)

-- Answers

-- the master's answer, be it to a write or to a read
pub data IsAnswered (sent : List Message) (op : Operation) : Type 0 where
  written : (seg offset term : ℕ) → slice_get sent op.response
      ≡ Some (to_outside op.master (WriteOk seg offset term op.table op.key op.version)) → IsAnswered sent op
  shown : slice_get sent op.response ≡ Some (to_outside op.master (ReadOk op.table op.key op.version op.value)) → IsAnswered sent op

pub is-answered : {sent : List Message} {op : Operation} → IsWrite sent op ⊎ IsRead sent op → IsAnswered sent op
is-answered (inl w) = written w.seg w.offset w.term w.response
is-answered (inr r) = shown r.response

pub answered-first : {n : ℕ} {sent : List Message} {op : Operation} → op.response < n → IsAnswered sent op → IsAnswered (take n sent) op
answered-first {n} {sent} {op} less (written seg offset term e) = written seg offset term (take-get n op.response sent less e)
answered-first {n} {sent} {op} less (shown e) = shown (take-get n op.response sent less e)

pub ack_of : Operation → ℕ → ℕ → ℕ → Ack
ack_of op seg offset term =
    record { seg = seg; offset = offset; term = term; table = op.table; key = op.key; version = op.version }

pub acknowledged-at : {sent : List Message} (op : Operation) {seg offset term : ℕ} →
    slice_get sent op.response ≡ Some (to_outside op.master (WriteOk seg offset term op.table op.key op.version)) →
    HasAcknowledged sent op.master
    (record { seg = seg; offset = offset; term = term; table = op.table; key = op.key; version = op.version })
acknowledged-at {sent} op {seg} {offset} {term} e = record {
  message = to_outside op.master (WriteOk seg offset term op.table op.key op.version);
  among = In-get sent op.response _ e;
  from = refl;
  says = refl;
}

pub answer_of : Operation → Answer
answer_of op = record { table = op.table; key = op.key; version = op.version; value = op.value }

pub read-at : {sent : List Message} (op : Operation) →
    slice_get sent op.response ≡ Some (to_outside op.master (ReadOk op.table op.key op.version op.value)) →
    HasRead sent op.master (take op.response sent) (record { table = op.table; key = op.key; version = op.version; value = op.value })
read-at {sent} op e = search (arith, split-at)

-- what the master of a read found, and when
pub record IsFoundAt (setup : Setup) (events : List Event) (op : Operation) : Type 0 where
  pub past : List Event
  pub rest : List Event
  pub whole : past ++ rest ≡ events
  pub sent_is : (replay setup past).sent ≡ take op.response (replay setup events).sent
  pub finds : Finds setup past op.master op.table op.key op.version op.value

pub found-at : {setup : Setup} {events : List Event} {op : Operation} →
    slice_get (replay setup events).sent op.response ≡ Some (to_outside op.master (ReadOk op.table op.key op.version op.value)) →
    IsFoundAt setup events op
found-at {setup} {events} {op} e = record {
  past = was.past;
  rest = was.rest;
  whole = was.whole;
  sent_is = sym was.sent_is;
  finds = record { term = was.term; owns = was.owned; found = was.found };
}
  where
    was : WasRead setup events op.master (take op.response (replay setup events).sent) op.table op.key op.version op.value
    was = (clients-are-heard setup events).reads op.master (take op.response (replay setup events).sent)
        (to_outside op.master (ReadOk op.table op.key op.version op.value)) (drop (suc op.response) (replay setup events).sent)
        (split-at op.response (replay setup events).sent e) refl op.table op.key op.version op.value refl

-- What it had made stand

-- what an operation wrote or showed had stood within some first events, which had sent nothing but messages below the number
pub record HadStood (setup : Setup) (events : List Event) (n : ℕ) (op : Operation) : Type 0 where
  pub early : List Event
  pub gap : List Event
  pub whole : early ++ gap ≡ events
  pub within : (m : ServerId) (s o : ℕ) → HasSentFor (replay setup early).sent m s o → HasSentFor (take n (replay setup events).sent) m s o
  pub stands : (op.version ≡ 0) ⊎ ((one : Entry) × Stood setup early gap op.master one × (one.table ≡ op.table) × (one.key ≡ op.key)
      × (one.version ≡ op.version))

-- when a client's request was sent
pub had-stood : {setup : Setup} {events : List Event} → HasReplicas setup → {n : ℕ} {m : ServerId} {asked : Body} →
    slice_get (replay setup events).sent n ≡ Some (record { from = Outside; to = Server m; body = asked }) →
    {op : Operation} → op.response < n → IsAnswered (replay setup events).sent op → HadStood setup events n op
had-stood {setup} {events} some {n} {m} {asked} e {op} less (written seg offset term response) = record {
  early = end.early;
  gap = end.since;
  whole = end.whole;
  within = λ k s o sent. subst (λ l. HasSentFor l k s o) end.sent_is sent;
  stands = inr (acked-stood setup end.early end.since op.master (some op.master.index) (acknowledged-at op
      (subst (λ l. slice_get l op.response ≡ Some (to_outside op.master (WriteOk seg offset term op.table op.key op.version)))
      (sym end.sent_is) (take-get n op.response (replay setup events).sent less response))));
}
  where
    end : IsEnd setup events n
    end = requests-end n (record { from = Outside; to = Server m; body = asked }) e refl
had-stood {setup} {events} some e {op} less (shown response) = record {
  early = was.past;
  gap = was.rest;
  whole = was.whole;
  within = λ k s o sent. sent-more (replay setup events).sent (omega (arith, less))
      (subst (λ l. HasSentFor l k s o) was.sent_is sent);
  stands = by (zero-or-more op.version);
}
  where
    was : IsFoundAt setup events op
    was = found-at response

    by : (op.version ≡ 0) ⊎ (op.version ≡ 0 → ⊥) → (op.version ≡ 0)
        ⊎ ((one : Entry) × Stood setup was.past was.rest op.master one × (one.table ≡ op.table) × (one.key ≡ op.key)
        × (one.version ≡ op.version))
    by (inl none) = inl none
    by (inr above) = inr (is.entry, is.stood, is.table_is, is.key_is, is.version_is)
      where
        is : IsShowing setup was.past was.rest op.master (some op.master.index) was.finds.term op.table op.key op.version op.value
            was.finds.owns was.finds.found
        is = shown-stood setup was.past was.rest op.master (some op.master.index) was.finds.term op.table op.key op.version op.value
            was.finds.owns was.finds.found above
