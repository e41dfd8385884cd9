-- Moves that leave what the facts read, and moves one after another.
use Rattle.std.proofs.Common.{◌≡◌, ◌⊎◌, ℕ, ◌≤◌, List, [], ◌∷◌, ◌++◌, map, refl, sym, ap, ◌∙◌, subst, inl, inr, arith}
use Rattle.rc_model.specs.Model.{ServerId, Addr, Entry, Part, Message, Body, between, PartRow, PartState, Master, Task}
use Rattle.rc_model.specs.Model.{to_ids, attempt_of, In}
use Rattle.rc_types.specs.declared.messages.Body.TheVariants as body
use Rattle.rc_model.proofs.Members.{In-left, In-append, In-map}
use Rattle.rc_step_laws.proofs.Lists.{begins-refl, begins-trans}
use Rattle.rc_step_laws.proofs.Copies.{More}
use Rattle.rc_owner_laws.specs.Parts.{PartView, part_view, durable_under, HasSent}
use Rattle.rc_owner_laws.specs.Parts.{SomeCame, AllCame, IsWaiting, HasJoined, IsPart, GoodParts}
use Rattle.rc_owner_laws.specs.PartMoves.{HasHead, IsComplete, part_said, StateLater, PartsLater, PartsMoved}
use Rattle.rc_owner_laws.proofs.PartLists.{count-grows, logged-append}

-- Later views

pub later-refl : {v : PartView} → PartsLater v v
later-refl = search (arith, begins-refl)

state-trans : {v w : PartView} {state : PartState} → StateLater v state → PartsLater v w → StateLater w state
state-trans {w} p later =
    let q : StateLater w p.now = later.joined p.now p.among p.rows in
    record { now = q.now; among = q.among; part_is = q.part_is ∙ p.part_is; rows = q.rows; size = q.size ∙ p.size }

pub later-trans : {u v w : PartView} → PartsLater u v → PartsLater v w → PartsLater u w
later-trans {u} p q = record {
  places = begins-trans u.places p.places q.places;
  durable = (let a = p.durable in let b = q.durable in omega arith);
  grants = λ grant at. q.grants grant (p.grants grant at);
  tasks = λ task at. q.tasks task (p.tasks task at);
  attempts = λ task at. q.attempts task (p.tasks task at) ∙ p.attempts task at;
  joined = λ state at rows. state-trans (p.joined state at rows) q;
}

pub durable-later : {v w : PartView} (term : ℕ) → PartsLater v w → durable_under term v ≤ durable_under term w
durable-later {v} {w} term later = search (arith, logged-append, count-grows)

pub complete-later : {v w : PartView} {term : ℕ} → PartsLater v w → IsComplete v term → IsComplete w term
complete-later {w} {term} later p =
    let q : StateLater w p.state = later.joined p.state p.among p.rows in
    record {
      state = q.now;
      among = q.among;
      term_is = ap (λ (part : Part). part.term) q.part_is ∙ p.term_is;
      rows = q.rows;
      durable = (let a = p.durable in let b = durable-later term later in let c = q.size in omega arith);
    }

pub said-later : {sent : List Message} {m : ServerId} {v w : PartView} → GoodParts sent m v → PartsLater v w →
    (to : Addr) (says : Body) → part_said v to says → part_said w to says
said-later {sent} {m} {v} {w} good later to (body.Recovered attempt term) said =
    let state : PartState = said.complete.state in
    let part : IsPart sent m v said.complete.state = good.parts_are said.complete.state said.complete.among in
    let same : part.task.part.term ≡ term = ap (λ (one : Part). one.term) part.part_is ∙ said.complete.term_is in
    record {
      complete = complete-later later said.complete;
      attempt_is = subst (λ t. attempt_of t w.tasks ≡ attempt_of t v.tasks) same (later.attempts part.task part.among) ∙ said.attempt_is;
    }
said-later {v} good later to (body.WriteOk seg offset term table key version) said = record {
  place = said.place;
  among = subst (λ places. In said.place places) later.places.1 (In-left said.place v.places later.places.0 said.among);
  client = said.client;
  seg_is = said.seg_is;
  offset_is = said.offset_is;
  term_is = said.term_is;
  table_is = said.table_is;
  key_is = said.key_is;
  version_is = said.version_is;
}
said-later good later to (body.Fetch attempt master seg len part) said = record {
  task = said.task;
  among = later.tasks said.task said.among;
  attempt_is = said.attempt_is;
  master_is = said.master_is;
  part_is = said.part_is;
  row = said.row;
  row_among = said.row_among;
  to_is = said.to_is;
  seg_is = said.seg_is;
  len_is = said.len_is;
}
said-later good later to _ said = tt

-- Messages that say nothing of parts

abbrev pub IsPlain : Body → Type 0
IsPlain (body.Recovered attempt term) = ⊥
IsPlain (body.WriteOk seg offset term table key version) = ⊥
IsPlain (body.Fetch attempt master seg len part) = ⊥
IsPlain _ = Unit {0}

abbrev pub AllPlain : List Message → Type 0
AllPlain messages = (message : Message) → In message messages → IsPlain message.body

plain-said : (v : PartView) (to : Addr) (says : Body) → IsPlain says → part_said v to says
plain-said v to (body.Recovered attempt term) is = absurd is
plain-said v to (body.WriteOk seg offset term table key version) is = absurd is
plain-said v to (body.Fetch attempt master seg len part) is = absurd is
plain-said v to _ is = tt

pub plain-says : (v : PartView) (messages : List Message) → AllPlain messages → (message : Message) →
    In message messages → part_said v message.to message.body
plain-says v messages all message at = plain-said v message.to message.body (all message at)

pub plain-none : AllPlain []
plain-none message at = absurd at

pub plain-one : {one : Message} → IsPlain one.body → AllPlain (one ∷ [])
plain-one is message (inl e) = subst (λ (some : Message). IsPlain some.body) (sym e) is
plain-one is message (inr rest) = absurd rest

pub plain-mapped : {X : Type 0} (f : X → Message) (xs : List X) → ((x : X) → IsPlain (f x).body) → AllPlain (map f xs)
plain-mapped f xs all message at =
    let found = In-map f message xs at in subst (λ (one : Message). IsPlain one.body) (sym found.2) (all found.0)

pub plain-to_ids : (own : ServerId) (ids : List ServerId) (says : Body) → IsPlain says → AllPlain (to_ids own ids says)
plain-to_ids own ids says is = plain-mapped (λ (id : ServerId). between own id says) ids (λ id. is)

-- Moves

pub quiet : {sent : List Message} {m : ServerId} {old new : Master} {messages : List Message} →
    GoodParts sent m (part_view old) → HasHead new.log → part_view new ≡ part_view old → AllPlain messages
    → PartsMoved sent m old (new, messages)
quiet {sent} {m} {old} {new} {messages} good head same all = record {
  head = head;
  good = subst (GoodParts sent m) (sym same) good;
  later = subst (PartsLater (part_view old)) (sym same) later-refl;
  says = plain-says (part_view new) messages all;
}

pub still : (sent : List Message) (m : ServerId) (master : Master) → HasHead master.log →
    GoodParts sent m (part_view master) → PartsMoved sent m master (master, [])
still sent m master head good = quiet good head refl plain-none

pub moved-then : {sent : List Message} {m : ServerId} {one : Master} {done after : Master × List Message} →
    PartsMoved sent m one done → PartsMoved sent m done.0 after → PartsMoved sent m one (after.0, done.1 ++ after.1)
moved-then {done} {after} p q = record {
  head = q.head;
  good = q.good;
  later = later-trans p.later q.later;
  says = λ message at. by message (In-append message done.1 after.1 at);
}
  where
    by : (message : Message) → In message done.1 ⊎ In message after.1 → part_said (part_view after.0) message.to message.body
    by message (inl there) = said-later p.good q.later message.to message.body (p.says message there)
    by message (inr there) = q.says message there

-- More was sent

sent-more : {sent sent_now : List Message} → More sent sent_now →
    {m holder : ServerId} {term seg : ℕ} {entries : List Entry} → HasSent sent m holder term seg entries →
    HasSent sent_now m holder term seg entries
sent-more more {m} {holder} {term} {seg} {entries} p =
    record { attempt = p.attempt; among = more (between holder m (body.Data p.attempt seg term entries)) p.among }

some-more : (sent sent_now : List Message) → More sent sent_now →
    (m : ServerId) (term : ℕ) (rows others : List PartRow) → SomeCame sent m term rows others →
    SomeCame sent_now m term rows others
some-more sent sent_now more m term [] [] p = tt
some-more sent sent_now more m term [] (row ∷ others) p = absurd p
some-more sent sent_now more m term (was ∷ rows) [] p = absurd p
some-more sent sent_now more m term (was ∷ rows) (row ∷ others) p = (
  p.0,
  p.1,
  λ entries came. sent-more more (p.2 entries came),
  some-more sent sent_now more m term rows others p.3,
)

all-more : (sent sent_now : List Message) → More sent sent_now →
    (m : ServerId) (term : ℕ) (rows : List PartRow) (entries : List Entry) → AllCame sent m term rows entries →
    AllCame sent_now m term rows entries
all-more sent sent_now more m term [] entries p = p
all-more sent sent_now more m term (row ∷ rows) entries p =
    (p.0, p.1, sent-more more p.2, all-more sent sent_now more m term rows p.1 p.3, p.4)

how-more : {sent sent_now : List Message} → More sent sent_now →
    {m : ServerId} {v : PartView} {task : Task} {state : PartState} →
    IsWaiting sent m v task state ⊎ HasJoined sent m v task state
    → IsWaiting sent_now m v task state ⊎ HasJoined sent_now m v task state
how-more {sent} {sent_now} more {m} {task} {state} (inl p) = search (arith, some-more)
how-more {sent} {sent_now} more {m} {task} {state} (inr p) = search (arith, all-more)

pub good-more : {sent sent_now : List Message} → More sent sent_now → {m : ServerId} {v : PartView} →
    GoodParts sent m v → GoodParts sent_now m v
good-more more good = record {
  granted = λ grant at. (let p = good.granted grant at in
      record { message = p.message; among = more p.message p.among; to = p.to; previous = p.previous; attempt = p.attempt; says = p.says });
  planned = λ task at. (let p = good.planned task at in
      record {
        message = p.message;
        among = more p.message p.among;
        to = p.to;
        head = p.head;
        parts = p.parts;
        says = p.says;
        part = p.part;
      });
  task_known = good.task_known;
  differ = good.differ;
  parts_are = λ state at. (let p = good.parts_are state at in
      record {
        task = p.task;
        among = p.among;
        part_is = p.part_is;
        attempt_is = p.attempt_is;
        how = how-more more p.how;
      });
  logged_known = good.logged_known;
  waiting_part = good.waiting_part;
  clients = good.clients;
  replays = good.replays;
}
