-- What stands in a log by a client was asked.
use Rattle.std.proofs.Common.{arith}
use Rattle.std.proofs.Common.{◌≡◌, ◌⊎◌, ℕ, zero, suc, Bool, true, false, cond, List, [], ◌∷◌, ◌++◌}
use Rattle.std.proofs.Common.{length, take, Option, slice_get, refl, sym, ap, ◌∙◌, subst, inl, inr}
use Rattle.std.proofs.lemmas.Bool.{eqb-true}
use Rattle.rc_model.specs.Model.{ServerId, Addr, Server, Entry, Message, Body, WriteOk, Write, Setup, Ack, Log, LogPlace}
use Rattle.rc_model.specs.Model.{places_of, Master, with_log, appends_entry, write_oks, new_durable, commits, durable_now, written}
use Rattle.rc_model.specs.Model.{master_takes, master_ticks, commits_again, replay, In}
use Rattle.rc_model.proofs.Members.{In-left, In-append, place_of}
use Rattle.rc_step_laws.specs.Words.{log_in}
use Rattle.rc_step_laws.proofs.Places.{IsOf, places_to-are, place-logged, places_to-same}
use Rattle.rc_owner_laws.specs.AckClaims.{is_ack_of, counted_places, WasToldToWrite, IsAsked, AcknowledgedWasAsked}
use Rattle.rc_owner_laws.proofs.Walk.{IsKept, takes-kept, tick-kept}
use Rattle.rc_step_laws.proofs.EachMaster.{IsKeptByAll, kept-replay}
use Rattle.rc_owner_laws.proofs.Counting.{added, places-appended, filter-in, counted-is-acknowledged}
use Rattle.rc_owner_laws.proofs.Settling.{ok_of}
use Rattle.rc_model.proofs.Ids.{same_id-refl}

-- Each client's place holds what was asked

abbrev AllAsked : (Entry → Type 0) → List LogPlace → Type 0
AllAsked Asked places = (place : LogPlace) → In place places → place.client ≡ true → Asked place.entry

module _ (Asked : Entry → Type 0) where
  abbrev Asks : Master → Master × List Message → Type 0
  Asks old after = AllAsked Asked (places_of old.log) → AllAsked Asked (places_of after.0.log)

  asks-both : (a b : Master) (first : List Message) (after : Master × List Message) → Asks a (b, first) → Asks b after →
      Asks a (after.0, first ++ after.1)
  asks-both a b first after p q all = q (p all)

  asks-same : (old new : Master) (messages : List Message) → places_of new.log ≡ places_of old.log → Asks old (new, messages)
  asks-same old new messages same all = subst (AllAsked Asked) (sym same) all

  asks-added : (head len : ℕ) (entry : Entry) (client : Bool) → (client ≡ true → Asked entry) →
      AllAsked Asked (added head len (entry, client))
  asks-added zero len entry client asked place at is = absurd at
  asks-added (suc n) len entry client asked place (inl same) is =
      subst Asked (sym (ap (λ (p : LogPlace). p.entry) same)) (asked (sym (ap (λ (p : LogPlace). p.client) same) ∙ is))
  asks-added (suc n) len entry client asked place (inr never) is = absurd never

  asks-appends : (master : Master) {entry : Entry} {client : Bool} → (client ≡ true → Asked entry) →
      Asks master (appends_entry master entry client)
  asks-appends master {entry} {client} asked all =
      subst (AllAsked Asked) (sym (places-appended master.log.segments master.log.head (entry, client)))
      (λ place at. by place (In-append place (places_of master.log) (added master.log.head len (entry, client)) at))
    where
      len : ℕ
      len = length (master.log.segments master.log.head).entries

      by : (place : LogPlace) → In place (places_of master.log) ⊎ In place (added master.log.head len (entry, client)) →
          place.client ≡ true → Asked place.entry
      by place (inl at) = all place at
      by place (inr at) = asks-added master.log.head len entry client asked place at

  asks-commits : (master : Master) (seg : ℕ) → Asks master (commits master seg)
  asks-commits master seg = search (arith, asks-same, places_to-same, eqb-true)

  asks-kept : IsKept Asked Asks
  asks-kept = record {
    inputs = record {
      both = asks-both;
      quiet = λ old new messages quiet soft. asks-same old new messages quiet.places;
      appends = λ master entry client room asked. asks-appends master asked;
      again = λ master. asks-same master master (commits_again master.log) refl;
    };
    counts = λ master less. asks-same master (with_log master (record master.log { durable = durable_now master.log }))
        (write_oks master.log.own (new_durable master.log)) refl;
    commits = λ master seg e. asks-commits master seg;
  }

  pub asks-takes : (master : Master) (from : Addr) {body : Body} →
      ((table key : ℕ) (value : Option (List ℕ)) (under : ℕ) → body ≡ Write table key value →
      Asked (written master under table key value)) → Asks master (master_takes master from body)
  asks-takes master from asked = takes-kept Asked Asks asks-kept from asked

  pub asks-ticks : (master : Master) → Asks master (master_ticks master)
  asks-ticks master = tick-kept Asked Asks asks-kept master

-- A world

abbrev EntryAsked : List Message → ServerId → Entry → Type 0
EntryAsked sent m entry = WasToldToWrite sent m entry.table entry.key entry.value

asked-more : {sent : List Message} (messages : List Message) {m : ServerId} {table key : ℕ} {value : Option (List ℕ)} →
    WasToldToWrite sent m table key value → WasToldToWrite (sent ++ messages) m table key value
asked-more {sent} messages p =
    record { message = p.message; among = In-left p.message sent messages p.among; to = p.to; says = p.says }

abbrev pub ClientsAsked : List Message → ServerId → Master → Type 0
ClientsAsked sent m master = AllAsked (EntryAsked sent m) (places_of master.log)

clients-more : (sent messages : List Message) (m : ServerId) (master : Master) → ClientsAsked sent m master →
    ClientsAsked (sent ++ messages) m master
clients-more sent messages m master p place at client = asked-more messages (p place at client)

pub clients-kept : {setup : Setup} → IsKeptByAll setup ClientsAsked
clients-kept = record {
  opened = λ m place at. absurd at;
  led = record {
    same = λ sent m master p. p;
    others = λ sent messages m master p others. clients-more sent messages m master p;
    takes = λ sent m master from body good p at. asks-takes (EntryAsked (sent ++ (master_takes master from body).1) m) master from
        (λ table key value under e. asked-more (master_takes master from body).1
        (record { message = record { from = from; to = Server m; body = body }; among = at; to = refl; says = e }))
        (clients-more sent (master_takes master from body).1 m master p);
    ticks = λ sent m master good p. asks-ticks (EntryAsked (sent ++ (master_ticks master).1) m) master
        (clients-more sent (master_ticks master).1 m master p);
  };
}

-- Acknowledgements

-- each is of a client's place
pub oks-of : (own : ServerId) (places : List LogPlace) (message : Message) → In message (write_oks own places) →
    (place : LogPlace) × In place places × (place.client ≡ true) × (message ≡ ok_of own place)
oks-of own [] message at = absurd at
oks-of own (first ∷ places) message at = by first.client refl (oks-of own places message) at
  where
    further : (place : LogPlace) × In place places × (place.client ≡ true) × (message ≡ ok_of own place) →
        (place : LogPlace) × In place (first ∷ places) × (place.client ≡ true) × (message ≡ ok_of own place)
    further (place, among, client, same) = (place, inr among, client, same)

    by : (b : Bool) → first.client ≡ b →
        (In message (write_oks own places) → (place : LogPlace) × In place places × (place.client ≡ true) ×
        (message ≡ ok_of own place)) →
        In message (cond b (ok_of own first ∷ write_oks own places) (write_oks own places)) →
        (place : LogPlace) × In place (first ∷ places) × (place.client ≡ true) × (message ≡ ok_of own place)
    by true is rec (inl same) = (first, inl refl, is, same)
    by true is rec (inr rest) = further (rec rest)
    by false isn't rec rest = further (rec rest)

In-from_take : {X : Type 0} (n : ℕ) (xs : List X) (x : X) → In x (take n xs) → In x xs
In-from_take zero xs x at = absurd at
In-from_take (suc n) [] x at = absurd at
In-from_take (suc n) (y ∷ xs) x (inl e) = inl e
In-from_take (suc n) (y ∷ xs) x (inr rest) = inr (In-from_take n xs x rest)

-- what an acknowledgement says, by its place
record SaysOf (ack : Ack) (place : LogPlace) : Type 0 where
  seg : ack.seg ≡ place.seg
  offset : ack.offset ≡ place.offset
  term : ack.term ≡ place.entry.term
  table : ack.table ≡ place.entry.table
  key : ack.key ≡ place.entry.key
  version : ack.version ≡ place.entry.version

same-ok : {a b c d f g h i j k l m : ℕ} → WriteOk a b c d f g ≡ WriteOk h i j k l m →
    (a ≡ h) × (b ≡ i) × (c ≡ j) × (d ≡ k) × (f ≡ l) × (g ≡ m)
same-ok e = (cc, cc, cc, cc, cc, cc)

says-of : {ack : Ack} {place : LogPlace} → WriteOk ack.seg ack.offset ack.term ack.table ack.key ack.version ≡ WriteOk
    place.seg place.offset place.entry.term place.entry.table place.entry.key place.entry.version → SaysOf ack place
says-of e = search (arith, same-ok)

pub acknowledged-was-asked : AcknowledgedWasAsked
acknowledged-was-asked setup events m ack acked = by (oks-of m (counted_places log) acked.message there)
  where
    log : Log
    log = ((replay setup events).masters m).log

    there : In acked.message (write_oks m (counted_places log))
    there = subst (In acked.message) (counted-is-acknowledged setup events m)
        (filter-in (is_ack_of m) (replay setup events).sent acked.message acked.among (is-ack acked.message acked.from acked.says))
      where
        is-ack : (message : Message) → message.from ≡ Server m →
            message.body ≡ WriteOk ack.seg ack.offset ack.term ack.table ack.key ack.version →
            is_ack_of m message ≡ true
        is-ack message from says = search (arith, same_id-refl)

    by : (place : LogPlace) × In place (counted_places log) × (place.client ≡ true) × (acked.message ≡ ok_of m place) →
        IsAsked (replay setup events).sent m log ack
    by (place, among, client, same) = record {
      entry = place.entry;
      stands = ap (λ s. slice_get (log_in log s) ack.offset) says.seg ∙
          (ap (slice_get (log_in log place.seg)) says.offset ∙ place-logged log found);
      of_ack = record { term = sym says.term; table = sym says.table; key = sym says.key };
      version = sym says.version;
      asked = subst (λ t. WasToldToWrite (replay setup events).sent m t ack.key place.entry.value) (sym says.table)
          (subst (λ k. WasToldToWrite (replay setup events).sent m place.entry.table k place.entry.value) (sym says.key)
          (kept-replay setup ClientsAsked clients-kept events m place
          (In-from_take log.durable (places_of log) place among) client));
    }
      where
        says : SaysOf ack place
        says = says-of (sym acked.says ∙ ap (λ (message : Message). message.body) same)

        found : IsOf log.segments log.head place
        found = let at = place_of (places_of log) place (In-from_take log.durable (places_of log) place among) in
            places_to-are log.head at.0 at.1
