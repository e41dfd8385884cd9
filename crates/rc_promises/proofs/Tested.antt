-- Each sentence makes its test true, for every list of messages; so a run whose test fails refutes the sentence.
use Rattle.std.proofs.Common.{arith}
use Rattle.std.proofs.Common.{◌≡◌, ◌⊎◌, ℕ, ◌<◌, ◌≤◌, Bool, true, false, cond, not, ◌&&◌, ◌||◌, nat_eq, nat_lt}
use Rattle.std.proofs.Common.{List, [], ◌∷◌, ◌++◌, Option, refl, sym, ◌∙◌, subst, inl, inr, append_assoc}
use Rattle.std.specs.List.{list_any, list_all}
use Rattle.std.proofs.lemmas.Bool.{eq-eqb, eqb-true, lt-ltb, le-leb, and_parts, and_from, or_left, or_right}
use Rattle.rc_model.specs.Model.{ServerId, Addr, Server, Entry, Setup, Event, Message, Body, WriteOk, ReadOk, same_id}
use Rattle.rc_model.specs.Model.{is_server, made, Ack, granted, covers, grants_of, IsEarlier, is_earlier, same_value, In, HasMade}
use Rattle.rc_model.specs.Model.{HasAcknowledged}
use Rattle.rc_model.proofs.Befores.{is_before-finds, is_before-found}
use Rattle.rc_model.proofs.Members.{In-append, In-right, In-get}
use Rattle.rc_model.proofs.Said.{is_server-from, HasMade-from}
use Rattle.rc_model.proofs.Tests.{true_false}
use Rattle.rc_worked.specs.Sentences.{acks_by, acks_of, is_of_key, asked_by, asked, is_to, was_granted, has_value, is_same_write}
use Rattle.rc_worked.specs.Sentences.{is_one_write, keeps_versions, is_in_time, is_after, keeps_time, is_no_more, sees_earlier}
use Rattle.rc_worked.specs.Sentences.{sees_own, sees_by_then, sees_value, sees_under, sees_all, keeps_reads_from, keeps_reads}
use Rattle.rc_step_laws.specs.WordClaims.{sent_after}
use Rattle.rc_promises.specs.Service.{WasGranted, HasAsked, IsOfKey, IsWritten, IsOneWrite, Answer, HasRead, MissesOnlyLater}
use Rattle.rc_model.proofs.Ids.{same_id-true, same_id-refl}
use Rattle.rc_model.proofs.Headlines.{same_value-refl}

-- Tests of lists

pub all-from : {X : Type 0} {test : X → Bool} (xs : List X) → ((x : X) → In x xs → test x ≡ true) → list_all test xs ≡ true
all-from [] each = refl
all-from {test} (x ∷ xs) each =
    and_from (test x) (list_all test xs) (each x (inl refl)) (all-from xs (λ y at. each y (inr at)))

any-from : {X : Type 0} (test : X → Bool) (xs : List X) (x : X) → In x xs → test x ≡ true → list_any test xs ≡ true
any-from test [] x at e = absurd at
any-from test (y ∷ xs) x (inl same) e = or_left (test y) (list_any test xs) (subst (λ z. test z ≡ true) same e)
any-from test (y ∷ xs) x (inr rest) e = or_right (test y) (list_any test xs) (any-from test xs x rest e)

-- a test that has to hold where another does
pub where-from : (b : Bool) {c : Bool} → (b ≡ true → c ≡ true) → (not b || c) ≡ true
where-from true holds = holds refl
where-from false holds = refl

-- a test that has to hold where another does not
pub else-from : (b : Bool) {c : Bool} → (b ≡ false → c ≡ true) → (b || c) ≡ true
else-from true holds = refl
else-from false holds = holds refl

-- Values

pub same_value-from : {a b : Option (List ℕ)} → a ≡ b → same_value a b ≡ true
same_value-from {a} e = subst (λ c. same_value a c ≡ true) e (same_value-refl a)

-- What the lists say

abbrev Says : ServerId × Ack → Addr → Body → Type 0
Says (m, ack) from body = (from ≡ Server m) × (body ≡ WriteOk ack.seg ack.offset ack.term ack.table ack.key ack.version)

acks_by-says : (from : Addr) (body : Body) (m : ServerId) (ack : Ack) → In (m, ack) (acks_by from body) → Says (m, ack) from body
acks_by-says (Server m') (WriteOk seg offset term table key version) m ack (inl e) = search arith
acks_by-says (Server m') (WriteOk seg offset term table key version) m ack (inr rest) = absurd rest
acks_by-says (Server m') _ m ack at = absurd at
acks_by-says _ _ m ack at = absurd at

pub acks-say : (sent : List Message) (m : ServerId) (ack : Ack) → In (m, ack) (acks_of sent) → HasAcknowledged sent m ack
acks-say [] m ack at = absurd at
acks-say (first ∷ sent) m ack at =
    by (acks-say sent m ack) (In-append (m, ack) (acks_by first.from first.body) (acks_of sent) at)
  where
    by : (In (m, ack) (acks_of sent) → HasAcknowledged sent m ack) →
        In (m, ack) (acks_by first.from first.body) ⊎ In (m, ack) (acks_of sent) → HasAcknowledged (first ∷ sent) m ack
    by later (inl here) = let says : Says (m, ack) first.from first.body = acks_by-says first.from first.body m ack here in
        record { message = first; among = inl refl; from = says.0; says = says.1 }
    by later (inr there) = let p : HasAcknowledged sent m ack = later there in
        record { message = p.message; among = inr p.among; from = p.from; says = p.says }

one-if : {X : Type 0} (x : X) (b : Bool) → b ≡ true → In x (cond b (x ∷ []) [])
one-if x true e = inl refl
one-if x false e = cc

asked-in : (sent : List Message) (m : ServerId) (table key : ℕ) (value : Option (List ℕ)) →
    HasAsked sent m table key value → In value (asked sent m table key)
asked-in [] m table key value at = absurd at
asked-in (first ∷ sent) m table key value (inl e) = search (arith, one-if, and_from, same_id-refl, eq-eqb)
asked-in (first ∷ sent) m table key value (inr rest) =
    In-right value (asked_by m table key first.from first.to first.body) (asked sent m table key)
    (asked-in sent m table key value rest)

pub of-key : {table key : ℕ} {ack : Ack} → is_of_key table key ack ≡ true → IsOfKey table key ack
of-key {table} {key} {ack} e = let both = and_parts (nat_eq ack.table table) (nat_eq ack.key key) e in
    record { table_is = eqb-true ack.table table both.0; key_is = eqb-true ack.key key both.1 }

was-granted : {sent : List Message} {m : ServerId} {term table key : ℕ} → WasGranted sent m term table key →
    was_granted sent m term table key ≡ true
was-granted {sent} {m} {term} {table} {key} p =
    any-from (is_to m term table key) (granted sent) p.grant (In-get (granted sent) p.granted.0 p.grant p.granted.1)
    (and_from (is_server m p.grant.owner) (nat_eq p.grant.term term && covers table key p.grant)
    (is_server-from p.owner_is)
    (and_from (nat_eq p.grant.term term) (covers table key p.grant) (eq-eqb p.grant.term term p.term_is) p.holds))

has-value : {sent : List Message} {m : ServerId} (ack : Ack) {value : Option (List ℕ)} →
    ((entry : Entry) → HasMade sent m ack.seg ack.offset entry → entry.value ≡ value) → has_value sent m ack value ≡ true
has-value {sent} {m} ack each = all-from (made sent m ack.seg ack.offset)
    (λ entry at. same_value-from (each entry (HasMade-from sent m ack.seg ack.offset entry at)))

-- One version, one write

module _ (sent : List Message) (m : ServerId) (ack : Ack) (p : IsOneWrite sent m ack) (said : HasAcknowledged sent m ack)
  where
    same-write : (one : ServerId × Ack) → In one (acks_of sent) → is_same_write (m, ack) one ≡ true
    same-write (x, other) at =
        where-from (is_of_key ack.table ack.key other && nat_eq other.version ack.version)
        (λ e. same (and_parts (is_of_key ack.table ack.key other) (nat_eq other.version ack.version) e))
      where
        same : (is_of_key ack.table ack.key other ≡ true) × (nat_eq other.version ack.version ≡ true) →
            (same_id x m && (nat_eq other.seg ack.seg && (nat_eq other.offset ack.offset && nat_eq other.term ack.term))) ≡ true
        same both = search (arith, acks-say, of-key, eqb-true, and_from, same_id-refl, eq-eqb)

    one-write : is_one_write sent (m, ack) ≡ true
    one-write = and_from (was_granted sent m ack.term ack.table ack.key && nat_lt 0 ack.version)
        (list_all (is_same_write (m, ack)) (acks_of sent)
        && list_any (has_value sent m ack) (asked sent m ack.table ack.key))
        (and_from (was_granted sent m ack.term ack.table ack.key) (nat_lt 0 ack.version)
        (was-granted p.owned) (lt-ltb 0 ack.version p.above))
        (and_from (list_all (is_same_write (m, ack)) (acks_of sent))
        (list_any (has_value sent m ack) (asked sent m ack.table ack.key)) (all-from (acks_of sent) same-write)
        (any-from (has_value sent m ack) (asked sent m ack.table ack.key) p.value
        (asked-in sent m ack.table ack.key p.value p.asked)
        (has-value ack (λ entry made. p.one_value entry (record { acknowledged = said; made = made })))))

pub versions-kept : {sent : List Message} →
    ((m : ServerId) (ack : Ack) → HasAcknowledged sent m ack → IsOneWrite sent m ack) → keeps_versions sent ≡ true
versions-kept {sent} each = all-from (acks_of sent) one
  where
    one : (it : ServerId × Ack) → In it (acks_of sent) → is_one_write sent it ≡ true
    one (m, ack) at = let said : HasAcknowledged sent m ack = acks-say sent m ack at in
        one-write sent m ack (each m ack said) said

-- Writes follow time

abbrev FollowsTime : List Message → List Message → Type 0
FollowsTime early sent = (m x : ServerId) (first later : Ack) (entry : Entry) → HasAcknowledged early m first →
    IsWritten sent x later entry → IsOfKey first.table first.key later →
    (HasAsked early x later.table later.key entry.value → ⊥) → first.version < later.version

module _ (early sent : List Message) (follows : FollowsTime early sent)
  where
    in-time : {m x : ServerId} {first later : Ack} {entry : Entry} → HasAcknowledged early m first →
        IsWritten sent x later entry → is_in_time early (m, first) (x, later) entry ≡ true
    in-time {m} {x} {first} {later} {entry} said written =
        where-from (is_of_key first.table first.key later)
        (λ key. else-from (list_any (same_value entry.value) (asked early x later.table later.key))
        (λ unasked. lt-ltb first.version later.version
        (follows m x first later entry said written (of-key key) (not-asked unasked))))
      where
        not-asked : list_any (same_value entry.value) (asked early x later.table later.key) ≡ false →
            HasAsked early x later.table later.key entry.value → ⊥
        not-asked unasked has = true_false (sym (any-from (same_value entry.value) (asked early x later.table later.key) entry.value
            (asked-in early x later.table later.key entry.value has) (same_value-refl entry.value)) ∙ unasked)

    after : (m x : ServerId) (first later : Ack) → HasAcknowledged early m first → HasAcknowledged sent x later →
        is_after early sent (m, first) (x, later) ≡ true
    after m x first later said too = all-from (made sent x later.seg later.offset) (λ entry at. in-time said
        (record { acknowledged = too; made = HasMade-from sent x later.seg later.offset entry at }))

    pub time-kept : keeps_time early sent ≡ true
    time-kept = all-from (acks_of early) outer
      where
        inner : (m : ServerId) (first : Ack) → HasAcknowledged early m first → (two : ServerId × Ack) → In two (acks_of sent) →
            is_after early sent (m, first) two ≡ true
        inner m first said (x, later) at = after m x first later said (acks-say sent x later at)

        outer : (one : ServerId × Ack) → In one (acks_of early) → list_all (is_after early sent one) (acks_of sent) ≡ true
        outer (m, first) at = all-from (acks_of sent) (inner m first (acks-say early m first at))

-- Reads see every acknowledged write

pub no-more : {table key version : ℕ} {ack : Ack} → (IsOfKey table key ack → ack.version ≤ version) →
    is_no_more table key version ack ≡ true
no-more {table} {key} {version} {ack} holds = where-from (is_of_key table key ack)
    (λ e. le-leb ack.version version (holds (of-key e)))

module _ (setup : Setup) (events : List Event) (m : ServerId) (before : List Message) (answer : Answer)
    (p : MissesOnlyLater setup events m before answer)
  where
    abbrev sent : List Message
    sent = sent_after setup events

    earlier-seen : sees_earlier sent p.term answer.table answer.key answer.version ≡ true
    earlier-seen = all-from (acks_of sent) each
      where
        each : (one : ServerId × Ack) → In one (acks_of sent) →
            (not (is_earlier sent answer.table answer.key one.1.term p.term)
            || is_no_more answer.table answer.key answer.version one.1) ≡ true
        each (x, ack) at = where-from (is_earlier sent answer.table answer.key ack.term p.term)
            (λ e. no-more (λ key. p.earlier x ack (acks-say sent x ack at) key
            (is_before-finds (grants_of sent answer.table answer.key) e)))

    own-seen : sees_own before m p.term answer.table answer.key answer.version ≡ true
    own-seen = all-from (acks_of before) each
      where
        each : (one : ServerId × Ack) → In one (acks_of before) → (not (same_id m one.0 && nat_eq one.1.term p.term)
            || is_no_more answer.table answer.key answer.version one.1) ≡ true
        each (x, ack) at = where-from (same_id m x && nat_eq ack.term p.term)
            (λ e. let both = and_parts (same_id m x) (nat_eq ack.term p.term) e in
            no-more (λ key. p.own ack
            (subst (λ y. HasAcknowledged before y ack) (sym (same_id-true both.0)) (acks-say before x ack at)) key
            (eqb-true ack.term p.term both.1)))

    by-then-seen : sees_by_then before p.term answer.table answer.key answer.version ≡ true
    by-then-seen = all-from (acks_of before) each
      where
        not-found : (ack : Ack) → is_earlier before answer.table answer.key p.term ack.term ≡ false →
            IsEarlier before answer.table answer.key p.term ack.term → ⊥
        not-found ack none is = true_false (sym (is_before-found (grants_of before answer.table answer.key) is) ∙ none)

        each : (one : ServerId × Ack) → In one (acks_of before) →
            (is_earlier before answer.table answer.key p.term one.1.term
            || is_no_more answer.table answer.key answer.version one.1) ≡ true
        each (x, ack) at = else-from (is_earlier before answer.table answer.key p.term ack.term) (λ none. no-more
            (λ key. p.by_then x ack (acks-say before x ack at) key (not-found ack none)))

    value-seen : sees_value sent answer.table answer.key answer.version answer.value ≡ true
    value-seen = all-from (acks_of sent) each
      where
        each : (one : ServerId × Ack) → In one (acks_of sent) →
            (not (is_of_key answer.table answer.key one.1 && nat_eq one.1.version answer.version)
            || has_value sent one.0 one.1 answer.value) ≡ true
        each (x, ack) at = where-from (is_of_key answer.table answer.key ack && nat_eq ack.version answer.version)
            (λ e. let both = and_parts (is_of_key answer.table answer.key ack) (nat_eq ack.version answer.version) e in
            has-value ack (λ entry made. p.written x ack entry
            (record { acknowledged = acks-say sent x ack at; made = made }) (of-key both.0)
            (eqb-true ack.version answer.version both.1)))

    seen-under : sees_under sent before m answer.table answer.key answer.version answer.value p.term ≡ true
    seen-under = search (arith, and_from, was-granted, earlier-seen, own-seen, by-then-seen, value-seen)

    all-seen : list_any (λ grant. sees_under sent before m answer.table answer.key answer.version answer.value grant.term)
        (granted before) ≡ true
    all-seen = any-from (λ grant. sees_under sent before m answer.table answer.key answer.version answer.value grant.term)
        (granted before) p.owned.grant (In-get (granted before) p.owned.granted.0 p.owned.grant p.owned.granted.1)
        (subst (λ t. sees_under sent before m answer.table answer.key answer.version answer.value t ≡ true)
        (sym p.owned.term_is) seen-under)

module _ (setup : Setup) (events : List Event)
    (each : (m : ServerId) (before : List Message) (answer : Answer) → HasRead (sent_after setup events) m before answer →
    MissesOnlyLater setup events m before answer)
  where
    message-seen : (before after : List Message) (message : Message) (from : Addr) (body : Body) →
        sent_after setup events ≡ before ++ message ∷ after → message.from ≡ from → message.body ≡ body →
        sees_all (sent_after setup events) before from body ≡ true
    message-seen before after message (Server m) (ReadOk table key version value) whole from says =
        all-seen setup events m before answer (each m before answer
        (record { message = message; after = after; whole = whole; from = from; says = says }))
      where
        answer : Answer
        answer = record { table = table; key = key; version = version; value = value }
    message-seen before after message (Server m) _ whole from says = refl
    message-seen before after message _ _ whole from says = refl

    from-seen : (before rest : List Message) → sent_after setup events ≡ before ++ rest →
        keeps_reads_from (sent_after setup events) before rest ≡ true
    from-seen before [] whole = refl
    from-seen before (message ∷ rest) whole =
        and_from (sees_all (sent_after setup events) before message.from message.body)
        (keeps_reads_from (sent_after setup events) (before ++ message ∷ []) rest)
        (message-seen before rest message message.from message.body whole refl refl)
        (from-seen (before ++ message ∷ []) rest (whole ∙ sym (append_assoc before (message ∷ []) rest)))

    pub reads-kept : keeps_reads (sent_after setup events) ≡ true
    reads-kept = from-seen [] (sent_after setup events) refl
