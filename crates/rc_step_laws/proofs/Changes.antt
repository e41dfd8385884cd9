-- Each change of a replica keeps what holds of it, and raises it.
use Rattle.std.proofs.Common.{◌≡◌, ℕ, ◌+◌, ◌-◌, ◌<◌, ◌≤◌, Bool, true, false, cond, not, ◌&&◌, List, length, drop}
use Rattle.std.proofs.Common.{slice_get, nat_eq, nat_lt, nat_le, Option, Some, None, refl, sym, ap, ◌∙◌, subst, arith}
use Rattle.std.proofs.lemmas.Bool.{eqb-true, eq-eqb, ltb-false, leb-true, and_parts, not-true}
use Rattle.std.proofs.lemmas.List.{length-append, length-drop}
use Rattle.rc_model.specs.Model.{ServerId, Entry, Message, Place, Append, Close, between, Replica, grown, placed_open}
use Rattle.rc_model.specs.Model.{closes, replica_after, Master, In, HasMade}
use Rattle.rc_step_laws.specs.All.{Begins, log_in, Stands, IsOpenedAt, GoodMaster, IsPlace, IsAppend, IsClose, GoodReplica, OwnFine}
use Rattle.rc_step_laws.proofs.Lists.{get-within, get-below, begins-length, get-begins}
use Rattle.rc_step_laws.proofs.Copies.{split}
use Rattle.rc_step_laws.proofs.Replicas.{begins-places, grown-places, grown-made, grown-longer, place-made}
use Rattle.rc_step_laws.proofs.Replicas.{append-made, Changed, changed-some, changed-none, some-same, AllStood}
use Rattle.rc_step_laws.proofs.Replicas.{AboveTold, above-whole, above-proper, placed-copy}
use Rattle.rc_model.proofs.Tests.{true_false, either}

-- what a Place that was heard is about
pub record PlaceHeard (sent : List Message) (m : ServerId) (master : Master) (z : ServerId) (s e : ℕ) (digest : List ℕ)
    (entries : List Entry) (closed : Bool) : Type 0 where
  pub good : GoodMaster sent m master
  pub fine : OwnFine sent m master.log
  pub at : In (between m z (Place s e digest entries closed)) sent
  pub place : IsPlace sent m master.log z s e digest entries closed

-- a closed Place is whole, of a segment below the head
whole-place : {sent : List Message} {m : ServerId} {master : Master} {z : ServerId} {s e : ℕ} {digest : List ℕ}
    {entries : List Entry} {closed : Bool} →
    PlaceHeard sent m master z s e digest entries closed → closed ≡ true →
    (s < master.log.head) × (length entries ≡ length (log_in master.log s))
whole-place {s} h shut_so = ((h.good.shut_below s (h.place.whole shut_so).0).1, ap length (h.place.whole shut_so).1)

-- the entries of the Place itself were made
place-entries-made : {sent : List Message} {m : ServerId} {master : Master} {z : ServerId} {s e : ℕ} {digest : List ℕ}
    {entries : List Entry} {closed : Bool} →
    PlaceHeard sent m master z s e digest entries closed → (k : ℕ) (x : Entry) → slice_get entries k ≡ Some x → HasMade sent m s k x
place-entries-made {sent} {m} {z} {s} {e} {digest} {entries} {closed} h k x there = search (arith, place-made)

-- the entries of a good replica were made
replica-made : {sent : List Message} {m : ServerId} (master : Master) {index generation s : ℕ} {old : Replica} →
    GoodReplica sent m master.log index generation s old →
    (k : ℕ) (x : Entry) → slice_get old.entries k ≡ Some x → HasMade sent m s k x
replica-made {sent} {m} master {s} {old} good k x there =
    let found : (entry : Entry) × (slice_get (log_in master.log s) k ≡ Some entry) × HasMade sent m s k entry =
    good.copy.made k (get-within old.entries k there) in
    let in_log : slice_get (log_in master.log s) k ≡ Some x = get-begins old.entries good.begins k there in
    let first : slice_get (log_in master.log s) k ≡ Some found.0 = found.1 in
    let same : found.0 ≡ x = cc in
    subst (HasMade sent m s k) same found.2

-- no replica was there
placed-new : {sent : List Message} {m : ServerId} {master : Master} {z : ServerId} {s e : ℕ} {digest : List ℕ}
    {entries : List Entry} {closed : Bool} →
    PlaceHeard sent m master z s e digest entries closed → AllStood sent z m s None →
    Changed sent m master.log z.index z.generation s None (record { epoch = e; closed = closed; digest = digest; entries = entries })
placed-new {sent} {m} {master} {z} {s} {e} {digest} {entries} {closed} h stood = record {
  good = record {
    begins = h.place.begins;
    copy = placed-copy sent m master z s e digest entries closed closed entries digest h.at h.place h.place.begins
        (place-entries-made h) (whole-place h)
        (λ open_so. (open_so, omega arith)) h.place.digest_is (split closed if_closed if_open);
  };
  epoch = λ old never. absurd (none_some old never);
  longer = λ old never. absurd (none_some old never);
  closed = λ old never. absurd (none_some old never);
}
  where
    none_some : (old : Replica) → None ≡ Some old → ⊥
    none_some old never = cc

    if_closed : closed ≡ true → AboveTold sent m z.index s e closed (length entries)
    if_closed shut_so = subst (λ b. AboveTold sent m z.index s e b (length entries)) (sym shut_so) (above-whole h.fine
        (whole-place h shut_so).1)

    if_open : closed ≡ false → AboveTold sent m z.index s e closed (length entries)
    if_open open_so = above-proper sent m master z s e digest entries None (length entries) closed h.good
        (subst (λ b. In (between m z (Place s e digest entries b)) sent) open_so h.at) stood
        (λ old never. absurd (none_some old never)) (λ old never. absurd (none_some old never))

-- a closed one takes the epoch
placed-closed : {sent : List Message} {m : ServerId} {master : Master} {z : ServerId} {s e : ℕ} {digest : List ℕ}
    {entries : List Entry} {closed : Bool} {old : Replica} →
    PlaceHeard sent m master z s e digest entries closed → GoodReplica sent m master.log z.index z.generation s old →
    old.epoch ≤ e → old.closed ≡ true →
    Changed sent m master.log z.index z.generation s (Some old) (record old { epoch = e })
placed-closed {sent} {m} {z} {s} {e} {digest} {entries} {closed} {old} h good up shut_so =
    search (arith, changed-some, above-whole)

-- an open one grows, and closes where the Place is closed
placed-more : {sent : List Message} {m : ServerId} {master : Master} {z : ServerId} {s e : ℕ} {digest : List ℕ}
    {entries : List Entry} {closed : Bool} {old : Replica} →
    PlaceHeard sent m master z s e digest entries closed → AllStood sent z m s (Some old) →
    GoodReplica sent m master.log z.index z.generation s old → old.epoch ≤ e → old.closed ≡ false →
    Changed sent m master.log z.index z.generation s (Some old) (placed_open old e entries closed)
placed-more {sent} {m} {master} {z} {s} {e} {digest} {entries} {closed} {old} h stood good up open_so =
    changed-some (record {
      begins = begins;
      copy = placed-copy sent m master z s e digest entries closed mark all old.digest h.at h.place begins made whole
          unclosed good.copy.digest_is (split closed if_closed if_open);
    }) up longer (λ shut_so. true_false (sym shut_so ∙ open_so))
  where
    all : List Entry
    all = grown old.entries 0 entries

    mark : Bool
    mark = closed && nat_eq (length (grown old.entries 0 entries)) (length entries)

    stands : Stands entries 0 (log_in master.log s)
    stands k x there = let n : 0 + k ≡ k = omega arith in subst (λ j. slice_get (log_in master.log s) j ≡ Some x)
        (sym n) (get-begins entries h.place.begins k there)

    begins : Begins (grown old.entries 0 entries) (log_in master.log s)
    begins = begins-places (grown old.entries 0 entries) (log_in master.log s)
        (grown-places (log_in master.log s) old.entries 0 entries (omega arith) good.begins stands)

    made : (k : ℕ) (x : Entry) → slice_get (grown old.entries 0 entries) k ≡ Some x → HasMade sent m s k x
    made = grown-made sent m s old.entries 0 entries (omega arith) (replica-made master good)
        (place-made sent m z s e digest entries closed h.at)

    longer : length old.entries ≤ length (grown old.entries 0 entries)
    longer = grown-longer old.entries 0 entries

    -- as long as the Place at least
    as_long : length entries ≤ length (grown old.entries 0 entries)
    as_long = omega (arith, length-append old.entries (drop (length old.entries - 0) entries), length-drop (length old.entries - 0) entries)

    whole-length : closed ≡ true → length (grown old.entries 0 entries) ≡ length entries
    whole-length shut_so = search (arith, begins-length, begins, whole-place, as_long)

    mark-true : closed ≡ true → (closed && nat_eq (length (grown old.entries 0 entries)) (length entries)) ≡ true
    mark-true shut_so = ap (λ b. b && nat_eq (length (grown old.entries 0 entries)) (length entries)) shut_so ∙
        eq-eqb (length (grown old.entries 0 entries)) (length entries) (whole-length shut_so)

    whole : (closed && nat_eq (length (grown old.entries 0 entries)) (length entries)) ≡ true →
        (s < master.log.head) × (length (grown old.entries 0 entries) ≡ length (log_in master.log s))
    whole marked = search (arith, and_parts, whole-place, whole-length)

    unclosed : (closed && nat_eq (length (grown old.entries 0 entries)) (length entries)) ≡ false →
        (closed ≡ false) × (length entries ≤ length (grown old.entries 0 entries))
    unclosed unmarked = search (arith, split, mark-true, as_long)

    if_closed : closed ≡ true →
        AboveTold sent m z.index s e (closed && nat_eq (length (grown old.entries 0 entries)) (length entries))
        (length (grown old.entries 0 entries))
    if_closed shut_so = subst (λ b. AboveTold sent m z.index s e b (length (grown old.entries 0 entries))) (sym (mark-true shut_so))
        (above-whole h.fine (whole (mark-true shut_so)).1)

    if_open : closed ≡ false →
        AboveTold sent m z.index s e (closed && nat_eq (length (grown old.entries 0 entries)) (length entries))
        (length (grown old.entries 0 entries))
    if_open is = above-proper sent m master z s e digest entries (Some old) (length (grown old.entries 0 entries))
        (closed && nat_eq (length (grown old.entries 0 entries)) (length entries)) h.good
        (subst (λ b. In (between m z (Place s e digest entries b)) sent) is h.at) stood
        (λ other same. subst (λ (r : Replica). length r.entries ≤ length (grown old.entries 0 entries)) (some-same same) longer)
        (λ other same shut_so. true_false (sym shut_so ∙ (ap (λ (r : Replica). r.closed) (sym (some-same same)) ∙ open_so)))

-- all that a Place can make of a replica
pub changed-place : {sent : List Message} {m : ServerId} {master : Master} {z : ServerId} {s e : ℕ} {digest : List ℕ}
    {entries : List Entry} {closed : Bool} (before : Option Replica) {after : Replica} →
    PlaceHeard sent m master z s e digest entries closed → AllStood sent z m s before →
    ((old : Replica) → before ≡ Some old → GoodReplica sent m master.log z.index z.generation s old) →
    replica_after before (Place s e digest entries closed) ≡ Some after → Changed sent m master.log z.index z.generation s before after
changed-place {sent} {m} {master} {z} {s} None h stood good is =
    subst (λ (r : Replica). Changed sent m master.log z.index z.generation s None r) (some-same is)
    (placed-new h stood)
changed-place {sent} {m} {master} {z} {s} {e} {entries} {closed} (Some old) h stood good is =
    subst (λ (r : Replica). Changed sent m master.log z.index z.generation s (Some old) r) (some-same is)
    (either (λ (r : Replica). Changed sent m master.log z.index z.generation s (Some old) r) (nat_lt e old.epoch) old
    (cond old.closed (record old { epoch = e }) (placed_open old e entries closed)) (λ _. changed-none (good old refl))
    (λ low. either (λ (r : Replica). Changed sent m master.log z.index z.generation s (Some old) r) old.closed
    (record old { epoch = e }) (placed_open old e entries closed)
    (λ shut_so. placed-closed h (good old refl) (ltb-false e old.epoch low) shut_so)
    (λ open_so. placed-more h stood (good old refl) (ltb-false e old.epoch low) open_so)))

-- Appends

appended-more : (sent : List Message) (m : ServerId) (master : Master) (z : ServerId) (s offset : ℕ)
    (entries : List Entry) (old : Replica) →
    In (between m z (Append s offset entries)) sent → IsAppend master.log s offset entries →
    GoodReplica sent m master.log z.index z.generation s old →
    offset ≤ length old.entries → old.closed ≡ false →
    Changed sent m master.log z.index z.generation s (Some old)
    (record old { entries = grown old.entries offset entries })
appended-more sent m master z s offset entries old at append good no_gap open_so =
    changed-some (record {
      begins = begins;
      copy = record {
        opened = good.copy.opened;
        made = λ o below. (
            let found : (x : Entry) × (slice_get (grown old.entries offset entries) o ≡ Some x) =
            get-below (grown old.entries offset entries) o below in (
              found.0,
              get-begins (grown old.entries offset entries) begins o found.1,
              made o found.0 found.1,
            ));
        within = begins-length (grown old.entries offset entries) (log_in master.log s) begins;
        whole = λ shut_so. true_false (sym shut_so ∙ open_so);
        placed = good.copy.placed;
        opened_at = λ is. opened_at (good.copy.opened_at is);
        digest_is = good.copy.digest_is;
        above = λ x o on member told. (let below : o < length old.entries = good.copy.above x o on member told in
            omega (arith, below, longer));
        closed_too = good.copy.closed_too;
      };
    }) (omega arith) longer (λ same. same)
  where
    begins : Begins (grown old.entries offset entries) (log_in master.log s)
    begins = begins-places (grown old.entries offset entries) (log_in master.log s)
        (grown-places (log_in master.log s) old.entries offset entries no_gap good.begins append.stands)

    made : (k : ℕ) (x : Entry) → slice_get (grown old.entries offset entries) k ≡ Some x → HasMade sent m s k x
    made = grown-made sent m s old.entries offset entries no_gap
        (replica-made master good) (append-made sent m z s offset entries at)

    longer : length old.entries ≤ length (grown old.entries offset entries)
    longer = grown-longer old.entries offset entries

    opened_at : IsOpenedAt sent m s old.epoch z.index z.generation (length old.entries) →
        IsOpenedAt sent m s old.epoch z.index z.generation (length (grown old.entries offset entries))
    opened_at p = search (arith, longer)

pub changed-append : (sent : List Message) (m : ServerId) (master : Master) (z : ServerId) (s offset : ℕ)
    (entries : List Entry) (before : Option Replica) (after : Replica) →
    In (between m z (Append s offset entries)) sent → IsAppend master.log s offset entries →
    ((old : Replica) → before ≡ Some old → GoodReplica sent m master.log z.index z.generation s old) →
    replica_after before (Append s offset entries) ≡ Some after → Changed sent m master.log z.index z.generation s before after
changed-append sent m master z s offset entries None after at append good is = cc
changed-append sent m master z s offset entries (Some old) after at append good is =
    subst (λ (r : Replica). Changed sent m master.log z.index z.generation s (Some old) r) (some-same is)
    (either (λ (r : Replica). Changed sent m master.log z.index z.generation s (Some old) r)
    (not old.closed && nat_le offset (length old.entries))
    (record old { entries = grown old.entries offset entries }) old (λ both.
    let parts : (not old.closed ≡ true) × (nat_le offset (length old.entries) ≡ true) =
    and_parts (not old.closed) (nat_le offset (length old.entries)) both in
    appended-more sent m master z s offset entries old at append (good old refl)
    (leb-true offset (length old.entries) parts.1) (not-true old.closed parts.0)) (λ _. changed-none (good old refl)))

-- Closes

closed-whole : {sent : List Message} {m : ServerId} (master : Master) (z : ServerId) {s len : ℕ} {old : Replica} →
    IsClose master.log s len → GoodReplica sent m master.log z.index z.generation s old → length old.entries ≡ len →
    Changed sent m master.log z.index z.generation s (Some old) (record old { closed = true })
closed-whole master z close good same = search (arith, changed-some)

pub changed-close : {sent : List Message} {m : ServerId} (master : Master) (z : ServerId) {s len : ℕ}
    (before : Option Replica) {after : Replica} →
    IsClose master.log s len → ((old : Replica) → before ≡ Some old → GoodReplica sent m master.log z.index z.generation s old) →
    replica_after before (Close s len) ≡ Some after → Changed sent m master.log z.index z.generation s before after
changed-close master z None close good is = cc
changed-close {sent} {m} master z {s} {len} (Some old) close good is =
    subst (λ (r : Replica). Changed sent m master.log z.index z.generation s (Some old) r) (some-same is)
    (either (λ (r : Replica). Changed sent m master.log z.index z.generation s (Some old) r) (closes old len)
    (record old { closed = true }) old (λ both. closed-whole master z close (good old refl)
    (eqb-true (length old.entries) len (and_parts (not old.closed) (nat_eq (length old.entries) len) both).1))
    (λ _. changed-none (good old refl)))
