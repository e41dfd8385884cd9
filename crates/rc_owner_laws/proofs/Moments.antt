-- A place is counted as durable in the event in which it becomes stored on all.
use Rattle.std.proofs.Common.{◌≡◌, ℕ, zero, suc, ◌+◌, ◌-◌, ◌<◌, ◌≤◌, max, Bool, true, cond, List, [], ◌∷◌, ◌++◌, length, map, refl}
use Rattle.std.proofs.Common.{sym, ap, ◌∙◌, subst, inl, inr, arith}
use Rattle.std.proofs.lemmas.Bool.{ltb-true}
use Rattle.std.proofs.lemmas.List.{append_assoc, append-nil, map-append, length_push}
use Rattle.rc_model.specs.Model.{ServerId, Event, Addr, Entry, Message, Body, Segment, new_segment, durable_in}
use Rattle.rc_model.specs.Model.{with_closes_sent, Log, old_head_of, with_segment, numbers_to, durable_among, durable_now}
use Rattle.rc_model.specs.Model.{opens_head, appends, left_out, with_freed, starts, writes_on, Master, then_does}
use Rattle.rc_model.specs.Model.{goes_on, ticks, master_takes_first, deposed_takes, master_takes, master_ticks, World, opening}
use Rattle.rc_model.specs.Model.{step, replay, In}
use Rattle.rc_model.proofs.Replays.{replay_from-push}
use Rattle.rc_model.proofs.Walk.{OfLog, LogJoined, LogFollowed, of_log-joined, of_log-followed, kept-goes_on, same-deposed}
use Rattle.rc_step_laws.proofs.Places.{numbers-In}
use Rattle.rc_step_laws.proofs.Replays.{GoodWorld, good-world}
use Rattle.rc_owner_laws.specs.MomentClaims.{CountedWhenStored}
use Rattle.rc_owner_laws.proofs.QuietSteps.{put-beside}
use Rattle.rc_owner_laws.proofs.Walk.{IsKeptByInputs, first-kept_by, ticks-kept_by}
use Rattle.rc_step_laws.proofs.EachMaster.{IsLed, led-by, kept-replay}
use Rattle.rc_owner_laws.proofs.Settling.{IsSettled, settled-kept}
use Rattle.rc_model.proofs.Tests.{either}
use Rattle.rc_model.proofs.Tables.{put_each}

-- How many places are stored on all, segment by segment

record SegmentMore (old new : Segment) : Type 0 where
  shut : old.shut ≡ true → new.shut ≡ true
  longer : length old.entries ≤ length new.entries
  stored : durable_in old ≤ durable_in new

more-same : {segment : Segment} → SegmentMore segment segment
more-same = record { shut = λ e. e; longer = omega arith; stored = omega arith }

within : (segment : Segment) → durable_in segment ≤ length segment.entries
within segment = omega arith

first-more : (old new : Segment) (a b : ℕ) → SegmentMore old new → a ≤ b →
    cond old.shut (length old.entries + a) (durable_in old) ≤ cond new.shut (length new.entries + b) (durable_in new)
first-more old new a b p less = search (arith, within)

among-more : {old new : ℕ → Segment} (ns : List ℕ) → ((n : ℕ) → In n ns → SegmentMore (old n) (new n)) →
    durable_among (map old ns) ≤ durable_among (map new ns)
among-more [] each = omega arith
among-more {old} {new} (n ∷ ns) each =
    first-more (old n) (new n) (durable_among (map old ns)) (durable_among (map new ns)) (each n (inl refl))
    (among-more ns (λ k at. each k (inr at)))

among-further : (segments others : List Segment) → durable_among segments ≤ durable_among (segments ++ others)
among-further [] others = omega arith
among-further (segment ∷ segments) others = first-more segment segment (durable_among segments)
    (durable_among (segments ++ others)) more-same (among-further segments others)

numbers-more : (n d : ℕ) → (rest : List ℕ) × (numbers_to (d + n) ≡ numbers_to n ++ rest)
numbers-more n zero = ([], (let e : 0 + n ≡ n = omega arith in ap numbers_to e) ∙ sym (append-nil (numbers_to n)))
numbers-more n (suc d) = further_on (numbers-more n d)
  where
    further_on : (rest : List ℕ) × (numbers_to (d + n) ≡ numbers_to n ++ rest) →
        (rest : List ℕ) × (numbers_to (suc d + n) ≡ numbers_to n ++ rest)
    further_on (rest, e) = (
      rest ++ suc (d + n) ∷ [],
      (let same : suc d + n ≡ suc (d + n) = omega arith in ap numbers_to same)
          ∙ (ap (λ l. l ++ suc (d + n) ∷ []) e ∙ append_assoc (numbers_to n) rest (suc (d + n) ∷ [])),
    )

numbers-upto : (n k : ℕ) → In k (numbers_to n) → k ≤ n
numbers-upto n k at = (numbers-In k n at).1

now-more : (old new : Log) → old.head ≤ new.head →
    ((s : ℕ) → s ≤ old.head → SegmentMore (old.segments s) (new.segments s)) → durable_now old ≤ durable_now new
now-more old new upto each = by (numbers-more old.head (new.head - old.head))
  where
    by : (rest : List ℕ) × (numbers_to ((new.head - old.head) + old.head) ≡ numbers_to old.head ++ rest) → durable_now old ≤ durable_now new
    by (rest, e) =
        let same : (new.head - old.head) + old.head ≡ new.head = omega (arith, upto) in
        let whole : durable_now new ≡ durable_among (map new.segments (numbers_to old.head) ++ map new.segments rest) =
        ap (λ n. durable_among (map new.segments (numbers_to n))) (sym same) ∙
        (ap (λ l. durable_among (map new.segments l)) e ∙
        ap durable_among (map-append new.segments (numbers_to old.head) rest)) in
        omega (
          arith,
          whole,
          among-further (map new.segments (numbers_to old.head)) (map new.segments rest),
          among-more (numbers_to old.head) (λ n at. each n (numbers-upto old.head n at)),
        )

-- What follows an input

record Follows (old new : Log) : Type 0 where
  now : durable_now old ≤ durable_now new
  rises : old.durable ≤ new.durable
  count : new.durable ≤ max old.durable (durable_now new)

follows-refl : (log : Log) → Follows log log
follows-refl log = record { now = omega arith; rises = omega arith; count = omega arith }

follows-then : (a b c : Log) → Follows a b → Follows b c → Follows a c
follows-then a b c p q = search arith

-- the count stays
follows-more : {old new : Log} → new.durable ≡ old.durable → old.head ≤ new.head →
    ((s : ℕ) → s ≤ old.head → SegmentMore (old.segments s) (new.segments s)) → Follows old new
follows-more {old} {new} same upto each = record {
  now = now-more old new upto each;
  rises = omega (arith, same);
  count = omega (arith, same);
}

follows-put : {log : Log} (seg : ℕ) {segment : Segment} → SegmentMore (log.segments seg) segment →
    Follows log (with_segment seg segment log)
follows-put {log} seg {segment} more = follows-more refl (omega arith)
    (λ s upto. put_each (λ k (one : Segment). SegmentMore (log.segments k) one) log.segments seg segment more
    (λ k. more-same) s)

follows-opens : {log : Log} (digest : List ℕ) (ids : List ServerId) → Follows log (opens_head log digest ids)
follows-opens {log} digest ids = follows-more refl (omega arith) (λ s upto. subst (SegmentMore (log.segments s))
    (sym (put-beside log.segments (new_segment (log.head + 1) digest ids)
    (λ same. absurd (omega (arith, same, upto))))) more-same)

follows-appends : (entry : Entry) (client : Bool) {log : Log} → Follows log (appends entry client log)
follows-appends entry client {log} = search (arith, follows-put, length_push)

follows-freed : (segs : List ℕ) {log : Log} → Follows log (with_freed segs log)
follows-freed [] {log} = follows-refl log
follows-freed (seg ∷ segs) {log} =
    let next : Log = with_segment seg (record (log.segments seg) { freed = true }) log in
    follows-then log next (with_freed segs next) (follows-put seg
    (record { shut = λ e. e; longer = omega arith; stored = omega arith })) (follows-freed segs)

follows-phase : {log new : Log} → new.durable ≡ log.durable → new.head ≡ log.head → new.segments ≡ log.segments → Follows log new
follows-phase {log} durable head segments = follows-more durable (omega (arith, head))
    (λ s upto. subst (λ (table : ℕ → Segment). SegmentMore (log.segments s) (table s)) (sym segments) more-same)

-- The rules

joined : LogJoined Follows
joined = record { still = follows-refl; both = follows-then }

-- a segment is changed, but for its members and entries
marked : {log : Log} (seg : ℕ) (segment : Segment) → ((log.segments seg).shut ≡ true → segment.shut ≡ true) →
    length segment.entries ≡ length (log.segments seg).entries → durable_in segment ≡ durable_in (log.segments seg) →
    Follows log (with_segment seg segment log)
marked seg segment shut long stored = follows-put seg
    (record { shut = shut; longer = omega (arith, long); stored = omega (arith, stored) })

by_rule : LogFollowed Follows
by_rule = record {
  marks = λ log is. marked (log.head - 1) (record (old_head_of log) { shut = true }) (λ _. refl) refl refl;
  starts = λ log may. follows-phase refl refl refl;
  places = λ log may. follows-phase refl refl refl;
  closes = λ log due. marked (log.head - 1) (with_closes_sent (old_head_of log)) (λ e. e) refl refl;
  shuts = λ log may. follows-then log (starts log) (writes_on log) (follows-phase refl refl refl)
      (follows-freed (left_out log));
  commits = λ log seg. marked seg (record (log.segments seg) { commit_sent = true }) (λ e. e) refl refl;
  counts = λ log more. (let less : log.durable < durable_now log = ltb-true log.durable (durable_now log) more in
      record { now = omega arith; rises = omega arith; count = omega arith });
}

goes-follows : (master : Master) → OfLog Follows master (goes_on master)
goes-follows = kept-goes_on (OfLog Follows) (of_log-joined Follows joined) (of_log-followed Follows joined (record {
  rolls = λ servers log digest ids writing room chosen. follows-opens digest ids;
  writes = λ log entry client writing room. follows-appends entry client;
}) by_rule)

-- A step: an input counts nothing, and then the rules follow

abbrev CountStays : Master → Master × List Message → Type 0
CountStays old after = after.0.log.durable ≡ old.log.durable

count-kept : IsKeptByInputs (λ entry. Unit {0}) CountStays
count-kept = search arith

pub record Counts (old new : Log) : Type 0 where
  pub rises : old.durable ≤ new.durable
  pub count : new.durable ≤ max old.durable (durable_now new)

counts-same : {log : Log} → Counts log log
counts-same = record { rises = omega arith; count = omega arith }

then-counts : {old : Log} (first : Master × List Message) → first.0.log.durable ≡ old.durable → Counts old (then_does first goes_on).0.log
then-counts (master, messages) same =
    let after : Follows master.log (goes_on master).0.log = goes-follows master in
    record { rises = omega (arith, after.rises, same); count = omega (arith, after.count, same) }

takes-counts : (master : Master) (from : Addr) (body : Body) → Counts master.log (master_takes master from body).0.log
takes-counts master from body =
    either (λ (after : Master × List Message). Counts master.log after.0.log) master.deposed (deposed_takes master body)
    (then_does (master_takes_first master from body) goes_on)
    (λ _. subst (λ (after : Master). Counts master.log after.log) (sym (same-deposed body)) counts-same)
    (λ _. then-counts (master_takes_first master from body)
    (first-kept_by (λ entry. Unit {0}) CountStays count-kept master from body (λ table key value under e. tt)))

ticks-counts : (master : Master) → Counts master.log (master_ticks master).0.log
ticks-counts master =
    either (λ (after : Master × List Message). Counts master.log after.0.log) master.deposed (master, []) (then_does (ticks master) goes_on)
    (λ _. counts-same)
    (λ _. then-counts (ticks master) (ticks-kept_by (λ entry. Unit {0}) CountStays count-kept master))

-- An event

module _ (world : World) where
  abbrev IsBefore : List Message → ServerId → Master → Type 0
  IsBefore sent m master = master ≡ world.masters m

  abbrev HasCounted : List Message → ServerId → Master → Type 0
  HasCounted sent m master = Counts (world.masters m).log master.log

  counted-from : {m : ServerId} {master : Master} (after : Master) → master ≡ world.masters m →
      Counts master.log after.log → Counts (world.masters m).log after.log
  counted-from after same p = subst (λ (old : Master). Counts old.log after.log) same p

  counted-led : IsLed IsBefore HasCounted
  counted-led = search (arith, counted-from, counts-same, takes-counts, ticks-counts)

-- what an event makes of a master's count
pub counts-on : (world : World) (one : Event) → GoodWorld world → {m : ServerId} →
    Counts (world.masters m).log ((step world one).masters m).log
counts-on world one good {m} = led-by (IsBefore world) (HasCounted world) (counted-led world) world one good (λ k. refl) m

pub counted-when-stored : CountedWhenStored
counted-when-stored setup events one m some up =
    let led : Counts ((replay setup events).masters m).log ((replay setup (events ++ one ∷ [])).masters m).log =
    subst (λ (after : World). Counts ((replay setup events).masters m).log (after.masters m).log)
    (sym (replay_from-push (opening setup) events one))
    (counts-on (replay setup events) one (good-world setup events)) in
    let settled : durable_now ((replay setup (events ++ one ∷ [])).masters m).log ≤
    ((replay setup (events ++ one ∷ [])).masters m).log.durable =
    (kept-replay setup (IsSettled setup) (settled-kept setup) (events ++ one ∷ []) m).settled some up in
    omega (arith, led.rises, led.count, settled)
