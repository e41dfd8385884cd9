-- What is shut, and what is counted, was stored on all members at some moment, so it is durable; and so is what was acknowledged.
use Rattle.std.proofs.Common.{◌≡◌, ◌≢◌, ◌⊎◌, ℕ, zero, suc, ◌-◌, ◌<◌, ◌≤◌, min, Bool, true, false, not, ◌&&◌, List, [], ◌∷◌}
use Rattle.std.proofs.Common.{◌++◌, length, take, nat_lt, ◌||◌, slice_get, Some, refl, sym, ap, ◌∙◌, subst, inl, inr, arith}
use Rattle.std.specs.List.{list_all}
use Rattle.std.proofs.lemmas.Bool.{and_parts, cases_order}
use Rattle.std.proofs.lemmas.Bool.Decides.{nat_tests}
use Rattle.std.proofs.lemmas.List.{length-map, length-append, append-nil, append_assoc, take_all, take-take, take-append-le}
use Rattle.rc_model.specs.Model.{ServerId, Addr, Server, Setup, Event, Member, Message, Body, WriteOk, is_server, between}
use Rattle.rc_model.specs.Model.{is_closed, told_closed, told_len, any_lost, least_told, durable_len, Segment}
use Rattle.rc_model.specs.Model.{is_all_closed, durable_in, Log, LogPlace, has_segment, places_of, durable_now, all_shut_to}
use Rattle.rc_model.specs.Model.{is_stored_on_all, WasStored, EarlierWereStored, IsDurable, Master}
use Rattle.rc_model.specs.Model.{factor_of, World, opening, step, replay, In}
use Rattle.rc_types.specs.declared.messages.Body.TheVariants as body
use Rattle.rc_model.proofs.Replays.{replay_from-push}
use Rattle.rc_step_laws.specs.All.{IsStored, GoodMaster, LogLater}
use Rattle.rc_step_laws.proofs.Lists.{get-below, get-begins, get-within}
use Rattle.rc_step_laws.proofs.Places.{IsOf, places_to-are, places-later, IsCovered, durable-covered}
use Rattle.rc_step_laws.proofs.Tests.{all-each, In-take}
use Rattle.rc_step_laws.proofs.Replays.{GoodWorld, led-step, good-world}
use Rattle.rc_owner_laws.specs.AckClaims.{is_write_ok, is_ack_of, counted_places}
use Rattle.rc_step_laws.proofs.EachMaster.{IsLed, led-by}
use Rattle.rc_owner_laws.proofs.Counting.{counted-is-acknowledged}
use Rattle.rc_owner_laws.proofs.Settling.{ok_of}
use Rattle.rc_owner_laws.proofs.Asking.{oks-of}
use Rattle.rc_owner_laws.proofs.Moments.{Counts, counts-on}
use Rattle.rc_owner_laws.specs.DurableClaims.{StoredIsDurable, CountedIsDurable, AcknowledgedIsDurable}
use Rattle.rc_owner_laws.proofs.Told.{Told, IsWholeTold}
use Rattle.rc_owner_laws.proofs.DurableSteps.{TellsWhole, StepOk, step-same, takes-step, ticks-step}
use Rattle.rc_model.proofs.Ids.{same_id-refl}
use Rattle.rc_model.proofs.Tests.{true_false}
use Rattle.rc_model.proofs.Members.{filter-In}
use Rattle.rc_step_laws.proofs.Stored.{all_shut-each}

-- One event

-- what was told closed tells all of a segment below the head
tells-whole : (world : World) → GoodWorld world → (m : ServerId) (from : Addr) (says : Body) →
    In (record { from = from; to = Server m; body = says }) world.sent → TellsWhole (world.masters m).log from says
tells-whole world good m (Server x) (body.Stored s e len closed) at = whole (good.messages (between x m (body.Stored s e len closed)) at)
  where
    whole : IsStored world.sent world.hosts m (world.masters m).log x s e len closed → IsWholeTold (world.masters m).log s len closed
    whole is closed_so = search (arith, length-map)
tells-whole world good m from says at = tt

module _ (world : World) (good : GoodWorld world) where
  record IsBefore (sent : List Message) (m : ServerId) (master : Master) : Type 0 where
    sent_is : sent ≡ world.sent
    master_is : master ≡ world.masters m

  abbrev IsAfter : List Message → ServerId → Master → Type 0
  IsAfter sent m master = StepOk (world.masters m).log master.log

  after-step : {m : ServerId} {master : Master} (after : Master) → master ≡ world.masters m → StepOk master.log after.log →
      StepOk (world.masters m).log after.log
  after-step after same p = subst (λ (old : Master). StepOk old.log after.log) same p

  step-led : IsLed IsBefore IsAfter
  step-led = search (arith, after-step, step-same, takes-step, tells-whole, ticks-step)

steps-on : (world : World) (one : Event) → GoodWorld world → {m : ServerId} → StepOk (world.masters m).log ((step world one).masters m).log
steps-on world one good {m} = led-by (IsBefore world good) (IsAfter world good) (step-led world good) world one good
    (λ k. record { sent_is = refl; master_is = refl }) m

-- Stored at some moment

pub record WasStoredOnce (setup : Setup) (events : List Event) (m : ServerId) (s o : ℕ) : Type 0 where
  pub moment : ℕ
  pub happened : moment ≤ length events
  pub stored : WasStored setup events m moment s o

once-later : {setup : Setup} {events : List Event} (more : List Event) {m : ServerId} {s o : ℕ} → WasStoredOnce setup events m s o →
    WasStoredOnce setup (events ++ more) m s o
once-later {setup} {events} more {m} {s} {o} was = search (arith, length-append, take-append-le)

once-now : {setup : Setup} {events : List Event} {m : ServerId} {s o : ℕ} →
    is_stored_on_all ((replay setup events).masters m).log s o ≡ true → WasStoredOnce setup events m s o
once-now {setup} {events} {m} {s} {o} stored = search (arith, take_all)

-- What is stored now

all-shut : (segments : ℕ → Segment) (n : ℕ) → ((t : ℕ) → 0 < t → t ≤ n → (segments t).shut ≡ true) → all_shut_to segments n ≡ true
all-shut segments zero each = refl
all-shut segments (suc n) each = ap (λ b. b && all_shut_to segments n) (each (suc n) (omega arith) (omega arith)) ∙
    all-shut segments n (λ t above upto. each t above (omega (arith, upto)))

-- a place below the durable length of a segment of the log, where each earlier one is shut
stored-now : (log : Log) {s o : ℕ} → 0 < s → s ≤ log.head → o < durable_len (log.segments s).config →
    ((t : ℕ) → 0 < t → t < s → (log.segments t).shut ≡ true) → is_stored_on_all log s o ≡ true
stored-now log {s} {o} above upto less shut = search (arith, all-shut, nat_tests, nat_lt)

-- a segment that is closed on all its members, who have told all of it
least-told : {n : ℕ} (members : List Member) → (members ≡ [] → ⊥) →
    ((member : Member) → In member members → n ≤ told_len member.told) → n ≤ least_told members
least-told [] some each = absurd (some refl)
least-told (member ∷ []) some each = each member (inl refl)
least-told {n} (member ∷ other ∷ members) some each =
    let here : n ≤ told_len member.told = each member (inl refl) in
    let rest : n ≤ least_told (other ∷ members) = least-told (other ∷ members) (λ e. never e) (λ one at. each one (inr at)) in
    omega (arith, here, rest)
  where
    never : other ∷ members ≡ [] → ⊥
    never e = cc

closed-parts : (member : Member) → is_closed member ≡ true → (not member.lost ≡ true) × (told_closed member.told ≡ true)
closed-parts member e = and_parts (not member.lost) (told_closed member.told) e

none-lost : (members : List Member) → list_all is_closed members ≡ true → any_lost members ≡ false
none-lost [] e = refl
none-lost (member ∷ members) e =
    let parts : (is_closed member ≡ true) × (list_all is_closed members ≡ true) =
    and_parts (is_closed member) (list_all is_closed members) e in
    by member.lost (closed-parts member parts.0).0 (none-lost members parts.1)
  where
    by : (b : Bool) → not b ≡ true → any_lost members ≡ false → (b || any_lost members) ≡ false
    by true e rec = true_false (sym e)
    by false e rec = rec

closed-len : {log : Log} {s : ℕ} → Told log → 0 < s → s ≤ log.head → is_all_closed (log.segments s) ≡ true →
    length (log.segments s).entries ≤ durable_len (log.segments s).config
closed-len {log} {s} told above upto closed = search (arith, least-told, closed-parts, all-each, and_parts, none-lost)

-- After every list of events

pub record AllWereStored (setup : Setup) (events : List Event) (m : ServerId) : Type 0 where
  pub told : Told ((replay setup events).masters m).log
  pub shut : (t o : ℕ) → (((replay setup events).masters m).log.segments t).shut ≡ true →
      o < length (((replay setup events).masters m).log.segments t).entries → WasStoredOnce setup events m t o
  pub counted : (k : ℕ) (place : LogPlace) → k < ((replay setup events).masters m).log.durable →
      slice_get (places_of ((replay setup events).masters m).log) k ≡ Some place →
      WasStoredOnce setup events m place.seg place.offset

module _ (setup : Setup) (events : List Event) (one : Event) (m : ServerId) (was : AllWereStored setup events m) where
  old : Log
  old = ((replay setup events).masters m).log

  good : GoodWorld (replay setup events)
  good = good-world setup events

  -- the world one step further is that of one event more
  pushed : replay setup (events ++ one ∷ []) ≡ step (replay setup events) one
  pushed = replay_from-push (opening setup) events one

  made : StepOk ((replay setup events).masters m).log ((replay setup (events ++ one ∷ [])).masters m).log
  made = subst (λ (world : World). StepOk ((replay setup events).masters m).log (world.masters m).log) (sym pushed)
      (steps-on (replay setup events) one good)

  counts : Counts ((replay setup events).masters m).log ((replay setup (events ++ one ∷ [])).masters m).log
  counts = subst (λ (world : World). Counts ((replay setup events).masters m).log (world.masters m).log) (sym pushed)
      (counts-on (replay setup events) one good)

  later : LogLater (replay setup (events ++ one ∷ [])).sent m ((replay setup events).masters m).log
      ((replay setup (events ++ one ∷ [])).masters m).log
  later = subst (λ (world : World). LogLater world.sent m ((replay setup events).masters m).log (world.masters m).log)
      (sym pushed) ((led-step (replay setup events) one good).onward.grown m).later

  mine : GoodMaster (replay setup (events ++ one ∷ [])).sent m ((replay setup (events ++ one ∷ [])).masters m)
  mine = (good-world setup (events ++ one ∷ [])).masters_are m

  told-now : Told ((replay setup (events ++ one ∷ [])).masters m).log
  told-now = made.keeps was.told

  now-shut : (t o : ℕ) → (((replay setup (events ++ one ∷ [])).masters m).log.segments t).shut ≡ true →
      o < length (((replay setup (events ++ one ∷ [])).masters m).log.segments t).entries →
      WasStoredOnce setup (events ++ one ∷ []) m t o
  now-shut t o shut less = by (made.shut was.told t shut)
    where
      by : ((((replay setup events).masters m).log.segments t).shut ≡ true) ⊎
          (is_all_closed (((replay setup (events ++ one ∷ [])).masters m).log.segments t) ≡ true) →
          WasStoredOnce setup (events ++ one ∷ []) m t o
      by (inl before) = search (arith, once-later, later)
      by (inr closed) = search (arith, once-now, stored-now, mine, closed-len, told-now)

  now-counted : (k : ℕ) (place : LogPlace) → k < ((replay setup (events ++ one ∷ [])).masters m).log.durable →
      slice_get (places_of ((replay setup (events ++ one ∷ [])).masters m).log) k ≡ Some place →
      WasStoredOnce setup (events ++ one ∷ []) m place.seg place.offset
  now-counted k place less at = by_count (cases_order k ((replay setup events).masters m).log.durable)
    where
      before : k < ((replay setup events).masters m).log.durable → WasStoredOnce setup (events ++ one ∷ []) m place.seg place.offset
      before under =
          let within : ((replay setup events).masters m).log.durable ≤ length
          (places_of ((replay setup events).masters m).log) = (good.masters_are m).durable_within in
          let found : (p : LogPlace) × (slice_get (places_of ((replay setup events).masters m).log) k ≡ Some p) =
          get-below (places_of ((replay setup events).masters m).log) k (omega (arith, under, within)) in
          let still : slice_get (places_of ((replay setup (events ++ one ∷ [])).masters m).log) k ≡ Some found.0 =
          get-begins (places_of ((replay setup events).masters m).log) (places-later later) k found.1 in
          let same : found.0 ≡ place = cc in
          subst (λ (p : LogPlace). WasStoredOnce setup (events ++ one ∷ []) m p.seg p.offset) same
          (once-later (one ∷ []) (was.counted k found.0 under found.1))

      of : IsOf ((replay setup (events ++ one ∷ [])).masters m).log.segments ((replay setup (events ++ one ∷ [])).masters m).log.head place
      of = places_to-are ((replay setup (events ++ one ∷ [])).masters m).log.head k at

      just : k < durable_now ((replay setup (events ++ one ∷ [])).masters m).log →
          WasStoredOnce setup (events ++ one ∷ []) m place.seg place.offset
      just under = by covered.reason
        where
          covered : IsCovered ((replay setup (events ++ one ∷ [])).masters m).log.segments place
          covered = durable-covered ((replay setup (events ++ one ∷ [])).masters m).log k place under at

          by : ((((replay setup (events ++ one ∷ [])).masters m).log.segments place.seg).shut ≡ true) ⊎
              (place.offset < durable_in (((replay setup (events ++ one ∷ [])).masters m).log.segments place.seg)) →
              WasStoredOnce setup (events ++ one ∷ []) m place.seg place.offset
          by (inl shut) = now-shut place.seg place.offset shut
              (get-within (((replay setup (events ++ one ∷ [])).masters m).log.segments place.seg).entries place.offset of.holds)
          by (inr some) = once-now (stored-now ((replay setup (events ++ one ∷ [])).masters m).log of.above of.upto
              (let both : place.offset < min
              (durable_len (((replay setup (events ++ one ∷ [])).masters m).log.segments place.seg).config)
              (length (((replay setup (events ++ one ∷ [])).masters m).log.segments place.seg).entries) =
              some in omega (arith, both))
              covered.below)

      rest : ((replay setup events).masters m).log.durable ≤ k → WasStoredOnce setup (events ++ one ∷ []) m place.seg place.offset
      rest from = search (arith, counts, just)

      by_count : (k ≡ ((replay setup events).masters m).log.durable) ⊎
          ((k < ((replay setup events).masters m).log.durable) ⊎ (((replay setup events).masters m).log.durable < k)) →
          WasStoredOnce setup (events ++ one ∷ []) m place.seg place.offset
      by_count (inl same) = rest (omega (arith, same))
      by_count (inr (inl under)) = before under
      by_count (inr (inr over)) = rest (omega (arith, over))

  all-now : AllWereStored setup (events ++ one ∷ []) m
  all-now = record { told = told-now; shut = now-shut; counted = now-counted }

all-opening : {setup : Setup} {m : ServerId} → factor_of setup m.index ≢ 0 → AllWereStored setup [] m
all-opening some = search arith

all-from : {setup : Setup} {past : List Event} (events : List Event) {m : ServerId} → AllWereStored setup past m
    → AllWereStored setup (past ++ events) m
all-from {setup} {past} [] {m} p = subst (λ (all : List Event). AllWereStored setup all m) (sym (append-nil past)) p
all-from {setup} {past} (one ∷ events) {m} p =
    subst (λ (all : List Event). AllWereStored setup all m) (append_assoc past (one ∷ []) events)
    (all-from events (all-now setup past one m p))

pub all-world : {setup : Setup} {events : List Event} {m : ServerId} → factor_of setup m.index ≢ 0 → AllWereStored setup events m
all-world {events} some = all-from events (all-opening some)

-- Durable

pub once-durable : {setup : Setup} {events : List Event} {m : ServerId} {s o : ℕ} → factor_of setup m.index ≢ 0 →
    WasStoredOnce setup events m s o → IsDurable setup events m s o
once-durable {setup} {events} {m} {s} {o} some was = record
    { moment = was.moment; happened = was.happened; stored = was.stored; earlier = earlier }
  where
    past : List Event
    past = take was.moment events

    shut : (t : ℕ) → 0 < t → t < s → (((replay setup (take was.moment events)).masters m).log.segments t).shut ≡ true
    shut t above below = all_shut-each ((replay setup (take was.moment events)).masters m).log.segments (s - 1)
        (and_parts (nat_lt o (durable_len (((replay setup (take was.moment events)).masters m).log.segments s).config))
        (all_shut_to ((replay setup (take was.moment events)).masters m).log.segments (s - 1))
        (and_parts (has_segment ((replay setup (take was.moment events)).masters m).log s)
        (nat_lt o (durable_len (((replay setup (take was.moment events)).masters m).log.segments s).config)
        && all_shut_to ((replay setup (take was.moment events)).masters m).log.segments (s - 1)) was.stored).1).1
        above (omega (arith, below))

    earlier : EarlierWereStored setup events m was.moment s
    earlier t k above below less = by ((all-world some).shut t k (shut t above below) less)
      where
        by : WasStoredOnce setup (take was.moment events) m t k → (n : ℕ) × (n ≤ was.moment) × WasStored setup events m n t k
        by once =
            let upto : once.moment ≤ length (take was.moment events) = once.happened in
            let short : length (take was.moment events) ≤ was.moment = length-take was.moment events in
            let before : once.moment ≤ was.moment = omega (arith, upto, short) in (
              once.moment,
              before,
              subst (λ (one : List Event). is_stored_on_all ((replay setup one).masters m).log t
                  k ≡ true) (take-take once.moment was.moment events before) once.stored,
            )
          where
            length-take : (n : ℕ) (list : List Event) → length (take n list) ≤ n
            length-take zero list = omega arith
            length-take (suc n) [] = omega arith
            length-take (suc n) (one ∷ list) = let rec : length (take n list) ≤ n = length-take n list in omega (arith, rec)

pub stored-is-durable : StoredIsDurable
stored-is-durable setup events m s o some stored = once-durable some (once-now stored)

pub counted-is-durable : CountedIsDurable
counted-is-durable setup events m k place some less at = once-durable some ((all-world some).counted k place less at)

seg_of : Body → ℕ
seg_of (WriteOk s o term table key version) = s
seg_of _ = 0

offset_of : Body → ℕ
offset_of (WriteOk s o term table key version) = o
offset_of _ = 0

pub acknowledged-is-durable : AcknowledgedIsDurable
unfolding seg_of offset_of
acknowledged-is-durable setup events m ack some acked =
    subst (λ s. IsDurable setup events m s ack.offset) seg (subst (λ o. IsDurable setup events m found.0.seg o) offset
    (counted-is-durable setup events m counted.0 found.0 some counted.1 counted.2))
  where
    is_ok : is_ack_of m acked.message ≡ true
    is_ok = ap (λ (from : Addr). is_server m from && is_write_ok acked.message.body) acked.from
        ∙ (ap (λ (says : Body). is_server m (Server m) && is_write_ok says) acked.says ∙ ap (λ b. b && true) (same_id-refl m))

    found : (place : LogPlace) × In place (counted_places ((replay setup events).masters m).log) × (place.client ≡ true) ×
        (acked.message ≡ ok_of m place)
    found = oks-of m (counted_places ((replay setup events).masters m).log) acked.message
        (subst (λ (messages : List Message). In acked.message messages) (counted-is-acknowledged setup events m)
        (filter-In (is_ack_of m) acked.message (replay setup events).sent acked.among is_ok))

    counted : (k : ℕ) × (k < ((replay setup events).masters m).log.durable) ×
        (slice_get (places_of ((replay setup events).masters m).log) k ≡ Some found.0)
    counted = In-take ((replay setup events).masters m).log.durable (places_of ((replay setup events).masters m).log)
        found.0 found.1

    says : acked.message.body ≡ (ok_of m found.0).body
    says = ap (λ (one : Message). one.body) found.3

    seg : found.0.seg ≡ ack.seg
    seg = ap seg_of (sym says ∙ acked.says)

    offset : found.0.offset ≡ ack.offset
    offset = ap offset_of (sym says ∙ acked.says)
