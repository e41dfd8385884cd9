-- What is stored on all members of a segment, with each earlier segment shut, is acknowledged in that very step.
use Rattle.std.proofs.Common.{◌≡◌, ◌≢◌, ℕ, zero, suc, ◌+◌, ◌-◌, ◌<◌, ◌≤◌, Bool, true, false, cond, nat_lt, nat_le, ◌&&◌, List, [], ◌∷◌}
use Rattle.std.proofs.Common.{◌++◌, length, map, take, slice_get, Option, Some, None, refl, sym, ap, ◌∙◌, subst, inl, inr, arith}
use Rattle.std.proofs.lemmas.Bool.{and_parts, ltb-true, leb-true}
use Rattle.std.proofs.lemmas.Bool.Decides.{nat_tests}
use Rattle.std.proofs.lemmas.List.{append-nil, append_assoc, length-append, map-append}
use Rattle.std.specs.Option.{option_or}
use Rattle.rc_model.specs.Model.{ServerId, Addr, Entry, Message, Body, WriteOk, Setup, to_outside, durable_len, Segment, durable_in, Log}
use Rattle.rc_model.specs.Model.{LogPlace, places_in, places_to, places_of, numbers_to, durable_among, durable_now, has_segment, Master}
use Rattle.rc_model.specs.Model.{then_does, when}
use Rattle.rc_model.specs.Model.{follow_up, write_oks, goes_on}
use Rattle.rc_model.specs.Model.{master_takes, master_ticks, factor_of, replay, all_shut_to}
use Rattle.rc_model.specs.Model.{is_stored_on_all, In}
use Rattle.rc_model.proofs.Measures.{goes_on-up, goes_on-settles}
use Rattle.rc_step_laws.proofs.Lists.{get-left, get-within}
use Rattle.rc_owner_laws.specs.AckClaims.{is_ack_of, counted_places, StoredIsAcknowledged}
use Rattle.rc_model.proofs.Walk.{same-deposed}
use Rattle.rc_owner_laws.proofs.Walk.{first-kept_by, ticks-kept_by}
use Rattle.rc_step_laws.proofs.EachMaster.{IsKeptByAll, kept-replay}
use Rattle.rc_owner_laws.proofs.Counting.{acks-kept, acks-takes, acks-ticks, counted-is-acknowledged}
use Rattle.rc_model.proofs.Tests.{either}
use Rattle.rc_model.proofs.Members.{In-filter}
use Rattle.rc_model.proofs.LogParts.{length-places_in}

-- Where a place stands

get-after : {X : Type 0} (xs ys : List X) (k : ℕ) → slice_get (xs ++ ys) (length xs + k) ≡ slice_get ys k
get-after [] ys k = ap (slice_get ys) (omega arith)
get-after (x ∷ xs) ys k = let e : length (x ∷ xs) + k ≡ suc (length xs + k) =
    omega arith in ap (slice_get (x ∷ (xs ++ ys))) e ∙ get-after xs ys k

abbrev pub place_at : ℕ → ℕ → Entry × Bool → LogPlace
place_at seg offset one = record { seg = seg; offset = offset; entry = one.0; client = one.1 }

places_in-get : {seg : ℕ} (offset : ℕ) (entries : List (Entry × Bool)) (k : ℕ) {one : Entry × Bool} → slice_get entries k ≡ Some one →
    slice_get (places_in seg offset entries) k ≡ Some (record { seg = seg; offset = offset + k; entry = one.0; client = one.1 })
places_in-get offset [] k e = cc
places_in-get {seg} offset (first ∷ entries) zero {one} e = search arith
places_in-get {seg} offset (first ∷ entries) (suc k) {one} e =
    places_in-get (offset + 1) entries k e ∙ ap (λ n. Some (place_at seg n one)) (omega arith)

-- a log's places go on after those of its first segments
places-go_on : (segments : ℕ → Segment) (n d : ℕ) → (rest : List LogPlace) × (places_to segments (d + n) ≡ places_to segments n ++ rest)
places-go_on segments n zero =
    ([], (let e : 0 + n ≡ n = omega arith in ap (places_to segments) e) ∙ sym (append-nil (places_to segments n)))
places-go_on segments n (suc d) = further (places-go_on segments n d)
  where
    further : (rest : List LogPlace) × (places_to segments (d + n) ≡ places_to segments n ++ rest) →
        (rest : List LogPlace) × (places_to segments (suc d + n) ≡ places_to segments n ++ rest)
    further (rest, e) = (
      rest ++ places_in (suc (d + n)) 0 (segments (suc (d + n))).entries,
      (let same : suc d + n ≡ suc (d + n) = omega arith in ap (places_to segments) same)
          ∙ (ap (λ l. l ++ places_in (suc (d + n)) 0 (segments (suc (d + n))).entries) e
          ∙ append_assoc (places_to segments n) rest (places_in (suc (d + n)) 0 (segments (suc (d + n))).entries)),
    )

-- so do the numbers of its segments
numbers-go_on : (n d : ℕ) → (rest : List ℕ) × (numbers_to (d + suc n) ≡ numbers_to n ++ (suc n ∷ rest))
numbers-go_on n zero = ([], (let e : 0 + suc n ≡ suc n = omega arith in ap numbers_to e))
numbers-go_on n (suc d) = further (numbers-go_on n d)
  where
    further : (rest : List ℕ) × (numbers_to (d + suc n) ≡ numbers_to n ++ (suc n ∷ rest)) →
        (rest : List ℕ) × (numbers_to (suc d + suc n) ≡ numbers_to n ++ (suc n ∷ rest))
    further (rest, e) = (
      rest ++ suc (d + suc n) ∷ [],
      (let same : suc d + suc n ≡ suc (d + suc n) = omega arith in ap numbers_to same)
          ∙ (ap (λ l. l ++ suc (d + suc n) ∷ []) e ∙ append_assoc (numbers_to n) (suc n ∷ rest) (suc (d + suc n) ∷ [])),
    )

-- Counting

-- shut segments count whole
among-shut : (segments : ℕ → Segment) (n : ℕ) (others : List Segment) → all_shut_to segments n ≡ true →
    durable_among (map segments (numbers_to n) ++ others) ≡ length (places_to segments n) + durable_among others
among-shut segments zero others e = omega arith
among-shut segments (suc n) others e =
    ap (λ (l : List Segment). durable_among (l ++ others)) (map-append segments (numbers_to n) (suc n ∷ []))
    ∙ (ap durable_among (append_assoc (map segments (numbers_to n)) (segments (suc n) ∷ []) others)
    ∙ (among-shut segments n (segments (suc n) ∷ others) parts.1
    ∙ (ap (λ b. length (places_to segments n) + cond b (length (segments (suc n)).entries + durable_among others)
    (durable_in (segments (suc n)))) parts.0
    ∙ sums (length (places_to segments n)) (length (segments (suc n)).entries) (length (places_to segments (suc n)))
    (durable_among others) longer)))
  where
    parts : ((segments (suc n)).shut ≡ true) × (all_shut_to segments n ≡ true)
    parts = and_parts (segments (suc n)).shut (all_shut_to segments n) e

    longer : length (places_to segments (suc n)) ≡ length (places_to segments n) + length (segments (suc n)).entries
    longer = length-append (places_to segments n) (places_in (suc n) 0 (segments (suc n)).entries)
        ∙ ap (λ k. length (places_to segments n) + k) (length-places_in (suc n) 0 (segments (suc n)).entries)

    sums : (a b c d : ℕ) → c ≡ a + b → a + (b + d) ≡ c + d
    sums a b c d e = omega (arith, e)

-- and an open one as far as all have it
among-first : (segment : Segment) (others : List Segment) {o : ℕ} → o < durable_in segment → o < durable_among (segment ∷ others)
among-first segment others {o} less = search arith

reached : (segments : ℕ → Segment) (n d : ℕ) {o : ℕ} → all_shut_to segments n ≡ true → o < durable_in (segments (suc n)) →
    length (places_to segments n) + o < durable_among (map segments (numbers_to (d + suc n)))
reached segments n d {o} shut less = by (numbers-go_on n d)
  where
    by : (rest : List ℕ) × (numbers_to (d + suc n) ≡ numbers_to n ++ (suc n ∷ rest)) →
        length (places_to segments n) + o < durable_among (map segments (numbers_to (d + suc n)))
    by (rest, e) = search (arith, map-append, among-shut, among-first)

stands : (segments : ℕ → Segment) {n : ℕ} (d : ℕ) {o : ℕ} {one : Entry × Bool} → slice_get (segments (suc n)).entries o ≡ Some one →
    slice_get (places_to segments (d + suc n)) (length (places_to segments n) + o) ≡ Some (place_at (suc n) o one)
stands segments {n} d {o} {one} e = by (places-go_on segments (suc n) d)
  where
    here : slice_get (places_to segments (suc n)) (length (places_to segments n) + o) ≡ Some (place_at (suc n) o one)
    here = get-after (places_to segments n) (places_in (suc n) 0 (segments (suc n)).entries) o
        ∙ (places_in-get 0 (segments (suc n)).entries o e ∙ ap (λ k. Some (place_at (suc n) k one)) (omega arith))

    by : (rest : List LogPlace) × (places_to segments (d + suc n) ≡ places_to segments (suc n) ++ rest) →
        slice_get (places_to segments (d + suc n)) (length (places_to segments n) + o) ≡ Some (place_at (suc n) o one)
    by (rest, same) = ap (λ l. slice_get l (length (places_to segments n) + o)) same
        ∙ get-left (places_to segments (suc n)) rest (length (places_to segments n) + o) here

-- Acknowledging

In-take : {X : Type 0} (n : ℕ) (xs : List X) (k : ℕ) (x : X) → slice_get xs k ≡ Some x → k < n → In x (take n xs)
In-take n [] k x e less = cc
In-take zero (y ∷ xs) k x e less = absurd (omega arith)
In-take (suc n) (y ∷ xs) zero x e less = let same : y ≡ x = cc in inl (sym same)
In-take (suc n) (y ∷ xs) (suc k) x e less = inr (In-take n xs k x e (omega (arith, less)))

abbrev pub ok_of : ServerId → LogPlace → Message
ok_of own place = to_outside own (WriteOk place.seg place.offset place.entry.term place.entry.table place.entry.key place.entry.version)

In-oks : (own : ServerId) (places : List LogPlace) (place : LogPlace) → In place places → place.client ≡ true →
    In (ok_of own place) (write_oks own places)
In-oks own [] place at client = absurd at
In-oks own (first ∷ places) place (inl same) client = search arith
In-oks own (first ∷ places) place (inr rest) client =
    either (In (ok_of own place)) first.client (ok_of own first ∷ write_oks own places) (write_oks own places)
    (λ _. inr (In-oks own places place rest client)) (λ _. In-oks own places place rest client)

-- A step leaves nothing uncounted

or-none : (one : Option (Master × List Message)) {other : Option (Master × List Message)} → option_or one other ≡ None
    → (one ≡ None) × (other ≡ None)
or-none None e = (refl, e)
or-none (Some done) e = cc

when-none : (b : Bool) (done : Master × List Message) → when b done ≡ None → b ≡ false
when-none false done e = refl
when-none true done e = cc

nothing-stored : (master : Master) → follow_up master ≡ None → durable_now master.log ≤ master.log.durable
nothing-stored master e = search (arith, or-none, when-none, nat_lt, nat_tests)

abbrev pub Settled : Master → Type 0
Settled master = master.deposed ≡ false → durable_now master.log ≤ master.log.durable

goes-settled : (master : Master) → master.log.factor ≢ 0 → Settled (goes_on master).0
goes-settled master factor = search (arith, goes_on-up, nothing-stored, goes_on-settles)

then-settled : (first : Master × List Message) → first.0.log.factor ≢ 0 → Settled (then_does first goes_on).0
then-settled (master, messages) factor = goes-settled master factor

takes-settled : (master : Master) (from : Addr) (body : Body) → master.log.factor ≢ 0 → Settled master →
    Settled (master_takes master from body).0
takes-settled master from body factor was = search (arith, same-deposed, then-settled, first-kept_by, acks-kept)

ticks-settled : (master : Master) → master.log.factor ≢ 0 → Settled master → Settled (master_ticks master).0
ticks-settled master factor was = search (arith, then-settled, ticks-kept_by, acks-kept)

-- A world

pub record IsSettled (setup : Setup) (sent : List Message) (m : ServerId) (master : Master) : Type 0 where
  pub factor : master.log.factor ≡ factor_of setup m.index
  pub settled : factor_of setup m.index ≢ 0 → Settled master

pub settled-kept : (setup : Setup) → IsKeptByAll setup (IsSettled setup)
settled-kept setup = search (arith, acks-takes, takes-settled, acks-ticks, ticks-settled)

-- a client's write that is stored on all is counted
stored-counted : (log : Log) (s o : ℕ) (entry : Entry) → durable_now log ≤ log.durable →
    is_stored_on_all log s o ≡ true → slice_get (log.segments s).entries o ≡ Some (entry, true) →
    In (place_at s o (entry, true)) (counted_places log)
stored-counted log zero o entry settled e at = search (arith, and_parts, nat_lt)
stored-counted log (suc n) o entry settled e at =
    In-take log.durable (places_of log) (length (places_to log.segments n) + o) (place_at (suc n) o (entry, true))
    (subst (λ h. slice_get (places_to log.segments h) (length (places_to log.segments n) + o) ≡ Some
    (place_at (suc n) o (entry, true))) up (stands log.segments (log.head - suc n) at))
    (omega (arith, settled, counted))
  where
    first : (has_segment log (suc n) ≡ true) ×
        ((nat_lt o (durable_len (log.segments (suc n)).config) && all_shut_to log.segments (suc n - 1)) ≡ true)
    first = and_parts (has_segment log (suc n)) _ e

    second : (nat_lt o (durable_len (log.segments (suc n)).config) ≡ true) × (all_shut_to log.segments (suc n - 1) ≡ true)
    second = and_parts (nat_lt o (durable_len (log.segments (suc n)).config)) (all_shut_to log.segments (suc n - 1)) first.1

    upto : suc n ≤ log.head
    upto = leb-true (suc n) log.head (and_parts (nat_lt 0 (suc n)) (nat_le (suc n) log.head) first.0).1

    up : (log.head - suc n) + suc n ≡ log.head
    up = omega (arith, upto)

    shut : all_shut_to log.segments n ≡ true
    shut = let e : suc n - 1 ≡ n = omega arith in subst (λ k. all_shut_to log.segments k ≡ true) e second.1

    within : o < durable_in (log.segments (suc n))
    within = search (arith, ltb-true, second, get-within)

    counted : length (places_to log.segments n) + o < durable_now log
    counted = subst (λ h. length (places_to log.segments n) + o < durable_among (map log.segments (numbers_to h))) up
        (reached log.segments n (log.head - suc n) shut within)

pub stored-is-acknowledged : StoredIsAcknowledged
stored-is-acknowledged setup events m s o entry some up stored at =
    (In-filter (is_ack_of m) (ok_of m (place_at s o (entry, true))) (replay setup events).sent
    (subst (In (ok_of m (place_at s o (entry, true)))) (sym (counted-is-acknowledged setup events m))
    (In-oks m (counted_places ((replay setup events).masters m).log) (place_at s o (entry, true))
    (stored-counted ((replay setup events).masters m).log s o entry
    ((kept-replay setup (IsSettled setup) (settled-kept setup) events m).settled some up) stored at) refl))).0
