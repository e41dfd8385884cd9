-- Each client's place answers a request, before which nothing had been sent for the place.
use Rattle.std.proofs.Common.{◌≡◌, ◌⊎◌, ℕ, zero, suc, ◌+◌, ◌<◌, ◌≤◌, Bool, true, List, [], ◌∷◌, ◌++◌, take, Option, Some, None, slice_get}
use Rattle.std.proofs.Common.{refl, sym, ap, ◌∙◌, subst, inl, inr, arith}
use Rattle.std.proofs.lemmas.List.{append-nil, append_assoc, take-append-le}
use Rattle.rc_model.specs.Model.{ServerId, Server, Outside, Entry, Setup, Event}
use Rattle.rc_model.specs.Model.{Message, Write, Segment, LogPlace, places_in, places_to, places_of}
use Rattle.rc_model.specs.Model.{Master, World, opening, replay, In}
use Rattle.rc_model.proofs.Members.{In-left, In-right, place_of}
use Rattle.rc_model.proofs.Replays.{replay_from-push}
use Rattle.rc_step_laws.specs.All.{log_in}
use Rattle.rc_step_laws.proofs.Lists.{get-begins, get-left, get-within}
use Rattle.rc_step_laws.proofs.Places.{IsOf, places_to-are}
use Rattle.rc_step_laws.proofs.Tests.{get-map}
use Rattle.rc_step_laws.proofs.Clauses.{made-is}
use Rattle.rc_step_laws.proofs.EachMaster.{IsLed, led-by}
use Rattle.rc_step_laws.proofs.Replays.{good-world}
use Rattle.rc_step_laws.proofs.Since.{Since, since-more}
use Rattle.rc_owner_laws.proofs.VersionReplays.{all-world}
use Rattle.rc_owner_laws.proofs.VersionsOrdered.{opened}
use Rattle.rc_owner_laws.specs.AckClaims.{WasToldToWrite}
use Rattle.rc_owner_laws.proofs.Asking.{asks-takes, asks-ticks, ClientsAsked}
use Rattle.rc_promises.proofs.Asked.{clients-asked, client-asked}
use Rattle.rc_promises.specs.Confirmed.{HasSentFor}

-- Places

-- what stands in a segment of a log is one of its places
in-segment : (seg offset o : ℕ) (entries : List (Entry × Bool)) {one : Entry × Bool} → slice_get entries o ≡ Some one →
    In (record { seg = seg; offset = offset + o; entry = one.0; client = one.1 }) (places_in seg offset entries)
in-segment seg offset o [] e = cc
in-segment seg offset zero (first ∷ entries) {one} e = search arith
in-segment seg offset (suc o) (first ∷ entries) {one} e =
    inr (subst (λ n. In (record { seg = seg; offset = n; entry = one.0; client = one.1 }) (places_in seg (offset + 1) entries))
    (let plus : (offset + 1) + o ≡ offset + suc o = omega arith in plus) (in-segment seg (offset + 1) o entries e))

pub place-at : (segments : ℕ → Segment) (n : ℕ) {s : ℕ} (o : ℕ) {one : Entry × Bool} → 0 < s → s ≤ n
    → slice_get (segments s).entries o ≡ Some one →
    In (record { seg = s; offset = o; entry = one.0; client = one.1 }) (places_to segments n)
place-at segments zero o above upto e = absurd (omega (arith, above, upto))
place-at segments (suc n) {s} o {one} above upto e = by (last-or s n upto) (λ less. place-at segments n o above less e)
  where
    last-or : (s n : ℕ) → s ≤ suc n → (s ≡ suc n) ⊎ (s ≤ n)
    last-or s n less = grind arith

    place : LogPlace
    place = record { seg = s; offset = o; entry = one.0; client = one.1 }

    by : (s ≡ suc n) ⊎ (s ≤ n) → (s ≤ n → In place (places_to segments n)) → In place (places_to segments (suc n))
    by (inl same) rec = In-right place (places_to segments n) (places_in (suc n) 0 (segments (suc n)).entries)
        (subst (λ t. In (record { seg = t; offset = o; entry = one.0; client = one.1 }) (places_in (suc n) 0 (segments (suc n)).entries))
        (sym same) (subst (λ k. In (record { seg = suc n; offset = k; entry = one.0; client = one.1 })
        (places_in (suc n) 0 (segments (suc n)).entries)) (let plus : 0 + o ≡ o = omega arith in plus)
        (in-segment (suc n) 0 o (segments (suc n)).entries (subst (λ t. slice_get (segments t).entries o ≡ Some one) same e))))
    by (inr less) rec = In-left place (places_to segments n) (places_in (suc n) 0 (segments (suc n)).entries) (rec less)

-- One event: what a client has in a log after it was asked for before it

module _ (world : World) where
  record IsBefore (sent : List Message) (m : ServerId) (master : Master) : Type 0 where
    sent_is : sent ≡ world.sent
    asked : ClientsAsked world.sent m master

  asked-led : IsLed IsBefore (λ sent m master. ClientsAsked world.sent m master)
  asked-led = record {
    same = λ sent m master p. p.asked;
    others = λ sent messages m master p others. p.asked;
    takes = λ sent m master from body good p at. asks-takes
        (λ (entry : Entry). WasToldToWrite world.sent m entry.table entry.key entry.value) master from
        (λ table key value under e. record {
          message = record { from = from; to = Server m; body = body };
          among = subst (In (record { from = from; to = Server m; body = body })) p.sent_is at;
          to = refl;
          says = e;
        }) p.asked;
    ticks = λ sent m master good p. asks-ticks
        (λ (entry : Entry). WasToldToWrite world.sent m entry.table entry.key entry.value) master p.asked;
  }

asked-before : (setup : Setup) (past : List Event) (one : Event) {m : ServerId} →
    ClientsAsked (replay setup past).sent m ((replay setup (past ++ one ∷ [])).masters m)
asked-before setup past one {m} =
    subst (λ (world : World). ClientsAsked (replay setup past).sent m (world.masters m)) (sym (replay_from-push (opening setup) past one))
    (led-by (IsBefore (replay setup past)) (λ sent k master. ClientsAsked (replay setup past).sent k master)
    (asked-led (replay setup past)) (replay setup past) one (good-world setup past)
    (λ k. record { sent_is = refl; asked = clients-asked setup past }) m)

-- Every list of events

-- the message of this number asks for it, and nothing had been sent for the place before
pub record IsAskedFor (sent : List Message) (m : ServerId) (place : LogPlace) : Type 0 where
  pub number : ℕ
  pub asked : slice_get sent number
      ≡ Some (record { from = Outside; to = Server m; body = Write place.entry.table place.entry.key place.entry.value })
  pub fresh : HasSentFor (take number sent) m place.seg place.offset → ⊥

abbrev AllAskedFor : Setup → List Event → Type 0
AllAskedFor setup events = (m : ServerId) (place : LogPlace) → In place (places_of ((replay setup events).masters m).log) →
    place.client ≡ true → IsAskedFor (replay setup events).sent m place

-- of those that were sent first
pub In-taken-from : {X : Type 0} (n : ℕ) (xs : List X) (x : X) → In x (take n xs) → In x xs
In-taken-from zero xs x at = absurd at
In-taken-from (suc n) [] x at = absurd at
In-taken-from (suc n) (y ∷ xs) x (inl e) = inl e
In-taken-from (suc n) (y ∷ xs) x (inr rest) = inr (In-taken-from n xs x rest)

pub sent-of-take : (n : ℕ) {sent : List Message} {m : ServerId} {s o : ℕ} → HasSentFor (take n sent) m s o → HasSentFor sent m s o
sent-of-take n {sent} (entry, made) = (
  entry,
  record {
    message = made.message;
    among = In-taken-from n sent made.message made.among;
    from = made.from;
    holds = made.holds;
  },
)

asked-one : (setup : Setup) (past : List Event) (one : Event) → AllAskedFor setup past → AllAskedFor setup (past ++ one ∷ [])
asked-one setup past one p m place among client =
    by (slice_get (log_in ((replay setup past).masters m).log place.seg) place.offset) refl
  where
    later : Since m (replay setup past) (replay setup (past ++ one ∷ []))
    later = since-more setup past (one ∷ [])

    of : IsOf ((replay setup (past ++ one ∷ [])).masters m).log.segments ((replay setup (past ++ one ∷ [])).masters m).log.head place
    of = (let k = place_of (places_of ((replay setup (past ++ one ∷ [])).masters m).log) place among in
        places_to-are ((replay setup (past ++ one ∷ [])).masters m).log.head
        k.0 k.1)

    starts : (rest : List Message) × ((replay setup past).sent ++ rest ≡ (replay setup (past ++ one ∷ [])).sent)
    starts = (let s = Rattle.rc_history.proofs.Longer.longer-sent setup (past ++ one ∷ []) past (record { rest = one ∷ []; same = refl }) in
        (s.rest, sym s.same))

    -- a request that was sent before the event is that of the place, where nothing had been sent for it then
    now : (number : ℕ) → slice_get (replay setup past).sent number
        ≡ Some (record { from = Outside; to = Server m; body = Write place.entry.table place.entry.key place.entry.value }) →
        (HasSentFor (take number (replay setup past).sent) m place.seg place.offset → ⊥) →
        IsAskedFor (replay setup (past ++ one ∷ [])).sent m place
    now number asked fresh = record {
      number = number;
      asked = subst (λ l. slice_get l number ≡ Some (record {
        from = Outside;
        to = Server m;
        body = Write place.entry.table place.entry.key place.entry.value;
      })) starts.1 (get-left (replay setup past).sent starts.0 number asked);
      fresh = λ sent. fresh (subst (λ l. HasSentFor l m place.seg place.offset)
          (ap (take number) (sym starts.1) ∙ take-append-le number (replay setup past).sent starts.0
          (let less = get-within (replay setup past).sent number asked in omega (arith, less))) sent);
    }

    by : (found : Option Entry) → slice_get (log_in ((replay setup past).masters m).log place.seg) place.offset ≡ found →
        IsAskedFor (replay setup (past ++ one ∷ [])).sent m place
    by (Some entry) e = (let was : IsAskedFor (replay setup past).sent m place = p m place before client in
        now was.number was.asked was.fresh)
      where
        at : (0 < place.seg) × (place.seg ≤ ((replay setup past).masters m).log.head)
        at = opened (replay setup past).sent (replay setup past).masters (replay setup past).hosts (replay setup past).coordinator
            (all-world setup past) place.offset e

        it : (one : Entry × Bool) × (slice_get (((replay setup past).masters m).log.segments place.seg).entries place.offset ≡ Some one)
            × (one.0 ≡ entry)
        it = get-map (((replay setup past).masters m).log.segments place.seg).entries place.offset e

        same : it.0 ≡ (place.entry, place.client)
        same =
            let here : slice_get (((replay setup (past ++ one ∷ [])).masters m).log.segments place.seg).entries place.offset ≡ Some it.0 =
            get-begins (((replay setup past).masters m).log.segments place.seg).entries (later.later.grows place.seg) place.offset
            it.1 in
            let there : slice_get (((replay setup (past ++ one ∷ [])).masters m).log.segments place.seg).entries place.offset
            ≡ Some (place.entry, place.client) = of.holds in
            cc

        before : In place (places_of ((replay setup past).masters m).log)
        before = subst (λ (one : Entry × Bool). In (record { seg = place.seg; offset = place.offset; entry = one.0; client = one.1 })
            (places_of ((replay setup past).masters m).log)) same
            (place-at ((replay setup past).masters m).log.segments ((replay setup past).masters m).log.head place.offset
            at.0 at.1 it.1)
    by None e =
        let found = place_of (replay setup past).sent _ (client-asked setup past m place.entry.table place.entry.key place.entry.value
        (asked-before setup past one place among client)) in
        now found.0 found.1 (λ sent. none (sent-of-take found.0 sent))
      where
        none : HasSentFor (replay setup past).sent m place.seg place.offset → ⊥
        none (entry, made) =
            let there : slice_get (log_in ((replay setup past).masters m).log place.seg) place.offset ≡ Some entry =
            made-is (good-world setup past) made in
            cc

asked-more : (setup : Setup) (past events : List Event) → AllAskedFor setup past → AllAskedFor setup (past ++ events)
asked-more setup past [] p = subst (AllAskedFor setup) (sym (append-nil past)) p
asked-more setup past (one ∷ events) p = subst (AllAskedFor setup) (append_assoc past (one ∷ []) events)
    (asked-more setup (past ++ one ∷ []) events (asked-one setup past one p))

pub all-asked-for : (setup : Setup) (events : List Event) (m : ServerId) (place : LogPlace) →
    In place (places_of ((replay setup events).masters m).log) → place.client ≡ true → IsAskedFor (replay setup events).sent m place
all-asked-for setup events = asked-more setup [] events (λ m place at. absurd at)
