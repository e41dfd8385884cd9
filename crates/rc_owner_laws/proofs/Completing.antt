-- A part is complete exactly where its own entries are durable.
use Rattle.std.proofs.Common.{◌≡◌, ◌⊎◌, ◌↔◌, ℕ, ◌≤◌, Bool, true, false, nat_eq, nat_le, ◌&&◌, List, [], ◌∷◌, ◌++◌, length, map}
use Rattle.std.proofs.Common.{take, drop, filter, not, cond, ◌+◌, append_assoc, zero, suc, refl, sym, ap, ◌∙◌, subst, inl, inr, arith}
use Rattle.std.proofs.lemmas.Bool.{eqb-true, leb-true, le-leb}
use Rattle.std.proofs.lemmas.List.{take-append-drop, length-map}
use Rattle.rc_model.specs.Model.{ServerId, Entry, Message, PartRow, PartState, owns_term, under_term, count_under, LogPlace, replayed_at}
use Rattle.rc_model.specs.Model.{Master, durable_entries, durable_replayed}
use Rattle.rc_step_laws.specs.Words.{Begins}
use Rattle.rc_step_laws.proofs.Lists.{begins-length, begins-refl, begins-trans}
use Rattle.rc_step_laws.proofs.Replicas.{begins-whole}
use Rattle.rc_owner_laws.specs.Parts.{part_view, logged, under, IsWaiting, HasJoined, IsPart}
use Rattle.rc_owner_laws.specs.Complete.{AreItsOwn, CompletesWithItsOwn, PartsCompleteWithTheirOwn}
use Rattle.rc_owner_laws.proofs.PartLists.{count-first, count-replayed, under-append, begins-within}
use Rattle.rc_owner_laws.proofs.VersionReplays.{all-world}

-- what is under a term comes first of what is durable, then of the rest
parted : (term d : ℕ) (xs : List Entry) → under term (take d xs) ++ under term (drop d xs) ≡ under term xs
parted term d xs = sym (under-append term (take d xs) (drop d xs)) ∙ ap (under term) (take-append-drop d xs)

-- of what the log begins with, that much is durable where enough of it is
enough : (term d : ℕ) (own xs : List Entry) → Begins own (under term xs) → length own ≤ length (under term (take d xs)) →
    Begins own (under term (take d xs))
enough term d own xs begins long = begins-within own (under term (take d xs)) (under term (drop d xs))
    (subst (λ (ys : List Entry). Begins own ys) (sym (parted term d xs)) begins) long

-- where the log and then the replay have just the own entries, and enough is durable, the log has them all
all-logged : (term d : ℕ) {own : List Entry} (xs waiting : List Entry) → under term xs ++ waiting ≡ own →
    length own ≤ length (under term (take d xs)) → Begins own (under term xs)
all-logged term d {own} xs waiting is long =
    let first : Begins (under term (take d xs)) (under term xs) = (under term (drop d xs), parted term d xs) in
    let short : length (under term (take d xs)) ≤ length (under term xs) = begins-length _ _ first in
    let logged_first : Begins (under term xs) own = (waiting, is) in
    let shorter : length (under term xs) ≤ length own = begins-length _ _ logged_first in
    let same : under term xs ≡ own = begins-whole logged_first (omega arith) in
    subst (λ (ys : List Entry). Begins ys (under term xs)) same begins-refl

-- the entries of the first places are the first entries
logged-take : (d : ℕ) (places : List LogPlace) → logged (take d places) ≡ take d (logged places)
logged-take zero places = refl
logged-take (suc d) [] = refl
logged-take (suc d) (place ∷ places) = ap (λ rest. place.entry ∷ rest) (logged-take d places)

-- where clients' entries under a term come after so many under it, so many of the first were replayed
first-replayed : {term size : ℕ} (n : ℕ) (places : List LogPlace) →
    ((before after : List LogPlace) (place : LogPlace) → places ≡ before ++ place ∷ after → place.client ≡ true →
    place.entry.term ≡ term → size ≤ n + count_under term (logged before)) →
    size ≤ n + count_under term (logged places) → size ≤ n + count_under term (replayed_at places)
first-replayed n [] late enough = enough
first-replayed {term} {size} n (place ∷ places) late enough =
    by (λ m. first-replayed m places) place.client refl (nat_eq place.entry.term term) refl
  where
    Rest : ℕ → Type 0
    Rest m = ((before after : List LogPlace) (one : LogPlace) → places ≡ before ++ one ∷ after → one.client ≡ true →
        one.entry.term ≡ term → size ≤ m + count_under term (logged before)) →
        size ≤ m + count_under term (logged places) → size ≤ m + count_under term (replayed_at places)

    counted : (b : Bool) → nat_eq place.entry.term term ≡ b → (xs : List Entry) →
        count_under term (place.entry ∷ xs) ≡ cond b (count_under term xs + 1) (count_under term xs)
    counted b is xs = count-first term place.entry xs is

    by : ((m : ℕ) → Rest m) → (client : Bool) → place.client ≡ client → (b : Bool) → nat_eq place.entry.term term ≡ b →
        size ≤ n + count_under term (logged (cond (not client) (place ∷ filter (λ one. not one.client) places)
        (filter (λ one. not one.client) places)))
    by rest true written true is =
        let none : size ≤ n + count_under term (logged []) =
        late [] places place refl written (eqb-true place.entry.term term is) in
        omega arith
    by rest true written false is = rest n (λ before after one split client same. omega (
      arith,
      late (place ∷ before) after one (ap (λ rest. place ∷ rest) split) client same,
      counted false is (logged before),
    )) (omega (arith, counted false is (logged places), enough))
    by rest false written true is =
        let found : size ≤ (n + 1) + count_under term (replayed_at places) =
        rest (n + 1) (λ before after one split client same. omega (
          arith,
          late (place ∷ before) after one (ap (λ rest. place ∷ rest) split) client same,
          counted true is (logged before),
        )) (omega (arith, counted true is (logged places), enough)) in
        omega (arith, counted true is (replayed_at places), found)
    by rest false written false is =
        let found : size ≤ n + count_under term (replayed_at places) =
        rest n (λ before after one split client same. omega (
          arith,
          late (place ∷ before) after one (ap (λ rest. place ∷ rest) split) client same,
          counted false is (logged before),
        )) (omega (arith, counted false is (logged places), enough)) in
        omega (arith, counted false is (replayed_at places), found)

-- the same of the first places of a log
some-replayed : {term size : ℕ} (d : ℕ) {places : List LogPlace} →
    ((before after : List LogPlace) (place : LogPlace) → places ≡ before ++ place ∷ after → place.client ≡ true →
    place.entry.term ≡ term → size ≤ count_under term (logged before)) →
    size ≤ count_under term (take d (logged places)) → size ≤ count_under term (replayed_at (take d places))
some-replayed {term} {size} d {places} late enough =
    let found : size ≤ 0 + count_under term (replayed_at (take d places)) =
    first-replayed 0 (take d places) (λ before after place split client same. omega (
      arith,
      late before (after ++ drop d places) place
          (sym (take-append-drop d places) ∙ ap (λ first. first ++ drop d places) split
          ∙ append_assoc before (place ∷ after) (drop d places))
          client same,
    )) (omega (arith, ap (count_under term) (logged-take d places), enough)) in
    omega (arith, found)

-- a part without rows that wait is complete where as many entries are durable as it has
enough-is-complete : (rows : List PartRow) {size count : ℕ} → rows ≡ [] →
    (nat_eq (length rows) 0 && nat_le size count ≡ true) ↔ (size ≤ count)
enough-is-complete [] {size} {count} none = (leb-true size count, le-leb size count)
enough-is-complete (row ∷ rows) none = absurd cc

-- clients' entries under the term of a part come after as many under it as the part has
abbrev ComeLate : List LogPlace → PartState → Type 0
ComeLate places state = (before after : List LogPlace) (place : LogPlace) → places ≡ before ++ place ∷ after →
    place.client ≡ true →
    place.entry.term ≡ state.part.term → state.size ≤ count_under state.part.term (logged before)

-- where the log begins with the own entries as soon as so many are durable, the part is complete where they are
with-own : {sent : List Message} {m : ServerId} {master : Master} {state : PartState} {own : List Entry} →
    state.rows ≡ [] → AreItsOwn sent m master state own → state.size ≡ length own →
    (length own ≤ length (under state.part.term (durable_entries master)) →
    Begins own (under state.part.term (logged (part_view master).places))) →
    (owns_term master.ownership state.part.term ≡ false →
    Begins (under state.part.term (durable_entries master)) own) →
    ComeLate (part_view master).places state →
    CompletesWithItsOwn sent m master state
with-own {master} {state} {own} none are size begins alone late =
    let replayed : ℕ = count_under state.part.term (durable_replayed master) in
    let counted : (nat_eq (length state.rows) 0 && nat_le state.size replayed ≡ true) ↔ (state.size ≤ replayed) =
    enough-is-complete state.rows none in
    let fewer : replayed ≤ length (under state.part.term (durable_entries master)) =
    count-replayed state.part.term master.log.durable (part_view master).places in
    record {
      own = own;
      are = are;
      complete = (
        λ complete. let some : state.size ≤ replayed = counted.0 complete in
            let long : length own ≤ length (under state.part.term (durable_entries master)) = omega arith in
            enough state.part.term master.log.durable own (logged (part_view master).places) (begins long) long,
        λ first. counted.1 (some-replayed master.log.durable late
            (subst (λ (n : ℕ). n ≤ length (under state.part.term (durable_entries master))) (sym size)
            (begins-length own (under state.part.term (durable_entries master)) first))),
      );
      alone = alone;
    }

-- a part whose rows have all come
with-joined : {sent : List Message} {m : ServerId} {master : Master} {state : PartState} (part : IsPart sent m (part_view master) state) →
    HasJoined sent m (part_view master) part.task state → state.rows ≡ [] → ComeLate (part_view master).places state →
    CompletesWithItsOwn sent m master state
with-joined {sent} {m} {master} {state} part joined none late =
    with-own none are (joined.size ∙ sym (length-map joined.entries (under_term state.part.term)))
    (by (owns_term master.ownership state.part.term) refl) alone late
  where
    own : List Entry
    own = map (under_term state.part.term) joined.entries

    are : AreItsOwn sent m master state own
    are = search arith

    by : (owned : Bool) → owns_term master.ownership state.part.term ≡ owned →
        length own ≤ length (under state.part.term (durable_entries master)) →
        Begins own (under state.part.term (logged (part_view master).places))
    by true owned long = (joined.owned owned).0
    by false unowned long = all-logged state.part.term master.log.durable (logged (part_view master).places)
        (under state.part.term master.ownership.replay) (joined.fresh unowned) long

    alone : owns_term master.ownership state.part.term ≡ false →
        Begins (under state.part.term (durable_entries master)) own
    alone unowned = begins-trans (under state.part.term (durable_entries master)) (
      under state.part.term (drop master.log.durable (logged (part_view master).places)),
      parted state.part.term master.log.durable (logged (part_view master).places),
    ) (under state.part.term master.ownership.replay, joined.fresh unowned)

-- a part of which no row waits has joined
completes : {sent : List Message} {m : ServerId} {master : Master} {state : PartState} →
    IsPart sent m (part_view master) state → state.rows ≡ [] → ComeLate (part_view master).places state →
    CompletesWithItsOwn sent m master state
completes {sent} {m} {master} {state} part none late = by part.how
  where
    by : IsWaiting sent m (part_view master) part.task state ⊎ HasJoined sent m (part_view master) part.task state →
        CompletesWithItsOwn sent m master state
    by (inl waits) = absurd (waits.some none)
    by (inr joined) = with-joined part joined none late

pub parts-complete-with-their-own : PartsCompleteWithTheirOwn
parts-complete-with-their-own setup events m state among none =
    let good = (all-world setup events).parts.each m in
    completes (good.parts_are state among) none
    (λ before after place split client same. subst (λ (t : ℕ). state.size ≤ count_under t (logged before)) same
    ((good.clients before after place split client).after state among (sym same)).1)
