-- The greatest recovered versions, entry by entry and message by message.
use Rattle.std.proofs.Common.{◌≡◌, ℕ, suc, ◌+◌, ◌<◌, ◌≤◌, Bool, true, false, ◌&&◌, ◌||◌, min, nat_eq, nat_lt, List, []}
use Rattle.std.proofs.Common.{◌∷◌, ◌++◌, length, map, take, get_or, refl, sym, ap, ◌∙◌, subst, arith}
use Rattle.std.specs.BTreeMap.{BTreeMap}
use Rattle.std.proofs.lemmas.Bool.{and_parts, eqb-true}
use Rattle.std.proofs.lemmas.Bool.Decides.{nat_tests}
use Rattle.std.proofs.lemmas.List.{get_or-map, length-map}
use Rattle.std.proofs.lemmas.Grind.{common_steps}
use Rattle.rc_model.specs.Model.{Entry, PlanRow, Message, Body, Place, Append, Ack, reach, is_greater, has_greater, holds_greater}
use Rattle.rc_audit.specs.declared.highs.TermKey.{TermKey}
use Rattle.rc_audit.specs.Highs.{same_key}
use Rattle.rc_audit.specs.Superseded.{greater_below, superseded_in, says_above, Supersedes}
use Rattle.rc_audit.proofs.PlaceLemmas.{taken_more}

pub or_assoc : (a b c : Bool) → ((a || b) || c) ≡ (a || (b || c))
or_assoc true b c = refl
or_assoc false b c = refl

pub or_false : (a : Bool) → (a || false) ≡ a
or_false true = refl
or_false false = refl

pub same_key-true : (a b : TermKey) → same_key a b ≡ true → a ≡ b
same_key-true a b e =
    let one = and_parts (nat_eq a.term b.term) (nat_eq a.table b.table && nat_eq a.key b.key) e in
    let two = and_parts (nat_eq a.table b.table) (nat_eq a.key b.key) one.1 in
    let term : a.term ≡ b.term = eqb-true a.term b.term one.0 in
    let table : a.table ≡ b.table = eqb-true a.table b.table two.0 in
    let key : a.key ≡ b.key = eqb-true a.key b.key two.1 in
    let whole : ◌≡◌ {A = TermKey} (record { term = a.term; table = a.table; key = a.key })
    (record { term = b.term; table = b.table; key = b.key }) = cc in whole

greater_below-push : (limit : ℕ) (ack : Ack) (o : ℕ) (entries : List Entry) (entry : Entry) →
    greater_below limit ack o (entries ++ entry ∷ []) ≡ (greater_below limit ack o entries ||
    (nat_lt (o + length entries) limit && is_greater ack entry))
greater_below-push limit ack o [] entry =
    let here : o ≡ o + 0 = omega arith in or_false (nat_lt o limit && is_greater ack entry) ∙
    ap (λ x. nat_lt x limit && is_greater ack entry) here
greater_below-push limit ack o (first ∷ entries) entry =
    let next : (o + 1) + length entries ≡ o + suc (length entries) = omega arith in
    ap (λ x. (nat_lt o limit && is_greater ack first) || x) (greater_below-push limit ack (o + 1) entries entry ∙
    ap (λ x. greater_below limit ack (o + 1) entries || (nat_lt x limit && is_greater ack entry)) next)
    ∙ sym (or_assoc (nat_lt o limit && is_greater ack first) (greater_below limit ack (o + 1) entries)
    (nat_lt (o + suc (length entries)) limit && is_greater ack entry))

-- the next of the entries that were sent together
pub entries_noted : (old mid new : BTreeMap TermKey ℕ) (limit start offset i : ℕ) (entries : List Entry)
    (entry : Entry) → i < length entries → entry ≡ get_or entries i entry →
    nat_lt offset limit ≡ nat_lt (start + i) limit →
    Supersedes old mid (λ ack. greater_below limit ack start (take i entries)) →
    Supersedes mid new (λ ack. nat_lt offset limit && is_greater ack entry) →
    Supersedes old new (λ ack. greater_below limit ack start (take (i + 1) entries))
entries_noted old mid new limit start offset i entries entry within is at before now = record {
  each = λ ack. now.each ack
      ∙ ap (λ x. x || (nat_lt offset limit && is_greater ack entry)) (before.each ack)
      ∙ or_assoc (says_above old ack) (greater_below limit ack start (take i entries)) (nat_lt offset limit && is_greater ack entry)
      ∙ ap (λ x. says_above old ack || (greater_below limit ack start (take i entries) || (x && is_greater ack entry)))
      (at ∙ ap (λ k. nat_lt (start + k) limit) (sym (taken ack)))
      ∙ sym (ap (λ xs. says_above old ack || greater_below limit ack start xs) (taken_more entries i entry within is) ∙
      ap (λ x. says_above old ack || x) (greater_below-push limit ack start (take i entries) entry));
}
  where
    taken : Ack → length (take i entries) ≡ i
    taken ack = grind (arith, common_steps)

-- the limit that the rows set
has_greater-below : (rows : List PlanRow) (ack : Ack) (s o : ℕ) (entries : List Entry) →
    greater_below (reach rows s) ack o entries ≡ has_greater rows ack s o entries
has_greater-below rows ack s o [] = refl
has_greater-below rows ack s o (entry ∷ entries) =
    ap (λ x. (nat_lt o (reach rows s) && is_greater ack entry) || x) (has_greater-below rows ack s (o + 1) entries)

pub entries_recovered : (old new : BTreeMap TermKey ℕ) (rows : List PlanRow) (s o limit : ℕ) (entries : List Entry) → limit ≡ reach rows s →
    Supersedes old new (λ ack. greater_below limit ack o entries) → Supersedes old new (λ ack. has_greater rows ack s o entries)
entries_recovered old new rows s o limit entries is p = record {
  each = λ ack. p.each ack ∙ ap (λ x. says_above old ack || x) (ap (λ n. greater_below n ack o entries) is ∙
      has_greater-below rows ack s o entries);
}

-- one more message
superseded_in-push : (rows : List PlanRow) (sent : List Message) (message : Message) (ack : Ack) →
    superseded_in rows (sent ++ message ∷ []) ack ≡ (superseded_in rows sent ack || holds_greater rows ack message.body)
superseded_in-push rows [] message ack = or_false (holds_greater rows ack message.body)
superseded_in-push rows (first ∷ sent) message ack =
    ap (λ x. holds_greater rows ack first.body || x) (superseded_in-push rows sent message ack)
    ∙ sym (or_assoc (holds_greater rows ack first.body) (superseded_in rows sent ack) (holds_greater rows ack message.body))

pub message_noted : (old new : BTreeMap TermKey ℕ) (rows : List PlanRow) (sent : List Message) (i : ℕ)
    (message : Message) → i < length sent → message ≡ get_or sent i message →
    ((ack : Ack) → says_above old ack ≡ superseded_in rows (take i sent) ack) →
    Supersedes old new (λ ack. holds_greater rows ack message.body) →
    (ack : Ack) → says_above new ack ≡ superseded_in rows (take (i + 1) sent) ack
message_noted old new rows sent i message within is before now ack =
    now.each ack ∙ ap (λ x. x || holds_greater rows ack message.body) (before ack)
    ∙ sym (ap (λ xs. superseded_in rows xs ack) (taken_more sent i message within is) ∙ superseded_in-push rows (take i sent) message ack)

-- an offset that is cut to what fits is below the same limits
pub below_saturated : (offset whole limit most : ℕ) → limit ≤ most → offset ≡ min whole most → nat_lt offset limit ≡ nat_lt whole limit
below_saturated offset whole limit most fits is = grind (arith, nat_tests)

-- the message is a Place
pub place_noted : (old new : BTreeMap TermKey ℕ) (rows : List PlanRow) (body : Body) (seg epoch : ℕ) (digest : List ℕ)
    (entries slice : List Entry) (closed : Bool) (limit : ℕ) →
    body ≡ Place seg epoch digest entries closed → slice ≡ entries → limit ≡ reach rows seg →
    Supersedes old new (λ ack. greater_below limit ack 0 slice) → Supersedes old new (λ ack. holds_greater rows ack body)
place_noted old new rows body seg epoch digest entries slice closed limit is same at p =
    let P : Body → Type 0 = λ b. Supersedes old new (λ ack. holds_greater rows ack b) in
    subst P (sym is) (entries_recovered old new rows seg 0 limit entries at
    (subst (λ xs. Supersedes old new (λ ack. greater_below limit ack 0 xs)) same p))

-- or an Append
pub append_noted : (old new : BTreeMap TermKey ℕ) (rows : List PlanRow) (body : Body) (seg offset : ℕ)
    (entries slice : List Entry) (limit : ℕ) →
    body ≡ Append seg offset entries → slice ≡ entries → limit ≡ reach rows seg →
    Supersedes old new (λ ack. greater_below limit ack offset slice) → Supersedes old new (λ ack. holds_greater rows ack body)
append_noted old new rows body seg offset entries slice limit is same at p =
    let P : Body → Type 0 = λ b. Supersedes old new (λ ack. holds_greater rows ack b) in
    subst P (sym is) (entries_recovered old new rows seg offset limit entries at
    (subst (λ xs. Supersedes old new (λ ack. greater_below limit ack offset xs)) same p))

-- an element of a list, as it is read
pub got_through : {X Y : Type 0} (f : X → Y) (xs : List X) (i : ℕ) (x : X) → i < length xs → x ≡ get_or xs i x →
    f x ≡ get_or (map f xs) i (f x)
got_through f xs i x within is = ap f is ∙ sym (get_or-map f xs i x (f x) within)

-- the next of the messages that are lent
pub lent_noted : {X : Type 0} (lent slice : List X) (at : X → Message) (old new : BTreeMap TermKey ℕ)
    (rows : List PlanRow) (i : ℕ) (x : X) →
    slice ≡ lent → i < length slice → x ≡ get_or slice i x →
    ((ack : Ack) → says_above old ack ≡ superseded_in rows (take i (map at lent)) ack) →
    Supersedes old new (λ ack. holds_greater rows ack (at x).body) →
    (ack : Ack) → says_above new ack ≡ superseded_in rows (take (i + 1) (map at lent)) ack
lent_noted lent slice at old new rows i x same within is before now =
    let fits : i < length lent = subst (λ xs. i < length xs) same within in
    let here : x ≡ get_or lent i x = subst (λ xs. x ≡ get_or xs i x) same is in
    let long : length (map at lent) ≡ length lent = length-map lent at in
    message_noted old new rows (map at lent) i (at x) (omega (arith, fits, long)) (got_through at lent i x fits here) before now
