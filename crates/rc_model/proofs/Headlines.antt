-- A list of messages holds no breach exactly where the headline is true of it.
use Rattle.std.proofs.Common.{◌≡◌, ◌⊎◌, ℕ, zero, suc, ◌+◌, ◌-◌, ◌<◌, ◌≤◌, Bool, true, false, cond, not, ◌&&◌, ◌||◌, List, [], ◌∷◌, nat_eq}
use Rattle.std.proofs.Common.{nat_lt, nat_le, slice_get, Option, Some, None, refl, sym, ap, ◌∙◌, subst, inl, inr, arith}
use Rattle.std.proofs.lemmas.Bool.{eqb-true, eq-eqb, ltb-true, lt-ltb, leb-true, le-leb, and_parts, and_from, or_cases, or_left, or_right}
use Rattle.std.proofs.lemmas.Bool.{or_from, or_parts, not-false, not_from_true, true_from_ne_false, false_from_ne_true}
use Rattle.std.specs.Option.{option_or}
use Rattle.rc_model.specs.Model.{ServerId, Entry, PlanRow, Message, Body, Place, Append, Breach, Missing, Invented, Version, is_server}
use Rattle.rc_model.specs.Model.{ascending, entry_at, made, Ack, acknowledged, all_acknowledged, Accepted, accepted, reach, is_recovered}
use Rattle.rc_model.specs.Model.{same_numbers, same_value, same_entry, is_of_ack, agrees, all_agree, is_greater}
use Rattle.rc_model.specs.Model.{has_greater, holds_greater, is_superseded, is_missing, first_missing, all_same, is_one_entry}
use Rattle.rc_model.specs.Model.{first_invented_from, first_invented, segments_of, falls, first_fall, missing_of, invented_of}
use Rattle.rc_model.specs.Model.{falls_of, breach, In, IsHeld, IsOfAck, IsSuperseded, IsThere, IsOneEntry, RisesOver, Headline}
use Rattle.rc_model.specs.Model.{NothingDroppedIsNothingMissing, NoBreachIsTheHeadline}
use Rattle.rc_model.proofs.Befores.{is_before-finds, is_before-found}
use Rattle.rc_model.proofs.Ascending.{In-ascending}
use Rattle.rc_model.proofs.Members.{is_recovered-held, held-is_recovered, held-reaches, held-from_reach, held-segment}
use Rattle.rc_model.proofs.Said.{is_server-true, is_server-from, HasMade-from, HasMade-in, HasAcknowledged-from, HasAcknowledged-in}
use Rattle.rc_model.proofs.Said.{WasAcknowledged-from, WasAcknowledged-in, WasAccepted-from, WasAccepted-in}

-- Of the acknowledged term, table and key

is_of_ack-true : {ack : Ack} {entry : Entry} → is_of_ack ack entry ≡ true → IsOfAck ack entry
is_of_ack-true {ack} {entry} e = search (arith, and_parts, nat_eq, eqb-true)

is_of_ack-from : {ack : Ack} {entry : Entry} → IsOfAck ack entry → is_of_ack ack entry ≡ true
is_of_ack-from {ack} {entry} p = search (arith, and_from, nat_eq, eq-eqb)

abbrev Agrees : Ack → Entry → Type 0
Agrees ack entry = IsOfAck ack entry × (entry.version ≡ ack.version)

agrees-true : {ack : Ack} {entry : Entry} → agrees ack entry ≡ true → Agrees ack entry
agrees-true {ack} {entry} e = let parts = and_parts (is_of_ack ack entry) (nat_eq entry.version ack.version) e in
    (is_of_ack-true parts.0, eqb-true entry.version ack.version parts.1)

agrees-from : {ack : Ack} {entry : Entry} → Agrees ack entry → agrees ack entry ≡ true
agrees-from {ack} {entry} p = and_from (is_of_ack ack entry) (nat_eq entry.version ack.version)
    (is_of_ack-from p.0) (eq-eqb entry.version ack.version p.1)

all_agree-true : (ack : Ack) (entries : List Entry) → all_agree ack entries ≡ true → (entry : Entry) → In entry entries → Agrees ack entry
all_agree-true ack [] e entry at = absurd at
all_agree-true ack (first ∷ entries) e entry (inl same) = search (arith, and_parts, agrees-true)
all_agree-true ack (first ∷ entries) e entry (inr rest) =
    let parts = and_parts (agrees ack first) (all_agree ack entries) e in all_agree-true ack entries parts.1 entry rest

all_agree-from : {ack : Ack} (entries : List Entry) →
    ((entry : Entry) → In entry entries → Agrees ack entry) → all_agree ack entries ≡ true
all_agree-from [] each = refl
all_agree-from {ack} (entry ∷ entries) each = and_from (agrees ack entry) (all_agree ack entries)
    (agrees-from (each entry (inl refl))) (all_agree-from entries (λ other at. each other (inr at)))

-- Superseded

-- a greater version among these entries, the first of which stands at the offset
record GreaterAt (rows : List PlanRow) (ack : Ack) (s o : ℕ) (entries : List Entry) : Type 0 where
  k : ℕ
  entry : Entry
  at : slice_get entries k ≡ Some entry
  recovered : is_recovered rows s (o + k) ≡ true
  greater : is_greater ack entry ≡ true

has_greater-true : (rows : List PlanRow) (ack : Ack) (s o : ℕ) (entries : List Entry) →
    has_greater rows ack s o entries ≡ true → GreaterAt rows ack s o entries
has_greater-true rows ack s o [] e = cc
has_greater-true rows ack s o (first ∷ entries) e =
    by (has_greater-true rows ack s (o + 1) entries) (or_cases (is_recovered rows s o && is_greater ack first)
    (has_greater rows ack s (o + 1) entries) e)
  where
    here : o + 0 ≡ o
    here = omega arith

    next : (k : ℕ) → (o + 1) + k ≡ o + suc k
    next k = omega arith

    by : (has_greater rows ack s (o + 1) entries ≡ true → GreaterAt rows ack s (o + 1) entries) →
        ((is_recovered rows s o && is_greater ack first) ≡ true) ⊎ (has_greater rows ack s (o + 1) entries ≡ true) →
        GreaterAt rows ack s o (first ∷ entries)
    by later (inl found) = search (arith, and_parts, here)
    by later (inr found) =
        let p = later found in record {
          k = suc p.k;
          entry = p.entry;
          at = p.at;
          recovered = subst (λ x. is_recovered rows s x ≡ true) (next p.k) p.recovered;
          greater = p.greater;
        }

has_greater-from : (rows : List PlanRow) (ack : Ack) (s o : ℕ) (entries : List Entry) (k : ℕ) (entry : Entry) →
    slice_get entries k ≡ Some entry → is_recovered rows s (o + k) ≡ true → is_greater ack entry ≡ true →
    has_greater rows ack s o entries ≡ true
has_greater-from rows ack s o [] k entry at recovered greater = cc
has_greater-from rows ack s o (first ∷ entries) zero entry at recovered greater = search (arith, or_left, and_from)
has_greater-from rows ack s o (first ∷ entries) (suc k) entry at recovered greater =
    let next : o + suc k ≡ (o + 1) + k = omega arith in
    or_right (is_recovered rows s o && is_greater ack first) (has_greater rows ack s (o + 1) entries)
    (has_greater-from rows ack s (o + 1) entries k entry at (subst (λ x. is_recovered rows s x ≡ true) next recovered) greater)

-- a greater version that a message holds
record GreaterIn (rows : List PlanRow) (ack : Ack) (body : Body) : Type 0 where
  seg : ℕ
  offset : ℕ
  entry : Entry
  at : entry_at body seg offset ≡ Some entry
  recovered : is_recovered rows seg offset ≡ true
  greater : is_greater ack entry ≡ true

-- where the test is true, what it chooses
chosen : {X : Type 0} (b : Bool) (x : Option X) (y : X) → b ≡ true → x ≡ Some y → cond b x None ≡ Some y
chosen true x y e is = is
chosen false x y e is = cc

chosen-parts : {X : Type 0} (b : Bool) {x : Option X} {y : X} → cond b x None ≡ Some y → (b ≡ true) × (x ≡ Some y)
chosen-parts true e = (refl, e)
chosen-parts false e = cc

holds_greater-true : (rows : List PlanRow) (ack : Ack) (body : Body) → holds_greater rows ack body ≡ true → GreaterIn rows ack body
holds_greater-true rows ack (Place seg epoch digest entries closed) e =
    let p = has_greater-true rows ack seg 0 entries e in let from : 0 + p.k ≡ p.k = omega arith in
    record {
      seg = seg;
      offset = p.k;
      entry = p.entry;
      at = chosen (nat_eq seg seg) (slice_get entries p.k) p.entry (eq-eqb seg seg refl) p.at;
      recovered = subst (λ x. is_recovered rows seg x ≡ true) from p.recovered;
      greater = p.greater;
    }
holds_greater-true rows ack (Append seg offset entries) e =
    let p = has_greater-true rows ack seg offset entries e in
    let le : offset ≤ offset + p.k = omega arith in let back : (offset + p.k) - offset ≡ p.k = omega arith in
    record {
      seg = seg;
      offset = offset + p.k;
      entry = p.entry;
      at = chosen (nat_eq seg seg && nat_le offset (offset + p.k)) (slice_get entries ((offset + p.k) - offset)) p.entry
          (and_from (nat_eq seg seg) (nat_le offset (offset + p.k)) (eq-eqb seg seg refl)
          (le-leb offset (offset + p.k) le)) (ap (λ x. slice_get entries x) back ∙ p.at);
      recovered = p.recovered;
      greater = p.greater;
    }
holds_greater-true rows ack _ e = cc

holds_greater-from : (rows : List PlanRow) (ack : Ack) (body : Body) (s o : ℕ) (entry : Entry) →
    entry_at body s o ≡ Some entry → is_recovered rows s o ≡ true → is_greater ack entry ≡ true → holds_greater rows ack body ≡ true
holds_greater-from rows ack (Place seg epoch digest entries closed) s o entry at recovered greater =
    search (arith, chosen-parts, nat_eq, eqb-true, has_greater-from)
holds_greater-from rows ack (Append seg offset entries) s o entry at recovered greater =
    search (arith, chosen-parts, nat_eq, nat_le, and_parts, eqb-true, leb-true, has_greater-from)
holds_greater-from rows ack _ s o entry at recovered greater = cc

-- a greater version that the master has sent
record GreaterSent (sent : List Message) (plan : Accepted) (ack : Ack) : Type 0 where
  message : Message
  among : In message sent
  from : is_server plan.master message.from ≡ true
  holds : holds_greater plan.rows ack message.body ≡ true

is_superseded-sent : (sent : List Message) (plan : Accepted) (ack : Ack) → is_superseded sent plan ack ≡ true → GreaterSent sent plan ack
is_superseded-sent [] plan ack e = cc
is_superseded-sent (first ∷ sent) plan ack e = by (is_superseded-sent sent plan ack)
    (or_cases (is_server plan.master first.from && holds_greater plan.rows ack first.body)
    (is_superseded sent plan ack) e)
  where
    by : (is_superseded sent plan ack ≡ true → GreaterSent sent plan ack) →
        ((is_server plan.master first.from && holds_greater plan.rows ack first.body) ≡ true) ⊎
        (is_superseded sent plan ack ≡ true) → GreaterSent (first ∷ sent) plan ack
    by later (inl found) = search (arith, and_parts)
    by later (inr found) = let p = later found in record { message = p.message; among = inr p.among; from = p.from; holds = p.holds }

sent-is_superseded : (sent : List Message) (plan : Accepted) (ack : Ack) (message : Message) → In message sent →
    is_server plan.master message.from ≡ true → holds_greater plan.rows ack message.body ≡ true → is_superseded sent plan ack ≡ true
sent-is_superseded [] plan ack message at from holds = absurd at
sent-is_superseded (first ∷ sent) plan ack message (inl e) from holds = search (arith, or_left, and_from)
sent-is_superseded (first ∷ sent) plan ack message (inr rest) from holds =
    or_right (is_server plan.master first.from && holds_greater plan.rows ack first.body) (is_superseded sent plan ack)
    (sent-is_superseded sent plan ack message rest from holds)

is_superseded-true : (sent : List Message) (plan : Accepted) (ack : Ack) → is_superseded sent plan ack ≡ true → IsSuperseded sent plan ack
is_superseded-true sent plan ack e =
    let p = is_superseded-sent sent plan ack e in let g = holds_greater-true plan.rows ack p.message.body p.holds in
    let parts = and_parts (is_of_ack ack g.entry) (nat_lt ack.version g.entry.version) g.greater in
    record {
      seg = g.seg;
      offset = g.offset;
      entry = g.entry;
      held = is_recovered-held g.recovered;
      made = record { message = p.message; among = p.among; from = is_server-true p.message.from p.from; holds = g.at };
      of_ack = is_of_ack-true parts.0;
      greater = ltb-true ack.version g.entry.version parts.1;
    }

is_superseded-from : {sent : List Message} {plan : Accepted} {ack : Ack} →
    IsSuperseded sent plan ack → is_superseded sent plan ack ≡ true
is_superseded-from {sent} {plan} {ack} p =
    search (
      arith,
      sent-is_superseded,
      is_server-from,
      holds_greater-from,
      held-is_recovered,
      and_from,
      nat_lt,
      is_of_ack-from,
      lt-ltb,
    )

-- Missing

is_missing-false : {sent : List Message} {plan : Accepted} {ack : Ack} → is_missing sent plan ack ≡ false → IsThere sent plan ack
is_missing-false {sent} {plan} {ack} e =
    let parts = or_parts (not (is_recovered plan.rows ack.seg ack.offset || is_superseded sent plan ack))
    (not (all_agree ack (made sent plan.master ack.seg ack.offset))) e in
    record {
      held = by (or_cases (is_recovered plan.rows ack.seg ack.offset) (is_superseded sent plan ack) (not-false _ parts.0));
      only = λ entry p. all_agree-true ack (made sent plan.master ack.seg ack.offset) (not-false _ parts.1) entry
          (HasMade-in sent plan.master ack.seg ack.offset entry p);
    }
  where
    by : (is_recovered plan.rows ack.seg ack.offset ≡ true) ⊎ (is_superseded sent plan ack ≡ true) →
        IsHeld plan.rows ack.seg ack.offset ⊎ IsSuperseded sent plan ack
    by (inl h) = inl (is_recovered-held h)
    by (inr h) = inr (is_superseded-true sent plan ack h)

is_missing-from : {sent : List Message} {plan : Accepted} {ack : Ack} → IsThere sent plan ack → is_missing sent plan ack ≡ false
is_missing-from {sent} {plan} {ack} p =
    or_from (not (is_recovered plan.rows ack.seg ack.offset || is_superseded sent plan ack))
    (not (all_agree ack (made sent plan.master ack.seg ack.offset))) (not_from_true _ (by p.held))
    (not_from_true _ (all_agree-from (made sent plan.master ack.seg ack.offset)
    (λ entry at. p.only entry (HasMade-from sent plan.master ack.seg ack.offset entry at))))
  where
    by : IsHeld plan.rows ack.seg ack.offset ⊎ IsSuperseded sent plan ack →
        (is_recovered plan.rows ack.seg ack.offset || is_superseded sent plan ack) ≡ true
    by (inl h) = or_left (is_recovered plan.rows ack.seg ack.offset) (is_superseded sent plan ack)
        (held-is_recovered h)
    by (inr h) = or_right (is_recovered plan.rows ack.seg ack.offset) (is_superseded sent plan ack) (is_superseded-from h)

-- the choice between a breach and what follows is None exactly where the test passes and so does what follows
some_or-false : (b : Bool) (breach : Breach) {rest : Option Breach} →
    cond b (Some breach) rest ≡ None → (b ≡ false) × (rest ≡ None)
some_or-false true breach e = cc
some_or-false false breach e = (refl, e)

some_or-none : (b : Bool) (breach : Breach) {rest : Option Breach} → b ≡ false → rest ≡ None → cond b (Some breach) rest ≡ None
some_or-none true breach e is = cc
some_or-none false breach e is = is

option_or-parts : (one : Option Breach) {other : Option Breach} → option_or one other ≡ None → (one ≡ None) × (other ≡ None)
option_or-parts None e = (refl, e)
option_or-parts (Some breach) e = cc

option_or-none : {one other : Option Breach} → one ≡ None → other ≡ None → option_or one other ≡ None
option_or-none {other} p q = ap (λ found. option_or found other) p ∙ q

first_missing-each : (sent : List Message) (plan : Accepted) (acks : List Ack) → first_missing sent plan acks ≡ None →
    (ack : Ack) → In ack acks → IsThere sent plan ack
first_missing-each sent plan [] e ack at = absurd at
first_missing-each sent plan (first ∷ acks) e ack (inl same) =
    let parts = some_or-false (is_missing sent plan first) (Missing plan.attempt plan.master first.seg first.offset) e in
    subst (λ x. IsThere sent plan x) (sym same) (is_missing-false parts.0)
first_missing-each sent plan (first ∷ acks) e ack (inr rest) =
    let parts = some_or-false (is_missing sent plan first) (Missing plan.attempt plan.master first.seg first.offset) e in
    first_missing-each sent plan acks parts.1 ack rest

first_missing-none : {sent : List Message} {plan : Accepted} (acks : List Ack) →
    ((ack : Ack) → In ack acks → IsThere sent plan ack) → first_missing sent plan acks ≡ None
first_missing-none [] each = refl
first_missing-none {sent} {plan} (first ∷ acks) each =
    some_or-none (is_missing sent plan first) (Missing plan.attempt plan.master first.seg first.offset)
    (is_missing-from (each first (inl refl))) (first_missing-none acks (λ other at. each other (inr at)))

missing_of-each : (sent : List Message) (plans : List Accepted) → missing_of sent plans ≡ None → (plan : Accepted) →
    In plan plans → (ack : Ack) → In ack (acknowledged sent plan.master) → IsThere sent plan ack
missing_of-each sent [] e plan at = absurd at
missing_of-each sent (first ∷ plans) e plan (inl same) =
    let parts = option_or-parts (first_missing sent first (acknowledged sent first.master)) e in
    let P : Accepted → Type 0 = λ x. (ack : Ack) → In ack (acknowledged sent x.master) → IsThere sent x ack in
    subst P (sym same) (first_missing-each sent first (acknowledged sent first.master) parts.0)
missing_of-each sent (first ∷ plans) e plan (inr rest) =
    let parts = option_or-parts (first_missing sent first (acknowledged sent first.master)) e in
    missing_of-each sent plans parts.1 plan rest

missing_of-none : {sent : List Message} (plans : List Accepted) →
    ((plan : Accepted) → In plan plans → (ack : Ack) → In ack (acknowledged sent plan.master) → IsThere sent plan ack) →
    missing_of sent plans ≡ None
missing_of-none [] each = refl
missing_of-none {sent} (first ∷ plans) each = option_or-none
    (first_missing-none (acknowledged sent first.master) (each first (inl refl)))
    (missing_of-none plans (λ other at. each other (inr at)))

-- Invented

same_numbers-true : (ns ms : List ℕ) → same_numbers ns ms ≡ true → ns ≡ ms
same_numbers-true [] [] e = refl
same_numbers-true [] (m ∷ ms) e = cc
same_numbers-true (n ∷ ns) [] e = cc
same_numbers-true (n ∷ ns) (m ∷ ms) e =
    let parts = and_parts (nat_eq n m) (same_numbers ns ms) e in let one : n ≡ m =
    eqb-true n m parts.0 in let rest : ns ≡ ms = same_numbers-true ns ms parts.1 in cc

pub same_numbers-refl : (ns : List ℕ) → same_numbers ns ns ≡ true
same_numbers-refl [] = refl
same_numbers-refl (n ∷ ns) = and_from (nat_eq n n) (same_numbers ns ns) (eq-eqb n n refl) (same_numbers-refl ns)

same_value-true : (a b : Option (List ℕ)) → same_value a b ≡ true → a ≡ b
same_value-true None None e = refl
same_value-true None (Some b) e = cc
same_value-true (Some a) None e = cc
same_value-true (Some a) (Some b) e = ap Some (same_numbers-true a b e)

pub same_value-refl : (value : Option (List ℕ)) → same_value value value ≡ true
same_value-refl None = refl
same_value-refl (Some ns) = same_numbers-refl ns

entry_from : {a b : Entry} → a.term ≡ b.term → a.table ≡ b.table → a.key ≡ b.key → a.version ≡ b.version → a.value ≡ b.value → a ≡ b
entry_from {a} {b} term table key version value = search arith

pub same_entry-true : {a b : Entry} → same_entry a b ≡ true → a ≡ b
same_entry-true {a} {b} e = search (arith, and_parts, nat_eq, entry_from, eqb-true, same_value-true)

same_entry-refl : (a : Entry) → same_entry a a ≡ true
same_entry-refl a = search (arith, and_from, nat_eq, eq-eqb, same_value-refl)

all_same-each : (entry : Entry) (entries : List Entry) → all_same entry entries ≡ true → (other : Entry) → In other entries → other ≡ entry
all_same-each entry [] e other at = absurd at
all_same-each entry (first ∷ entries) e other (inl same) =
    let parts = and_parts (same_entry entry first) (all_same entry entries) e in same ∙ sym (same_entry-true parts.0)
all_same-each entry (first ∷ entries) e other (inr rest) =
    let parts = and_parts (same_entry entry first) (all_same entry entries) e in all_same-each entry entries parts.1 other rest

all_same-from : {entry : Entry} (entries : List Entry) → ((other : Entry) → In other entries → entry ≡ other) →
    all_same entry entries ≡ true
all_same-from [] each = refl
all_same-from {entry} (other ∷ others) each = and_from (same_entry entry other) (all_same entry others)
    (subst (λ one. same_entry entry one ≡ true) (each other (inl refl)) (same_entry-refl entry))
    (all_same-from others (λ one at. each one (inr at)))

-- one of these entries, and all are this one
record OneOf (entries : List Entry) : Type 0 where
  entry : Entry
  among : In entry entries
  only : (other : Entry) → In other entries → other ≡ entry

is_one_entry-true : (entries : List Entry) → is_one_entry entries ≡ true → OneOf entries
is_one_entry-true [] e = cc
is_one_entry-true (first ∷ entries) e = record { entry = first; among = inl refl; only = only }
  where
    only : (other : Entry) → In other (first ∷ entries) → other ≡ first
    only other (inl same) = same
    only other (inr rest) = all_same-each first entries e other rest

is_one_entry-from : (entries : List Entry) (entry : Entry) → In entry entries →
    ((other : Entry) → In other entries → other ≡ entry) → is_one_entry entries ≡ true
is_one_entry-from [] entry at only = absurd at
is_one_entry-from (first ∷ entries) entry at only =
    all_same-from entries (λ other there. only first (inl refl) ∙ sym (only other (inr there)))

is_one_entry-made : {sent : List Message} {m : ServerId} {s o : ℕ} → is_one_entry (made sent m s o) ≡ true → IsOneEntry sent m s o
is_one_entry-made {sent} {m} {s} {o} e =
    let p = is_one_entry-true (made sent m s o) e in
    record {
      entry = p.entry;
      made = HasMade-from sent m s o p.entry p.among;
      only = λ other q. p.only other (HasMade-in sent m s o other q);
    }

made-is_one_entry : {sent : List Message} {m : ServerId} {s o : ℕ} → IsOneEntry sent m s o → is_one_entry (made sent m s o) ≡ true
made-is_one_entry {sent} {m} {s} {o} p =
    is_one_entry-from (made sent m s o) p.entry (HasMade-in sent m s o p.entry p.made)
    (λ other at. p.only other (HasMade-from sent m s o other at))

-- the choice between what follows and a breach
or_some-true : (b : Bool) (breach : Breach) {rest : Option Breach} →
    cond b rest (Some breach) ≡ None → (b ≡ true) × (rest ≡ None)
or_some-true true breach e = (refl, e)
or_some-true false breach e = cc

or_some-none : (b : Bool) (breach : Breach) {rest : Option Breach} → b ≡ true → rest ≡ None → cond b rest (Some breach) ≡ None
or_some-none true breach e is = is
or_some-none false breach e is = cc

first_invented_from-each : {sent : List Message} (plan : Accepted) {s : ℕ} (o places : ℕ) →
    first_invented_from sent plan s o places ≡ None → (k : ℕ) → k < places → IsOneEntry sent plan.master s (o + k)
first_invented_from-each plan o zero e k less = search arith
first_invented_from-each {sent} plan {s} o (suc places) e zero less = search (arith, or_some-true, is_one_entry-made)
first_invented_from-each {sent} plan {s} o (suc places) e (suc k) less =
    let parts = or_some-true (is_one_entry (made sent plan.master s o)) (Invented plan.attempt plan.master s o) e in
    let next : (o + 1) + k ≡ o + suc k = omega arith in let fewer : k < places = omega (arith, less) in
    subst (λ x. IsOneEntry sent plan.master s x) next (first_invented_from-each plan (o + 1) places parts.1 k fewer)

first_invented_from-none : {sent : List Message} (plan : Accepted) {s : ℕ} (o places : ℕ) →
    ((k : ℕ) → k < o + places → IsOneEntry sent plan.master s k) → first_invented_from sent plan s o places ≡ None
first_invented_from-none plan o zero each = refl
first_invented_from-none {sent} plan {s} o (suc places) each =
    or_some-none (is_one_entry (made sent plan.master s o)) (Invented plan.attempt plan.master s o)
    (made-is_one_entry (each o (omega arith)))
    (first_invented_from-none plan (o + 1) places (λ k less. each k (omega arith)))

first_invented-each : (sent : List Message) (plan : Accepted) (segs : List ℕ) → first_invented sent plan segs ≡ None →
    (s : ℕ) → In s segs → (o : ℕ) → o < reach plan.rows s → IsOneEntry sent plan.master s o
first_invented-each sent plan [] e s at o below = absurd at
first_invented-each sent plan (first ∷ segs) e s (inl same) o below =
    let parts = option_or-parts (first_invented_from sent plan first 0 (reach plan.rows first)) e in
    let from : 0 + o ≡ o = omega arith in
    subst (λ x. IsOneEntry sent plan.master x o) (sym same) (subst (λ x. IsOneEntry sent plan.master first x) from
    (first_invented_from-each plan 0 (reach plan.rows first) parts.0 o (subst (λ x. o < reach plan.rows x) same below)))
first_invented-each sent plan (first ∷ segs) e s (inr rest) o below =
    let parts = option_or-parts (first_invented_from sent plan first 0 (reach plan.rows first)) e in
    first_invented-each sent plan segs parts.1 s rest o below

first_invented-none : {sent : List Message} (plan : Accepted) (segs : List ℕ) →
    ((s o : ℕ) → o < reach plan.rows s → IsOneEntry sent plan.master s o) → first_invented sent plan segs ≡ None
first_invented-none plan [] each = refl
first_invented-none plan (s ∷ segs) each = option_or-none
    (first_invented_from-none plan 0 (reach plan.rows s) (λ k less. each s k (omega arith)))
    (first_invented-none plan segs each)

first_invented-held : {sent : List Message} (plan : Accepted) →
    first_invented sent plan (ascending (segments_of plan.rows)) ≡ None → (s o : ℕ) → IsHeld plan.rows s o →
    IsOneEntry sent plan.master s o
first_invented-held {sent} plan e s o p = first_invented-each sent plan (ascending (segments_of plan.rows)) e s
    (In-ascending s (segments_of plan.rows)
    (subst (λ x. In x (segments_of plan.rows)) p.seg (held-segment plan.rows p.row p.among))) o
    (held-reaches plan.rows p.row s o p.among p.seg p.below)

invented_of-each : (sent : List Message) (plans : List Accepted) → invented_of sent plans ≡ None → (plan : Accepted) →
    In plan plans → (s o : ℕ) → IsHeld plan.rows s o → IsOneEntry sent plan.master s o
invented_of-each sent [] e plan at = absurd at
invented_of-each sent (first ∷ plans) e plan (inl same) = search (arith, option_or-parts, first_invented-held)
invented_of-each sent (first ∷ plans) e plan (inr rest) =
    let parts = option_or-parts (first_invented sent first (ascending (segments_of first.rows)))
    e in invented_of-each sent plans parts.1 plan rest

invented_of-none : {sent : List Message} (plans : List Accepted) →
    ((plan : Accepted) → In plan plans → (s o : ℕ) → IsHeld plan.rows s o → IsOneEntry sent plan.master s o) →
    invented_of sent plans ≡ None
invented_of-none [] each = refl
invented_of-none (first ∷ plans) each = option_or-none (first_invented-none first (ascending (segments_of first.rows))
    (λ s o below. each first (inl refl) s o (held-from_reach first.rows below)))
    (invented_of-none plans (λ other at. each other (inr at)))

-- Versions

-- the four tests of a fall
falls-rises : (sent : List Message) (later earlier : Ack) → falls sent later earlier ≡ false → RisesOver sent later earlier
falls-rises sent later earlier e table key before =
    search (arith, ltb-true, true_from_ne_false, nat_lt, and_from, nat_eq, eq-eqb, is_before-found)

rises-falls : (sent : List Message) (later earlier : Ack) → RisesOver sent later earlier → falls sent later earlier ≡ false
rises-falls sent later earlier rises =
    search (arith, false_from_ne_true, and_parts, nat_eq, nat_lt, lt-ltb, eqb-true, is_before-finds)

first_fall-each : (sent : List Message) (later : Ack) (acks : List Ack) → first_fall sent later acks ≡ None →
    (earlier : Ack) → In earlier acks → RisesOver sent later earlier
first_fall-each sent later [] e earlier at = absurd at
first_fall-each sent later (first ∷ acks) e earlier (inl same) = search (arith, some_or-false, falls-rises)
first_fall-each sent later (first ∷ acks) e earlier (inr rest) =
    let parts = some_or-false (falls sent later first)
    (Version later.table later.key first.term first.version later.term later.version)
    e in
    first_fall-each sent later acks parts.1 earlier rest

first_fall-none : (sent : List Message) (later : Ack) (acks : List Ack) →
    ((earlier : Ack) → In earlier acks → RisesOver sent later earlier) → first_fall sent later acks ≡ None
first_fall-none sent later [] each = refl
first_fall-none sent later (first ∷ acks) each =
    some_or-none (falls sent later first) (Version later.table later.key first.term first.version later.term
    later.version)
    (rises-falls sent later first (each first (inl refl))) (first_fall-none sent later acks (λ other at. each other (inr at)))

falls_of-each : (sent : List Message) (acks : List Ack) → falls_of sent acks ≡ None → (later : Ack) → In later acks →
    (earlier : Ack) → In earlier (all_acknowledged sent) → RisesOver sent later earlier
falls_of-each sent [] e later at = absurd at
falls_of-each sent (first ∷ acks) e later (inl same) = search (arith, option_or-parts, first_fall-each)
falls_of-each sent (first ∷ acks) e later (inr rest) =
    let parts = option_or-parts (first_fall sent first (all_acknowledged sent)) e in
    falls_of-each sent acks parts.1 later rest

falls_of-none : (sent : List Message) (acks : List Ack) →
    ((later : Ack) → In later acks → (earlier : Ack) → In earlier (all_acknowledged sent) →
    RisesOver sent later earlier) → falls_of sent acks ≡ None
falls_of-none sent [] each = refl
falls_of-none sent (first ∷ acks) each = option_or-none
    (first_fall-none sent first (all_acknowledged sent) (each first (inl refl)))
    (falls_of-none sent acks (λ other at. each other (inr at)))

-- All three

headline-of : {sent : List Message} → breach sent ≡ None → Headline sent
headline-of {sent} e =
    let one = option_or-parts (missing_of sent (accepted sent)) e in
    let two = option_or-parts (invented_of sent (accepted sent)) one.1 in
    record {
      there = λ plan p ack q. missing_of-each sent (accepted sent) one.0 plan (WasAccepted-in sent plan p) ack
          (HasAcknowledged-in sent plan.master ack q);
      one_entry = λ plan p s o h. invented_of-each sent (accepted sent) two.0 plan (WasAccepted-in sent plan p) s o h;
      rises = λ later p earlier q. falls_of-each sent (all_acknowledged sent) two.1 later
          (WasAcknowledged-in sent later p) earlier (WasAcknowledged-in sent earlier q);
    }

breach-none : {sent : List Message} → Headline sent → breach sent ≡ None
breach-none {sent} p = option_or-none
    (missing_of-none (accepted sent) (λ plan at ack from. p.there plan (WasAccepted-from sent plan at) ack
    (HasAcknowledged-from sent plan.master ack from))) (option_or-none
    (invented_of-none (accepted sent) (λ plan at s o h. p.one_entry plan (WasAccepted-from sent plan at) s o h))
    (falls_of-none sent (all_acknowledged sent)
    (λ later at earlier from. p.rises later (WasAcknowledged-from sent later at) earlier
    (WasAcknowledged-from sent earlier from))))

pub breach_is_headline : NoBreachIsTheHeadline
breach_is_headline sent = (headline-of, breach-none)

-- Where nothing was dropped, nothing is missing
pub dropped_is_missing : NothingDroppedIsNothingMissing
dropped_is_missing sent itself plan p ack q = let there = itself plan p ack q in record { held = inl there.held; only = there.only }
