-- Lists of parts: what depends on their terms alone, and what the coming of a row changes.
use Rattle.std.proofs.Common.{arith}
use Rattle.std.proofs.Common.{◌≡◌, ◌⊎◌, ℕ, Bool, true, false, cond, ◌||◌, List, [], ◌∷◌, ◌++◌, length, map, nat_eq}
use Rattle.std.proofs.Common.{Option, Some, None, is_some, refl, sym, ap, ◌∙◌, subst, inl, inr}
use Rattle.std.specs.List.{list_any}
use Rattle.std.proofs.lemmas.Bool.{and_parts, eqb-true, eq-eqb, or_right}
use Rattle.std.specs.Prelude.{unwrap_or}
use Rattle.rc_model.specs.Model.{ServerId, Entry, Message, PartRow, PartState, is_awaited, with_row, awaits, all_came}
use Rattle.rc_model.specs.Model.{entries_that_came, under_term, joined, joining, part_with_row, data_in, replay_in}
use Rattle.rc_model.specs.Model.{is_to_answer, answered_in, In}
use Rattle.rc_model.proofs.Members.{In-map}
use Rattle.rc_owner_laws.specs.Parts.{NoneUnder, TermsDiffer, HasSent, SomeCame, AllCame}
use Rattle.rc_model.proofs.Ids.{same_id-true}
use Rattle.rc_model.proofs.Tests.{true_false, either}

-- one of the states has the term
abbrev pub has_term : ℕ → List PartState → Bool
has_term term states = list_any (λ state. nat_eq state.part.term term) states

-- States with the same parts, one by one

abbrev pub SameParts : List PartState → List PartState → Type 0
SameParts [] [] = Unit {0}
SameParts (state ∷ states) (now ∷ others) = (now.part ≡ state.part) × SameParts states others
SameParts _ _ = ⊥

pub same-refl : (states : List PartState) → SameParts states states
same-refl [] = tt
same-refl (state ∷ states) = (refl, same-refl states)

pub has_term-same : (term : ℕ) (states others : List PartState) → SameParts states others → has_term term others ≡ has_term term states
has_term-same term [] [] same = refl
has_term-same term [] (now ∷ others) same = absurd same
has_term-same term (state ∷ states) [] same = absurd same
has_term-same term (state ∷ states) (now ∷ others) same =
    ap (λ part. nat_eq part.term term || has_term term others) same.0 ∙ ap (λ b. nat_eq state.part.term term || b)
    (has_term-same term states others same.1)

none-same : (term : ℕ) (states others : List PartState) → SameParts states others → NoneUnder term states → NoneUnder term others
none-same term [] [] same none = tt
none-same term [] (now ∷ others) same none = absurd same
none-same term (state ∷ states) [] same none = absurd same
none-same term (state ∷ states) (now ∷ others) same none =
    (λ e. none.0 (ap (λ part. part.term) (sym same.0) ∙ e), none-same term states others same.1 none.1)

pub differ-same : (states others : List PartState) → SameParts states others → TermsDiffer states → TermsDiffer others
differ-same [] [] same differ = tt
differ-same [] (now ∷ others) same differ = absurd same
differ-same (state ∷ states) [] same differ = absurd same
differ-same (state ∷ states) (now ∷ others) same differ = (
  subst (λ part. NoneUnder part.term others) (sym same.0) (none-same state.part.term states others same.1 differ.0),
  differ-same states others same.1 differ.1,
)

-- Terms that differ

pub none-In : (term : ℕ) (states : List PartState) (state : PartState) → NoneUnder term states → In state states →
    state.part.term ≡ term → ⊥
none-In term [] state none at e = at
none-In term (first ∷ states) state none (inl same) e = none.0 (ap (λ (one : PartState). one.part.term) (sym same) ∙ e)
none-In term (first ∷ states) state none (inr rest) e = none-In term states state none.1 rest e

-- two states of one term are one
pub one-term : (states : List PartState) (one other : PartState) → TermsDiffer states → In one states →
    In other states → one.part.term ≡ other.part.term → one ≡ other
one-term [] one other differ at there e = absurd at
one-term (first ∷ states) one other differ (inl a) (inl b) e = a ∙ sym b
one-term (first ∷ states) one other differ (inl a) (inr rest) e =
    absurd (none-In first.part.term states other differ.0 rest (sym e ∙ ap (λ (state : PartState). state.part.term) a))
one-term (first ∷ states) one other differ (inr rest) (inl b) e =
    absurd (none-In first.part.term states one differ.0 rest (e ∙ ap (λ (state : PartState). state.part.term) b))
one-term (first ∷ states) one other differ (inr here) (inr there) e = one-term states one other differ.1 here there e

none-without : (term : ℕ) (states : List PartState) → has_term term states ≡ false → NoneUnder term states
none-without term [] e = tt
none-without term (state ∷ states) e = by (nat_eq state.part.term term) refl (none-without term states) e
  where
    by : (b : Bool) → nat_eq state.part.term term ≡ b → (has_term term states ≡ false → NoneUnder term states) →
        (b || has_term term states) ≡ false → NoneUnder term (state ∷ states)
    by true is rec never = true_false never
    by false is rec rest = (λ same. true_false (sym (eq-eqb state.part.term term same) ∙ is), rec rest)

none-append : {term : ℕ} (states : List PartState) (new : PartState) → NoneUnder term states →
    (new.part.term ≡ term → ⊥) → NoneUnder term (states ++ new ∷ [])
none-append [] new none differs = (differs, tt)
none-append (state ∷ states) new none differs = (none.0, none-append states new none.1 differs)

pub differ-append : (states : List PartState) (new : PartState) → TermsDiffer states →
    has_term new.part.term states ≡ false → TermsDiffer (states ++ new ∷ [])
differ-append states new differ without = by states differ (none-without new.part.term states without)
  where
    by : (some : List PartState) → TermsDiffer some → NoneUnder new.part.term some → TermsDiffer (some ++ new ∷ [])
    by [] p none = (tt, tt)
    by (state ∷ some) p none = (none-append some new p.0 (λ e. none.0 (sym e)), by some p.1 none.1)

-- A row comes

-- the part awaits nothing where it has no rows
pub awaits-some : (term seg : ℕ) (from : ServerId) (state : PartState) → awaits term seg from state ≡ true → state.rows ≡ [] → ⊥
awaits-some term seg from state e none = search (arith, and_parts)

pub awaits-term : {term : ℕ} (seg : ℕ) (from : ServerId) (state : PartState) → awaits term seg from state ≡ true → state.part.term ≡ term
awaits-term {term} seg from state e = eqb-true state.part.term term
    (and_parts (nat_eq state.part.term term) (list_any (is_awaited seg from) state.rows) e).0

pub joined-part : (state : PartState) → (joined state).part ≡ state.part
joined-part state = either (λ (now : PartState). now.part ≡ state.part) (all_came state.rows)
    (record state { rows = []; size = length (entries_that_came state.rows) }) state (λ _. refl) (λ _. refl)

pub same-data : (term seg : ℕ) (from : ServerId) (entries : List Entry) (states : List PartState) →
    SameParts states (data_in term seg from entries states)
same-data term seg from entries [] = tt
same-data term seg from entries (state ∷ states) = either (SameParts (state ∷ states)) (awaits term seg from state)
    (joined (part_with_row seg from entries state) ∷ states) (state ∷ data_in term seg from entries states)
    (λ _. (joined-part (part_with_row seg from entries state), same-refl states)) (λ _. (refl, same-data term seg from entries states))

-- what joins the replay is under the term
joining-term : (state : PartState) (entry : Entry) → In entry (joining state) → entry.term ≡ state.part.term
joining-term state entry at =
    either (λ (entries : List Entry). In entry entries → entry.term ≡ state.part.term) (all_came state.rows)
    (map (under_term state.part.term) (entries_that_came state.rows)) []
    (λ _ now. (let found = In-map (under_term state.part.term) entry (entries_that_came state.rows) now in
    ap (λ (one : Entry). one.term) found.2)) (λ _ never. absurd never) at

pub replay-term : (term seg : ℕ) (from : ServerId) (entries : List Entry) (states : List PartState) (entry : Entry) →
    In entry (replay_in term seg from entries states) → (entry.term ≡ term) × (has_term term states ≡ true)
replay-term term seg from entries [] entry at = absurd at
replay-term term seg from entries (state ∷ states) entry at =
    by (awaits term seg from state) refl at (replay-term term seg from entries states entry)
  where
    by : (b : Bool) → awaits term seg from state ≡ b →
        In entry (cond b (joining (part_with_row seg from entries state)) (replay_in term seg from entries states)) →
        (In entry (replay_in term seg from entries states) → (entry.term ≡ term) × (has_term term states ≡ true)) →
        (entry.term ≡ term) × ((nat_eq state.part.term term || has_term term states) ≡ true)
    by true is now rec = search (arith, awaits-term, joining-term, eq-eqb)
    by false is now rec = (let p = rec now in (p.0, or_right (nat_eq state.part.term term) (has_term term states) p.1))

-- a state after a row has come: it was there and no other of its term has taken the row, or it is the one that has
pub record IsOther (term : ℕ) (states : List PartState) (replay : List Entry) (now : PartState) : Type 0 where
  pub among : In now states
  pub beside : (now.part.term ≡ term → ⊥) ⊎ (replay ≡ [])

pub record IsTaker (term seg : ℕ) (from : ServerId) (entries : List Entry) (states : List PartState)
    (replay : List Entry) (now : PartState) : Type 0 where
  pub state : PartState
  pub among : In state states
  pub awaited : awaits term seg from state ≡ true
  pub now_is : now ≡ joined (part_with_row seg from entries state)
  pub replay_is : replay ≡ joining (part_with_row seg from entries state)

no-replay : (term seg : ℕ) (from : ServerId) (entries : List Entry) (states : List PartState) → NoneUnder term states →
    replay_in term seg from entries states ≡ []
no-replay term seg from entries [] none = refl
no-replay term seg from entries (state ∷ states) none =
    either (λ (replay : List Entry). replay ≡ []) (awaits term seg from state)
    (joining (part_with_row seg from entries state)) (replay_in term seg from entries states)
    (λ e. absurd (none.0 (awaits-term seg from state e))) (λ _. no-replay term seg from entries states none.1)

pub data-cases : (term seg : ℕ) (from : ServerId) (entries : List Entry) (states : List PartState) (now : PartState) →
    TermsDiffer states → In now (data_in term seg from entries states) →
    IsOther term states (replay_in term seg from entries states) now ⊎ IsTaker term seg from entries states
    (replay_in term seg from entries states) now
data-cases term seg from entries [] now differ at = absurd at
data-cases term seg from entries (state ∷ states) now differ at =
    by (awaits term seg from state) refl at (data-cases term seg from entries states now differ.1)
  where
    Cases : List Entry → Type 0
    Cases replay = IsOther term (state ∷ states) replay now ⊎ IsTaker term seg from entries (state ∷ states) replay now

    later : (replay : List Entry) → IsOther term states replay now ⊎ IsTaker term seg from entries states replay now → Cases replay
    later replay (inl p) = inl (record { among = inr p.among; beside = p.beside })
    later replay (inr p) = search arith

    first : now ≡ state → (b : Bool) → nat_eq state.part.term term ≡ b → Cases (replay_in term seg from entries states)
    first same true e = search (arith, no-replay, eqb-true)
    first same false e = search (arith, eq-eqb)

    by : (b : Bool) → awaits term seg from state ≡ b →
        In now (cond b (joined (part_with_row seg from entries state) ∷ states)
        (state ∷ data_in term seg from entries states)) →
        (In now (data_in term seg from entries states) → IsOther term states (replay_in term seg from entries states)
        now ⊎ IsTaker term seg from entries states (replay_in term seg from entries states) now) →
        Cases (cond b (joining (part_with_row seg from entries state)) (replay_in term seg from entries states))
    by true is (inl same) rec = inr (record { state = state; among = inl refl; awaited = is; now_is = same; replay_is = refl })
    by true is (inr rest) rec = search (arith, none-In, awaits-term)
    by false is (inl same) rec = first same (nat_eq state.part.term term) refl
    by false is (inr rest) rec = later (replay_in term seg from entries states) (rec rest)

-- a state that has joined stays
pub data-stays : (term seg : ℕ) (from : ServerId) (entries : List Entry) (states : List PartState) (state : PartState) →
    In state states → state.rows ≡ [] → In state (data_in term seg from entries states)
data-stays term seg from entries [] state at none = absurd at
data-stays term seg from entries (first ∷ states) state at none =
    either (In state) (awaits term seg from first) (joined (part_with_row seg from entries first) ∷ states)
    (first ∷ data_in term seg from entries states)
    (λ e. taken e at) (λ _. beside (λ rest. data-stays term seg from entries states state rest none) at)
  where
    taken : awaits term seg from first ≡ true → (state ≡ first) ⊎ In state states →
        In state (joined (part_with_row seg from entries first) ∷ states)
    taken e (inl same) = absurd (awaits-some term seg from first e (ap (λ (one : PartState). one.rows) (sym same) ∙ none))
    taken e (inr rest) = inr rest

    beside : (In state states → In state (data_in term seg from entries states)) → (state ≡ first) ⊎ In state states →
        In state (first ∷ data_in term seg from entries states)
    beside rec (inl same) = inl same
    beside rec (inr rest) = inr (rec rest)

-- Rows

awaited-is : {seg : ℕ} {from : ServerId} (row : PartRow) → is_awaited seg from row ≡ true → (row.seg ≡ seg) × (row.holder ≡ from)
awaited-is {seg} {from} row e = search (arith, and_parts, eqb-true, same_id-true)

-- the row that has come was sent
pub some-with_row : {sent : List Message} {m : ServerId} {term seg : ℕ} {from : ServerId} {entries : List Entry}
    (rows others : List PartRow) → HasSent sent m from term seg entries →
    SomeCame sent m term rows others → SomeCame sent m term rows (with_row seg from entries others)
some-with_row [] [] was p = tt
some-with_row [] (row ∷ others) was p = absurd p
some-with_row (first ∷ rows) [] was p = absurd p
some-with_row {sent} {m} {term} {seg} {from} {entries} (first ∷ rows) (row ∷ others) was p =
    either (SomeCame sent m term (first ∷ rows)) (is_awaited seg from row) (record row { came = Some entries } ∷ others)
    (row ∷ with_row seg from entries others) (λ e. (p.0, p.1, λ some came. now (awaited-is row e) some came, p.3))
    (λ _. (p.0, p.1, p.2, some-with_row rows others was p.3))
  where
    now : (row.seg ≡ seg) × (row.holder ≡ from) → (some : List Entry) → Some entries ≡ Some some →
        HasSent sent m row.holder term row.seg some
    now is some came = search arith

pub rows-some : (seg : ℕ) (from : ServerId) (entries : List Entry) (rows : List PartRow) → (rows ≡ [] → ⊥) →
    with_row seg from entries rows ≡ [] → ⊥
rows-some seg from entries [] some none = some refl
rows-some seg from entries (row ∷ rows) some none = search arith

came-some : (came : Option (List Entry)) → is_some came ≡ true → came ≡ Some (unwrap_or came [])
came-some None e = true_false (sym e)
came-some (Some entries) e = refl

-- where all have come, they are all that was sent
pub all-came : (sent : List Message) (m : ServerId) (term : ℕ) (rows others : List PartRow) →
    SomeCame sent m term rows others → all_came others ≡ true → AllCame sent m term rows (entries_that_came others)
all-came sent m term [] [] p e = refl
all-came sent m term [] (row ∷ others) p e = absurd p
all-came sent m term (first ∷ rows) [] p e = absurd p
all-came sent m term (first ∷ rows) (row ∷ others) p e =
    let both = and_parts (is_some row.came) (all_came others) e in
    let here : HasSent sent m row.holder term row.seg (unwrap_or row.came []) = p.2 (unwrap_or row.came []) (came-some row.came both.0) in (
      unwrap_or row.came [],
      entries_that_came others,
      subst (λ s. HasSent sent m first.holder term s (unwrap_or row.came [])) p.0
          (subst (λ y. HasSent sent m y term row.seg (unwrap_or row.came [])) p.1 here),
      all-came sent m term rows others p.3 both.1,
      refl,
    )

-- Answers

-- the same but for whether its end was told
pub record SameState (old now : PartState) : Type 0 where
  pub part : now.part ≡ old.part
  pub rows : now.rows ≡ old.rows
  pub size : now.size ≡ old.size

pub same-state : {state : PartState} → SameState state state
same-state = record { part = refl; rows = refl; size = refl }

pub same-answered : (durable : List Entry) (states : List PartState) → SameParts states (answered_in durable states)
same-answered durable [] = tt
same-answered durable (state ∷ states) =
    either (SameParts (state ∷ states)) (is_to_answer durable state) (record state { answered = true } ∷ states)
    (state ∷ answered_in durable states) (λ _. (refl, same-refl states)) (λ _. (refl, same-answered durable states))

pub answered-was : (durable : List Entry) (states : List PartState) (now : PartState) →
    In now (answered_in durable states) → (old : PartState) × (In old states) × SameState old now
answered-was durable [] now at = absurd at
answered-was durable (state ∷ states) now at =
    either (λ (l : List PartState). In now l → (old : PartState) × ((old ≡ state) ⊎ In old states) × SameState old now)
    (is_to_answer durable state) (record state { answered = true } ∷ states) (state ∷ answered_in durable states)
    (λ _ there. marked there) (λ _ there. beside (answered-was durable states now) there) at
  where
    same : (one : PartState) → SameState state one → now ≡ one → SameState state now
    same one p e = subst (SameState state) (sym e) p

    marked : (now ≡ record state { answered = true }) ⊎ In now states →
        (old : PartState) × ((old ≡ state) ⊎ In old states) × SameState old now
    marked (inl e) = (state, inl refl, same (record state { answered = true }) (record { part = refl; rows = refl; size = refl }) e)
    marked (inr rest) = (now, inr rest, same-state)

    beside : (In now (answered_in durable states) → (old : PartState) × (In old states) × SameState old now) →
        (now ≡ state) ⊎ In now (answered_in durable states) → (old : PartState) × ((old ≡ state) ⊎ In old states) ×
        SameState old now
    beside rec (inl e) = (now, inl e, same-state)
    beside rec (inr rest) = (let p = rec rest in (p.0, inr p.1, p.2))

pub was-answered : (durable : List Entry) (states : List PartState) (old : PartState) → In old states →
    (now : PartState) × (In now (answered_in durable states)) × SameState old now
was-answered durable [] old at = absurd at
was-answered durable (state ∷ states) old at =
    either (λ (l : List PartState). (now : PartState) × (In now l) × SameState old now) (is_to_answer durable state)
    (record state { answered = true } ∷ states) (state ∷ answered_in durable states)
    (λ _. marked at) (λ _. beside (was-answered durable states old) at)
  where
    marked : (old ≡ state) ⊎ In old states →
        (now : PartState) × ((now ≡ record state { answered = true }) ⊎ In now states) × SameState old now
    marked (inl e) = (
      record state { answered = true },
      inl refl,
      subst (λ (one : PartState). SameState one (record state { answered = true })) (sym e)
          (record { part = refl; rows = refl; size = refl }),
    )
    marked (inr rest) = (old, inr rest, same-state)

    beside : (In old states → (now : PartState) × (In now (answered_in durable states)) × SameState old now) →
        (old ≡ state) ⊎ In old states → (now : PartState) × ((now ≡ state) ⊎ In now (answered_in durable states)) ×
        SameState old now
    beside rec (inl e) = (old, inl e, same-state)
    beside rec (inr rest) = (let p = rec rest in (p.0, inr p.1, p.2))
