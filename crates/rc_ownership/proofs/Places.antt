-- The places of the parts that may be unfinished.
use Rattle.std.proofs.Common.{◌≡◌, ℕ, ◌+◌, inl, inr, Bool, true, false, cond, not, ◌&&◌, ◌||◌, find, filter, Option, Some, None}
use Rattle.std.proofs.Common.{option_map, map, nat_eq, List, [], ◌∷◌, ◌++◌, length, suc, sym, ap, subst, ◌∙◌, refl, arith, true≢false}
use Rattle.std.proofs.lemmas.Bool.{and_parts}
use Rattle.std.proofs.lemmas.Bool.Decides.{nat_tests}
use Rattle.std.specs.Prelude.{slice_get}
use Rattle.std.specs.Option.{option_map_or}
use Rattle.std.specs.List.{list_any, filter_map, cons_option}
use Rattle.std.specs.Map.{lookup, set_value}
use Rattle.rc_model.specs.Model.{ServerId, Entry, GrantedRange, Ownership, PartState, PartRow, is_awaited, awaits, awaits_data}
use Rattle.rc_model.specs.Model.{is_complete, is_to_answer, owns_term, grant}
use Rattle.rc_ownership.specs.Grants.{owner_of}
use Rattle.rc_ownership.specs.Parts.{AreUnderTheirTerms, parts_in, awaiting_grant}
use Rattle.rc_ownership.specs.Unfinished.{HoldOthers, HoldUntold, is_finished, IsDone, is_unfinished, is_untold, is_due}
use Rattle.rc_ownership.specs.Unfinished.{is_awaiting, awaiting_at}
use Rattle.rc_ownership.proofs.PartTables.{awaits-lookup, lookup-at}

-- these stand in a list from a place on
abbrev pub Stand : {X : Type 0} → List X → ℕ → List X → Type 0
Stand {X} all at entries = (more : ℕ) → slice_get all (at + more) ≡ slice_get entries more

pub stand-first : {X : Type 0} (all entries : List X) (entry : X) (at : ℕ) → Stand all at (entry ∷ entries) →
    slice_get all at ≡ Some entry
stand-first all entries entry at stand = ap (slice_get all) (let e : at ≡ at + 0 = omega arith in e) ∙ stand 0

pub stand-rest : {X : Type 0} (all entries : List X) (entry : X) (at : ℕ) → Stand all at (entry ∷ entries) →
    Stand all (at + 1) entries
stand-rest all entries entry at stand more =
    ap (slice_get all) (let e : at + 1 + more ≡ at + suc more = omega arith in e) ∙ stand (suc more)

pub stand-all : {X : Type 0} (all : List X) → Stand all 0 all
stand-all all more = ap (slice_get all) (let e : 0 + more ≡ more = omega arith in e)

-- Places are kept

-- one part more
pub places-push : (P : PartState → Type 0) (at : ℕ) (places : List ℕ) (entries : List (ℕ × PartState)) (entry : ℕ × PartState) →
    HoldOthers P at places (parts_in entries) →
    HoldOthers P at (places ++ (at + length entries) ∷ []) (parts_in (entries ++ entry ∷ []))
places-push P at places [] entry none =
    inr ([], ap (λ ps. ps ++ (at + 0) ∷ []) none ∙ ap (λ n. n ∷ []) (let e : at + 0 ≡ at = omega arith in e), refl)
places-push P at places (first ∷ entries) entry (inl (held, rest)) =
    inl (
      held,
      subst (λ n. HoldOthers P (at + 1) (places ++ n ∷ []) (parts_in (entries ++ entry ∷ [])))
          (let e : at + 1 + length entries ≡ at + suc (length entries) = omega arith in e)
          (places-push P (at + 1) places entries entry rest),
    )
places-push P at places (first ∷ entries) entry (inr (others, is, rest)) =
    inr (
      others ++ (at + suc (length entries)) ∷ [],
      ap (λ ps. ps ++ (at + suc (length entries)) ∷ []) is,
      subst (λ n. HoldOthers P (at + 1) (others ++ n ∷ []) (parts_in (entries ++ entry ∷ [])))
          (let e : at + 1 + length entries ≡ at + suc (length entries) = omega arith in e)
          (places-push P (at + 1) others entries entry rest),
    )

-- a part changed, and is as it has to be where it was
pub places-set : (P : PartState → Type 0) (at : ℕ) (places : List ℕ) (test : ℕ → Bool) (entries : List (ℕ × PartState))
    (old new : PartState) → lookup test entries ≡ Some old → (P old → P new) → HoldOthers P at places (parts_in entries) →
    HoldOthers P at places (parts_in (set_value test entries new))
places-set P at places test [] old new found kept hold = hold
places-set P at places test (entry ∷ entries) old new found kept hold =
    by (test entry.0) found hold (λ others is rest. places-set P (at + 1) others test entries old new is kept rest)
  where
    by : (b : Bool) → cond b (Some entry.1) (lookup test entries) ≡ Some old →
        HoldOthers P at places (entry.1 ∷ parts_in entries) →
        ((others : List ℕ) → lookup test entries ≡ Some old → HoldOthers P (at + 1) others (parts_in entries) →
        HoldOthers P (at + 1) others (parts_in (set_value test entries new))) →
        HoldOthers P at places (parts_in (cond b ((entry.0, new) ∷ entries) (entry ∷ set_value test entries new)))
    by true is (inl (held, rest)) later =
        let it : entry.1 ≡ old = cc in
        inl (kept (subst P it held), rest)
    by true is (inr held) later = inr held
    by false is (inl (held, rest)) later = inl (held, later places is rest)
    by false is (inr (others, same, rest)) later = inr (others, same, later others is rest)

-- what follows from the one holds too
pub places-weaker : (P Q : PartState → Type 0) → ((state : PartState) → P state → Q state) → (at : ℕ) (places : List ℕ)
    (parts : List PartState) → HoldOthers P at places parts → HoldOthers Q at places parts
places-weaker P Q weaker at places [] none = none
places-weaker P Q weaker at places (state ∷ parts) (inl (held, rest)) =
    inl (weaker state held, places-weaker P Q weaker (at + 1) places parts rest)
places-weaker P Q weaker at places (state ∷ parts) (inr (others, is, rest)) =
    inr (others, is, places-weaker P Q weaker (at + 1) others parts rest)

not_not : (b : Bool) → not b ≡ false → b ≡ true
not_not true h = refl
not_not false h = absurd (true≢false h)

-- the places of parts that are finished are let go
pub places-filter : (grants : List GrantedRange) (all : List (ℕ × PartState)) (at : ℕ) (places : List ℕ)
    (entries : List (ℕ × PartState)) → Stand all at entries →
    HoldOthers (λ state. is_finished grants state ≡ true) at places (parts_in entries) →
    HoldOthers (λ state. is_finished grants state ≡ true) at (filter (is_unfinished grants all) places) (parts_in entries)
places-filter grants all at places [] stand none = ap (filter (is_unfinished grants all)) none
places-filter grants all at places (entry ∷ entries) stand (inl (held, rest)) =
    inl (held, places-filter grants all (at + 1) places entries (stand-rest all entries entry at stand) rest)
places-filter grants all at places (entry ∷ entries) stand (inr (others, is, rest)) =
    by (not (is_finished grants entry.1)) refl
    (ap (filter (is_unfinished grants all)) is
    ∙ ap (λ b. cond b (at ∷ filter (is_unfinished grants all) others) (filter (is_unfinished grants all) others))
    (ap (λ found. option_map_or (λ one. not (is_finished grants one.1)) found false) (stand-first all entries entry at stand)))
    (places-filter grants all (at + 1) others entries (stand-rest all entries entry at stand) rest)
  where
    by : (b : Bool) → not (is_finished grants entry.1) ≡ b →
        filter (is_unfinished grants all) places
        ≡ cond b (at ∷ filter (is_unfinished grants all) others) (filter (is_unfinished grants all) others) →
        HoldOthers (λ state. is_finished grants state ≡ true) (at + 1) (filter (is_unfinished grants all) others) (parts_in entries) →
        HoldOthers (λ state. is_finished grants state ≡ true) at (filter (is_unfinished grants all) places) (parts_in (entry ∷ entries))
    by true left same later = inr (filter (is_unfinished grants all) others, same, later)
    by false left same later =
        inl (
          not_not (is_finished grants entry.1) left,
          subst (λ ps. HoldOthers (λ state. is_finished grants state ≡ true) (at + 1) ps (parts_in entries)) (sym same) later,
        )

-- the places of parts whose end was told are let go
pub untold-filter : (all : List (ℕ × PartState)) (at : ℕ) (places : List ℕ)
    (entries : List (ℕ × PartState)) → Stand all at entries →
    HoldOthers (λ state. state.answered ≡ true) at places (parts_in entries) →
    HoldOthers (λ state. state.answered ≡ true) at (filter (is_untold all) places) (parts_in entries)
untold-filter all at places [] stand none = ap (filter (is_untold all)) none
untold-filter all at places (entry ∷ entries) stand (inl (held, rest)) =
    inl (held, untold-filter all (at + 1) places entries (stand-rest all entries entry at stand) rest)
untold-filter all at places (entry ∷ entries) stand (inr (others, is, rest)) =
    by (not entry.1.answered) refl
    (ap (filter (is_untold all)) is
    ∙ ap (λ b. cond b (at ∷ filter (is_untold all) others) (filter (is_untold all) others))
    (ap (λ found. option_map_or (λ one. not one.1.answered) found false) (stand-first all entries entry at stand)))
    (untold-filter all (at + 1) others entries (stand-rest all entries entry at stand) rest)
  where
    by : (b : Bool) → not entry.1.answered ≡ b →
        filter (is_untold all) places ≡ cond b (at ∷ filter (is_untold all) others) (filter (is_untold all) others) →
        HoldOthers (λ state. state.answered ≡ true) (at + 1) (filter (is_untold all) others) (parts_in entries) →
        HoldOthers (λ state. state.answered ≡ true) at (filter (is_untold all) places) (parts_in (entry ∷ entries))
    by true left same later = inr (filter (is_untold all) others, same, later)
    by false left same later =
        inl (
          not_not entry.1.answered left,
          subst (λ ps. HoldOthers (λ state. state.answered ≡ true) (at + 1) ps (parts_in entries)) (sym same) later,
        )

-- What is finished

-- a finished part waits for no row, its end was told, and its term is granted
pub finished-parts : (grants : List GrantedRange) (state : PartState) → is_finished grants state ≡ true →
    (state.rows ≡ []) × (state.answered ≡ true) × (owns_term (owner_of grants) state.part.term ≡ true)
finished-parts grants state is =
    let rest : Bool = state.answered && owns_term (owner_of grants) state.part.term in
    let split = and_parts (nat_eq (length state.rows) 0) rest is in
    let others = and_parts state.answered (owns_term (owner_of grants) state.part.term) split.1 in
    (no_rows state.rows split.0, others.0, others.1)
  where
    some_rows : (n : ℕ) → nat_eq (suc n) 0 ≡ true → ⊥
    some_rows n h = grind (arith, nat_tests)

    no_rows : (rows : List PartRow) → nat_eq (length rows) 0 ≡ true → rows ≡ []
    no_rows [] h = refl
    no_rows (row ∷ rows) h = absurd (some_rows (length rows) h)

-- a part that waits for a row isn't finished
pub finished-awaits : (grants : List GrantedRange) (state : PartState) (seg : ℕ) (from : ServerId) →
    is_finished grants state ≡ true → list_any (is_awaited seg from) state.rows ≡ true → ⊥
finished-awaits grants state seg from is some =
    true≢false (sym some ∙ ap (list_any (is_awaited seg from)) (finished-parts grants state is).0)

-- it stays finished where its end is told
pub finished-answered : (grants : List GrantedRange) (old new : PartState) → new ≡ record old { answered = true } →
    is_finished grants old ≡ true → is_finished grants new ≡ true
finished-answered grants old new same is =
    ap (is_finished grants) (same ∙ ap (λ told. let state : PartState = record old { answered = told } in state)
    (sym (finished-parts grants old is).1)) ∙ is

-- and where more is granted
pub finished-granted : (grants : List GrantedRange) (granted : GrantedRange) (state : PartState) →
    is_finished grants state ≡ true → is_finished (grant granted (owner_of grants)).grants state ≡ true
finished-granted grants granted state is =
    let held = finished-parts grants state is in
    ap (λ rows. nat_eq (length rows) 0 && (state.answered && owns_term (owner_of (grant granted (owner_of grants)).grants) state.part.term))
    held.0
    ∙ ap (λ told. told && owns_term (owner_of (grant granted (owner_of grants)).grants) state.part.term) held.1
    ∙ more (owns_term (owner_of grants) granted.term)
  where
    pushed : (list : List GrantedRange) → owns_term (owner_of list) state.part.term ≡ true →
        owns_term (owner_of (list ++ granted ∷ [])) state.part.term ≡ true
    pushed [] h = absurd (true≢false (sym h))
    pushed (first ∷ list) h = by (nat_eq first.term state.part.term) h (pushed list)
      where
        by : (b : Bool) → (b || owns_term (owner_of list) state.part.term) ≡ true →
            (owns_term (owner_of list) state.part.term ≡ true → owns_term (owner_of (list ++ granted ∷ [])) state.part.term ≡ true) →
            (b || owns_term (owner_of (list ++ granted ∷ [])) state.part.term) ≡ true
        by true h later = refl
        by false h later = later h

    more : (b : Bool) →
        owns_term (owner_of (cond b (owner_of grants) (record (owner_of grants) { grants = grants ++ granted ∷ [] })).grants)
        state.part.term ≡ true
    more true = (finished-parts grants state is).2
    more false = pushed grants (finished-parts grants state is).2

-- nothing is awaited under the term of a part that waits for no row
none-awaited-at : (own : Ownership) (all : List (ℕ × PartState)) (at : ℕ) (entry : ℕ × PartState) → AreUnderTheirTerms all →
    own.parts ≡ parts_in all → slice_get all at ≡ Some entry → entry.1.rows ≡ [] → (seg : ℕ) (from : ServerId) →
    awaits_data entry.1.part.term seg from own ≡ false
none-awaited-at own all at entry under parts there empty seg from =
    ap (list_any (awaits entry.1.part.term seg from)) parts
    ∙ awaits-lookup all entry.1.part.term seg from under
    ∙ ap (λ found. option_map_or (λ part. list_any (is_awaited seg from) part.rows) found false) (lookup-at all at entry under there)
    ∙ ap (list_any (is_awaited seg from)) empty

-- whoever has these parts has done with those that are finished
pub places-done : (own : Ownership) (all : List (ℕ × PartState)) (at : ℕ) (places : List ℕ) (entries : List (ℕ × PartState)) →
    AreUnderTheirTerms all → own.parts ≡ parts_in all → Stand all at entries →
    HoldOthers (λ state. is_finished own.grants state ≡ true) at places (parts_in entries) →
    HoldOthers (IsDone own) at places (parts_in entries)
places-done own all at places [] under parts stand none = none
places-done own all at places (entry ∷ entries) under parts stand (inl (held, rest)) =
    let is = finished-parts own.grants entry.1 held in
    inl (
      record {
        told = is.1;
        granted = is.2;
        awaits_none = none-awaited-at own all at entry under parts (stand-first all entries entry at stand) is.0;
      },
      places-done own all (at + 1) places entries under parts (stand-rest all entries entry at stand) rest,
    )
places-done own all at places (entry ∷ entries) under parts stand (inr (others, is, rest)) =
    inr (others, is, places-done own all (at + 1) others entries under parts (stand-rest all entries entry at stand) rest)

-- The first that is due

told-not_due : (durable : List Entry) (state : PartState) → state.answered ≡ true → is_to_answer durable state ≡ false
told-not_due durable state is =
    ap (λ b. is_complete durable state && not b) is ∙ none (is_complete durable state)
  where
    none : (b : Bool) → (b && false) ≡ false
    none true = refl
    none false = refl

-- the first of the places whose part is due is that of the first part that is
pub first-due : (durable : List Entry) (all : List (ℕ × PartState)) (at : ℕ) (places : List ℕ)
    (entries : List (ℕ × PartState)) → Stand all at entries →
    HoldOthers (λ state. state.answered ≡ true) at places (parts_in entries) →
    find (is_to_answer durable) (parts_in entries)
    ≡ option_map_or (λ place. option_map (λ entry. entry.1) (slice_get all place)) (find (is_due durable all) places) None
first-due durable all at places [] stand none =
    ap (λ ps. option_map_or (λ place. option_map (λ entry. entry.1) (slice_get all place)) (find (is_due durable all) ps) None)
    (sym none)
first-due durable all at places (entry ∷ entries) stand (inl (held, rest)) =
    ap (λ b. cond b (Some entry.1) (find (is_to_answer durable) (parts_in entries))) (told-not_due durable entry.1 held)
    ∙ first-due durable all (at + 1) places entries (stand-rest all entries entry at stand) rest
first-due durable all at places (entry ∷ entries) stand (inr (others, is, rest)) =
    by (is_to_answer durable entry.1) (first-due durable all (at + 1) others entries (stand-rest all entries entry at stand) rest)
    ∙ ap (λ b. option_map_or (λ place. option_map (λ one. one.1) (slice_get all place))
    (cond b (Some at) (find (is_due durable all) others)) None)
    (sym (ap (λ found. option_map_or (λ one. is_to_answer durable one.1) found false) (stand-first all entries entry at stand)))
    ∙ ap (λ ps. option_map_or (λ place. option_map (λ one. one.1) (slice_get all place)) (find (is_due durable all) ps) None)
    (sym is)
  where
    by : (b : Bool) →
        find (is_to_answer durable) (parts_in entries)
        ≡ option_map_or (λ place. option_map (λ one. one.1) (slice_get all place)) (find (is_due durable all) others) None →
        cond b (Some entry.1) (find (is_to_answer durable) (parts_in entries))
        ≡ option_map_or (λ place. option_map (λ one. one.1) (slice_get all place))
        (cond b (Some at) (find (is_due durable all) others)) None
    by true later = ap (option_map (λ one. one.1)) (sym (stand-first all entries entry at stand))
    by false later = later

-- and so is its term
pub term-due : (durable : List Entry) (entries : List (ℕ × PartState)) (places : List ℕ) (found : Option ℕ) →
    HoldUntold places (parts_in entries) → found ≡ find (is_due durable entries) places →
    option_map_or (λ place. option_map (λ entry. entry.1.part.term) (slice_get entries place)) found None
    ≡ option_map (λ state. state.part.term) (find (is_to_answer durable) (parts_in entries))
term-due durable entries places found hold searched =
    ap (λ f. option_map_or (λ place. option_map (λ entry. entry.1.part.term) (slice_get entries place)) f None) searched
    ∙ by (find (is_due durable entries) places)
    ∙ ap (option_map (λ state. state.part.term)) (sym (first-due durable entries 0 places entries (stand-all entries) hold))
  where
    inner : (entry : Option (ℕ × PartState)) →
        option_map (λ one. one.1.part.term) entry ≡ option_map (λ state. state.part.term) (option_map (λ one. one.1) entry)
    inner None = refl
    inner (Some entry) = refl

    by : (place : Option ℕ) →
        option_map_or (λ at. option_map (λ one. one.1.part.term) (slice_get entries at)) place None
        ≡ option_map (λ state. state.part.term) (option_map_or (λ at. option_map (λ one. one.1) (slice_get entries at)) place None)
    by None = refl
    by (Some place) = inner (slice_get entries place)

-- Those that await a grant

finished-not_awaiting : (grants : List GrantedRange) (durable : List Entry) (state : PartState) →
    is_finished grants state ≡ true → is_awaiting durable grants state ≡ false
finished-not_awaiting grants durable state is =
    ap (λ b. is_complete durable state && not b) (finished-parts grants state is).2 ∙ none (is_complete durable state)
  where
    none : (b : Bool) → (b && false) ≡ false
    none true = refl
    none false = refl

-- the terms at these places are those of all parts that await a grant
pub terms-awaiting : (grants : List GrantedRange) (durable : List Entry) (all : List (ℕ × PartState)) (at : ℕ)
    (places : List ℕ) (entries : List (ℕ × PartState)) → Stand all at entries →
    HoldOthers (λ state. is_finished grants state ≡ true) at places (parts_in entries) →
    filter_map (awaiting_at durable grants all) places ≡ awaiting_grant durable (owner_of grants) (parts_in entries)
terms-awaiting grants durable all at places [] stand none = ap (filter_map (awaiting_at durable grants all)) none
terms-awaiting grants durable all at places (entry ∷ entries) stand (inl (held, rest)) =
    terms-awaiting grants durable all (at + 1) places entries (stand-rest all entries entry at stand) rest
    ∙ ap (λ b. map (λ (state : PartState). state.part.term)
    (cond b (entry.1 ∷ filter (is_awaiting durable grants) (parts_in entries)) (filter (is_awaiting durable grants) (parts_in entries))))
    (sym (finished-not_awaiting grants durable entry.1 held))
terms-awaiting grants durable all at places (entry ∷ entries) stand (inr (others, is, rest)) =
    ap (filter_map (awaiting_at durable grants all)) is
    ∙ ap (λ found. cons_option (option_map_or
    (λ one. cond (is_awaiting durable grants one.1) (Some one.1.part.term) None) found None)
    (filter_map (awaiting_at durable grants all) others)) (stand-first all entries entry at stand)
    ∙ by (is_awaiting durable grants entry.1)
    (terms-awaiting grants durable all (at + 1) others entries (stand-rest all entries entry at stand) rest)
  where
    by : (b : Bool) →
        filter_map (awaiting_at durable grants all) others ≡ awaiting_grant durable (owner_of grants) (parts_in entries) →
        cons_option (cond b (Some entry.1.part.term) None) (filter_map (awaiting_at durable grants all) others)
        ≡ map (λ (state : PartState). state.part.term)
        (cond b (entry.1 ∷ filter (is_awaiting durable grants) (parts_in entries)) (filter (is_awaiting durable grants) (parts_in entries)))
    by true later = ap (λ terms. entry.1.part.term ∷ terms) later
    by false later = later
