-- The table of parts by term: what a look-up finds, and what a write changes.
use Rattle.std.proofs.Common.{◌≡◌, ℕ, ◌+◌, Bool, true, false, cond, not, length, ◌&&◌, ◌||◌, nat_eq, is_some, find, option_map, Option}
use Rattle.std.proofs.Common.{Some, None, List, [], ◌∷◌, ◌++◌, zero, suc, sym, ap, subst, ◌∙◌, refl, arith, true≢false}
use Rattle.std.proofs.lemmas.Bool.Decides.{nat_tests}
use Rattle.std.proofs.lemmas.List.{append-nil}
use Rattle.std.proofs.lemmas.Iterator.Adapters.{position_from-zero}
use Rattle.std.specs.List.{position_from}
use Rattle.std.specs.Map.{keys_of}
use Rattle.std.specs.Prelude.{slice_get}
use Rattle.std.specs.List.{list_any, position}
use Rattle.std.specs.Map.{lookup, set_value}
use Rattle.std.specs.Option.{option_map_or}
use Rattle.indexmap.specs.IndexMap.{IndexMap, insert_entry}
use Rattle.indexmap.proofs.CallerLemmas.{insert_entry-new}
use Rattle.rc_model.specs.Model.{ServerId, Entry, Ownership, PartState, put_data, is_awaited, awaits, awaits_data, joined, joining}
use Rattle.rc_model.specs.Model.{part_with_row, data_in, replay_in, is_complete, is_to_answer, answered_in, all_came, entries_that_came}
use Rattle.rc_ownership.specs.Parts.{HasNone, AreUnderTheirTerms, parts_in}

flip : (one other : ℕ) → nat_eq one other ≡ nat_eq other one
flip one other = grind (arith, nat_tests)

-- the key of a part is its term
under : (term : ℕ) (entry : ℕ × PartState) → entry.0 ≡ entry.1.part.term → nat_eq entry.1.part.term term ≡ nat_eq term entry.0
under term entry h = flip entry.1.part.term term ∙ ap (nat_eq term) (sym h)

same : (one other : ℕ) → nat_eq one other ≡ true → one ≡ other
same one other h = grind (arith, nat_tests)

absent : (term : ℕ) (entries : List (ℕ × PartState)) → HasNone term entries → lookup (nat_eq term) entries ≡ None
absent term [] h = refl
absent term (entry ∷ entries) h = ap (λ b. cond b (Some entry.1) (lookup (nat_eq term) entries)) h.0 ∙ absent term entries h.1

apart-at : (key : ℕ) (entries : List (ℕ × PartState)) (place : ℕ) (entry : ℕ × PartState) → HasNone key entries →
    slice_get entries place ≡ Some entry → nat_eq key entry.0 ≡ false
apart-at key [] place entry h at = absurd (cc)
apart-at key (first ∷ entries) zero entry h at =
    let it : entry ≡ first = cc in
    ap (λ one. nat_eq key one.0) it ∙ h.0
apart-at key (first ∷ entries) (suc place) entry h at = apart-at key entries place entry h.1 at

own-at : (entries : List (ℕ × PartState)) (place : ℕ) (entry : ℕ × PartState) → AreUnderTheirTerms entries →
    slice_get entries place ≡ Some entry → entry.0 ≡ entry.1.part.term
own-at [] place entry h at = absurd (cc)
own-at (first ∷ entries) zero entry h at =
    let it : first ≡ entry = cc in
    subst (λ one. one.0 ≡ one.1.part.term) it h.0
own-at (first ∷ entries) (suc place) entry h at = own-at entries place entry h.2 at

-- a part is found under its term
pub lookup-at : (entries : List (ℕ × PartState)) (place : ℕ) (entry : ℕ × PartState) → AreUnderTheirTerms entries →
    slice_get entries place ≡ Some entry → lookup (nat_eq entry.1.part.term) entries ≡ Some entry.1
lookup-at [] place entry h at = absurd (cc)
lookup-at (first ∷ entries) zero entry h at =
    let it : first ≡ entry = cc in
    let here : nat_eq entry.1.part.term first.0 ≡ true =
    subst (λ one. nat_eq one.1.part.term first.0 ≡ true) it
    (flip first.1.part.term first.0 ∙ ap (nat_eq first.0) (sym h.0) ∙ itself first.0) in
    ap (λ b. cond b (Some first.1) (lookup (nat_eq entry.1.part.term) entries)) here ∙ ap (λ one. Some one.1) it
  where
    itself : (n : ℕ) → nat_eq n n ≡ true
    itself n = grind (arith, nat_tests)
lookup-at (first ∷ entries) (suc place) entry h at =
    let there : nat_eq entry.1.part.term first.0 ≡ false =
    flip entry.1.part.term first.0 ∙ ap (nat_eq first.0) (sym (own-at entries place entry h.2 at))
    ∙ apart-at first.0 entries place entry h.1 at in
    ap (λ b. cond b (Some first.1) (lookup (nat_eq entry.1.part.term) entries)) there ∙ lookup-at entries place entry h.2 at

-- a part awaits a row where the part under its term does
pub awaits-lookup : (entries : List (ℕ × PartState)) (term seg : ℕ) (from : ServerId) → AreUnderTheirTerms entries →
    list_any (awaits term seg from) (parts_in entries) ≡ option_map_or
    (λ part. list_any (is_awaited seg from) part.rows) (lookup (nat_eq term) entries) false
awaits-lookup [] term seg from h = refl
awaits-lookup (entry ∷ entries) term seg from h =
    ap (λ b. (b && list_any (is_awaited seg from) entry.1.rows) || list_any (awaits term seg from) (parts_in entries))
    (under term entry h.0)
    ∙ by (nat_eq term entry.0) refl (awaits-lookup entries term seg from h.2)
  where
    or_false : (b c : Bool) → c ≡ false → (b || c) ≡ b
    or_false true c h = refl
    or_false false c h = h

    by : (b : Bool) → nat_eq term entry.0 ≡ b →
        list_any (awaits term seg from) (parts_in entries) ≡ option_map_or
        (λ part. list_any (is_awaited seg from) part.rows) (lookup (nat_eq term) entries) false →
        ((b && list_any (is_awaited seg from) entry.1.rows) || list_any (awaits term seg from) (parts_in entries))
        ≡ option_map_or (λ part. list_any (is_awaited seg from) part.rows) (cond b (Some entry.1) (lookup (nat_eq term) entries)) false
    by true is later =
        or_false (list_any (is_awaited seg from) entry.1.rows) (list_any (awaits term seg from) (parts_in entries))
        (later ∙ ap (λ o. option_map_or (λ part. list_any (is_awaited seg from) part.rows) o false)
        (absent term entries (subst (λ key. HasNone key entries) (sym (same term entry.0 is)) h.1)))
    by false is later = later

-- the part under the term takes the row
pub data_in-set : (entries : List (ℕ × PartState)) (term seg : ℕ) (from : ServerId) (came : List Entry)
    (state : PartState) → AreUnderTheirTerms entries →
    lookup (nat_eq term) entries ≡ Some state → list_any (is_awaited seg from) state.rows ≡ true →
    parts_in (set_value (nat_eq term) entries (joined (part_with_row seg from came state))) ≡ data_in term seg from came (parts_in entries)
data_in-set [] term seg from came state h found some = refl
data_in-set (entry ∷ entries) term seg from came state h found some =
    by (nat_eq term entry.0) found (data_in-set entries term seg from came state h.2)
    ∙ ap (λ b. cond (b && list_any (is_awaited seg from) entry.1.rows)
    (joined (part_with_row seg from came entry.1) ∷ parts_in entries)
    (entry.1 ∷ data_in term seg from came (parts_in entries)))
    (sym (under term entry h.0))
  where
    by : (b : Bool) → cond b (Some entry.1) (lookup (nat_eq term) entries) ≡ Some state →
        (lookup (nat_eq term) entries ≡ Some state → list_any (is_awaited seg from) state.rows ≡ true →
        parts_in (set_value (nat_eq term) entries (joined (part_with_row seg from came state))) ≡ data_in term seg from
        came (parts_in entries)) →
        parts_in (cond b ((entry.0, joined (part_with_row seg from came state)) ∷ entries)
        (entry ∷ set_value (nat_eq term) entries (joined (part_with_row seg from came state))))
        ≡ cond (b && list_any (is_awaited seg from) entry.1.rows)
        (joined (part_with_row seg from came entry.1) ∷ parts_in entries)
        (entry.1 ∷ data_in term seg from came (parts_in entries))
    by true is later =
        let it : state ≡ entry.1 = cc in
        ap (λ part. joined (part_with_row seg from came part) ∷ parts_in entries) it
        ∙ ap (λ b. cond b (joined (part_with_row seg from came entry.1) ∷ parts_in entries)
        (entry.1 ∷ data_in term seg from came (parts_in entries)))
        (sym (ap (λ part. list_any (is_awaited seg from) part.rows) (sym it) ∙ some))
    by false is later = ap (λ parts. entry.1 ∷ parts) (later is some)

-- and joins the replay once it has all
pub replay_in-set : (entries : List (ℕ × PartState)) (term seg : ℕ) (from : ServerId) (came : List Entry)
    (state : PartState) → AreUnderTheirTerms entries →
    lookup (nat_eq term) entries ≡ Some state → list_any (is_awaited seg from) state.rows ≡ true →
    joining (part_with_row seg from came state) ≡ replay_in term seg from came (parts_in entries)
replay_in-set [] term seg from came state h found some = absurd (cc)
replay_in-set (entry ∷ entries) term seg from came state h found some =
    by (nat_eq term entry.0) found (replay_in-set entries term seg from came state h.2)
    ∙ ap (λ b. cond (b && list_any (is_awaited seg from) entry.1.rows) (joining (part_with_row seg from came entry.1))
    (replay_in term seg from came (parts_in entries)))
    (sym (under term entry h.0))
  where
    by : (b : Bool) → cond b (Some entry.1) (lookup (nat_eq term) entries) ≡ Some state →
        (lookup (nat_eq term) entries ≡ Some state → list_any (is_awaited seg from) state.rows ≡ true →
        joining (part_with_row seg from came state) ≡ replay_in term seg from came (parts_in entries)) →
        joining (part_with_row seg from came state)
        ≡ cond (b && list_any (is_awaited seg from) entry.1.rows) (joining (part_with_row seg from came entry.1))
        (replay_in term seg from came (parts_in entries))
    by true is later =
        let it : state ≡ entry.1 = cc in
        ap (λ part. joining (part_with_row seg from came part)) it
        ∙ ap (λ b. cond b (joining (part_with_row seg from came entry.1)) (replay_in term seg from came (parts_in entries)))
        (sym (ap (λ part. list_any (is_awaited seg from) part.rows) (sym it) ∙ some))
    by false is later = later is some

-- a part is there where a look-up finds one
pub has_part-lookup : (entries : List (ℕ × PartState)) (term : ℕ) → AreUnderTheirTerms entries →
    is_some (lookup (nat_eq term) entries) ≡ list_any (λ state. nat_eq state.part.term term) (parts_in entries)
has_part-lookup [] term h = refl
has_part-lookup (entry ∷ entries) term h =
    by (nat_eq term entry.0) (has_part-lookup entries term h.2)
    ∙ ap (λ b. b || list_any (λ state. nat_eq state.part.term term) (parts_in entries)) (sym (under term entry h.0))
  where
    by : (b : Bool) → is_some (lookup (nat_eq term) entries) ≡ list_any (λ state. nat_eq state.part.term term) (parts_in entries) →
        is_some (cond b (Some entry.1) (lookup (nat_eq term) entries)) ≡ (b ||
        list_any (λ state. nat_eq state.part.term term) (parts_in entries))
    by true later = refl
    by false later = later

-- it stands where its term does
pub position-lookup : (entries : List (ℕ × PartState)) (term : ℕ) → AreUnderTheirTerms entries →
    position (nat_eq term) (keys_of entries) ≡ position (λ state. nat_eq state.part.term term) (parts_in entries)
position-lookup entries term h =
    position_from-zero (nat_eq term) (keys_of entries) ∙ from 0 entries h
    ∙ sym (position_from-zero (λ (state : PartState). nat_eq state.part.term term) (parts_in entries))
  where
    from : (at : ℕ) (rest : List (ℕ × PartState)) → AreUnderTheirTerms rest →
        position_from (nat_eq term) at (keys_of rest) ≡ position_from (λ state. nat_eq state.part.term term) at (parts_in rest)
    from at [] h = refl
    from at (entry ∷ rest) h =
        ap (λ b. cond b (Some at) (position_from (nat_eq term) (at + 1) (keys_of rest))) (sym (under term entry h.0))
        ∙ ap (cond (nat_eq entry.1.part.term term) (Some at)) (from (at + 1) rest h.2)

none_found : (found : Option PartState) → is_some found ≡ false → found ≡ None
none_found None h = refl
none_found (Some state) h = absurd (true≢false h)

none-push : (key term : ℕ) (entries : List (ℕ × PartState)) (state : PartState) → nat_eq key term ≡ false →
    HasNone key entries → HasNone key (entries ++ (term, state) ∷ [])
none-push key term [] state apart h = (apart, tt)
none-push key term (entry ∷ entries) state apart h = (h.0, none-push key term entries state apart h.1)

found_or : (b : Bool) (state : PartState) (found : Option PartState) → cond b (Some state) found ≡ None → (b ≡ false) × (found ≡ None)
found_or true state found h = absurd (cc)
found_or false state found h = (refl, h)

under-push : (term : ℕ) (entries : List (ℕ × PartState)) (state : PartState) → AreUnderTheirTerms entries →
    lookup (nat_eq term) entries ≡ None → term ≡ state.part.term →
    AreUnderTheirTerms (entries ++ (term, state) ∷ [])
under-push term [] state h none named = (named, tt, tt)
under-push term (entry ∷ entries) state h none named =
    let apart = found_or (nat_eq term entry.0) entry.1 (lookup (nat_eq term) entries) none in
    (h.0, none-push entry.0 term entries state (flip entry.0 term ∙ apart.0) h.1, under-push term entries state h.2 apart.1 named)

parts_in-push : (entries : List (ℕ × PartState)) (entry : ℕ × PartState) →
    parts_in (entries ++ entry ∷ []) ≡ parts_in entries ++ entry.1 ∷ []
parts_in-push [] entry = refl
parts_in-push (first ∷ entries) entry = ap (λ parts. first.1 ∷ parts) (parts_in-push entries entry)

pub inserted-last : {S : Type 0} (old new : IndexMap ℕ PartState S) (term : ℕ) (state : PartState) → AreUnderTheirTerms old.entries →
    list_any (λ one. nat_eq one.part.term term) (parts_in old.entries) ≡ false →
    new.entries ≡ insert_entry nat_eq old.entries term state → new.entries ≡ old.entries ++ (term, state) ∷ []
inserted-last old new term state h none inserted =
    inserted ∙ insert_entry-new nat_eq old term state
    (none_found (lookup (nat_eq term) old.entries) (has_part-lookup old.entries term h ∙ none))

-- a part under a new term goes last
pub under-insert : {S : Type 0} (old new : IndexMap ℕ PartState S) (term : ℕ) (state : PartState) → AreUnderTheirTerms old.entries →
    list_any (λ one. nat_eq one.part.term term) (parts_in old.entries) ≡ false →
    new.entries ≡ insert_entry nat_eq old.entries term state → term ≡ state.part.term →
    AreUnderTheirTerms new.entries
under-insert old new term state h none inserted named =
    subst AreUnderTheirTerms (sym (inserted-last old new term state h none inserted))
    (under-push term old.entries state h (none_found (lookup (nat_eq term) old.entries) (has_part-lookup old.entries term h ∙ none)) named)

pub parts_in-insert : {S : Type 0} (old new : IndexMap ℕ PartState S) (term : ℕ) (state : PartState) → AreUnderTheirTerms old.entries →
    list_any (λ one. nat_eq one.part.term term) (parts_in old.entries) ≡ false → new.entries ≡ insert_entry nat_eq old.entries term state →
    parts_in new.entries ≡ parts_in old.entries ++ state ∷ []
parts_in-insert old new term state h none inserted =
    ap parts_in (inserted-last old new term state h none inserted) ∙ parts_in-push old.entries (term, state)

-- the part that a look-up found awaits the row
pub some-awaited : (entries : List (ℕ × PartState)) (term seg : ℕ) (from : ServerId) (state : PartState) → AreUnderTheirTerms entries →
    lookup (nat_eq term) entries ≡ Some state → list_any (awaits term seg from) (parts_in entries) ≡ true →
    list_any (is_awaited seg from) state.rows ≡ true
some-awaited entries term seg from state h found some =
    sym (ap (λ o. option_map_or (λ part. list_any (is_awaited seg from) part.rows) o false) found) ∙
    sym (awaits-lookup entries term seg from h) ∙ some

-- none awaits the row where no part is found
pub none-awaited : (entries : List (ℕ × PartState)) (term seg : ℕ) (from : ServerId) → AreUnderTheirTerms entries →
    lookup (nat_eq term) entries ≡ None → list_any (awaits term seg from) (parts_in entries) ≡ true → ⊥
none-awaited entries term seg from h none some =
    true≢false (sym some ∙ awaits-lookup entries term seg from h ∙
    ap (λ o. option_map_or (λ part. list_any (is_awaited seg from) part.rows) o false) none)

-- Ends that are told

-- a term that was found is that of a part
pub mapped : (found : Option PartState) (term : ℕ) → option_map (λ state. state.part.term) found ≡ Some term →
    (state : PartState) × (found ≡ Some state) × (state.part.term ≡ term)
mapped None term h = absurd (cc)
mapped (Some state) term h = (state, refl, cc)

-- the first complete part is found under its term too
pub answer-lookup : (durable : List Entry) (entries : List (ℕ × PartState)) (term : ℕ) (state : PartState) → AreUnderTheirTerms entries →
    find (is_to_answer durable) (parts_in entries) ≡ Some state → state.part.term ≡ term → lookup (nat_eq term) entries ≡ Some state
answer-lookup durable [] term state h found named = absurd (cc)
answer-lookup durable (entry ∷ entries) term state h found named =
    by (is_to_answer durable entry.1) (nat_eq term entry.0) refl found (answer-lookup durable entries term state h.2)
  where
    by : (b here : Bool) → nat_eq term entry.0 ≡ here →
        cond b (Some entry.1) (find (is_to_answer durable) (parts_in entries)) ≡ Some state →
        (find (is_to_answer durable) (parts_in entries) ≡ Some state → state.part.term ≡ term → lookup (nat_eq term) entries ≡ Some state) →
        cond here (Some entry.1) (lookup (nat_eq term) entries) ≡ Some state
    by true true at is later = is
    by true false at is later =
        let it : entry.1 ≡ state = cc in
        let key : term ≡ entry.0 = sym (h.0 ∙ ap (λ part. part.part.term) it ∙ named) in
        absurd (true≢false (sym (ap (nat_eq term) (sym key) ∙ itself term) ∙ at))
      where
        itself : (n : ℕ) → nat_eq n n ≡ true
        itself n = grind (arith, nat_tests)
    by false true at is later =
        absurd (some≢none (sym (later is named) ∙
        absent term entries (subst (λ key. HasNone key entries) (sym (same term entry.0 at)) h.1)))
      where
        some≢none : Some state ≡ None → ⊥
        some≢none e = cc
    by false false at is later = later is named

-- and is answered there
pub answered_in-set : (durable : List Entry) (entries : List (ℕ × PartState)) (term : ℕ) (state : PartState) → AreUnderTheirTerms entries →
    find (is_to_answer durable) (parts_in entries) ≡ Some state → state.part.term ≡ term →
    parts_in (set_value (nat_eq term) entries (record state { answered = true })) ≡ answered_in durable (parts_in entries)
answered_in-set durable [] term state h found named = refl
answered_in-set durable (entry ∷ entries) term state h found named =
    by (is_to_answer durable entry.1) (nat_eq term entry.0) (answer-lookup durable (entry ∷ entries) term state h found
    named) refl found (answered_in-set durable entries term state h.2)
  where
    itself : (n : ℕ) → nat_eq n n ≡ true
    itself n = grind (arith, nat_tests)

    some≢none : Some state ≡ None → ⊥
    some≢none e = cc

    by : (b here : Bool) → cond here (Some entry.1) (lookup (nat_eq term) entries) ≡ Some state → nat_eq term entry.0 ≡ here →
        cond b (Some entry.1) (find (is_to_answer durable) (parts_in entries)) ≡ Some state →
        (find (is_to_answer durable) (parts_in entries) ≡ Some state → state.part.term ≡ term →
        parts_in (set_value (nat_eq term) entries (record state { answered = true })) ≡ answered_in durable (parts_in entries)) →
        parts_in (cond here ((entry.0, record state { answered = true }) ∷ entries)
        (entry ∷ set_value (nat_eq term) entries (record state { answered = true })))
        ≡ cond b (record entry.1 { answered = true } ∷ parts_in entries) (entry.1 ∷ answered_in durable (parts_in entries))
    by true true looked at is later =
        let it : state ≡ entry.1 = cc in
        ap (λ part. let told : PartState = record part { answered = true } in told ∷ parts_in entries) it
    by true false looked at is later =
        let it : entry.1 ≡ state = cc in
        let key : term ≡ entry.0 = sym (h.0 ∙ ap (λ part. part.part.term) it ∙ named) in
        absurd (true≢false (sym (ap (nat_eq term) (sym key) ∙ itself term) ∙ at))
    by false true looked at is later =
        absurd (some≢none (sym (answer-lookup durable entries term state h.2 is named) ∙
        absent term entries (subst (λ key. HasNone key entries) (sym (same term entry.0 at)) h.1)))
    by false false looked at is later = ap (λ parts. entry.1 ∷ parts) (later is named)

pub answered_in-none : (durable : List Entry) (parts : List PartState) → find (is_to_answer durable) parts ≡ None →
    answered_in durable parts ≡ parts
answered_in-none durable [] none = refl
answered_in-none durable (state ∷ parts) none = by (is_to_answer durable state) none (answered_in-none durable parts)
  where
    by : (b : Bool) → cond b (Some state) (find (is_to_answer durable) parts) ≡ None →
        (find (is_to_answer durable) parts ≡ None → answered_in durable parts ≡ parts) →
        cond b (record state { answered = true } ∷ parts) (state ∷ answered_in durable parts) ≡ state ∷ parts
    by true none later = absurd (cc)
    by false none later = ap (λ rest. state ∷ rest) (later none)

-- nothing changes where no such row is awaited
pub data_in-none : (term seg : ℕ) (from : ServerId) (came : List Entry) (parts : List PartState) →
    list_any (awaits term seg from) parts ≡ false → data_in term seg from came parts ≡ parts
data_in-none term seg from came [] none = refl
data_in-none term seg from came (state ∷ parts) none = by (awaits term seg from state) none (data_in-none term seg from came parts)
  where
    by : (b : Bool) → (b || list_any (awaits term seg from) parts) ≡ false →
        (list_any (awaits term seg from) parts ≡ false → data_in term seg from came parts ≡ parts) →
        cond b (joined (part_with_row seg from came state) ∷ parts) (state ∷ data_in term seg from came parts) ≡ state ∷ parts
    by true none later = absurd (true≢false none)
    by false none later = ap (λ rest. state ∷ rest) (later none)

pub replay_in-none : (term seg : ℕ) (from : ServerId) (came : List Entry) (parts : List PartState) →
    list_any (awaits term seg from) parts ≡ false → replay_in term seg from came parts ≡ []
replay_in-none term seg from came [] none = refl
replay_in-none term seg from came (state ∷ parts) none = by (awaits term seg from state) none (replay_in-none term seg from came parts)
  where
    by : (b : Bool) → (b || list_any (awaits term seg from) parts) ≡ false →
        (list_any (awaits term seg from) parts ≡ false → replay_in term seg from came parts ≡ []) →
        cond b (joining (part_with_row seg from came state)) (replay_in term seg from came parts) ≡ []
    by true none later = absurd (true≢false none)
    by false none later = later none

pub put_data-none : (term seg : ℕ) (from : ServerId) (came : List Entry) (own : Ownership) →
    awaits_data term seg from own ≡ false → own ≡ put_data term seg from came own
put_data-none term seg from came own none =
    ap (λ parts. let held : Ownership = record own { parts = parts } in held) (sym (data_in-none term seg from came own.parts none))
    ∙ ap (λ replay. let held : Ownership = record own { parts = data_in term seg from came own.parts; replay = replay } in held)
    (sym (append-nil own.replay) ∙ ap (λ more. own.replay ++ more) (sym (replay_in-none term seg from came own.parts none)))

pub unmapped : (found : Option PartState) → option_map (λ state. state.part.term) found ≡ None → found ≡ None
unmapped None h = refl
unmapped (Some state) h = absurd (cc)

-- the part whose end is told is the one under its term
pub told : (durable : List Entry) (entries : List (ℕ × PartState)) (term : ℕ) (part : PartState) → AreUnderTheirTerms entries →
    option_map (λ state. state.part.term) (find (is_to_answer durable) (parts_in entries)) ≡ Some term →
    lookup (nat_eq term) entries ≡ Some part →
    parts_in (set_value (nat_eq term) entries (record part { answered = true })) ≡ answered_in durable (parts_in entries)
told durable entries term part h asked found =
    let m = mapped (find (is_to_answer durable) (parts_in entries)) term asked in
    let there : lookup (nat_eq term) entries ≡ Some m.0 = answer-lookup durable entries term m.0 h m.1 m.2 in
    let it : part ≡ m.0 = cc in
    ap (λ state. parts_in (set_value (nat_eq term) entries (record state { answered = true }))) it ∙
    answered_in-set durable entries term m.0 h m.1 m.2

-- and there is one
pub not_told : (durable : List Entry) (entries : List (ℕ × PartState)) (term : ℕ) → AreUnderTheirTerms entries →
    option_map (λ state. state.part.term) (find (is_to_answer durable) (parts_in entries)) ≡ Some term →
    lookup (nat_eq term) entries ≡ None → ⊥
not_told durable entries term h asked none =
    let m = mapped (find (is_to_answer durable) (parts_in entries)) term asked in
    let there : lookup (nat_eq term) entries ≡ Some m.0 = answer-lookup durable entries term m.0 h m.1 m.2 in
    cc

find-due : (durable : List Entry) (parts : List PartState) (state : PartState) → find (is_to_answer durable) parts ≡ Some state →
    is_to_answer durable state ≡ true
find-due durable [] state found = absurd (cc)
find-due durable (first ∷ parts) state found = by (is_to_answer durable first) refl found (find-due durable parts state)
  where
    by : (b : Bool) → is_to_answer durable first ≡ b → cond b (Some first) (find (is_to_answer durable) parts) ≡ Some state →
        (find (is_to_answer durable) parts ≡ Some state → is_to_answer durable state ≡ true) → is_to_answer durable state ≡ true
    by true due is later =
        let it : first ≡ state = cc in
        ap (is_to_answer durable) (sym it) ∙ due
    by false due is later = later is

-- its end wasn't told before
pub told-first : (durable : List Entry) (entries : List (ℕ × PartState)) (term : ℕ) (part : PartState) → AreUnderTheirTerms entries →
    option_map (λ state. state.part.term) (find (is_to_answer durable) (parts_in entries)) ≡ Some term →
    lookup (nat_eq term) entries ≡ Some part → part.answered ≡ false
told-first durable entries term part h asked found =
    let m = mapped (find (is_to_answer durable) (parts_in entries)) term asked in
    let there : lookup (nat_eq term) entries ≡ Some m.0 = answer-lookup durable entries term m.0 h m.1 m.2 in
    let it : m.0 ≡ part = cc in
    not_yet (is_complete durable part) part.answered
    (ap (is_to_answer durable) (sym it) ∙ find-due durable (parts_in entries) m.0 m.1)
  where
    not_yet : (b answered : Bool) → (b && not answered) ≡ true → answered ≡ false
    not_yet b false due = refl
    not_yet true true due = absurd (true≢false (sym due))
    not_yet false true due = absurd (true≢false (sym due))

-- A row that came

pub joined-named : (state : PartState) → (joined state).part.term ≡ state.part.term
joined-named state = by (all_came state.rows)
  where
    by : (b : Bool) → (cond b (record state { rows = []; size = length (entries_that_came state.rows) }) state).part.term ≡ state.part.term
    by true = refl
    by false = refl

pub data-changed : (entries changed : List (ℕ × PartState)) (term seg : ℕ) (from : ServerId) (came : List Entry)
    (state next : PartState) → AreUnderTheirTerms entries →
    lookup (nat_eq term) entries ≡ Some state → list_any (is_awaited seg from) state.rows ≡ true →
    next ≡ joined (part_with_row seg from came state) → changed ≡ set_value (nat_eq term) entries next →
    parts_in changed ≡ data_in term seg from came (parts_in entries)
data-changed entries changed term seg from came state next h found some is written =
    ap parts_in (written ∙ ap (set_value (nat_eq term) entries) is) ∙ data_in-set entries term seg from came state h found some
