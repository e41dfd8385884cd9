-- The parts that changed: what they were before, in their places again.
use Rattle.std.proofs.Common.{◌≡◌, ℕ, ◌+◌, ◌≤◌, Bool, true, false, cond, nat_eq, Some, None, List, [], ◌∷◌, ◌++◌, length}
use Rattle.std.proofs.Common.{Result, Ok, Err, length-append, take, sym, ap, subst, ◌∙◌, refl, arith, zero, suc}
use Rattle.std.proofs.lemmas.Bool.Decides.{nat_tests}
use Rattle.std.proofs.lemmas.Map.{length-set_value}
use Rattle.std.specs.Prelude.{OnErr}
use Rattle.std.specs.Map.{lookup, set_value}
use Rattle.std.specs.List.{list_any}
use Rattle.std.proofs.lemmas.List.{take-append-le, take-take, take_all, length-take-le}
use Rattle.indexmap.specs.IndexMap.{IndexMap, insert_entry}
use Rattle.rc_types.specs.declared.kept.GrantedRange.{GrantedRange}
use Rattle.rc_model.specs.Ownership.{PartState, grant}
use Rattle.rc_ownership.specs.Grants.{owner_of}
use Rattle.rc_ownership.specs.declared.part.Before.{Before}
use Rattle.rc_ownership.specs.declared.part.Before.TheVariants.{Awaited, Whole, Unanswered}
use Rattle.rc_ownership.specs.Parts.{Fetched, HasNone, AreUnderTheirTerms, AreOfTheirTerms, IsOfTerm, parts_in, part_before}
use Rattle.rc_ownership.specs.Parts.{undo_in, undone, IsPartTable, HasUntold}
use Rattle.rc_ownership.specs.Unfinished.{HoldUnfinished, HoldUntold, is_finished}
use Rattle.rc_ownership.proofs.PartTables.{under-insert, inserted-last}
use Rattle.rc_ownership.proofs.Places.{places-push, places-set, places-weaker, finished-granted}

same : (one other : ℕ) → nat_eq one other ≡ true → one ≡ other
same one other h = grind (arith, nat_tests)

-- One change

-- the part that a look-up finds is what it was
pub undo-found : (change : ℕ × Before) (entries : List (ℕ × PartState)) (now : PartState) →
    lookup (nat_eq change.0) entries ≡ Some now →
    set_value (nat_eq change.0) entries (part_before change.1 now) ≡ undo_in change entries
undo-found change [] now found = refl
undo-found change (entry ∷ entries) now found = by (nat_eq change.0 entry.0) found (undo-found change entries now)
  where
    by : (b : Bool) → cond b (Some entry.1) (lookup (nat_eq change.0) entries) ≡ Some now →
        (lookup (nat_eq change.0) entries ≡ Some now →
        set_value (nat_eq change.0) entries (part_before change.1 now) ≡ undo_in change entries) →
        cond b ((entry.0, part_before change.1 now) ∷ entries)
        (entry ∷ set_value (nat_eq change.0) entries (part_before change.1 now))
        ≡ cond b ((entry.0, part_before change.1 entry.1) ∷ entries) (entry ∷ undo_in change entries)
    by true is later =
        let it : now ≡ entry.1 = cc in
        ap (λ part. (entry.0, part_before change.1 part) ∷ entries) it
    by false is later = ap (λ rest. entry ∷ rest) (later is)

-- nothing changes where none is found
pub undo-absent : (change : ℕ × Before) (entries : List (ℕ × PartState)) → lookup (nat_eq change.0) entries ≡ None →
    undo_in change entries ≡ entries
undo-absent change [] none = refl
undo-absent change (entry ∷ entries) none = by (nat_eq change.0 entry.0) none (undo-absent change entries)
  where
    by : (b : Bool) → cond b (Some entry.1) (lookup (nat_eq change.0) entries) ≡ None →
        (lookup (nat_eq change.0) entries ≡ None → undo_in change entries ≡ entries) →
        cond b ((entry.0, part_before change.1 entry.1) ∷ entries) (entry ∷ undo_in change entries) ≡ entry ∷ entries
    by true none later = absurd (cc)
    by false none later = ap (λ rest. entry ∷ rest) (later none)

-- a change that is undone has left nothing
undo-set : (term : ℕ) (before : Before) (entries : List (ℕ × PartState)) (old new : PartState) →
    lookup (nat_eq term) entries ≡ Some old → part_before before new ≡ old →
    undo_in (term, before) (set_value (nat_eq term) entries new) ≡ entries
undo-set term before [] old new found back = refl
undo-set term before (entry ∷ entries) old new found back =
    by (nat_eq term entry.0) refl found (λ is. undo-set term before entries old new is back)
  where
    by : (b : Bool) → nat_eq term entry.0 ≡ b → cond b (Some entry.1) (lookup (nat_eq term) entries) ≡ Some old →
        (lookup (nat_eq term) entries ≡ Some old → undo_in (term, before) (set_value (nat_eq term) entries new) ≡ entries) →
        undo_in (term, before) (cond b ((entry.0, new) ∷ entries) (entry ∷ set_value (nat_eq term) entries new)) ≡ entry ∷ entries
    by true here is later =
        let it : part_before before new ≡ entry.1 = cc in
        ap (λ b. cond b ((entry.0, part_before before new) ∷ entries) ((entry.0, new) ∷ undo_in (term, before) entries)) here
        ∙ ap (λ part. (entry.0, part) ∷ entries) it
    by false here is later =
        ap (λ b. cond b ((entry.0, part_before before entry.1) ∷ set_value (nat_eq term) entries new)
        (entry ∷ undo_in (term, before) (set_value (nat_eq term) entries new))) here ∙ ap (λ rest. entry ∷ rest) (later is)

undo-take : (change : ℕ × Before) (entries : List (ℕ × PartState)) (count : ℕ) →
    take count (undo_in change entries) ≡ undo_in change (take count entries)
undo-take change [] zero = refl
undo-take change [] (suc count) = refl
undo-take change (entry ∷ entries) zero = by (nat_eq change.0 entry.0)
  where
    by : (b : Bool) → take 0 (cond b ((entry.0, part_before change.1 entry.1) ∷ entries) (entry ∷ undo_in change entries)) ≡ []
    by true = refl
    by false = refl
undo-take change (entry ∷ entries) (suc count) = by (nat_eq change.0 entry.0) (undo-take change entries count)
  where
    by : (b : Bool) → take count (undo_in change entries) ≡ undo_in change (take count entries) →
        take (suc count) (cond b ((entry.0, part_before change.1 entry.1) ∷ entries) (entry ∷ undo_in change entries)) ≡ cond b
        ((entry.0, part_before change.1 entry.1) ∷ take count entries) (entry ∷ undo_in change (take count entries))
    by true later = refl
    by false later = ap (λ rest. entry ∷ rest) later

length-undo : (change : ℕ × Before) (entries : List (ℕ × PartState)) → length (undo_in change entries) ≡ length entries
length-undo change [] = refl
length-undo change (entry ∷ entries) = by (nat_eq change.0 entry.0) (length-undo change entries)
  where
    by : (b : Bool) → length (undo_in change entries) ≡ length entries →
        length (cond b ((entry.0, part_before change.1 entry.1) ∷ entries) (entry ∷ undo_in change entries)) ≡ length (entry ∷ entries)
    by true later = refl
    by false later = ap suc later

-- Several changes

-- the last change is undone first
pub undone-push : (changes : List (ℕ × Before)) (change : ℕ × Before) (entries : List (ℕ × PartState)) →
    undone (changes ++ change ∷ []) entries ≡ undone changes (undo_in change entries)
undone-push [] change entries = refl
undone-push (first ∷ changes) change entries = ap (undo_in first) (undone-push changes change entries)

-- a change that can be undone
pub undone-change : (changes : List (ℕ × Before)) (entries changed : List (ℕ × PartState)) (term : ℕ) (before : Before)
    (old new : PartState) (count : ℕ) → lookup (nat_eq term) entries ≡ Some old → part_before before new ≡ old →
    changed ≡ set_value (nat_eq term) entries new →
    undone (changes ++ (term, before) ∷ []) (take count changed) ≡ undone changes (take count entries)
undone-change changes entries changed term before old new count found back is =
    undone-push changes (term, before) (take count changed)
    ∙ ap (undone changes)
    (sym (undo-take (term, before) changed count)
    ∙ ap (take count) (ap (undo_in (term, before)) is ∙ undo-set term before entries old new found back))

pub undone-take : (changes : List (ℕ × Before)) (entries : List (ℕ × PartState)) (count : ℕ) →
    take count (undone changes entries) ≡ undone changes (take count entries)
undone-take [] entries count = refl
undone-take (first ∷ changes) entries count =
    undo-take first (undone changes entries) count ∙ ap (undo_in first) (undone-take changes entries count)

pub length-undone : (changes : List (ℕ × Before)) (entries : List (ℕ × PartState)) →
    length (undone changes entries) ≡ length entries
length-undone [] entries = refl
length-undone (first ∷ changes) entries = length-undo first (undone changes entries) ∙ length-undone changes entries

-- Terms

none-undo : (key : ℕ) (change : ℕ × Before) (entries : List (ℕ × PartState)) → HasNone key entries →
    HasNone key (undo_in change entries)
none-undo key change [] h = tt
none-undo key change (entry ∷ entries) h = by (nat_eq change.0 entry.0) (none-undo key change entries h.1)
  where
    by : (b : Bool) → HasNone key (undo_in change entries) →
        HasNone key (cond b ((entry.0, part_before change.1 entry.1) ∷ entries) (entry ∷ undo_in change entries))
    by true later = h
    by false later = (h.0, later)

-- what a part was is of its term
before-term : (term key : ℕ) (before : Before) (state : PartState) → IsOfTerm term before → key ≡ state.part.term →
    nat_eq term key ≡ true → key ≡ (part_before before state).part.term
before-term term key (Awaited place) state of named here = named
before-term term key (Whole part) state of named here = sym (same term key here) ∙ of
before-term term key Unanswered state of named here = named

under-undo : (change : ℕ × Before) (entries : List (ℕ × PartState)) → IsOfTerm change.0 change.1 →
    AreUnderTheirTerms entries → AreUnderTheirTerms (undo_in change entries)
under-undo change [] of h = tt
under-undo change (entry ∷ entries) of h = by (nat_eq change.0 entry.0) refl (under-undo change entries of h.2)
  where
    by : (b : Bool) → nat_eq change.0 entry.0 ≡ b → AreUnderTheirTerms (undo_in change entries) →
        AreUnderTheirTerms (cond b ((entry.0, part_before change.1 entry.1) ∷ entries) (entry ∷ undo_in change entries))
    by true here later = (before-term change.0 entry.0 change.1 entry.1 of h.0 here, h.1, h.2)
    by false here later = (h.0, none-undo entry.0 change entries h.1, later)

pub under-undone : (changes : List (ℕ × Before)) (entries : List (ℕ × PartState)) → AreOfTheirTerms changes →
    AreUnderTheirTerms entries → AreUnderTheirTerms (undone changes entries)
under-undone [] entries of h = h
under-undone (first ∷ changes) entries of h =
    under-undo first (undone changes entries) of.0 (under-undone changes entries of.1 h)

none-put : (key term : ℕ) (entries : List (ℕ × PartState)) (state : PartState) → HasNone key entries →
    HasNone key (set_value (nat_eq term) entries state)
none-put key term [] state h = tt
none-put key term (entry ∷ entries) state h = by (nat_eq term entry.0) (none-put key term entries state h.1)
  where
    by : (b : Bool) → HasNone key (set_value (nat_eq term) entries state) →
        HasNone key (cond b ((entry.0, state) ∷ entries) (entry ∷ set_value (nat_eq term) entries state))
    by true later = h
    by false later = (h.0, later)

-- a part under its own term keeps the table
pub under-put : (term : ℕ) (entries : List (ℕ × PartState)) (state : PartState) → AreUnderTheirTerms entries →
    term ≡ state.part.term → AreUnderTheirTerms (set_value (nat_eq term) entries state)
under-put term [] state h named = tt
under-put term (entry ∷ entries) state h named = by (nat_eq term entry.0) refl (under-put term entries state h.2 named)
  where
    same : (one other : ℕ) → nat_eq one other ≡ true → other ≡ one
    same one other is = grind (arith, nat_tests)

    by : (b : Bool) → nat_eq term entry.0 ≡ b → AreUnderTheirTerms (set_value (nat_eq term) entries state) →
        AreUnderTheirTerms (cond b ((entry.0, state) ∷ entries) (entry ∷ set_value (nat_eq term) entries state))
    by true here later = (same term entry.0 here ∙ named, h.1, h.2)
    by false here later = (h.0, none-put entry.0 term entries state h.1, later)

none-take : (key count : ℕ) (entries : List (ℕ × PartState)) → HasNone key entries → HasNone key (take count entries)
none-take key zero entries h = none entries
  where
    none : (rest : List (ℕ × PartState)) → HasNone key (take 0 rest)
    none [] = tt
    none (entry ∷ rest) = tt
none-take key (suc count) [] h = tt
none-take key (suc count) (entry ∷ entries) h = (h.0, none-take key count entries h.1)

pub under-take : (count : ℕ) (entries : List (ℕ × PartState)) → AreUnderTheirTerms entries → AreUnderTheirTerms (take count entries)
under-take zero [] h = tt
under-take zero (entry ∷ entries) h = tt
under-take (suc count) [] h = tt
under-take (suc count) (entry ∷ entries) h = (h.0, none-take entry.0 count entries h.1, under-take count entries h.2)

of-push : (changes : List (ℕ × Before)) (change : ℕ × Before) → AreOfTheirTerms changes → IsOfTerm change.0 change.1 →
    AreOfTheirTerms (changes ++ change ∷ [])
of-push [] change of named = (named, tt)
of-push (first ∷ changes) change of named = (of.0, of-push changes change of.1 named)

pub found-term : (term : ℕ) (entries : List (ℕ × PartState)) (state : PartState) → AreUnderTheirTerms entries →
    lookup (nat_eq term) entries ≡ Some state → term ≡ state.part.term
found-term term [] state h found = absurd (cc)
found-term term (entry ∷ entries) state h found = by (nat_eq term entry.0) refl found (found-term term entries state h.2)
  where
    same : (one other : ℕ) → nat_eq one other ≡ true → one ≡ other
    same one other is = grind (arith, nat_tests)

    by : (b : Bool) → nat_eq term entry.0 ≡ b → cond b (Some entry.1) (lookup (nat_eq term) entries) ≡ Some state →
        (lookup (nat_eq term) entries ≡ Some state → term ≡ state.part.term) → term ≡ state.part.term
    by true here is later =
        let it : entry.1 ≡ state = cc in
        same term entry.0 here ∙ h.0 ∙ ap (λ part. part.part.term) it
    by false here is later = later is

-- what a part was is of the term that it had
of-term : (term : ℕ) (before : Before) (old new : PartState) → part_before before new ≡ old → term ≡ old.part.term →
    IsOfTerm term before
of-term term (Awaited place) old new back named = tt
of-term term (Whole part) old new back named = named ∙ ap (λ state. state.part.term) (sym back)
of-term term Unanswered old new back named = tt

-- The whole table

pub same_fetched : (one other : Fetched) → one.grants ≡ other.grants → one.parts ≡ other.parts → one.replay ≡ other.replay →
    one.parts_before ≡ other.parts_before → one.replay_before ≡ other.replay_before → one ≡ other
same_fetched one other g p q r t j = record { grants = g j; parts = p j; replay = q j; parts_before = r j; replay_before = t j }

-- it is as it was when the step began
pub table-begun : (entries : List (ℕ × PartState)) (changes : List (ℕ × Before)) (kept : ℕ) (grants : List GrantedRange)
    (places : List ℕ) (count : ℕ) → AreUnderTheirTerms entries →
    HoldUnfinished grants places (parts_in entries) → changes ≡ [] → kept ≡ length entries →
    count ≡ length places → IsPartTable entries changes kept grants places count
table-begun entries changes kept grants places count under hold none all all_places = record {
  under_terms = under;
  of_terms = subst AreOfTheirTerms (sym none) tt;
  within = omega (arith, all);
  places_now = hold;
  places_before = subst (λ cs. HoldUnfinished grants (take count places) (parts_in (undone cs (take kept entries)))) (sym none)
      (subst (λ ps. HoldUnfinished grants ps (parts_in (take kept entries)))
      (sym (take_all count places (omega (arith, all_places))))
      (subst (λ es. HoldUnfinished grants places (parts_in es)) (sym (take_all kept entries (omega (arith, all)))) hold));
  places_within = omega (arith, all_places);
}

pub undone-begun : (entries : List (ℕ × PartState)) (changes : List (ℕ × Before)) (kept : ℕ) → changes ≡ [] →
    kept ≡ length entries → parts_in (undone changes (take kept entries)) ≡ parts_in entries
undone-begun entries changes kept none all =
    ap (λ cs. parts_in (undone cs (take kept entries))) none ∙ ap parts_in (take_all kept entries (omega (arith, all)))

-- one more part was begun
pub table-insert : {S : Type 0} (old new : IndexMap ℕ PartState S) (term : ℕ) (state : PartState)
    (changes : List (ℕ × Before)) (kept : ℕ) (grants : List GrantedRange) (places after : List ℕ) (count : ℕ) →
    IsPartTable old.entries changes kept grants places count →
    list_any (λ one. nat_eq one.part.term term) (parts_in old.entries) ≡ false →
    new.entries ≡ insert_entry nat_eq old.entries term state → term ≡ state.part.term →
    after ≡ places ++ length old.entries ∷ [] → IsPartTable new.entries changes kept grants after count
table-insert old new term state changes kept grants places after count table none inserted named pushed =
    let last = inserted-last old new term state table.under_terms none inserted in
    record {
      under_terms = under-insert old new term state table.under_terms none inserted named;
      of_terms = table.of_terms;
      within = omega (arith, table.within, ap length last, length-append old.entries ((term, state) ∷ []));
      places_now = subst (λ es. HoldUnfinished grants after (parts_in es)) (sym last)
          (subst (λ ps. HoldUnfinished grants ps (parts_in (old.entries ++ (term, state) ∷ [])))
          (ap (λ n. places ++ n ∷ []) (let e : 0 + length old.entries ≡ length old.entries = omega arith in e) ∙ sym pushed)
          (places-push (λ state. is_finished grants state ≡ true) 0 places old.entries (term, state) table.places_now));
      places_before = subst (λ ps. HoldUnfinished grants ps (parts_in (undone changes (take kept new.entries))))
          (sym (ap (take count) pushed ∙ take-append-le count places (length old.entries ∷ []) table.places_within))
          (subst (λ es. HoldUnfinished grants (take count places) (parts_in (undone changes es)))
          (sym (ap (take kept) last ∙ take-append-le kept old.entries ((term, state) ∷ []) table.within)) table.places_before);
      places_within = omega (arith, table.places_within, ap length pushed, length-append places (length old.entries ∷ []));
    }

pub undone-insert : {S : Type 0} (old new : IndexMap ℕ PartState S) (term : ℕ) (state : PartState)
    (changes : List (ℕ × Before)) (kept : ℕ) → AreUnderTheirTerms old.entries → kept ≤ length old.entries →
    list_any (λ one. nat_eq one.part.term term) (parts_in old.entries) ≡ false → new.entries ≡ insert_entry nat_eq old.entries term state →
    parts_in (undone changes (take kept new.entries)) ≡ parts_in (undone changes (take kept old.entries))
undone-insert old new term state changes kept under within none inserted =
    ap (λ entries. parts_in (undone changes entries))
    (ap (take kept) (inserted-last old new term state under none inserted) ∙ take-append-le kept old.entries
    ((term, state) ∷ []) within)

-- a change of a part, and how it is undone
pub record IsChange (grants : List GrantedRange) (entries changed : List (ℕ × PartState)) (changes now : List (ℕ × Before))
    (term : ℕ) (before : Before) (old new : PartState) : Type 0 where
  pub found : lookup (nat_eq term) entries ≡ Some old
  pub written : changed ≡ set_value (nat_eq term) entries new
  pub noted : now ≡ changes ++ (term, before) ∷ []
  pub back : part_before before new ≡ old
  pub finished : is_finished grants old ≡ true → is_finished grants new ≡ true
  pub named : new.part.term ≡ old.part.term

pub undone-noted : (entries changed : List (ℕ × PartState)) (changes now : List (ℕ × Before)) (term : ℕ) (before : Before)
    (old new : PartState) (kept : ℕ) (grants : List GrantedRange) → IsChange grants entries changed changes now term before old new →
    undone now (take kept changed) ≡ undone changes (take kept entries)
undone-noted entries changed changes now term before old new kept grants it =
    ap (λ cs. undone cs (take kept changed)) it.noted ∙
    undone-change changes entries changed term before old new kept it.found it.back it.written

pub table-change : (entries changed : List (ℕ × PartState)) (changes now : List (ℕ × Before)) (term : ℕ) (before : Before)
    (old new : PartState) (kept : ℕ) (grants : List GrantedRange) (places : List ℕ) (count : ℕ) →
    IsPartTable entries changes kept grants places count →
    IsChange grants entries changed changes now term before old new → IsPartTable changed now kept grants places count
table-change entries changed changes now term before old new kept grants places count table it =
    let term_is = found-term term entries old table.under_terms it.found in
    record {
      under_terms = subst AreUnderTheirTerms (sym it.written)
          (under-put term entries new table.under_terms (term_is ∙ sym it.named));
      of_terms = subst AreOfTheirTerms (sym it.noted)
          (of-push changes (term, before) table.of_terms (of-term term before old new it.back term_is));
      within = omega (arith, table.within, ap length it.written, length-set_value (nat_eq term) entries new);
      places_now = subst (λ es. HoldUnfinished grants places (parts_in es)) (sym it.written)
          (places-set (λ state. is_finished grants state ≡ true) 0 places (nat_eq term) entries old new it.found it.finished
          table.places_now);
      places_before = subst (λ es. HoldUnfinished grants (take count places) (parts_in es))
          (sym (undone-noted entries changed changes now term before old new kept grants it)) table.places_before;
      places_within = table.places_within;
    }

-- each part is again what it was
pub table-restored : (entries : List (ℕ × PartState)) (changes : List (ℕ × Before)) (now : List (ℕ × PartState))
    (left : List (ℕ × Before)) (kept : ℕ) (grants : List GrantedRange) (places after : List ℕ) (count : ℕ) →
    IsPartTable entries changes kept grants places count → now ≡ take kept (undone changes entries) → left ≡ [] →
    after ≡ take count places →
    IsPartTable now left kept grants after count
table-restored entries changes now left kept grants places after count table is none cut =
    let hold : HoldUnfinished grants after (parts_in now) = subst (λ ps. HoldUnfinished grants ps (parts_in now)) (sym cut)
    (subst (λ es. HoldUnfinished grants (take count places) (parts_in es)) (sym (is ∙ undone-take changes entries kept))
    table.places_before) in
    let all : length now ≡ kept = ap length is ∙ length-take-le kept (undone changes entries)
    (omega (arith, table.within, length-undone changes entries)) in
    let all_places : length after ≡ count = ap length cut ∙ length-take-le count places table.places_within in
    table-begun now left kept grants after count
    (subst AreUnderTheirTerms (sym is)
    (under-take kept (undone changes entries) (under-undone changes entries table.of_terms table.under_terms)))
    hold none (sym all) (sym all_places)

pub undone-restored : (entries : List (ℕ × PartState)) (changes : List (ℕ × Before)) (now : List (ℕ × PartState))
    (left : List (ℕ × Before)) (kept : ℕ) → now ≡ take kept (undone changes entries) → left ≡ [] →
    parts_in (undone left (take kept now)) ≡ parts_in (undone changes (take kept entries))
undone-restored entries changes now left kept is none =
    ap (λ cs. parts_in (undone cs (take kept now))) none
    ∙ ap (λ rest. parts_in (take kept rest)) is
    ∙ ap parts_in (take-take kept kept (undone changes entries) (omega arith) ∙ undone-take changes entries kept)

-- more is granted
pub table-granted : (entries : List (ℕ × PartState)) (changes : List (ℕ × Before)) (kept : ℕ) (grants after : List GrantedRange)
    (places : List ℕ) (count : ℕ) (granted : GrantedRange) → IsPartTable entries changes kept grants places count →
    after ≡ (grant granted (owner_of grants)).grants → IsPartTable entries changes kept after places count
table-granted entries changes kept grants after places count granted table is =
    subst (λ list. IsPartTable entries changes kept list places count) (sym is)
    (record {
      under_terms = table.under_terms;
      of_terms = table.of_terms;
      within = table.within;
      places_now = places-weaker _ _ (finished-granted grants granted) 0 places (parts_in entries) table.places_now;
      places_before =
          places-weaker _ _ (finished-granted grants granted) 0 (take count places) (parts_in (undone changes (take kept entries)))
          table.places_before;
      places_within = table.places_within;
    })

-- The places of those whose end may be untold

pub untold-begun : (entries : List (ℕ × PartState)) (changes : List (ℕ × Before)) (kept : ℕ) (places : List ℕ) (count : ℕ) →
    HoldUntold places (parts_in entries) → changes ≡ [] → kept ≡ length entries →
    count ≡ length places → HasUntold entries changes kept places count
untold-begun entries changes kept places count hold none all all_places = record {
  places_now = hold;
  places_before = subst (λ cs. HoldUntold (take count places) (parts_in (undone cs (take kept entries)))) (sym none)
      (subst (λ ps. HoldUntold ps (parts_in (take kept entries)))
      (sym (take_all count places (omega (arith, all_places))))
      (subst (λ es. HoldUntold places (parts_in es)) (sym (take_all kept entries (omega (arith, all)))) hold));
  places_within = omega (arith, all_places);
}

pub untold-insert : {S : Type 0} (old new : IndexMap ℕ PartState S) (term : ℕ) (state : PartState)
    (changes : List (ℕ × Before)) (kept : ℕ) (places after : List ℕ) (count : ℕ) →
    AreUnderTheirTerms old.entries → kept ≤ length old.entries → HasUntold old.entries changes kept places count →
    list_any (λ one. nat_eq one.part.term term) (parts_in old.entries) ≡ false →
    new.entries ≡ insert_entry nat_eq old.entries term state →
    after ≡ places ++ length old.entries ∷ [] → HasUntold new.entries changes kept after count
untold-insert old new term state changes kept places after count under within ends none inserted pushed =
    let last = inserted-last old new term state under none inserted in
    record {
      places_now = subst (λ es. HoldUntold after (parts_in es)) (sym last)
          (subst (λ ps. HoldUntold ps (parts_in (old.entries ++ (term, state) ∷ [])))
          (ap (λ n. places ++ n ∷ []) (let e : 0 + length old.entries ≡ length old.entries = omega arith in e) ∙ sym pushed)
          (places-push (λ state. state.answered ≡ true) 0 places old.entries (term, state) ends.places_now));
      places_before = subst (λ ps. HoldUntold ps (parts_in (undone changes (take kept new.entries))))
          (sym (ap (take count) pushed ∙ take-append-le count places (length old.entries ∷ []) ends.places_within))
          (subst (λ es. HoldUntold (take count places) (parts_in (undone changes es)))
          (sym (ap (take kept) last ∙ take-append-le kept old.entries ((term, state) ∷ []) within)) ends.places_before);
      places_within = omega (arith, ends.places_within, ap length pushed, length-append places (length old.entries ∷ []));
    }

pub untold-change : (entries changed : List (ℕ × PartState)) (changes now : List (ℕ × Before)) (term : ℕ) (before : Before)
    (old new : PartState) (kept : ℕ) (grants : List GrantedRange) (places : List ℕ) (count : ℕ) →
    HasUntold entries changes kept places count → IsChange grants entries changed changes now term before old new →
    (old.answered ≡ true → new.answered ≡ true) → HasUntold changed now kept places count
untold-change entries changed changes now term before old new kept grants places count ends it told = record {
  places_now = subst (λ es. HoldUntold places (parts_in es)) (sym it.written)
      (places-set (λ state. state.answered ≡ true) 0 places (nat_eq term) entries old new it.found told ends.places_now);
  places_before = subst (λ es. HoldUntold (take count places) (parts_in es))
      (sym (undone-noted entries changed changes now term before old new kept grants it)) ends.places_before;
  places_within = ends.places_within;
}

pub untold-restored : (entries : List (ℕ × PartState)) (changes : List (ℕ × Before)) (now : List (ℕ × PartState))
    (left : List (ℕ × Before)) (kept : ℕ) (places after : List ℕ) (count : ℕ) → kept ≤ length entries →
    HasUntold entries changes kept places count → now ≡ take kept (undone changes entries) → left ≡ [] →
    after ≡ take count places → HasUntold now left kept after count
untold-restored entries changes now left kept places after count within ends is none cut =
    let hold : HoldUntold after (parts_in now) = subst (λ ps. HoldUntold ps (parts_in now)) (sym cut)
    (subst (λ es. HoldUntold (take count places) (parts_in es)) (sym (is ∙ undone-take changes entries kept))
    ends.places_before) in
    let all : length now ≡ kept = ap length is ∙ length-take-le kept (undone changes entries)
    (omega (arith, within, length-undone changes entries)) in
    let all_places : length after ≡ count = ap length cut ∙ length-take-le count places ends.places_within in
    untold-begun now left kept after count hold none (sym all) (sym all_places)

-- an end that was told for the first time
pub answered-back : (old new : PartState) → new ≡ record old { answered = true } → old.answered ≡ false →
    part_before Unanswered new ≡ old
answered-back old new is untold =
    ap (part_before Unanswered) is ∙ ap (λ told. let state : PartState = record old { answered = told } in state) (sym untold)

-- what holds anyway holds after an error
pub on_err : {T E : Type 0} (result : Result T E) (P : Type 0) → P → OnErr result P
on_err (Ok x) P holds = tt
on_err (Err e) P holds = holds
