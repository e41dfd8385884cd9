-- The tables beside the notes, with one more entry, and with more of them durable.
use Rattle.std.proofs.Common.{◌≡◌, ℕ, ◌+◌, ◌-◌, ◌<◌, ◌≤◌, Bool, true, false, cond, filter, nat_lt, nat_eq, List, [], ◌∷◌, ◌++◌, length}
use Rattle.std.proofs.Common.{take, drop, sym, ap, subst, ◌∙◌, refl, arith, length-append, length-take, zero, suc}
use Rattle.std.proofs.lemmas.List.{length-take-le, take-append-le, take-take, take_all}
use Rattle.std.specs.List.Sorted.{IsNonDecreasingBy}
use Rattle.std.specs.Prelude.{slice_index_or}
use Rattle.std.specs.Option.{IsSome}
use Rattle.indexmap.specs.IndexMap.{get}
use Rattle.rc_model.specs.Model.{Entry, count_under}
use Rattle.rc_ownership.specs.declared.highs.Slot.{Slot}
use Rattle.rc_ownership.specs.Counts.{CountTable, count_in, AreKnown}
use Rattle.rc_ownership.specs.Highs.{with_high, highs_of}
use Rattle.rc_ownership.specs.Marks.{marked}
use Rattle.rc_ownership.specs.Slots.{HighTable, highs_in, same_slot, slot_of}
use Rattle.rc_ownership.specs.Notes.{Noted, AreTablesOf}
use Rattle.rc_ownership.proofs.RecordHighs.{highs_of-push, highs_of-take, highs_from-rise}
use Rattle.rc_ownership.proofs.Marking.{marked-between, marked-le}

known-push : (old new : CountTable) (noted : List Entry) (entry : Entry) → AreKnown old noted →
    ((term : ℕ) → IsSome (get nat_eq old term) → IsSome (get nat_eq new term)) → IsSome (get nat_eq new entry.term) →
    AreKnown new (noted ++ entry ∷ [])
known-push old new [] entry known kept here zero other within = here
known-push old new [] entry known kept here (suc place) other within = absurd (omega arith)
known-push old new (first ∷ noted) entry known kept here zero other within = kept first.term (known 0 other (omega arith))
known-push old new (first ∷ noted) entry known kept here (suc place) other within =
    known-push old new noted entry (λ p o w. known (suc p) o (omega arith)) kept here place other (omega arith)

-- one more entry
pub tables-push : {A : Type 0} (noted : List Entry) (durable : ℕ) (highs new_highs : HighTable A)
    (counts new_counts : CountTable) (entry : Entry) (marks : List Bool) (mark : Bool) →
    AreTablesOf noted marks durable highs counts →
    ((other : Slot) → highs_in new_highs other ≡ cond (same_slot (slot_of entry) other)
    (with_high (length noted) entry.version (highs_in highs other)) (highs_in highs other)) →
    IsSome (get nat_eq new_counts entry.term) → ((other : ℕ) → count_in new_counts other ≡ count_in counts other) →
    ((other : ℕ) → IsSome (get nat_eq counts other) → IsSome (get nat_eq new_counts other)) →
    AreTablesOf (noted ++ entry ∷ []) (marks ++ mark ∷ []) durable new_highs new_counts
tables-push noted durable highs new_highs counts new_counts entry marks mark tables added known same kept = record {
  within = omega (arith, length-append noted (entry ∷ []), tables.within);
  each_marked = omega (arith, length-append noted (entry ∷ []), length-append marks (mark ∷ []), tables.each_marked);
  highs_are = λ slot.
      added slot
      ∙ ap (λ list. cond (same_slot (slot_of entry) slot) (with_high (length noted) entry.version list) list) (tables.highs_are slot)
      ∙ sym (highs_of-push slot.term slot.table slot.key noted entry);
  counts_are = λ term.
      let some : durable ≤ length marks = omega (arith, tables.within, tables.each_marked) in
      same term ∙ tables.counts_are term
      ∙ ap (λ es. count_under term (marked (take durable marks) es)) (sym (take-append-le durable noted (entry ∷ []) tables.within))
      ∙ ap (λ ms. count_under term (marked ms (take durable (noted ++ entry ∷ []))))
      (sym (take-append-le durable marks (mark ∷ []) some));
  known = known-push counts new_counts noted entry tables.known kept known;
}

-- more durable entries
pub tables-durable : {A : Type 0} (noted : List Entry) (marks : List Bool) (durable count : ℕ) (highs : HighTable A)
    (counts new_counts : CountTable) →
    AreTablesOf noted marks durable highs counts → durable ≤ count → count ≤ length noted →
    ((term : ℕ) → count_in new_counts term ≡ count_in counts term + count_under term
    (marked (take (count - durable) (drop durable marks)) (take (count - durable) (drop durable noted)))) →
    ((term : ℕ) → IsSome (get nat_eq counts term) → IsSome (get nat_eq new_counts term)) →
    AreTablesOf noted marks count highs new_counts
tables-durable noted marks durable count highs counts new_counts tables risen within counted kept = record {
  within = within;
  each_marked = tables.each_marked;
  highs_are = tables.highs_are;
  counts_are = λ term.
      omega (arith, counted term, tables.counts_are term, marked-between term marks noted durable count tables.each_marked risen);
  known = λ place other w. kept (slice_index_or noted place other).term (tables.known place other w);
}

-- room for the counts of those that become durable
pub counts_fit : {A : Type 0} (noted : List Entry) (marks : List Bool) (durable count : ℕ) (highs : HighTable A)
    (counts : CountTable) →
    AreTablesOf noted marks durable highs counts → durable ≤ count → (term : ℕ) →
    count_in counts term + length (take (count - durable) (drop durable noted)) ≤ count
counts_fit noted marks durable count highs counts tables risen term =
    omega (arith, tables.counts_are term, marked-le term durable marks noted, length-take (count - durable) (drop durable noted))

-- fewer durable entries
pub tables-undurable : {A : Type 0} (noted : List Entry) (marks : List Bool) (durable count : ℕ) (highs : HighTable A)
    (counts new_counts : CountTable) →
    AreTablesOf noted marks durable highs counts → count ≤ durable →
    ((term : ℕ) → count_in new_counts term ≡ count_in counts term - count_under term
    (marked (take (durable - count) (drop count marks)) (take (durable - count) (drop count noted)))) →
    ((term : ℕ) → IsSome (get nat_eq counts term) → IsSome (get nat_eq new_counts term)) →
    AreTablesOf noted marks count highs new_counts
tables-undurable noted marks durable count highs counts new_counts tables fallen counted kept = record {
  within = omega (arith, tables.within);
  each_marked = tables.each_marked;
  highs_are = tables.highs_are;
  counts_are = λ term.
      omega (arith, counted term, tables.counts_are term, marked-between term marks noted count durable tables.each_marked fallen);
  known = λ place other w. kept (slice_index_or noted place other).term (tables.known place other w);
}

-- Notes that are dropped

known-take : (counts : CountTable) (rest : List Entry) (entry : Entry) → AreKnown counts (rest ++ entry ∷ []) → AreKnown counts rest
known-take counts [] entry known place other within = absurd (omega arith)
known-take counts (first ∷ rest) entry known zero other within = known 0 other (omega arith)
known-take counts (first ∷ rest) entry known (suc place) other within =
    known-take counts rest entry (λ p o w. known (suc p) o (omega arith)) place other (omega arith)

-- the highs without those of the last entry
highs-drop : {A : Type 0} (noted rest : List Entry) (entry : Entry) (marks : List Bool) (durable : ℕ) (highs new_highs : HighTable A)
    (counts : CountTable) →
    AreTablesOf noted marks durable highs counts → noted ≡ rest ++ entry ∷ [] →
    ((other : Slot) → highs_in new_highs other ≡ cond (same_slot (slot_of entry) other)
    (filter (λ high. nat_lt high.0 (length rest)) (highs_in highs other)) (highs_in highs other)) →
    (slot : Slot) → highs_in new_highs slot ≡ highs_of slot.term slot.table slot.key rest
highs-drop noted rest entry marks durable highs new_highs counts tables is dropped slot =
    dropped slot ∙ by (same_slot (slot_of entry) slot) refl
  where
    among : filter (λ high. nat_lt high.0 (length rest)) (highs_in highs slot) ≡ highs_of slot.term slot.table slot.key rest
    among =
        ap (filter (λ high. nat_lt high.0 (length rest))) (tables.highs_are slot)
        ∙ sym (highs_of-take slot.term slot.table slot.key noted (length rest))
        ∙ ap (highs_of slot.term slot.table slot.key)
        (ap (take (length rest)) is ∙ take-append-le (length rest) rest (entry ∷ []) (omega arith) ∙
        take_all (length rest) rest (omega arith))

    by : (b : Bool) → same_slot (slot_of entry) slot ≡ b →
        cond b (filter (λ high. nat_lt high.0 (length rest)) (highs_in highs slot)) (highs_in highs slot) ≡ highs_of
        slot.term slot.table slot.key rest
    by true here = among
    by false other =
        tables.highs_are slot
        ∙ ap (highs_of slot.term slot.table slot.key) is
        ∙ highs_of-push slot.term slot.table slot.key rest entry
        ∙ ap (λ b. cond b (with_high (length rest) entry.version (highs_of slot.term slot.table slot.key rest))
        (highs_of slot.term slot.table slot.key rest)) other

-- the last entry, which isn't durable, is dropped
pub tables-drop : {A : Type 0} (noted rest : List Entry) (entry : Entry) (marks : List Bool) (durable : ℕ)
    (highs new_highs : HighTable A) (counts : CountTable) →
    AreTablesOf noted marks durable highs counts → noted ≡ rest ++ entry ∷ [] → durable < length noted →
    ((other : Slot) → highs_in new_highs other ≡ cond (same_slot (slot_of entry) other)
    (filter (λ high. nat_lt high.0 (length rest)) (highs_in highs other)) (highs_in highs other)) →
    AreTablesOf rest (take (length rest) marks) durable new_highs counts
tables-drop noted rest entry marks durable highs new_highs counts tables is undurable dropped = record {
  within = within;
  highs_are = highs-drop noted rest entry marks durable highs new_highs counts tables is dropped;
  each_marked = length-take-le (length rest) marks (omega (arith, many, tables.each_marked));
  counts_are = λ term.
      tables.counts_are term
      ∙ ap (λ entries. count_under term (marked (take durable marks) (take durable entries))) is
      ∙ ap (λ entries. count_under term (marked (take durable marks) entries)) (take-append-le durable rest (entry ∷ []) within)
      ∙ ap (λ ms. count_under term (marked ms (take durable rest))) (sym (take-take durable (length rest) marks within));
  known = known-take counts rest entry (subst (AreKnown counts) is tables.known);
}
  where
    within : durable ≤ length rest
    within = omega (arith, undurable, ap length is, length-append rest (entry ∷ []))

    many : length rest ≤ length noted
    many = omega (arith, ap length is, length-append rest (entry ∷ []))

-- the highs of a slot are in order of place
pub highs_rise : {A : Type 0} (noted : List Entry) (marks : List Bool) (durable : ℕ) (highs : HighTable A)
    (counts : CountTable) (slot : Slot) → AreTablesOf noted marks durable highs counts →
    IsNonDecreasingBy (λ high. high.0) (highs_in highs slot)
highs_rise noted marks durable highs counts slot tables =
    subst (IsNonDecreasingBy (λ high. high.0)) (sym (tables.highs_are slot)) (highs_from-rise slot.term slot.table slot.key 0 0 noted)

pub same_notes : (one other : Noted) → one.noted ≡ other.noted → one.replayed ≡ other.replayed → one.durable ≡ other.durable →
    one.noted_before ≡ other.noted_before → one.replayed_before ≡ other.replayed_before →
    one.durable_before ≡ other.durable_before → one ≡ other
same_notes one other p m q r s t j = record {
  noted = p j;
  replayed = m j;
  durable = q j;
  noted_before = r j;
  replayed_before = s j;
  durable_before = t j;
}
