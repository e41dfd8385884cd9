-- What becomes of a master's parts, and of the entries that it is to replay: versions stay within a bound.
use Rattle.std.proofs.Common.{ℕ, ◌≤◌, true, nat_lt, List, [], ◌∷◌, ◌++◌, map, length, Some}
use Rattle.std.specs.List.{All}
use Rattle.std.proofs.lemmas.List.Elements.{All-nil, All-cons, All-head, All-tail, All-push, All-append, All-map}
use Rattle.std.specs.Prelude.{drop, unwrap_or}
use Rattle.rc_model.specs.Model.{ServerId, Entry, Part, GrantedRange, Ownership, PartState, PartRow, knows_term, owns_term, grant}
use Rattle.rc_model.specs.Model.{insert_row, rows_in_order, awaited_row, new_part, begin_part, is_awaited, with_row, awaits, all_came}
use Rattle.rc_model.specs.Model.{entries_that_came, under_term, joined, joining, part_with_row, data_in, replay_in, put_data}
use Rattle.rc_model.specs.Model.{is_to_answer, answered_in}
use Rattle.rc_model.proofs.Tests.{either}
use Rattle.rc_step_laws.specs.Numbers.{VersionsUpTo, OwnershipWithin}
use Rattle.rc_step_laws.proofs.Entries.{All-one}

module _ (n : ℕ) where
  abbrev RowsWithin : List PartRow → Type 0
  RowsWithin rows = All (λ (row : PartRow). VersionsUpTo n (unwrap_or row.came [])) rows

  abbrev PartsWithin : List PartState → Type 0
  PartsWithin states = All (λ (state : PartState). RowsWithin state.rows) states

  no_entries : VersionsUpTo n []
  no_entries = All-nil (λ (entry : Entry). entry.version ≤ n)

  insert-within : (row : PartRow) (rows : List PartRow) → VersionsUpTo n (unwrap_or row.came []) → RowsWithin rows →
      RowsWithin (insert_row row rows)
  insert-within row [] p all = All-one (λ (one : PartRow). VersionsUpTo n (unwrap_or one.came [])) row p
  insert-within row (other ∷ rows) p all =
      either RowsWithin (nat_lt other.seg row.seg) (other ∷ insert_row row rows) (row ∷ other ∷ rows)
      (λ e. All-cons (λ (one : PartRow). VersionsUpTo n (unwrap_or one.came [])) other (insert_row row rows)
      (All-head (λ (one : PartRow). VersionsUpTo n (unwrap_or one.came [])) other rows all)
      (insert-within row rows p (All-tail (λ (one : PartRow). VersionsUpTo n (unwrap_or one.came [])) other rows all)))
      (λ e. All-cons (λ (one : PartRow). VersionsUpTo n (unwrap_or one.came [])) row (other ∷ rows) p all)

  awaited-within : (rows : List (ℕ × ServerId)) → RowsWithin (rows_in_order (map awaited_row rows))
  awaited-within [] = All-nil (λ (one : PartRow). VersionsUpTo n (unwrap_or one.came []))
  awaited-within (row ∷ rows) = insert-within (awaited_row row) (rows_in_order (map awaited_row rows)) no_entries (awaited-within rows)

  pub begin-within : (part : Part) (rows : List (ℕ × ServerId)) {own : Ownership} → OwnershipWithin n own →
      OwnershipWithin n (begin_part part rows own)
  begin-within part rows {own} h =
      either (OwnershipWithin n) (knows_term own part.term) own (record own { parts = own.parts ++ new_part part rows ∷ [] })
      (λ e. h) (λ e. record {
        replay = h.replay;
        parts = All-push (λ (state : PartState). RowsWithin state.rows)
            own.parts (new_part part rows) h.parts (awaited-within rows);
      })

  row-within : (seg : ℕ) (from : ServerId) (entries : List Entry) (rows : List PartRow) → VersionsUpTo n entries →
      RowsWithin rows → RowsWithin (with_row seg from entries rows)
  row-within seg from entries [] p all = all
  row-within seg from entries (row ∷ rows) p all =
      either RowsWithin (is_awaited seg from row) (record row { came = Some entries } ∷ rows) (row ∷ with_row seg from entries rows)
      (λ e. All-cons (λ (one : PartRow). VersionsUpTo n (unwrap_or one.came [])) (record row { came = Some entries })
      rows p (All-tail (λ (one : PartRow). VersionsUpTo n (unwrap_or one.came [])) row rows all))
      (λ e. All-cons (λ (one : PartRow). VersionsUpTo n (unwrap_or one.came [])) row (with_row seg from entries rows)
      (All-head (λ (one : PartRow). VersionsUpTo n (unwrap_or one.came [])) row rows all)
      (row-within seg from entries rows p (All-tail (λ (one : PartRow). VersionsUpTo n (unwrap_or one.came [])) row rows all)))

  came-within : (rows : List PartRow) → RowsWithin rows → VersionsUpTo n (entries_that_came rows)
  came-within [] all = no_entries
  came-within (row ∷ rows) all =
      All-append (λ (entry : Entry). entry.version ≤ n) (unwrap_or row.came []) (entries_that_came rows)
      (All-head (λ (one : PartRow). VersionsUpTo n (unwrap_or one.came [])) row rows all)
      (came-within rows (All-tail (λ (one : PartRow). VersionsUpTo n (unwrap_or one.came [])) row rows all))

  joined-within : (state : PartState) → RowsWithin state.rows → RowsWithin (joined state).rows
  joined-within state all = either (λ (after : PartState). RowsWithin after.rows) (all_came state.rows)
      (record state { rows = []; size = length (entries_that_came state.rows) }) state
      (λ e. All-nil (λ (one : PartRow). VersionsUpTo n (unwrap_or one.came []))) (λ e. all)

  joining-within : (state : PartState) → RowsWithin state.rows → VersionsUpTo n (joining state)
  joining-within state all =
      either (VersionsUpTo n) (all_came state.rows) (map (under_term state.part.term) (entries_that_came state.rows)) []
      (λ e. All-map (λ (entry : Entry). entry.version ≤ n) (under_term state.part.term) (entries_that_came state.rows)
      (came-within state.rows all)) (λ e. no_entries)

  data-within : (term seg : ℕ) (from : ServerId) (entries : List Entry) (states : List PartState) →
      VersionsUpTo n entries → PartsWithin states → PartsWithin (data_in term seg from entries states)
  data-within term seg from entries [] p all = all
  data-within term seg from entries (state ∷ states) p all =
      either PartsWithin (awaits term seg from state) (joined (part_with_row seg from entries state) ∷ states)
      (state ∷ data_in term seg from entries states)
      (λ e. All-cons (λ (one : PartState). RowsWithin one.rows) (joined (part_with_row seg from entries state)) states
      (joined-within (part_with_row seg from entries state)
      (row-within seg from entries state.rows p (All-head (λ (one : PartState). RowsWithin one.rows) state states
      all))) (All-tail (λ (one : PartState). RowsWithin one.rows) state states all))
      (λ e. All-cons (λ (one : PartState). RowsWithin one.rows) state (data_in term seg from entries states)
      (All-head (λ (one : PartState). RowsWithin one.rows) state states all)
      (data-within term seg from entries states p (All-tail (λ (one : PartState). RowsWithin one.rows) state states all)))

  replay-within : (term seg : ℕ) (from : ServerId) (entries : List Entry) (states : List PartState) →
      VersionsUpTo n entries → PartsWithin states → VersionsUpTo n (replay_in term seg from entries states)
  replay-within term seg from entries [] p all = no_entries
  replay-within term seg from entries (state ∷ states) p all =
      either (VersionsUpTo n) (awaits term seg from state) (joining (part_with_row seg from entries state))
      (replay_in term seg from entries states) (λ e. joining-within (part_with_row seg from entries state)
      (row-within seg from entries state.rows p (All-head (λ (one : PartState). RowsWithin one.rows) state states
      all)))
      (λ e. replay-within term seg from entries states p (All-tail (λ (one : PartState). RowsWithin one.rows) state states all))

  pub put_data-within : (term seg : ℕ) (from : ServerId) (entries : List Entry) {own : Ownership} → VersionsUpTo n entries →
      OwnershipWithin n own → OwnershipWithin n (put_data term seg from entries own)
  put_data-within term seg from entries {own} p h = record {
    replay = All-append (λ (entry : Entry). entry.version ≤ n) own.replay (replay_in term seg from entries own.parts)
        h.replay (replay-within term seg from entries own.parts p h.parts);
    parts = data-within term seg from entries own.parts p h.parts;
  }

  pub grant-within : (range : GrantedRange) {own : Ownership} → OwnershipWithin n own → OwnershipWithin n (grant range own)
  grant-within range {own} h =
      either (OwnershipWithin n) (owns_term own range.term) own (record own { grants = own.grants ++ range ∷ [] })
      (λ e. h) (λ e. record { replay = h.replay; parts = h.parts })

  pub rest-within : (entries : List Entry) → VersionsUpTo n entries → VersionsUpTo n (drop 1 entries)
  rest-within [] all = all
  rest-within (entry ∷ entries) all = All-tail (λ (one : Entry). one.version ≤ n) entry entries all

  pub answered-within : (durable : List Entry) (states : List PartState) → PartsWithin states → PartsWithin (answered_in durable states)
  answered-within durable [] all = all
  answered-within durable (state ∷ states) all =
      either PartsWithin (is_to_answer durable state) (record state { answered = true } ∷ states) (state ∷ answered_in durable states)
      (λ e. All-cons (λ (one : PartState). RowsWithin one.rows) (record state { answered = true }) states
      (All-head (λ (one : PartState). RowsWithin one.rows) state states all)
      (All-tail (λ (one : PartState). RowsWithin one.rows) state states all))
      (λ e. All-cons (λ (one : PartState). RowsWithin one.rows) state (answered_in durable states)
      (All-head (λ (one : PartState). RowsWithin one.rows) state states all)
      (answered-within durable states (All-tail (λ (one : PartState). RowsWithin one.rows) state states all)))
