-- How an index of what was made grows, entry by entry and message by message.
use Rattle.std.proofs.Common.{◌≡◌, ℕ, ◌+◌, ◌-◌, ◌<◌, ◌^◌, ◌≤◌, Bool, true, false, cond, ltb, ◌&&◌, List, [], ◌∷◌, ◌++◌}
use Rattle.std.proofs.Common.{Option, Some, None, refl, sym, ap, ◌∙◌, length, get_or, take, append_assoc, arith}
use Rattle.std.specs.Option.{option_to_list, option_map}
use Rattle.std.proofs.lemmas.List.{append-nil, take_more}
use Rattle.std.specs.Prelude.{slice_get}
use Rattle.std.specs.BTreeMap.{BTreeMap, get}
use Rattle.std.proofs.lemmas.Grind.{common_steps}
use Rattle.std.proofs.lemmas.Bool.Decides.{nat_tests}
use Rattle.std.proofs.lemmas.Bool.{cond_both, cond-false, le-ltb, ltb-false}
use Rattle.std.proofs.lemmas.Option.{slice_get_past}
use Rattle.rc_model.specs.Model.{ServerId, Entry, Message, is_server, made, entry_at, Ack, all_same, same_entry, agrees, all_agree}
use Rattle.rc_model.specs.Model.{is_one_entry}
use Rattle.rc_audit.specs.declared.places.PlaceKey.{PlaceKey}
use Rattle.rc_audit.specs.declared.places.Seen.{Seen}
use Rattle.rc_audit.specs.Places.{Summary, summary_at, summary_in, place_order, with_entry, with_sent, same_place, entry_of_run}
use Rattle.rc_audit.specs.Places.{is_alike, all_alike, summary_of, sent_at, NotesEntry, NotesSent, Indexes}

-- one more element of a list
pub taken_more : {X : Type 0} (xs : List X) (i : ℕ) (x : X) → i < length xs → x ≡ get_or xs i x → take (i + 1) xs ≡ take i xs ++ x ∷ []
taken_more xs i x within is = take_more xs i x within ∙ ap (λ y. take i xs ++ y ∷ []) (sym is)

pub and_assoc : (a b c : Bool) → (a && (b && c)) ≡ ((a && b) && c)
and_assoc true b c = refl
and_assoc false b c = refl

-- only what is sent for a place below this offset
abbrev pub sent_below : ℕ → (PlaceKey → Option Entry) → PlaceKey → Option Entry
sent_below n sent q = cond (ltb q.offset n) (sent q) None

-- of the entries that were sent together, the next one counts too
pub sent_below-next : (master : ServerId) (seg start : ℕ) (entries : List Entry) (i : ℕ) (entry : Entry)
    (q : PlaceKey) → slice_get entries i ≡ Some entry →
    sent_below (start + (i + 1)) (entry_of_run master seg start entries) q ≡ cond
    (same_place (record { master = master; seg = seg; offset = start + i }) q) (Some entry)
    (sent_below (start + i) (entry_of_run master seg start entries) q)
sent_below-next master seg start entries i entry q found = grind (arith, common_steps, nat_tests)

-- and when all of them count, nothing is left out
pub sent_below-all : (master : ServerId) (seg start : ℕ) (entries : List Entry) (n : ℕ) (q : PlaceKey) → length entries ≤ n →
    sent_below (start + n) (entry_of_run master seg start entries) q ≡ entry_of_run master seg start entries q
sent_below-all master seg start entries n q enough =
    cond_both (ltb q.offset (start + n)) (entry_of_run master seg start entries q) None (λ x. x ≡ entry_of_run master seg start entries q)
    (λ _. refl) (λ e. let past : start + n ≤ q.offset = ltb-false _ _ e in let none : slice_get entries
    (q.offset - start) ≡ None = slice_get_past entries (q.offset - start) (omega arith) in grind (arith, none))

-- ids with the same numbers are one id
pub id_from : {a b : ServerId} → a.index ≡ b.index → a.generation ≡ b.generation → a ≡ b
id_from {a} {b} index generation =
    let whole : ◌≡◌ {A = ServerId} (record { index = a.index; generation = a.generation })
    (record { index = b.index; generation = b.generation }) = cc in whole

-- places with the same master, segment and offset are one place
place_from : {a b : PlaceKey} → a.master ≡ b.master → a.seg ≡ b.seg → a.offset ≡ b.offset → a ≡ b
place_from {a} {b} master seg offset =
    let whole : ◌≡◌ {A = PlaceKey} (record { master = a.master; seg = a.seg; offset = a.offset })
    (record { master = b.master; seg = b.seg; offset = b.offset }) = cc in whole

pub same_place-true : (p q : PlaceKey) → same_place p q ≡ true → p ≡ q
same_place-true p q e =
    let index : p.master.index ≡ q.master.index = grind (arith, nat_tests) in
    let generation : p.master.generation ≡ q.master.generation = grind (arith, nat_tests) in
    let seg : p.seg ≡ q.seg = grind (arith, nat_tests) in
    let offset : p.offset ≡ q.offset = grind (arith, nat_tests) in
    place_from (id_from index generation) seg offset

-- one more entry, at a place for which none of these was noted yet
one_more : (new_q mid_q mid_p old_q old_p : Option Summary) (same : Bool) (now_q was_q was_p : Option Entry) (entry : Entry) →
    new_q ≡ cond same (Some (with_entry mid_p entry)) mid_q → mid_q ≡ with_sent old_q was_q → mid_p ≡ with_sent old_p was_p → was_p ≡ None →
    now_q ≡ cond same (Some entry) was_q → (same ≡ true → old_p ≡ old_q) → new_q ≡ with_sent old_q now_q
one_more new_q mid_q mid_p old_q old_p true now_q was_q was_p entry new_is mid_is place_is none now_is alike =
    let old_is : old_p ≡ old_q = alike refl in
    let placed : mid_p ≡ old_q = place_is ∙ ap (λ x. with_sent old_p x) none ∙ old_is in
    new_is ∙ ap (λ x. Some (with_entry x entry)) placed ∙ sym (ap (λ x. with_sent old_q x) now_is)
one_more new_q mid_q mid_p old_q old_p false now_q was_q was_p entry new_is mid_is place_is none now_is alike =
    new_is ∙ mid_is ∙ sym (ap (λ x. with_sent old_q x) now_is)

-- nothing was noted for the place of the next entry
sent_below-here : (n : ℕ) (sent : PlaceKey → Option Entry) (q : PlaceKey) → q.offset ≡ n → sent_below n sent q ≡ None
sent_below-here n sent q at = cond-false (ltb q.offset n) (sent q) None (le-ltb q.offset n (omega arith))

-- the next of the entries that were sent together
pub notes_more : (old mid new : BTreeMap PlaceKey Seen) (place : PlaceKey) (start : ℕ) (entries : List Entry) (i : ℕ) (entry : Entry) →
    slice_get entries i ≡ Some entry → place.offset ≡ start + i → place.offset < 2 ^ 64 →
    NotesSent old mid (sent_below (start + i) (entry_of_run place.master place.seg start entries)) →
    NotesEntry mid new place entry →
    NotesSent old new (sent_below (start + (i + 1)) (entry_of_run place.master place.seg start entries))
notes_more old mid new place start entries i entry found at fits before now = record {
  each = λ q h.
      let here : PlaceKey = record { master = place.master; seg = place.seg; offset = start + i } in
      let is_here : here ≡ place = place_from refl refl (sym at) in
      let run : PlaceKey → Option Entry = entry_of_run place.master place.seg start entries in
      one_more (summary_at new q) (summary_at mid q) (summary_at mid place) (summary_at old q) (summary_at old place) (same_place place q)
      (sent_below (start + (i + 1)) run q) (sent_below (start + i) run q) (sent_below (start + i) run place) entry
      (now.each q) (before.each q h) (before.each place fits) (sent_below-here (start + i) run place at)
      (sent_below-next place.master place.seg start entries i entry q found ∙
      ap (λ p. cond (same_place p q) (Some entry) (sent_below (start + i) run q)) is_here)
      (λ e. ap (λ p. summary_at old p) (same_place-true place q e));
}

-- what a list of messages says of a place, with one more message
made-push : (sent : List Message) (message : Message) (q : PlaceKey) →
    made (sent ++ message ∷ []) q.master q.seg q.offset ≡ made sent q.master q.seg q.offset ++
    option_to_list (sent_at message q)
made-push [] message q =
    cond_both (is_server q.master message.from) (entry_at message.body q.seg q.offset) None
    (λ x. cond (is_server q.master message.from) (option_to_list (entry_at message.body q.seg q.offset) ++ []) [] ≡ option_to_list x)
    (λ e. rw e (append-nil (option_to_list (entry_at message.body q.seg q.offset)))) (λ e. rw e refl)
made-push (first ∷ sent) message q =
    let later : made (sent ++ message ∷ []) q.master q.seg q.offset ≡ made sent q.master q.seg q.offset ++
    option_to_list (sent_at message q) = made-push sent message q in
    both_first (is_server q.master first.from) (option_to_list (entry_at first.body q.seg q.offset))
    (made (sent ++ message ∷ []) q.master q.seg q.offset) (made sent q.master q.seg q.offset)
    (option_to_list (sent_at message q)) later
  where
    both_first : (b : Bool) (one more some last : List Entry) → more ≡ some ++ last →
        cond b (one ++ more) more ≡ cond b (one ++ some) some ++ last
    both_first true one more some last e = ap (λ x. one ++ x) e ∙ sym (append_assoc one some last)
    both_first false one more some last e = e

all_alike-push : (entry : Entry) (entries : List Entry) (other : Entry) →
    all_alike entry (entries ++ other ∷ []) ≡ (all_alike entry entries && is_alike entry other)
all_alike-push entry [] other = grind (arith, common_steps)
all_alike-push entry (first ∷ entries) other = rw (all_alike-push entry entries other)
    (and_assoc (is_alike entry first) (all_alike entry entries) (is_alike entry other))

all_same-push : (entry : Entry) (entries : List Entry) (other : Entry) →
    all_same entry (entries ++ other ∷ []) ≡ (all_same entry entries && same_entry entry other)
all_same-push entry [] other = grind (arith, common_steps)
all_same-push entry (first ∷ entries) other = rw (all_same-push entry entries other)
    (and_assoc (same_entry entry first) (all_same entry entries) (same_entry entry other))

-- the summary of some entries and one more
summary_of-push : (entries : List Entry) (entry : Entry) → summary_of (entries ++ entry ∷ []) ≡ Some (with_entry (summary_of entries) entry)
summary_of-push [] entry = refl
summary_of-push (first ∷ entries) entry =
    let alike = all_alike-push first entries entry in
    let same = all_same-push first entries entry in cc

summary_of-sent : (entries : List Entry) (more : Option Entry) →
    summary_of (entries ++ option_to_list more) ≡ with_sent (summary_of entries) more
summary_of-sent entries None = ap (λ x. summary_of x) (append-nil entries)
summary_of-sent entries (Some entry) = summary_of-push entries entry

-- the index with what one more message sends
pub indexes_more : (old new : BTreeMap PlaceKey Seen) (sent : List Message) (i : ℕ) (message : Message) →
    i < length sent → message ≡ get_or sent i message →
    Indexes old (take i sent) → NotesSent old new (sent_at message) → Indexes new (take (i + 1) sent)
indexes_more old new sent i message within is before now = record {
  each = λ q h.
      now.each q h ∙ ap (λ x. with_sent x (sent_at message q)) (before.each q h) ∙
      sym (summary_of-sent (made (take i sent) q.master q.seg q.offset) (sent_at message q))
      ∙ ap (λ x. summary_of x) (sym (made-push (take i sent) message q)) ∙
      ap (λ x. summary_of (made x q.master q.seg q.offset)) (sym (taken_more sent i message within is));
}

-- What a summary tells

-- exactly one entry, once or more often
abbrev pub one_way_in : Option Summary → Bool
one_way_in None = false
one_way_in (Some s) = s.same

is_one_entry-summary : (entries : List Entry) → is_one_entry entries ≡ one_way_in (summary_of entries)
is_one_entry-summary [] = refl
is_one_entry-summary (entry ∷ entries) = refl

-- all that there is is the acknowledged write
abbrev pub agree_in : Ack → Option Summary → Bool
agree_in ack None = true
agree_in ack (Some s) = s.alike && agrees ack s.first

agrees-alike : (ack : Ack) (entry other : Entry) → agrees ack entry ≡ true → agrees ack other ≡ is_alike entry other
agrees-alike ack entry other e =
    let term : entry.term ≡ ack.term = grind (arith, nat_tests) in
    let table : entry.table ≡ ack.table = grind (arith, nat_tests) in
    let key : entry.key ≡ ack.key = grind (arith, nat_tests) in
    let version : entry.version ≡ ack.version = grind (arith, nat_tests) in
    rw (← term, ← table, ← key, ← version) (grind (arith, nat_tests))

all_agree-alike : (ack : Ack) (entry : Entry) (entries : List Entry) → agrees ack entry ≡ true →
    all_agree ack entries ≡ all_alike entry entries
all_agree-alike ack entry [] e = refl
all_agree-alike ack entry (other ∷ entries) e = rw (agrees-alike ack entry other e, all_agree-alike ack entry entries e) refl

all_agree-summary : (ack : Ack) (entries : List Entry) → all_agree ack entries ≡ agree_in ack (summary_of entries)
all_agree-summary ack [] = refl
all_agree-summary ack (entry ∷ entries) =
    both (agrees ack entry) (all_agree ack entries) (all_alike entry entries) (λ e. all_agree-alike ack entry entries e)
  where
    both : (agree rest alike : Bool) → (agree ≡ true → rest ≡ alike) → (agree && rest) ≡ (alike && agree)
    both true rest true same = same refl
    both true rest false same = same refl
    both false rest true same = refl
    both false rest false same = refl

pub one_way_told : (sent : List Message) (m : ServerId) (s o : ℕ) (found : Option Summary) →
    found ≡ summary_of (made sent m s o) → one_way_in found ≡ is_one_entry (made sent m s o)
one_way_told sent m s o found is = ap (λ x. one_way_in x) is ∙ sym (is_one_entry-summary (made sent m s o))

pub agree_told : (sent : List Message) (m : ServerId) (s o : ℕ) (ack : Ack) (found : Option Summary) →
    found ≡ summary_of (made sent m s o) → agree_in ack found ≡ all_agree ack (made sent m s o)
agree_told sent m s o ack found is = ap (λ x. agree_in ack x) is ∙ sym (all_agree-summary ack (made sent m s o))

pub and_yes : (a b : Bool) → b ≡ true → (a && b) ≡ a
and_yes true b e = e
and_yes false b e = refl

pub and_no : (a b : Bool) → b ≡ false → (a && b) ≡ false
and_no true b e = e
and_no false b e = refl

-- what the index finds at a place
pub seen_at-summary : (index : BTreeMap PlaceKey Seen) (sent : List Message) (q : PlaceKey) (found : Option Seen) →
    Indexes index sent → q.offset < 2 ^ 64 →
    found ≡ get place_order index q → option_map summary_in found ≡ summary_of (made sent q.master q.seg q.offset)
seen_at-summary index sent q found indexed fits is = ap (λ x. option_map summary_in x) is ∙ indexed.each q fits
