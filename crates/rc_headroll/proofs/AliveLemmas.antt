-- What was found of a log's segments stays so while the log goes on.
use Rattle.std.proofs.Common.{◌≡◌, ◌⊎◌, inl, inr, ℕ, zero, suc, ◌+◌, ◌-◌, ◌<◌, ◌≤◌, Bool, true, false, nat_eq, ◌&&◌, not, List, []}
use Rattle.std.proofs.Common.{◌∷◌, ◌++◌, length, map, take, set, get_or, slice_get, slice_set, Option, Some, None, replicate}
use Rattle.std.proofs.Common.{refl, sym, ap, ◌∙◌, subst, arith, length-append, cond, ◌||◌}
use Rattle.std.proofs.lemmas.Bool.{eq-eqb, ne_eqb}
use Rattle.std.proofs.lemmas.List.{take-append-le, append-nil, map-append}
use Rattle.std.proofs.lemmas.List.Folds.{list_any-append}
use Rattle.rc_types.specs.declared.entries.Entry.{Entry}
use Rattle.rc_model.specs.Model.{ServerId, put, Segment, new_segment, with_entry, Log, LogPlace, places_in, places_to, places_of}
use Rattle.rc_model.specs.Model.{entries_of, with_segment, has_segment, opens_head, appends, append_fault, is_outdated}
use Rattle.rc_model.proofs.Tables.{put_each, put-same, put-other}
use Rattle.rc_model.proofs.LogParts.{places_to-agrees}
use Rattle.rc_model.proofs.Numbering.{places-push}
use Rattle.rc_config.specs.Lists.{segment_at}
use Rattle.rc_config.proofs.SegmentTables.{segment_at-read, segment_at-past}
use Rattle.rc_ownership.specs.Groups.{group_of, IsAliveAt}
use Rattle.rc_ownership.specs.Slots.{slot_of}
use Rattle.rc_headroll.specs.Alive.{has_alive, IsFound, entries_in, AreFound}
use Rattle.rc_headroll.specs.LogData.{LogData, log_of}
use Rattle.rc_headroll.specs.Soundness.{IsSound}
use Rattle.rc_headroll.specs.declared.alive.AliveEntry.{AliveEntry}
use Rattle.rc_headroll.proofs.LogTables.{log_of-set}
use Rattle.rc_headroll.proofs.LogChanges.{seg_place, append-possible, appended, opened-is}

-- of each segment of a log of which one was found
abbrev pub AreFoundOf : Log → List (Option AliveEntry) → Type 0
AreFoundOf log found = (seg : ℕ) (one : AliveEntry) → slice_get found seg ≡ Some (Some one) →
    IsFound (entries_of log) (log.segments seg).entries one

-- Logs of the same entries

found-agrees : (old new : Log) (found : List (Option AliveEntry)) → entries_of new ≡ entries_of old →
    ((seg : ℕ) (durable : List Entry) (group : ℕ) → has_alive durable group (old.segments seg).entries ≡ true →
    has_alive durable group (new.segments seg).entries ≡ true) →
    AreFoundOf old found → AreFoundOf new found
found-agrees old new found same more are = λ seg one at.
    let was : IsFound (entries_of old) (old.segments seg).entries one = are seg one at in
    record {
      within = subst (λ (all : List Entry). one.durable ≤ length all) (sym same) was.within;
      alive = subst (λ (all : List Entry). has_alive (take one.durable all) one.group (new.segments seg).entries ≡ true) (sym same)
          (more seg (take one.durable (entries_of old)) one.group was.alive);
    }

-- a segment is written that has the entries of the one that stood there
found-put : (log : Log) (seg : ℕ) (x : Segment) (found : List (Option AliveEntry)) →
    x.entries ≡ (log.segments seg).entries → AreFoundOf log found → AreFoundOf (with_segment seg x log) found
found-put log seg x found same are =
    let each : (k : ℕ) → (put log.segments seg x k).entries ≡ (log.segments k).entries =
    put_each (λ k (s : Segment). s.entries ≡ (log.segments k).entries) log.segments seg x same (λ k. refl) in
    let all : entries_of (with_segment seg x log) ≡ entries_of log =
    ap (map (λ (p : LogPlace). p.entry)) (places_to-agrees log.segments (put log.segments seg x) log.head (λ k _. each k)) in
    found-agrees log (with_segment seg x log) found all
    (λ k durable group alive. ap (has_alive durable group) (each k) ∙ alive) are

pub found-set : (kept : LogData) (place seg : ℕ) (x was : Segment) (found : List (Option AliveEntry)) → seg ≡ place + 1 →
    place < length kept.segments → was ≡ get_or kept.segments place was → x.entries ≡ was.entries →
    AreFound kept.segments found → AreFound (set kept.segments place x) found
found-set kept place seg x was found e inside read same are = record {
  each = subst (λ (log : Log). AreFoundOf log found) (sym (log_of-set kept place x seg e inside))
      (found-put (log_of kept) seg x found
      (same ∙ ap (λ (s : Segment). s.entries) (segment_at-read kept.segments seg place was e inside read)) are.each);
}

pub found-written : (kept : LogData) (seg from : ℕ) (x was : Segment) (found : List (Option AliveEntry)) →
    true ≡ has_segment (log_of kept) seg → from ≡ seg → was ≡ get_or kept.segments (from - 1) was → x.entries ≡ was.entries →
    AreFound kept.segments found → AreFound (set kept.segments (from - 1) x) found
found-written kept seg from x was found has is read same are =
    let at = seg_place kept seg from has is in
    found-set kept (from - 1) seg x was found at.0 at.1 read same are

-- One more entry

alive-more : (durable : List Entry) (group : ℕ) (entries more : List (Entry × Bool)) →
    has_alive durable group entries ≡ true → has_alive durable group (entries ++ more) ≡ true
alive-more durable group entries more alive =
    list_any-append (λ one. nat_eq (group_of (slot_of one.0)) group && not (is_outdated durable one.0)) entries more
    ∙ ap (λ b. b || has_alive durable group more) alive

found-grown : (old new : Log) (rest : List Entry) (found : List (Option AliveEntry)) → entries_of new ≡ entries_of old ++ rest →
    ((seg : ℕ) (durable : List Entry) (group : ℕ) → has_alive durable group (old.segments seg).entries ≡ true →
    has_alive durable group (new.segments seg).entries ≡ true) →
    AreFoundOf old found → AreFoundOf new found
found-grown old new rest found grown more are = λ seg one at.
    let was : IsFound (entries_of old) (old.segments seg).entries one = are seg one at in
    let first : take one.durable (entries_of new) ≡ take one.durable (entries_of old) =
    ap (take one.durable) grown ∙ take-append-le one.durable (entries_of old) rest was.within in
    record {
      within = omega (arith, was.within, ap length grown, length-append (entries_of old) rest);
      alive = subst (λ (all : List Entry). has_alive all one.group (new.segments seg).entries ≡ true) (sym first)
          (more seg (take one.durable (entries_of old)) one.group was.alive);
    }

found-appends : (log : Log) (entry : Entry) (client : Bool) (found : List (Option AliveEntry)) → 0 < log.head →
    AreFoundOf log found → AreFoundOf (appends entry client log) found
found-appends log entry client found some are =
    let grown : Segment = with_entry entry client (log.segments log.head) in
    let place : LogPlace = record { seg = log.head; offset = length (log.segments log.head).entries; entry = entry; client = client } in
    let all : entries_of (appends entry client log) ≡ entries_of log ++ entry ∷ [] =
    ap (map (λ (p : LogPlace). p.entry)) (places-push log.segments log.head entry client some)
    ∙ map-append (λ (p : LogPlace). p.entry) (places_of log) (place ∷ []) in
    found-grown log (appends entry client log) (entry ∷ []) found all
    (put_each (λ k (s : Segment). (durable : List Entry) (group : ℕ) → has_alive durable group (log.segments k).entries ≡ true →
    has_alive durable group s.entries ≡ true) log.segments log.head grown
    (λ durable group alive. alive-more durable group (log.segments log.head).entries ((entry, client) ∷ []) alive)
    (λ k durable group alive. alive))
    are

pub found-pushed : (kept : LogData) (place passed entries : ℕ) (entry : Entry) (client : Bool) (x was : Segment)
    (found : List (Option AliveEntry)) → IsSound (log_of kept) passed entries →
    append_fault (log_of kept) ≡ None → place ≡ length kept.segments - 1 → was ≡ get_or kept.segments place was →
    x ≡ with_entry entry client was → AreFound kept.segments found → AreFound (set kept.segments place x) found
found-pushed kept place passed entries entry client x was found sound possible is read e are = record {
  each = subst (λ (log : Log). AreFoundOf log found)
      (sym (appended kept place passed entries entry client x was sound possible is read e))
      (found-appends (log_of kept) entry client found (append-possible (log_of kept) passed entries sound possible).0 are.each);
}

-- One more segment

entries-opened : (log : Log) (digest : List ℕ) (ids : List ServerId) → entries_of (opens_head log digest ids) ≡ entries_of log
entries-opened log digest ids =
    let fresh : Segment = new_segment (log.head + 1) digest ids in
    let new : ℕ → Segment = put log.segments (log.head + 1) fresh in
    let below : places_to new log.head ≡ places_to log.segments log.head =
    places_to-agrees log.segments new log.head (λ k most. ap (λ (s : Segment). s.entries)
    (put-other log.segments (log.head + 1) fresh (ne_eqb (log.head + 1) k (λ same. omega (arith, same, most))))) in
    let next : log.head + 1 ≡ suc log.head = omega arith in
    let last : (new (suc log.head)).entries ≡ [] = ap (λ k. (new k).entries) (sym next) ∙
    ap (λ (s : Segment). s.entries) (put-same log.segments (log.head + 1)) in
    let places : places_to new (log.head + 1) ≡ places_to log.segments log.head =
    ap (places_to new) next ∙ (ap (λ entries. places_to new log.head ++ places_in (suc log.head) 0 entries) last
    ∙ (append-nil (places_to new log.head) ∙ below)) in
    ap (map (λ (p : LogPlace). p.entry)) places

found-opens : (log : Log) (digest : List ℕ) (ids : List ServerId) (found : List (Option AliveEntry)) →
    (log.segments (log.head + 1)).entries ≡ [] → AreFoundOf log found → AreFoundOf (opens_head log digest ids) found
found-opens log digest ids found none are =
    found-agrees log (opens_head log digest ids) found (entries-opened log digest ids)
    (put_each (λ k (s : Segment). (durable : List Entry) (group : ℕ) → has_alive durable group (log.segments k).entries ≡ true →
    has_alive durable group s.entries ≡ true) log.segments (log.head + 1) (new_segment (log.head + 1) digest ids)
    (λ durable group alive. sym (ap (has_alive durable group) none) ∙ alive) (λ k durable group alive. alive))
    are

pub found-opened : (kept : LogData) (digest : List ℕ) (ids : List ServerId) (x : Segment) (segments : List Segment)
    (seg : ℕ) (found : List (Option AliveEntry)) → seg ≡ length kept.segments + 1 →
    x ≡ new_segment seg digest ids → segments ≡ kept.segments ++ x ∷ [] → AreFound kept.segments found →
    AreFound segments found
found-opened kept digest ids x segments seg found at e is are = record {
  each = subst (λ (log : Log). AreFoundOf log found) (sym (opened-is kept digest ids x segments seg at e is))
      (found-opens (log_of kept) digest ids found
      (ap (λ (s : Segment). s.entries) (segment_at-past kept.segments (length kept.segments + 1) (omega arith))) are.each);
}

-- One more is found

pub found-none : (segments : List Segment) (found : List (Option AliveEntry)) → found ≡ [] → AreFound segments found
found-none segments found none = rw none (record { each = λ seg one at. cc })

alive-at : (durable : List Entry) (entries : List (Entry × Bool)) (offset : ℕ) (one : Entry × Bool) →
    slice_get entries offset ≡ Some one → is_outdated durable one.0 ≡ false →
    has_alive durable (group_of (slot_of one.0)) entries ≡ true
alive-at durable [] offset one at alive = cc
alive-at durable (first ∷ entries) zero one at alive =
    let same : first ≡ one = cc in
    ap (λ (it : Entry × Bool). (nat_eq (group_of (slot_of it.0)) (group_of (slot_of one.0)) && not (is_outdated durable it.0))
    || has_alive durable (group_of (slot_of one.0)) entries) same
    ∙ ap (λ b. (b && not (is_outdated durable one.0)) || has_alive durable (group_of (slot_of one.0)) entries)
    (eq-eqb (group_of (slot_of one.0)) (group_of (slot_of one.0)) refl)
    ∙ ap (λ b. not b || has_alive durable (group_of (slot_of one.0)) entries) alive
alive-at durable (first ∷ entries) (suc offset) one at alive =
    ap (λ b. (nat_eq (group_of (slot_of first.0)) (group_of (slot_of one.0)) && not (is_outdated durable first.0)) || b)
    (alive-at durable entries offset one at alive)
    ∙ or-true (nat_eq (group_of (slot_of first.0)) (group_of (slot_of one.0)) && not (is_outdated durable first.0))
  where
    or-true : (b : Bool) → (b || true) ≡ true
    or-true true = refl
    or-true false = refl

pub found-at : (all : List Entry) (entries : List (Entry × Bool)) (found : AliveEntry) (one : Entry × Bool) →
    found.durable ≤ length all → IsAliveAt (take found.durable all) entries found.offset →
    slice_get entries found.offset ≡ Some one → found.group ≡ group_of (slot_of one.0) → IsFound all entries found
found-at all entries found one within alive at group = record {
  within = within;
  alive = ap (λ g. has_alive (take found.durable all) g entries) group
      ∙ alive-at (take found.durable all) entries found.offset one at (alive.1 one at);
}

set-either : {X : Type 0} (xs : List X) (place other : ℕ) (x y : X) → slice_get (slice_set xs place x) other ≡ Some y →
    ((place ≡ other) × (x ≡ y)) ⊎ (slice_get xs other ≡ Some y)
set-either [] place other x y e = inr e
set-either (first ∷ xs) zero zero x y e = inl (refl, cc)
set-either (first ∷ xs) zero (suc other) x y e = inr e
set-either (first ∷ xs) (suc place) zero x y e = inr e
set-either (first ∷ xs) (suc place) (suc other) x y e = elim (set-either xs place other x y e) [
  | inl same ↦ inl (ap suc same.0, same.1)
  | inr there ↦ inr there
]

pub found-kept : (segments : List Segment) (found : List (Option AliveEntry)) (seg : ℕ) (one : AliveEntry) →
    AreFound segments found → IsFound (entries_in segments) (segment_at segments seg).entries one →
    AreFound segments (slice_set found seg (Some one))
found-kept segments found seg one are is = record {
  each = λ other another at. elim (set-either found seg other (Some one) (Some another) at) [
    | inl same ↦ (let it : one ≡ another = cc in
        subst (λ (n : ℕ). IsFound (entries_in segments) (segment_at segments n).entries another) same.0
        (subst (IsFound (entries_in segments) (segment_at segments seg).entries) it is))
    | inr there ↦ are.each other another there
  ];
}

pub found-roomier : (segments : List Segment) (found : List (Option AliveEntry)) (count : ℕ) → AreFound segments found →
    AreFound segments (found ++ replicate count None)
found-roomier segments found count are = record { each = λ seg one at. are.each seg one (of-old found count seg one at) }
  where
    of-none : (count seg : ℕ) (one : AliveEntry) → slice_get (replicate count None) seg ≡ Some (Some one) → ⊥
    of-none zero seg one e = cc
    of-none (suc count) zero one e = cc
    of-none (suc count) (suc seg) one e = of-none count seg one e

    of-old : (found : List (Option AliveEntry)) (count seg : ℕ) (one : AliveEntry) →
        slice_get (found ++ replicate count None) seg ≡ Some (Some one) → slice_get found seg ≡ Some (Some one)
    of-old [] count seg one e = absurd (of-none count seg one e)
    of-old (first ∷ found) count zero one e = e
    of-old (first ∷ found) count (suc seg) one e = of-old found count seg one e

-- what is read where there is something
pub some-is : {X : Type 0} (b : Bool) (x y : X) → Some x ≡ cond b (Some y) None → x ≡ y
some-is true x y e = cc
some-is false x y e = cc
