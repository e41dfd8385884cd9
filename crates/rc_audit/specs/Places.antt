-- What a judge keeps of the entries that a master sent for one place.
use Rattle.std.specs.Prelude.{◌≡◌, ℕ, ◌-◌, ◌<◌, ◌^◌, Bool, true, nat_eq, nat_le, ◌&&◌, if◌then◌else◌, List, [], ◌∷◌}
use Rattle.std.specs.Prelude.{Option, Some, None, slice_get, refl}
use Rattle.std.proofs.Common.{ap}
use Rattle.std.specs.Option.{option_map}
use Rattle.std.specs.declared.cmp.Ordering.{Ordering}
use Rattle.std.specs.Ordering.{nat_cmp, ordering_then}
use Rattle.std.specs.BTreeMap.{BTreeMap, get}
use Rattle.std.specs.Coded.{Coded, Coded-set, code_by, coded×, coded_bool, coded_option, Π_prop}
use Rattle.rc_types.specs.contracts.entries.Entry as entry
use Rattle.rc_types.specs.declared.ids.ServerId.{ServerId}
use Rattle.rc_types.specs.declared.entries.Entry.{Entry}
use Rattle.rc_types.specs.declared.messages.Message.{Message}
use Rattle.rc_model.specs.Ids.{same_id, is_server}
use Rattle.rc_model.specs.Made.{entry_at, made}
use Rattle.rc_model.specs.Breach.{same_entry, all_same}
use Rattle.rc_audit.specs.declared.places.PlaceKey.{PlaceKey}
use Rattle.rc_audit.specs.declared.places.Seen.{Seen}

-- the entries have the same term, table, key and version
abbrev pub is_alike : Entry → Entry → Bool
is_alike a b = nat_eq a.term b.term && (nat_eq a.table b.table && (nat_eq a.key b.key && nat_eq a.version b.version))

abbrev pub all_alike : Entry → List Entry → Bool
all_alike entry [] = true
all_alike entry (other ∷ others) = is_alike entry other && all_alike entry others

-- the first of some entries, and whether all of them are like it, or the same
pub record Summary : Type 0 where
  pub first : Entry
  pub alike : Bool
  pub same : Bool

abbrev pub summary_of : List Entry → Option Summary
summary_of [] = None
summary_of (entry ∷ entries) =
    Some (record { first = entry; alike = all_alike entry entries; same = all_same entry entries })

-- the summary with one more entry
abbrev pub with_entry : Option Summary → Entry → Summary
with_entry None entry = record { first = entry; alike = true; same = true }
with_entry (Some s) entry =
    record { first = s.first; alike = s.alike && is_alike s.first entry; same = s.same && same_entry s.first entry }

-- the order of places
abbrev pub id_order : ServerId → ServerId → Ordering
id_order a b = ordering_then (nat_cmp a.index b.index) (nat_cmp a.generation b.generation)

abbrev pub place_order : PlaceKey → PlaceKey → Ordering
place_order a b = ordering_then (id_order a.master b.master)
    (ordering_then (nat_cmp a.seg b.seg) (nat_cmp a.offset b.offset))

abbrev pub same_place : PlaceKey → PlaceKey → Bool
same_place a b = same_id a.master b.master && (nat_eq a.seg b.seg && nat_eq a.offset b.offset)

-- what the index has of a place
abbrev pub summary_in : Seen → Summary
summary_in seen = record { first = seen.first.now; alike = seen.alike; same = seen.same }

abbrev pub summary_at : BTreeMap PlaceKey Seen → PlaceKey → Option Summary
summary_at index place = option_map summary_in (get place_order index place)

-- the new index knows of one more entry at a place, and of the others what the old one does
pub record NotesEntry (old new : BTreeMap PlaceKey Seen) (place : PlaceKey) (entry : Entry) : Type 0 where
  pub each : (q : PlaceKey) →
      summary_at new q ≡ (if same_place place q then Some (with_entry (summary_at old place) entry)
      else summary_at old q)

-- the summary with this entry too, if it is one
abbrev pub with_sent : Option Summary → Option Entry → Option Summary
with_sent summary None = summary
with_sent summary (Some entry) = Some (with_entry summary entry)

-- of entries that were sent together, of which the first stands at an offset, the one at a place
abbrev pub entry_of_run : ServerId → ℕ → ℕ → List Entry → PlaceKey → Option Entry
entry_of_run master seg start entries q =
    if same_id q.master master && (nat_eq seg q.seg && nat_le start q.offset) then slice_get entries
    (q.offset - start) else None

-- the entry that a message sends for a place
abbrev pub sent_at : Message → PlaceKey → Option Entry
sent_at message q = if is_server q.master message.from then entry_at message.body q.seg q.offset else None

-- the new index knows of one more entry at each place for which one was sent
pub record NotesSent (old new : BTreeMap PlaceKey Seen) (sent : PlaceKey → Option Entry) : Type 0 where
  pub each : (q : PlaceKey) → q.offset < 2 ^ 64 → summary_at new q ≡ with_sent (summary_at old q) (sent q)

-- the index sums up what was made at each place that an offset can name
pub record Indexes (index : BTreeMap PlaceKey Seen) (sent : List Message) : Type 0 where
  pub each : (q : PlaceKey) → q.offset < 2 ^ 64 → summary_at index q ≡ summary_of (made sent q.master q.seg q.offset)

-- a summary is plain data: two equal ones are equal in one way
abbrev pub summary_code : Coded Summary
summary_code =
    code_by (Entry × (Bool × Bool)) (coded× (entry.the_row).coded (coded× coded_bool coded_bool))
    (λ s. (s.first, (s.alike, s.same)))
    (λ p. record { first = p.0; alike = p.1.0; same = p.1.1 }) (λ _. refl)

pub Indexes-prop : (index : BTreeMap PlaceKey Seen) (sent : List Message) → IsProp (Indexes index sent)
Indexes-prop index sent one other =
    let each : one.each ≡ other.each =
    Π_prop (λ q. Π_prop (λ h. Coded-set (coded_option summary_code) (summary_at index q)
    (summary_of (made sent q.master q.seg q.offset)))) one.each other.each in
    ap (λ (facts : (q : PlaceKey) → q.offset < 2 ^ 64 →
    summary_at index q ≡ summary_of (made sent q.master q.seg q.offset)). let indexes : Indexes index sent =
    record { each = facts } in indexes) each
