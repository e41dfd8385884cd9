-- How many places of a segment, from its first on, were made one way.
use Rattle.std.specs.Prelude.{◌≡◌, ℕ, ◌-◌, ◌^◌, ◌<◌, true, false, unwrap_or, List}
use Rattle.std.specs.declared.cmp.Ordering.{Ordering}
use Rattle.std.specs.Ordering.{nat_cmp, ordering_then}
use Rattle.std.specs.BTreeMap.{BTreeMap, get}
use Rattle.rc_types.specs.declared.ids.ServerId.{ServerId}
use Rattle.rc_types.specs.declared.messages.Message.{Message}
use Rattle.rc_model.specs.Made.{made}
use Rattle.rc_model.specs.Breach.{is_one_entry}
use Rattle.rc_audit.specs.declared.runs.SegmentKey.{SegmentKey}
use Rattle.rc_audit.specs.Places.{id_order}

abbrev pub segment_order : SegmentKey → SegmentKey → Ordering
segment_order a b = ordering_then (id_order a.master b.master) (nat_cmp a.seg b.seg)

-- the run of the segment, 0 where the table has none
abbrev pub run_at : BTreeMap SegmentKey ℕ → ServerId → ℕ → ℕ
run_at runs m s = unwrap_or (get segment_order runs (record { master = m; seg = s })) 0

-- so many places of the segment were made one way, and the next one, where it has an offset, was not
pub record IsRun (sent : List Message) (m : ServerId) (s n : ℕ) : Type 0 where
  pub each : (o : ℕ) → o < n → is_one_entry (made sent m s o) ≡ true
  pub end : n < 2 ^ 64 - 1 → is_one_entry (made sent m s n) ≡ false

-- the table has the run of every segment
abbrev pub AreRuns : BTreeMap SegmentKey ℕ → List Message → Type 0
AreRuns runs sent = (m : ServerId) (s : ℕ) → IsRun sent m s (run_at runs m s)
