-- Accepted recoveries, as a judge reads them, and how far they reach.
use Rattle.std.specs.Prelude.{◌≡◌, ℕ, nat_eq, max, if◌then◌else◌, List, Some, unwrap_or}
use Rattle.std.specs.Ordering.{nat_cmp}
use Rattle.std.specs.BTreeMap.{BTreeMap, get, keys}
use Rattle.rc_types.specs.declared.rows.PlanRow.{PlanRow}
use Rattle.rc_model.specs.Ascending.{ascending}
use Rattle.rc_model.specs.Recovered.{Accepted, reach}
use Rattle.rc_model.specs.Breach.{segments_of}
use Rattle.rc_audit.specs.declared.recoveries.Recovery.{Recovery}

-- the accepted recovery, as the definitions know it
abbrev pub accepted_of : Recovery → Accepted
accepted_of recovery = record { attempt = recovery.attempt; master = recovery.master; rows = recovery.rows.now }

-- the number of one segment is at least so much, and otherwise as it was; those of the others are as they were
pub record Raises (old new : BTreeMap ℕ ℕ) (seg least : ℕ) : Type 0 where
  pub each : (s : ℕ) → get nat_cmp new s ≡ (if nat_eq seg s then Some (max (unwrap_or (get nat_cmp old seg) 0) least)
      else get nat_cmp old s)

-- the segments of the rows, with how far the rows reach in each
pub record HasReaches (reaches : BTreeMap ℕ ℕ) (rows : List PlanRow) : Type 0 where
  pub segments : keys reaches ≡ ascending (segments_of rows)
  pub reach_of : (s : ℕ) → unwrap_or (get nat_cmp reaches s) 0 ≡ reach rows s
