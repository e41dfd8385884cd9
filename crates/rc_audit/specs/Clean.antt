-- Recoveries that were seen to miss nothing.
use Rattle.std.specs.Prelude.{◌≡◌, ℕ, List, Some, None}
use Rattle.std.specs.declared.cmp.Ordering.{Ordering}
use Rattle.std.specs.Ordering.{nat_cmp, ordering_then}
use Rattle.std.specs.BTreeMap.{BTreeMap, get}
use Rattle.rc_types.specs.declared.messages.Message.{Message}
use Rattle.rc_model.specs.Recovered.{acknowledged}
use Rattle.rc_model.specs.Breach.{first_missing}
use Rattle.rc_audit.specs.declared.missing.Clean.{Clean}
use Rattle.rc_audit.specs.declared.missing.CleanKey.{CleanKey}
use Rattle.rc_audit.specs.Places.{id_order}

abbrev pub clean_order : CleanKey → CleanKey → Ordering
clean_order a b = ordering_then (id_order a.master b.master) (nat_cmp a.mark b.mark)

-- a recovery of the master with these rows misses nothing, whatever its attempt
pub record AreClean (table : BTreeMap CleanKey Clean) (sent : List Message) : Type 0 where
  pub each : (key : CleanKey) (clean : Clean) → get clean_order table key ≡ Some clean → (attempt : ℕ) →
      first_missing sent (record { attempt = attempt; master = key.master; rows = clean.rows.now })
      (acknowledged sent key.master) ≡ None
