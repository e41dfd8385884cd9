-- Which refusal a call answers, as a function of the tablets before it.
use Rattle.std.specs.Prelude.{◌≡◌, ℕ, nat_eq, if◌then◌else◌, List, length, Option, Some, None, Result, Err, IsOkUnless}
use Rattle.rc_types.specs.declared.faults.Fault.{Fault}
use Rattle.rc_types.specs.declared.faults.Fault.TheVariants.{OutOfMemory, TableExists, NoTable, BadSplit}
use Rattle.rc_types.specs.declared.faults.Fault.TheVariants.{TooManyTablets, Recovering}
use Rattle.rc_types.specs.declared.limits.TheConstants.{MAX_TABLETS}
use Rattle.rc_types.specs.declared.rows.Tablet.{Tablet}
use Rattle.rc_model.specs.Tablets.{tablet_of, has_table}

-- why a table is not created, if it is not
abbrev pub create_refusal : ℕ → List Tablet → Option Fault
create_refusal table tablets =
    if has_table tablets table then Some TableExists
    else if nat_eq (length tablets) MAX_TABLETS then Some TooManyTablets
    else None

-- why this tablet, one of so many, is not split at the key, if it is not
abbrev pub tablet_split_refusal : ℕ → ℕ → Option Tablet → Option Fault
tablet_split_refusal at count None = Some NoTable
tablet_split_refusal at count (Some tablet) =
    if nat_eq tablet.range.lo at then Some BadSplit
    else if tablet.crashed then Some Recovering
    else if nat_eq count MAX_TABLETS then Some TooManyTablets
    else None

-- why the tablet of the key is not split there, if it is not
abbrev pub split_refusal : ℕ → ℕ → List Tablet → Option Fault
split_refusal table at tablets = tablet_split_refusal at (length tablets) (tablet_of tablets table at)

-- a refusal that is due is answered; where none is due, only memory can be missing
abbrev pub Answers : {T : Type 0} → Option Fault → Result T Fault → Type 0
Answers (Some fault) answer = answer ≡ Err fault
Answers None answer = IsOkUnless answer OutOfMemory
