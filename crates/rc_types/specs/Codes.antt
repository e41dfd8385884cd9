-- The numbers and names of the codes, and the code of a fault.
use Rattle.std.specs.Prelude.{ℕ, List, codes}
use Rattle.rc_types.specs.declared.faults.Code.{Code}
use Rattle.rc_types.specs.declared.faults.Code.TheVariants as code
use Rattle.rc_types.specs.declared.faults.Fault.{Fault}
use Rattle.rc_types.specs.declared.faults.Fault.TheVariants as fault

-- the number behind the F
abbrev pub code_number : Code → ℕ
code_number code.OutOfMemory = 1
code_number code.NotOwner = 2
code_number code.Rolling = 3
code_number code.NoBackups = 4
code_number code.Deposed = 5
code_number code.LogFull = 6
code_number code.ValueTooLong = 7
code_number code.HeadMissing = 8
code_number code.SegmentMissing = 9
code_number code.StaleAttempt = 10
code_number code.NotReady = 11
code_number code.TableExists = 12
code_number code.NoTable = 13
code_number code.BadSplit = 14
code_number code.TooManyTablets = 15
code_number code.Recovering = 16
code_number code.BadScenario = 17
code_number code.BadEvent = 18
code_number code.EpochsExhausted = 19
code_number code.Pending = 20
code_number code.StaleGeneration = 21

-- its name
abbrev pub code_name : Code → List ℕ
code_name code.OutOfMemory = codes "OutOfMemory"
code_name code.NotOwner = codes "NotOwner"
code_name code.Rolling = codes "Rolling"
code_name code.NoBackups = codes "NoBackups"
code_name code.Deposed = codes "Deposed"
code_name code.LogFull = codes "LogFull"
code_name code.ValueTooLong = codes "ValueTooLong"
code_name code.HeadMissing = codes "HeadMissing"
code_name code.SegmentMissing = codes "SegmentMissing"
code_name code.StaleAttempt = codes "StaleAttempt"
code_name code.NotReady = codes "NotReady"
code_name code.TableExists = codes "TableExists"
code_name code.NoTable = codes "NoTable"
code_name code.BadSplit = codes "BadSplit"
code_name code.TooManyTablets = codes "TooManyTablets"
code_name code.Recovering = codes "Recovering"
code_name code.BadScenario = codes "BadScenario"
code_name code.BadEvent = codes "BadEvent"
code_name code.EpochsExhausted = codes "EpochsExhausted"
code_name code.Pending = codes "Pending"
code_name code.StaleGeneration = codes "StaleGeneration"

-- the code of a fault
abbrev pub code_of : Fault → Code
code_of fault.OutOfMemory = code.OutOfMemory
code_of fault.NotOwner = code.NotOwner
code_of fault.Rolling = code.Rolling
code_of fault.NoBackups = code.NoBackups
code_of fault.Deposed = code.Deposed
code_of fault.LogFull = code.LogFull
code_of fault.ValueTooLong = code.ValueTooLong
code_of fault.HeadMissing = code.HeadMissing
code_of (fault.SegmentMissing seg) = code.SegmentMissing
code_of fault.StaleAttempt = code.StaleAttempt
code_of fault.NotReady = code.NotReady
code_of fault.TableExists = code.TableExists
code_of fault.NoTable = code.NoTable
code_of fault.BadSplit = code.BadSplit
code_of fault.TooManyTablets = code.TooManyTablets
code_of fault.Recovering = code.Recovering
code_of (fault.BadScenario place) = code.BadScenario
code_of fault.BadEvent = code.BadEvent
code_of fault.EpochsExhausted = code.EpochsExhausted
code_of fault.Pending = code.Pending
code_of fault.StaleGeneration = code.StaleGeneration
