-- Exit statuses, and what a call of the program has done.
use Rattle.std.specs.Prelude.{◌≡◌, ⊤, ℕ, List, Option, Result, Ok, Err}
use Rattle.std.specs.Option.{IfSome}
use Rattle.std.specs.Io.KnownBytes.{Keeps}
use Rattle.rc_types.specs.declared.faults.Code.TheVariants.{OutOfMemory}
use Rattle.rc_commands.specs.declared.asking.Asked.{Asked}
use Rattle.rc_commands.specs.declared.asking.Asked.TheVariants as asked
use Rattle.rc_sim.specs.declared.verdicts.Output.TheVariants.{Report, Trace}
use Rattle.rc_sim.specs.declared.verdicts.Verdict.{Verdict}
use Rattle.rc_sim.specs.declared.verdicts.Verdict.TheVariants.{Clean, Breach, Bad, Stopped, NoLine, Wrong}
use Rattle.rc_sim.specs.declared.verdicts.SimFault.{SimFault}
use Rattle.rc_sim.specs.declared.verdicts.SimFault.TheVariants.{Memory, Read, Write}
use Rattle.rc_sim.specs.Verdicts.{Played, Narrated, Judged, Drawn, PowerCut, Threaded, Explored, Surveyed}
use Rattle.rc_sim.specs.Verdicts.{PowersCut, Shrunk, Healed, Sought, Told}
use Rattle.rc_sim.specs.Histories.{Checked}
use Rattle.rc_sim.specs.Written.{IsWritten, IsBegun}

abbrev pub verdict_status : Verdict → ℕ
verdict_status Clean = 0
verdict_status Breach = 1
verdict_status (Bad place) = 2
verdict_status (Stopped place OutOfMemory) = 3
verdict_status (Stopped place code) = 2
verdict_status NoLine = 2
verdict_status Wrong = 2

abbrev pub fault_status : SimFault → ℕ
fault_status Memory = 3
fault_status Read = 4
fault_status (Write count) = 4

abbrev pub outcome_status : Result Verdict SimFault → ℕ
outcome_status (Ok verdict) = verdict_status verdict
outcome_status (Err fault) = fault_status fault

-- what is written for this input, by what was told of it
abbrev pub Answered : (List ℕ → Verdict → List ℕ → Type 0) → Result Verdict SimFault → Option (List ℕ) →
    Option (List ℕ) → Option (List ℕ) → Type 0
Answered Comes (Ok verdict) input old new = IfSome input (λ bytes. IsWritten (Comes bytes) verdict old new)
Answered Comes (Err (Write count)) input old new = IfSome input (λ bytes. IsBegun (Comes bytes) count old new)
Answered Comes (Err Memory) input old new = Keeps old new
Answered Comes (Err Read) input old new = Keeps old new

-- the program ended by this status, after what comes of the input was written
abbrev pub EndsBy : (List ℕ → Verdict → List ℕ → Type 0) → ℕ → Option (List ℕ) → Option (List ℕ) → Option (List ℕ) →
    Type 0
EndsBy Comes status input old new =
    (outcome : Result Verdict SimFault) × (status ≡ outcome_status outcome) × Answered Comes outcome input old new

-- what comes of a command, where the reader has these bytes; nothing is claimed of a wrong command line
abbrev pub ComesOf : Asked → List ℕ → Verdict → List ℕ → Type 0
ComesOf (asked.Run heap) bytes verdict text = Played Report bytes verdict text
ComesOf asked.Trace bytes verdict text = Played Trace bytes verdict text
ComesOf asked.Audit bytes verdict text = Judged bytes verdict text
ComesOf asked.History bytes verdict text = Narrated bytes verdict text
ComesOf asked.Check bytes verdict text = Checked bytes verdict text
ComesOf (asked.Fuzz seed steps free) bytes verdict text = Drawn seed steps free verdict text
ComesOf (asked.Stops seed steps) bytes verdict text = PowerCut seed steps verdict text
ComesOf (asked.StopsExplored drawing) bytes verdict text = PowersCut verdict text
ComesOf (asked.Threads hosts writes) bytes verdict text = Threaded hosts writes verdict text
ComesOf (asked.Explore drawing save progress) bytes verdict text = Explored save verdict text
ComesOf (asked.Survey drawing last progress) bytes verdict text = Surveyed verdict text
ComesOf (asked.Until goal drawing last save progress) bytes verdict text = Sought verdict text
ComesOf (asked.Shrink keep) bytes verdict text = Shrunk bytes verdict text
ComesOf asked.Log bytes verdict text = Narrated bytes verdict text
ComesOf (asked.Heal power_cycle) bytes verdict text = Healed bytes verdict text
ComesOf (asked.Tell told) bytes verdict text = Told verdict text
ComesOf (asked.Wrong told) bytes verdict text = ⊤

-- the program ended by this status, after it has done this command
abbrev pub Does : Asked → ℕ → Option (List ℕ) → Option (List ℕ) → Option (List ℕ) → Type 0
Does asked status input old new = EndsBy (ComesOf asked) status input old new
