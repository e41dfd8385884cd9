-- What comes of a scenario, a trace, drawn events, or nodes on threads: what is printed, and what is answered.
use Rattle.std.specs.Prelude.{◌≡◌, ◌≢◌, ◌⊎◌, ◌≤◌, ◌+◌, ◌*◌, ℕ, Bool, true, false, List, [], ◌++◌, length, codes}
use Rattle.std.specs.Prelude.{Option, Some, None, Result, Ok, Err}
use Rattle.rc_types.specs.declared.faults.Code.{Code}
use Rattle.rc_types.specs.declared.faults.Code.TheVariants.{OutOfMemory, BadEvent}
use Rattle.rc_types.specs.declared.limits.TheConstants.{MAX_EVENTS}
use Rattle.rc_types.specs.declared.messages.Message.{Message}
use Rattle.rc_types.specs.declared.verdicts.Breach.{Breach as Found}
use Rattle.rc_model.specs.Breach.{breach}
use Rattle.rc_model.specs.Report.{report, count_line}
use Rattle.rc_reading.specs.declared.scenarios.Scenario.{Scenario}
use Rattle.rc_reading.specs.Scenario.{reading}
use Rattle.rc_traces.specs.Ends.{stopped_line, error_line}
use Rattle.rc_runs.specs.Runs.{Ended, scenario_run, run_within}
use Rattle.rc_traces.specs.Trace as trace
use Rattle.rc_traces.specs.Written.{trace_text}
use Rattle.rc_traces.specs.declared.judging.Finding.{Finding}
use Rattle.rc_traces.specs.declared.judging.Finding.TheVariants as finding
use Rattle.rc_traces.specs.Judged.{finding_of, text_of}
use Rattle.rc_world.specs.Happened.{Happened, sent_in}
use Rattle.rc_runs.specs.Draw.{drawn_world, drawn}
use Rattle.rc_wire.specs.Workload.{threads_setup, workload}
use Rattle.rc_wire.specs.Worked.{AllHaveWorked, SomeWasStuck}
use Rattle.rc_sim.specs.declared.verdicts.Output.{Output}
use Rattle.rc_sim.specs.declared.verdicts.Output.TheVariants.{Report, Trace}
use Rattle.rc_sim.specs.declared.verdicts.Verdict.{Verdict}
use Rattle.rc_sim.specs.declared.verdicts.Verdict.TheVariants.{Clean, Breach, Bad, Stopped, NoLine, Wrong}

-- what the audit found
abbrev pub audited : Option Found → Verdict
audited None = Clean
audited (Some found) = Breach

-- what is answered and printed of these messages: a trace is not judged
abbrev pub verdict_of : Output → List Message → Verdict
verdict_of Report sent = audited (breach sent)
verdict_of Trace sent = Clean

abbrev pub printed_of : Output → List Message → List ℕ
printed_of Report sent = report sent
printed_of Trace sent = trace_text sent

-- a report has a last line where the run stopped
abbrev pub last_line : Output → Code → ℕ → List ℕ
last_line Report code place = stopped_line code place
last_line Trace code place = []

abbrev pub line_if_stopped : Output → Code → Option ℕ → List ℕ
line_if_stopped output code None = []
line_if_stopped output code (Some place) = last_line output code place

-- a run that stopped is told as stopped, whatever the audit found
abbrev pub unless_stopped : Code → Option ℕ → Verdict → Verdict
unless_stopped code None verdict = verdict
unless_stopped code (Some place) verdict = Stopped place code

abbrev pub ended_verdict : Output → Code → Ended → Verdict
ended_verdict output code ended = unless_stopped code ended.stopped (verdict_of output ended.world.sent)

abbrev pub ended_output : Output → Code → Ended → List ℕ
ended_output output code ended = printed_of output ended.world.sent ++ line_if_stopped output code ended.stopped

-- memory was not refused in a step
pub record Whole (output : Output) (scenario : Scenario) (verdict : Verdict) (text : List ℕ) : Type 0 where
  pub answered : verdict ≡ ended_verdict output BadEvent (scenario_run scenario)
  pub printed : text ≡ ended_output output BadEvent (scenario_run scenario)

-- memory was refused in a step: the run is that with room for no more events than have happened
pub record Cut (output : Output) (scenario : Scenario) (verdict : Verdict) (text : List ℕ) : Type 0 where
  pub most : ℕ
  pub place : ℕ
  pub few : most ≤ MAX_EVENTS
  pub full : length (run_within most scenario).world.events ≡ most
  pub stopped : (run_within most scenario).stopped ≡ Some place
  pub answered : verdict ≡ Stopped place OutOfMemory
  pub printed : text ≡ ended_output output OutOfMemory (run_within most scenario)

-- what can come of what was read as a scenario
abbrev pub Comes : Output → Result Scenario ℕ → Verdict → List ℕ → Type 0
Comes output (Ok scenario) verdict text = Whole output scenario verdict text ⊎ Cut output scenario verdict text
Comes output (Err place) verdict text = (verdict ≡ Bad place) × (text ≡ error_line place)

-- of these bytes as a scenario
abbrev pub Played : Output → List ℕ → Verdict → List ℕ → Type 0
Played output bytes verdict text = Comes output (reading bytes) verdict text

-- what can be told of what was read as a scenario: nothing is claimed of a story but that it tells no breach
abbrev pub Storied : Result Scenario ℕ → Verdict → List ℕ → Type 0
Storied (Ok scenario) verdict text = verdict ≢ Breach
Storied (Err place) verdict text = (verdict ≡ Bad place) × (text ≡ error_line place)

-- of these bytes as a scenario
abbrev pub Narrated : List ℕ → Verdict → List ℕ → Type 0
Narrated bytes verdict text = Storied (reading bytes) verdict text

abbrev pub found_verdict : Finding → Verdict
found_verdict finding.Clean = Clean
found_verdict finding.Breach = Breach
found_verdict (finding.Bad place) = Bad place

-- of these bytes as a trace
abbrev pub Judged : List ℕ → Verdict → List ℕ → Type 0
Judged bytes verdict text =
    (verdict ≡ found_verdict (finding_of (trace.reading bytes))) × (text ≡ text_of (trace.reading bytes))

-- of the events that are drawn from this seed: the report of the world that they lead to
abbrev pub Drawn : ℕ → ℕ → Bool → Verdict → List ℕ → Type 0
Drawn seed steps free verdict text =
    (verdict ≡ audited (breach (drawn_world seed steps free).sent)) × (text ≡ report (drawn_world seed steps free).sent)

-- the report of a world that was drawn to reach much, and lines that tell what it has reached; or, where it is to be
-- saved, some text
abbrev pub Explored : Bool → Verdict → List ℕ → Type 0
Explored true verdict text = verdict ≡ Clean
Explored false verdict text = (world : Happened) × (lines : List ℕ) ×
    (verdict ≡ audited (breach (sent_in world))) × (text ≡ report (sent_in world) ++ lines)

-- of runs of which one has a breach, or none
abbrev pub told_of : Bool → Verdict
told_of true = Breach
told_of false = Clean

-- of worlds that were drawn to reach much, one for each of several seeds: none has a breach; nothing is claimed of what
-- is told of them
abbrev pub Surveyed : Verdict → List ℕ → Type 0
Surveyed verdict text = verdict ≡ Clean

-- of the first world of several that reaches something, or of none, which is told by no text
abbrev pub Sought : Verdict → List ℕ → Type 0
Sought verdict text = (verdict ≡ Clean) ⊎ ((verdict ≢ Breach) × (text ≡ []))

-- a smaller scenario, or nothing
abbrev pub IsShrunk : Verdict → List ℕ → Type 0
IsShrunk verdict text = (verdict ≡ Clean) ⊎ ((verdict ≡ NoLine) × (text ≡ []))

-- of what was read as a scenario
abbrev pub ShrunkOf : Result Scenario ℕ → Verdict → List ℕ → Type 0
ShrunkOf (Ok scenario) verdict text = IsShrunk verdict text
ShrunkOf (Err place) verdict text = (verdict ≡ Bad place) × (text ≡ error_line place)

-- of these bytes as a scenario
abbrev pub Shrunk : List ℕ → Verdict → List ℕ → Type 0
Shrunk bytes verdict text = ShrunkOf (reading bytes) verdict text

-- a scenario, or nothing
abbrev pub IsHealed : Verdict → List ℕ → Type 0
IsHealed verdict text = (verdict ≡ Clean) ⊎ ((verdict ≢ Breach) × (text ≡ []))

-- of what was read as a scenario
abbrev pub HealedOf : Result Scenario ℕ → Verdict → List ℕ → Type 0
HealedOf (Ok scenario) verdict text = IsHealed verdict text
HealedOf (Err place) verdict text = (verdict ≡ Bad place) × (text ≡ error_line place)

-- of these bytes as a scenario
abbrev pub Healed : List ℕ → Verdict → List ℕ → Type 0
Healed bytes verdict text = HealedOf (reading bytes) verdict text

-- the report of a world in which so many hosts, on threads, have done the workload with so many writes: each node has
-- taken its works in order, and else deliveries
abbrev pub Reported : ℕ → ℕ → Verdict → List ℕ → Type 0
Reported hosts writes verdict text = (world : Happened) × (world.setup ≡ threads_setup) ×
    AllHaveWorked threads_setup world.events (workload hosts writes) (hosts + 2) ×
    (verdict ≡ audited (breach (sent_in world))) × (text ≡ report (sent_in world))

-- a node could not take its next work: the report of what had happened by then, and where that was
abbrev pub Unable : ℕ → ℕ → Verdict → List ℕ → Type 0
Unable hosts writes verdict text = (world : Happened) × (world.setup ≡ threads_setup) ×
    SomeWasStuck threads_setup world.events (workload hosts writes) (hosts + 2) ×
    (verdict ≡ Stopped (length world.events) BadEvent) ×
    (text ≡ report (sent_in world) ++ stopped_line BadEvent (length world.events))

-- of nodes on threads
abbrev pub Threaded : ℕ → ℕ → Verdict → List ℕ → Type 0
Threaded hosts writes verdict text = Reported hosts writes verdict text ⊎ Unable hosts writes verdict text

-- the two lines of power failures
abbrev pub cuts_text : ℕ → ℕ → List ℕ
cuts_text cuts breaches = count_line (codes "cuts ") cuts ++ count_line (codes "breaches ") breaches

-- of power failures after the events that are drawn from this seed, three for each: there is never a breach
abbrev pub PowerCut : ℕ → ℕ → Verdict → List ℕ → Type 0
PowerCut seed steps verdict text = (verdict ≡ Clean) × (text ≡ cuts_text (3 * length (drawn seed steps false)) 0)

-- of power failures after so many events, three for each: there is never a breach
abbrev pub CutEach : ℕ → Verdict → List ℕ → Type 0
CutEach events verdict text = (verdict ≡ Clean) × (text ≡ cuts_text (3 * events) 0)

-- of those after the events of a world that was drawn to reach much
abbrev pub PowersCut : Verdict → List ℕ → Type 0
PowersCut verdict text = (events : ℕ) × CutEach events verdict text

-- help, or the version: nothing is claimed of the text
abbrev pub Told : Verdict → List ℕ → Type 0
Told verdict text = verdict ≡ Clean
