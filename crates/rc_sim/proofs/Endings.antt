-- What comes of a scenario's run, as it ended or stopped.
use Rattle.std.proofs.Common.{◌≡◌, ◌≢◌, ◌⊎◌, inl, inr, ◌≤◌, ℕ, Bool, List, [], ◌++◌, length, Option}
use Rattle.std.proofs.Common.{Some, None, Result, Ok, Err, IfOk, sym}
use Rattle.std.proofs.Common.{ap, subst, ◌∙◌, ◌<◌, take, string_bytes, refl}
use Rattle.std.specs.Option.{IfSome}
use Rattle.std.specs.Io.KnownBytes.{Appends}
use Rattle.std.proofs.lemmas.List.{append-nil}
use Rattle.serde_json.specs.Data.{Data}
use Rattle.rc_model.specs.Model.{code_of, Fault, Code, Message, MAX_EVENTS}
use Rattle.rc_types.specs.declared.faults.Fault.TheVariants as fault
use Rattle.rc_types.specs.declared.faults.Code.TheVariants.{BadEvent, OutOfMemory}
use Rattle.rc_reading.specs.declared.scenarios.Scenario.{Scenario}
use Rattle.rc_reading.specs.declared.scenarios.ScenarioEvent.{ScenarioEvent}
use Rattle.rc_reading.specs.Scenario.{of_value, value_in}
use Rattle.rc_traces.specs.Trace as trace
use Rattle.rc_traces.specs.Judged.{finding_of, text_of}
use Rattle.rc_runs.specs.Runs.{scenario_run, run_within}
use Rattle.rc_world.specs.Happened.{Happened, replayed, sent_in}
use Rattle.rc_runs.specs.Draw.{drawn_world}
use Rattle.rc_sim.specs.declared.verdicts.Verdict.{Verdict}
use Rattle.rc_sim.specs.declared.verdicts.Verdict.TheVariants.{Stopped}
use Rattle.rc_sim.specs.declared.verdicts.SimFault.{SimFault}
use Rattle.rc_sim.specs.declared.verdicts.SimFault.TheVariants.{Memory, Read, Write}
use Rattle.rc_sim.specs.declared.verdicts.Output.{Output}
use Rattle.rc_sim.specs.declared.verdicts.Output.TheVariants.{Report}
use Rattle.rc_sim.specs.declared.answers.Answer.{Answer}
use Rattle.rc_runs.specs.Steps.{RunsThrough, StopsAt}
use Rattle.rc_sim.specs.Written.{IsWritten, IsBegun}
use Rattle.rc_sim.specs.Statuses.{Answered}
use Rattle.rc_sim.specs.Verdicts.{verdict_of, printed_of, last_line, ended_verdict, ended_output}
use Rattle.rc_sim.specs.Verdicts.{found_verdict, Comes, Played, Storied, Narrated, Judged, Drawn, ShrunkOf, Shrunk}
use Rattle.rc_sim.specs.Verdicts.{HealedOf, Healed}

-- nothing has happened yet
abbrev pub start_of : Scenario → Happened
start_of scenario = record { setup = scenario.setup; events = [] }

-- all events have happened
whole_of : (output : Output) (scenario : Scenario) (new : Happened) (verdict : Verdict) (text : List ℕ) →
    RunsThrough scenario.events (start_of scenario) new
    → length new.events ≤ MAX_EVENTS → verdict ≡ verdict_of output (sent_in new) →
    text ≡ printed_of output (sent_in new) → Comes output (Ok scenario) verdict text
whole_of output scenario new verdict text through few judged printed =
    let run : scenario_run scenario ≡ record { world = replayed new; stopped = None } = through MAX_EVENTS few in
    inl (record {
      answered = judged ∙ sym (ap (ended_verdict output BadEvent) run);
      printed = printed ∙ sym (append-nil (printed_of output (sent_in new))) ∙ sym (ap (ended_output output BadEvent) run);
    })

pub whole_answer : {E : Type 0} (output : Output) (result : Result Answer E) (scenario : Scenario)
    (events : List ScenarioEvent) (start new world : Happened)
    → events ≡ scenario.events → start ≡ start_of scenario → world ≡ new → RunsThrough events start new
    → length new.events ≤ MAX_EVENTS → IfOk result (λ a. a.verdict ≡ verdict_of output (sent_in world)) →
    IfOk result (λ a. string_bytes a.text ≡ printed_of output (sent_in world))
    → IfOk result (λ a. Comes output (Ok scenario) a.verdict (string_bytes a.text))
whole_answer output (Ok a) scenario events start new world same begun seen through few judged printed =
    whole_of output scenario new a.verdict (string_bytes a.text) (rw (same, begun) at through) few
    (judged ∙ ap (λ w. verdict_of output (sent_in w)) seen) (printed ∙ ap (λ w. printed_of output (sent_in w)) seen)
whole_answer output (Err e) scenario events start new world same begun seen through few judged printed = tt

-- the run stopped
stopped_of : (output : Output) (scenario : Scenario) (new : Happened) (place : ℕ) (why : Fault) (verdict : Verdict)
    (text : List ℕ) → StopsAt scenario.events place why (start_of scenario) new
    → (why ≡ fault.OutOfMemory) ⊎ (why ≡ fault.BadEvent) → (replayed new).events ≡ new.events → length new.events ≤ MAX_EVENTS
    → verdict ≡ Stopped place (code_of why) → text ≡ printed_of output (sent_in new) ++ last_line output (code_of why)
    place → Comes output (Ok scenario) verdict text
stopped_of output scenario new place why verdict text stops (inl memory) taken few judged printed =
    let run : run_within (length new.events) scenario ≡ record { world = replayed new; stopped = Some place } = rw memory at stops in
    inr (record {
      most = length new.events;
      place = place;
      few = few;
      full = ap (λ ended. length ended.world.events) run ∙ ap length taken;
      stopped = ap (λ ended. ended.stopped) run;
      answered = judged ∙ ap (λ f. Stopped place (code_of f)) memory;
      printed = printed ∙ ap (λ f. printed_of output (sent_in new) ++ last_line output (code_of f) place) memory ∙
          sym (ap (ended_output output OutOfMemory) run);
    })
stopped_of output scenario new place why verdict text stops (inr bad) taken few judged printed =
    let run : scenario_run scenario ≡ record { world = replayed new; stopped = Some place } = rw bad at stops in
    inl (record {
      answered = judged ∙ ap (λ f. Stopped place (code_of f)) bad ∙ sym (ap (ended_verdict output BadEvent) run);
      printed = printed ∙ ap (λ f. printed_of output (sent_in new) ++ last_line output (code_of f) place) bad ∙
          sym (ap (ended_output output BadEvent) run);
    })

pub stopped_answer : {E : Type 0} (output : Output) (result : Result Answer E) (scenario : Scenario)
    (events : List ScenarioEvent) (start new world : Happened) (place : ℕ) (why : Fault) (code : Code)
    → events ≡ scenario.events → start ≡ start_of scenario → world ≡ new → code ≡ code_of why → StopsAt events place why start new
    → (why ≡ fault.OutOfMemory) ⊎ (why ≡ fault.BadEvent) → (replayed new).events ≡ new.events → length new.events ≤ MAX_EVENTS
    → IfOk result (λ a. a.verdict ≡ Stopped place code) →
    IfOk result (λ a. string_bytes a.text ≡ printed_of output (sent_in world) ++ last_line output code place)
    → IfOk result (λ a. Comes output (Ok scenario) a.verdict (string_bytes a.text))
stopped_answer output (Ok a) scenario events start new world place why code same begun seen coded stops which taken few judged printed =
    stopped_of output scenario new place why a.verdict (string_bytes a.text) (rw (same, begun) at stops) which taken few
    (judged ∙ ap (Stopped place) coded)
    (printed ∙ ap (λ w. printed_of output (sent_in w) ++ last_line output code place) seen ∙
    ap (λ k. printed_of output (sent_in new) ++ last_line output k place) coded)
stopped_answer output (Err e) scenario events start new world place why code same begun seen coded stops which taken few judged printed = tt

-- What is written

-- the whole text of an answer
written_of : (remaining : Option (List ℕ)) (bytes slice : List ℕ) (F : List ℕ → Verdict → List ℕ → Type 0)
    (result : Result Verdict SimFault) (verdict : Verdict) (text : List ℕ) (old new : Option (List ℕ))
    → IfSome remaining (λ all. value_in bytes ≡ value_in all) → slice ≡ bytes →
    ((one other : List ℕ) → value_in one ≡ value_in other → F one verdict text → F other verdict text)
    → F slice verdict text → IfOk result (λ v. v ≡ verdict) → IfOk result (λ _. Appends old new text)
    → IfOk result (λ v. IfSome remaining (λ all. IsWritten (F all) v old new))
written_of remaining bytes slice F (Err e) verdict text old new same sliced goes comes told appends = tt
written_of None bytes slice F (Ok v) verdict text old new same sliced goes comes told appends = tt
written_of (Some all) bytes slice F (Ok v) verdict text old new same sliced goes comes told appends =
    rw told (text, goes slice all (ap value_in sliced ∙ same) comes, appends)

-- a beginning of it
begun_of : (remaining : Option (List ℕ)) (bytes slice : List ℕ) (F : List ℕ → Verdict → List ℕ → Type 0)
    (verdict : Verdict) (text : List ℕ) (count : ℕ) (old new : Option (List ℕ))
    → IfSome remaining (λ all. value_in bytes ≡ value_in all) → slice ≡ bytes →
    ((one other : List ℕ) → value_in one ≡ value_in other → F one verdict text → F other verdict text)
    → F slice verdict text → (count < length text) × Appends old new (take count text) →
    IfSome remaining (λ all. IsBegun (F all) count old new)
begun_of None bytes slice F verdict text count old new same sliced goes comes begun = tt
begun_of (Some all) bytes slice F verdict text count old new same sliced goes comes begun =
    (verdict, text, goes slice all (ap value_in sliced ∙ same) comes, begun.0, begun.1)

-- what came of a command that reads, whose answer was written, or a beginning of it
pub answered_of : (remaining : Option (List ℕ)) (bytes slice : List ℕ) (F : List ℕ → Verdict → List ℕ → Type 0)
    (outcome : Result Verdict SimFault) (verdict : Verdict) (text : List ℕ) (old new : Option (List ℕ))
    → IfSome remaining (λ all. value_in bytes ≡ value_in all) → slice ≡ bytes →
    ((one other : List ℕ) → value_in one ≡ value_in other → F one verdict text → F other verdict text)
    → F slice verdict text → IfOk outcome (λ v. v ≡ verdict) → IfOk outcome (λ _. Appends old new text)
    → ((count : ℕ) → outcome ≡ Err (Write count) → (count < length text) × Appends old new (take count text))
    → (outcome ≢ Err Memory) × (outcome ≢ Err Read) → Answered F outcome remaining old new
answered_of remaining bytes slice F (Ok v) verdict text old new same sliced goes comes told appends cut fault =
    written_of remaining bytes slice F (Ok v) verdict text old new same sliced goes comes told appends
answered_of remaining bytes slice F (Err Memory) verdict text old new same sliced goes comes told appends cut fault = absurd (fault.0 refl)
answered_of remaining bytes slice F (Err Read) verdict text old new same sliced goes comes told appends cut fault = absurd (fault.1 refl)
answered_of remaining bytes slice F (Err (Write count)) verdict text old new same sliced goes comes told appends cut fault =
    begun_of remaining bytes slice F verdict text count old new same sliced goes comes (cut count refl)

-- bytes that are one value come to the same
pub played_so : (output : Output) (verdict : Verdict) (text : List ℕ) (one other : List ℕ) →
    value_in one ≡ value_in other → Played output one verdict text → Played output other verdict text
played_so output verdict text one other same h = subst (λ d. Comes output (of_value d) verdict text) same h

pub judged_so : (verdict : Verdict) (text : List ℕ) (one other : List ℕ) → value_in one ≡ value_in other →
    Judged one verdict text → Judged other verdict text
judged_so verdict text one other same h =
    subst (λ d. (verdict ≡ found_verdict (finding_of (of_trace d))) × (text ≡ text_of (of_trace d))) same h
  where
    of_trace : Option Data → Result (List Message) ℕ
    of_trace = trace.of_value trace.message_of

pub narrated_so : (verdict : Verdict) (text : List ℕ) (one other : List ℕ) → value_in one ≡ value_in other →
    Narrated one verdict text → Narrated other verdict text
narrated_so verdict text one other same h = subst (λ d. Storied (of_value d) verdict text) same h

pub shrunk_so : (verdict : Verdict) (text : List ℕ) (one other : List ℕ) → value_in one ≡ value_in other →
    Shrunk one verdict text → Shrunk other verdict text
shrunk_so verdict text one other same h = subst (λ d. ShrunkOf (of_value d) verdict text) same h

pub healed_so : (verdict : Verdict) (text : List ℕ) (one other : List ℕ) → value_in one ≡ value_in other →
    Healed one verdict text → Healed other verdict text
healed_so verdict text one other same h = subst (λ d. HealedOf (of_value d) verdict text) same h

-- the report of a drawing is that of its world
pub drawn_of : {E : Type 0} (result : Result Answer E) (world : Happened) (seed steps : ℕ) (free : Bool) →
    replayed world ≡ drawn_world seed steps free
    → IfOk result (λ a. a.verdict ≡ verdict_of Report (sent_in world)) →
    IfOk result (λ a. string_bytes a.text ≡ printed_of Report (sent_in world))
    → IfOk result (λ a. Drawn seed steps free a.verdict (string_bytes a.text))
drawn_of (Ok a) world seed steps free same judged printed =
    (judged ∙ ap (λ w. verdict_of Report w.sent) same, printed ∙ ap (λ w. printed_of Report w.sent) same)
drawn_of (Err e) world seed steps free same judged printed = tt
