-- No run, no drawing and no story is told as a breach: a trace alone that was given can have one.
use Rattle.std.proofs.Common.{◌≡◌, ◌≢◌, inl, inr, ℕ, Bool, true, false, true≢false, List, Option, Some, None, Result, Ok}
use Rattle.std.proofs.Common.{Err, IfOk, length, refl, sym, ap, ◌∙◌}
use Rattle.rc_model.specs.Model.{Code, MAX_EVENTS, breach}
use Rattle.rc_types.specs.declared.faults.Code.TheVariants.{BadEvent, OutOfMemory}
use Rattle.rc_owner_laws.proofs.VersionReplays.{there-is-no-breach}
use Rattle.rc_reading.specs.declared.scenarios.Scenario.{Scenario}
use Rattle.rc_runs.specs.Runs.{run_within}
use Rattle.rc_runs.proofs.RunLaws.{scenario_is_run}
use Rattle.rc_world.specs.Happened.{Happened, sent_in}
use Rattle.rc_sim.specs.declared.verdicts.Verdict.{Verdict}
use Rattle.rc_sim.specs.declared.verdicts.Verdict.TheVariants.{Clean, Breach, Bad, Stopped, NoLine}
use Rattle.rc_sim.specs.declared.verdicts.SimFault.{SimFault}
use Rattle.rc_sim.specs.declared.verdicts.Output.{Output}
use Rattle.rc_sim.specs.declared.verdicts.Output.TheVariants.{Report, Trace}
use Rattle.rc_sim.specs.declared.answers.Answer.{Answer}
use Rattle.rc_sim.specs.Verdicts.{audited, verdict_of, unless_stopped, Comes, Storied, Explored, HealedOf, ShrunkOf}
use Rattle.rc_sim.specs.Verdicts.{Threaded}

is_breach : Verdict → Bool
is_breach Breach = true
is_breach _ = false

not_breach : (verdict : Verdict) → is_breach verdict ≡ false → verdict ≢ Breach
unfolding is_breach
not_breach verdict none same = true≢false (sym (ap is_breach same ∙ told) ∙ none)
  where
    told : is_breach Breach ≡ true
    told = refl

pub clean_is_none : (verdict : Verdict) → verdict ≡ Clean → verdict ≢ Breach
unfolding is_breach
clean_is_none verdict same = not_breach verdict (ap is_breach same ∙ clean)
  where
    clean : is_breach Clean ≡ false
    clean = refl

stopped_is_none : (verdict : Verdict) (place : ℕ) (code : Code) → verdict ≡ Stopped place code → verdict ≢ Breach
unfolding is_breach
stopped_is_none verdict place code same = not_breach verdict (ap is_breach same ∙ stopped)
  where
    stopped : is_breach (Stopped place code) ≡ false
    stopped = refl

bad_is_none : (verdict : Verdict) (place : ℕ) → verdict ≡ Bad place → verdict ≢ Breach
unfolding is_breach
bad_is_none verdict place same = not_breach verdict (ap is_breach same ∙ bad)
  where
    bad : is_breach (Bad place) ≡ false
    bad = refl

no_line_is_none : (verdict : Verdict) → verdict ≡ NoLine → verdict ≢ Breach
unfolding is_breach
no_line_is_none verdict same = not_breach verdict (ap is_breach same ∙ no_line)
  where
    no_line : is_breach NoLine ≡ false
    no_line = refl

-- what is answered with a verdict that is none
pub no_breach_of : (outcome : Result Verdict SimFault) (verdict : Verdict) → IfOk outcome (λ told. told ≡ verdict) → verdict ≢ Breach →
    outcome ≢ Ok Breach
no_breach_of outcome verdict same none is = none (sym (rw is at same))

-- ---- a world

world_is_clean : (output : Output) (world : Happened) → verdict_of output (sent_in world) ≡ Clean
world_is_clean Report world = ap audited (there-is-no-breach world.setup world.events)
world_is_clean Trace world = refl

-- the answer with a report of a world
pub world_answer : {E : Type 0} (result : Result Answer E) (world : Happened) →
    IfOk result (λ answer. answer.verdict ≡ verdict_of Report (sent_in world)) → IfOk result (λ answer. answer.verdict ≢ Breach)
world_answer (Ok answer) world judged = clean_is_none answer.verdict (judged ∙ world_is_clean Report world)
world_answer (Err fault) world judged = tt

pub explored_is_none : (save : Bool) (verdict : Verdict) (text : List ℕ) → Explored save verdict text → verdict ≢ Breach
explored_is_none true verdict text h = clean_is_none verdict h
explored_is_none false verdict text h = clean_is_none verdict (h.2 ∙ world_is_clean Report h.0)

pub threaded_is_none : (hosts writes : ℕ) (verdict : Verdict) (text : List ℕ) → Threaded hosts writes verdict text →
    verdict ≢ Breach
threaded_is_none hosts writes verdict text (inl h) = clean_is_none verdict (h.3 ∙ world_is_clean Report h.0)
threaded_is_none hosts writes verdict text (inr h) =
    stopped_is_none verdict (length (h.0).events) BadEvent h.3

-- ---- a scenario

run_is_none : (code : Code) (stopped : Option ℕ) (verdict other : Verdict) → other ≡ Clean →
    verdict ≡ unless_stopped code stopped other → verdict ≢ Breach
run_is_none code None verdict other clean same = clean_is_none verdict (same ∙ clean)
run_is_none code (Some place) verdict other clean same = stopped_is_none verdict place code same

run_is_clean : (output : Output) (most : ℕ) (scenario : Scenario) → verdict_of output (run_within most scenario).world.sent ≡ Clean
run_is_clean Report most scenario =
    ap audited (ap (λ w. breach w.sent) (scenario_is_run most scenario).replayed ∙
    there-is-no-breach scenario.setup (run_within most scenario).world.events)
run_is_clean Trace most scenario = refl

pub played_is_none : (output : Output) (read : Result Scenario ℕ) (verdict : Verdict) (text : List ℕ) → Comes output read verdict text →
    verdict ≢ Breach
played_is_none output (Err place) verdict text comes = bad_is_none verdict place comes.0
played_is_none output (Ok scenario) verdict text (inl whole) =
    run_is_none BadEvent (run_within MAX_EVENTS scenario).stopped verdict _ (run_is_clean output MAX_EVENTS scenario) whole.answered
played_is_none output (Ok scenario) verdict text (inr cut) = stopped_is_none verdict cut.place OutOfMemory cut.answered

pub storied_is_none : (read : Result Scenario ℕ) (verdict : Verdict) (text : List ℕ) → Storied read verdict text → verdict ≢ Breach
storied_is_none (Ok scenario) verdict text h = h
storied_is_none (Err place) verdict text h = bad_is_none verdict place h.0

pub shrunk_is_none : (read : Result Scenario ℕ) (verdict : Verdict) (text : List ℕ) → ShrunkOf read verdict text → verdict ≢ Breach
shrunk_is_none (Ok scenario) verdict text (inl clean) = clean_is_none verdict clean
shrunk_is_none (Ok scenario) verdict text (inr nothing) = no_line_is_none verdict nothing.0
shrunk_is_none (Err place) verdict text h = bad_is_none verdict place h.0

pub healed_is_none : (read : Result Scenario ℕ) (verdict : Verdict) (text : List ℕ) → HealedOf read verdict text → verdict ≢ Breach
healed_is_none (Ok scenario) verdict text (inl clean) = clean_is_none verdict clean
healed_is_none (Ok scenario) verdict text (inr nothing) = nothing.0
healed_is_none (Err place) verdict text h = bad_is_none verdict place h.0
