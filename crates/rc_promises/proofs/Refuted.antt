-- A run whose test names a sentence refutes it, and no run does.
use Rattle.std.proofs.Common.{◌≡◌, ◌⊎◌, Bool, true, false, List, [], ◌++◌, refl, sym, ap, ◌∙◌, subst, inl, inr}
use Rattle.rc_model.specs.Model.{Event, In, World, opening, replay}
use Rattle.rc_model.proofs.Members.{In-append}
use Rattle.rc_model.proofs.Tests.{true_false}
use Rattle.rc_worked.specs.Sentences.{Run, Sentence, OneVersionOneWrite, WritesInTime, ReadsSeeWrites, unless, broken}
use Rattle.rc_worked.specs.Sentences.{early_world, whole_world, keeps_versions, keeps_time, keeps_reads}
use Rattle.rc_worked.proofs.Scenarios.{scenarios-are-replays, runs-grow, runs-append}
use Rattle.rc_step_laws.specs.WordClaims.{sent_after}
use Rattle.rc_promises.specs.Service.{OneVersionIsOneWrite, WritesFollowTime, ReadsSeeAcknowledgedWrites}
use Rattle.rc_promises.specs.Runs.{BrokenVersionsRefute, BrokenTimeRefutes, BrokenReadsRefute, NoRunBreaksOne}
use Rattle.rc_promises.proofs.Tested.{versions-kept, time-kept, reads-kept}
use Rattle.rc_promises.proofs.Once.{one-version-is-one-write}
use Rattle.rc_promises.proofs.Time.{writes-follow-time}
use Rattle.rc_promises.proofs.Reading.{reads-see-acknowledged-writes}

-- What a test names

of-unless : (b : Bool) (sentence one : Sentence) → In one (unless b sentence) → (b ≡ false) × (one ≡ sentence)
of-unless true sentence one at = absurd at
of-unless false sentence one (inl e) = (refl, e)
of-unless false sentence one (inr rest) = absurd rest

-- the three tests
abbrev versions-of : Run → Bool
versions-of run = keeps_versions (whole_world run).sent

abbrev time-of : Run → Bool
time-of run = keeps_time (early_world run).sent (whole_world run).sent

abbrev reads-of : Run → Bool
reads-of run = keeps_reads (whole_world run).sent

-- which of three lists holds it
one-of-three : (a b c : List Sentence) (one : Sentence) → In one (a ++ b ++ c) → In one a ⊎ (In one b ⊎ In one c)
one-of-three a b c one at = by (In-append one (a ++ b) c at)
  where
    of-two : In one a ⊎ In one b → In one a ⊎ (In one b ⊎ In one c)
    of-two (inl first) = inl first
    of-two (inr second) = inr (inl second)

    by : In one (a ++ b) ⊎ In one c → In one a ⊎ (In one b ⊎ In one c)
    by (inl two) = of-two (In-append one a b two)
    by (inr third) = inr (inr third)

named : (run : Run) (one : Sentence) → In one (broken run) → ((versions-of run ≡ false) × (one ≡ OneVersionOneWrite))
    ⊎ (((time-of run ≡ false) × (one ≡ WritesInTime)) ⊎ ((reads-of run ≡ false) × (one ≡ ReadsSeeWrites)))
named run one at = by (one-of-three (unless (versions-of run) OneVersionOneWrite) (unless (time-of run) WritesInTime)
    (unless (reads-of run) ReadsSeeWrites) one at)
  where
    by : In one (unless (versions-of run) OneVersionOneWrite)
        ⊎ (In one (unless (time-of run) WritesInTime) ⊎ In one (unless (reads-of run) ReadsSeeWrites)) →
        ((versions-of run ≡ false) × (one ≡ OneVersionOneWrite))
        ⊎ (((time-of run ≡ false) × (one ≡ WritesInTime)) ⊎ ((reads-of run ≡ false) × (one ≡ ReadsSeeWrites)))
    by (inl p) = inl (of-unless (versions-of run) OneVersionOneWrite one p)
    by (inr (inl p)) = inr (inl (of-unless (time-of run) WritesInTime one p))
    by (inr (inr p)) = inr (inr (of-unless (reads-of run) ReadsSeeWrites one p))

-- What is sent in a run is what its events lead to

module _ (run : Run) where
  abbrev whole_events : List Event
  whole_events = (whole_world run).events

  is-run : replay run.setup whole_events ≡ whole_world run
  is-run = subst (λ (world : World). replay run.setup world.events ≡ world)
      (runs-append (opening run.setup) run.early run.more) (scenarios-are-replays run.setup (run.early ++ run.more))

  whole-sent : sent_after run.setup whole_events ≡ (whole_world run).sent
  whole-sent = ap (λ (world : World). world.sent) is-run

  early-sent : sent_after run.setup (early_world run).events ≡ (early_world run).sent
  early-sent = ap (λ (world : World). world.sent) (scenarios-are-replays run.setup run.early)

  grown : (more : List Event) × (whole_events ≡ (early_world run).events ++ more)
  grown = runs-grow (early_world run) run.more

  versions-hold : OneVersionIsOneWrite → versions-of run ≡ true
  versions-hold sentence = subst (λ sent. keeps_versions sent ≡ true) whole-sent
      (versions-kept (sentence run.setup whole_events))

  time-holds : WritesFollowTime → time-of run ≡ true
  time-holds sentence = subst (λ sent. keeps_time sent (whole_world run).sent ≡ true) early-sent
      (subst (λ sent. keeps_time (sent_after run.setup (early_world run).events) sent ≡ true)
      (ap (sent_after run.setup) (sym grown.1) ∙ whole-sent) (time-kept (sent_after run.setup (early_world run).events)
      (sent_after run.setup ((early_world run).events ++ grown.0))
      (sentence run.setup (early_world run).events grown.0)))

  reads-hold : ReadsSeeAcknowledgedWrites → reads-of run ≡ true
  reads-hold sentence = subst (λ sent. keeps_reads sent ≡ true) whole-sent
      (reads-kept run.setup whole_events (sentence run.setup whole_events))

-- So a sentence that is true is not named

pub broken-versions-refute : BrokenVersionsRefute
broken-versions-refute run at sentence = by (named run OneVersionOneWrite at)
  where
    by : ((versions-of run ≡ false) × (OneVersionOneWrite ≡ OneVersionOneWrite))
        ⊎ (((time-of run ≡ false) × (OneVersionOneWrite ≡ WritesInTime))
        ⊎ ((reads-of run ≡ false) × (OneVersionOneWrite ≡ ReadsSeeWrites))) → ⊥
    by (inl p) = true_false (sym (versions-hold run sentence) ∙ p.0)
    by (inr (inl p)) = let e : OneVersionOneWrite ≡ WritesInTime = p.1 in cc
    by (inr (inr p)) = let e : OneVersionOneWrite ≡ ReadsSeeWrites = p.1 in cc

pub broken-time-refutes : BrokenTimeRefutes
broken-time-refutes run at sentence = by (named run WritesInTime at)
  where
    by : ((versions-of run ≡ false) × (WritesInTime ≡ OneVersionOneWrite))
        ⊎ (((time-of run ≡ false) × (WritesInTime ≡ WritesInTime))
        ⊎ ((reads-of run ≡ false) × (WritesInTime ≡ ReadsSeeWrites))) → ⊥
    by (inl p) = let e : WritesInTime ≡ OneVersionOneWrite = p.1 in cc
    by (inr (inl p)) = true_false (sym (time-holds run sentence) ∙ p.0)
    by (inr (inr p)) = let e : WritesInTime ≡ ReadsSeeWrites = p.1 in cc

pub broken-reads-refute : BrokenReadsRefute
broken-reads-refute run at sentence = by (named run ReadsSeeWrites at)
  where
    by : ((versions-of run ≡ false) × (ReadsSeeWrites ≡ OneVersionOneWrite))
        ⊎ (((time-of run ≡ false) × (ReadsSeeWrites ≡ WritesInTime))
        ⊎ ((reads-of run ≡ false) × (ReadsSeeWrites ≡ ReadsSeeWrites))) → ⊥
    by (inl p) = let e : ReadsSeeWrites ≡ OneVersionOneWrite = p.1 in cc
    by (inr (inl p)) = let e : ReadsSeeWrites ≡ WritesInTime = p.1 in cc
    by (inr (inr p)) = true_false (sym (reads-hold run sentence) ∙ p.0)

-- and all three are true
pub no-run-breaks-one : NoRunBreaksOne
no-run-breaks-one run = by (versions-of run) (time-of run) (reads-of run)
    (versions-hold run one-version-is-one-write) (time-holds run writes-follow-time) (reads-hold run reads-see-acknowledged-writes)
  where
    by : (a b c : Bool) → a ≡ true → b ≡ true → c ≡ true →
        unless a OneVersionOneWrite ++ unless b WritesInTime ++ unless c ReadsSeeWrites ≡ []
    by a b c x y z = ap (λ t. unless t OneVersionOneWrite ++ unless b WritesInTime ++ unless c ReadsSeeWrites) x
        ∙ (ap (λ t. unless t WritesInTime ++ unless c ReadsSeeWrites) y ∙ ap (λ t. unless t ReadsSeeWrites) z)
