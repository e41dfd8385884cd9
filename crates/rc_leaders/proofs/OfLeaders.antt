-- What is promised of processes, of the one life of leaders.
use Rattle.std.proofs.Common.{◌≡◌, List, ◌++◌, sym, subst}
use Rattle.rc_types.specs.declared.events.Setup.{Setup}
use Rattle.rc_types.specs.declared.messages.Message.{Message}
use Rattle.rc_model.specs.Headline.{HasAcknowledged, WasAccepted}
use Rattle.rc_history.specs.Apart.{sent_by}
use Rattle.rc_history.specs.Processes.{Processes, Happening, new_processes, MayAll, after_all}
use Rattle.rc_history.specs.LifeClaims.{HasHistory, GoesOn}
use Rattle.rc_history.proofs.Telling.{has-history}
use Rattle.rc_history.proofs.Since.{stays-left}
use Rattle.rc_promises.specs.Service.{EachIsOneWrite, EachWasSent, FollowsTime}
use Rattle.rc_promises.specs.OfProcesses.{HadAsked, HasAnswered}
use Rattle.rc_promises.proofs.OfProcesses.{no-breach-of-processes, nothing-is-missing-of-processes, strong-of-processes}
use Rattle.rc_promises.proofs.OfProcesses.{one-write-of-processes, written-of-processes, time-of-processes, reads-of-processes}
use Rattle.rc_promises.proofs.LinearProcesses.{linearizable-of-processes, each-write-of-processes, what-leaves-was-done}
use Rattle.rc_leaders.specs.Leaders.{Event, new_cluster}
use Rattle.rc_leaders.specs.Claims.{happenings_of, lives_of, all_in_lives, cluster_of}
use Rattle.rc_leaders.specs.OfLeaders.{MayBe, HeadlineOfLeaders, ServedByLeaders, TimeOfLeaders, LinearizableOfLeaders}
use Rattle.rc_leaders.specs.OfLeaders.{EachWriteOfLeaders, WhatLeavesThemWasDone}
use Rattle.rc_leaders.proofs.Leading.{one-life, go-on, may-first}

history : (setup : Setup) (events : List Event) → MayBe setup events → HasHistory setup (lives_of setup events)
history setup events may = has-history setup (happenings_of setup events) (one-life setup events may).may

pub headline-of-leaders : HeadlineOfLeaders
headline-of-leaders setup events may =
    let lives : Processes = lives_of setup events in
    let told : HasHistory setup lives = history setup events may in
    let left = (one-life setup events may).left in
    record {
      history = told;
      no_breach = no-breach-of-processes setup lives told;
      there = λ plan was ack has.
          nothing-is-missing-of-processes setup lives told plan (subst (λ (l : List Message). WasAccepted l plan) (sym left) was) ack
          (subst (λ (l : List Message). HasAcknowledged l plan.master ack) (sym left) has);
      strong = λ free plan was ack has.
          strong-of-processes setup lives told free plan (subst (λ (l : List Message). WasAccepted l plan) (sym left) was) ack
          (subst (λ (l : List Message). HasAcknowledged l plan.master ack) (sym left) has);
    }

pub served-by-leaders : ServedByLeaders
served-by-leaders setup events may =
    let lives : Processes = lives_of setup events in
    let told : HasHistory setup lives = history setup events may in
    let left = (one-life setup events may).left in
    record {
      history = told;
      once = subst (λ (l : List Message). EachIsOneWrite l (sent_by told.steps)) left (one-write-of-processes setup lives told);
      written = subst (λ (l : List Message). EachWasSent setup l (sent_by told.steps)) left (written-of-processes setup lives told);
      reads = λ m answer has.
          reads-of-processes setup lives told m answer (subst (λ (l : List Message). HasAnswered l m answer) (sym left) has);
    }

pub time-of-leaders : TimeOfLeaders
time-of-leaders setup events more may =
    let then : Processes = lives_of setup events in
    let now : Processes = lives_of setup (events ++ more) in
    let early : List Happening = happenings_of setup events in
    let late : List Happening = all_in_lives setup (cluster_of setup events) more in
    let both : happenings_of setup (events ++ more) ≡ early ++ late = go-on setup events more in
    let goes : GoesOn setup then now =
    subst (λ (l : List Happening). GoesOn setup then (after_all setup (new_processes setup) l)) (sym both)
    (stays-left setup early late
    (subst (λ (l : List Happening). MayAll setup (new_processes setup) l) both (one-life setup (events ++ more) may).may)) in
    record {
      history = goes;
      time = subst (λ (l : List Message). FollowsTime l (HadAsked then) (sent_by (goes.steps ++ goes.more)))
          (one-life setup events (may-first setup (new_cluster setup) events more may)).left
          (time-of-processes setup then now goes);
    }

pub linearizable-of-leaders : LinearizableOfLeaders
linearizable-of-leaders setup events may = linearizable-of-processes setup (happenings_of setup events) (one-life setup events may).may

pub each-write-of-leaders : EachWriteOfLeaders
each-write-of-leaders setup events may = each-write-of-processes setup (happenings_of setup events) (one-life setup events may).may

pub what-leaves-them-was-done : WhatLeavesThemWasDone
what-leaves-them-was-done setup events may = what-leaves-was-done setup (happenings_of setup events) (one-life setup events may).may
