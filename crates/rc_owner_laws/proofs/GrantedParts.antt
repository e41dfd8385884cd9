-- A part that is complete is told of at each Tick: obeying the list changes nothing that the parts read.
use Rattle.std.proofs.Common.{arith}
use Rattle.std.proofs.Common.{◌≡◌, ℕ, Bool, true, false, not, cond, ◌&&◌, List, [], ◌∷◌, ◌++◌, Option}
use Rattle.std.proofs.Common.{Some, None, refl}
use Rattle.std.proofs.Common.{sym, ap, ◌∙◌, subst}
use Rattle.std.proofs.lemmas.Bool.{and_parts}
use Rattle.std.specs.Prelude.{is_some}
use Rattle.rc_model.specs.Model.{ServerId, Server, Setup, Event, Message, Recovered, Enlist, to_coordinator, is_up, Part}
use Rattle.rc_model.specs.Model.{PartState, Log, Master, owns_term, places_of, then_does}
use Rattle.rc_model.specs.Model.{obeys_list, ticks, goes_on, HostNode, host_step, replay, In}
use Rattle.rc_model.specs.FollowUps.{attempt_of}
use Rattle.rc_model.specs.MasterStep.{master_ticks}
use Rattle.rc_model.specs.MasterTick.{reminds_open, reminds_shut, commits_again, fetches_again, recovered_again, ready_again}
use Rattle.rc_model.specs.MasterTick.{awaits_grant, reminds}
use Rattle.rc_model.specs.Log.{numbers_to}
use Rattle.rc_model.specs.Nodes.{Tick, ticks_if_running}
use Rattle.rc_model.proofs.Ids.{same_id-true}
use Rattle.rc_model.proofs.LogSteps.{obeys-leads}
use Rattle.rc_model.proofs.Members.{In-left, In-right, filter-In, map-In}
use Rattle.rc_model.proofs.Tests.{true_false}
use Rattle.rc_model.proofs.Walk.{Joined, Listed, kept-obeys}
use Rattle.rc_step_laws.proofs.Replays.{GoodWorld, good-world}
use Rattle.rc_owner_laws.specs.Parts.{part_view, IsPart, WasPlanned, GoodParts}
use Rattle.rc_owner_laws.specs.Recoveries.{IsPlanned, PlannedPartsCanBeGranted}
use Rattle.rc_owner_laws.specs.TermClaims.{Issue, issue_of, WasIssued}
use Rattle.rc_owner_laws.proofs.Issued.{terms-are-issued-once}
use Rattle.rc_owner_laws.proofs.PartPlaces.{same-loses, same-opens}
use Rattle.rc_owner_laws.proofs.VersionReplays.{all-world}
use Rattle.rc_owner_laws.specs.GrantClaims.{AwaitsOwn, DurablePartsAreGranted}

-- What the list rules leave

-- the places of the log, how many of them are durable, the parts and the tasks are as they were
record SameParts (old : Master) (after : Master × List Message) : Type 0 where
  places : places_of after.0.log ≡ places_of old.log
  durable : after.0.log.durable ≡ old.log.durable
  ownership : after.0.ownership ≡ old.ownership
  tasks : after.0.tasks ≡ old.tasks

parts-joined : Joined SameParts
parts-joined = search arith

parts-listed : Listed SameParts
parts-listed = search (arith, same-loses, same-opens)

same-obeyed : {master : Master} → SameParts master (obeys_list master)
same-obeyed {master} = kept-obeys SameParts parts-joined parts-listed master

-- so the same parts await their grant
same-awaits : (master : Master) (state : PartState) → awaits_grant (obeys_list master).0 state ≡ awaits_grant master state
same-awaits master state = search (arith, same-obeyed)

-- What a Tick sends

-- each part that awaits its grant is told of
again : (master : Master) (state : PartState) → In state master.ownership.parts → awaits_grant master state ≡ true →
    In (to_coordinator master.log.own (Recovered (attempt_of state.part.term master.tasks) state.part.term))
    (recovered_again master)
again master state among awaits = search (arith, map-In, filter-In)

in-reminds : (before : Log) (master : Master) (message : Message) → In message (recovered_again master) →
    In message (reminds before master).1
in-reminds before master message among = In-left message
    (reminds_open before master.log (numbers_to master.log.head) ++ reminds_shut before master.log (numbers_to master.log.head)
    ++ commits_again master.log ++ fetches_again master master.tasks ++ recovered_again master) (ready_again master)
    (In-right message
    (reminds_open before master.log (numbers_to master.log.head) ++ reminds_shut before master.log (numbers_to master.log.head)
    ++ commits_again master.log ++ fetches_again master master.tasks) (recovered_again master) among)

-- a master that isn't deposed and is up by its list sends it
module _ (master : Master) (state : PartState) where
  abbrev after : Master
  after = (obeys_list master).0

  abbrev message : Message
  message = to_coordinator master.log.own (Recovered (attempt_of state.part.term master.tasks) state.part.term)

  same : SameParts master (obeys_list master)
  same = same-obeyed

  told-again : In state master.ownership.parts → awaits_grant master state ≡ true → In message (recovered_again after)
  told-again among awaits = search (arith, obeys-leads, same, again, same-awaits)

  ticked : master.deposed ≡ false → (master_ticks master).1 ≡ (then_does (ticks master) goes_on).1
  ticked undeposed = ap (λ (b : Bool). (cond b (master, []) (then_does (ticks master) goes_on)).1) undeposed

  obeyed : is_up master.known master.log.own ≡ true → (then_does (ticks master) goes_on).1 ≡
      (then_does (then_does (obeys_list master) (reminds master.log)) goes_on).1
  obeyed listed = ap (λ (b : Bool). (then_does (cond b (then_does (obeys_list master) (reminds master.log))
      (master, to_coordinator master.log.own Enlist ∷ [])) goes_on).1) listed

  in-ticks : master.deposed ≡ false → is_up master.known master.log.own ≡ true → In state master.ownership.parts →
      awaits_grant master state ≡ true → In message (master_ticks master).1
  in-ticks undeposed listed among awaits =
      subst (λ (sent : List Message). In message sent) (sym (ticked undeposed ∙ obeyed listed))
      (In-left message ((obeys_list master).1 ++ (reminds master.log after).1) (goes_on (reminds master.log after).0).1
      (In-right message (obeys_list master).1 (reminds master.log after).1
      (in-reminds master.log after message (told-again among awaits))))

-- All of it

a-master : (found : Option Master) → is_some found ≡ true → (master : Master) × (found ≡ Some master)
a-master None e = true_false (sym e)
a-master (Some master) e = (master, refl)

module _ (setup : Setup) (events : List Event) (m crashed : ServerId) (number : ℕ) (state : PartState)
    (plan : IsPlanned (replay setup events).sent m number crashed state.part) (p : AwaitsOwn setup events m state) where
  abbrev host : HostNode
  host = (replay setup events).hosts m.index

  abbrev master : Master
  master = (replay setup events).masters m

  good : GoodWorld (replay setup events)
  good = good-world setup events

  own : master.log.own ≡ m
  own = (good.masters_are m).own

  -- its host's master is the last view of it
  running : host.master ≡ Some master
  running = search (arith, and_parts, a-master, same_id-true, good)

  -- the attempt that it names is the one in which the part was planned
  parts-good : GoodParts (replay setup events).sent m (part_view master)
  parts-good = (all-world setup events).parts.each m

  part : IsPart (replay setup events).sent m (part_view master) state
  part = parts-good.parts_are state p.among

  was : WasPlanned (replay setup events).sent m part.task
  was = parts-good.planned part.task part.among

  issued : WasIssued (replay setup events).sent (issue_of (Server m) number state.part)
  issued = record {
    message = _;
    among = plan.planned;
    says = map-In (issue_of (Server m) number) state.part plan.parts plan.among;
  }

  issued-too : WasIssued (replay setup events).sent (issue_of (Server m) part.task.attempt part.task.part)
  issued-too = search (arith, was, part, map-In)

  once : issue_of (Server m) number state.part ≡ issue_of (Server m) part.task.attempt part.task.part
  once = terms-are-issued-once setup events _ _ issued issued-too (ap (λ (one : Part). one.term) (sym part.part_is))

  attempt : attempt_of state.part.term master.tasks ≡ number
  attempt = part.attempt_is ∙ sym (ap (λ (one : Issue). one.attempt) once)

  awaits : awaits_grant master state ≡ true
  awaits = ap (λ (b : Bool). b && not (owns_term master.ownership state.part.term)) p.complete
      ∙ ap (λ (b : Bool). not b) p.unowned

  told : In (to_coordinator m (Recovered number state.part.term)) (host_step host Tick).1
  told = subst (λ (sent : List Message). In (to_coordinator m (Recovered number state.part.term)) sent)
      (sym (ap (λ (found : Option Master). (ticks_if_running host found).1) running))
      (subst (λ (message : Message). In message (master_ticks master).1)
      (ap (λ (id : ServerId). to_coordinator id (Recovered (attempt_of state.part.term master.tasks) state.part.term)) own
      ∙ ap (λ (n : ℕ). to_coordinator m (Recovered n state.part.term)) attempt)
      (in-ticks master state p.undeposed (ap (λ (id : ServerId). is_up master.known id) own ∙ p.listed) p.among awaits))

pub durable-parts-are-granted : PlannedPartsCanBeGranted → DurablePartsAreGranted
durable-parts-are-granted can setup events m crashed number state plan p = record {
  told = told setup events m crashed number state plan p;
  granted = can setup events m number crashed state.part plan;
}
