-- What holds of terms holds of every world that a list of events leads to.
use Rattle.std.proofs.Common.{arith}
use Rattle.std.proofs.Common.{◌≡◌, List, [], ◌∷◌, ◌++◌, Option, Some, None, refl, sym, subst}
use Rattle.rc_model.specs.Model.{Setup, Event, NodeWork, outside_sends, host_step, World, opening, NodeName, TheOutside}
use Rattle.rc_model.specs.Model.{TheCoordinator, TheHost, Job, job_of, node_done, job_done, step, replay_from, replay}
use Rattle.rc_step_laws.proofs.Replays.{GoodWorld, IsGiven, job_of-given, taken-at, good-world}
use Rattle.rc_owner_laws.proofs.OwnerReplays.{OfWorld, grants-world, later-coordinator}
use Rattle.rc_owner_laws.specs.Terms.{GoodTerms}
use Rattle.rc_owner_laws.proofs.Keeping.{terms-more}
use Rattle.rc_owner_laws.proofs.TermSteps.{keeps-work, new-terms}
use Rattle.rc_step_laws.proofs.LogMoves.{more-left}

abbrev pub TermsOf : World → Type 0
TermsOf world = GoodTerms world.sent world.coordinator

terms-node : (world : World) (one : Event) (node : NodeName) (work : NodeWork) → GoodWorld world → OfWorld world →
    TermsOf world → IsGiven world.sent node work → TermsOf (node_done world one node work)
terms-node world one TheOutside work good grants terms given = terms-more (more-left world.sent (outside_sends work)) terms
terms-node world one TheCoordinator work good grants terms given =
    search (arith, terms-more, more-left, keeps-work, taken-at, later-coordinator)
terms-node world one (TheHost i) work good grants terms given = terms-more
    (more-left world.sent (host_step (world.hosts i) work).1) terms

terms-job : (world : World) (one : Event) (found : Option Job) → job_of world.sent one ≡ found → GoodWorld world →
    OfWorld world → TermsOf world → TermsOf (job_done world one found)
terms-job world one None is good grants terms = terms
terms-job world one (Some job) is good grants terms =
    terms-node world one job.node job.work good grants terms (job_of-given world.sent one is)

terms-step : (world : World) (one : Event) → GoodWorld world → OfWorld world → TermsOf world → TermsOf (step world one)
terms-step world one good grants terms = search (arith, terms-job)

-- the events one after another
replay-one : (world : World) (events : List Event) (one : Event) →
    replay_from world (events ++ one ∷ []) ≡ step (replay_from world events) one
replay-one world [] one = refl
replay-one world (first ∷ events) one = replay-one (step world first) events one

terms-from : (setup : Setup) (before events : List Event) → TermsOf (replay setup before) →
    TermsOf (replay_from (replay setup before) events)
terms-from setup before [] terms = terms
terms-from setup before (one ∷ events) terms =
    let same : replay setup (before ++ one ∷ []) ≡ step (replay setup before) one = replay-one (opening setup) before one in
    subst (λ (world : World). TermsOf (replay_from world events)) same (terms-from setup (before ++ one ∷ []) events
    (subst TermsOf (sym same) (terms-step (replay setup before) one (good-world setup before)
    (grants-world setup before) terms)))

-- they hold of every world
pub terms-world : (setup : Setup) (events : List Event) → TermsOf (replay setup events)
terms-world setup events = terms-from setup [] events new-terms
