-- What is true of a world's fields stays true after one more event.
use Rattle.std.proofs.Common.{◌≡◌, ℕ, ◌<◌, ◌≤◌, Bool, true, ◌&&◌, nat_lt, List, [], ◌∷◌, ◌++◌, length, refl, sym}
use Rattle.std.proofs.Common.{subst, ◌∙◌, length-append, arith}
use Rattle.std.proofs.lemmas.Bool.Decides.{nat_tests}
use Rattle.rc_model.specs.Model.{MAX_EVENTS, Setup, Event, Message, World, is_possible, job_done, job_of, replay}
use Rattle.rc_coordinator.specs.Book.{coordinator_of}
use Rattle.rc_world.specs.HostView.{IsWithinLimits}
use Rattle.rc_world.specs.WorldView.{hosts_of, world_of, IsSame}
use Rattle.rc_world.specs.WorldHolds.{WorldHolds}
use Rattle.rc_world.specs.Happened.{opened, with_events, can_happen, AllHappen}
use Rattle.rc_world.specs.declared.nodes.Nodes.{Nodes}
use Rattle.rc_world.proofs.Runs.{AllHappen-push}
use Rattle.rc_world.proofs.Steps.{goes_on, possible-same}

both : (a b : Bool) → a ≡ true → b ≡ true → (a && b) ≡ true
both a b ha hb = rw (ha, hb) refl

below : (n m : ℕ) → n < m → nat_lt n m ≡ true
below n m h = grind (arith, nat_tests)

-- what is possible in the world of the fields can happen
pub happens : (setup : Setup) (events : List Event) (event : Event) (world : World) → IsSame world (replay setup events) →
    length events < MAX_EVENTS → is_possible world event ≡ true → can_happen (with_events (opened setup) events) event ≡ true
happens setup events event world same few possible =
    both (nat_lt (length events) MAX_EVENTS) (is_possible (replay setup events) event)
    (below (length events) MAX_EVENTS few) (sym (possible-same world (replay setup events) event same) ∙ possible)

few-more : (events : List Event) (event : Event) → length events < MAX_EVENTS → length (events ++ event ∷ []) ≤ MAX_EVENTS
few-more events event few = omega (arith, length-append events (event ∷ []))

pub holds_on : {A : Type 0} (old new : Nodes A) (sent seen after : List Message) (events : List Event) (event : Event) →
    WorldHolds old sent events → length events < MAX_EVENTS → seen ≡ sent → is_possible (world_of old seen) event ≡ true →
    new.setup ≡ old.setup →
    hosts_of new.setup new.hosts ≡ (job_done (world_of old sent) event (job_of sent event)).hosts →
    coordinator_of new.coordinator ≡ (job_done (world_of old sent) event (job_of sent event)).coordinator →
    after ≡ (job_done (world_of old sent) event (job_of sent event)).sent →
    WorldHolds new after (events ++ event ∷ [])
holds_on old new sent seen after events event holds few same_list possible_seen setup hosts coordinator says =
    let possible : is_possible (world_of old sent) event ≡ true =
    subst (λ (xs : List Message). is_possible (world_of old xs) event ≡ true) same_list possible_seen in
    let one : IsSame (world_of new after) (job_done (world_of old sent) event (job_of sent event)) =
    record { sent = says; hosts = hosts; coordinator = coordinator } in
    let two : IsSame (world_of new after) (replay old.setup (events ++ event ∷ [])) =
    goes_on old.setup events event (world_of old sent) (world_of new after) holds.same possible one in
    let all : AllHappen (opened old.setup) (events ++ event ∷ []) =
    AllHappen-push (opened old.setup) events event holds.possible
    (happens old.setup events event (world_of old sent) holds.same few possible) in
    record {
      same = subst (λ (s : Setup). IsSame (world_of new after) (replay s (events ++ event ∷ []))) (sym setup) two;
      limits = subst (λ (s : Setup). IsWithinLimits s) (sym setup) holds.limits;
      possible = subst (λ (s : Setup). AllHappen (opened s) (events ++ event ∷ [])) (sym setup) all;
      few = few-more events event few;
    }
