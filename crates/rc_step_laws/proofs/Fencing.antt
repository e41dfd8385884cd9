-- Who has answered about a master tells it no more.
use Rattle.std.proofs.Common.{◌≡◌, ◌⊎◌, ℕ, ◌≤◌, Bool, true, List, [], ◌∷◌, sym, ap, ◌∙◌, subst, inl, inr, arith}
use Rattle.rc_model.specs.Model.{ServerId, Row, Event, Body, Stored, Replicas, between, to_coordinator, Attempt, World, opening, step}
use Rattle.rc_model.specs.Model.{replay_from, replay, In}
use Rattle.rc_step_laws.specs.All.{held_at, IsOf, IsAnswer, body_fine, IsNewStored}
use Rattle.rc_step_laws.proofs.Attempting.{numbered-same}
use Rattle.rc_step_laws.proofs.Replays.{GoodWorld, GoodStep, led-step, good-world}
use Rattle.rc_step_laws.specs.LogClaims.{WasGathered, FencesHold, WhoAnsweredIsFenced}
use Rattle.rc_step_laws.proofs.Since.{replay_from-append}

-- an answer about this master: it is fenced as long as the server is its host's last
pub answer-about : (world : World) (y m : ServerId) (number : ℕ) (rows : List Row) → GoodWorld world →
    WasGathered world.sent number m → In (to_coordinator y (Replicas number rows)) world.sent →
    (y.generation ≤ (world.hosts y.index).generation) × (y.generation ≡ (world.hosts y.index).generation →
    (held_at world.hosts y.index m).fenced ≡ true)
answer-about world y m number rows good asked at =
    (answer.since, λ same. subst (λ (n : ServerId). (held_at world.hosts y.index n).fenced ≡ true) of_m (answer.fenced same))
  where
    answer : IsAnswer world.sent world.masters world.hosts world.coordinator y number rows
    answer = good.messages (to_coordinator y (Replicas number rows)) at

    fine : body_fine world.sent world.masters world.hosts world.coordinator asked.message.from asked.message.to asked.message.body
    fine = good.messages asked.message asked.among

    is_of : IsOf world.coordinator.attempts number m
    is_of = subst (λ (body : Body). body_fine world.sent world.masters world.hosts world.coordinator asked.message.from
        asked.message.to body) asked.says fine

    of_m : answer.master ≡ m
    of_m =
        let same : answer.attempt.attempt ≡ is_of.attempt = numbered-same answer.attempt.numbered is_of.numbered in
        sym answer.attempt.master_is ∙ (ap (λ (one : Attempt). one.master) same ∙ is_of.master_is)

-- so it tells nothing new
told-before : (old new : World) (y m : ServerId) (number : ℕ) (rows : List Row) → GoodWorld old → GoodStep old new →
    WasGathered old.sent number m → In (to_coordinator y (Replicas number rows)) old.sent →
    (s e len : ℕ) (closed : Bool) → In (between y m (Stored s e len closed)) new.sent → In (between y m (Stored s e len closed)) old.sent
told-before old new y m number rows good led asked at s e len closed told = by (led.onward.stored y m s e len closed told)
  where
    known : (y.generation ≤ (old.hosts y.index).generation) × (y.generation ≡ (old.hosts y.index).generation →
        (held_at old.hosts y.index m).fenced ≡ true)
    known = answer-about old y m number rows good asked at

    never : IsNewStored old.hosts y m → ⊥
    never fresh = search (arith, known)

    by : In (between y m (Stored s e len closed)) old.sent ⊎ IsNewStored old.hosts y m → In (between y m (Stored s e len closed)) old.sent
    by (inl there) = there
    by (inr fresh) = absurd (never fresh)

fences-from : (world : World) (more : List Event) (y m : ServerId) (number : ℕ) (rows : List Row) → GoodWorld world →
    WasGathered world.sent number m → In (to_coordinator y (Replicas number rows)) world.sent →
    (s e len : ℕ) (closed : Bool) → In (between y m (Stored s e len closed)) (replay_from world more).sent →
    In (between y m (Stored s e len closed)) world.sent
fences-from world [] y m number rows good asked at s e len closed told = told
fences-from world (one ∷ more) y m number rows good asked at s e len closed told =
    told-before world (step world one) y m number rows good led asked at s e len closed
    (fences-from (step world one) more y m number rows led.good
    (record { message = asked.message; among = led.onward.more asked.message asked.among; says = asked.says })
    (led.onward.more (to_coordinator y (Replicas number rows)) at) s e len closed told)
  where
    led : GoodStep world (step world one)
    led = led-step world one good

pub fences-hold : FencesHold
fences-hold setup events more y m number rows asked at s e len closed told =
    fences-from (replay setup events) more y m number rows (good-world setup events) asked at s e len closed
    (subst (λ (world : World). In (between y m (Stored s e len closed)) world.sent) (replay_from-append (opening setup) events more) told)

pub who-answered-is-fenced : WhoAnsweredIsFenced
who-answered-is-fenced setup events y m number rows asked at same =
    (answer-about (replay setup events) y m number rows (good-world setup events) asked at).1 same
