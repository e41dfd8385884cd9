-- Where masters free nothing, an accepted recovery holds each safe place.
use Rattle.std.proofs.Common.{◌≡◌, ◌⊎◌, ℕ, ◌<◌, ◌≤◌, false, List, take, sym, subst, inl, inr, arith}
use Rattle.std.proofs.lemmas.Bool.{cases_order}
use Rattle.rc_model.specs.Model.{ServerId, Setup, Event, PlanRow, Master, World, replay, Accepted, In, WasAccepted, IsHeld}
use Rattle.rc_step_laws.specs.Facts.{IsSafe, IsWriteOk}
use Rattle.rc_step_laws.proofs.Covers.{PlanIs, held-in, head-not-below}
use Rattle.rc_step_laws.proofs.Clauses.{accepted-is, acknowledged-is, safe-there}
use Rattle.rc_step_laws.proofs.Replays.{GoodWorld, good-world}
use Rattle.rc_step_laws.specs.KeptClaims.{NothingIsDroppedWhereNothingIsFreed, DurableIsHeldWhereNothingIsFreed}
use Rattle.rc_step_laws.proofs.Since.{since-take}
use Rattle.rc_step_laws.proofs.SafePlaces.{stored-is-safe}
use Rattle.rc_step_laws.proofs.EachMaster.{IsKeptByAll, kept-replay}
use Rattle.rc_step_laws.proofs.Keeping.{Keeps, keeps-takes, keeps-ticks}

-- each master that ever ran keeps all
abbrev KeepsAll : (ServerId → Master) → Type 0
KeepsAll masters = (m : ServerId) → Keeps (masters m)

keeps-kept : {setup : Setup} → setup.free ≡ false → IsKeptByAll setup (λ sent m master. Keeps master)
keeps-kept free = search (arith, keeps-takes, keeps-ticks)

keeps-world : (setup : Setup) (events : List Event) → setup.free ≡ false → KeepsAll (replay setup events).masters
keeps-world setup events free m = kept-replay setup (λ sent m master. Keeps master) (keeps-kept free) events m

-- Each safe place is held

safe-held : (world : World) → GoodWorld world → KeepsAll world.masters → (m : ServerId) (rows : List PlanRow) →
    PlanIs world.sent world.masters world.coordinator m rows → (s o : ℕ) →
    IsSafe world.sent m (world.masters m).log s o → IsHeld rows s o
safe-held world good k m rows plan s o safe = by (cases_order plan.row.seg s)
  where
    upto : s ≤ plan.row.seg → IsHeld rows s o
    upto less = held-in world.sent world.masters world.hosts world.coordinator good m rows plan s o safe
        (subst (λ (ns : List ℕ). In s ns) (sym plan.head_copy.digest_is)
        ((k m).whole plan.row.seg s plan.head_copy.opened.below safe.opened.above less))

    by : (plan.row.seg ≡ s) ⊎ ((plan.row.seg < s) ⊎ (s < plan.row.seg)) → IsHeld rows s o
    by (inl same) = upto (omega arith)
    by (inr (inl below)) = absurd (head-not-below good plan.head plan.head_copy plan.unclosed plan.valid
        (safe.below plan.row.seg plan.head_copy.opened.above below))
    by (inr (inr above)) = upto (omega arith)

-- where nothing is freed
pub safe-is-held : (setup : Setup) (events : List Event) → setup.free ≡ false → (m : ServerId) (rows : List PlanRow) →
    PlanIs (replay setup events).sent (replay setup events).masters (replay setup events).coordinator m rows →
    (s o : ℕ) → IsSafe (replay setup events).sent m ((replay setup events).masters m).log s o → IsHeld rows s o
safe-is-held setup events free = safe-held (replay setup events) (good-world setup events) (keeps-world setup events free)

plan-of : (world : World) → GoodWorld world → {plan : Accepted} → WasAccepted world.sent plan →
    PlanIs world.sent world.masters world.coordinator plan.master plan.rows
plan-of world good accepted = accepted-is good accepted

pub nothing-is-dropped : NothingIsDroppedWhereNothingIsFreed
nothing-is-dropped setup events free plan accepted ack acked = record {
  held = safe-held (replay setup events) good (keeps-world setup events free) plan.master plan.rows
      (plan-of (replay setup events) good accepted) ack.seg ack.offset write.safe;
  only = (safe-there good accepted write).only;
}
  where
    good : GoodWorld (replay setup events)
    good = good-world setup events

    write : IsWriteOk (replay setup events).sent plan.master ((replay setup events).masters plan.master).log ack.seg
        ack.offset ack.term ack.table ack.key ack.version
    write = acknowledged-is good acked

pub durable-is-held : DurableIsHeldWhereNothingIsFreed
durable-is-held setup events free m s o durable plan accepted same =
    safe-held (replay setup events) (good-world setup events) (keeps-world setup events free) plan.master plan.rows
    (plan-of (replay setup events) (good-world setup events) accepted) s o
    (subst (λ (n : ServerId). IsSafe (replay setup events).sent n ((replay setup events).masters n).log s o) (sym same)
    ((since-take setup events durable.moment).safe s o (stored-is-safe setup (take durable.moment events) m s o durable.stored)))
