-- A run in which the servers of hosts have stopped: the mail still fits the world.
use Rattle.std.proofs.Common.{◌≡◌, ℕ, zero, suc, Bool, true, false, if◌then◌else◌, List, [], ◌∷◌, ◌++◌, refl, sym, subst}
use Rattle.rc_types.specs.declared.events.Event.{Event}
use Rattle.rc_types.specs.declared.events.Event.TheVariants.{Stop}
use Rattle.rc_model.specs.Nodes.{HostNode}
use Rattle.rc_runs.specs.Delivered.{delivers}
use Rattle.rc_runs.specs.Letters.{Letters}
use Rattle.rc_runs.proofs.Deliveries.{waits_other}
use Rattle.rc_world.specs.Happened.{Happened, replayed, with_events, AllHappen}
use Rattle.rc_world.specs.Stops.{newest_at, runs_at, stops_below}
use Rattle.rc_world.proofs.Runs.{with_events-nil, with_events-append}
use Rattle.rc_runs.specs.RunHolds.{RunHolds}
use Rattle.rc_runs.proofs.Steppings.{holds_after}

-- none of these events delivers a message
abbrev AreQuiet : List Event → Type 0
AreQuiet [] = Unit {0}
AreQuiet (one ∷ events) = ((n : ℕ) → delivers n one ≡ false) × AreQuiet events

quiet-append : (events more : List Event) → AreQuiet events → AreQuiet more → AreQuiet (events ++ more)
quiet-append [] more quiet quiet_too = quiet_too
quiet-append (one ∷ events) more quiet quiet_too = (quiet.0, quiet-append events more quiet.1 quiet_too)

stops-quiet : (hosts : ℕ → HostNode) (n : ℕ) → AreQuiet (stops_below hosts n)
unfolding stops_below
stops-quiet hosts zero = tt
stops-quiet hosts (suc n) = quiet-append (stops_below hosts n) _ (stops-quiet hosts n) (by (runs_at hosts n))
  where
    by : (b : Bool) → AreQuiet (if b then Stop (newest_at hosts n) ∷ [] else [])
    by true = ((λ n. refl), tt)
    by false = tt

holds_through : (world : Happened) (events : List Event) (mail : Letters) → AreQuiet events → RunHolds world mail →
    AllHappen world events → RunHolds (with_events world events) mail
holds_through world [] mail quiet holds all = subst (λ w. RunHolds w mail) (sym (with_events-nil world)) holds
holds_through world (one ∷ events) mail quiet holds all =
    let next = with_events world (one ∷ []) in
    let after = holds_after world next one mail holds.taken refl all.0
    (λ more. waits_other (replayed world).events (replayed world).sent more one mail holds.waits quiet.0) in
    subst (λ w. RunHolds w mail) (sym (with_events-append world (one ∷ []) events))
    (holds_through next events mail quiet.1 after all.1)

pub holds_stopped : (hosts : ℕ → HostNode) (n : ℕ) (world after : Happened) (mail copy : Letters) → RunHolds world mail →
    copy ≡ mail → after ≡ with_events world (stops_below hosts n) → AllHappen world (stops_below hosts n) → RunHolds after copy
holds_stopped hosts n world after mail copy holds same gone_on all =
    rw (gone_on, same) (holds_through world (stops_below hosts n) mail (stops-quiet hosts n) holds all)
