-- Breaches, counted event by event.
use Rattle.std.proofs.Common.{◌≡◌, ℕ, ◌+◌, List, take, refl, ap, sym, ◌∙◌, add-one}
use Rattle.rc_types.specs.declared.events.Setup.{Setup}
use Rattle.rc_types.specs.declared.events.Event.{Event}
use Rattle.rc_runs.specs.Stops.{breaches_at, breaches_of}

pub breaches_none : (setup : Setup) (hosts : ℕ) (events : List Event) → breaches_of setup hosts events 0 ≡ 0
unfolding breaches_of
breaches_none setup hosts events = refl

breaches_more : (setup : Setup) (hosts : ℕ) (events : List Event) (n : ℕ)
    → breaches_of setup hosts events (n + 1) ≡ breaches_of setup hosts events n + breaches_at setup hosts (take (n + 1) events)
unfolding breaches_of
breaches_more setup hosts events n = rw add-one refl

-- one event more
pub counted_more : (setup : Setup) (hosts : ℕ) (events those : List Event) (n before count : ℕ)
    → before ≡ breaches_of setup hosts events n → those ≡ take (n + 1) events → count ≡ breaches_at setup hosts those
    → before + count ≡ breaches_of setup hosts events (n + 1)
counted_more setup hosts events those n before count so_far same counted =
    ap (λ m. m + count) so_far
    ∙ ap (λ m. breaches_of setup hosts events n + m) (counted ∙ ap (breaches_at setup hosts) same)
    ∙ sym (breaches_more setup hosts events n)
