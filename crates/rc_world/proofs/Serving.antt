-- What a client may rely on holds of every world.
use Rattle.std.proofs.Common.{◌≡◌, ◌≢◌, refl, ℕ, List, Option, None, Some, subst, arith}
use Rattle.std.specs.List.{slice_get}
use Rattle.std.specs.Prelude.{unwrap_or}
use Rattle.rc_model.specs.Model.{Setup, Event, replay, factor_of}
use Rattle.rc_step_laws.specs.WordClaims.{sent_after}
use Rattle.rc_promises.specs.Service.{IsWritten}
use Rattle.rc_promises.proofs.Once.{one-version-is-one-write, acknowledged-is-written}
use Rattle.rc_promises.proofs.Time.{writes-follow-time}
use Rattle.rc_promises.proofs.Reading.{reads-see-acknowledged-writes}
use Rattle.rc_step_laws.proofs.Entries.{All-get}
use Rattle.rc_world.specs.HostView.{IsFactor, IsWithinLimits}
use Rattle.rc_world.specs.Served.{IsServed}

-- what is a factor is no zero
factor-is-some : (factor : ℕ) → IsFactor factor → factor ≢ 0
factor-is-some factor within = omega (arith, within.0)

-- the number that is given, or else the other one
one-of : (setup : Setup) (given : Option ℕ) → IsFactor setup.factor →
    ((factor : ℕ) → given ≡ Some factor → IsFactor factor) → IsFactor (unwrap_or given setup.factor)
one-of setup None other each = other
one-of setup (Some factor) other each = each factor refl

-- within the limits each host's segments have replicas
pub has-replicas : (setup : Setup) → IsWithinLimits setup → (index : ℕ) → factor_of setup index ≢ 0
has-replicas setup limits index =
    factor-is-some (factor_of setup index) (one-of setup (slice_get setup.factors index) limits.factor
    (λ factor given. All-get IsFactor setup.factors index factor limits.factors given))

pub is-served : (setup : Setup) (events : List Event) → IsWithinLimits setup →
    IsServed (record { setup = setup; events = events }) (replay setup events).sent
is-served setup events limits = record {
  once = λ m ack acked. one-version-is-one-write setup events m ack acked;
  written = λ m ack acked. acknowledged-is-written setup events m ack (has-replicas setup limits m.index) acked;
  ordered = λ earlier more whole m x first later entry acked written of_key unasked.
      let Written : List Event → Type 0 = λ all. IsWritten (sent_after setup all) x later entry in
      writes-follow-time setup earlier more m x first later entry acked (subst Written whole written) of_key unasked;
  seen = λ m before answer read. reads-see-acknowledged-writes setup events m before answer read;
}
