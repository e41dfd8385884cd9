-- What a reader of the definitions of the sets would expect.
use Rattle.std.specs.Prelude.{◌≡◌, ℕ, ◌<◌, ◌||◌, nat_eq}
use Rattle.rc_types.specs.declared.limits.TheConstants.{MAX_HOSTS}
use Rattle.rc_reading.specs.declared.hosts.Hosts.{Hosts}
use Rattle.rc_types.specs.declared.messages.Kind.{Kind}
use Rattle.rc_reading.specs.declared.kinds.Kinds.{Kinds}
use Rattle.rc_reading.specs.Hosts.{has_host, with_host}
use Rattle.rc_types.specs.Kinds.{kind_number}
use Rattle.rc_reading.specs.Kinds.{has_kind, with_kind}

-- a host is in a set with one more where it is that one or was in it before
abbrev pub HostsAreSets : Type 0
HostsAreSets = (hosts : Hosts) (put host : ℕ) → host < MAX_HOSTS →
    has_host (with_host hosts put) host ≡ (nat_eq host put || has_host hosts host)

-- and so is a kind
abbrev pub KindsAreSets : Type 0
KindsAreSets = (kinds : Kinds) (put kind : Kind) →
    has_kind (with_kind kinds put) kind ≡ (nat_eq (kind_number kind) (kind_number put) || has_kind kinds kind)
