-- Sets of hosts: a bit for each index.
use Rattle.std.specs.Prelude.{ℕ, Bool, nat_lt, ◌&&◌}
use Rattle.rc_types.specs.declared.limits.TheConstants.{MAX_HOSTS}
use Rattle.rc_reading.specs.declared.hosts.Hosts.{Hosts}
use Rattle.rc_reading.specs.Bits.{with_bit, has_bit}

abbrev pub no_hosts : Hosts
no_hosts = record { bits = 0 }

abbrev pub with_host : Hosts → ℕ → Hosts
with_host hosts host = record { bits = with_bit hosts.bits host }

-- there is no host from MAX_HOSTS on
abbrev pub has_host : Hosts → ℕ → Bool
has_host hosts host = nat_lt host MAX_HOSTS && has_bit hosts.bits host
