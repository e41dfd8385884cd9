-- How many places have become durable.
use Rattle.std.specs.Prelude.{ℕ, nat_lt, if◌then◌else◌}
use Rattle.rc_headroll.specs.declared.durable.Counted.{Counted}

-- a step begins where so many have
abbrev pub counted_anew : ℕ → Counted
counted_anew count = record { now = count; before = count }

-- so many are durable at this moment, and what was durable once stays so: the greater number counts
abbrev pub with_counted : ℕ → Counted → Counted
with_counted now counted = if nat_lt counted.now now then record counted { now = now } else counted
