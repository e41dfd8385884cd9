-- How large a number may be where a node shows it.
use Rattle.std.specs.Prelude.{ℕ, ◌-◌, ◌^◌, min}

-- as much of a number as 64 bits hold
abbrev pub within_64_bits : ℕ → ℕ
within_64_bits n = min n (2 ^ 64 - 1)
