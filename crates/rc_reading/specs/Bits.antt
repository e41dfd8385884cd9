-- Sets of small numbers, a bit for each.
use Rattle.std.specs.Prelude.{ℕ, ◌^◌, Bool, nat_eq, bit_or}
use Rattle.std.specs.Int.{bit_at}

-- the set with this number in it
abbrev pub with_bit : ℕ → ℕ → ℕ
with_bit bits i = bit_or bits (2 ^ i)

-- whether this number is in the set
abbrev pub has_bit : ℕ → ℕ → Bool
has_bit bits i = nat_eq (bit_at bits i) 1
