-- Numbers on the command line.
use Rattle.std.specs.Prelude.{◌≤◌, ◌&&◌, ℕ, Bool, List, Option, Some, None, IfSome, nat_lt, nat_le, length}
use Rattle.std.specs.Prelude.{if◌then◌else◌}
use Rattle.std.specs.Str.{all_ascii_digits}
use Rattle.std.specs.Str.Parse.{digits_value}

-- decimal digits, one or more, and nothing else
abbrev pub is_decimal : List ℕ → Bool
is_decimal text = nat_lt 0 (length text) && all_ascii_digits text

-- the number that the digits write, if it is in the range
abbrev pub decimal_in : ℕ → ℕ → List ℕ → Option ℕ
decimal_in least most text =
    let number = digits_value 10 text in
    if is_decimal text && (nat_le least number && nat_le number most) then Some number else None

abbrev pub IsWithin : ℕ → ℕ → Option ℕ → Type 0
IsWithin least most found = IfSome found (λ number. (least ≤ number) × (number ≤ most))
