-- Sets by bits.
use Rattle.std.proofs.Common.{◌≡◌, ℕ, ◌%◌, ◌^◌, ◌<◌, max, Bool, true, ◌&&◌, ◌||◌, nat_eq, nat_lt}
use Rattle.std.proofs.Common.{refl, ap, ◌∙◌, arith}
use Rattle.std.specs.Int.{bit_at}
use Rattle.std.proofs.lemmas.Nat.Bits.{bit_at_or, bit_at-pow_same, bit_at-pow_other}
use Rattle.rc_types.specs.declared.limits.TheConstants.{MAX_HOSTS}
use Rattle.rc_reading.specs.declared.hosts.Hosts.{Hosts}
use Rattle.rc_reading.specs.All.{with_bit, has_bit, has_host, with_host}
use Rattle.rc_reading.proofs.Puts.{either}

one_bit : (n : ℕ) → max (n % 2) 1 ≡ 1
one_bit n = omega arith

no_bit : (n : ℕ) → max n 0 ≡ n
no_bit n = omega arith

pub in_set : (bits put i : ℕ) → has_bit (with_bit bits put) i ≡ (nat_eq i put || has_bit bits i)
in_set bits put i =
    either (nat_eq i put)
    (λ is.
    let same : i ≡ put = grind arith in
    let there : bit_at (with_bit bits put) put ≡ 1 =
    bit_at_or bits (2 ^ put) put ∙ ap (max (bit_at bits put)) (bit_at-pow_same put) ∙ one_bit _ in
    rw is (rw same (ap (λ n. nat_eq n 1) there)))
    (λ is.
    let kept : bit_at (with_bit bits put) i ≡ bit_at bits i = bit_at_or bits (2 ^ put) i ∙
    ap (max (bit_at bits i)) (bit_at-pow_other put i (λ same. let equal : nat_eq i put ≡ true = grind arith in
    absurd cc)) ∙ no_bit _ in
    rw is (ap (λ n. nat_eq n 1) kept))

within : (b a c : Bool) → b ≡ true → (b && (a || c)) ≡ (a || (b && c))
within b a c is = rw is refl

pub hosts_are_sets : (hosts : Hosts) (put host : ℕ) → host < MAX_HOSTS →
    has_host (with_host hosts put) host ≡ (nat_eq host put || has_host hosts host)
hosts_are_sets hosts put host few =
    let lower : nat_lt host MAX_HOSTS ≡ true = grind arith in
    ap (λ b. nat_lt host MAX_HOSTS && b) (in_set hosts.bits put host) ∙ within (nat_lt host MAX_HOSTS) (nat_eq host put)
    (has_bit hosts.bits host) lower
