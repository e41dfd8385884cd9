-- A first byte that names no kind, or that of an order.
use Rattle.std.proofs.Common.{◌≡◌, ℕ, zero, suc, ◌+◌, ◌-◌, ◌≤◌, List, []}
use Rattle.std.proofs.Common.{◌∷◌, length, Option, Some, None, refl, ap, ◌∙◌, arith}
use Rattle.std.specs.Prelude.{slice_get, map}
use Rattle.rc_types.specs.declared.events.Event.TheVariants as event
use Rattle.rc_types.specs.declared.events.Order.{Order}
use Rattle.rc_codec.specs.Reading.{◌>>=◌, Reader, made, Fails}
use Rattle.rc_codec.specs.declared.faults.DecodeFault.{DecodeFault}
use Rattle.rc_codec.specs.declared.faults.DecodeFault.TheVariants.{OutOfMemory, Malformed}
use Rattle.rc_codec.specs.Fields.{chosen_at}
use Rattle.rc_codec.specs.Bodies.{bodies}
use Rattle.rc_codec.specs.Events.{ask_at, deliver_at, tick_at, stop_at, start_at, events, orders, ordered, order_at, event_at}

pub past : {A : Type 0} (table : List A) (k : ℕ) → length table ≤ k → slice_get table k ≡ None
past [] k h = refl
past (x ∷ table) zero h = absurd (omega arith)
past (x ∷ table) (suc k) h = past table k (omega arith)

pub past_bodies : (k : ℕ) (rest : List ℕ) → length bodies ≤ k → chosen_at bodies (k ∷ rest) ≡ None
past_bodies k rest h = rw (past bodies k h) refl

pub past_orders : (k : ℕ) (rest : List ℕ) → 5 + length orders ≤ k → order_at k rest ≡ None
past_orders k rest h = rw (past orders (k - 5) (omega arith)) refl

-- what is made of a reader at its place in a table
made-of-each : {A : Type 0} (f : Order → A) (table : List (Reader Order)) (n : ℕ) (xs : List ℕ) →
    (slice_get (map (λ (read : Reader Order). made read f) table) n >>= λ read. read xs) ≡
    made (λ ys. slice_get table n >>= λ read. read ys) f xs
made-of-each f [] n xs = refl
made-of-each f (read ∷ table) zero xs = refl
made-of-each f (read ∷ table) (suc n) xs = made-of-each f table n xs

-- after a first byte of 5 and more, by a table in which the orders stand behind five others
pub after_five : {A : Type 0} (f : Order → A) (a b c d e : Reader A) (k : ℕ) (xs : List ℕ) → 5 ≤ k →
    chosen_at (a ∷ b ∷ c ∷ d ∷ e ∷ ordered f) (k ∷ xs) ≡ made (order_at k) f xs
after_five f a b c d e zero xs h = absurd (omega arith)
after_five f a b c d e (suc zero) xs h = absurd (omega arith)
after_five f a b c d e (suc (suc zero)) xs h = absurd (omega arith)
after_five f a b c d e (suc (suc (suc zero))) xs h = absurd (omega arith)
after_five f a b c d e (suc (suc (suc (suc zero)))) xs h = absurd (omega arith)
after_five f a b c d e (suc (suc (suc (suc (suc k))))) xs h =
    let same : k ≡ suc (suc (suc (suc (suc k)))) - 5 = omega arith in
    made-of-each f orders k xs ∙ ap (λ (n : ℕ). made (λ ys. slice_get orders n >>= λ read. read ys) f xs) same

pub event_orders : (k : ℕ) (rest : List ℕ) → 5 ≤ k → chosen_at events (k ∷ rest) ≡ made (order_at k) event.Order rest
event_orders = after_five event.Order ask_at deliver_at tick_at stop_at start_at

-- as what is read of an event

abbrev pub with_order : {A : Type 0} → (Order → A) → Option (Order × List ℕ) → Option (A × List ℕ)
with_order f read = read >>= λ x. Some (f x.0, x.1)

pub event_ordered : (k : ℕ) (xs : List ℕ) (x : Order) (rest : List ℕ) → 5 ≤ k → order_at k xs ≡ Some (x, rest) →
    event_at (k ∷ xs) ≡ Some (event.Order x, rest)
unfolding event_at
event_ordered k xs x rest far read = event_orders k xs far ∙ ap (with_order event.Order) read

pub event_fails : (k : ℕ) (xs : List ℕ) (fault : DecodeFault) → 5 ≤ k → Fails fault (order_at k xs) →
    Fails fault (event_at (k ∷ xs))
unfolding event_at
event_fails k xs OutOfMemory far read = tt
event_fails k xs Malformed far read = event_orders k xs far ∙ ap (with_order event.Order) read
