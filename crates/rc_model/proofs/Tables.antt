-- Tables: what stands in one after a change.
use Rattle.std.proofs.Common.{◌≡◌, ℕ, false, cond, nat_eq, refl, ap, subst}
use Rattle.std.proofs.lemmas.Bool.{eqb-true, eq-eqb}
use Rattle.rc_model.specs.Model.{ServerId, same_id, put, put_id}
use Rattle.rc_model.proofs.Tests.{either}
use Rattle.rc_model.proofs.Ids.{same_id-true, same_id-refl}

-- what holds of the new value, and of each old one, holds of each in the table after
pub put_each : {V : Type 0} (P : ℕ → V → Type 0) (table : ℕ → V) (key : ℕ) (value : V) →
    P key value → ((other : ℕ) → P other (table other)) → (other : ℕ) → P other (put table key value other)
put_each P table key value new old other =
    either (P other) (nat_eq key other) value (table other) (λ e. subst (λ k. P k value) (eqb-true key other e) new) (λ _. old other)

-- the new value is found at its number
pub put-same : {V : Type 0} (table : ℕ → V) (key : ℕ) {value : V} → put table key value key ≡ value
put-same table key {value} = ap (λ b. cond b value (table key)) (eq-eqb key key refl)

-- and the old one at each other number
pub put-other : {V : Type 0} (table : ℕ → V) (key : ℕ) (value : V) {other : ℕ} → nat_eq key other ≡ false →
    put table key value other ≡ table other
put-other table key value {other} e = ap (λ b. cond b value (table other)) e

-- the same for a table of ids
pub put_id_each : {V : Type 0} (P : ServerId → V → Type 0) {table : ServerId → V} {key : ServerId} {value : V} →
    P key value → ((other : ServerId) → P other (table other)) → (other : ServerId) → P other (put_id table key value other)
put_id_each P {table} {key} {value} new old other =
    either (P other) (same_id key other) value (table other) (λ e. subst (λ k. P k value) (same_id-true e) new) (λ _. old other)

-- the new value is found at its id
pub put_id-same : {V : Type 0} (table : ServerId → V) (key : ServerId) {value : V} → put_id table key value key ≡ value
put_id-same table key {value} = ap (λ b. cond b value (table key)) (same_id-refl key)

-- and the old one at each other id
pub put_id-other : {V : Type 0} (table : ServerId → V) (key : ServerId) (value : V) {other : ServerId} →
    same_id key other ≡ false → put_id table key value other ≡ table other
put_id-other table key value {other} e = ap (λ b. cond b value (table other)) e
