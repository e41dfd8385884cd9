-- The tests of rc_model say which of two rows comes first, and the three orders are strict: of two rows at most
-- one comes first, and where one comes before another, any third comes after the one or before the other.
use Rattle.std.proofs.Common.{◌≡◌, ℕ, ◌<◌, ◌⊎◌, inl, inr, Bool, true, false, ◌&&◌, ◌||◌, not, nat_lt, refl, arith}
use Rattle.std.specs.Bool.{Decides}
use Rattle.std.proofs.lemmas.Bool.{cases_order, false≢true}
use Rattle.std.proofs.lemmas.Bool.Decides.{Decides-or, Decides-and, Decides-ltb, Decides-eqb}
use Rattle.rc_model.specs.Model.{ServerId, id_before, HeldRow, longer_first, head_first, closed_first}
use Rattle.rc_model.specs.PickOrders.{IsLower, IsLonger, IsHigher, IsBetter}

-- the greater number first, and of equal ones as the rest says
module _ (a b c : ℕ) where
  apart_down : (Rab Rba : Type 0) → (Rab → Rba → ⊥) → (b < a) ⊎ ((a ≡ b) × Rab) → (a < b) ⊎ ((b ≡ a) × Rba) → ⊥
  apart_down Rab Rba rest (inl p) (inl q) = omega arith
  apart_down Rab Rba rest (inl p) (inr q) = omega (arith, q.0)
  apart_down Rab Rba rest (inr p) (inl q) = omega (arith, p.0)
  apart_down Rab Rba rest (inr p) (inr q) = rest p.1 q.1

  split_down : (Rac Rab Rbc : Type 0) → (Rac → Rab ⊎ Rbc) → (c < a) ⊎ ((a ≡ c) × Rac) →
      ((b < a) ⊎ ((a ≡ b) × Rab)) ⊎ ((c < b) ⊎ ((b ≡ c) × Rbc))
  split_down Rac Rab Rbc rest (inl p) = search (arith, cases_order)
  split_down Rac Rab Rbc rest (inr p) = search (arith, cases_order)

-- the lower number first
module _ (a b c : ℕ) where
  apart_up : (Rab Rba : Type 0) → (Rab → Rba → ⊥) → (a < b) ⊎ ((a ≡ b) × Rab) → (b < a) ⊎ ((b ≡ a) × Rba) → ⊥
  apart_up Rab Rba rest (inl p) (inl q) = omega arith
  apart_up Rab Rba rest (inl p) (inr q) = omega (arith, q.0)
  apart_up Rab Rba rest (inr p) (inl q) = omega (arith, p.0)
  apart_up Rab Rba rest (inr p) (inr q) = rest p.1 q.1

  split_up : (Rac Rab Rbc : Type 0) → (Rac → Rab ⊎ Rbc) → (a < c) ⊎ ((a ≡ c) × Rac) →
      ((a < b) ⊎ ((a ≡ b) × Rab)) ⊎ ((b < c) ⊎ ((b ≡ c) × Rbc))
  split_up Rac Rab Rbc rest (inl p) = search (arith, cases_order)
  split_up Rac Rab Rbc rest (inr p) = search (arith, cases_order)

-- true first
apart_flags : {a b : Bool} (Rab Rba : Type 0) → (Rab → Rba → ⊥) → ((a ≡ true) × (b ≡ false)) ⊎ ((a ≡ b) × Rab) →
    ((b ≡ true) × (a ≡ false)) ⊎ ((b ≡ a) × Rba) → ⊥
apart_flags Rab Rba rest (inl p) (inl q) = cc
apart_flags Rab Rba rest (inl p) (inr q) = cc
apart_flags Rab Rba rest (inr p) (inl q) = cc
apart_flags Rab Rba rest (inr p) (inr q) = rest p.1 q.1

split_flags : {a : Bool} (b : Bool) {c : Bool} (Rac Rab Rbc : Type 0) → (Rac → Rab ⊎ Rbc) →
    ((a ≡ true) × (c ≡ false)) ⊎ ((a ≡ c) × Rac) →
    (((a ≡ true) × (b ≡ false)) ⊎ ((a ≡ b) × Rab)) ⊎ (((b ≡ true) × (c ≡ false)) ⊎ ((b ≡ c) × Rbc))
split_flags true Rac Rab Rbc rest (inl p) = inr (inl (refl, p.1))
split_flags false Rac Rab Rbc rest (inl p) = inl (inl (p.0, refl))
split_flags {a} b {c} Rac Rab Rbc rest (inr p) = search arith

apart_lower : {a b : ServerId} → IsLower a b → IsLower b a → ⊥
apart_lower {a} {b} = apart_up a.index b.index 0 (a.generation < b.generation) (b.generation < a.generation) (λ p q. omega (arith, p, q))

split_lower : {a b c : ServerId} → IsLower a c → IsLower a b ⊎ IsLower b c
split_lower {a} {b} {c} = search (arith, cases_order)

pub apart_longer : (a b : HeldRow) → IsLonger a b → IsLonger b a → ⊥
apart_longer a b = apart_down a.row.epoch b.row.epoch 0 _ _ (apart_down a.row.len b.row.len 0 _ _ apart_lower)

pub split_longer : (a b c : HeldRow) → IsLonger a c → IsLonger a b ⊎ IsLonger b c
split_longer a b c = split_down a.row.epoch b.row.epoch c.row.epoch _ _ _
    (split_down a.row.len b.row.len c.row.len _ _ _ split_lower)

pub apart_higher : (a b : HeldRow) → IsHigher a b → IsHigher b a → ⊥
apart_higher a b = apart_down a.row.seg b.row.seg 0 _ _ (apart_longer a b)

pub split_higher : (a b c : HeldRow) → IsHigher a c → IsHigher a b ⊎ IsHigher b c
split_higher a b c = split_down a.row.seg b.row.seg c.row.seg _ _ _ (split_longer a b c)

pub apart_better : (a b : HeldRow) → IsBetter a b → IsBetter b a → ⊥
apart_better a b = apart_flags _ _ (apart_longer a b)

pub split_better : (a b c : HeldRow) → IsBetter a c → IsBetter a b ⊎ IsBetter b c
split_better a b c = split_flags b.row.closed _ _ _ (split_longer a b c)

tells_lower : {a b : ServerId} → Decides (id_before a b) (IsLower a b)
tells_lower {a} {b} = Decides-or _ _ (Decides-ltb a.index b.index)
    (Decides-and _ _ (Decides-eqb a.index b.index) (Decides-ltb a.generation b.generation))

-- the greater number first, and of equal ones as the rest says
tells_down : {x y : ℕ} {r : Bool} (R : Type 0) → Decides r R →
    Decides (nat_lt y x || (not (nat_lt x y) && r)) ((y < x) ⊎ ((x ≡ y) × R))
tells_down {x} {y} {r} R d = search (arith, nat_lt, cases_order)

pub tells_longer : (a b : HeldRow) → Decides (longer_first a b) (IsLonger a b)
tells_longer a b = tells_down _ (tells_down _ tells_lower)

pub tells_higher : (a b : HeldRow) → Decides (head_first a b) (IsHigher a b)
tells_higher a b = tells_down _ (tells_longer a b)

-- true first
tells_flags : (x y : Bool) {r : Bool} (R : Type 0) → Decides r R →
    Decides ((x && not y) || (not (y && not x) && r)) (((x ≡ true) × (y ≡ false)) ⊎ ((x ≡ y) × R))
tells_flags true true {r} R d = search (arith, false≢true)
tells_flags true false R d = (λ _. inl (refl, refl), λ _. refl)
tells_flags false true R d = search (arith, false≢true)
tells_flags false false {r} R d = search (arith, false≢true)

pub tells_better : (a b : HeldRow) → Decides (closed_first a b) (IsBetter a b)
tells_better a b = tells_flags a.row.closed b.row.closed (IsLonger a b) (tells_longer a b)
