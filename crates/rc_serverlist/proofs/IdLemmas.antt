-- Ids: equal ones, their order, and a list of them in order.
use Rattle.std.proofs.Common.{◌≡◌, ℕ, ◌+◌, Bool, true, false, cond, not, List, [], ◌∷◌, length, suc, ◌≤◌, Option}
use Rattle.std.proofs.Common.{position, unwrap_or, refl, ap, ◌∙◌, arith}
use Rattle.std.proofs.lemmas.Bool.Decides.{nat_tests}
use Rattle.std.proofs.lemmas.List.Sums.{prefix_len-le-length}
use Rattle.std.specs.List.{insert, position_or_len}
use Rattle.rc_model.specs.Model.{ServerId, same_id, id_before, insert_id}

-- ids with the same parts are one
same_parts : (a b : ServerId) → a.index ≡ b.index → a.generation ≡ b.generation → a ≡ b
same_parts a b p q j = record { index = p j; generation = q j }

pub same_id-sym : (a b : ServerId) → same_id a b ≡ same_id b a
same_id-sym a b = grind (arith, nat_tests)

-- an id goes before the first that it comes before
pub insert-id : (id : ServerId) (ids : List ServerId) → insert ids (position_or_len (id_before id) ids) id ≡ insert_id id ids
insert-id id [] = refl
insert-id id (other ∷ ids) = by (id_before id other) (insert-id id ids)
  where
    by : (b : Bool) → insert ids (position_or_len (id_before id) ids) id ≡ insert_id id ids
        → insert (other ∷ ids) (cond (not b) (1 + position_or_len (id_before id) ids) 0) id ≡ cond b (id ∷ other ∷ ids)
        (other ∷ insert_id id ids)
    by true rest = refl
    by false rest =
        let n : ℕ = position_or_len (id_before id) ids in
        let e : 1 + n ≡ suc n = omega arith in
        ap (λ place. insert (other ∷ ids) place id) e ∙ ap (λ tail. other ∷ tail) rest

-- in particular before the first that a search finds, and at the end where it finds none
pub insert-found : (id : ServerId) (ids : List ServerId) (found : Option ℕ) (end place : ℕ) →
    found ≡ position (id_before id) ids → end ≡ length ids → place ≡ unwrap_or found end
    → insert ids place id ≡ insert_id id ids
insert-found id ids found end place searched all chosen =
    let p : ServerId → Bool = id_before id in
    let n : ℕ = position_or_len p ids in
    let within : n ≤ length ids = prefix_len-le-length (λ x. not (p x)) ids in
    let e : place ≡ n = grind (arith, nat_tests) in
    ap (λ at. insert ids at id) e ∙ insert-id id ids
