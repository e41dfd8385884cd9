-- The grants of each term, message by message.
use Rattle.std.proofs.Common.{◌≡◌, ℕ, ◌+◌, ◌<◌, Bool, true, false, cond, List, [], ◌∷◌, ◌++◌, Some, nat_eq, length, map, take}
use Rattle.std.proofs.Common.{get_or, slice_get, refl, sym, ap, ◌∙◌, subst, inl, inr, append_assoc}
use Rattle.std.specs.BTreeMap.{BTreeMap}
use Rattle.std.proofs.lemmas.List.{append-nil}
use Rattle.std.proofs.lemmas.Bool.{eqb-true, eq-eqb}
use Rattle.rc_model.specs.Model.{Message, Granted, grant_in, granted, covers, in_range, grants_of, IsBefore, previous, In}
use Rattle.rc_audit.specs.declared.grants.Grant.{Grant}
use Rattle.rc_audit.specs.declared.grants.TermGrants.{TermGrants}
use Rattle.rc_audit.specs.Grants.{grant_of, under, grants_at, AddsGrants, AreGrants}
use Rattle.rc_model.proofs.Members.{In-get, place_of, In-filter, filter-In}
use Rattle.rc_audit.proofs.PlaceLemmas.{taken_more}
use Rattle.rc_model.proofs.Tests.{either}

under-append : (term : ℕ) (some more : List Grant) → under term (some ++ more) ≡ under term some ++ under term more
under-append term [] more = refl
under-append term (grant ∷ some) more = step (nat_eq grant.term term) (under term (some ++ more)) (under term some)
    (under term more) (under-append term some more)
  where
    step : (b : Bool) (all one other : List Grant) → all ≡ one ++ other → cond b (grant ∷ all) all ≡ cond b (grant ∷ one) one ++ other
    step true all one other e = ap (λ xs. grant ∷ xs) e
    step false all one other e = e

granted-push : (sent : List Message) (message : Message) →
    map grant_of (granted (sent ++ message ∷ [])) ≡ map grant_of (granted sent) ++
    map grant_of (grant_in message.to message.body)
granted-push [] message = ap (map grant_of) (append-nil (grant_in message.to message.body))
granted-push (first ∷ sent) message =
    map-append (grant_in first.to first.body) (granted (sent ++ message ∷ []))
    ∙ ap (λ xs. map grant_of (grant_in first.to first.body) ++ xs) (granted-push sent message)
    ∙ sym (append_assoc (map grant_of (grant_in first.to first.body)) (map grant_of (granted sent))
    (map grant_of (grant_in message.to message.body)))
    ∙ ap (λ xs. xs ++ map grant_of (grant_in message.to message.body)) (sym (map-append (grant_in first.to first.body) (granted sent)))
  where
    map-append : (xs ys : List Granted) → map grant_of (xs ++ ys) ≡ map grant_of xs ++ map grant_of ys
    map-append [] ys = refl
    map-append (x ∷ xs) ys = ap (λ zs. grant_of x ∷ zs) (map-append xs ys)

-- the table with one more message
pub grants_more : (old new : BTreeMap ℕ TermGrants) (sent : List Message) (i : ℕ) (message : Message) →
    i < length sent → message ≡ get_or sent i message →
    AreGrants old (take i sent) → AddsGrants old new (map grant_of (grant_in message.to message.body)) → AreGrants new (take (i + 1) sent)
grants_more old new sent i message within is before now = record {
  each = λ term. now.each term ∙ ap (λ xs. xs ++ under term (map grant_of (grant_in message.to message.body))) (before.each term)
      ∙ sym (ap (λ xs. under term (map grant_of (granted xs))) (taken_more sent i message within is) ∙
      ap (under term) (granted-push (take i sent) message)
      ∙ under-append term (map grant_of (granted (take i sent))) (map grant_of (grant_in message.to message.body)));
}

-- membership among the grants of a term, and of a point

In-under : (term : ℕ) (grant : Grant) (grants : List Grant) → In grant (under term grants) → In grant grants × (grant.term ≡ term)
In-under term grant [] at = absurd at
In-under term grant (first ∷ grants) at = by (nat_eq first.term term) refl (In-under term grant grants) at
  where
    further : In grant grants × (grant.term ≡ term) → In grant (first ∷ grants) × (grant.term ≡ term)
    further p = (inr p.0, p.1)

    by : (b : Bool) → nat_eq first.term term ≡ b →
        (In grant (under term grants) → In grant grants × (grant.term ≡ term)) →
        In grant (cond b (first ∷ under term grants) (under term grants)) →
        In grant (first ∷ grants) × (grant.term ≡ term)
    by true e later (inl same) = (inl same, ap (λ (g : Grant). g.term) same ∙ eqb-true first.term term e)
    by true e later (inr rest) = further (later rest)
    by false e later rest = further (later rest)

In-from_under : (grant : Grant) (grants : List Grant) → In grant grants → In grant (under grant.term grants)
In-from_under grant [] at = absurd at
In-from_under grant (first ∷ grants) (inl same) =
    either (In grant) (nat_eq first.term grant.term) (first ∷ under grant.term grants) (under grant.term grants) (λ _. inl same)
    (λ e. let is : nat_eq first.term grant.term ≡ true = eq-eqb first.term grant.term (sym (ap (λ (g : Grant). g.term) same)) in cc)
In-from_under grant (first ∷ grants) (inr rest) =
    either (In grant) (nat_eq first.term grant.term) (first ∷ under grant.term grants) (under grant.term grants)
    (λ _. inr (In-from_under grant grants rest)) (λ _. In-from_under grant grants rest)

In-map : {X Y : Type 0} (f : X → Y) (x : X) (xs : List X) → In x xs → In (f x) (map f xs)
In-map f x [] at = absurd at
In-map f x (y ∷ xs) (inl same) = inl (ap f same)
In-map f x (y ∷ xs) (inr rest) = inr (In-map f x xs rest)

-- the one that stands for this
record MapsTo {X Y : Type 0} (f : X → Y) (y : Y) (xs : List X) : Type 0 where
  x : X
  among : In x xs
  is : y ≡ f x

In-from_map : {X Y : Type 0} (f : X → Y) (y : Y) (xs : List X) → In y (map f xs) → MapsTo f y xs
In-from_map f y [] at = absurd at
In-from_map f y (x ∷ xs) (inl same) = record { x = x; among = inl refl; is = same }
In-from_map f y (x ∷ xs) (inr rest) = let p = In-from_map f y xs rest in record { x = p.x; among = inr p.among; is = p.is }

-- a grant that the table has is one step back at each point that it holds
pub step_back : (table_of : BTreeMap ℕ TermGrants) (sent : List Message) → AreGrants table_of sent → (term table key : ℕ) (grant : Grant) →
    In grant (grants_at table_of term) → in_range grant.range table key ≡ true → IsBefore (grants_of sent table key) grant.previous term
step_back table_of sent are term table key grant at holds =
    let in_term = In-under term grant (map grant_of (granted sent)) (subst (In grant) (are.each term) at) in
    let from = In-from_map grant_of grant (granted sent) in_term.0 in
    let covered : covers table key from.x ≡ true = ap (λ (one : Grant). in_range one.range table key) (sym from.is) ∙ holds in
    let place = place_of (grants_of sent table key) from.x (filter-In (covers table key) from.x (granted sent) from.among covered) in
    let back : from.x.previous ≡ grant.previous = ap (λ (g : Grant). g.previous) (sym from.is) in
    let to : from.x.term ≡ term = ap (λ (g : Grant). g.term) (sym from.is) ∙ in_term.1 in
    subst (λ t. IsBefore (grants_of sent table key) grant.previous t) to
    (subst (λ t. IsBefore (grants_of sent table key) t from.x.term) back (previous place.0 from.x place.1))

-- and each grant of a point is one that the table has
pub granted_at : (table_of : BTreeMap ℕ TermGrants) (sent : List Message) → AreGrants table_of sent → (table key k : ℕ) (grant : Granted) →
    slice_get (grants_of sent table key) k ≡ Some grant → In (grant_of grant) (grants_at table_of grant.term) ×
    (in_range grant.range table key ≡ true)
granted_at table_of sent are table key k grant at =
    let found = In-filter (covers table key) grant (granted sent) (In-get (grants_of sent table key) k grant at) in (
      subst (In (grant_of grant)) (sym (are.each grant.term))
          (In-from_under (grant_of grant) (map grant_of (granted sent)) (In-map grant_of grant (granted sent) found.0)),
      found.1,
    )
