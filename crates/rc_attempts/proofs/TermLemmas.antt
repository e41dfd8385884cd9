-- Parts whose terms rise: how that is told, and where the part of a term is found.
use Rattle.std.proofs.Common.{◌≡◌, ℕ, zero, suc, ◌+◌, ◌<◌, ◌≤◌, nat_lt, nat_eq, Bool, true, false, cond, ◌&&◌, List, [], ◌∷◌, length}
use Rattle.std.proofs.Common.{Option, Some, None, find, slice_get, slice_index_or, refl, sym, ap, subst, ◌∙◌, add-one, arith}
use Rattle.std.proofs.lemmas.Bool.{and_from, and_left, and_right, and_parts}
use Rattle.std.specs.List.{AllWithin, IsAllAdjacentAnswer}
use Rattle.std.specs.List.Sorted.{IsPartitionedBy}
use Rattle.std.proofs.lemmas.List.Sorted.{IsNonDecreasingBy-from_all_adjacent, IsPartitionedBy-ltb}
use Rattle.rc_types.specs.declared.rows.Part.{Part}
use Rattle.rc_model.specs.Model.{ServerId, GivenPart, same_id, parts_of}
use Rattle.rc_attempts.specs.Terms.{terms_rise, part_if}

-- How it is told

rise-true : (parts : List GivenPart) → ((k : ℕ) (d : GivenPart) → suc k < length parts →
    true ≡ nat_lt (slice_index_or parts k d).part.term (slice_index_or parts (suc k) d).part.term) → terms_rise parts ≡ true
rise-true [] all = refl
rise-true (one ∷ []) all = refl
rise-true (one ∷ next ∷ others) all =
    and_from _ _ (sym (all 0 one (omega arith))) (rise-true (next ∷ others) (λ k d lt. all (suc k) d (omega (arith, lt))))

rise-false : (parts : List GivenPart) (k : ℕ) → suc k < length parts → ((d : GivenPart) →
    false ≡ nat_lt (slice_index_or parts k d).part.term (slice_index_or parts (suc k) d).part.term) → terms_rise parts ≡ false
rise-false [] k lt falls = absurd (omega (arith, lt))
rise-false (one ∷ []) k lt falls = absurd (omega (arith, lt))
rise-false (one ∷ next ∷ others) zero lt falls = and_left _ _ (sym (falls one))
rise-false (one ∷ next ∷ others) (suc k) lt falls =
    and_right _ _ (rise-false (next ∷ others) k (omega (arith, lt)) falls)

at-next : (parts : List GivenPart) (answer : Bool) (k : ℕ) (d : GivenPart) →
    answer ≡ nat_lt (slice_index_or parts k d).part.term (slice_index_or parts (k + 1) d).part.term →
    answer ≡ nat_lt (slice_index_or parts k d).part.term (slice_index_or parts (suc k) d).part.term
at-next parts answer k d =
    subst (λ j. answer ≡ nat_lt (slice_index_or parts k d).part.term (slice_index_or parts j d).part.term) (add-one k)

pub rise-answer : (parts : List GivenPart) (answer : Bool) →
    IsAllAdjacentAnswer (λ x y b. b ≡ nat_lt x.part.term y.part.term) parts answer → answer ≡ terms_rise parts
rise-answer parts true all =
    sym (rise-true parts (λ k d lt. at-next parts true k d (all k d (omega (arith, lt)))))
rise-answer parts false some =
    sym (rise-false parts some.0 (omega (arith, some.1)) (λ d. at-next parts false some.0 d (some.2 d)))

-- Where the part of a term is found

next-above : (one next : GivenPart) (others : List GivenPart) → terms_rise (one ∷ next ∷ others) ≡ true →
    one.part.term < next.part.term
next-above one next others rise =
    let above = (and_parts (nat_lt one.part.term next.part.term) _ rise).0 in grind (arith, above)

rest-rises : (one : GivenPart) (others : List GivenPart) → terms_rise (one ∷ others) ≡ true → terms_rise others ≡ true
rest-rises one [] rise = refl
rest-rises one (next ∷ others) rise = (and_parts (nat_lt one.part.term next.part.term) _ rise).1

none-falls : (parts : List GivenPart) → terms_rise parts ≡ true → (k : ℕ) (d : GivenPart) → suc k < length parts →
    (slice_index_or parts k d).part.term ≤ (slice_index_or parts (suc k) d).part.term
none-falls [] rise k d lt = absurd (omega (arith, lt))
none-falls (one ∷ []) rise k d lt = absurd (omega (arith, lt))
none-falls (one ∷ next ∷ others) rise zero d lt = omega (arith, next-above one next others rise)
none-falls (one ∷ next ∷ others) rise (suc k) d lt =
    none-falls (next ∷ others) (rest-rises one (next ∷ others) rise) k d (omega (arith, lt))

pub rise-parted : (term : ℕ) (parts : List GivenPart) → terms_rise parts ≡ true →
    IsPartitionedBy (λ given. nat_lt given.part.term term) parts
rise-parted term parts rise =
    IsPartitionedBy-ltb (λ given. given.part.term) parts term
    (IsNonDecreasingBy-from_all_adjacent (λ given. given.part.term) parts
    (λ k d lt. rw (add-one k) (none-falls parts rise k d (omega (arith, lt)))))

abbrev found : ServerId → ℕ → List GivenPart → Option Part
found id term parts = find (λ part. nat_eq part.term term) (parts_of id parts)

-- a part of another term is passed over
found-other : (id : ServerId) (term : ℕ) (given : GivenPart) (others : List GivenPart) →
    nat_eq given.part.term term ≡ false → found id term (given ∷ others) ≡ found id term others
found-other id term given others differs = by (same_id id given.to)
  where
    by : (b : Bool) → find (λ part. nat_eq part.term term) (cond b (given.part ∷ parts_of id others) (parts_of id others)) ≡
        found id term others
    by true = ap (λ same. cond same (Some given.part) (found id term others)) differs
    by false = refl

-- no part after one that has this term or a greater has it
none-after : (id : ServerId) (term : ℕ) (one : GivenPart) (others : List GivenPart) → terms_rise (one ∷ others) ≡ true →
    term ≤ one.part.term → found id term others ≡ None
none-after id term one [] rise low = refl
none-after id term one (next ∷ others) rise low =
    let above = next-above one next others rise in
    found-other id term next others (grind (arith, above, low))
    ∙ none-after id term next others (rest-rises one (next ∷ others) rise) (omega (arith, above, low))

found-first : (id : ServerId) (term : ℕ) (given : GivenPart) (others : List GivenPart) → found id term others ≡ None →
    found id term (given ∷ others) ≡ part_if id term (Some given)
found-first id term given others none = by (same_id id given.to)
  where
    by : (b : Bool) → find (λ part. nat_eq part.term term) (cond b (given.part ∷ parts_of id others) (parts_of id others)) ≡
        cond (b && nat_eq given.part.term term) (Some given.part) None
    by true = ap (λ rest. cond (nat_eq given.part.term term) (Some given.part) rest) none
    by false = none

-- where the terms rise, the part can but be the first whose term is not below this one
pub found-at : (id : ServerId) (term : ℕ) (parts : List GivenPart) (place : ℕ) → terms_rise parts ≡ true →
    AllWithin (λ given. nat_lt given.part.term term ≡ true) parts 0 place →
    AllWithin (λ given. nat_lt given.part.term term ≡ false) parts place (length parts) →
    find (λ part. nat_eq part.term term) (parts_of id parts) ≡ part_if id term (slice_get parts place)
found-at id term [] zero rise below above = refl
found-at id term [] (suc place) rise below above = refl
found-at id term (given ∷ others) zero rise below above =
    let low = above 0 given (omega arith) (omega arith) in
    found-first id term given others (none-after id term given others rise (grind (arith, low)))
found-at id term (given ∷ others) (suc place) rise below above =
    let less = below 0 given (omega arith) (omega arith) in
    found-other id term given others (grind (arith, less))
    ∙ found-at id term others place (rest-rises given others rise)
    (λ k d le lt. below (suc k) d (omega arith) (omega (arith, lt)))
    (λ k d le lt. above (suc k) d (omega (arith, le)) (omega (arith, lt)))
