-- Places of a log, segment by segment.
use Rattle.std.proofs.Common.{◌≡◌, ℕ, ◌+◌, ◌-◌, ◌<◌, ◌≤◌, zero, suc, Bool, List, [], ◌∷◌, ◌++◌, length, take, drop}
use Rattle.std.proofs.Common.{min, get_or, ⊎_elim, refl, ap, sym, ◌∙◌, arith, append_assoc, add-zero}
use Rattle.std.proofs.Math.Seq.{take-append-add, drop-append-add}
use Rattle.std.proofs.lemmas.Bool.{cases_lt}
use Rattle.std.proofs.lemmas.List.{take-append-le, drop-append-le, take_all, drop_all, append-nil, length-take}
use Rattle.std.proofs.lemmas.List.{length-append, take_more, take_min, drop-take}
use Rattle.rc_model.specs.Model.{Entry, Segment, LogPlace, places_in, places_to}
use Rattle.rc_headroll.specs.Soundness.{entries_to}

-- A part of a list that has two parts

nothing-taken : {X : Type 0} (n : ℕ) (ys : List X) → n ≡ 0 → take n ys ≡ []
nothing-taken n ys e = rw e refl

nothing-dropped : {X : Type 0} (n : ℕ) (ys : List X) → n ≡ 0 → drop n ys ≡ ys
nothing-dropped n ys e = rw e refl

take-parts : {X : Type 0} (n : ℕ) (xs ys : List X) → take n (xs ++ ys) ≡ take n xs ++ take (n - length xs) ys
take-parts {X} n xs ys = ⊎_elim {C = take n (xs ++ ys) ≡ take n xs ++ take (n - length xs) ys}
    (λ (more : length xs < n).
    let at : n ≡ length xs + (n - length xs) = omega arith in
    ap (λ (m : ℕ). take m (xs ++ ys)) at ∙ take-append-add xs ys (n - length xs)
    ∙ ap (λ (zs : List X). zs ++ take (n - length xs) ys) (sym (take_all n xs (omega arith))))
    (λ (less : n ≤ length xs).
    take-append-le n xs ys less ∙ sym (append-nil (take n xs))
    ∙ ap (λ (zs : List X). take n xs ++ zs) (sym (nothing-taken (n - length xs) ys (omega arith))))
    (cases_lt (length xs) n)

drop-parts : {X : Type 0} (n : ℕ) (xs ys : List X) → drop n (xs ++ ys) ≡ drop n xs ++ drop (n - length xs) ys
drop-parts {X} n xs ys = ⊎_elim {C = drop n (xs ++ ys) ≡ drop n xs ++ drop (n - length xs) ys}
    (λ (more : length xs < n).
    let at : n ≡ length xs + (n - length xs) = omega arith in
    ap (λ (m : ℕ). drop m (xs ++ ys)) at ∙ drop-append-add xs ys (n - length xs)
    ∙ ap (λ (zs : List X). zs ++ drop (n - length xs) ys) (sym (drop_all n xs (omega arith))))
    (λ (less : n ≤ length xs).
    drop-append-le n xs ys less ∙ ap (λ (zs : List X). drop n xs ++ zs) (sym (nothing-dropped (n - length xs) ys (omega arith))))
    (cases_lt (length xs) n)

drop-nothing : (X : Type 0) (n : ℕ) → let none : List X = [] in drop n none ≡ none
drop-nothing X n = drop_all n [] (omega arith)

-- from the place d up to the place n
pub window-parts : {X : Type 0} (d n : ℕ) (xs ys : List X) → drop d (take n (xs ++ ys)) ≡ drop d (take n xs) ++
    drop (d - length xs) (take (n - length xs) ys)
window-parts {X} d n xs ys =
    ap (drop d) (take-parts n xs ys) ∙ drop-parts d (take n xs) (take (n - length xs) ys)
    ∙ ap (λ (zs : List X). drop d (take n xs) ++ zs)
    (⊎_elim {C = drop (d - length (take n xs)) (take (n - length xs) ys) ≡ drop (d - length xs) (take (n - length xs) ys)}
    (λ (more : length xs < n).
    let len : length (take n xs) ≡ length xs = omega (arith, length-take n xs) in
    ap (λ (m : ℕ). drop (d - m) (take (n - length xs) ys)) len)
    (λ (less : n ≤ length xs).
    let none : take (n - length xs) ys ≡ [] = nothing-taken (n - length xs) ys (omega arith) in
    ap (drop (d - length (take n xs))) none ∙ drop-nothing X (d - length (take n xs)) ∙
    sym (drop-nothing X (d - length xs)) ∙ ap (drop (d - length xs)) (sym none))
    (cases_lt (length xs) n))

-- Places in a segment

pub length-places_in : (seg offset : ℕ) (xs : List (Entry × Bool)) → length (places_in seg offset xs) ≡ length xs
length-places_in seg offset [] = refl
length-places_in seg offset (x ∷ xs) = ap suc (length-places_in seg (offset + 1) xs)

pub places_in-push : (seg offset : ℕ) (xs : List (Entry × Bool)) (x : Entry × Bool) →
    places_in seg offset (xs ++ x ∷ []) ≡ places_in seg offset xs ++
    record { seg = seg; offset = offset + length xs; entry = x.0; client = x.1 } ∷ []
places_in-push seg offset [] x = ap (λ (at : ℕ). record { seg = seg; offset = at; entry = x.0; client = x.1 } ∷ []) (sym (add-zero offset))
places_in-push seg offset (y ∷ ys) x =
    let at : offset + 1 + length ys ≡ offset + suc (length ys) = omega arith in
    ap (λ places. record { seg = seg; offset = offset; entry = y.0; client = y.1 } ∷ places)
    (places_in-push seg (offset + 1) ys x
    ∙ ap (λ (n : ℕ). places_in seg (offset + 1) ys ++ record { seg = seg; offset = n; entry = x.0; client = x.1 } ∷ []) at)

take-places_in : (n seg offset : ℕ) (xs : List (Entry × Bool)) → take n (places_in seg offset xs) ≡ places_in seg offset (take n xs)
take-places_in zero seg offset xs = refl
take-places_in (suc n) seg offset [] = refl
take-places_in (suc n) seg offset (x ∷ xs) =
    ap (λ places. record { seg = seg; offset = offset; entry = x.0; client = x.1 } ∷ places) (take-places_in n seg (offset + 1) xs)

drop-places_in : (n seg offset : ℕ) (xs : List (Entry × Bool)) → drop n (places_in seg offset xs) ≡ places_in seg (offset + n) (drop n xs)
drop-places_in zero seg offset xs = ap (λ (at : ℕ). places_in seg at xs) (sym (add-zero offset))
drop-places_in (suc n) seg offset [] = refl
drop-places_in (suc n) seg offset (x ∷ xs) =
    let at : offset + 1 + n ≡ offset + suc n = omega arith in
    drop-places_in n seg (offset + 1) xs ∙ ap (λ (k : ℕ). places_in seg k (drop n xs)) at

-- a window of a segment's places
pub window-places_in : (d n seg start end : ℕ) (xs : List (Entry × Bool)) → end ≡ min n (length xs) → start ≡ min d end →
    drop d (take n (places_in seg 0 xs)) ≡ places_in seg start (drop start (take end xs))
window-places_in d n seg start end xs at_end at_start =
    let cut : take n xs ≡ take end xs = sym (take_min n xs) ∙ ap (λ (m : ℕ). take m xs) (sym at_end) in
    let len : length (take end xs) ≡ end = omega (arith, length-take end xs, at_end) in
    ap (drop d) (take-places_in n seg 0 xs ∙ ap (places_in seg 0) cut)
    ∙ drop-places_in d seg 0 (take end xs)
    ∙ ⊎_elim {C = places_in seg (0 + d) (drop d (take end xs)) ≡ places_in seg start (drop start (take end xs))}
    (λ (more : end < d).
    let same : start ≡ end = omega arith in
    ap (places_in seg (0 + d)) (drop_all d (take end xs) (omega (arith, len)))
    ∙ ap (places_in seg start) (sym (drop_all start (take end xs) (omega (arith, len)))))
    (λ (less : d ≤ end).
    let same : d ≡ start = omega arith in
    let same' : 0 + d ≡ start = omega arith in
    ap (λ (k : ℕ). places_in seg k (drop d (take end xs))) same' ∙ ap (λ (k : ℕ). places_in seg start (drop k (take end xs))) same)
    (cases_lt end d)

cut-between : (start end : ℕ) (xs : List (Entry × Bool)) → start ≤ end → drop start (take end xs) ≡ take (end - start) (drop start xs)
cut-between start end xs below =
    let at : end ≡ start + (end - start) = omega arith in
    ap (λ (m : ℕ). drop start (take m xs)) at ∙ drop-take start (end - start) xs

-- Places in the first segments

pub length-places_to : (t : ℕ → Segment) (p : ℕ) → length (places_to t p) ≡ entries_to t p
length-places_to t zero = refl
length-places_to t (suc s) =
    length-append (places_to t s) (places_in (suc s) 0 (t (suc s)).entries)
    ∙ ap (λ (n : ℕ). n + length (places_in (suc s) 0 (t (suc s)).entries)) (length-places_to t s)
    ∙ ap (λ (n : ℕ). entries_to t s + n) (length-places_in (suc s) 0 (t (suc s)).entries)

places_to-more : (t : ℕ → Segment) (p : ℕ) → places_to t (p + 1) ≡ places_to t p ++ places_in (p + 1) 0 (t (p + 1)).entries
places_to-more t p = let next : p + 1 ≡ suc p = omega arith in rw next refl

-- one more segment's places
pub window-more : (t : ℕ → Segment) (d n p before start end : ℕ) (xs : List (Entry × Bool)) → before ≡ entries_to t p →
    xs ≡ (t (p + 1)).entries →
    end ≡ min (n - before) (length xs) → start ≡ min (d - before) end →
    drop d (take n (places_to t (p + 1))) ≡ drop d (take n (places_to t p)) ++ places_in (p + 1) start (take (end - start) (drop start xs))
window-more t d n p before start end xs is entries at_end at_start =
    let len : length (places_to t p) ≡ before = length-places_to t p ∙ sym is in
    ap (λ (places : List LogPlace). drop d (take n places)) (places_to-more t p)
    ∙ window-parts d n (places_to t p) (places_in (p + 1) 0 (t (p + 1)).entries)
    ∙ ap (λ (m : ℕ). drop d (take n (places_to t p)) ++ drop (d - m) (take (n - m) (places_in (p + 1) 0 (t (p + 1)).entries))) len
    ∙ ap (λ (es : List (Entry × Bool)). drop d (take n (places_to t p)) ++
    drop (d - before) (take (n - before) (places_in (p + 1) 0 es))) (sym entries)
    ∙ ap (λ (places : List LogPlace). drop d (take n (places_to t p)) ++ places)
    (window-places_in (d - before) (n - before) (p + 1) start end xs at_end at_start ∙ ap (places_in (p + 1) start)
    (cut-between start end xs (omega arith)))

-- nothing is new among places that were kept
pub window-none : (t : ℕ → Segment) (d n p : ℕ) → entries_to t p ≤ d → drop d (take n (places_to t p)) ≡ []
window-none t d n p kept = drop_all d (take n (places_to t p)) (omega (arith, kept, length-take n (places_to t p), length-places_to t p))

-- a loop that adds one more place
pub places_in-more : (seg offset i : ℕ) (xs : List (Entry × Bool)) (d : Entry × Bool) → i < length xs →
    places_in seg offset (take (i + 1) xs) ≡ places_in seg offset (take i xs) ++
    record { seg = seg; offset = offset + i; entry = (get_or xs i d).0; client = (get_or xs i d).1 } ∷ []
places_in-more seg offset i xs d inside =
    let len : length (take i xs) ≡ i = omega (arith, length-take i xs) in
    ap (places_in seg offset) (take_more xs i d inside)
    ∙ places_in-push seg offset (take i xs) (get_or xs i d)
    ∙ ap (λ (n : ℕ). places_in seg offset (take i xs) ++
    record { seg = seg; offset = offset + n; entry = (get_or xs i d).0; client = (get_or xs i d).1 } ∷ []) len

pub add-step : (old now : List LogPlace) (seg offset i at : ℕ) (xs : List (Entry × Bool)) (e : Entry × Bool) →
    i < length xs → at ≡ offset + i → e ≡ get_or xs i e →
    now ≡ old ++ places_in seg offset (take i xs) →
    now ++ record { seg = seg; offset = at; entry = e.0; client = e.1 } ∷ [] ≡ old ++ places_in seg offset (take (i + 1) xs)
add-step old now seg offset i at xs e inside is read so_far =
    ap (λ (places : List LogPlace). places ++ record { seg = seg; offset = at; entry = e.0; client = e.1 } ∷ []) so_far
    ∙ append_assoc old (places_in seg offset (take i xs)) (record { seg = seg; offset = at; entry = e.0; client = e.1 } ∷ [])
    ∙ ap (λ (n : ℕ). old ++ (places_in seg offset (take i xs) ++ record { seg = seg; offset = n; entry = e.0; client = e.1 } ∷ [])) is
    ∙ ap (λ (x : Entry × Bool). old ++
    (places_in seg offset (take i xs) ++ record { seg = seg; offset = offset + i; entry = x.0; client = x.1 } ∷ []))
    read
    ∙ ap (λ (places : List LogPlace). old ++ places) (sym (places_in-more seg offset i xs e inside))
