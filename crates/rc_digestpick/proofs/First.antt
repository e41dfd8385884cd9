-- The first of some rows, one row or one reply further on.
use Rattle.std.proofs.Common.{◌≡◌, ℕ, ◌+◌, ◌<◌, Bool, cond, List, [], ◌∷◌, ◌++◌, filter, Option, Some, None, take}
use Rattle.std.proofs.Common.{length, get_or, refl, sym, ap, ◌∙◌, append_assoc}
use Rattle.std.proofs.lemmas.List.{take_more}
use Rattle.std.proofs.lemmas.List.Elements.{filter-append}
use Rattle.std.specs.List.{fold}
use Rattle.rc_model.specs.Pick.{better}
use Rattle.rc_model.specs.Model.{ServerId, Row, HeldRow, rows_of, held_rows, first_by}
use Rattle.rc_digestpick.specs.Held.{first_after}

pub rows_of-append : (holder : ServerId) (xs ys : List Row) → rows_of holder (xs ++ ys) ≡ rows_of holder xs ++ rows_of holder ys
rows_of-append holder [] ys = refl
rows_of-append holder (x ∷ xs) ys = ap (λ rows. record { holder = holder; row = x } ∷ rows) (rows_of-append holder xs ys)

pub held_rows-append : (xs ys : List (ServerId × List Row)) → held_rows (xs ++ ys) ≡ held_rows xs ++ held_rows ys
held_rows-append [] ys = refl
held_rows-append (x ∷ xs) ys =
    ap (λ rows. rows_of x.0 x.1 ++ rows) (held_rows-append xs ys) ∙ sym (append_assoc (rows_of x.0 x.1) (held_rows xs) (held_rows ys))

pub fold_better-append : (before : HeldRow → HeldRow → Bool) (best : HeldRow) (xs ys : List HeldRow) →
    fold (better before) best (xs ++ ys) ≡ fold (better before) (fold (better before) best xs) ys
fold_better-append before best [] ys = refl
fold_better-append before best (x ∷ xs) ys = fold_better-append before (cond (before x best) x best) xs ys

pub first_by-append : (before : HeldRow → HeldRow → Bool) (xs ys : List HeldRow) →
    first_by before (xs ++ ys) ≡ first_after before (first_by before xs) ys
first_by-append before [] ys = refl
first_by-append before (x ∷ xs) ys = ap Some (fold_better-append before x xs ys)

pub first_after-append : (before : HeldRow → HeldRow → Bool) (best : Option HeldRow) (xs ys : List HeldRow) →
    first_after before best (xs ++ ys) ≡ first_after before (first_after before best xs) ys
first_after-append before None xs ys = first_by-append before xs ys
first_after-append before (Some b) xs ys = ap Some (fold_better-append before b xs ys)

-- a row further on
pub first_after_more : (before : HeldRow → HeldRow → Bool) (test : HeldRow → Bool) (best : Option HeldRow)
    (holder : ServerId) (rows : List Row) (i : ℕ) (d : Row) → i < length rows →
    first_after before best (filter test (rows_of holder (take (i + 1) rows))) ≡ first_after before
    (first_after before best (filter test (rows_of holder (take i rows))))
    (filter test (record { holder = holder; row = get_or rows i d } ∷ []))
first_after_more before test best holder rows i d inside =
    let next : HeldRow = record { holder = holder; row = get_or rows i d } in
    let earlier : List HeldRow = rows_of holder (take i rows) in
    let cut : rows_of holder (take (i + 1) rows) ≡ earlier ++ (next ∷ []) =
    ap (rows_of holder) (take_more rows i d inside) ∙ rows_of-append holder (take i rows) (get_or rows i d ∷ []) in
    ap (λ held. first_after before best (filter test held)) cut ∙ ap (first_after before best)
    (filter-append test earlier (next ∷ [])) ∙ first_after-append before best (filter test earlier)
    (filter test (next ∷ []))

-- a reply further on
pub first_by_more : (before : HeldRow → HeldRow → Bool) (test : HeldRow → Bool) (replies : List (ServerId × List Row))
    (i : ℕ) (d : ServerId × List Row) → i < length replies →
    first_by before (filter test (held_rows (take (i + 1) replies))) ≡ first_after before
    (first_by before (filter test (held_rows (take i replies))))
    (filter test (rows_of (get_or replies i d).0 (get_or replies i d).1))
first_by_more before test replies i d inside =
    let reply : ServerId × List Row = get_or replies i d in
    let earlier : List HeldRow = held_rows (take i replies) in
    let cut : held_rows (take (i + 1) replies) ≡ earlier ++ rows_of reply.0 reply.1 =
    ap held_rows (take_more replies i d inside) ∙ held_rows-append (take i replies) (reply ∷ []) ∙
    ap (λ rows. earlier ++ rows) (append_nil_right (rows_of reply.0 reply.1)) in
    ap (λ held. first_by before (filter test held)) cut
    ∙ ap (first_by before) (filter-append test earlier (rows_of reply.0 reply.1))
    ∙ first_by-append before (filter test earlier) (filter test (rows_of reply.0 reply.1))
  where
    append_nil_right : {A : Type 0} (xs : List A) → xs ++ [] ≡ xs
    append_nil_right [] = refl
    append_nil_right (x ∷ xs) = ap (λ ys. x ∷ ys) (append_nil_right xs)

-- a loop's step over the rows of one backup
pub first_after_step : (before : HeldRow → HeldRow → Bool) (test : HeldRow → Bool) (best so_far next : Option HeldRow)
    (holder : ServerId) (rows : List Row) (i : ℕ) (row : Row) → i < length rows → row ≡ get_or rows i row →
    so_far ≡ first_after before best (filter test (rows_of holder (take i rows))) →
    next ≡ first_after before so_far (filter test (record { holder = holder; row = row } ∷ [])) →
    next ≡ first_after before best (filter test (rows_of holder (take (i + 1) rows)))
first_after_step before test best so_far next holder rows i row inside at were is =
    is
    ∙ ap (λ (r : Row). first_after before so_far (filter test (record { holder = holder; row = r } ∷ []))) at
    ∙ ap (λ b. first_after before b (filter test (record { holder = holder; row = get_or rows i row } ∷ []))) were
    ∙ sym (first_after_more before test best holder rows i row inside)

-- a loop's step over the replies
pub first_by_step : (before : HeldRow → HeldRow → Bool) (test : HeldRow → Bool) (so_far next : Option HeldRow)
    (replies : List (ServerId × List Row)) (i : ℕ) (reply : ServerId × List Row) (rows : List Row) →
    i < length replies → reply ≡ get_or replies i reply → rows ≡ reply.1 →
    so_far ≡ first_by before (filter test (held_rows (take i replies))) →
    next ≡ first_after before so_far (filter test (rows_of reply.0 rows)) →
    next ≡ first_by before (filter test (held_rows (take (i + 1) replies)))
first_by_step before test so_far next replies i reply rows inside at told were is =
    is
    ∙ ap (λ r. first_after before so_far (filter test (rows_of reply.0 r))) told
    ∙ ap (λ (r : ServerId × List Row). first_after before so_far (filter test (rows_of r.0 r.1))) at
    ∙ ap (λ b. first_after before b (filter test (rows_of (get_or replies i reply).0 (get_or replies i reply).1))) were
    ∙ sym (first_by_more before test replies i reply inside)
