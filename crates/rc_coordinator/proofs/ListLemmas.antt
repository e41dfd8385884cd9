-- Lists in which no id stands twice, and tables made of them.
use Rattle.std.proofs.Common.{◌≡◌, ℕ, suc, ◌+◌, ◌<◌, ◌≤◌, Bool, true, false, cond, ltb, ◌||◌, List, [], ◌∷◌, ◌++◌, length, take, drop, Some}
use Rattle.std.proofs.Common.{zero, slice_get, get_or, is_some, refl, sym, ap, subst, ◌∙◌, append_assoc, true≢false, ⊎_elim, arith}
use Rattle.std.specs.List.{list_any, IsDistinct, AllByRecursion}
use Rattle.std.specs.Map.{keys_of, lookup}
use Rattle.std.proofs.lemmas.Bool.{ltb-true, ltb-false}
use Rattle.std.proofs.lemmas.List.{length-append, append-nil}
use Rattle.std.proofs.lemmas.Option.{none-some, same_Some, slice_get-get_or}
use Rattle.indexmap.specs.IndexMap.{insert_entry}
use Rattle.rc_model.specs.Model.{ServerId, Grant, same_id, ServerList, knows, first_rows, from_rows, Attempt}
use Rattle.rc_model.proofs.Ids.{same_id-true, same_id-refl}
use Rattle.rc_coordinator.specs.Asked.{IsIn, AreAsked, AreUpTo}
use Rattle.rc_coordinator.proofs.AskedLemmas.{attempt_of-there, AreRising-append, IsIn-append, IsIn-last, IsIn-from_append}

-- ---- what stands twice

all-middle : (y : ServerId) (front : List ServerId) (x : ServerId) (back : List ServerId) →
    AllByRecursion (λ z. same_id y z ≡ false) (front ++ x ∷ back) → same_id y x ≡ false
all-middle y [] x back all = all.0
all-middle y (z ∷ front) x back all = all-middle y front x back all.1

-- an id that is the same as one before it
pub not-distinct : (front : List ServerId) (x : ServerId) (back : List ServerId) → list_any (same_id x) front ≡ true →
    IsDistinct same_id (front ++ x ∷ back) → ⊥
unfolding IsDistinct
not-distinct [] x back there distinct = true≢false (sym there)
not-distinct (y ∷ front) x back there distinct =
    by (λ later. not-distinct front x back later distinct.1) (same_id x y) refl there
  where
    by : (list_any (same_id x) front ≡ true → ⊥) → (b : Bool) → same_id x y ≡ b → (b || list_any (same_id x) front) ≡ true → ⊥
    by others true e there =
        let same : same_id y x ≡ same_id y y = ap (same_id y) (same_id-true e) in
        true≢false (sym (same_id-refl y) ∙ sym same ∙ all-middle y front x back distinct.0)
    by others false e there = others there

keys-append : {X : Type 0} (es fs : List (ServerId × X)) → keys_of (es ++ fs) ≡ keys_of es ++ keys_of fs
keys-append [] fs = refl
keys-append (e ∷ es) fs = ap (λ (ks : List ServerId). e.0 ∷ ks) (keys-append es fs)

found-any : {X : Type 0} (id : ServerId) (es : List (ServerId × X)) →
    is_some (lookup (same_id id) es) ≡ list_any (same_id id) (keys_of es)
found-any id [] = refl
found-any {X} id (e ∷ es) = by (found-any id es) (same_id id e.0)
  where
    by : is_some (lookup (same_id id) es) ≡ list_any (same_id id) (keys_of es) → (b : Bool) →
        is_some (cond b (Some e.1) (lookup (same_id id) es)) ≡ (b || list_any (same_id id) (keys_of es))
    by others true = refl
    by others false = others

-- an entry whose id is found before it
pub not-distinct_keys : {X : Type 0} (front : List (ServerId × X)) (e : ServerId × X) (back : List (ServerId × X)) →
    is_some (lookup (same_id e.0) front) ≡ true → IsDistinct same_id (keys_of (front ++ e ∷ back)) → ⊥
not-distinct_keys front e back there distinct =
    not-distinct (keys_of front) e.0 (keys_of back) (sym (found-any e.0 front) ∙ there)
    (subst (λ (ks : List ServerId). IsDistinct same_id ks) (keys-append front (e ∷ back)) distinct)

split-at : {X : Type 0} (xs : List X) (i : ℕ) (x : X) → slice_get xs i ≡ Some x → xs ≡ take i xs ++ x ∷ drop (suc i) xs
split-at [] i x e = absurd (none-some x e)
split-at (y ∷ ys) zero x e = ap (λ z. z ∷ ys) (same_Some y x e)
split-at (y ∷ ys) (suc i) x e = ap (λ zs. y ∷ zs) (split-at ys i x e)

-- so a list that is gone through comes upon an id that it has come upon before
pub stands-twice : (ids : List ServerId) (i : ℕ) (x : ServerId) → slice_get ids i ≡ Some x →
    list_any (same_id x) (take i ids) ≡ true → IsDistinct same_id ids → ⊥
stands-twice ids i x at there distinct = not-distinct (take i ids) x (drop (suc i) ids) there
    (subst (λ (those : List ServerId). IsDistinct same_id those) (split-at ids i x at) distinct)

pub keys-twice : {X : Type 0} (es : List (ServerId × X)) (i : ℕ) (e : ServerId × X) → slice_get es i ≡ Some e →
    is_some (lookup (same_id e.0) (take i es)) ≡ true → IsDistinct same_id (keys_of es) → ⊥
keys-twice {X} es i e at there distinct = not-distinct_keys (take i es) e (drop (suc i) es) there
    (subst (λ (those : List (ServerId × X)). IsDistinct same_id (keys_of those)) (split-at es i e at) distinct)

take-more : {X : Type 0} (xs : List X) (i : ℕ) (x : X) → slice_get xs i ≡ Some x → take (suc i) xs ≡ take i xs ++ x ∷ []
take-more [] i x e = absurd (none-some x e)
take-more (y ∷ ys) zero x e = ap (λ z. z ∷ []) (same_Some y x e)
take-more (y ∷ ys) (suc i) x e = ap (λ zs. y ∷ zs) (take-more ys i x e)

insert-absent : {X : Type 0} (es : List (ServerId × X)) (id : ServerId) (x : X) → is_some (lookup (same_id id) es) ≡ false →
    insert_entry same_id es id x ≡ es ++ (id, x) ∷ []
insert-absent [] id x absent = refl
insert-absent {X} (e ∷ es) id x absent = by (insert-absent es id x) (same_id id e.0) absent
  where
    by : (is_some (lookup (same_id id) es) ≡ false → insert_entry same_id es id x ≡ es ++ (id, x) ∷ []) → (b : Bool) →
        is_some (cond b (Some e.1) (lookup (same_id id) es)) ≡ false →
        cond b ((e.0, x) ∷ es) (e ∷ insert_entry same_id es id x) ≡ e ∷ es ++ (id, x) ∷ []
    by others true absent = absurd (true≢false absent)
    by others false absent = ap (λ zs. e ∷ zs) (others absent)

-- what stands at a place of a list
pub stands-at : {X : Type 0} (xs : List X) (i : ℕ) (default : X) → i < length xs → slice_get xs i ≡ Some (get_or xs i default)
stands-at xs i default within = slice_get-get_or xs i default within

-- a map with one entry more of a list
pub entry-put : {X : Type 0} (es old new : List (ServerId × X)) (i : ℕ) (id : ServerId) (x : X) → slice_get es i ≡ Some (id, x) →
    old ≡ take i es → is_some (lookup (same_id id) old) ≡ false → new ≡ insert_entry same_id old id x → new ≡ take (i + 1) es
entry-put {X} es old new i id x at so_far absent is =
    let next : i + 1 ≡ suc i = omega arith in
    is ∙ insert-absent old id x absent ∙ ap (λ (zs : List (ServerId × X)). zs ++ (id, x) ∷ []) so_far
    ∙ sym (take-more es i (id, x) at) ∙ ap (λ (n : ℕ). take n es) (sym next)

-- ---- rows of servers

abbrev servers_with : ℕ → List (ServerId × Bool) → ServerList
servers_with version rows = record { version = version; rows = rows }

knows-any : (rows : List (ServerId × Bool)) (id : ServerId) → knows rows id ≡ list_any (same_id id) (keys_of rows)
knows-any [] id = refl
knows-any (row ∷ rows) id = ap (λ (b : Bool). same_id id row.0 || b) (knows-any rows id)

no-longer : (before rows : List (ServerId × Bool)) → length (first_rows before rows) ≤ length before + length rows
no-longer before [] = omega arith
no-longer before (row ∷ rows) = by (no-longer before rows) (no-longer (before ++ row ∷ []) rows) (knows before row.0)
  where
    by : length (first_rows before rows) ≤ length before + length rows →
        length (first_rows (before ++ row ∷ []) rows) ≤ length (before ++ row ∷ []) + length rows → (b : Bool) →
        length (cond b (first_rows before rows) (first_rows (before ++ row ∷ []) rows)) ≤ length before + suc (length rows)
    by known new true = omega (arith, known)
    by known new false = omega (arith, new, length-append before (row ∷ []))

as-long : (before rows : List (ServerId × Bool)) → length (first_rows before rows) ≡ length before + length rows →
    first_rows before rows ≡ before ++ rows
as-long before [] e = sym (append-nil before)
as-long before (row ∷ rows) e = by (as-long (before ++ row ∷ []) rows) (knows before row.0) e
  where
    by : (length (first_rows (before ++ row ∷ []) rows) ≡ length (before ++ row ∷ []) + length rows →
        first_rows (before ++ row ∷ []) rows ≡ (before ++ row ∷ []) ++ rows) → (b : Bool) →
        length (cond b (first_rows before rows) (first_rows (before ++ row ∷ []) rows)) ≡ length before + suc (length rows) →
        cond b (first_rows before rows) (first_rows (before ++ row ∷ []) rows) ≡ before ++ row ∷ rows
    by others true e = absurd (omega (arith, no-longer before rows, e))
    by others false e = others (omega (arith, e, length-append before (row ∷ [])))
        ∙ append_assoc before (row ∷ []) rows

distinct-rows : (before rows : List (ServerId × Bool)) → IsDistinct same_id (keys_of (before ++ rows)) →
    first_rows before rows ≡ before ++ rows
distinct-rows before [] distinct = sym (append-nil before)
distinct-rows before (row ∷ rows) distinct = by (distinct-rows (before ++ row ∷ []) rows) (knows before row.0) refl
  where
    by : (IsDistinct same_id (keys_of ((before ++ row ∷ []) ++ rows)) →
        first_rows (before ++ row ∷ []) rows ≡ (before ++ row ∷ []) ++ rows) → (b : Bool) → knows before row.0 ≡ b →
        cond b (first_rows before rows) (first_rows (before ++ row ∷ []) rows) ≡ before ++ row ∷ rows
    by others true e = absurd (not-distinct (keys_of before) row.0 (keys_of rows) (sym (knows-any before row.0) ∙ e)
        (subst (λ (ks : List ServerId). IsDistinct same_id ks) (keys-append before (row ∷ rows)) distinct))
    by others false e = others
        (subst (λ (es : List (ServerId × Bool)). IsDistinct same_id (keys_of es)) (sym (append_assoc before (row ∷ []) rows)) distinct)
        ∙ append_assoc before (row ∷ []) rows

-- the first rows of each id are all rows where there are as many, and so it is where no id stands twice
pub all-first : (rows : List (ServerId × Bool)) → length (first_rows [] rows) ≡ length rows → first_rows [] rows ≡ rows
all-first rows e = as-long [] rows (omega (arith, e))

pub first-of_distinct : (rows : List (ServerId × Bool)) → IsDistinct same_id (keys_of rows) →
    length (first_rows [] rows) ≡ length rows
first-of_distinct rows distinct = ap length (distinct-rows [] rows distinct)

pub servers-are : (version : ℕ) (rows : List (ServerId × Bool)) (servers : ServerList) → servers ≡ from_rows version rows →
    length servers.rows ≡ length rows → servers ≡ record { version = version; rows = rows }
servers-are version rows servers is long = is ∙ ap (λ (rs : List (ServerId × Bool)). servers_with version rs)
    (all-first rows (ap (λ (s : ServerList). length s.rows) (sym is) ∙ long))

pub no-servers : (version : ℕ) (rows : List (ServerId × Bool)) (servers : ServerList) → servers ≡ from_rows version rows →
    (length servers.rows ≡ length rows → ⊥) → IsDistinct same_id (keys_of rows) → ⊥
no-servers version rows servers is long distinct =
    long (ap (λ (s : ServerList). length s.rows) is ∙ first-of_distinct rows distinct)

-- ---- numbers of attempts

pub up_to_none : AreUpTo 0 []
up_to_none = record {
  rising = tt;
  within = λ m at. absurd at;
  all = λ m above below. absurd (omega (arith, above, below));
}

pub up_to_more : (count : ℕ) (numbers : List ℕ) → AreUpTo count numbers → AreUpTo (count + 1) (numbers ++ (count + 1) ∷ [])
up_to_more count numbers before = record {
  rising = AreRising-append (count + 1) numbers before.rising (λ m at. omega (arith, (before.within m at).1));
  within = λ m at.
      ⊎_elim (λ (old : IsIn m numbers). ((before.within m old).0, omega (arith, (before.within m old).1)))
      (λ (new : m ≡ count + 1). (omega (arith, new), omega (arith, new))) (IsIn-from_append m (count + 1) numbers at);
  all = λ m above below. by m above below (ltb m (count + 1)) refl;
}
  where
    by : (m : ℕ) → 0 < m → m ≤ count + 1 → (b : Bool) → ltb m (count + 1) ≡ b → IsIn m (numbers ++ (count + 1) ∷ [])
    by m above below true e = IsIn-append m (count + 1) numbers (before.all m above (omega (arith, ltb-true m (count + 1) e)))
    by m above below false e =
        let last : m ≡ count + 1 = omega (arith, below, ltb-false m (count + 1) e) in
        subst (λ n. IsIn n (numbers ++ (count + 1) ∷ [])) (sym last) (IsIn-last (count + 1) numbers)

-- where all are asked, nobody is missing
pub all-asked : (attempts : List Attempt) (current : List (ServerId × ℕ)) (grants : List Grant) (numbers : List ℕ) →
    AreUpTo (length attempts) numbers → AreAsked attempts current grants numbers
all-asked attempts current grants numbers all = record {
  rising = all.rising;
  within = all.within;
  all = λ m attempt there waiting.
      let at = attempt_of-there attempts m attempt there in
      all.all m at.0 at.1;
}
