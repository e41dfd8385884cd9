-- Record highs with one more entry, and of the first entries.
use Rattle.std.proofs.Common.{◌≡◌, ℕ, ◌+◌, ◌-◌, ◌<◌, ◌≤◌, Bool, true, false, cond, ◌&&◌, nat_le, nat_lt, List, [], ◌∷◌, ◌++◌}
use Rattle.std.proofs.Common.{length, take, filter, slice_get, Some, None, max, sym, ap, ◌∙◌, refl, arith, zero, suc, rules}
use Rattle.std.proofs.lemmas.Bool.Decides.{nat_tests}
use Rattle.std.specs.Prelude.{slice_index_or}
use Rattle.std.specs.List.Sorted.{IsNonDecreasingBy, IsPartitionPoint}
use Rattle.rc_model.specs.Model.{Entry, is_of, greatest_version}
use Rattle.rc_ownership.specs.Highs.{above_or, highs_from, highs_of, is_higher, last_or, last_version, with_high}

-- the last high is the one at the last place of the list
pub last_or-at : (highs : List (ℕ × ℕ)) (version place : ℕ) (high : ℕ × ℕ) → slice_get highs place ≡ Some high →
    place + 1 ≡ length highs → last_or version highs ≡ high.1
last_or-at [] version place high at end = absurd (omega arith)
last_or-at (first ∷ []) version zero high at end = cc
last_or-at (first ∷ []) version (suc place) high at end = absurd (omega arith)
last_or-at (first ∷ second ∷ highs) version zero high at end = absurd (omega arith)
last_or-at (first ∷ second ∷ highs) version (suc place) high at end =
    last_or-at (second ∷ highs) first.1 place high at (omega arith)

-- what `last` finds tells the last version
pub last_version-last : (highs : List (ℕ × ℕ)) (high : ℕ × ℕ) → slice_get highs (length highs - 1) ≡ Some high → last_version highs ≡ high.1
last_version-last [] high at = absurd (cc)
last_version-last (first ∷ highs) high at = last_or-at (first ∷ highs) 0 (length (first ∷ highs) - 1) high at (omega arith)

-- what one more entry adds, after these highs
abbrev pub next_high : ℕ → ℕ → ℕ → ℕ → List (ℕ × ℕ) → ℕ → Entry → List (ℕ × ℕ)
next_high term table key least highs place entry =
    cond (is_of term table key entry && nat_le (above_or least highs) entry.version) ((place, entry.version) ∷ []) []

-- the highs of a first entry and of those after it
abbrev pub highs_after : Bool → ℕ → ℕ → ℕ → ℕ → ℕ → Entry → List Entry → List (ℕ × ℕ)
highs_after high term table key place least first entries =
    cond high ((place, first.version) ∷ highs_from term table key (place + 1) (first.version + 1) entries)
    (highs_from term table key (place + 1) least entries)

-- one more entry is one more high, where its version is above all before
pub highs_from-push : (term table key place least : ℕ) (entries : List Entry) (entry : Entry) →
    highs_from term table key place least (entries ++ entry ∷ [])
    ≡ highs_from term table key place least entries ++ next_high term table key least
    (highs_from term table key place least entries) (place + length entries) entry
highs_from-push term table key place least [] entry = ap (λ at. next_high term table key least [] at entry) (omega arith)
highs_from-push term table key place least (first ∷ entries) entry =
    by (λ g. highs_from-push term table key (place + 1) g entries entry
    ∙ ap (λ at. highs_from term table key (place + 1) g entries ++
    next_high term table key g (highs_from term table key (place + 1) g entries) at entry) (omega arith))
    (is_of term table key first && nat_le least first.version)
  where
    by : ((g : ℕ) → highs_from term table key (place + 1) g (entries ++ entry ∷ [])
        ≡ highs_from term table key (place + 1) g entries ++
        next_high term table key g (highs_from term table key (place + 1) g entries)
        (place + length (first ∷ entries)) entry) →
        (b : Bool) →
        highs_after b term table key place least first (entries ++ entry ∷ [])
        ≡ highs_after b term table key place least first entries
        ++ next_high term table key least (highs_after b term table key place least first entries)
        (place + length (first ∷ entries)) entry
    by later true = ap (λ highs. (place, first.version) ∷ highs) (later (first.version + 1))
    by later false = later least

split_high : (is above : Bool) (highs more : List (ℕ × ℕ)) →
    highs ++ cond (is && above) more [] ≡ cond is (cond above (highs ++ more) highs) highs
split_high true true highs more = refl
split_high true false highs more = search (rules)
split_high false above highs more = search (rules)

pub highs_of-push : (term table key : ℕ) (entries : List Entry) (entry : Entry) →
    highs_of term table key (entries ++ entry ∷ [])
    ≡ cond (is_of term table key entry) (with_high (length entries) entry.version (highs_of term table key entries))
    (highs_of term table key entries)
highs_of-push term table key entries entry =
    highs_from-push term table key 0 0 entries entry
    ∙ ap (λ at. highs_of term table key entries ++
    cond (is_of term table key entry && is_higher (highs_of term table key entries) entry.version)
    ((at, entry.version) ∷ []) []) (omega arith)
    ∙ split_high (is_of term table key entry) (is_higher (highs_of term table key entries) entry.version)
    (highs_of term table key entries) ((length entries, entry.version) ∷ [])

-- the last high has the greatest version
pub last_or-greatest : (term table key place least greatest : ℕ) (entries : List Entry) → greatest ≤ least → least ≤ greatest + 1 →
    last_or greatest (highs_from term table key place least entries) ≡ max greatest (greatest_version term table key entries)
last_or-greatest term table key place least greatest [] low high = omega arith
last_or-greatest term table key place least greatest (first ∷ entries) low high =
    by (λ l g. last_or-greatest term table key (place + 1) l g entries) (is_of term table key first) (nat_le least first.version) refl
  where
    by : ((l g : ℕ) → g ≤ l → l ≤ g + 1 →
        last_or g (highs_from term table key (place + 1) l entries) ≡ max g (greatest_version term table key entries)) →
        (is above : Bool) → nat_le least first.version ≡ above →
        last_or greatest (highs_after (is && above) term table key place least first entries)
        ≡ max greatest (cond is (max first.version (greatest_version term table key entries)) (greatest_version term table key entries))
    by later true true h =
        let above : least ≤ first.version = grind (arith, nat_tests) in
        later (first.version + 1) first.version (omega arith) (omega arith) ∙ omega (arith, above)
    by later true false h =
        let below : first.version < least = grind (arith, nat_tests) in
        later least greatest low high ∙ omega (arith, below)
    by later false above h = later least greatest low high

pub last_version-greatest : (term table key : ℕ) (entries : List Entry) →
    last_version (highs_of term table key entries) ≡ greatest_version term table key entries
last_version-greatest term table key entries = last_or-greatest term table key 0 0 0 entries (omega arith) (omega arith) ∙ omega arith

-- a version is above the last high
above_or-at : (highs : List (ℕ × ℕ)) (least place : ℕ) (high : ℕ × ℕ) → slice_get highs place ≡ Some high →
    place + 1 ≡ length highs → above_or least highs ≡ high.1 + 1
above_or-at [] least place high at end = absurd (omega arith)
above_or-at (first ∷ []) least zero high at end = cc
above_or-at (first ∷ []) least (suc place) high at end = absurd (omega arith)
above_or-at (first ∷ second ∷ highs) least zero high at end = absurd (omega arith)
above_or-at (first ∷ second ∷ highs) least (suc place) high at end =
    above_or-at (second ∷ highs) (first.1 + 1) place high at (omega arith)

pub higher-last : (highs : List (ℕ × ℕ)) (high : ℕ × ℕ) (version : ℕ) → slice_get highs (length highs - 1) ≡ Some high →
    nat_lt high.1 version ≡ is_higher highs version
higher-last [] high version at = absurd (cc)
higher-last (first ∷ highs) high version at =
    less high.1 version ∙ ap (λ n. nat_le n version)
    (sym (above_or-at (first ∷ highs) 0 (length (first ∷ highs) - 1) high at (omega arith)))
  where
    less : (one other : ℕ) → nat_lt one other ≡ nat_le (one + 1) other
    less one other = grind (arith, nat_tests)

pub higher-none : (highs : List (ℕ × ℕ)) (version : ℕ) → slice_get highs (length highs - 1) ≡ None → true ≡ is_higher highs version
higher-none [] version none = grind (arith, nat_tests)
higher-none (first ∷ highs) version none =
    absurd (some (first ∷ highs) (length (first ∷ highs) - 1) (omega arith) none)
  where
    some : (xs : List (ℕ × ℕ)) (i : ℕ) → i < length xs → slice_get xs i ≡ None → ⊥
    some [] i less at = omega arith
    some (x ∷ xs) zero less at = cc
    some (x ∷ xs) (suc i) less at = some xs i (omega arith) at

-- The highs of the first entries

-- no high stands before the place that its entries begin at
pub highs_from-above : (term table key place least : ℕ) (entries : List Entry) → (i : ℕ) (d : ℕ × ℕ) →
    i < length (highs_from term table key place least entries) →
    place ≤ (slice_index_or (highs_from term table key place least entries) i d).0
highs_from-above term table key place least [] = λ i d within. absurd (omega arith)
highs_from-above term table key place least (first ∷ entries) =
    by (λ g. highs_from-above term table key (place + 1) g entries) (is_of term table key first && nat_le least first.version)
  where
    by : ((g i : ℕ) (d : ℕ × ℕ) → i < length (highs_from term table key (place + 1) g entries) →
        place + 1 ≤ (slice_index_or (highs_from term table key (place + 1) g entries) i d).0) →
        (b : Bool) (i : ℕ) (d : ℕ × ℕ) → i < length (highs_after b term table key place least first entries) →
        place ≤ (slice_index_or (highs_after b term table key place least first entries) i d).0
    by later true zero d within = omega arith
    by later true (suc i) d within = omega (arith, later (first.version + 1) i d (omega arith))
    by later false i d within = omega (arith, later least i d within)

pub highs_from-rise : (term table key place least : ℕ) (entries : List Entry) →
    IsNonDecreasingBy (λ high. high.0) (highs_from term table key place least entries)
highs_from-rise term table key place least [] = λ i j d before within. absurd (omega arith)
highs_from-rise term table key place least (first ∷ entries) =
    by (λ g. highs_from-rise term table key (place + 1) g entries) (is_of term table key first && nat_le least first.version)
  where
    by : ((g : ℕ) → IsNonDecreasingBy (λ high. high.0) (highs_from term table key (place + 1) g entries)) →
        (b : Bool) → IsNonDecreasingBy (λ high. high.0) (highs_after b term table key place least first entries)
    by later true zero zero d before within = omega arith
    by later true zero (suc j) d before within =
        omega (arith, highs_from-above term table key (place + 1) (first.version + 1) entries j d (omega arith))
    by later true (suc i) zero d before within = absurd (omega arith)
    by later true (suc i) (suc j) d before within = later (first.version + 1) i j d (omega arith) (omega arith)
    by later false i j d before within = later least i j d before within

-- up to a partition point are those that pass
pub filter-point : {X : Type 0} (p : X → Bool) (xs : List X) (n : ℕ) → n ≤ length xs →
    IsPartitionPoint (λ x. p x ≡ true) (λ x. p x ≡ false) xs n → take n xs ≡ filter p xs
filter-point p [] zero within point = refl
filter-point p [] (suc n) within point = absurd (omega arith)
filter-point {X} p (x ∷ xs) zero within point =
    let here : p x ≡ false = point.1 0 x (omega arith) (omega arith) in
    let later : [] ≡ filter p xs = filter-point p xs 0 (omega arith) (
      (λ k d low high. absurd (omega arith)),
      (λ k d low high. point.1 (suc k) d (omega arith) (omega arith)),
    ) in
    later ∙ ap (λ b. cond b (x ∷ filter p xs) (filter p xs)) (sym here)
filter-point {X} p (x ∷ xs) (suc n) within point =
    let here : p x ≡ true = point.0 0 x (omega arith) (omega arith) in
    let later : take n xs ≡ filter p xs = filter-point p xs n (omega arith)
    ((λ k d low high. point.0 (suc k) d (omega arith) (omega arith)), (λ k d low high. point.1 (suc k) d (omega arith) (omega arith))) in
    ap (λ ys. x ∷ ys) later ∙ ap (λ b. cond b (x ∷ filter p xs) (filter p xs)) (sym here)

-- none is below the place that its entries begin at
none_below : (term table key place least : ℕ) (entries : List Entry) (bound : ℕ) → bound ≤ place →
    filter (λ high. nat_lt high.0 bound) (highs_from term table key place least entries) ≡ []
none_below term table key place least [] bound low = refl
none_below term table key place least (first ∷ entries) bound low =
    by (λ g. none_below term table key (place + 1) g entries bound (omega arith)) (grind (arith, nat_tests))
    (is_of term table key first && nat_le least first.version)
  where
    by : ((g : ℕ) → filter (λ high. nat_lt high.0 bound) (highs_from term table key (place + 1) g entries) ≡ []) →
        nat_lt place bound ≡ false → (b : Bool) →
        filter (λ high. nat_lt high.0 bound) (highs_after b term table key place least first entries) ≡ []
    by later out true =
        ap (λ b. cond b ((place, first.version) ∷ filter (λ high. nat_lt high.0 bound)
        (highs_from term table key (place + 1) (first.version + 1) entries))
        (filter (λ high. nat_lt high.0 bound) (highs_from term table key (place + 1) (first.version + 1) entries))) out
        ∙ later (first.version + 1)
    by later out false = later least

-- the highs of the first entries are those that stand among them
pub highs_from-take : (term table key place least : ℕ) (entries : List Entry) (count bound : ℕ) → bound ≡ place + count →
    highs_from term table key place least (take count entries) ≡ filter (λ high. nat_lt high.0 bound)
    (highs_from term table key place least entries)
highs_from-take term table key place least [] zero bound is = refl
highs_from-take term table key place least [] (suc count) bound is = refl
highs_from-take term table key place least (first ∷ entries) zero bound is =
    sym (none_below term table key place least (first ∷ entries) bound (omega arith))
highs_from-take term table key place least (first ∷ entries) (suc count) bound is =
    by (λ g. highs_from-take term table key (place + 1) g entries count bound (omega arith)) (grind (arith, nat_tests))
    (is_of term table key first && nat_le least first.version)
  where
    by : ((g : ℕ) → highs_from term table key (place + 1) g (take count entries) ≡ filter (λ high. nat_lt high.0 bound)
        (highs_from term table key (place + 1) g entries)) →
        nat_lt place bound ≡ true → (b : Bool) →
        highs_after b term table key place least first (take count entries) ≡ filter (λ high. nat_lt high.0 bound)
        (highs_after b term table key place least first entries)
    by later here true =
        ap (λ highs. (place, first.version) ∷ highs) (later (first.version + 1))
        ∙ ap (λ b. cond b ((place, first.version) ∷ filter (λ high. nat_lt high.0 bound)
        (highs_from term table key (place + 1) (first.version + 1) entries))
        (filter (λ high. nat_lt high.0 bound) (highs_from term table key (place + 1) (first.version + 1) entries))) (sym here)
    by later here false = later least

pub highs_of-take : (term table key : ℕ) (entries : List Entry) (count : ℕ) →
    highs_of term table key (take count entries) ≡ filter (λ high. nat_lt high.0 count) (highs_of term table key entries)
highs_of-take term table key entries count = highs_from-take term table key 0 0 entries count count (omega arith)
