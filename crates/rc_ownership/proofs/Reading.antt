-- What a read finds is the last record high; what is outdated is below it.
use Rattle.std.proofs.Common.{◌≡◌, ℕ, ◌+◌, ◌-◌, Bool, true, false, cond, ◌&&◌, ◌||◌, nat_le, nat_lt, List, []}
use Rattle.std.proofs.Common.{◌∷◌, ◌++◌, length}
use Rattle.std.proofs.Common.{slice_get, Option, Some, None, max, sym, ap, ◌∙◌, refl, arith, length-append, append_assoc, zero, suc}
use Rattle.std.proofs.lemmas.Bool.Decides.{nat_tests}
use Rattle.std.specs.List.{list_any, fold}
use Rattle.rc_model.specs.Versions.{or_greater}
use Rattle.rc_model.specs.Model.{Entry, is_of, is_above, greatest_version, found_in, read_of}
use Rattle.rc_ownership.specs.Highs.{highs_from, highs_of}
use Rattle.rc_ownership.proofs.RecordHighs.{highs_after}

-- the last high, or this one where there is none
abbrev pub last_high_or : Option (ℕ × ℕ) → List (ℕ × ℕ) → Option (ℕ × ℕ)
last_high_or high [] = high
last_high_or high (next ∷ highs) = last_high_or (Some next) highs

last_high-at : (highs : List (ℕ × ℕ)) (high : Option (ℕ × ℕ)) (place : ℕ) → place + 1 ≡ length highs →
    last_high_or high highs ≡ slice_get highs place
last_high-at [] high place end = absurd (omega arith)
last_high-at (first ∷ []) high zero end = refl
last_high-at (first ∷ []) high (suc place) end = absurd (omega arith)
last_high-at (first ∷ second ∷ highs) high zero end = absurd (omega arith)
last_high-at (first ∷ second ∷ highs) high (suc place) end = last_high-at (second ∷ highs) (Some first) place (omega arith)

pub last_high : (highs : List (ℕ × ℕ)) → last_high_or None highs ≡ slice_get highs (length highs - 1)
last_high [] = refl
last_high (first ∷ highs) = last_high-at (first ∷ highs) None (length (first ∷ highs) - 1) (omega arith)

-- the entry that stands at a high
abbrev pub entry_at : List Entry → Option (ℕ × ℕ) → Option Entry
entry_at entries None = None
entry_at entries (Some high) = slice_get entries high.0

-- the least version above what was found
abbrev pub least_above : Option Entry → ℕ
least_above None = 0
least_above (Some found) = found.version + 1

above-least : (found : Option Entry) (version : ℕ) → is_above found version ≡ nat_le (least_above found) version
above-least None version = grind (arith, nat_tests)
above-least (Some found) version = less found.version version
  where
    less : (one other : ℕ) → nat_lt one other ≡ nat_le (one + 1) other
    less one other = grind (arith, nat_tests)

slice_get-after : (before : List Entry) (entry : Entry) (entries : List Entry) →
    slice_get (before ++ entry ∷ entries) (length before) ≡ Some entry
slice_get-after [] entry entries = refl
slice_get-after (first ∷ before) entry entries = slice_get-after before entry entries

greatest-highs : (term table key : ℕ) (all before entries : List Entry) (found : Option Entry) (high : Option (ℕ × ℕ)) →
    all ≡ before ++ entries →
    found ≡ entry_at all high →
    fold (or_greater term table key) found entries ≡ entry_at all
    (last_high_or high (highs_from term table key (length before) (least_above found) entries))
greatest-highs term table key all before [] found high is at = at
greatest-highs term table key all before (entry ∷ entries) found high is at =
    ap (λ b. fold (or_greater term table key) (cond (is_of term table key entry && b) (Some entry) found) entries)
    (above-least found entry.version)
    ∙ by (λ next h e. greatest-highs term table key all (before ++ entry ∷ []) entries next h
    (is ∙ sym (append_assoc before (entry ∷ []) entries)) e
    ∙ ap (λ place. entry_at all (last_high_or h (highs_from term table key place (least_above next) entries)))
    (length-append before (entry ∷ [])))
    (is_of term table key entry && nat_le (least_above found) entry.version)
  where
    here : Some entry ≡ entry_at all (Some (length before, entry.version))
    here = sym (ap (λ es. slice_get es (length before)) is ∙ slice_get-after before entry entries)

    by : ((next : Option Entry) (h : Option (ℕ × ℕ)) → next ≡ entry_at all h →
        fold (or_greater term table key) next entries ≡ entry_at all
        (last_high_or h (highs_from term table key (length before + 1) (least_above next) entries))) →
        (b : Bool) →
        fold (or_greater term table key) (cond b (Some entry) found) entries
        ≡ entry_at all (last_high_or high (highs_after b term table key (length before) (least_above found) entry entries))
    by later true = later (Some entry) (Some (length before, entry.version)) here
    by later false = later found high at

-- a read finds what stands at the last high
pub read_of-highs : (term table key : ℕ) (entries : List Entry) →
    read_of term table key entries
    ≡ found_in (entry_at entries (slice_get (highs_of term table key entries) (length (highs_of term table key entries) - 1)))
read_of-highs term table key entries =
    ap found_in (greatest-highs term table key entries [] entries None None refl refl
    ∙ ap (entry_at entries) (last_high (highs_of term table key entries)))

-- a greater version of a key is there where the greatest is greater
pub list_any-greatest : (term table key version : ℕ) (entries : List Entry) →
    list_any (λ other. is_of term table key other && nat_lt version other.version) entries ≡ nat_lt version
    (greatest_version term table key entries)
list_any-greatest term table key version [] = grind (arith, nat_tests)
list_any-greatest term table key version (first ∷ entries) =
    by (is_of term table key first) (list_any-greatest term table key version entries)
  where
    by : (is : Bool) → list_any (λ other. is_of term table key other && nat_lt version other.version) entries ≡ nat_lt
        version (greatest_version term table key entries) →
        ((is && nat_lt version first.version) || list_any (λ other. is_of term table key other && nat_lt version other.version) entries)
        ≡ nat_lt version (cond is (max first.version (greatest_version term table key entries)) (greatest_version term table key entries))
    by true later = rw later (greater first.version (greatest_version term table key entries))
      where
        greater : (one other : ℕ) → (nat_lt version one || nat_lt version other) ≡ nat_lt version (max one other)
        greater one other = grind (arith, nat_tests)
    by false later = later

-- the read, by what `last` and `get` find
pub read-none : (term table key : ℕ) (entries : List Entry) (highs : List (ℕ × ℕ)) → highs ≡ highs_of term table key entries →
    slice_get highs (length highs - 1) ≡ None → read_of term table key entries ≡ record { version = 0; value = None }
read-none term table key entries highs is at =
    read_of-highs term table key entries
    ∙ ap (λ high. found_in (entry_at entries high)) (ap (λ hs. slice_get hs (length hs - 1)) (sym is) ∙ at)

read_at : (term table key : ℕ) (entries : List Entry) (highs : List (ℕ × ℕ)) (high : ℕ × ℕ) (entry : Option Entry) →
    highs ≡ highs_of term table key entries →
    slice_get highs (length highs - 1) ≡ Some high → slice_get entries high.0 ≡ entry →
    read_of term table key entries ≡ found_in entry
read_at term table key entries highs high entry is at there =
    read_of-highs term table key entries
    ∙ ap (λ h. found_in (entry_at entries h)) (ap (λ hs. slice_get hs (length hs - 1)) (sym is) ∙ at)
    ∙ ap found_in there

pub read-nothing : (term table key : ℕ) (entries : List Entry) (highs : List (ℕ × ℕ)) (high : ℕ × ℕ) →
    highs ≡ highs_of term table key entries →
    slice_get highs (length highs - 1) ≡ Some high → slice_get entries high.0 ≡ None →
    read_of term table key entries ≡ record { version = 0; value = None }
read-nothing term table key entries highs high is at there = read_at term table key entries highs high None is at there

pub read-some : (term table key : ℕ) (entries : List Entry) (highs : List (ℕ × ℕ)) (high : ℕ × ℕ) (entry : Entry) →
    highs ≡ highs_of term table key entries →
    slice_get highs (length highs - 1) ≡ Some high → slice_get entries high.0 ≡ Some entry →
    read_of term table key entries ≡ record { version = entry.version; value = entry.value }
read-some term table key entries highs high entry is at there = read_at term table key entries highs high (Some entry) is at there
