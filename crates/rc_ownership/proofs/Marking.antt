-- Entries of which some are marked, and how many of these are under a term.
use Rattle.std.proofs.Common.{◌≡◌, ℕ, ◌+◌, ◌-◌, ◌<◌, ◌≤◌, Bool, true, false, cond, nat_eq, List, [], ◌∷◌, length, take, drop, filter, ap}
use Rattle.std.proofs.Common.{◌∙◌, refl, arith, zero, suc}
use Rattle.std.specs.Prelude.{slice_index_or}
use Rattle.rc_model.specs.Model.{Entry, count_under}
use Rattle.rc_ownership.specs.Marks.{marked}

-- one more entry under a term or not
first : (term : ℕ) (entry : Entry) (entries : List Entry) →
    count_under term (entry ∷ entries) ≡ cond (nat_eq entry.term term) 1 0 + count_under term entries
first term entry entries = by (nat_eq entry.term term)
  where
    by : (b : Bool) → length (cond b (entry ∷ filter (λ e. nat_eq e.term term) entries) (filter (λ e. nat_eq e.term term) entries))
        ≡ cond b 1 0 + length (filter (λ e. nat_eq e.term term) entries)
    by true = omega arith
    by false = omega arith

-- one more, marked or not
abbrev pub adds : ℕ → Bool → Entry → ℕ
adds term mark entry = cond mark (cond (nat_eq entry.term term) 1 0) 0

marked-first : (term : ℕ) (mark : Bool) (marks : List Bool) (entry : Entry) (entries : List Entry) →
    count_under term (marked (mark ∷ marks) (entry ∷ entries)) ≡ adds term mark entry + count_under term (marked marks entries)
marked-first term true marks entry entries = first term entry (marked marks entries)
marked-first term false marks entry entries = omega arith

pub adds-le : (term : ℕ) (mark : Bool) (entry : Entry) → adds term mark entry ≤ 1
adds-le term false entry = omega arith
adds-le term true entry = by (nat_eq entry.term term)
  where
    by : (b : Bool) → cond b 1 0 ≤ 1
    by true = omega arith
    by false = omega arith

-- at most as many of the first entries as there are
pub marked-le : (term n : ℕ) (marks : List Bool) (entries : List Entry) →
    count_under term (marked (take n marks) (take n entries)) ≤ n
marked-le term zero marks entries = omega arith
marked-le term (suc n) [] entries = omega arith
marked-le term (suc n) (mark ∷ marks) [] = omega arith
marked-le term (suc n) (mark ∷ marks) (entry ∷ entries) =
    omega (
      arith,
      marked-first term mark (take n marks) entry (take n entries),
      adds-le term mark entry,
      marked-le term n marks entries,
    )

-- those of the first entries, and of those after them
marked-add : (term : ℕ) (marks : List Bool) (entries : List Entry) (one other : ℕ) → length marks ≡ length entries →
    count_under term (marked (take one marks) (take one entries)) + count_under term
    (marked (take other (drop one marks)) (take other (drop one entries)))
    ≡ count_under term (marked (take (one + other) marks) (take (one + other) entries))
marked-add term marks entries zero other same =
    let none : count_under term (marked (take zero marks) (take zero entries))
    + count_under term (marked (take other (drop zero marks)) (take other (drop zero entries)))
    ≡ count_under term (marked (take other marks) (take other entries)) = omega arith in
    none ∙ ap (λ n. count_under term (marked (take n marks) (take n entries))) (none-more other)
  where
    none-more : (n : ℕ) → n ≡ 0 + n
    none-more n = omega arith
marked-add term [] [] (suc one) other same = omega (arith, none other, none (suc one + other))
  where
    none : (n : ℕ) → count_under term (marked (take n []) (take n [])) ≡ 0
    none zero = refl
    none (suc n) = refl
marked-add term [] (entry ∷ entries) (suc one) other same = absurd (omega arith)
marked-add term (mark ∷ marks) [] (suc one) other same = absurd (omega arith)
marked-add term (mark ∷ marks) (entry ∷ entries) (suc one) other same =
    let rest = marked-add term marks entries one other (omega arith) in
    let now = marked-first term mark (take one marks) entry (take one entries) in
    let all = marked-first term mark (take (one + other) marks) entry (take (one + other) entries) in
    let sum : count_under term (marked (take (suc one) (mark ∷ marks)) (take (suc one) (entry ∷ entries)))
    + count_under term (marked (take other (drop one marks)) (take other (drop one entries)))
    ≡ count_under term (marked (take (suc (one + other)) (mark ∷ marks)) (take (suc (one + other)) (entry ∷ entries))) =
    omega (arith, rest, now, all) in
    sum ∙ ap (λ n. count_under term (marked (take n (mark ∷ marks)) (take n (entry ∷ entries)))) (moved one other)
  where
    moved : (one other : ℕ) → suc (one + other) ≡ suc one + other
    moved one other = omega arith

pub marked-between : (term : ℕ) (marks : List Bool) (entries : List Entry) (durable count : ℕ) → length marks ≡ length entries →
    durable ≤ count →
    count_under term (marked (take durable marks) (take durable entries)) + count_under term
    (marked (take (count - durable) (drop durable marks)) (take (count - durable) (drop durable entries)))
    ≡ count_under term (marked (take count marks) (take count entries))
marked-between term marks entries durable count same risen =
    marked-add term marks entries durable (count - durable) same
    ∙ ap (λ n. count_under term (marked (take n marks) (take n entries))) (omega arith)

-- one entry further
marked-at : (term place : ℕ) (marks : List Bool) (entries : List Entry) (other : Entry) → length marks ≡ length entries →
    place < length entries →
    count_under term (marked (take (place + 1) marks) (take (place + 1) entries))
    ≡ count_under term (marked (take place marks) (take place entries))
    + adds term (slice_index_or marks place false) (slice_index_or entries place other)
marked-at term place [] entries other same within = absurd (omega arith)
marked-at term place (m ∷ marks) [] other same within = absurd (omega arith)
marked-at term zero (m ∷ marks) (e ∷ entries) other same within = marked-first term m [] e [] ∙ omega arith
marked-at term (suc place) (m ∷ marks) (e ∷ entries) other same within =
    let rest = marked-at term place marks entries other (omega arith) (omega arith) in
    let now = marked-first term m (take place marks) e (take place entries) in
    let more = marked-first term m (take (place + 1) marks) e (take (place + 1) entries) in
    let all : count_under term (marked (take (suc (place + 1)) (m ∷ marks)) (take (suc (place + 1)) (e ∷ entries)))
    ≡ count_under term (marked (take (suc place) (m ∷ marks)) (take (suc place) (e ∷ entries)))
    + adds term (slice_index_or marks place false) (slice_index_or entries place other) =
    omega (arith, rest, now, more) in
    ap (λ n. count_under term (marked (take n (m ∷ marks)) (take n (e ∷ entries)))) (moved place) ∙ all
  where
    moved : (n : ℕ) → suc n + 1 ≡ suc (n + 1)
    moved n = omega arith

pub marked-some : (term place : ℕ) (marks : List Bool) (entries : List Entry) (other : Entry) → length marks ≡ length entries →
    place < length entries → slice_index_or marks place false ≡ true →
    count_under term (marked (take (place + 1) marks) (take (place + 1) entries))
    ≡ count_under term (marked (take place marks) (take place entries))
    + cond (nat_eq (slice_index_or entries place other).term term) 1 0
marked-some term place marks entries other same within is =
    marked-at term place marks entries other same within
    ∙ ap (λ b. count_under term (marked (take place marks) (take place entries)) + adds term b (slice_index_or entries place other)) is

pub marked-none : (term place : ℕ) (marks : List Bool) (entries : List Entry) → length marks ≡ length entries →
    place < length entries → slice_index_or marks place false ≡ false →
    count_under term (marked (take (place + 1) marks) (take (place + 1) entries))
    ≡ count_under term (marked (take place marks) (take place entries))
marked-none term place marks [] same within is = absurd (omega arith)
marked-none term place marks (e ∷ entries) same within is =
    let at = marked-at term place marks (e ∷ entries) e same within in
    at ∙ ap (λ b. count_under term (marked (take place marks) (take place (e ∷ entries)))
    + adds term b (slice_index_or (e ∷ entries) place e)) is ∙ omega arith
