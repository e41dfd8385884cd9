-- Nothing recovered is invented: runs of places that were made one way.
use Rattle.std.proofs.Common.{◌≡◌, ℕ, ◌+◌, ◌-◌, ◌<◌, ◌≤◌, ◌^◌, Bool, true, false, cond, ◌||◌, List, [], ◌∷◌, Option, Some, None, zero}
use Rattle.std.proofs.Common.{suc, unwrap_or, refl, sym, ap, ◌∙◌, subst, arith, ⊎_elim, ◌⊎◌, inl, inr}
use Rattle.std.specs.Prelude.{is_some}
use Rattle.std.specs.Option.{option_map}
use Rattle.std.specs.Ordering.{is_eq, eq_by_cmp}
use Rattle.std.specs.Set.{is_member}
use Rattle.std.specs.Map.{lookup}
use Rattle.std.specs.BTreeMap.{BTreeMap, get, is_at}
use Rattle.std.proofs.lemmas.Bool.{cond-true, cond-false}
use Rattle.std.proofs.lemmas.Bool.Decides.{nat_tests}
use Rattle.rc_model.specs.Model.{ServerId, Entry, Message, Invented, made, Accepted, is_one_entry, first_invented_from}
use Rattle.rc_audit.specs.declared.places.PlaceKey.{PlaceKey}
use Rattle.rc_audit.specs.declared.places.Seen.{Seen}
use Rattle.rc_audit.specs.declared.runs.SegmentKey.{SegmentKey}
use Rattle.rc_audit.specs.Places.{place_order, summary_in, summary_of, Indexes}
use Rattle.rc_audit.specs.Runs.{segment_order, run_at, IsRun}
use Rattle.rc_audit.proofs.PlaceLemmas.{id_from}

-- past so many places that were made one way
first_invented_from-past : (sent : List Message) (plan : Accepted) (s o k n : ℕ) →
    ((j : ℕ) → j < k → is_one_entry (made sent plan.master s (o + j)) ≡ true) →
    first_invented_from sent plan s o (k + n) ≡ first_invented_from sent plan s (o + k) n
first_invented_from-past sent plan s o zero n all =
    let left : 0 + n ≡ n = omega arith in let right : o ≡ o + 0 = omega arith in
    ap (λ x. first_invented_from sent plan s o x) left ∙ ap (λ x. first_invented_from sent plan s x n) right
first_invented_from-past sent plan s o (suc k) n all =
    let left : suc k + n ≡ suc (k + n) =
    omega arith in let right : (o + 1) + k ≡ o + suc k = omega arith in let here : o + 0 ≡ o = omega arith in
    ap (λ x. first_invented_from sent plan s o x) left
    ∙ cond-true (is_one_entry (made sent plan.master s o)) (first_invented_from sent plan s (o + 1) (k + n))
    (Some (Invented plan.attempt plan.master s o))
    (ap (λ x. is_one_entry (made sent plan.master s x)) (sym here) ∙ all 0 (omega arith))
    ∙ first_invented_from-past sent plan s (o + 1) k n (λ j h. let next : (o + 1) + j ≡ o + suc j = omega arith in
    ap (λ x. is_one_entry (made sent plan.master s x)) next ∙ all (suc j) (omega arith))
    ∙ ap (λ x. first_invented_from sent plan s x n) right

-- where the run covers what is reached, no place is invented
pub invented-none : (sent : List Message) (plan : Accepted) (s run reach : ℕ) → IsRun sent plan.master s run →
    reach ≤ run → first_invented_from sent plan s 0 reach ≡ None
invented-none sent plan s run reach is within =
    let all : reach ≡ reach + 0 = omega arith in
    ap (λ n. first_invented_from sent plan s 0 n) all
    ∙ first_invented_from-past sent plan s 0 reach 0 (λ j h. let here : 0 + j ≡ j = omega arith in
    ap (λ x. is_one_entry (made sent plan.master s x)) here ∙ is.each j (omega arith))

-- and where it does not, the place after it is the first that is
pub invented-next : (sent : List Message) (plan : Accepted) (s run reach : ℕ) → IsRun sent plan.master s run →
    run < reach → reach < 2 ^ 64 →
    first_invented_from sent plan s 0 reach ≡ Some (Invented plan.attempt plan.master s run)
invented-next sent plan s run reach is beyond fits =
    let all : reach ≡ run + suc (reach - (run + 1)) = omega arith in let at : 0 + run ≡ run = omega arith in
    ap (λ n. first_invented_from sent plan s 0 n) all
    ∙ first_invented_from-past sent plan s 0 run (suc (reach - (run + 1))) (λ j h. let here : 0 + j ≡ j = omega arith in
    ap (λ x. is_one_entry (made sent plan.master s x)) here ∙ is.each j h)
    ∙ ap (λ o. first_invented_from sent plan s o (suc (reach - (run + 1)))) at
    ∙ cond-false (is_one_entry (made sent plan.master s run))
    (first_invented_from sent plan s (run + 1) (reach - (run + 1))) (Some (Invented plan.attempt plan.master s run))
    (is.end (omega arith))

-- the first place of a segment
abbrev pub first_place : ServerId → ℕ → PlaceKey
first_place m s = record { master = m; seg = s; offset = 0 }

-- whether it is among these
abbrev pub comes : ServerId → ℕ → List PlaceKey → Bool
comes m s places = is_member (eq_by_cmp place_order) places (first_place m s)

-- the table has the run of each segment, but where its first place is still to come
abbrev pub RunsSoFar : BTreeMap SegmentKey ℕ → List Message → List PlaceKey → Type 0
RunsSoFar runs sent places = (m : ServerId) (s : ℕ) → IsRun sent m s (run_at runs m s) ⊎ (comes m s places ≡ true)

seen_there : (found : Option Seen) (entries : List Entry) → option_map summary_in found ≡ summary_of entries →
    is_one_entry entries ≡ true → is_some found ≡ true
seen_there (Some seen) entries is one = refl
seen_there None [] is one = cc
seen_there None (entry ∷ entries) is one = cc

-- before the first place, none is in an empty table
pub runs_begin : (runs : BTreeMap SegmentKey ℕ) (index : BTreeMap PlaceKey Seen) (sent : List Message) (places : List PlaceKey) →
    runs.entries ≡ [] → Indexes index sent →
    ((q : PlaceKey) → is_some (get place_order index q) ≡ is_member (eq_by_cmp place_order) places q) →
    RunsSoFar runs sent places
runs_begin runs index sent places empty indexed has m s = by (is_one_entry (made sent m s 0)) refl
  where
    nothing : run_at runs m s ≡ 0
    nothing = ap (λ entries. unwrap_or (lookup (is_at (segment_order (record { master = m; seg = s }))) entries) 0) empty

    by : (one : Bool) → is_one_entry (made sent m s 0) ≡ one → IsRun sent m s (run_at runs m s) ⊎ (comes m s places ≡ true)
    by true one = inr (sym (has (first_place m s)) ∙ seen_there (get place_order index (first_place m s))
        (made sent m s 0) (indexed.each (first_place m s) (omega arith)) one)
    by false one = inl (subst (λ n. IsRun sent m s n) (sym nothing) (record { each = λ o h. absurd (omega (arith, h)); end = λ _. one }))

past : {a b : Bool} → a ≡ false → (a || b) ≡ true → b ≡ true
past none either = cc

-- a first place, with its segment's run
pub runs_more : (old new : BTreeMap SegmentKey ℕ) (sent : List Message) (place : PlaceKey) (places : List PlaceKey) (run : ℕ) →
    RunsSoFar old sent (place ∷ places) → IsRun sent place.master place.seg run →
    ((q : SegmentKey) → get segment_order new q ≡ cond
    (is_at (segment_order (record { master = place.master; seg = place.seg })) q) (Some run)
    (get segment_order old q)) →
    RunsSoFar new sent places
runs_more old new sent place places run before here updates m s =
    by (is_at (segment_order key) (record { master = m; seg = s })) refl (before m s)
  where
    key : SegmentKey
    key = record { master = place.master; seg = place.seg }

    same_master : (m : ServerId) (s : ℕ) → is_at (segment_order key) (record { master = m; seg = s }) ≡ true → place.master ≡ m
    same_master m s e =
        let index : place.master.index ≡ m.index = grind (arith, nat_tests) in
        let generation : place.master.generation ≡ m.generation = grind (arith, nat_tests) in id_from index generation

    same_seg : (m : ServerId) (s : ℕ) → is_at (segment_order key) (record { master = m; seg = s }) ≡ true → place.seg ≡ s
    same_seg m s e = grind (arith, nat_tests)

    other : (m : ServerId) (s : ℕ) → is_at (segment_order key) (record { master = m; seg = s }) ≡ false →
        is_eq (place_order (first_place m s) place) ≡ false
    other m s e = grind (arith, nat_tests)

    now : (same : Bool) → is_at (segment_order key) (record { master = m; seg = s }) ≡ same →
        run_at new m s ≡ unwrap_or (cond same (Some run) (get segment_order old (record { master = m; seg = s }))) 0
    now same is = ap (λ found. unwrap_or found 0) (updates (record { master = m; seg = s }) ∙
        ap (λ b. cond b (Some run) (get segment_order old (record { master = m; seg = s }))) is)

    by : (same : Bool) → is_at (segment_order key) (record { master = m; seg = s }) ≡ same →
        IsRun sent m s (run_at old m s) ⊎ (comes m s (place ∷ places) ≡ true) →
        IsRun sent m s (run_at new m s) ⊎ (comes m s places ≡ true)
    by true is was =
        inl (subst (λ n. IsRun sent m s n) (sym (now true is))
        (subst (λ seg. IsRun sent m seg run) (same_seg m s is)
        (subst (λ master. IsRun sent master place.seg run) (same_master m s is) here)))
    by false is was = ⊎_elim (λ kept. inl (subst (λ n. IsRun sent m s n) (sym (now false is)) kept))
        (λ first. inr (past (other m s is) first)) was
