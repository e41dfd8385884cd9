-- Nothing acknowledged is missing: segment by segment, and write by write.
use Rattle.std.proofs.Common.{◌≡◌, ℕ, ◌+◌, ◌<◌, ◌≤◌, Bool, true, false, cond, List, [], ◌∷◌, ◌++◌, length, map, drop}
use Rattle.std.proofs.Common.{get_or, Option, Some, None, suc, subst, max, not, ◌||◌, refl, sym, ap, ◌∙◌, arith}
use Rattle.std.specs.Prelude.{nat_eq}
use Rattle.std.specs.List.{All}
use Rattle.std.specs.Ordering.{nat_cmp}
use Rattle.std.specs.BTreeMap.{is_at}
use Rattle.std.specs.Map.{lookup}
use Rattle.std.proofs.lemmas.Bool.{cond-false, cond-true, and_parts, or_from, or_left, not_from_true, lt-ltb, eq-eqb}
use Rattle.std.proofs.lemmas.Bool.Decides.{nat_tests}
use Rattle.std.proofs.lemmas.List.{length-map}
use Rattle.rc_model.specs.Model.{Message, Body, Missing, made, Ack, ack_in, all_acknowledged, Accepted, reach, is_recovered, all_agree}
use Rattle.rc_model.specs.Model.{is_missing, is_superseded, first_missing}
use Rattle.rc_audit.specs.Standings.{acked_below, all_kept, one_above}
use Rattle.rc_audit.proofs.SupersededLemmas.{got_through}
use Rattle.rc_audit.proofs.SenderLemmas.{drop_step}

-- each entry's number is below the limit of its key
abbrev pub AllBelow : (ℕ → ℕ) → List (ℕ × ℕ) → Type 0
AllBelow limit [] = Unit {0}
AllBelow limit (e ∷ entries) = (e.1 < limit e.0) × AllBelow limit entries

pub below_from_all : (limit : ℕ → ℕ) (entries : List (ℕ × ℕ)) (s : ℕ) → AllBelow limit entries →
    one_above (lookup (is_at (nat_cmp s)) entries) ≤ limit s
below_from_all limit [] s all = omega arith
below_from_all limit (e ∷ entries) s all =
    first (is_at (nat_cmp s) e.0) (λ h. ap (λ x. limit x) (at_key s e.0 h)) (below_from_all limit entries s all.1)
  where
    at_key : (a b : ℕ) → is_at (nat_cmp a) b ≡ true → b ≡ a
    at_key a b h = grind (arith, nat_tests)

    first : (b : Bool) → (b ≡ true → limit e.0 ≡ limit s) → one_above (lookup (is_at (nat_cmp s)) entries) ≤ limit s →
        one_above (cond b (Some e.1) (lookup (is_at (nat_cmp s)) entries)) ≤ limit s
    first true same later = let is : limit e.0 ≡ limit s = same refl in let h = all.0 in omega arith
    first false same later = later

-- a look-up finds each of these entries
abbrev pub AllFound : (ℕ → Option ℕ) → List (ℕ × ℕ) → Type 0
AllFound find [] = Unit {0}
AllFound find (e ∷ entries) = (find e.0 ≡ Some e.1) × AllFound find entries

pub found_from_all : (find : ℕ → Option ℕ) (entries : List (ℕ × ℕ)) → All (λ e. find e.0 ≡ Some e.1) entries → AllFound find entries
found_from_all find [] all = tt
found_from_all find (e ∷ entries) all = (all 0 e (omega arith), found_from_all find entries (λ k d h. all (suc k) d (omega arith)))

-- an offset that is not below its limit refutes that all are
pub not_covered : (found : Option ℕ) (top limit : ℕ) → found ≡ Some top → limit ≤ top → one_above found ≤ limit → ⊥
not_covered found top limit is above below =
    let next : top + 1 ≤ limit = subst (λ o. one_above o ≤ limit) is below in
    omega (arith, next, above)

-- where each of these writes agrees with what was sent for its place, and lies below what the plan reaches, none is missing
pub none_missing : (sent : List Message) (plan : Accepted) (acks : List Ack) → all_kept sent plan.master acks ≡ true →
    ((s : ℕ) → acked_below acks s ≤ reach plan.rows s) → first_missing sent plan acks ≡ None
none_missing sent plan [] kept covered = refl
none_missing sent plan (ack ∷ acks) kept covered =
    let parts = and_parts (all_agree ack (made sent plan.master ack.seg ack.offset)) (all_kept sent plan.master acks) kept in
    cond-false (is_missing sent plan ack) (Some (Missing plan.attempt plan.master ack.seg ack.offset)) (first_missing sent plan acks)
    (or_from (not (is_recovered plan.rows ack.seg ack.offset || is_superseded sent plan ack))
    (not (all_agree ack (made sent plan.master ack.seg ack.offset)))
    (not_from_true (is_recovered plan.rows ack.seg ack.offset || is_superseded sent plan ack)
    (or_left (is_recovered plan.rows ack.seg ack.offset) (is_superseded sent plan ack)
    (lt-ltb ack.offset (reach plan.rows ack.seg) (here (nat_eq ack.seg ack.seg) (eq-eqb ack.seg ack.seg refl)
    (acked_below acks ack.seg) (covered ack.seg)))))
    (not_from_true (all_agree ack (made sent plan.master ack.seg ack.offset)) parts.0))
    ∙ none_missing sent plan acks parts.1 (λ s. later (nat_eq ack.seg s) (acked_below acks s) (reach plan.rows s) (covered s))
  where
    here : (b : Bool) → b ≡ true → (below : ℕ) → cond b (max (ack.offset + 1) below) below ≤ reach plan.rows ack.seg →
        ack.offset < reach plan.rows ack.seg
    here true e below h = omega arith
    here false e below h = cc

    later : (b : Bool) (below limit : ℕ) → cond b (max (ack.offset + 1) below) below ≤ limit → below ≤ limit
    later true below limit h = omega arith
    later false below limit h = h

-- what is acknowledged from a lent message on
pub acks_next : {X : Type 0} (lent slice : List X) (at : X → Message) (i : ℕ) (x : X) → slice ≡ lent →
    i < length slice → x ≡ get_or slice i x →
    all_acknowledged (drop i (map at lent)) ≡ ack_in (at x).body ++ all_acknowledged (drop (i + 1) (map at lent))
acks_next lent slice at i x same within is =
    let fits : i < length lent = subst (λ xs. i < length xs) same within in
    let here : x ≡ get_or lent i x = subst (λ xs. x ≡ get_or xs i x) same is in
    let long : length (map at lent) ≡ length lent = length-map lent at in
    ap all_acknowledged (drop_step (map at lent) i (at x) (omega (arith, fits, long)) (got_through at lent i x fits here))

-- the search passes a message that acknowledges nothing
pub missing_passed : (sent : List Message) (plan : Accepted) (body : Body) (whole here rest : List Ack) →
    here ≡ ack_in body ++ rest → [] ≡ ack_in body →
    first_missing sent plan whole ≡ first_missing sent plan here → first_missing sent plan whole ≡ first_missing sent plan rest
missing_passed sent plan body whole here rest next none before =
    before ∙ ap (first_missing sent plan) (next ∙ ap (λ acks. acks ++ rest) (sym none))

-- and a write that is not missing
pub missing_kept : (sent : List Message) (plan : Accepted) (body : Body) (ack : Ack) (whole here rest : List Ack) →
    here ≡ ack_in body ++ rest → ack ∷ [] ≡ ack_in body →
    is_missing sent plan ack ≡ false → first_missing sent plan whole ≡ first_missing sent plan here →
    first_missing sent plan whole ≡ first_missing sent plan rest
missing_kept sent plan body ack whole here rest next is there before =
    before ∙ ap (first_missing sent plan) (next ∙ ap (λ acks. acks ++ rest) (sym is))
    ∙ cond-false (is_missing sent plan ack) (Some (Missing plan.attempt plan.master ack.seg ack.offset))
    (first_missing sent plan rest) there

-- and ends at one that is
pub missing_found : (sent : List Message) (plan : Accepted) (body : Body) (ack : Ack) (whole here rest : List Ack) →
    here ≡ ack_in body ++ rest → ack ∷ [] ≡ ack_in body →
    is_missing sent plan ack ≡ true → first_missing sent plan whole ≡ first_missing sent plan here →
    first_missing sent plan whole ≡ Some (Missing plan.attempt plan.master ack.seg ack.offset)
missing_found sent plan body ack whole here rest next is missing before =
    before ∙ ap (first_missing sent plan) (next ∙ ap (λ acks. acks ++ rest) (sym is))
    ∙ cond-true (is_missing sent plan ack) (Some (Missing plan.attempt plan.master ack.seg ack.offset))
    (first_missing sent plan rest) missing
