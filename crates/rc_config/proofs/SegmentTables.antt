-- Segments in a list, as the definitions see them.
use Rattle.std.proofs.Common.{◌≡◌, ◌≢◌, ⊎_elim, ℕ, ◌+◌, ◌-◌, ◌<◌, ◌≤◌, zero, suc, false, eqb, List, []}
use Rattle.std.proofs.Common.{◌∷◌, ◌++◌, length, get_or, set, refl, sym, ◌∙◌, subst, arith}
use Rattle.std.proofs.Math.Path.{fun_ext}
use Rattle.std.proofs.lemmas.Bool.{cases_eq, cases_lt, eq-eqb, ne_eqb, eqb-true, cond_both}
use Rattle.std.proofs.lemmas.List.{get_or-set_same, get_or-set_other, get_or_push, get_or_append_left, get_or_past}
use Rattle.std.proofs.lemmas.List.{get_or_default, length_push}
use Rattle.rc_model.specs.Model.{put, Segment, no_segment}
use Rattle.rc_config.specs.Lists.{segment_at}

-- Tables

pub put-at : (table : ℕ → Segment) (k : ℕ) (x : Segment) → put table k x k ≡ x
put-at table k x = rw (eq-eqb k k refl) refl

pub put-other : (table : ℕ → Segment) (k : ℕ) (x : Segment) (o : ℕ) → (k ≡ o → ⊥) → put table k x o ≡ table o
put-other table k x o apart = rw (ne_eqb k o apart) refl

-- what holds of the new value and of all old ones holds of all
pub put_each : (P : ℕ → Segment → Type 0) (table : ℕ → Segment) (k : ℕ) (x : Segment) → P k x →
    ((o : ℕ) → P o (table o)) → (o : ℕ) → P o (put table k x o)
put_each P table k x here others o =
    cond_both (eqb k o) x (table o) (P o) (λ e. subst (λ (j : ℕ). P j x) (eqb-true k o e) here) (λ e. others o)

-- Lists as tables

-- the segment at a place of the list
pub segment_at-place : (segments : List Segment) (seg place : ℕ) → seg ≡ place + 1 →
    segment_at segments seg ≡ get_or segments place (no_segment seg)
unfolding segment_at
segment_at-place segments zero place e = absurd (omega arith)
segment_at-place segments (suc s) place e = let same : s ≡ place = omega arith in rw same refl

pub segment_at-within : (segments : List Segment) (seg place : ℕ) (d : Segment) → seg ≡ place + 1 →
    place < length segments → segment_at segments seg ≡ get_or segments place d
segment_at-within segments seg place d e inside =
    segment_at-place segments seg place e ∙ get_or_default segments place (no_segment seg) d inside

pub segment_at-zero : (segments : List Segment) → segment_at segments 0 ≡ no_segment 0
unfolding segment_at
segment_at-zero segments = refl

-- nor behind the last one
pub segment_at-past : (segments : List Segment) (seg : ℕ) → length segments < seg → segment_at segments seg ≡ no_segment seg
segment_at-past segments seg past =
    segment_at-place segments seg (seg - 1) (omega arith) ∙ get_or_past segments (seg - 1) (no_segment seg) (omega arith)

-- no segment stands in the empty list
segment_at-nil_at : (seg : ℕ) → segment_at [] seg ≡ no_segment seg
unfolding segment_at
segment_at-nil_at zero = refl
segment_at-nil_at (suc place) = refl

pub segment_at-nil : segment_at [] ≡ no_segment
segment_at-nil = fun_ext segment_at-nil_at

-- a segment that is written takes its own place, and no other

segment_at-set_at : (segments : List Segment) (place : ℕ) (x : Segment) (seg : ℕ) → seg ≡ place + 1 → place < length segments → (o : ℕ) →
    segment_at (set segments place x) o ≡ put (segment_at segments) seg x o
unfolding segment_at
segment_at-set_at segments place x seg e inside zero =
    let apart : eqb seg zero ≡ false = ne_eqb seg zero (λ (same : seg ≡ zero). omega arith) in rw apart refl
segment_at-set_at segments place x seg e inside (suc o) =
    ⊎_elim {C = segment_at (set segments place x) (suc o) ≡ put (segment_at segments) seg x (suc o)}
    (λ (same : seg ≡ suc o).
    let here : o ≡ place = omega arith in
    rw (eq-eqb seg (suc o) same, here) (get_or-set_same segments place x (no_segment (suc place)) inside))
    (λ (apart : seg ≡ suc o → ⊥).
    let other : o ≢ place = λ (same : o ≡ place). apart (omega arith) in
    rw (ne_eqb seg (suc o) apart) (get_or-set_other segments place o x (no_segment (suc o)) other))
    (cases_eq seg (suc o))

pub segment_at-set : (segments : List Segment) (place : ℕ) (x : Segment) (seg : ℕ) → seg ≡ place + 1 → place < length segments →
    segment_at (set segments place x) ≡ put (segment_at segments) seg x
segment_at-set segments place x seg e inside = fun_ext (segment_at-set_at segments place x seg e inside)

-- a segment at the end

get_or-push_other : (segments : List Segment) (x : Segment) (o : ℕ) (d : Segment) → (length segments ≡ o → ⊥) →
    get_or (segments ++ x ∷ []) o d ≡ get_or segments o d
get_or-push_other segments x o d apart = ⊎_elim {C = get_or (segments ++ x ∷ []) o d ≡ get_or segments o d}
    (λ (inside : o < length segments). get_or_append_left segments (x ∷ []) d o inside)
    (λ (past : length segments ≤ o).
    let further : length segments + 1 ≤ o = omega (arith, apart) in
    get_or_past (segments ++ x ∷ []) o d (omega (arith, length_push segments x, further)) ∙ sym (get_or_past segments o d past))
    (cases_lt o (length segments))

segment_at-push_at : (segments : List Segment) (x : Segment) (seg : ℕ) → seg ≡ length segments + 1 → (o : ℕ) →
    segment_at (segments ++ x ∷ []) o ≡ put (segment_at segments) seg x o
unfolding segment_at
segment_at-push_at segments x seg e zero =
    let apart : eqb seg zero ≡ false = ne_eqb seg zero (λ (same : seg ≡ zero). omega arith) in rw apart refl
segment_at-push_at segments x seg e (suc o) =
    ⊎_elim {C = segment_at (segments ++ x ∷ []) (suc o) ≡ put (segment_at segments) seg x (suc o)}
    (λ (same : seg ≡ suc o). rw (eq-eqb seg (suc o) same) (get_or_push segments x (no_segment (suc o)) o (omega arith)))
    (λ (apart : seg ≡ suc o → ⊥).
    rw (ne_eqb seg (suc o) apart)
    (get_or-push_other segments x o (no_segment (suc o)) (λ (same : length segments ≡ o). apart (omega arith))))
    (cases_eq seg (suc o))

pub segment_at-push : (segments : List Segment) (x : Segment) (seg : ℕ) → seg ≡ length segments + 1 →
    segment_at (segments ++ x ∷ []) ≡ put (segment_at segments) seg x
segment_at-push segments x seg e = fun_ext (segment_at-push_at segments x seg e)

-- a segment that is read at a place of the list
pub segment_at-read : (segments : List Segment) (seg place : ℕ) (x : Segment) → seg ≡ place + 1 →
    place < length segments → x ≡ get_or segments place x →
    x ≡ segment_at segments seg
segment_at-read segments seg place x e inside read = read ∙ sym (segment_at-within segments seg place x e inside)

-- where there is no segment, the newest is none
pub head-none : (segments : List Segment) → length segments ≡ 0 → segment_at segments (length segments) ≡ no_segment 0
head-none segments none = rw none (segment_at-zero segments)
