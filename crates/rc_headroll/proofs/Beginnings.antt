-- Digests of which no segment is left out.
use Rattle.std.proofs.Common.{◌≡◌, ℕ, Bool, true, false, ◌||◌, List, [], ◌∷◌, ◌++◌, ◌+◌, length, filter, not, nat_eq}
use Rattle.std.proofs.Common.{cond, eq-eqb, eqb-true, arith, refl, sym, ap, ◌∙◌}
use Rattle.std.specs.List.{list_any}
use Rattle.std.proofs.lemmas.List.{append_assoc}
use Rattle.std.proofs.lemmas.List.Folds.{list_any-append}
use Rattle.rc_model.specs.Model.{Log, head_of, next_digest}

or-true : (b : Bool) → (b || true) ≡ true
or-true true = refl
or-true false = refl

-- a number is among those that it is the first of after some others
among : (before rest : List ℕ) (x : ℕ) → list_any (nat_eq x) (before ++ x ∷ rest) ≡ true
among before rest x =
    list_any-append (nat_eq x) before (x ∷ rest)
    ∙ ap (λ (b : Bool). list_any (nat_eq x) before || (b || list_any (nat_eq x) rest)) (eq-eqb x x refl)
    ∙ or-true (list_any (nat_eq x) before)

none-of : (before first rest : List ℕ) → filter (λ seg. not (list_any (nat_eq seg) (before ++ (first ++ rest)))) first ≡ []
none-of before [] rest = refl
none-of before (x ∷ first) rest =
    let every : List ℕ = before ++ (x ∷ (first ++ rest)) in
    let more : List ℕ = filter (λ seg. not (list_any (nat_eq seg) every)) first in
    ap (λ (b : Bool). cond (not b) (x ∷ more) more) (among before (first ++ rest) x)
    ∙ (ap (λ (all : List ℕ). filter (λ seg. not (list_any (nat_eq seg) all)) first) (sym (append_assoc before (x ∷ []) (first ++ rest)))
    ∙ none-of (before ++ (x ∷ [])) first rest)

none_is_dead : (digest : List ℕ) (head : ℕ) → filter (λ seg. nat_eq seg head || not (list_any (nat_eq seg) [])) digest ≡ digest
none_is_dead [] head = refl
none_is_dead (seg ∷ digest) head =
    ap (λ (b : Bool). cond b (seg ∷ filter (λ one. nat_eq one head || not (list_any (nat_eq one) [])) digest)
    (filter (λ one. nat_eq one head || not (list_any (nat_eq one) [])) digest)) (or-true (nat_eq seg head))
    ∙ ap (λ (rest : List ℕ). seg ∷ rest) (none_is_dead digest head)

-- where none is dead all are left
pub none_dead : (rest digest dead : List ℕ) (head : ℕ) → nat_eq (length dead) 0 ≡ true → rest ≡ digest →
    rest ≡ filter (λ seg. nat_eq seg head || not (list_any (nat_eq seg) dead)) digest
none_dead rest digest [] head none is = is ∙ sym (none_is_dead digest head)
none_dead rest digest (x ∷ dead) head none is =
    let few : length (x ∷ dead) ≡ 0 = eqb-true (length (x ∷ dead)) 0 none in
    absurd (omega (arith, few))

-- where none is dead the next digest has all that the head's has
pub none-out : (log : Log) (dead digest : List ℕ) → digest ≡ next_digest log dead → nat_eq (length dead) 0 ≡ true →
    filter (λ seg. not (list_any (nat_eq seg) digest)) (head_of log).digest ≡ []
none-out log [] digest is none =
    ap (λ (all : List ℕ). filter (λ seg. not (list_any (nat_eq seg) all)) (head_of log).digest)
    (is ∙ ap (λ (left : List ℕ). left ++ (log.head + 1) ∷ []) (none_is_dead (head_of log).digest log.head))
    ∙ none-of [] (head_of log).digest ((log.head + 1) ∷ [])
none-out log (x ∷ dead) digest is none =
    let few : length (x ∷ dead) ≡ 0 = eqb-true (length (x ∷ dead)) 0 none in
    absurd (omega (arith, few))
