-- Members on different hosts: those that are chosen, and those after lost ones were replaced.
use Rattle.std.proofs.Common.{arith}
use Rattle.std.proofs.Common.{◌≡◌, ◌⊎◌, ℕ, zero, suc, Bool, true, false, cond, not, nat_eq, nat_lt, List, [], ◌∷◌, ◌++◌}
use Rattle.std.proofs.Common.{take, drop, map, filter, Option, Some, None, refl, sym, ap, ◌∙◌, subst, inl, inr}
use Rattle.std.proofs.lemmas.Bool.{eq-eqb}
use Rattle.std.proofs.lemmas.List.{append-nil, append_assoc}
use Rattle.std.specs.List.{list_any}
use Rattle.std.specs.Option.{option_map}
use Rattle.std.specs.Prelude.{option_and_then}
use Rattle.rc_model.specs.Model.{ServerId, Member, id_before, insert_id, ids_in_order, ServerList, knows, first_rows, up_rows}
use Rattle.rc_model.specs.Model.{new_member, candidates, choose, staying, first_free, substitutes, replaced, ids_of, In}
use Rattle.rc_model.proofs.Members.{In-left, In-right, In-append, In-map, map-In, In-filter}
use Rattle.rc_step_laws.specs.Words.{NotOnHostOf, OnDifferentHosts}
use Rattle.rc_step_laws.proofs.Tests.{any-here, find-one}
use Rattle.rc_step_laws.proofs.LogMoves.{apart-not}
use Rattle.rc_model.proofs.Tests.{true_false, either}

-- An id on a host of none of these

pub not_on-each : (x : ServerId) (ids : List ServerId) → ((y : ServerId) → In y ids → x.index ≡ y.index → ⊥) → NotOnHostOf x ids
not_on-each x [] each = tt
not_on-each x (id ∷ ids) each = (each id (inl refl), not_on-each x ids (λ y at. each y (inr at)))

apart-first : (xs ys : List ServerId) → OnDifferentHosts (xs ++ ys) → OnDifferentHosts xs
apart-first [] ys p = tt
apart-first (x ∷ xs) ys p = (not_on-each x xs (λ y at. apart-not x y (xs ++ ys) (In-left y xs ys at) p.0), apart-first xs ys p.1)

apart-second : (xs ys : List ServerId) → OnDifferentHosts (xs ++ ys) → OnDifferentHosts ys
apart-second [] ys p = p
apart-second (x ∷ xs) ys p = apart-second xs ys p.1

apart-between : (xs ys : List ServerId) → OnDifferentHosts (xs ++ ys) → (x y : ServerId) → In x xs → In y ys → x.index ≡ y.index → ⊥
apart-between [] ys p x y at_x at_y same = absurd at_x
apart-between (z ∷ xs) ys p x y (inl e) at_y same =
    apart-not z y (xs ++ ys) (In-right y xs ys at_y) p.0 (sym (ap (λ (id : ServerId). id.index) e) ∙ same)
apart-between (z ∷ xs) ys p x y (inr at_x) at_y same = apart-between xs ys p.1 x y at_x at_y same

apart-join : (xs ys : List ServerId) → OnDifferentHosts xs → OnDifferentHosts ys →
    ((x y : ServerId) → In x xs → In y ys → x.index ≡ y.index → ⊥) → OnDifferentHosts (xs ++ ys)
apart-join [] ys p q between = q
apart-join (x ∷ xs) ys p q between = (
  not_on-each x (xs ++ ys) (λ y at. by y (In-append y xs ys at)),
  apart-join xs ys p.1 q (λ a b at_a at_b. between a b (inr at_a) at_b),
)
  where
    by : (y : ServerId) → In y xs ⊎ In y ys → x.index ≡ y.index → ⊥
    by y (inl at) same = apart-not x y xs at p.0 same
    by y (inr at) same = between x y (inl refl) at same

-- Chosen ones

take-drop : {X : Type 0} (n : ℕ) (xs : List X) → take n xs ++ drop n xs ≡ xs
take-drop zero xs = refl
take-drop (suc n) [] = refl
take-drop (suc n) (x ∷ xs) = ap (λ l. x ∷ l) (take-drop n xs)

apart-take : (n : ℕ) (ids : List ServerId) → OnDifferentHosts ids → OnDifferentHosts (take n ids)
apart-take n ids p = apart-first (take n ids) (drop n ids) (subst OnDifferentHosts (sym (take-drop n ids)) p)

apart-counted : (n : ℕ) (ids : List ServerId) → OnDifferentHosts ids → OnDifferentHosts (drop n ids ++ take n ids)
apart-counted n ids p =
    let whole : OnDifferentHosts (take n ids ++ drop n ids) = subst OnDifferentHosts (sym (take-drop n ids)) p in
    apart-join (drop n ids) (take n ids) (apart-second (take n ids) (drop n ids) whole) (apart-first (take n ids) (drop n ids) whole)
    (λ x y at_x at_y same. apart-between (take n ids) (drop n ids) whole y x at_y at_x (sym same))

apart-filter : (test : ServerId → Bool) (ids : List ServerId) → OnDifferentHosts ids → OnDifferentHosts (filter test ids)
apart-filter test [] p = tt
apart-filter test (id ∷ ids) p = either OnDifferentHosts (test id) (id ∷ filter test ids) (filter test ids) (λ _. (
  not_on-each id (filter test ids) (λ y at. apart-not id y ids (In-filter test y ids at).0 p.0),
  apart-filter test ids p.1,
)) (λ _. apart-filter test ids p.1)

pub insert-In : (y id : ServerId) (ids : List ServerId) → In y (insert_id id ids) → (y ≡ id) ⊎ In y ids
insert-In y id [] at = at
insert-In y id (other ∷ ids) at =
    either (λ l. In y l → (y ≡ id) ⊎ ((y ≡ other) ⊎ In y ids)) (id_before id other) (id ∷ other ∷ ids) (other ∷ insert_id id ids)
    (λ _ there. there) (λ _ there. by (insert-In y id ids) there) at
  where
    further : (y ≡ id) ⊎ In y ids → (y ≡ id) ⊎ ((y ≡ other) ⊎ In y ids)
    further (inl e) = inl e
    further (inr rest) = inr (inr rest)

    by : (In y (insert_id id ids) → (y ≡ id) ⊎ In y ids) → (y ≡ other) ⊎ In y (insert_id id ids) → (y ≡ id) ⊎ ((y ≡ other) ⊎ In y ids)
    by rec (inl e) = inr (inl e)
    by rec (inr rest) = further (rec rest)

apart-insert : (id : ServerId) (ids : List ServerId) → NotOnHostOf id ids → OnDifferentHosts ids → OnDifferentHosts (insert_id id ids)
apart-insert id [] free p = (tt, tt)
apart-insert id (other ∷ ids) free p =
    either OnDifferentHosts (id_before id other) (id ∷ other ∷ ids) (other ∷ insert_id id ids)
    (λ _. (free, p)) (λ _. (not_on-each other (insert_id id ids) (λ y at. by y (insert-In y id ids at)), apart-insert id ids free.1 p.1))
  where
    by : (y : ServerId) → (y ≡ id) ⊎ In y ids → other.index ≡ y.index → ⊥
    by y (inl e) same = free.0 (sym (same ∙ ap (λ (x : ServerId). x.index) e))
    by y (inr at) same = apart-not other y ids at p.0 same

pub order-In : (y : ServerId) (ids : List ServerId) → In y (ids_in_order ids) → In y ids
order-In y [] at = at
order-In y (id ∷ ids) at = by (order-In y ids) (insert-In y id (ids_in_order ids) at)
  where
    by : (In y (ids_in_order ids) → In y ids) → (y ≡ id) ⊎ In y (ids_in_order ids) → (y ≡ id) ⊎ In y ids
    by rec (inl e) = inl e
    by rec (inr rest) = inr (rec rest)

apart-order : (ids : List ServerId) → OnDifferentHosts ids → OnDifferentHosts (ids_in_order ids)
apart-order [] p = tt
apart-order (id ∷ ids) p = apart-insert id (ids_in_order ids)
    (not_on-each id (ids_in_order ids) (λ y at. apart-not id y ids (order-In y ids at) p.0)) (apart-order ids p.1)

apart-candidates : (seg : ℕ) (own : ServerId) (servers : ServerList) → OnDifferentHosts (up_rows servers.rows) →
    OnDifferentHosts (candidates seg own servers)
apart-candidates seg own servers p = search (arith, apart-counted, apart-filter, apart-order)

-- those who are chosen are on different hosts
pub apart-choose : (seg : ℕ) (own : ServerId) (factor : ℕ) (servers : ServerList) {ids : List ServerId} →
    OnDifferentHosts (up_rows servers.rows) → choose seg own factor servers ≡ Some ids → OnDifferentHosts ids
apart-choose seg own factor servers {ids} p e = search (arith, nat_lt, apart-take, apart-candidates)

-- Substitutes

-- the first free candidate is on no host of these
first_free-apart : (ids taken : List ServerId) (id : ServerId) → first_free ids taken ≡ Some id → (y : ServerId) →
    In y taken → id.index ≡ y.index → ⊥
first_free-apart ids taken id e y at same =
    let found = find-one (λ (one : ServerId). not (list_any (λ (other : ServerId). nat_eq one.index other.index) taken)) ids e in
    let taken_it : list_any (λ (other : ServerId). nat_eq id.index other.index) taken ≡ true =
    any-here (λ (other : ServerId). nat_eq id.index other.index) y taken at (eq-eqb id.index y.index same) in
    true_false (sym (sym (ap not taken_it) ∙ found.1))

-- what the first substitute and the others come to
record IsThen (first : Option ServerId) (others : ServerId → Option (List ServerId)) (ids : List ServerId) : Type 0 where
  id : ServerId
  rest : List ServerId
  first_is : first ≡ Some id
  rest_is : others id ≡ Some rest
  ids_are : ids ≡ id ∷ rest

then-parts : (first : Option ServerId) {others : ServerId → Option (List ServerId)} {ids : List ServerId} →
    option_and_then (λ id. option_map (λ rest. id ∷ rest) (others id)) first ≡ Some ids → IsThen first others ids
then-parts None e = cc
then-parts (Some id) {others} {ids} e = search arith

-- what each list of substitutes satisfies, by the members: none, a lost one first, or a staying one first
substitutes-each : (P : List ServerId → List Member → List ServerId → Type 0) (ids : List ServerId)
    → ((taken : List ServerId) → P taken [] [])
    → ((taken : List ServerId) (member : Member) (members : List Member) (id : ServerId) (rest : List ServerId) →
    member.lost ≡ true → first_free ids taken ≡ Some id → substitutes ids (id ∷ taken) members ≡ Some rest
    → P (id ∷ taken) members rest → P taken (member ∷ members) (id ∷ rest))
    → ((taken : List ServerId) (member : Member) (members : List Member) (found : List ServerId) → member.lost ≡ false →
    substitutes ids taken members ≡ Some found → P taken members found → P taken (member ∷ members) found)
    → (taken : List ServerId) (members : List Member) {found : List ServerId} →
    substitutes ids taken members ≡ Some found → P taken members found
substitutes-each P ids none lost stays taken [] {found} e = let same : [] ≡ found = cc in subst (λ l. P taken [] l) same (none taken)
substitutes-each P ids none lost stays taken (member ∷ members) {found} e =
    by member.lost refl e (λ other more at. substitutes-each P ids none lost stays other members at)
  where
    by : (b : Bool) → member.lost ≡ b →
        cond b (option_and_then (λ id. option_map (λ rest. id ∷ rest) (substitutes ids (id ∷ taken) members)) (first_free ids taken))
        (substitutes ids taken members) ≡ Some found
        → ((other more : List ServerId) → substitutes ids other members ≡ Some more → P other members more) →
        P taken (member ∷ members) found
    by true is e rec = search (arith, then-parts)
    by false is e rec = stays taken member members found is e (rec taken found e)

-- a substitute is on no host of those that were taken
abbrev FreeOf : List ServerId → List Member → List ServerId → Type 0
FreeOf taken members found = (x y : ServerId) → In x found → In y taken → x.index ≡ y.index → ⊥

substitutes-free : (ids taken : List ServerId) (members : List Member) {found : List ServerId} →
    substitutes ids taken members ≡ Some found → FreeOf taken members found
substitutes-free ids taken members e = substitutes-each FreeOf ids (λ other x y at_x at_y same. absurd at_x)
    (λ other member more id rest lost first_is rest_is rec x y at_x at_y same. by other id rest first_is rec x y at_x at_y same)
    (λ other member more some stays is rec x y at_x at_y same. rec x y at_x at_y same) taken members e
  where
    by : (other : List ServerId) (id : ServerId) (rest : List ServerId) → first_free ids other ≡ Some id →
        ((x y : ServerId) → In x rest → (y ≡ id) ⊎ In y other → x.index ≡ y.index → ⊥)
        → (x y : ServerId) → (x ≡ id) ⊎ In x rest → In y other → x.index ≡ y.index → ⊥
    by other id rest first_is rec x y (inl e) at_y same =
        first_free-apart ids other id first_is y at_y (sym (ap (λ (z : ServerId). z.index) e) ∙ same)
    by other id rest first_is rec x y (inr at) at_y same = rec x y at (inr at_y) same

-- the ids after lost members are replaced: a substitute's, or one that stays

replaced-none : (members : List Member) → replaced members [] ≡ members
replaced-none [] = refl
replaced-none (member ∷ members) = refl

staying-lost : (member : Member) (members : List Member) → member.lost ≡ true → staying (member ∷ members) ≡ staying members
staying-lost member members e = search arith

staying-stays : (member : Member) (members : List Member) → member.lost ≡ false → staying (member ∷ members) ≡ member.id ∷ staying members
staying-stays member members e = search arith

replaced-lost : (member : Member) (members : List Member) {id : ServerId} (ids : List ServerId) → member.lost ≡ true →
    replaced (member ∷ members) (id ∷ ids) ≡ new_member id ∷ replaced members ids
replaced-lost member members {id} ids e = ap (λ b. cond b (new_member id ∷ replaced members ids) (member ∷ replaced members (id ∷ ids))) e

replaced-stays : {member : Member} (members : List Member) (ids : List ServerId) → member.lost ≡ false →
    replaced (member ∷ members) ids ≡ member ∷ replaced members ids
replaced-stays {member} members [] e = ap (λ l. member ∷ l) (sym (replaced-none members))
replaced-stays {member} members (id ∷ ids) e =
    ap (λ b. cond b (new_member id ∷ replaced members ids) (member ∷ replaced members (id ∷ ids))) e

abbrev OnlyThese : List ServerId → List Member → List ServerId → Type 0
OnlyThese taken members found = (y : ServerId) → In y (ids_of (replaced members found)) → In y found ⊎ In y (staying members)

replaced-only : (ids taken : List ServerId) (members : List Member) {found : List ServerId} →
    substitutes ids taken members ≡ Some found → OnlyThese taken members found
replaced-only ids taken members e = substitutes-each OnlyThese ids (λ other y at. absurd at)
    (λ other member more id rest lost first_is rest_is rec y at. lost_first member more id rest lost rec y
    (subst (λ l. In y (ids_of l)) (replaced-lost member more rest lost) at))
    (λ other member more some stays is rec y at. stays_first member more some stays rec y
    (subst (λ l. In y (ids_of l)) (replaced-stays more some stays) at)) taken members e
  where
    lost_first : (member : Member) (more : List Member) (id : ServerId) (rest : List ServerId) → member.lost ≡ true →
        ((y : ServerId) → In y (ids_of (replaced more rest)) → In y rest ⊎ In y (staying more))
        → (y : ServerId) → (y ≡ id) ⊎ In y (ids_of (replaced more rest)) → ((y ≡ id) ⊎ In y rest) ⊎ In y (staying (member ∷ more))
    lost_first member more id rest lost rec y (inl e) = inl (inl e)
    lost_first member more id rest lost rec y (inr at) = search (arith, staying-lost)

    stays_first : (member : Member) (more : List Member) (some : List ServerId) → member.lost ≡ false →
        ((y : ServerId) → In y (ids_of (replaced more some)) → In y some ⊎ In y (staying more))
        → (y : ServerId) → (y ≡ member.id) ⊎ In y (ids_of (replaced more some)) → In y some ⊎ In y (staying (member ∷ more))
    stays_first member more some stays rec y (inl e) = inr (subst (λ l. In y l) (sym (staying-stays member more stays)) (inl e))
    stays_first member more some stays rec y (inr at) = search (arith, staying-stays)

-- those that stay are members
staying-In : (y : ServerId) (members : List Member) → In y (staying members) → In y (ids_of members)
staying-In y members at =
    let found = In-map (λ (one : Member). one.id) y (filter (λ (one : Member). not one.lost) members) at in
    subst (λ id. In id (ids_of members)) (sym found.2)
    (map-In (λ (one : Member). one.id) found.0 members (In-filter (λ (one : Member). not one.lost) found.0 members
    found.1).0)

abbrev StillApart : List ServerId → List Member → List ServerId → Type 0
StillApart taken members found = ((y : ServerId) → In y (staying members) → In y taken) →
    OnDifferentHosts (ids_of members) → OnDifferentHosts (ids_of (replaced members found))

replaced-apart : (ids taken : List ServerId) (members : List Member) {found : List ServerId} →
    substitutes ids taken members ≡ Some found → StillApart taken members found
replaced-apart ids taken members e = substitutes-each StillApart ids (λ other within p. tt)
    (λ other member more id rest lost first_is rest_is rec within p.
    let still_in : (y : ServerId) → In y (staying more) → In y other =
    λ y at. within y (subst (λ l. In y l) (sym (staying-lost member more lost)) at) in
    subst (λ l. OnDifferentHosts (ids_of l)) (sym (replaced-lost member more rest lost)) (
      not_on-each id (ids_of (replaced more rest)) (λ y at same. lost_first other more id rest first_is rest_is still_in
          y (replaced-only ids (id ∷ other) more rest_is y at) same),
      rec (λ y at. inr (still_in y at)) p.1,
    )) (λ other member more some stays is rec within p.
    let still_in : (y : ServerId) → (y ≡ member.id) ⊎ In y (staying more) → In y other =
    λ y at. within y (subst (λ l. In y l) (sym (staying-stays member more stays)) at) in
    subst (λ l. OnDifferentHosts (ids_of l)) (sym (replaced-stays more some stays)) (
      not_on-each member.id (ids_of (replaced more some)) (λ y at same. stays_first other member more some is still_in
          p.0 y (replaced-only ids other more is y at) same),
      rec (λ y at. still_in y (inr at)) p.1,
    )) taken members e
  where
    lost_first : (other : List ServerId) (more : List Member) (id : ServerId) (rest : List ServerId) →
        first_free ids other ≡ Some id → substitutes ids (id ∷ other) more ≡ Some rest
        → ((y : ServerId) → In y (staying more) → In y other) → (y : ServerId) → In y rest ⊎ In y (staying more) → id.index ≡ y.index → ⊥
    lost_first other more id rest first_is rest_is within y (inl there) same =
        substitutes-free ids (id ∷ other) more rest_is y id there (inl refl) (sym same)
    lost_first other more id rest first_is rest_is within y (inr there) same =
        first_free-apart ids other id first_is y (within y there) same

    stays_first : (other : List ServerId) (member : Member) (more : List Member) (some : List ServerId) →
        substitutes ids other more ≡ Some some
        → ((y : ServerId) → (y ≡ member.id) ⊎ In y (staying more) → In y other) → NotOnHostOf member.id (ids_of more) →
        (y : ServerId) → In y some ⊎ In y (staying more) → member.id.index ≡ y.index → ⊥
    stays_first other member more some is within free y (inl there) same =
        substitutes-free ids other more is y member.id there (within member.id (inl refl)) (sym same)
    stays_first other member more some is within free y (inr there) same =
        apart-not member.id y (ids_of more) (staying-In y more there) free same

ids-anew : (members : List Member) → ids_of (map (λ member. new_member member.id) members) ≡ ids_of members
ids-anew [] = refl
ids-anew (member ∷ members) = ap (λ ids. member.id ∷ ids) (ids-anew members)

-- the members after a change are on different hosts
pub apart-substituted : (ids : List ServerId) (members : List Member) {found : List ServerId} →
    OnDifferentHosts (ids_of members) → substitutes ids (staying members) members ≡ Some found
    → OnDifferentHosts (ids_of (map (λ member. new_member member.id) (replaced members found)))
apart-substituted ids members {found} p e =
    subst OnDifferentHosts (sym (ids-anew (replaced members found))) (replaced-apart ids (staying members) members e (λ y at. at) p)

-- Of rows with one id the first counts: those that are up stay on different hosts

up-append : (rows others : List (ServerId × Bool)) → up_rows (rows ++ others) ≡ up_rows rows ++ up_rows others
up-append [] others = refl
up-append (row ∷ rows) others = by row.1 (up-append rows others)
  where
    by : (b : Bool) → up_rows (rows ++ others) ≡ up_rows rows ++ up_rows others
        → cond b (row.0 ∷ up_rows (rows ++ others)) (up_rows (rows ++ others)) ≡ cond b (row.0 ∷ up_rows rows)
        (up_rows rows) ++ up_rows others
    by true rec = ap (λ l. row.0 ∷ l) rec
    by false rec = rec

-- one fewer
apart-without : (xs : List ServerId) (z : ServerId) (ys : List ServerId) → OnDifferentHosts (xs ++ z ∷ ys) → OnDifferentHosts (xs ++ ys)
apart-without xs z ys p =
    let second : OnDifferentHosts (z ∷ ys) = apart-second xs (z ∷ ys) p in
    apart-join xs ys (apart-first xs (z ∷ ys) p) second.1 (λ x y at_x at_y same. apart-between xs (z ∷ ys) p x y at_x (inr at_y) same)

apart-first_rows : (rows before : List (ServerId × Bool)) → OnDifferentHosts (up_rows before ++ up_rows rows) →
    OnDifferentHosts (up_rows (first_rows before rows))
apart-first_rows [] before p = subst OnDifferentHosts (append-nil (up_rows before)) p
apart-first_rows (row ∷ rows) before p =
    either (λ l. OnDifferentHosts (up_rows l)) (knows before row.0) (first_rows before rows) (first_rows (before ++ row ∷ []) rows)
    (λ _. apart-first_rows rows before (skip p)) (λ _. apart-first_rows rows (before ++ row ∷ []) (subst OnDifferentHosts (sym moves) p))
  where
    skip : OnDifferentHosts (up_rows before ++ up_rows (row ∷ rows)) → OnDifferentHosts (up_rows before ++ up_rows rows)
    skip = search (arith, apart-without)

    moves : up_rows (before ++ row ∷ []) ++ up_rows rows ≡ up_rows before ++ up_rows (row ∷ rows)
    moves = ap (λ l. l ++ up_rows rows) (up-append before (row ∷ [])) ∙ append_assoc (up_rows before) (up_rows (row ∷ [])) (up_rows rows)
        ∙ ap (λ l. up_rows before ++ l) (sym (up-append (row ∷ []) rows))

pub apart-rows : (rows : List (ServerId × Bool)) → OnDifferentHosts (up_rows rows) → OnDifferentHosts (up_rows (first_rows [] rows))
apart-rows rows p = apart-first_rows rows [] p
