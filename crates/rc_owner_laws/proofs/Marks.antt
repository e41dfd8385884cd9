-- Marked tablets stay, but for the one that is granted; and who is up stays up, but for whose tablets are marked.
use Rattle.std.proofs.Common.{◌≡◌, ◌⊎◌, ℕ, ◌≤◌, Bool, true, false, cond, ◌||◌, List, [], ◌∷◌, ◌++◌, nat_eq}
use Rattle.std.proofs.Common.{nat_lt, Option, Some, None, refl, sym, ap, ◌∙◌, subst, inl, inr, arith}
use Rattle.std.proofs.lemmas.Bool.{eqb-true}
use Rattle.std.proofs.lemmas.Bool.Decides.{nat_tests}
use Rattle.rc_model.specs.Model.{lower_half, upper_half, ServerId, Tablet, Part, KeyRange, same_id, id_before, insert_id, ids_in_order}
use Rattle.rc_model.specs.Model.{ServerList, marked_up}
use Rattle.rc_model.specs.Model.{is_up, up_rows, up, index_crashed, enlisted, id_crashed, crashed, holds, tablet_of, mark_if_owned}
use Rattle.rc_model.specs.Model.{marked_crashed, insert_tablet, split_at, is_range, has_range, assigned, up_of_host, in_range}
use Rattle.rc_model.specs.Model.{In}
use Rattle.rc_step_laws.specs.Words.{OnDifferentHosts}
use Rattle.rc_step_laws.proofs.LogMoves.{apart-same}
use Rattle.rc_owner_laws.specs.Waiting.{IsTablet}
use Rattle.rc_owner_laws.proofs.Decided.{find-none}
use Rattle.rc_model.proofs.Ids.{same_id-true}
use Rattle.rc_model.proofs.Tests.{true_false, either}
use Rattle.rc_step_laws.proofs.Hosts.{order-In}
use Rattle.rc_step_laws.proofs.Tests.{find-one}

-- what holds of each of these tablets
abbrev pub EachTablet : (Tablet → Type 0) → List Tablet → Type 0
EachTablet P tablets = (tablet : Tablet) → In tablet tablets → P tablet

-- the marked ones of these stay
abbrev pub MarkedStay : List Tablet → List Tablet → Type 0
MarkedStay old new = (tablet : Tablet) → In tablet old → tablet.crashed ≡ true → In tablet new

-- Marks

mark-same : (owner : ServerId) {tablet : Tablet} → tablet.crashed ≡ true → mark_if_owned owner tablet ≡ tablet
mark-same owner {tablet} e = search arith

pub stay-marked : (owner : ServerId) (tablets : List Tablet) → MarkedStay tablets (marked_crashed owner tablets)
stay-marked owner [] tablet at e = absurd at
stay-marked owner (first ∷ tablets) tablet (inl same) e =
    inl (same ∙ sym (mark-same owner (ap (λ (one : Tablet). one.crashed) (sym same) ∙ e)))
stay-marked owner (first ∷ tablets) tablet (inr rest) e = inr (stay-marked owner tablets tablet rest e)

pub each-marked : (P : Tablet → Type 0) (owner : ServerId) (tablets : List Tablet) →
    ((tablet : Tablet) → In tablet tablets → P (mark_if_owned owner tablet)) →
    EachTablet P (marked_crashed owner tablets)
each-marked P owner [] p tablet at = absurd at
each-marked P owner (first ∷ tablets) p tablet (inl same) = subst P (sym same) (p first (inl refl))
each-marked P owner (first ∷ tablets) p tablet (inr rest) = each-marked P owner tablets (λ one at. p one (inr at)) tablet rest

-- Splits

-- what is split: the tablet of the point, which isn't marked, and begins below the point
pub record IsSplit (tablets : List Tablet) (table at : ℕ) : Type 0 where
  pub tablet : Tablet
  pub found : tablet_of tablets table at ≡ Some tablet
  pub within : holds tablet table at ≡ true
  pub inside : nat_eq at tablet.range.lo ≡ false
  pub unmarked : tablet.crashed ≡ false

pub stay-split : (table at : ℕ) (tablets : List Tablet) (one : Tablet) → tablet_of tablets table at ≡ Some one →
    one.crashed ≡ false → MarkedStay tablets (split_at table at tablets)
stay-split table at [] one found unmarked tablet there e = absurd there
stay-split table at (first ∷ tablets) one found unmarked tablet there e =
    by (holds first table at) refl found (λ rest. stay-split table at tablets one rest unmarked tablet) there
  where
    by : (b : Bool) → holds first table at ≡ b → cond b (Some first) (tablet_of tablets table at) ≡ Some one →
        (tablet_of tablets table at ≡ Some one → In tablet tablets → tablet.crashed ≡ true →
        In tablet (split_at table at tablets)) → (tablet ≡ first) ⊎ In tablet tablets →
        In tablet (cond b (lower_half at first ∷ upper_half at first ∷ tablets) (first ∷ split_at table at tablets))
    by true is it rec (inl same) = search arith
    by true is it rec (inr rest) = inr (inr rest)
    by false is it rec (inl same) = inl same
    by false is it rec (inr rest) = inr (rec it rest e)

pub each-split : (P : Tablet → Type 0) (table at : ℕ) (tablets : List Tablet) (one : Tablet) →
    tablet_of tablets table at ≡ Some one → P (lower_half at one) → P (upper_half at one) →
    EachTablet P tablets → EachTablet P (split_at table at tablets)
each-split P table at [] one found lower upper each tablet there = absurd there
each-split P table at (first ∷ tablets) one found lower upper each tablet there =
    by (holds first table at) refl found (λ rest. each-split P table at tablets one rest lower upper
    (λ t in_rest. each t (inr in_rest)) tablet) there
  where
    by : (b : Bool) → holds first table at ≡ b → cond b (Some first) (tablet_of tablets table at) ≡ Some one →
        (tablet_of tablets table at ≡ Some one → In tablet (split_at table at tablets) → P tablet) →
        In tablet (cond b (lower_half at first ∷ upper_half at first ∷ tablets)
        (first ∷ split_at table at tablets)) → P tablet
    by true is it rec (inl same) =
        let this : first ≡ one = cc in subst P (sym same) (subst (λ (t : Tablet). P (lower_half at t)) (sym this) lower)
    by true is it rec (inr (inl same)) =
        let this : first ≡ one = cc in subst P (sym same) (subst (λ (t : Tablet). P (upper_half at t)) (sym this) upper)
    by true is it rec (inr (inr rest)) = each tablet (inr rest)
    by false is it rec (inl same) = each tablet (inl same)
    by false is it rec (inr rest) = rec it rest

-- New tables

pub stay-inserted : (new : Tablet) (tablets : List Tablet) → MarkedStay tablets (insert_tablet new tablets)
stay-inserted new [] tablet at e = absurd at
stay-inserted new (first ∷ tablets) tablet at e =
    either (In tablet) (nat_lt new.range.table first.range.table) (new ∷ first ∷ tablets) (first ∷ insert_tablet new tablets)
    (λ _. inr at) (λ _. by (λ rest. stay-inserted new tablets tablet rest e) at)
  where
    by : (In tablet tablets → In tablet (insert_tablet new tablets)) → (tablet ≡ first) ⊎ In tablet tablets →
        (tablet ≡ first) ⊎ In tablet (insert_tablet new tablets)
    by rec (inl same) = inl same
    by rec (inr rest) = inr (rec rest)

pub each-inserted : (P : Tablet → Type 0) (new : Tablet) (tablets : List Tablet) → P new → EachTablet P tablets →
    EachTablet P (insert_tablet new tablets)
each-inserted P new [] p each tablet (inl same) = subst P (sym same) p
each-inserted P new [] p each tablet (inr never) = absurd never
each-inserted P new (first ∷ tablets) p each tablet at =
    either (λ (now : List Tablet). In tablet now → P tablet) (nat_lt new.range.table first.range.table) (new ∷ first ∷ tablets)
    (first ∷ insert_tablet new tablets)
    (λ _ there. here there) (λ _ there. by there (each-inserted P new tablets p (λ one rest. each one (inr rest)) tablet)) at
  where
    here : (tablet ≡ new) ⊎ In tablet (first ∷ tablets) → P tablet
    here (inl same) = subst P (sym same) p
    here (inr rest) = each tablet rest

    by : (tablet ≡ first) ⊎ In tablet (insert_tablet new tablets) → (In tablet (insert_tablet new tablets) → P tablet) → P tablet
    by (inl same) rec = each tablet (inl same)
    by (inr rest) rec = rec rest

-- Grants

pub each-assigned : (P : Tablet → Type 0) (range : KeyRange) (id : ServerId) (term : ℕ) (tablets : List Tablet) →
    ((tablet : Tablet) → In tablet tablets → P tablet × P (record tablet { owner = id; term = term; crashed = false }))
    → EachTablet P (assigned range id term tablets)
each-assigned P range id term [] each tablet at = absurd at
each-assigned P range id term (first ∷ tablets) each tablet at =
    either (λ (now : List Tablet). In tablet now → P tablet) (is_range range first)
    (record first { owner = id; term = term; crashed = false } ∷ tablets) (first ∷ assigned range id term tablets)
    (λ _ there. here there) (λ _ there. by there (each-assigned P range id term tablets (λ one rest. each one (inr rest)) tablet)) at
  where
    here : (tablet ≡ record first { owner = id; term = term; crashed = false }) ⊎ In tablet tablets → P tablet
    here (inl same) = subst P (sym same) (each first (inl refl)).1
    here (inr rest) = (each tablet (inr rest)).0

    by : (tablet ≡ first) ⊎ In tablet (assigned range id term tablets) → (In tablet (assigned range id term tablets) → P tablet) → P tablet
    by (inl same) rec = (each tablet (inl same)).0
    by (inr rest) rec = rec rest

-- a tablet of another range stays
pub stay-assigned : (range : KeyRange) (id : ServerId) (term : ℕ) (tablets : List Tablet) (tablet : Tablet) →
    In tablet tablets → is_range range tablet ≡ false → In tablet (assigned range id term tablets)
stay-assigned range id term [] tablet at differs = absurd at
stay-assigned range id term (first ∷ tablets) tablet at differs =
    either (In tablet) (is_range range first) (record first { owner = id; term = term; crashed = false } ∷ tablets)
    (first ∷ assigned range id term tablets)
    (λ is. here is at) (λ _. by (λ rest. stay-assigned range id term tablets tablet rest differs) at)
  where
    here : is_range range first ≡ true → (tablet ≡ first) ⊎ In tablet tablets →
        In tablet (record first { owner = id; term = term; crashed = false } ∷ tablets)
    here is (inl same) = true_false (sym is ∙ (ap (is_range range) (sym same) ∙ differs))
    here is (inr rest) = inr rest

    by : (In tablet tablets → In tablet (assigned range id term tablets)) → (tablet ≡ first) ⊎ In tablet tablets →
        (tablet ≡ first) ⊎ In tablet (assigned range id term tablets)
    by rec (inl same) = inl same
    by rec (inr rest) = inr (rec rest)

-- A part's tablet

-- it has the part's range
pub its-range : {tablets : List Tablet} {owner : ServerId} {part : Part} → (is : IsTablet tablets owner part) →
    is_range part.range is.tablet ≡ true
its-range is = search (arith, nat_tests)

-- a tablet's first key is in its range
pub first-key : (range : KeyRange) (tablet : Tablet) → is_range range tablet ≡ true → tablet.range.lo ≤ tablet.range.hi →
    in_range range tablet.range.table tablet.range.lo ≡ true
first-key range tablet is upto = grind (arith, nat_tests)

in-ranged : (range : KeyRange) (tablets : List Tablet) (tablet : Tablet) → In tablet tablets →
    is_range range tablet ≡ true → has_range range tablets ≡ true
in-ranged range [] tablet at is = absurd at
in-ranged range (first ∷ tablets) tablet (inl same) is = ap (λ b. b || has_range range tablets) (ap (is_range range) (sym same) ∙ is)
in-ranged range (first ∷ tablets) tablet (inr rest) is = by (is_range range first) (in-ranged range tablets tablet rest is)
  where
    by : (b : Bool) → has_range range tablets ≡ true → (b || has_range range tablets) ≡ true
    by true rec = refl
    by false rec = rec

-- so there is a tablet of the part's range
pub ranged : {tablets : List Tablet} {owner : ServerId} {part : Part} → IsTablet tablets owner part →
    has_range part.range tablets ≡ true
ranged {tablets} {part} is = in-ranged part.range tablets is.tablet is.among (its-range is)

-- it is one of other tablets in which it stands
pub tablet-in : (tablets now : List Tablet) (owner : ServerId) (part : Part) → (is : IsTablet tablets owner part) →
    In is.tablet now → IsTablet now owner part
tablet-in tablets now owner part is at = search arith

-- Who is up

marked-other : (id m : ServerId) (rows : List (ServerId × Bool)) → same_id id m ≡ false → marked_up rows m ≡ true →
    marked_up (id_crashed id rows) m ≡ true
marked-other id m [] differs e = true_false (sym e)
marked-other id m (row ∷ rows) differs e =
    by (same_id m row.0) (same_id id row.0) (λ here. ap (same_id id) (sym (same_id-true here)) ∙ differs)
    (marked-other id m rows differs) e
  where
    by : (here struck : Bool) → (here ≡ true → struck ≡ false) →
        (marked_up rows m ≡ true → marked_up (id_crashed id rows) m ≡ true) →
        cond here row.1 (marked_up rows m) ≡ true →
        cond here (cond struck false row.1) (marked_up (id_crashed id rows) m) ≡ true
    by true true never rec e = true_false (never refl)
    by true false never rec e = e
    by false struck never rec e = rec e

-- another than who crashes stays up
pub up-crashed : (id m : ServerId) (servers : ServerList) → same_id id m ≡ false → is_up servers m ≡ true →
    is_up (crashed id servers) m ≡ true
up-crashed id m servers differs e = search (arith, marked-other)

marked-elsewhere : (index : ℕ) (m : ServerId) (rows more : List (ServerId × Bool)) → nat_eq m.index index ≡ false →
    marked_up rows m ≡ true → marked_up (index_crashed index rows ++ more) m ≡ true
marked-elsewhere index m [] more differs e = true_false (sym e)
marked-elsewhere index m (row ∷ rows) more differs e = by (same_id m row.0) (nat_eq row.0.index index)
    (λ here. ap (λ (x : ServerId). nat_eq x.index index) (sym (same_id-true here)) ∙ differs)
    (marked-elsewhere index m rows more differs) e
  where
    by : (here struck : Bool) → (here ≡ true → struck ≡ false) →
        (marked_up rows m ≡ true → marked_up (index_crashed index rows ++ more) m ≡ true) →
        cond here row.1 (marked_up rows m) ≡ true →
        cond here (cond struck false row.1) (marked_up (index_crashed index rows ++ more) m) ≡ true
    by true true never rec e = true_false (never refl)
    by true false never rec e = e
    by false struck never rec e = rec e

-- an id of another host than who enlists stays up
pub up-enlisted : (id m : ServerId) (servers : ServerList) → nat_eq m.index id.index ≡ false → is_up servers m ≡ true →
    is_up (enlisted id servers) m ≡ true
up-enlisted id m servers differs e = marked-elsewhere id.index m servers.rows ((id, true) ∷ []) differs e

In-up : (m : ServerId) (rows : List (ServerId × Bool)) → marked_up rows m ≡ true → In m (up_rows rows)
In-up m [] e = true_false (sym e)
In-up m (row ∷ rows) e = by (same_id m row.0) row.1 refl (In-up m rows) e
  where
    by : (here mark : Bool) → same_id m row.0 ≡ here → (marked_up rows m ≡ true → In m (up_rows rows)) →
        cond here mark (marked_up rows m) ≡ true → In m (cond mark (row.0 ∷ up_rows rows) (up_rows rows))
    by true true is rec e = inl (same_id-true is)
    by true false is rec e = true_false (sym e)
    by false true is rec e = inr (rec e)
    by false false is rec e = rec e

insert-in : (y id : ServerId) (ids : List ServerId) → (y ≡ id) ⊎ In y ids → In y (insert_id id ids)
insert-in y id [] at = at
insert-in y id (other ∷ ids) at =
    either (In y) (id_before id other) (id ∷ other ∷ ids) (other ∷ insert_id id ids) (λ _. at) (λ _. by (insert-in y id ids) at)
  where
    by : ((y ≡ id) ⊎ In y ids → In y (insert_id id ids)) → (y ≡ id) ⊎ ((y ≡ other) ⊎ In y ids) → (y ≡ other) ⊎ In y (insert_id id ids)
    by rec (inl same) = inr (rec (inl same))
    by rec (inr (inl same)) = inl same
    by rec (inr (inr rest)) = inr (rec (inr rest))

order-in : (y : ServerId) (ids : List ServerId) → In y ids → In y (ids_in_order ids)
order-in y [] at = at
order-in y (id ∷ ids) (inl same) = insert-in y id (ids_in_order ids) (inl same)
order-in y (id ∷ ids) (inr rest) = insert-in y id (ids_in_order ids) (inr (order-in y ids rest))

-- an id that is up is the one of its host that is found
pub up-of_host : (servers : ServerList) {m : ServerId} (index : ℕ) → OnDifferentHosts (up_rows servers.rows) →
    is_up servers m ≡ true → nat_eq m.index index ≡ true → up_of_host index servers ≡ Some m
up-of_host servers {m} index apart e same = by (up_of_host index servers) refl
  where
    there : In m (up_rows servers.rows)
    there = In-up m servers.rows e

    by : (found : Option ServerId) → up_of_host index servers ≡ found → found ≡ Some m
    by None is = absurd (find-none (λ (id : ServerId). nat_eq id.index index) (up servers) m is
        (order-in m (up_rows servers.rows) there) same)
    by (Some x) is =
        let one : In x (up servers) × (nat_eq x.index index ≡ true) =
        find-one (λ (id : ServerId). nat_eq id.index index) (up servers) is in
        ap Some (apart-same (up_rows servers.rows) apart (order-In x (up_rows servers.rows) one.0) there
        (eqb-true x.index index one.1 ∙ sym (eqb-true m.index index same)))
