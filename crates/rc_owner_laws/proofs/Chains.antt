-- Chains of grants, and the parts of a decision.
use Rattle.std.proofs.Common.{◌≡◌, ◌⊎◌, ℕ, suc, ◌+◌, ◌%◌, ◌<◌, ◌≤◌, Bool, true, false, cond, List, [], ◌∷◌, ◌++◌}
use Rattle.std.proofs.Common.{length, slice_get, Option, Some, None, refl, sym, ap, ◌∙◌, subst, inl, inr, arith}
use native.Mathlib.Nat.{mod-lt}
use Rattle.rc_model.specs.Model.{ServerId, Tablet, Grant, same_id, holds, tablet_of, tablets_of, GivenPart, part_of, given_to}
use Rattle.rc_model.specs.Model.{gives_parts, in_range, In}
use Rattle.rc_step_laws.proofs.Lists.{get-below}
use Rattle.rc_owner_laws.specs.Grants.{TabletsApart, grants_at, IsChain, NoneTo, OwnersDiffer, PartsApart}
use Rattle.rc_owner_laws.proofs.Tablets.{some-none}
use Rattle.rc_model.proofs.Ids.{same_id-true}
use Rattle.rc_model.proofs.Tests.{either}
use Rattle.rc_step_laws.proofs.Copies.{split}

-- Chains

pub chain-append : (start : ℕ) {last : ℕ} (grants : List Grant) (grant : Grant) → IsChain start grants last →
    grant.previous ≡ last → last < grant.term → IsChain start (grants ++ grant ∷ []) grant.term
chain-append start [] grant chain previous rises = (previous ∙ sym chain, subst (λ n. n < grant.term) (sym chain) rises, refl)
chain-append start (first ∷ grants) grant chain previous rises =
    (chain.0, chain.1, chain-append first.term grants grant chain.2 previous rises)

none_to-append : {owner : ServerId} (grants : List Grant) (grant : Grant) → NoneTo owner grants →
    (grant.owner ≡ owner → ⊥) → NoneTo owner (grants ++ grant ∷ [])
none_to-append [] grant none differs = (differs, tt)
none_to-append (first ∷ grants) grant none differs = (none.0, none_to-append grants grant none.1 differs)

pub differ-append : (grants : List Grant) (grant : Grant) → OwnersDiffer grants →
    ((other : Grant) → In other grants → other.owner ≡ grant.owner → ⊥) → OwnersDiffer (grants ++ grant ∷ [])
differ-append [] grant differ new = (tt, tt)
differ-append (first ∷ grants) grant differ new = (
  none_to-append grants grant differ.0 (λ e. new first (inl refl) (sym e)),
  differ-append grants grant differ.1 (λ other at. new other (inr at)),
)

-- the grants of a point with one more
pub grants_at-within : (grants : List Grant) (grant : Grant) (table key : ℕ) → in_range grant.range table key ≡ true →
    grants_at (grants ++ grant ∷ []) table key ≡ grants_at grants table key ++ grant ∷ []
grants_at-within [] grant table key e = ap (λ b. cond b (grant ∷ []) []) e
grants_at-within (first ∷ grants) grant table key e =
    by (in_range first.range table key) (grants_at-within grants grant table key e)
  where
    by : (b : Bool) → grants_at (grants ++ grant ∷ []) table key ≡ grants_at grants table key ++ grant ∷ [] →
        cond b (first ∷ grants_at (grants ++ grant ∷ []) table key) (grants_at (grants ++ grant ∷ []) table key) ≡ cond
        b (first ∷ grants_at grants table key) (grants_at grants table key) ++ grant ∷ []
    by true rec = ap (λ (rest : List Grant). first ∷ rest) rec
    by false rec = rec

pub grants_at-beside : (grants : List Grant) (grant : Grant) (table key : ℕ) → in_range grant.range table key ≡ false →
    grants_at (grants ++ grant ∷ []) table key ≡ grants_at grants table key
grants_at-beside [] grant table key e = ap (λ b. cond b (grant ∷ []) []) e
grants_at-beside (first ∷ grants) grant table key e =
    ap (λ (rest : List Grant). cond (in_range first.range table key) (first ∷ rest) rest) (grants_at-beside grants grant table key e)

-- Tablets of one owner

-- a tablet that is there, at a point that it holds, is found there
pub found-at : (tablets : List Tablet) (tablet : Tablet) (table key : ℕ) → TabletsApart tablets → In tablet tablets →
    holds tablet table key ≡ true → tablet_of tablets table key ≡ Some tablet
found-at [] tablet table key apart at e = absurd at
found-at (first ∷ tablets) tablet table key apart (inl same) e = search arith
found-at (first ∷ tablets) tablet table key apart (inr rest) e = by (found-at tablets tablet table key apart.1 rest e)
  where
    by : tablet_of tablets table key ≡ Some tablet → tablet_of (first ∷ tablets) table key ≡ Some tablet
    by found = split (holds first table key) (λ here. some-none (sym found ∙ apart.0 table key here))
        (λ lacks. ap (λ b. cond b (Some first) (tablet_of tablets table key)) lacks ∙ found)

-- the tablets of an owner are among all, and are its
pub of_owner : (owner : ServerId) (tablets : List Tablet) (tablet : Tablet) → In tablet (tablets_of owner tablets) →
    In tablet tablets × (tablet.owner ≡ owner)
of_owner owner [] tablet at = absurd at
of_owner owner (first ∷ tablets) tablet at = by (same_id owner first.owner) refl (of_owner owner tablets tablet) at
  where
    further : In tablet tablets × (tablet.owner ≡ owner) → ((tablet ≡ first) ⊎ In tablet tablets) × (tablet.owner ≡ owner)
    further p = (inr p.0, p.1)

    by : (b : Bool) → same_id owner first.owner ≡ b → (In tablet (tablets_of owner tablets) → In tablet tablets × (tablet.owner ≡ owner)) →
        In tablet (cond b (first ∷ tablets_of owner tablets) (tablets_of owner tablets)) →
        ((tablet ≡ first) ⊎ In tablet tablets) × (tablet.owner ≡ owner)
    by true e rec (inl same) = (inl same, ap (λ (one : Tablet). one.owner) same ∙ sym (same_id-true e))
    by true e rec (inr rest) = further (rec rest)
    by false e rec rest = further (rec rest)

none-of_owner : (owner : ServerId) (tablets : List Tablet) (table key : ℕ) → tablet_of tablets table key ≡ None →
    tablet_of (tablets_of owner tablets) table key ≡ None
none-of_owner owner [] table key e = refl
none-of_owner owner (first ∷ tablets) table key e = split (holds first table key)
    (λ here. some-none (sym (ap (λ b. cond b (Some first) (tablet_of tablets table key)) here) ∙ e))
    (λ lacks. either (λ (kept : List Tablet). tablet_of kept table key ≡ None) (same_id owner first.owner)
    (first ∷ tablets_of owner tablets) (tablets_of owner tablets)
    (λ _. ap (λ b. cond b (Some first) (tablet_of (tablets_of owner tablets) table key)) lacks
    ∙ none-of_owner owner tablets table key (sym (ap (λ b. cond b (Some first) (tablet_of tablets table key)) lacks) ∙ e))
    (λ _. none-of_owner owner tablets table key (sym (ap (λ b. cond b (Some first) (tablet_of tablets table key)) lacks) ∙ e)))

pub apart-of_owner : (owner : ServerId) (tablets : List Tablet) → TabletsApart tablets → TabletsApart (tablets_of owner tablets)
apart-of_owner owner [] apart = tt
apart-of_owner owner (first ∷ tablets) apart =
    either (λ (kept : List Tablet). TabletsApart kept) (same_id owner first.owner) (first ∷ tablets_of owner tablets)
    (tablets_of owner tablets)
    (λ _. (λ table key e. none-of_owner owner tablets table key (apart.0 table key e), apart-of_owner owner tablets apart.1))
    (λ _. apart-of_owner owner tablets apart.1)

-- Parts

-- a part is of one of the tablets, under one of the next terms
pub record IsPartOf (tablets : List Tablet) (term : ℕ) (given : GivenPart) : Type 0 where
  pub tablet : Tablet
  pub among : In tablet tablets
  pub under : ℕ
  pub part_is : given.part ≡ part_of tablet under
  pub above : term ≤ under
  pub below : under < term + length tablets

pub part-of : (ids : List ServerId) (place term : ℕ) (tablets : List Tablet) (given : GivenPart) →
    In given (gives_parts ids place term tablets) → IsPartOf tablets term given
part-of ids place term [] given at = absurd at
part-of ids place term (tablet ∷ tablets) given at =
    by (slice_get ids (place % length ids)) (part-of ids (place + 1) (term + 1) tablets given) at
  where
    later : IsPartOf tablets (term + 1) given → IsPartOf (tablet ∷ tablets) term given
    later p = search arith

    by : (to : Option ServerId) → (In given (gives_parts ids (place + 1) (term + 1) tablets) → IsPartOf tablets (term + 1) given) →
        In given (given_to to (part_of tablet term) (gives_parts ids (place + 1) (term + 1) tablets)) →
        IsPartOf (tablet ∷ tablets) term given
    by None rec at = later (rec at)
    by (Some id) rec (inl e) = record {
      tablet = tablet;
      among = inl refl;
      under = term;
      part_is = ap (λ (one : GivenPart). one.part) e;
      above = omega arith;
      below = omega arith;
    }
    by (Some id) rec (inr rest) = later (rec rest)

-- each tablet is given to someone
pub length-gives : (id : ServerId) (ids : List ServerId) (place term : ℕ) (tablets : List Tablet) →
    length (gives_parts (id ∷ ids) place term tablets) ≡ length tablets
length-gives id ids place term [] = refl
length-gives id ids place term (tablet ∷ tablets) =
    let to : (x : ServerId) × (slice_get (id ∷ ids) (place % length (id ∷ ids)) ≡ Some x) =
    get-below (id ∷ ids) (place % length (id ∷ ids)) (mod-lt place (omega arith)) in
    ap (λ (found : Option ServerId).
    length (given_to found (part_of tablet term) (gives_parts (id ∷ ids) (place + 1) (term + 1) tablets))) to.1
    ∙ ap suc (length-gives id ids (place + 1) (term + 1) tablets)

-- and no two parts hold one point
pub parts-apart : (ids : List ServerId) (place term : ℕ) (tablets : List Tablet) → TabletsApart tablets →
    PartsApart (gives_parts ids place term tablets)
parts-apart ids place term [] apart = tt
parts-apart ids place term (tablet ∷ tablets) apart =
    by (slice_get ids (place % length ids)) (parts-apart ids (place + 1) (term + 1) tablets apart.1)
  where
    differ : (other : GivenPart) (table key : ℕ) → In other (gives_parts ids (place + 1) (term + 1) tablets) →
        holds tablet table key ≡ true → in_range other.part.range table key ≡ true → ⊥
    differ other table key at here there = search (arith, part-of, some-none, found-at)

    by : (to : Option ServerId) → PartsApart (gives_parts ids (place + 1) (term + 1) tablets) →
        PartsApart (given_to to (part_of tablet term) (gives_parts ids (place + 1) (term + 1) tablets))
    by None rec = rec
    by (Some id) rec = (λ other table key at here there. differ other table key at here there, rec)

-- two parts that hold one point are one
pub part-once : (parts : List GivenPart) (one other : GivenPart) (table key : ℕ) → PartsApart parts → In one parts → In other parts →
    in_range one.part.range table key ≡ true → in_range other.part.range table key ≡ true → one ≡ other
part-once [] one other table key apart at there p q = absurd at
part-once (first ∷ parts) one other table key apart (inl a) (inl b) p q = a ∙ sym b
part-once (first ∷ parts) one other table key apart (inl a) (inr rest) p q =
    absurd (apart.0 other table key rest (subst (λ (given : GivenPart). in_range given.part.range table key ≡ true) a p) q)
part-once (first ∷ parts) one other table key apart (inr rest) (inl b) p q =
    absurd (apart.0 one table key rest (subst (λ (given : GivenPart). in_range given.part.range table key ≡ true) b q) p)
part-once (first ∷ parts) one other table key apart (inr here) (inr there) p q = part-once parts one other table key apart.1 here there p q
