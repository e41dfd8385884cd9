-- What holds of terms stays so where none is issued, where a grant is made, and where parts are given.
use Rattle.std.proofs.Common.{◌≡◌, ◌⊎◌, ℕ, ◌+◌, ◌-◌, ◌<◌, ◌≤◌, true, false, ◌%◌, List, [], ◌∷◌, ◌++◌, length}
use Rattle.std.proofs.Common.{slice_get, Option, Some, None, refl, sym, ap, ◌∙◌, subst, inl, inr, arith}
use Rattle.rc_model.specs.Model.{ServerId, Tablet, Grant, Message, tablets_of, Attempt, Decision}
use Rattle.rc_model.specs.Model.{GivenPart, part_of, given_to, gives_parts, decision_of, decides_on, in_range, In}
use Rattle.rc_types.specs.declared.rows.Plan.{Plan}
use Rattle.rc_model.specs.Coordinator.{Coordinator}
use Rattle.rc_model.proofs.Members.{In-left, In-right, In-append}
use Rattle.rc_step_laws.specs.All.{IsNumbered, AttemptLater, CoordinatorLater}
use Rattle.rc_step_laws.proofs.Lists.{get-set}
use Rattle.rc_step_laws.proofs.Copies.{More, split}
use Rattle.rc_owner_laws.specs.Grants.{owner_at, IsDecided, GoodGrants}
use Rattle.rc_owner_laws.proofs.Chains.{part-of}
use Rattle.rc_owner_laws.specs.Terms.{IsGrantedTo, IsGivenBy, GoodTerms}

-- Later

-- a decision is for good
pub decided-later : {old new : Coordinator} → CoordinatorLater old new →
    (number : ℕ) (master : ServerId) (decision : Decision) → IsDecided old.attempts number master decision →
    IsDecided new.attempts number master decision
decided-later {new} later number master decision d = by (later.attempts number d.attempt d.numbered)
  where
    by : AttemptLater new.attempts number d.attempt → IsDecided new.attempts number master decision
    by now = search arith

granted-later : {grants more : List Grant} → ((grant : Grant) → In grant grants → In grant more) →
    {owner : ServerId} {term table key : ℕ} → IsGrantedTo grants owner term table key →
    IsGrantedTo more owner term table key
granted-later all p =
    record { grant = p.grant; among = all p.grant p.among; owner_is = p.owner_is; term_is = p.term_is; holds = p.holds }

pub given-later : {sent sent_now : List Message} {old new : Coordinator} → More sent sent_now →
    ((number : ℕ) (master : ServerId) (decision : Decision) → IsDecided old.attempts number master decision →
    IsDecided new.attempts number master decision) →
    ((grant : Grant) → In grant old.grants → In grant new.grants) → {grant : Grant} → IsGivenBy sent old grant →
    IsGivenBy sent_now new grant
given-later more decided all {grant} p = search (arith, granted-later)

abbrev pub Origin : List Message → Coordinator → Grant → Type 0
Origin sent c grant = ((grant.attempt ≡ 0) × (grant.previous ≡ 0)) ⊎ IsGivenBy sent c grant

origin-later : {sent sent_now : List Message} {old new : Coordinator} → More sent sent_now →
    ((number : ℕ) (master : ServerId) (decision : Decision) → IsDecided old.attempts number master decision →
    IsDecided new.attempts number master decision) →
    ((grant : Grant) → In grant old.grants → In grant new.grants) → {grant : Grant} → Origin sent old grant → Origin sent_now new grant
origin-later more decided all (inl created) = inl created
origin-later more decided all (inr given) = inr (given-later more decided all given)

-- more was sent
pub terms-more : {sent sent_now : List Message} {c : Coordinator} → More sent sent_now → GoodTerms sent c → GoodTerms sent_now c
terms-more more good = record {
  owned = good.owned;
  issued = good.issued;
  part_issued = good.part_issued;
  part_once = good.part_once;
  grant_once = good.grant_once;
  created_apart = good.created_apart;
  origin = λ grant at. origin-later more (λ number master decision decided. decided)
      (λ one there. there) (good.origin grant at);
}

-- No term is issued

pub record SameTerms (old new : Coordinator) : Type 0 where
  pub grants : new.grants ≡ old.grants
  pub last : new.last_term ≡ old.last_term
  pub owners : (table key : ℕ) → owner_at new.tablets table key ≡ owner_at old.tablets table key
  pub back : (number : ℕ) (master : ServerId) (decision : Decision) → IsDecided new.attempts number master decision →
      IsDecided old.attempts number master decision

pub same-refl : {c : Coordinator} → SameTerms c c
same-refl = record { grants = refl; last = refl; owners = λ table key. refl; back = λ number master decision decided. decided }

pub same-trans : {a b c : Coordinator} → SameTerms a b → SameTerms b c → SameTerms a c
same-trans p q = search arith

pub kept-terms : {sent : List Message} {old new : Coordinator} → CoordinatorLater old new → SameTerms old new →
    GoodTerms sent old → GoodTerms sent new
kept-terms {old} {new} later same good = record {
  owned = λ table key owner term e. granted-later all
      (good.owned table key owner term (sym (same.owners table key) ∙ e));
  issued = λ grant at. (let p = good.issued grant (back grant at) in (p.0, subst (λ n. grant.term ≤ n) (sym same.last) p.1));
  part_issued = λ number master decision decided. good.part_issued number master decision (same.back number master decision decided);
  part_once = λ number other master crashed one two given again decided at again_decided there e.
      good.part_once number other master crashed one two given again (same.back number master one decided) at
      (same.back other crashed two again_decided) there e;
  grant_once = λ one other at there e. good.grant_once one other (back one at) (back other there) e;
  created_apart = λ grant at none number master decision decided. good.created_apart grant (back grant at) none number
      master decision (same.back number master decision decided);
  origin = λ grant at. origin-later (λ message there. there) (decided-later later) all
      (good.origin grant (back grant at));
}
  where
    all : (grant : Grant) → In grant old.grants → In grant new.grants
    all grant at = subst (In grant) (sym same.grants) at

    back : (grant : Grant) → In grant new.grants → In grant old.grants
    back grant at = subst (In grant) same.grants at

-- A grant is made

pub record IsNewTerm (sent : List Message) (c : Coordinator) (tablets : List Tablet) (grant : Grant) (last : ℕ) : Type 0 where
  pub within : (table key : ℕ) → in_range grant.range table key ≡ true → owner_at tablets table key ≡ Some (grant.owner, grant.term)
  pub beside : (table key : ℕ) → in_range grant.range table key ≡ false → owner_at tablets table key ≡ owner_at c.tablets table key
  pub above : 0 < grant.term
  pub upto : grant.term ≤ last
  pub more : c.last_term ≤ last
  -- no grant and no part of a new table's has the term
  pub fresh : (one : Grant) → In one c.grants → one.term ≡ grant.term → ⊥
  pub apart : grant.attempt ≡ 0 → (number : ℕ) (master : ServerId) (decision : Decision) → IsDecided c.attempts number master decision →
      (given : GivenPart) → In given decision.parts → given.part.term ≡ grant.term → ⊥
  pub origin : Origin sent c grant

pub granted-terms : {sent : List Message} {c : Coordinator} {tablets : List Tablet} {grant : Grant} {last : ℕ} →
    IsNewTerm sent c tablets grant last → GoodTerms sent c →
    GoodTerms sent (record c { tablets = tablets; grants = c.grants ++ grant ∷ []; last_term = last })
granted-terms {sent} {c} {tablets} {grant} {last} new good = record {
  owned = λ table key owner term e. split (in_range grant.range table key)
      (λ within. mine table key owner term within (sym (new.within table key within) ∙ e)) (λ beside. granted-later all
      (good.owned table key owner term (sym (new.beside table key beside) ∙ e)));
  issued = λ one at. issued one (In-append one c.grants (grant ∷ []) at);
  part_issued = good.part_issued;
  part_once = good.part_once;
  grant_once = λ one other at there e. once one other (In-append one c.grants (grant ∷ []) at)
      (In-append other c.grants (grant ∷ []) there) e;
  created_apart = λ one at. apart one (In-append one c.grants (grant ∷ []) at);
  origin = λ one at. origin one (In-append one c.grants (grant ∷ []) at);
}
  where
    now : Coordinator
    now = record c { tablets = tablets; grants = c.grants ++ grant ∷ []; last_term = last }

    all : (one : Grant) → In one c.grants → In one (c.grants ++ grant ∷ [])
    all one at = In-left one c.grants (grant ∷ []) at

    mine : (table key : ℕ) (owner : ServerId) (term : ℕ) → in_range grant.range table key ≡ true →
        ◌≡◌ {A = Option (ServerId × ℕ)} (Some (grant.owner, grant.term)) (Some (owner, term)) →
        IsGrantedTo (c.grants ++ grant ∷ []) owner term table key
    mine table key owner term within e =
        let pair : ◌≡◌ {A = ServerId × ℕ} (grant.owner, grant.term) (owner, term) = one_pair (grant.owner, grant.term) (owner, term) e in
        record {
          grant = grant;
          among = In-right grant c.grants (grant ∷ []) (inl refl);
          owner_is = ap (λ (p : ServerId × ℕ). p.0) pair;
          term_is = ap (λ (p : ServerId × ℕ). p.1) pair;
          holds = within;
        }
      where
        one_pair : (p q : ServerId × ℕ) → Some p ≡ Some q → p ≡ q
        one_pair p q e = cc

    issued : (one : Grant) → In one c.grants ⊎ ((one ≡ grant) ⊎ ⊥) → (0 < one.term) × (one.term ≤ last)
    issued one (inl old) = (let p = good.issued one old in (p.0, let a = p.1 in let b = new.more in omega arith))
    issued one (inr (inl same)) = subst (λ (g : Grant). (0 < g.term) × (g.term ≤ last)) (sym same) (new.above, new.upto)
    issued one (inr (inr never)) = absurd never

    once : (one other : Grant) → In one c.grants ⊎ ((one ≡ grant) ⊎ ⊥) → In other c.grants ⊎ ((other ≡ grant) ⊎ ⊥) →
        one.term ≡ other.term → one ≡ other
    once one other (inl a) (inl b) e = good.grant_once one other a b e
    once one other (inl a) (inr (inl same)) e = absurd (new.fresh one a (e ∙ ap (λ (g : Grant). g.term) same))
    once one other (inr (inl same)) (inl b) e = absurd (new.fresh other b (sym e ∙ ap (λ (g : Grant). g.term) same))
    once one other (inr (inl p)) (inr (inl q)) e = p ∙ sym q
    once one other (inr (inr never)) b e = absurd never
    once one other a (inr (inr never)) e = absurd never

    apart : (one : Grant) → In one c.grants ⊎ ((one ≡ grant) ⊎ ⊥) → one.attempt ≡ 0 →
        (number : ℕ) (master : ServerId) (decision : Decision) → IsDecided c.attempts number master decision →
        (given : GivenPart) → In given decision.parts → given.part.term ≡ one.term → ⊥
    apart one (inl old) none = good.created_apart one old none
    apart one (inr (inl same)) none = λ number master decision decided given at e.
        new.apart (ap (λ (g : Grant). g.attempt) (sym same) ∙ none) number master decision decided given at
        (e ∙ ap (λ (g : Grant). g.term) same)
    apart one (inr (inr never)) none = absurd never

    later : (one : Grant) → Origin sent c one → Origin sent now one
    later one p = origin-later (λ message there. there) (λ number master decision decided. decided) all p

    origin : (one : Grant) → In one c.grants ⊎ ((one ≡ grant) ⊎ ⊥) → Origin sent now one
    origin one (inl old) = later one (good.origin one old)
    origin one (inr (inl same)) = subst (Origin sent now) (sym same) (later grant new.origin)
    origin one (inr (inr never)) = absurd never

-- Parts are given

-- each part has a term of its own
parts-once : (ids : List ServerId) (place term : ℕ) (tablets : List Tablet) (one other : GivenPart) →
    In one (gives_parts ids place term tablets) → In other (gives_parts ids place term tablets) →
    one.part.term ≡ other.part.term → one ≡ other
parts-once ids place term [] one other at there e = absurd at
parts-once ids place term (tablet ∷ tablets) one other at there e =
    by (slice_get ids (place % length ids)) (parts-once ids (place + 1) (term + 1) tablets one other) at there
  where
    rest : List GivenPart
    rest = gives_parts ids (place + 1) (term + 1) tablets

    above : (given : GivenPart) → In given (gives_parts ids (place + 1) (term + 1) tablets) → term < given.part.term
    above given in_rest = search (arith, part-of)

    first : (given : GivenPart) (to : ServerId) → given ≡ record { to = to; part = part_of tablet term } → given.part.term ≡ term
    first given to same = ap (λ (g : GivenPart). g.part.term) same

    by : (to : Option ServerId) → (In one (gives_parts ids (place + 1) (term + 1) tablets) →
        In other (gives_parts ids (place + 1) (term + 1) tablets) → one.part.term ≡ other.part.term → one ≡ other) →
        In one (given_to to (part_of tablet term) (gives_parts ids (place + 1) (term + 1) tablets)) →
        In other (given_to to (part_of tablet term) (gives_parts ids (place + 1) (term + 1) tablets)) → one ≡ other
    by None rec a b = rec a b e
    by (Some id) rec (inl p) (inl q) = p ∙ sym q
    by (Some id) rec (inl p) (inr b) =
        (let more : term < other.part.term = above other b in let is : one.part.term ≡ term = first one id p in
        absurd (omega arith))
    by (Some id) rec (inr a) (inl q) =
        (let more : term < one.part.term = above one a in let is : other.part.term ≡ term = first other id q in
        absurd (omega arith))
    by (Some id) rec (inr a) (inr b) = rec a b e

module _ (sent : List Message) (c : Coordinator) (grants : GoodGrants c) (good : GoodTerms sent c) (number : ℕ)
    (attempt : Attempt) (plan : Plan) (id : ServerId) (ids : List ServerId)
    (numbered : IsNumbered c.attempts number attempt) where
  abbrev decided_now : Coordinator
  decided_now = (decides_on c number attempt (decision_of c number attempt.master plan (id ∷ ids)) (id ∷ ids)).0

  -- this decision
  record IsThis (other : ℕ) (master : ServerId) (decision : Decision) : Type 0 where
    number_is : other ≡ number
    master_is : master ≡ attempt.master
    decision_is : decision ≡ decision_of c number attempt.master plan (id ∷ ids)

  -- a decision that was there, or this one
  which : (other : ℕ) (master : ServerId) (decision : Decision) → IsDecided decided_now.attempts other master decision →
      IsDecided c.attempts other master decision ⊎ IsThis other master decision
  which other master decision decided = search (arith, get-set)

  -- its terms are above all earlier ones
  above : (given : GivenPart) → In given (decision_of c number attempt.master plan (id ∷ ids)).parts → c.last_term < given.part.term
  above given at = search (arith, part-of)

  in-this : (other : ℕ) (master : ServerId) (decision : Decision) (given : GivenPart) → IsThis other master decision →
      In given decision.parts → In given (decision_of c number attempt.master plan (id ∷ ids)).parts
  in-this other master decision given is at = subst (λ (one : Decision). In given one.parts) is.decision_is at

  pub decided-terms : ((other : ℕ) (master : ServerId) (decision : Decision) →
      IsDecided c.attempts other master decision → IsDecided decided_now.attempts other master decision) →
      GoodTerms sent decided_now
  decided-terms later = record {
    owned = good.owned;
    issued = λ grant at. (let p = good.issued grant at in (p.0, let a = p.1 in omega arith));
    part_issued = λ other master decision decided given at. issued other master decision given at (which other master decision decided);
    part_once = λ other again master crashed one two given other_given decided at again_decided there e.
        once other again master crashed one two given other_given at there e (which other master one decided)
        (which again crashed two again_decided);
    grant_once = good.grant_once;
    created_apart = λ grant at none other master decision decided given there e. apart grant at none other master
        decision given there e (which other master decision decided);
    origin = λ grant at. origin-later (λ message there. there) later (λ one there. there) (good.origin grant at);
  }
    where
      issued : (other : ℕ) (master : ServerId) (decision : Decision) (given : GivenPart) → In given decision.parts →
          IsDecided c.attempts other master decision ⊎ IsThis other master decision → 0 < given.part.term
      issued other master decision given at (inl old) = good.part_issued other master decision old given at
      issued other master decision given at (inr is) =
          (let more : c.last_term < given.part.term = above given (in-this other master decision given is at) in
          omega arith)

      once : (other again : ℕ) (master crashed : ServerId) (one two : Decision) (given other_given : GivenPart) →
          In given one.parts → In other_given two.parts → given.part.term ≡ other_given.part.term →
          IsDecided c.attempts other master one ⊎ IsThis other master one → IsDecided c.attempts again crashed two ⊎
          IsThis again crashed two → (other ≡ again) × (given ≡ other_given)
      once other again master crashed one two given other_given at there e (inl a) (inl b) =
          good.part_once other again master crashed one two given other_given a at b there e
      once other again master crashed one two given other_given at there e (inl a) (inr q) =
          (let less : given.part.term ≤ c.last_term = (grants.fresh other master one a given at).0 in
          let more : c.last_term < other_given.part.term =
          above other_given (in-this again crashed two other_given q there) in absurd (omega arith))
      once other again master crashed one two given other_given at there e (inr p) (inl b) =
          (let less : other_given.part.term ≤ c.last_term = (grants.fresh again crashed two b other_given there).0 in
          let more : c.last_term < given.part.term =
          above given (in-this other master one given p at) in absurd (omega arith))
      once other again master crashed one two given other_given at there e (inr p) (inr q) = (
        p.number_is ∙ sym q.number_is,
        parts-once (id ∷ ids) (number - 1) (c.last_term + 1)
            (tablets_of attempt.master c.tablets) given other_given (in-this other master one given p at)
            (in-this again crashed two other_given q there) e,
      )

      apart : (grant : Grant) → In grant c.grants → grant.attempt ≡ 0 →
          (other : ℕ) (master : ServerId) (decision : Decision) (given : GivenPart) → In given decision.parts →
          given.part.term ≡ grant.term →
          IsDecided c.attempts other master decision ⊎ IsThis other master decision → ⊥
      apart grant at none other master decision given there e (inl old) =
          good.created_apart grant at none other master decision old given there e
      apart grant at none other master decision given there e (inr is) =
          (let less : grant.term ≤ c.last_term = (good.issued grant at).1 in
          let more : c.last_term < given.part.term =
          above given (in-this other master decision given is there) in absurd (omega arith))
